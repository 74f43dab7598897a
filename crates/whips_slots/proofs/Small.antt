-- A setup's board is small: what its limits say of its views and of the places of its words.
use Rattle.std.proofs.Common.{◌≡◌, ℕ, zero, suc, ◌+◌, ◌*◌, ◌<◌, ◌≤◌, Bool, true, false, cond, List, [], ◌∷◌, length, get_or, Option, Some, None, refl, ap, subst, ◌∙◌, arith}
use Rattle.std.specs.Prelude.{◌^◌, ◌&&◌, ◌==◌, nat_le, slice_get}
use Rattle.std.specs.List.{AllByRecursion, list_all}
use Rattle.std.specs.Option.{unwrap_or}
use Rattle.std.proofs.lemmas.Bool.{and_parts, leb-true}
use Rattle.std.proofs.lemmas.List.{length-map}
use Rattle.std.proofs.Math.Nat.{mul-le-mul_right, mul-le-mul_left, suc-mul}
use Rattle.whips_model.specs.declared.Kind.TheVariants.{Number}
use Rattle.whips_lists.proofs.ByPlace.{get_there, get_within}
use Rattle.whips_view.specs.ViewDefs.{View, row_columns, kind_of, is_within, IsWellFormed}
use Rattle.whips_setup.specs.declared.error.SetupErr.{SetupErr}
use Rattle.whips_setup.specs.declared.error.SetupErr.TheVariants.{Limit}
use Rattle.whips_setup.specs.Setups.{SetupData, columns_of}
use Rattle.whips_setup.specs.Limits.{is_within_limits, are_sources_within, are_views_within, has_bases}
use Rattle.whips_setup.specs.Refusals.{slots_refusal, IsSetup}
use Rattle.whips_slot_words.specs.Words.{ViewShape, Shape, no_view, view_shape, slot_size, view_size, view_offset, word_place, IsSlotOf}
use Rattle.whips_slot_words.specs.Slots.{views_size, board_size}
use Rattle.whips_slot_words.specs.StoreLaws.{shapes_of, shape_of}
use Rattle.whips_slot_words.proofs.Board.{in_board}
use Rattle.whips_slots.specs.Boards.{BoardsAreSmall}

-- ---- the limits

limits_hold : (b : Bool) (rest : Option SetupErr) → cond b rest (Some Limit) ≡ None → b ≡ true
limits_hold true rest e = refl
limits_hold false rest e = absurd (cc)

versions_within : (n : ℕ) → is_within 2 4 n ≡ true → (2 ≤ n) × (n ≤ 4)
versions_within n e = let both = and_parts (nat_le 2 n) (nat_le n 4) e in (leb-true 2 n both.0, leb-true n 4 both.1)

pub setup_versions : (s : SetupData) → IsSetup s → (2 ≤ s.versions) × (s.versions ≤ 4)
setup_versions s h = versions_within s.versions h.versions

few_slots : (slots : List ℕ) (x n : ℕ) → list_all (is_within 1 4096) slots ≡ true → slice_get slots x ≡ Some n → n ≤ 4096
few_slots [] x n all e = absurd (cc)
few_slots (m ∷ slots) zero n all e =
    let same : m ≡ n = cc in
    let both = and_parts (is_within 1 4096 m) (list_all (is_within 1 4096) slots) all in
    subst (λ k. k ≤ 4096) same (leb-true m 4096 (and_parts (nat_le 1 m) (nat_le m 4096) both.0).1)
few_slots (m ∷ slots) (suc x) n all e = few_slots slots x n (and_parts (is_within 1 4096 m) (list_all (is_within 1 4096) slots) all).1 e

slots_within : (s : SetupData) → IsSetup s → list_all (is_within 1 4096) s.slots ≡ true
slots_within s h =
    let limits = limits_hold (is_within_limits (columns_of s) s) (slots_refusal 0 s.initial s.views s.slots) h.accepted in
    let views = (and_parts (are_sources_within s.sources s.homes (columns_of s) s.initial) (are_views_within s.homes s.initial s.views s.slots) limits).1 in
    let front = (and_parts (is_within 1 8 (length s.views) && (length s.slots == length s.views) && list_all (is_within 1 4096) s.slots) (list_all (has_bases s.homes s.initial) s.views) views).0 in
    (and_parts (is_within 1 8 (length s.views) && (length s.slots == length s.views)) (list_all (is_within 1 4096) s.slots) front).1

pub setup_slots : (s : SetupData) → IsSetup s → (x n : ℕ) → slice_get s.slots x ≡ Some n → n ≤ 4096
setup_slots s h x n e = few_slots s.slots x n (slots_within s h) e

-- the number of columns of a view
abbrev pub columns_in_row : View → ℕ
columns_in_row view = length (row_columns view).kinds

view_columns : (view : View) → IsWellFormed view → columns_in_row view ≤ 16
view_columns view h =
    let p = view.parts in
    let out = (and_parts (is_within 1 4 (length p.relations) && (length p.homes == length p.relations) && nat_le (length p.equal) 16 && nat_le (length p.conds) 16) (is_within 1 16 (length p.out)) h.within).1 in
    let most = leb-true (length p.out) 16 (and_parts (nat_le 1 (length p.out)) (nat_le (length p.out) 16) out).1 in
    let same = length-map p.out (λ at. unwrap_or (kind_of view.bases at) Number) in
    omega (arith, same, most)

all_columns : (views : List View) (x : ℕ) (view : View) → AllByRecursion IsWellFormed views → slice_get views x ≡ Some view → columns_in_row view ≤ 16
all_columns [] x view all e = absurd (cc)
all_columns (v ∷ views) zero view all e = let same : v ≡ view = cc in subst (λ w. columns_in_row w ≤ 16) same (view_columns v all.0)
all_columns (v ∷ views) (suc x) view all e = all_columns views x view all.1 e

pub setup_columns : (s : SetupData) → IsSetup s → (x : ℕ) (view : View) → slice_get s.views x ≡ Some view → columns_in_row view ≤ 16
setup_columns s h x view e = all_columns s.views x view h.well_formed e

-- ---- the shape

pub shape_there : (views : List View) (slots : List ℕ) (x n : ℕ) (view : View) → slice_get views x ≡ Some view → slice_get slots x ≡ Some n
    → slice_get (shapes_of views slots) x ≡ Some (record { width = columns_in_row view; slots = n })
shape_there [] slots x n view e f = absurd (cc)
shape_there (v ∷ views) [] x n view e f = absurd (cc)
shape_there (v ∷ views) (m ∷ slots) zero n view e f = let same : v ≡ view = cc in let also : m ≡ n = cc in rw (same, also) refl
shape_there (v ∷ views) (m ∷ slots) (suc x) n view e f = shape_there views slots x n view e f

shape_got : (vs : List ViewShape) (x : ℕ) (v : ViewShape) → slice_get vs x ≡ Some v → get_or vs x no_view ≡ v
shape_got [] x v e = absurd (cc)
shape_got (w ∷ vs) zero v e = cc
shape_got (w ∷ vs) (suc x) v e = shape_got vs x v e

pub shape_at : (s : SetupData) (x n : ℕ) (view : View) → slice_get s.views x ≡ Some view → slice_get s.slots x ≡ Some n → view_shape (shape_of s) x ≡ record { width = columns_in_row view; slots = n }
shape_at s x n view e f = shape_got (shapes_of s.views s.slots) x (record { width = columns_in_row view; slots = n }) (shape_there s.views s.slots x n view e f)

pub shape_count : (views : List View) (slots : List ℕ) → length slots ≡ length views → length (shapes_of views slots) ≡ length views
shape_count [] slots e = refl
shape_count (v ∷ views) [] e = absurd (omega (arith, e))
shape_count (v ∷ views) (n ∷ slots) e = ap suc (shape_count views slots (omega (arith, e)))

-- ---- sizes

pub product_within : (a b c d : ℕ) → a ≤ c → b ≤ d → a * b ≤ c * d
product_within a b c d le less =
    let one : a * b ≤ c * b = mul-le-mul_right b le in
    let two : c * b ≤ c * d = mul-le-mul_left c less in
    omega (arith, one, two)

pub slot_small : (n : ℕ) (v : ViewShape) → n ≤ 4 → v.width ≤ 16 → slot_size n v ≤ 68
slot_small n v few narrow = product_within n (suc v.width) 4 17 few (omega (arith, narrow))

pub view_small : (n : ℕ) (v : ViewShape) → n ≤ 4 → v.width ≤ 16 → v.slots ≤ 4096 → view_size n v ≤ 278528
view_small n v few narrow less = product_within v.slots (slot_size n v) 4096 68 less (slot_small n v few narrow)

-- the views of a shape are within the limits
abbrev pub IsSmallView : ViewShape → Type 0
IsSmallView v = (v.width ≤ 16) × (v.slots ≤ 4096)

views_small : (n : ℕ) (vs : List ViewShape) → n ≤ 4 → AllByRecursion IsSmallView vs → views_size n vs ≤ length vs * 278528
views_small n [] few all = omega arith
views_small n (v ∷ vs) few all =
    let m = views_small n vs few all.1 in
    let one = view_small n v few all.0.0 all.0.1 in
    omega (arith, m, one, suc-mul (length vs) 278528)

small_shapes : (views : List View) (slots : List ℕ) → AllByRecursion IsWellFormed views → list_all (is_within 1 4096) slots ≡ true → AllByRecursion IsSmallView (shapes_of views slots)
small_shapes [] slots well all = tt
small_shapes (v ∷ views) [] well all = tt
small_shapes (v ∷ views) (n ∷ slots) well all =
    ((view_columns v well.0, few_slots (n ∷ slots) 0 n all refl), small_shapes views slots well.1 (and_parts (is_within 1 4096 n) (list_all (is_within 1 4096) slots) all).1)

pub board_small : BoardsAreSmall
board_small s h =
    let m = views_small s.versions (shapes_of s.views s.slots) (setup_versions s h).1 (small_shapes s.views s.slots h.well_formed (slots_within s h)) in
    let count = shape_count s.views s.slots h.slots in
    let few = h.views in
    let most : length (shapes_of s.views s.slots) * 278528 ≤ 8 * 278528 = product_within (length (shapes_of s.views s.slots)) 278528 8 278528 (omega (arith, count, few)) (omega arith) in
    omega (arith, m, most)

-- ---- places

pub offset_more : (n x : ℕ) (vs : List ViewShape) → x < length vs → view_offset n vs (x + 1) ≡ view_offset n vs x + view_size n (get_or vs x no_view)
offset_more n x vs lt = let e : x + 1 ≡ suc x = omega arith in ap (view_offset n vs) e ∙ next n x vs lt
  where
    next : (n x : ℕ) (vs : List ViewShape) → x < length vs → view_offset n vs (suc x) ≡ view_offset n vs x + view_size n (get_or vs x no_view)
    next n x [] lt = absurd (omega (arith, lt))
    next n zero (v ∷ vs) lt = none n vs (view_size n v)
      where
        none : (n : ℕ) (vs : List ViewShape) (k : ℕ) → k + view_offset n vs 0 ≡ 0 + k
        none n [] k = omega arith
        none n (v ∷ vs) k = omega arith
    next n (suc x) (v ∷ vs) lt = let m = next n x vs (omega (arith, lt)) in omega (arith, m)

pub offset_within : (n x : ℕ) (vs : List ViewShape) → view_offset n vs x ≤ views_size n vs
offset_within n x [] = omega arith
offset_within n zero (v ∷ vs) = omega arith
offset_within n (suc x) (v ∷ vs) = let m = offset_within n x vs in omega (arith, m)

pub offset_none : (n : ℕ) (vs : List ViewShape) → view_offset n vs 0 ≡ 0
offset_none n [] = refl
offset_none n (v ∷ vs) = refl

module _ (s : SetupData) (h : IsSetup s) (x : ℕ) where
  pub in_shape : x < length s.views → x < length (shapes_of s.views s.slots)
  in_shape lt = let m = shape_count s.views s.slots h.slots in omega (arith, m, lt)

  pub in_setup : x < length (shapes_of s.views s.slots) → x < length s.views
  in_setup lt = let m = shape_count s.views s.slots h.slots in omega (arith, m, lt)

  pub width_is : (view : View) → slice_get s.views x ≡ Some view → (view_shape (shape_of s) x).width ≡ columns_in_row view
  width_is view e =
      let lt = get_within x s.views view e in
      let each = h.slots in
      let slot = get_there x s.slots (omega (arith, lt, each)) in
      ap (λ (v : ViewShape). v.width) (shape_at s x slot.0 view e slot.1)

  pub slots_is : (n : ℕ) → slice_get s.slots x ≡ Some n → (view_shape (shape_of s) x).slots ≡ n
  slots_is n f =
      let lt = get_within x s.slots n f in
      let each = h.slots in
      let view = get_there x s.views (omega (arith, lt, each)) in
      ap (λ (v : ViewShape). v.slots) (shape_at s x n view.0 view.1 f)

-- the place of a word as it is computed
pub place_is : (shape : Shape) (x i e k base size width : ℕ) → base ≡ suc (view_offset shape.versions shape.views x) → size ≡ slot_size shape.versions (view_shape shape x) → width ≡ (view_shape shape x).width
    → base + i * size + e * (width + 1) + k ≡ word_place shape x i e k
place_is shape x i e k base size width b s w =
    let one : i * size ≡ i * slot_size shape.versions (view_shape shape x) = ap (λ z. i * z) s in
    let next : width + 1 ≡ suc (view_shape shape x).width = omega (arith, w) in
    let two : e * (width + 1) ≡ e * suc (view_shape shape x).width = ap (λ z. e * z) next in
    sums base (view_offset shape.versions shape.views x) (i * size) (i * slot_size shape.versions (view_shape shape x)) (e * (width + 1)) (e * suc (view_shape shape x).width) k b one two
  where
    sums : (base o a b c d k : ℕ) → base ≡ suc o → a ≡ b → c ≡ d → base + a + c + k ≡ suc (o + (b + (d + k)))
    sums base o a b c d k e f g = omega (arith, e, f, g)

pub word_small : (s : SetupData) (x i e k : ℕ) → IsSetup s → IsSlotOf (shape_of s) x i → e < s.versions → k ≤ (view_shape (shape_of s) x).width → (word_place (shape_of s) x i e k < board_size (shape_of s)) × (board_size (shape_of s) < 2 ^ 32)
word_small s x i e k h slot entry word =
    let less : k < suc (view_shape (shape_of s) x).width = omega (arith, word) in
    (in_board (shape_of s) x i e k (record { slot = slot; entry = entry; word = less }), board_small s h)
