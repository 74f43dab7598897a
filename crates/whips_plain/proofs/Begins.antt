-- A transaction begins, and a store at version 0.
use Rattle.std.proofs.Common.{◌≡◌, ℕ, zero, suc, ◌+◌, ◌-◌, ◌<◌, ◌≤◌, cond, List, [], ◌∷◌, ◌++◌, length, map, get_or, take, drop, Some, None, refl, sym, ap, ap₂, subst, ◌∙◌, arith}
use Rattle.std.specs.Prelude.{set, slice_get, ◌^◌}
use Rattle.std.specs.List.{sum_by}
use Rattle.std.proofs.lemmas.List.Sums.{sum_by-cons}
use Rattle.whips_setup.specs.declared.error.SetupErr.TheVariants.{Slots, Limit}
use Rattle.std.proofs.lemmas.List.{length-map, length-append, drop_all}
use Rattle.whips_rel.specs.declared.update.Change.{Change}
use Rattle.whips_store.specs.declared.error.StoreErr.TheVariants.{Full}
use Rattle.std.proofs.Math.Seq.{drop-cons}
use Rattle.std.proofs.lemmas.Bool.{lt-ltb, le-ltb}
use Rattle.whips_model.specs.Relation.{Table, value_of}
use Rattle.whips_view.specs.ViewDefs.{View}
use Rattle.whips_setup.specs.Setups.{SetupData, columns_of, view_value}
use Rattle.whips_setup.specs.Limits.{is_within_limits}
use Rattle.whips_setup.specs.Refusals.{slots_refusal, IsSetup}
use Rattle.whips_store.specs.Stores.{ViewState, ChangeLists, no_view}
use Rattle.whips_store.specs.Calls.{AreNet, AreNetChanges, slots_needed, first_full, views_with}
use Rattle.whips_store.specs.First.{first_records, first_view, view_at_first, views_at_first}
use Rattle.whips_faithful_laws.proofs.First.{first_slots, head_fits, no_refusal}
use Rattle.whips_faithful_laws.proofs.Shapes.{begun_length}
use Rattle.whips_plain.specs.Plain.{HasFewSlots, count}

pub begun_left : (vs : List ViewState) (cs : ChangeLists) → AreNet vs cs → sum_by (λ (v : ViewState). length v.left) (views_with vs cs) ≡ count cs
begun_left [] [] net = refl
begun_left [] (c ∷ cs) net = absurd net
begun_left (v ∷ vs) [] net = absurd net
begun_left (v ∷ vs) (c ∷ cs) net =
    sum_by-cons (λ (v : ViewState). length v.left) (record v { next = c.0.rows; left = c.1 }) (views_with vs cs) ∙ ap (λ k. length c.1 + k) (begun_left vs cs net.1) ∙ sym (sum_by-cons (λ c. length c.1) c cs)

-- the view that the next changes are for
pub next_there : (vs : List ViewState) (before : ChangeLists) (c : Table × List Change) (more : ChangeLists) → AreNet vs (before ++ c ∷ more) → length before < length vs
next_there [] [] c more net = absurd net
next_there [] (b ∷ before) c more net = absurd net
next_there (v ∷ vs) [] c more net = omega arith
next_there (v ∷ vs) (b ∷ before) c more net = let more = next_there vs before c more net.1 in omega (arith, more)

pub next_columns : (vs : List ViewState) (before : ChangeLists) (c : Table × List Change) (more : ChangeLists) → AreNet vs (before ++ c ∷ more) → c.0.columns ≡ (get_or (views_with vs before) (length before) no_view).columns
next_columns [] [] c more net = absurd net
next_columns [] (b ∷ before) c more net = absurd net
next_columns (v ∷ vs) [] c more net = net.0.0
next_columns (v ∷ vs) (b ∷ before) c more net = next_columns vs before c more net.1

pub none_with : (vs : List ViewState) → vs ≡ views_with vs []
none_with [] = refl
none_with (v ∷ vs) = refl

pub next_put : (vs : List ViewState) (before : ChangeLists) (c : Table × List Change) → length before < length vs
    → set (views_with vs before) (length before) (record (get_or (views_with vs before) (length before) no_view) { next = c.0.rows; left = c.1 }) ≡ views_with vs (before ++ c ∷ [])
next_put [] before c lt = absurd (omega arith)
next_put (v ∷ vs) [] c lt = views_none v vs
  where
    views_none : (v : ViewState) (vs : List ViewState) → record v { next = c.0.rows; left = c.1 } ∷ vs ≡ record v { next = c.0.rows; left = c.1 } ∷ views_with vs []
    views_none v vs = ap (λ l. record v { next = c.0.rows; left = c.1 } ∷ l) (none_with vs)
next_put (v ∷ vs) (b ∷ before) c lt = ap (λ l. record v { next = b.0.rows; left = b.1 } ∷ l) (next_put vs before c (omega arith))

-- the changes so far, the next one and the rest
pub split_at : {X Y : Type 0} (f : X → Y) (items so_far : List X) (x : X) → map (λ y. y) so_far ≡ take (length so_far) items → length so_far < length items → x ≡ get_or items (length so_far) x → (more : List Y) × (map f items ≡ map f so_far ++ f x ∷ more)
split_at f [] so_far x e lt is = absurd (omega arith)
split_at f (y ∷ items) [] x e lt is = (map f items, ap (λ z. f z ∷ map f items) (sym is))
split_at f (y ∷ items) (z ∷ so_far) x e lt is =
    let head : z ≡ y = cc in
    let tail : map (λ y. y) so_far ≡ take (length so_far) items = cc in
    let rest = split_at f items so_far x tail (omega arith) is in
    (rest.0, ap₂ (λ a l. f a ∷ l) (sym head) rest.1)

pub net_split : {X : Type 0} (f : X → Table × List Change) (vs : List ViewState) (cs : ChangeLists) (items so_far : List X) (x : X) → AreNet vs cs → map f items ≡ cs → map (λ y. y) so_far ≡ take (length so_far) items → length so_far < length items
    → x ≡ get_or items (length so_far) x → (more : ChangeLists) × AreNet vs (map f so_far ++ f x ∷ more)
net_split f vs cs items so_far x net is e lt at = let parts = split_at f items so_far x e lt at in (parts.0, subst (AreNet vs) (sym is ∙ parts.1) net)

get_or_any : (l : List ViewState) (i : ℕ) (d e : ViewState) → i < length l → get_or l i d ≡ get_or l i e
get_or_any [] i d e lt = absurd (omega arith)
get_or_any (y ∷ l) zero d e lt = refl
get_or_any (y ∷ l) (suc i) d e lt = get_or_any l i d e (omega arith)

module _ {X : Type 0} (f : X → Table × List Change) (vs mid : List ViewState) (so_far : List X) (x : X) (more : ChangeLists) (i : ℕ) (net : AreNet vs (map f so_far ++ f x ∷ more)) (here : i ≡ length so_far) (is : mid ≡ views_with vs (map f so_far)) where
  pub view_there : i < length mid
  view_there =
      let lt = next_there vs (map f so_far) (f x) more net in
      let many = begun_length vs (map f so_far) in
      let same : length mid ≡ length (views_with vs (map f so_far)) = ap length is in
      let count = length-map so_far f in
      omega (arith, lt, many, same, count, here)

  found_at : (at : ViewState) → at ≡ get_or mid i at → at ≡ get_or (views_with vs (map f so_far)) (length (map f so_far)) no_view
  found_at at value = value ∙ get_or_any mid i at no_view view_there ∙ ap₂ (λ l n. get_or l n no_view) is (here ∙ sym (length-map so_far f))

  pub columns_at : (at : ViewState) → at ≡ get_or mid i at → (f x).0.columns ≡ at.columns
  columns_at at value = next_columns vs (map f so_far) (f x) more net ∙ sym (ap (λ (v : ViewState). v.columns) (found_at at value))

  pub one_further : i + 1 ≡ length (so_far ++ x ∷ [])
  one_further = let more = length-append so_far (x ∷ []) in let at = here in omega (arith, more, at)

  map_more : (xs : List X) → map f (xs ++ x ∷ []) ≡ map f xs ++ f x ∷ []
  map_more [] = refl
  map_more (y ∷ xs) = ap (λ l. f y ∷ l) (map_more xs)

  pub put_at : (at made : ViewState) → at ≡ get_or mid i at → made ≡ record at { next = (f x).0.rows; left = (f x).1 } → set mid i made ≡ views_with vs (map f (so_far ++ x ∷ []))
  put_at at made value new =
      ap₂ (λ l n. set l n made) is (here ∙ sym (length-map so_far f))
      ∙ ap (set (views_with vs (map f so_far)) (length (map f so_far))) (new ∙ ap (λ (v : ViewState). record v { next = (f x).0.rows; left = (f x).1 }) (found_at at value))
      ∙ next_put vs (map f so_far) (f x) (next_there vs (map f so_far) (f x) more net) ∙ sym (ap (views_with vs) (map_more so_far))

-- ---- version 0

module _ {X : Type 0} where
  taken_next : (xs : List X) (i : ℕ) (x : X) → slice_get xs i ≡ Some x → take (suc i) xs ≡ take i xs ++ x ∷ []
  taken_next [] i x e = absurd (cc)
  taken_next (y ∷ ys) zero x e = let same : y ≡ x = cc in ap (λ z. z ∷ []) same
  taken_next (y ∷ ys) (suc i) x e = ap (λ l. y ∷ l) (taken_next ys i x e)

  pub taken_more : (xs : List X) (i : ℕ) (x : X) → slice_get xs i ≡ Some x → take (i + 1) xs ≡ take i xs ++ x ∷ []
  taken_more xs i x e = let next : i + 1 ≡ suc i = omega arith in ap (λ n. take n xs) next ∙ taken_next xs i x e

pub first_at : (db : List Table) (views : List View) (slots : List ℕ) (i n : ℕ) (view : View) → slice_get views i ≡ Some view → slice_get slots i ≡ Some n → slice_get (views_at_first db views slots) i ≡ Some (view_at_first db view n)
first_at db [] slots i n view e f = absurd (cc)
first_at db (v ∷ views) [] i n view e f = absurd (cc)
first_at db (v ∷ views) (m ∷ slots) zero n view e f = let same : v ≡ view = cc in let also : m ≡ n = cc in ap₂ (λ v m. Some (view_at_first db v m)) same also
first_at db (v ∷ views) (m ∷ slots) (suc i) n view e f = first_at db views slots i n view e f

-- a setup's views have slots for their first rows
pub first_fit : (x : ℕ) (db : List Table) (views : List View) (slots : List ℕ) (i n : ℕ) (view : View) → slots_refusal x db views slots ≡ None → slice_get views i ≡ Some view → slice_get slots i ≡ Some n → length (value_of view.parts db) ≤ n
first_fit x db [] slots i n view h e f = absurd (cc)
first_fit x db (v ∷ views) [] i n view h e f = absurd (cc)
first_fit x db (v ∷ views) (m ∷ slots) zero n view h e f =
    let same : v ≡ view = cc in
    let also : m ≡ n = cc in
    let fits = head_fits (length (value_of v.parts db)) m (slots_refusal (suc x) db views slots) (Slots x) h in
    subst (λ k. length (value_of view.parts db) ≤ k) also (subst (λ (w : View). length (value_of w.parts db) ≤ m) same fits.0)
first_fit x db (v ∷ views) (m ∷ slots) (suc i) n view h e f = first_fit (suc x) db views slots i n view (head_fits (length (value_of v.parts db)) m (slots_refusal (suc x) db views slots) (Slots x) h).1 e f

pub setup_fits : (s : SetupData) → IsSetup s → (i n : ℕ) (view : View) → slice_get s.views i ≡ Some view → slice_get s.slots i ≡ Some n → length (value_of view.parts s.initial) ≤ n
setup_fits s h i n view e f = first_fit 0 s.initial s.views s.slots i n view (no_refusal (is_within_limits (columns_of s) s) (slots_refusal 0 s.initial s.views s.slots) Limit h.accepted) e f

pub first_made : (db : List Table) (view : View) (rows : Table) (n : ℕ) (made : ViewState) → rows ≡ view_value db view → made ≡ first_view rows.columns rows.rows (n - length rows.rows) → made ≡ view_at_first db view n
first_made db view rows n made is e = e ∙ ap (λ (t : Table). first_view t.columns t.rows (n - length t.rows)) is

pub first_slots_few : (db : List Table) (view : View) (n : ℕ) → length (value_of view.parts db) ≤ n → n < 2 ^ 32 → HasFewSlots (view_at_first db view n)
first_slots_few db view n fits few =
    let many = first_slots (value_of view.parts db) (n - length (value_of view.parts db)) in
    let whole : length (first_records (value_of view.parts db) (n - length (value_of view.parts db))) ≡ n = omega (arith, many, fits) in
    subst (λ k. k < 2 ^ 32) (sym whole) few

-- ---- what the first of the views decides

split_drop : {Y : Type 0} (ys : List Y) (x : ℕ) (y : Y) → x < length ys → y ≡ get_or ys x y → drop x ys ≡ y ∷ drop (suc x) ys
split_drop ys x y lt is = drop-cons ys x y lt ∙ ap (λ z. z ∷ drop (suc x) ys) (sym is)

many_net : {X : Type 0} (f : X → Table × List Change) (vs : List ViewState) (items : List X) → AreNet vs (map f items) → length items ≡ length vs
many_net f [] [] net = refl
many_net f [] (i ∷ items) net = absurd net
many_net f (v ∷ vs) [] net = absurd net
many_net f (v ∷ vs) (i ∷ items) net = ap suc (many_net f vs items net.1)

pub net_at : {X : Type 0} (f : X → Table × List Change) (vs : List ViewState) (items : List X) (x : ℕ) (v : ViewState) (item : X) → AreNet vs (map f items) → x < length items → v ≡ get_or vs x v → item ≡ get_or items x item
    → ((f item).0.columns ≡ v.columns) × AreNetChanges v (f item).0.rows (f item).1
net_at f [] [] x v item net lt is at = absurd (omega arith)
net_at f [] (i ∷ items) x v item net lt is at = absurd net
net_at f (w ∷ vs) [] x v item net lt is at = absurd (omega arith)
net_at f (w ∷ vs) (i ∷ items) zero v item net lt is at = subst (λ (u : ViewState). ((f item).0.columns ≡ u.columns) × AreNetChanges u (f item).0.rows (f item).1) (sym is) (subst (λ j. ((f j).0.columns ≡ w.columns) × AreNetChanges w (f j).0.rows (f j).1) (sym at) net.0)
net_at f (w ∷ vs) (i ∷ items) (suc x) v item net lt is at = net_at f vs items x v item net.1 (omega arith) is at

pub net_there : {X : Type 0} (f : X → Table × List Change) (vs : List ViewState) (items : List X) (x : ℕ) → AreNet vs (map f items) → x < length items → x < length vs
net_there f vs items x net lt = let many = many_net f vs items net in omega arith

module _ {X : Type 0} (f : X → Table × List Change) (n c x : ℕ) (v : ViewState) (item : X) (vs : List ViewState) (items : List X) (some : x < length vs) (is : v ≡ get_or vs x v) (more : x < length items) (at : item ≡ get_or items x item) where
  from_here : first_full n c x (drop x vs) (map f (drop x items)) ≡ first_full n c x (v ∷ drop (suc x) vs) (f item ∷ map f (drop (suc x) items))
  from_here = ap₂ (λ l m. first_full n c x l (map f m)) (split_drop vs x v some is) (split_drop items x item more at)

  pub full_at : length v.records < slots_needed n c v (f item).0.rows → first_full n c x (drop x vs) (map f (drop x items)) ≡ Some (Full x (slots_needed n c v (f item).0.rows) (length v.records))
  full_at lt = from_here ∙ ap (λ b. cond b (Some (Full x (slots_needed n c v (f item).0.rows) (length v.records))) (first_full n c (suc x) (drop (suc x) vs) (map f (drop (suc x) items)))) (lt-ltb (length v.records) (slots_needed n c v (f item).0.rows) lt)

  pub fits_at : slots_needed n c v (f item).0.rows ≤ length v.records → first_full n c x (drop x vs) (map f (drop x items)) ≡ first_full n c (x + 1) (drop (x + 1) vs) (map f (drop (x + 1) items))
  fits_at le =
      let next : suc x ≡ x + 1 = omega arith in
      from_here ∙ ap (λ b. cond b (Some (Full x (slots_needed n c v (f item).0.rows) (length v.records))) (first_full n c (suc x) (drop (suc x) vs) (map f (drop (suc x) items)))) (le-ltb (length v.records) (slots_needed n c v (f item).0.rows) le)
      ∙ ap (λ y. first_full n c y (drop y vs) (map f (drop y items))) next

pub none_short : {X : Type 0} (f : X → Table × List Change) (n c x : ℕ) (vs : List ViewState) (items : List X) → length items ≤ x → first_full n c x (drop x vs) (map f (drop x items)) ≡ None
none_short f n c x vs items le = ap (λ l. first_full n c x (drop x vs) (map f l)) (drop_all x items le) ∙ no_item (drop x vs)
  where
    no_item : (vs : List ViewState) → first_full n c x vs [] ≡ None
    no_item [] = refl
    no_item (v ∷ vs) = refl
