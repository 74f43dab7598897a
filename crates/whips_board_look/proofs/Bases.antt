-- What a setup says of its board: its slots, its columns, and the places of the words of a slot.
use Rattle.std.proofs.Common.{◌≡◌, ℕ, zero, suc, ◌+◌, ◌*◌, ◌<◌, ◌≤◌, List, [], ◌∷◌, length, map, get_or, Some, refl, sym, ap, subst, ◌∙◌, arith}
use Rattle.std.specs.Prelude.{◌^◌, slice_get}
use Rattle.whips_lists.proofs.ByPlace.{get_there, get_within}
use Rattle.whips_model.specs.Tuples.{Columns}
use Rattle.whips_view.specs.ViewDefs.{View, row_columns, no_columns}
use Rattle.whips_setup.specs.Setups.{SetupData}
use Rattle.whips_setup.specs.Refusals.{IsSetup}
use Rattle.whips_board.specs.Seats.{BoardId}
use Rattle.whips_slot_words.specs.Words.{Shape, view_shape, slot_size, view_offset, word_place, header_place, column_place, IsSlotOf}
use Rattle.whips_slot_words.specs.Slots.{board_size}
use Rattle.whips_slot_words.specs.StoreLaws.{shape_of}
use Rattle.whips_slot_words.proofs.Board.{in_board}
use Rattle.whips_slots.proofs.Small.{setup_columns, board_small, in_shape, slots_is, width_is}
use Rattle.whips_slots.proofs.Layouts.{first_count}
use Rattle.whips_board_look.specs.Looks.{IsBoardOf, view_slots, view_columns}

-- ---- slots and columns

number_there : (xs : List ℕ) (x i : ℕ) → i < get_or xs x 0 → slice_get xs x ≡ Some (get_or xs x 0)
number_there [] x i lt = absurd (omega arith)
number_there (n ∷ xs) zero i lt = refl
number_there (n ∷ xs) (suc x) i lt = number_there xs x i lt

pub slot_of : (s : SetupData) → IsSetup s → (x i : ℕ) → i < view_slots s x → IsSlotOf (shape_of s) x i
slot_of s h x i lt =
    let there = number_there s.slots x i lt in
    let within = get_within x s.slots (view_slots s x) there in
    let each = h.slots in
    record { view = in_shape s h x (omega (arith, within, each)); slot = rw (slots_is s h x (view_slots s x) there) lt }

columns_there : (views : List View) (x : ℕ) (view : View) → slice_get views x ≡ Some view → get_or (map row_columns views) x no_columns ≡ row_columns view
columns_there [] x view e = absurd (cc)
columns_there (v ∷ views) zero view e = let same : v ≡ view = cc in ap row_columns same
columns_there (v ∷ views) (suc x) view e = columns_there views x view e

pub columns_count : (s : SetupData) → IsSetup s → (x : ℕ) → x < length s.views → length (view_columns s x).kinds ≡ (view_shape (shape_of s) x).width
columns_count s h x lt =
    let there = get_there x s.views lt in
    ap (λ (c : Columns). length c.kinds) (columns_there s.views x there.0 there.1) ∙ sym (width_is s h x there.0 there.1)

pub width_most : (s : SetupData) → IsSetup s → (x : ℕ) → x < length s.views → (view_shape (shape_of s) x).width ≤ 16
width_most s h x lt =
    let there = get_there x s.views lt in
    subst (λ k. k ≤ 16) (sym (width_is s h x there.0 there.1)) (setup_columns s h x there.0 there.1)

-- ---- places

pub header_step : (shape : Shape) (x i first width : ℕ) → first ≡ word_place shape x i 0 0 → width ≡ (view_shape shape x).width → (e : ℕ) → first + e * (width + 1) ≡ header_place shape x i e
header_step shape x i first width f w e =
    let next : width + 1 ≡ suc (view_shape shape x).width = omega (arith, w) in
    let two : e * (width + 1) ≡ e * suc (view_shape shape x).width = ap (λ z. e * z) next in
    let none : 0 * suc (view_shape shape x).width ≡ 0 = omega arith in
    sums first (view_offset shape.versions shape.views x) (i * slot_size shape.versions (view_shape shape x)) (0 * suc (view_shape shape x).width) (e * (width + 1)) (e * suc (view_shape shape x).width) f none two
  where
    sums : (first o a z c d : ℕ) → first ≡ suc (o + (a + (z + 0))) → z ≡ 0 → c ≡ d → first + c ≡ suc (o + (a + (d + 0)))
    sums first o a z c d f g h = omega (arith, f, g, h)

pub column_step : (shape : Shape) (x i e first : ℕ) → first ≡ word_place shape x i e 0 → (j : ℕ) → first + 1 + j * 1 ≡ column_place shape x i e j
column_step shape x i e first f j =
    let one : j * 1 ≡ j = omega arith in
    sums first (view_offset shape.versions shape.views x) (i * slot_size shape.versions (view_shape shape x)) (e * suc (view_shape shape x).width) j (j * 1) f one
  where
    sums : (first o a b j k : ℕ) → first ≡ suc (o + (a + (b + 0))) → k ≡ j → first + 1 + k ≡ suc (o + (a + (b + suc j)))
    sums first o a b j k f g = omega (arith, f, g)

module _ (s : SetupData) (h : IsSetup s) (board : BoardId Shape) (of : IsBoardOf s board) where
  pub board_count : length board.first ≡ board_size (shape_of s)
  board_count = ap length of.first ∙ first_count s h

  pub small : length board.first < 2 ^ 32
  small = let few = board_small s h in let count = board_count in omega (arith, few, count)

  pub some : 0 < length board.first
  some = let count = board_count in omega (arith, count)

  pub headers_within : (x i first width step : ℕ) → IsSlotOf (shape_of s) x i → first ≡ word_place (shape_of s) x i 0 0 → width ≡ (view_shape (shape_of s) x).width → step ≡ width + 1 → (k : ℕ) → k < s.versions → first + k * step < length board.first
  headers_within x i first width step slot f w is k lt =
      let place = ap (λ z. first + k * z) is ∙ header_step (shape_of s) x i first width f w k in
      let within = in_board (shape_of s) x i k 0 (record { slot = slot; entry = lt; word = omega arith }) in
      let count = board_count in
      omega (arith, place, within, count)

  pub columns_within : (x i e first next : ℕ) → IsSlotOf (shape_of s) x i → e < s.versions → first ≡ word_place (shape_of s) x i e 0 → next ≡ first + 1 → (k : ℕ) → k < (view_shape (shape_of s) x).width → next + k * 1 < length board.first
  columns_within x i e first next slot entry f is k lt =
      let place = ap (λ z. z + k * 1) is ∙ column_step (shape_of s) x i e first f k in
      let within = in_board (shape_of s) x i e (suc k) (record { slot = slot; entry = entry; word = omega (arith, lt) }) in
      let count = board_count in
      omega (arith, place, within, count)
