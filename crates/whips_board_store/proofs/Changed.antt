-- The stores of a change, one after another.
use Rattle.std.proofs.Common.{◌≡◌, inl, inr, ℕ, zero, suc, ◌+◌, ◌*◌, ◌/◌, ◌<◌, ◌≤◌, List, [], ◌∷◌, ◌++◌, length, map, get_or, slice_index, set, take, drop, refl, sym, ap, ap₂, subst, ◌∙◌, arith, append_assoc, append-nil}
use Rattle.std.specs.List.{range_with_len}
use Rattle.std.proofs.lemmas.List.{take_more_set, length-set}
use Rattle.whips_board.specs.Seats.{PenState}
use Rattle.whips_board.specs.History.{words_after, IsLawful}
use Rattle.whips_board.proofs.Histories.{length-words_after}
use Rattle.whips_rel.specs.declared.update.Change.{Change}
use Rattle.whips_slot_words.specs.Words.{Shape, IsSlotOf, word_place, header_place, column_place, headers, target_of, phase_of}
use Rattle.whips_slot_words.specs.Stores.{IsAllowed}
use Rattle.whips_slot_words.specs.Loads.{words_at}
use Rattle.whips_slot_words.specs.Slots.{op_number, row_stored, change_stores, board_size}
use Rattle.whips_slot_words.proofs.Steps.{header_word, column_word, target_place}
use Rattle.whips_slot_words.proofs.Board.{in_board}
use Rattle.whips_slot_laws.proofs.Histories.{after_more}
use Rattle.whips_board_store.specs.Words.{words_now, row_stores}

pub words_count : (words : List ℕ) (pen now : PenState Shape) → pen ≡ now → words ≡ words_now pen → length words ≡ length now.board.first
words_count words pen now same is = ap length is ∙ length-words_after pen.board.first pen.history ∙ ap (λ (p : PenState Shape). length p.board.first) same

-- the word that is there, whatever stands for one that isn't
pub word_there : (words : List ℕ) (i d e : ℕ) → i < length words → get_or words i d ≡ get_or words i e
word_there [] i d e lt = absurd (omega (arith, lt))
word_there (w ∷ words) zero d e lt = refl
word_there (w ∷ words) (suc i) d e lt = word_there words i d e (omega (arith, lt))

-- ---- lawful histories in parts

module _ (allows : List ℕ → ℕ → ℕ → Type 0) where
  lawful_front : (w : List ℕ) (a b : List (ℕ × ℕ)) → IsLawful allows w (a ++ b) → IsLawful allows w a
  lawful_front w [] b lawful = tt
  lawful_front w (s ∷ a) b lawful = (lawful.0, lawful_front (set w s.0 s.1) a b lawful.1)

  lawful_rest : (w : List ℕ) (a b : List (ℕ × ℕ)) → IsLawful allows w (a ++ b) → IsLawful allows (words_after w a) b
  lawful_rest w [] b lawful = lawful
  lawful_rest w (s ∷ a) b lawful = lawful_rest (set w s.0 s.1) a b lawful.1

-- a place at which a store is allowed is on the board
pub allowed_place : (shape : Shape) (w : List ℕ) (place value : ℕ) → 1 ≤ shape.versions → IsAllowed shape w place value → place < board_size shape
allowed_place shape w place value some (inl phase) = let e = phase.0 in omega (arith, e)
allowed_place shape w place value some (inr (inl (x, i, j, unset, less, is))) =
    subst (λ p. p < board_size shape) (sym is) (in_board shape x i (target_of (headers shape w x i)) (suc j) (column_word shape x i (target_of (headers shape w x i)) j unset.within (target_place shape some w x i) less))
allowed_place shape w place value some (inr (inr (x, i, op, unset, low, high, is, holds))) =
    subst (λ p. p < board_size shape) (sym is) (in_board shape x i (target_of (headers shape w x i)) 0 (header_word shape x i (target_of (headers shape w x i)) unset.within (target_place shape some w x i)))

-- ---- words at places

same_places : (f g : ℕ → ℕ) (k : ℕ) (row : List ℕ) → ((j : ℕ) → f j ≡ g j) → words_at f k row ≡ words_at g k row
same_places f g k [] same = refl
same_places f g k (r ∷ row) same = ap₂ (λ (p : ℕ) (l : List (ℕ × ℕ)). (p, r) ∷ l) (same k) (same_places f g (suc k) row same)

row_split : (f : ℕ → ℕ) (m k : ℕ) (row : List ℕ) → k < length row → words_at f m row ≡ words_at f m (take k row) ++ (f (m + k), get_or row k 0) ∷ words_at f (suc (m + k)) (drop (suc k) row)
row_split f m k [] lt = absurd (omega (arith, lt))
row_split f m zero (r ∷ row) lt = let here : m ≡ m + 0 = omega arith in ap (λ (j : ℕ). (f j, r) ∷ words_at f (suc j) row) here
row_split f m (suc k) (r ∷ row) lt =
    let further : suc m + k ≡ m + suc k = omega arith in
    ap (λ (l : List (ℕ × ℕ)). (f m, r) ∷ l)
    (row_split f (suc m) k row (omega (arith, lt)) ∙ ap (λ j. words_at f (suc m) (take k row) ++ (f j, get_or row k 0) ∷ words_at f (suc j) (drop (suc k) row)) further)

row_more : (f : ℕ → ℕ) (m k : ℕ) (row : List ℕ) → k < length row → words_at f m (take (suc k) row) ≡ words_at f m (take k row) ++ (f (m + k), get_or row k 0) ∷ []
row_more f m k [] lt = absurd (omega (arith, lt))
row_more f m zero (r ∷ row) lt = let here : m ≡ m + 0 = omega arith in ap (λ (j : ℕ). (f j, r) ∷ []) here
row_more f m (suc k) (r ∷ row) lt =
    let further : suc m + k ≡ m + suc k = omega arith in
    ap (λ (l : List (ℕ × ℕ)). (f m, r) ∷ l) (row_more f (suc m) k row (omega (arith, lt)) ∙ ap (λ (j : ℕ). words_at f (suc m) (take k row) ++ (f j, get_or row k 0) ∷ []) further)

-- ---- a row is stored

-- the pen once the first k words of the row are stored from a place on
abbrev pub with_row : PenState Shape → ℕ → ℕ → List ℕ → PenState Shape
with_row pen place k row = record pen { history = pen.history ++ row_stores place (take k row) }

pub row_begun : (pen : PenState Shape) (place : ℕ) (row : List ℕ) → pen ≡ with_row pen place 0 row
row_begun pen place row = ap (λ h. record pen { history = h }) (sym (append-nil pen.history))

pub row_allowed : (pen now : PenState Shape) (place k : ℕ) (row : List ℕ) → now ≡ with_row pen place k row → k < length row → IsLawful (IsAllowed pen.board.law) (words_now pen) (row_stores place row)
    → IsAllowed now.board.law (words_now now) (place + k) (get_or row k 0)
row_allowed pen now place k row is lt lawful =
    let f : ℕ → ℕ = λ j. place + j in
    let zeroth : 0 + k ≡ k = omega arith in
    let parts = subst (λ m. words_at f 0 row ≡ words_at f 0 (take k row) ++ (f m, get_or row k 0) ∷ words_at f (suc m) (drop (suc k) row)) zeroth (row_split f 0 k row lt) in
    let rest = lawful_rest (IsAllowed pen.board.law) (words_now pen) (words_at f 0 (take k row)) ((f k, get_or row k 0) ∷ words_at f (suc k) (drop (suc k) row)) (subst (IsLawful (IsAllowed pen.board.law) (words_now pen)) parts lawful) in
    subst (λ (p : PenState Shape). IsAllowed p.board.law (words_now p) (place + k) (get_or row k 0)) (sym is)
    (subst (λ w. IsAllowed pen.board.law w (place + k) (get_or row k 0)) (sym (after_more pen.board.first pen.history (words_at f 0 (take k row)))) rest.0)

-- that word's place is on the board
pub row_place : (pen now : PenState Shape) (place k : ℕ) (row : List ℕ) → 1 ≤ pen.board.law.versions → now ≡ with_row pen place k row → k < length row → IsLawful (IsAllowed pen.board.law) (words_now pen) (row_stores place row)
    → place + k < board_size pen.board.law
row_place pen now place k row some is lt lawful =
    let law = ap (λ (p : PenState Shape). p.board.law) is in
    allowed_place pen.board.law (words_now now) (place + k) (get_or row k 0) some (subst (λ l. IsAllowed l (words_now now) (place + k) (get_or row k 0)) law (row_allowed pen now place k row is lt lawful))

pub row_further : (pen now next : PenState Shape) (place k : ℕ) (row : List ℕ) → now ≡ with_row pen place k row → k < length row → next ≡ record now { history = now.history ++ (place + k, get_or row k 0) ∷ [] } → next ≡ with_row pen place (k + 1) row
row_further pen now next place k row is lt then =
    let f : ℕ → ℕ = λ j. place + j in
    let zeroth : 0 + k ≡ k = omega arith in
    let one : suc k ≡ k + 1 = omega arith in
    let more = row_more f 0 k row lt ∙ ap (λ (m : ℕ). words_at f 0 (take k row) ++ (f m, get_or row k 0) ∷ []) zeroth in
    then
    ∙ ap (λ (p : PenState Shape). record p { history = p.history ++ (place + k, get_or row k 0) ∷ [] }) is
    ∙ ap (λ h. record pen { history = h }) (append_assoc pen.history (words_at f 0 (take k row)) ((place + k, get_or row k 0) ∷ []) ∙ ap (λ l. pen.history ++ l) (sym more ∙ ap (λ m. words_at f 0 (take m row)) one))

-- ---- a change is stored

module _ (shape : Shape) (x i : ℕ) (change : Change) (old : PenState Shape) (header : ℕ) (at : header ≡ word_place shape x i (target_of (headers shape (words_now old) x i)) 0) where
  -- the pen once the row is stored
  abbrev with_change_row : PenState Shape
  with_change_row = record old { history = old.history ++ row_stores (header + 1) (row_stored change) }

  columns : row_stores (header + 1) (row_stored change) ≡ words_at (column_place shape x i (target_of (headers shape (words_now old) x i))) 0 (row_stored change)
  columns = same_places (λ j. header + 1 + j) (column_place shape x i (target_of (headers shape (words_now old) x i))) 0 (row_stored change) (λ j. omega (arith, at))

  pub row_lawful : (row : List ℕ) → old.board.law ≡ shape → row ≡ row_stored change → IsLawful (IsAllowed shape) (words_now old) (change_stores shape (words_now old) x i change) → IsLawful (IsAllowed old.board.law) (words_now old) (row_stores (header + 1) row)
  row_lawful row law brought lawful =
      let t = target_of (headers shape (words_now old) x i) in
      let stored = 4 * suc (phase_of (words_now old) / 2) + op_number change in
      subst (λ l. IsLawful (IsAllowed l) (words_now old) (row_stores (header + 1) row)) (sym law)
      (subst (λ r. IsLawful (IsAllowed shape) (words_now old) (row_stores (header + 1) r)) (sym brought)
      (subst (IsLawful (IsAllowed shape) (words_now old)) (sym columns) (lawful_front (IsAllowed shape) (words_now old) (words_at (column_place shape x i t) 0 (row_stored change)) ((header_place shape x i t, stored) ∷ []) lawful)))

  module _ (row : List ℕ) (value : ℕ) (middle : PenState Shape) (brought : row ≡ row_stored change) (is : value ≡ 4 * suc (phase_of (words_now old) / 2) + op_number change)
      (stored : middle ≡ record old { history = old.history ++ row_stores (header + 1) row }) where
    middle_is : middle ≡ with_change_row
    middle_is = stored ∙ ap (λ r. record old { history = old.history ++ row_stores (header + 1) r }) brought

    pub header_allowed : old.board.law ≡ shape → IsLawful (IsAllowed shape) (words_now old) (change_stores shape (words_now old) x i change) → IsAllowed middle.board.law (words_now middle) header value
    header_allowed law lawful =
        let t = target_of (headers shape (words_now old) x i) in
        let last = 4 * suc (phase_of (words_now old) / 2) + op_number change in
        let words = words_after (words_now old) (words_at (column_place shape x i t) 0 (row_stored change)) in
        let rest = lawful_rest (IsAllowed shape) (words_now old) (words_at (column_place shape x i t) 0 (row_stored change)) ((header_place shape x i t, last) ∷ []) lawful in
        let after : words_now with_change_row ≡ words = after_more old.board.first old.history (row_stores (header + 1) (row_stored change)) ∙ ap (words_after (words_now old)) columns in
        subst (λ (p : PenState Shape). IsAllowed p.board.law (words_now p) header value) (sym middle_is)
        (subst (λ l. IsAllowed l (words_now with_change_row) header value) (sym law)
        (subst (λ w. IsAllowed shape w header value) (sym after)
        (subst (λ p. IsAllowed shape words p value) (sym at)
        (subst (λ v. IsAllowed shape words (header_place shape x i t) v) (sym is) rest.0))))

    pub change_whole : (new : PenState Shape) → new ≡ record middle { history = middle.history ++ (header, value) ∷ [] } → new ≡ record old { history = old.history ++ change_stores shape (words_now old) x i change }
    change_whole new then =
        then
        ∙ ap (λ (p : PenState Shape). record p { history = p.history ++ (header, value) ∷ [] }) middle_is
        ∙ ap (λ h. record old { history = h })
        (append_assoc old.history (row_stores (header + 1) (row_stored change)) ((header, value) ∷ [])
        ∙ ap (λ l. old.history ++ l) (ap₂ (λ (l : List (ℕ × ℕ)) (p : ℕ × ℕ). l ++ p ∷ []) columns (ap₂ (λ (p v : ℕ). (p, v)) at is)))

-- ---- the headers of a slot are read

range_more : (f : ℕ → ℕ) (a n : ℕ) → map f (range_with_len a (suc n)) ≡ map f (range_with_len a n) ++ f (a + n) ∷ []
range_more f a zero = let here : a ≡ a + 0 = omega arith in ap (λ j. f j ∷ []) here
range_more f a (suc n) =
    let further : (a + 1) + n ≡ a + suc n = omega arith in
    ap (λ l. f a ∷ l) (range_more f (a + 1) n ∙ ap (λ j. map f (range_with_len (a + 1) n) ++ f j ∷ []) further)

pub headers_four : (xs : List ℕ) (e y : ℕ) → length xs ≡ 4 → length (set xs e y) ≡ 4
headers_four xs e y four = length-set xs e y ∙ four

pub headers_more : (words xs : List ℕ) (place : ℕ → ℕ) (e y p : ℕ) → length xs ≡ 4 → e < 4 → take e xs ≡ map (λ j. slice_index words (place j)) (range_with_len 0 e) → y ≡ slice_index words p → p ≡ place e
    → take (e + 1) (set xs e y) ≡ map (λ j. slice_index words (place j)) (range_with_len 0 (e + 1))
headers_more words xs place e y p four lt so_far is at =
    let one : suc e ≡ e + 1 = omega arith in
    let zeroth : 0 + e ≡ e = omega arith in
    take_more_set xs e y (omega (arith, four, lt))
    ∙ ap₂ (λ l z. l ++ z ∷ []) so_far (is ∙ ap (slice_index words) (at ∙ ap place (sym zeroth)))
    ∙ sym (range_more (λ j. slice_index words (place j)) 0 e)
    ∙ ap (λ n. map (λ j. slice_index words (place j)) (range_with_len 0 n)) one
