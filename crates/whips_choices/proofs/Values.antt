-- Which rows a view's value has.
use Rattle.std.proofs.Common.{◌≡◌, inl, inr, ℕ, zero, suc, ◌<◌, true, List, [], ◌∷◌, length, map, get_or, sym, ap, subst, arith}
use Rattle.std.specs.List.{filter}
use Rattle.whips_model.specs.Tuples.{Codes, at_columns, IsKeyed}
use Rattle.whips_model.specs.Views.{ViewData, Choice, meets, out_row, choices, rows_of}
use Rattle.whips_model.specs.Keys.{AreKeyed}
use Rattle.whips_model.proofs.Rising.{value_keyed}
use Rattle.whips_lists.specs.Members.{Has}
use Rattle.whips_choices.specs.KeyedViews.{KeyedView, IsKeyedView, AreTables, IsChoiceOf, IsRowOf}
use Rattle.whips_lists.proofs.Members.{has_first, has_none, has_cases, has_passing, has_passed, has_joined, has_source, has_mapped, has_before}
use Rattle.whips_choices.proofs.Rows.{same_row}

choice_of_more : (rows : List Codes) (tables : List (List Codes)) (t : Codes) (c : Choice) → Has t rows → IsChoiceOf tables c → IsChoiceOf (rows ∷ tables) (t ∷ c)
choice_of_more rows tables t c h d = record { width = ap suc d.width; at = at }
  where
    at : (i : ℕ) → i < suc (length tables) → Has (get_or (t ∷ c) i []) (get_or (rows ∷ tables) i [])
    at zero lt = h
    at (suc i) lt = d.at i (omega arith)

pub has_choice : (tables : List (List Codes)) (c : Choice) → IsChoiceOf tables c → Has c (choices tables)
has_choice [] [] d = has_first [] []
has_choice [] (t ∷ c) d = absurd (omega (arith, d.width))
has_choice (rows ∷ tables) [] d = absurd (omega (arith, d.width))
has_choice (rows ∷ tables) (t ∷ c) d = has_joined (λ t. map (λ c. t ∷ c) (choices tables)) t (t ∷ c) rows (d.at 0 (omega arith))
    (has_mapped (λ c. t ∷ c) c (choices tables) (has_choice tables c (record { width = omega (arith, d.width); at = λ i lt. d.at (suc i) (omega arith) })))

pub choice_is : (tables : List (List Codes)) (c : Choice) → Has c (choices tables) → IsChoiceOf tables c
choice_is [] c h = elim (has_cases c [] [] h) [
  | inl e ↦ record { width = ap length e; at = λ i lt. absurd (omega arith) }
  | inr g ↦ absurd (has_none c g)
]
choice_is (rows ∷ tables) c h =
    let a = has_source (λ t. map (λ c. t ∷ c) (choices tables)) c rows h in
    let b = has_before (λ c. a.0 ∷ c) c (choices tables) a.2 in
    subst (λ z. IsChoiceOf (rows ∷ tables) z) (sym b.2) (choice_of_more rows tables a.0 b.0 a.1 (choice_is tables b.0 b.1))

-- a row is in the value where a choice that meets the view gives it, and only there
pub value_choice : (v : ViewData) (tables : List (List Codes)) (r : Codes) → Has r (rows_of v tables) → (c : Choice) × IsRowOf v tables r c
value_choice v tables r h =
    let a = has_before (out_row v) r (filter (meets v) (choices tables)) h in
    let b = has_passed (meets v) a.0 (choices tables) a.1 in
    (a.0, record { choice_of = choice_is tables a.0 b.0; meets = b.1; row = a.2 })

pub value_row : (v : ViewData) (tables : List (List Codes)) (c : Choice) → IsChoiceOf tables c → meets v c ≡ true → Has (out_row v c) (rows_of v tables)
value_row v tables c d m = has_mapped (out_row v) c (filter (meets v) (choices tables)) (has_passing (meets v) c (choices tables) m (has_choice tables c d))

are_keyed : (keys : List (List ℕ)) (tables : List (List Codes)) → length tables ≡ length keys → ((i : ℕ) → i < length keys → IsKeyed (get_or keys i []) (get_or tables i [])) → AreKeyed keys tables
are_keyed [] tables e h = tt
are_keyed (k ∷ keys) [] e h = tt
are_keyed (k ∷ keys) (rows ∷ tables) e h = (h 0 (omega arith), are_keyed keys tables (omega arith) (λ i lt. h (suc i) (omega arith)))

module _ (v : KeyedView) (is : IsKeyedView v) (tables : List (List Codes)) (good : AreTables v tables) where
  pub value_in_order : IsKeyed v.columns (rows_of v.base tables)
  value_in_order = value_keyed v.base v.keys v.columns tables good.parts (are_keyed v.keys tables good.parts good.keyed) is.row_keys

  -- a key stands for one row of the value
  pub one_row : (r s : Codes) → Has r (rows_of v.base tables) → Has s (rows_of v.base tables) → at_columns v.columns r ≡ at_columns v.columns s → r ≡ s
  one_row r s h g e = same_row v.columns r s (rows_of v.base tables) value_in_order h g e
