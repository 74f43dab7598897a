-- A row has at a column's place what the choice has in the column.
use Rattle.std.proofs.Common.{◌≡◌, ◌⊎◌, inl, inr, ℕ, zero, suc, ◌+◌, ◌<◌, ◌==◌, ◌&&◌, Bool, true, false, cond, List, [], ◌∷◌, ◌++◌, length, map, get_or, refl, sym, ap, ap₂, subst, ◌∙◌, arith, eqb-true, eq-eqb}
use Rattle.std.proofs.lemmas.Bool.{and_parts, and_from}
use Rattle.std.proofs.lemmas.List.{map-append}
use Rattle.whips_model.specs.declared.ColRef.{ColRef}
use Rattle.whips_model.specs.Tuples.{at_columns}
use Rattle.whips_model.specs.Views.{Choice, code_at, out_row}
use Rattle.whips_model.specs.Keys.{joined_key}
use Rattle.whips_lists.specs.Members.{Has}
use Rattle.whips_lists.proofs.Members.{has_first, has_later, has_none, has_cases}
use Rattle.whips_choices.specs.Places.{column, place_of, joined, KeyColumns, key_places_from}

module _ (choice : Choice) where
  place_right : (out : List ColRef) (p c : ℕ) → Has (column p c) out → get_or (map (code_at choice) out) (place_of out p c) 0 ≡ code_at choice (column p c)
  place_right [] p c h = absurd (has_none (column p c) h)
  place_right (x ∷ out) p c h = go (λ g. place_right out p c g) ((x.part == p) && (x.col == c)) refl (has_cases (column p c) x out h)
    where
      go : (Has (column p c) out → get_or (map (code_at choice) out) (place_of out p c) 0 ≡ code_at choice (column p c)) → (b : Bool) → ((x.part == p) && (x.col == c)) ≡ b → (column p c ≡ x) ⊎ Has (column p c) out
          → get_or (code_at choice x ∷ map (code_at choice) out) (cond b 0 (suc (place_of out p c))) 0 ≡ code_at choice (column p c)
      go ih true e g =
          let b = and_parts (x.part == p) (x.col == c) e in
          ap₂ (λ i j. code_at choice (column i j)) (eqb-true x.part p b.0) (eqb-true x.col c b.1)
      go ih false e (inl same) =
          let a : ((x.part == p) && (x.col == c)) ≡ true = and_from (x.part == p) (x.col == c) (eq-eqb x.part p (ap (λ z. z.part) (sym same))) (eq-eqb x.col c (ap (λ z. z.col) (sym same))) in
          absurd (cc (a, e))
      go ih false e (inr g) = ih g

  -- the key of one part
  part_right : (out : List ColRef) (p : ℕ) (cols : List ℕ) → ((c : ℕ) → Has c cols → Has (column p c) out) → at_columns (map (place_of out p) cols) (map (code_at choice) out) ≡ at_columns cols (get_or choice p [])
  part_right out p [] h = refl
  part_right out p (c ∷ cols) h = ap₂ (λ x l. x ∷ l) (place_right out p c (h c (has_first c cols))) (part_right out p cols (λ d k. h d (has_later d c cols k)))

  place_at : (out : List ColRef) (p i : ℕ) (keys : List (List ℕ)) → i < length keys → get_or (key_places_from out p keys) i [] ≡ map (place_of out (p + i)) (get_or keys i [])
  place_at out p i [] lt = absurd (omega arith)
  place_at out p zero (cols ∷ keys) lt = let e : p ≡ p + 0 = omega arith in ap (λ z. map (place_of out z) cols) e
  place_at out p (suc i) (cols ∷ keys) lt = let e : suc p + i ≡ p + suc i = omega arith in place_at out (suc p) i keys (omega arith) ∙ ap (λ z. map (place_of out z) (get_or keys i [])) e

  -- the keys of the parts from p on, one after another
  keys_right : (out : List ColRef) (p : ℕ) (keys : List (List ℕ)) (rest : Choice) → length rest ≡ length keys → ((i : ℕ) → i < length keys → get_or rest i [] ≡ get_or choice (p + i) [])
      → ((i c : ℕ) → i < length keys → Has c (get_or keys i []) → Has (column (p + i) c) out) → at_columns (joined (key_places_from out p keys)) (map (code_at choice) out) ≡ joined_key keys rest
  keys_right out p [] rest e same h = refl
  keys_right out p (cols ∷ keys) [] e same h = absurd (omega arith)
  keys_right out p (cols ∷ keys) (t ∷ rest) e same h =
      let zero_more : p + 0 ≡ p = omega arith in
      let one_less : (i : ℕ) → p + suc i ≡ suc p + i = λ i. omega arith in
      map-append _ (map (place_of out p) cols) (joined (key_places_from out (suc p) keys))
      ∙ ap₂ (λ a b. a ++ b)
      (part_right out p cols (λ c k. subst (λ z. Has (column z c) out) zero_more (h 0 c (omega arith) k)) ∙ ap (at_columns cols) (sym (same 0 (omega arith) ∙ ap (λ z. get_or choice z []) zero_more)))
      (keys_right out (suc p) keys rest (omega arith) (λ i lt. same (suc i) (omega arith) ∙ ap (λ z. get_or choice z []) (one_less i)) (λ i c lt k. subst (λ z. Has (column z c) out) (one_less i) (h (suc i) c (omega arith) k)))

pub keyed_is : KeyColumns
keyed_is view keys checked = record {
  homes = checked.homes;
  equal = checked.equal;
  conds = checked.conds;
  part_keys = λ i c w lt. ap (λ z. at_columns z (out_row view c)) (place_at c view.out 0 i keys lt ∙ ap (λ z. map (place_of view.out z) (get_or keys i [])) (plain i)) ∙ part_right c view.out i (get_or keys i []) (λ d k. checked.out i d lt k);
  row_keys = λ c w. keys_right c view.out 0 keys c w (λ i lt. ap (λ z. get_or c z []) (sym (plain i))) (λ i d lt k. subst (λ z. Has (column z d) view.out) (sym (plain i)) (checked.out i d lt k));
}
  where
    plain : (i : ℕ) → 0 + i ≡ i
    plain i = omega arith
