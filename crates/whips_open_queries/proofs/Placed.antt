-- The places of deleted keys, as a deletion comes.
use Rattle.std.proofs.Common.{◌≡◌, inl, inr, ℕ, zero, suc, ◌<◌, ◌≤◌, Bool, true, false, cond, ◌&&◌, ◌||◌, Some, List, [], ◌∷◌, ◌++◌, length, drop, map, get_or, refl, sym, ap, ap₂, ◌∙◌, arith}
use Rattle.std.specs.Prelude.{nat_le}
use Rattle.std.specs.List.{list_any}
use Rattle.std.specs.Map.{lookup}
use Rattle.std.proofs.lemmas.Bool.{cases_lt}
use Rattle.std.proofs.lemmas.Bool.Decides.{nat_tests}
use Rattle.std.proofs.lemmas.Cmp.{nat_eq_equiv, nat_list_eq_equiv}
use Rattle.std.proofs.lemmas.List.{drop-append-le, length-append}
use Rattle.std.proofs.lemmas.List.Folds.{list_any-append}
use Rattle.whips_model.specs.Tuples.{Codes}
use Rattle.whips_open_queries.specs.Deletions.{is_entry, is_from, ArePlaced, pending_at}
use Rattle.whips_open_queries.specs.OpenQueries.{query_of}
use Rattle.whips_open_queries.specs.declared.queries.OpenQuery.{OpenQuery}

same_back : (e f : ℕ × Codes) → is_entry e f ≡ is_entry f e
same_back e f = ap₂ (λ a b. a && b) (nat_eq_equiv.symm e.0 f.0) (nat_list_eq_equiv.symm e.1 f.1)

drop_all : {X : Type 0} (n : ℕ) (xs : List X) → length xs ≤ n → drop n xs ≡ []
drop_all zero [] le = refl
drop_all (suc n) [] le = refl
drop_all zero (x ∷ xs) le = absurd (omega arith)
drop_all (suc n) (x ∷ xs) le = drop_all n xs (omega arith)

or_false : (a : Bool) → (a || false) ≡ a
or_false true = refl
or_false false = refl

or_true : (a : Bool) → (a || true) ≡ true
or_true true = refl
or_true false = refl

le_so : (m n : ℕ) → m ≤ n → nat_le m n ≡ true
le_so m n le = grind (arith, nat_tests)

le_not : (m n : ℕ) → n < m → nat_le m n ≡ false
le_not m n lt = grind (arith, nat_tests)

-- no deletion, no place
pub none_placed : ArePlaced [] []
none_placed e zero = refl
none_placed e (suc since) = refl

-- the key that comes stands at the end of the list, and has its place there
pub placed_more : (deleted : List (ℕ × Codes)) (old new : List ((ℕ × Codes) × ℕ)) (f : ℕ × Codes) → ArePlaced deleted old
    → ((e : ℕ × Codes) → lookup (is_entry e) new ≡ cond (is_entry f e) (Some (length deleted)) (lookup (is_entry e) old)) → ArePlaced (deleted ++ f ∷ []) new
placed_more deleted old new f h there e since = elim (cases_lt (length deleted) since) [
  | inl behind ↦ ap (list_any (is_entry e)) (drop_all since (deleted ++ f ∷ []) (omega (arith, length-append deleted (f ∷ [])))) ∙ sym (ap (is_from since) (there e) ∙ after behind (is_entry f e))
  | inr within ↦ ap (list_any (is_entry e)) (drop-append-le since deleted (f ∷ []) (omega arith)) ∙ list_any-append (is_entry e) (drop since deleted) (f ∷ []) ∙ before (omega arith) (is_entry f e) refl ∙ sym (ap (is_from since) (there e))
]
  where
    after : length deleted < since → (b : Bool) → is_from since (cond b (Some (length deleted)) (lookup (is_entry e) old)) ≡ false
    after lt true = le_not since (length deleted) lt
    after lt false = sym (h e since) ∙ ap (list_any (is_entry e)) (drop_all since deleted (omega arith))

    before : since ≤ length deleted → (b : Bool) → is_entry f e ≡ b → (list_any (is_entry e) (drop since deleted) || (is_entry e f || false)) ≡ is_from since (cond b (Some (length deleted)) (lookup (is_entry e) old))
    before le true is = ap (λ b. list_any (is_entry e) (drop since deleted) || (b || false)) (same_back e f ∙ is) ∙ or_true (list_any (is_entry e) (drop since deleted)) ∙ sym (le_so since (length deleted) le)
    before le false is = ap (λ b. list_any (is_entry e) (drop since deleted) || (b || false)) (same_back e f ∙ is) ∙ or_false (list_any (is_entry e) (drop since deleted)) ∙ h e since

-- what is pending for the query at a place
pub pending_seen : (deleted : List (ℕ × Codes)) (items : List OpenQuery) (i : ℕ) (o : OpenQuery) → i < length items → o ≡ get_or items i o → pending_at (map (query_of deleted) items) i ≡ drop o.since deleted
pending_seen deleted [] i o lt e = absurd (omega arith)
pending_seen deleted (p ∷ items) zero o lt e = ap (λ (z : OpenQuery). drop z.since deleted) (sym e)
pending_seen deleted (p ∷ items) (suc i) o lt e = pending_seen deleted items i o (omega arith) e
