-- A whole transaction keeps the invariant of a manager.
use Rattle.std.proofs.Common.{inl, inr, ℕ, ◌<◌, List, [], length, map, get_or, sym, ap, subst, arith}
use Rattle.std.specs.List.{filter}
use Rattle.whips_lists.specs.Members.{Has}
use Rattle.whips_model.specs.Tuples.{Codes, Columns, at_columns}
use Rattle.whips_model.specs.Relation.{Table}
use Rattle.whips_model.proofs.Keyed.{keyed_filter}
use Rattle.whips_lists.proofs.Members.{has_passing, has_passed, has_mapped, has_before}
use Rattle.whips_choices.specs.KeyedViews.{KeyedView, AreTables, part_key}
use Rattle.whips_states.specs.States.{Updates, applied, AreValid}
use Rattle.whips_states.specs.Concerns.{meets_part}
use Rattle.whips_states.specs.Net.{inserted, deleted, given_at, taken_at, taken, relation_at, by_part}
use Rattle.whips_lists.specs.Lists.{places_from}
use Rattle.whips_steps.specs.Answers.{tables_of}
use Rattle.whips_lists.proofs.Places.{below_is, is_below, places_distinct}
use Rattle.whips_managers.specs.Managers.{ManagerState, name_of, with_deletions, with_transaction}
use Rattle.whips_managers.specs.Invariants.{Keeps}
use Rattle.whips_manager_laws.specs.Laws.{Meets}
use Rattle.whips_manager_laws.proofs.Lawful.{change_unseen, renumbers}
use Rattle.whips_manager_trans_laws.specs.Laws.{AreRelationsOf, TransactionKeeps}
use Rattle.whips_manager_trans_laws.proofs.Keys.{IsNet}
use Rattle.whips_manager_trans_laws.proofs.Relations.{part_is, part_has, tables_good, relations_after, net_at}
use Rattle.whips_manager_trans_laws.proofs.Parts.{without_all, without_good, all_only, all_gone, all_stay, deletions_keep, deletions_last, with_parts, Fit, parts_stay, parts_have, parts_only, givens_keep, names_stay}

module _ (v : KeyedView) (columns : Columns) (db : List Table) (rows : List Codes) (m : ManagerState) (number : ℕ) (t : Updates) (rel : AreRelationsOf v db) (valid : AreValid db t) (later : m.last < number) (s : Keeps v (tables_of v.base db) rows m) where
  abbrev tables : List (List Codes)
  tables = tables_of v.base db

  abbrev after : List (List Codes)
  after = tables_of v.base (applied db t)

  abbrev key : ℕ → Codes → Codes
  key i u = at_columns (get_or v.keys i []) u

  abbrev ins : ℕ → List Codes
  ins i = inserted (relation_at v i) (part_key v i) t

  abbrev del : ℕ → List Codes
  del i = deleted (relation_at v i) (part_key v i) t

  -- all deleted keys, not just those taken
  abbrev named : List (ℕ × Codes)
  named = by_part (length v.keys) (λ i. map (at_columns (part_key v i)) (del i))

  abbrev kept : List (List Codes)
  kept = without_all v tables named

  net : (i : ℕ) → i < length v.keys → IsNet (part_key v i) (get_or tables i []) (get_or after i []) (ins i) (del i)
  net = net_at v db t rel valid

  named_in : (e : ℕ × Codes) → Has e named → e.0 < length v.keys
  named_in e h = (part_is (length v.keys) (λ i. map (at_columns (part_key v i)) (del i)) e h).0

  taken_in : (e : ℕ × Codes) → Has e (taken v t) → e.0 < length v.keys
  taken_in e h = (part_is (length v.keys) (taken_at v t) e h).0

  is_named : (i : ℕ) (k : Codes) → i < length v.keys → Has k (map (at_columns (part_key v i)) (del i)) → Has (i, k) named
  is_named i k lt h = part_has (length v.keys) (λ i. map (at_columns (part_key v i)) (del i)) i k lt h

  named_is : (i : ℕ) (k : Codes) → Has (i, k) named → Has k (map (at_columns (part_key v i)) (del i))
  named_is i k h = (part_is (length v.keys) (λ i. map (at_columns (part_key v i)) (del i)) (i, k) h).1

  kept_good : AreTables v kept
  kept_good = without_good v s.view named tables s.good named_in

  -- the deleted keys that aren't taken are of tuples that don't meet the view
  deleted_keep : Keeps v kept rows (with_deletions (record m { last = number }) (taken v t))
  deleted_keep = change_unseen v (without_all v tables (taken v t)) kept rows _ (deletions_keep v (taken v t) tables rows _ taken_in (renumbers v tables rows m number s (omega arith))) kept_good
      (λ i u lt meets h. all_stay v s.view named tables i u s.good named_in (there i u h) (λ k. all_gone v s.view (taken v t) tables i u s.good taken_in h (is_taken i u lt meets (there i u h) (named_is i (key i u) k))))
      (λ i u lt meets h. all_stay v s.view (taken v t) tables i u s.good taken_in (all_only v s.view named tables i u s.good named_in h)
      (λ k. all_gone v s.view named tables i u s.good named_in h (is_named i (key i u) lt (was_taken i (key i u) (part_is (length v.keys) (taken_at v t) (i, key i u) k).1))))
    where
      there : (i : ℕ) (u : Codes) → Has u (get_or (without_all v tables (taken v t)) i []) → Has u (get_or tables i [])
      there i u h = all_only v s.view (taken v t) tables i u s.good taken_in h

      is_taken : (i : ℕ) (u : Codes) → i < length v.keys → Meets v i u → Has u (get_or tables i []) → Has (key i u) (map (at_columns (part_key v i)) (del i)) → Has (i, key i u) (taken v t)
      is_taken i u lt meets h k = part_has (length v.keys) (taken_at v t) i (key i u) lt (has_mapped (at_columns (part_key v i)) u (filter (meets_part v.base i) (del i)) (has_passing (meets_part v.base i) u (del i) meets ((net i lt).deleted_is u h k)))

      was_taken : (i : ℕ) (k : Codes) → Has k (taken_at v t i) → Has k (map (at_columns (part_key v i)) (del i))
      was_taken i k h =
          let a = has_before (at_columns (part_key v i)) k (filter (meets_part v.base i) (del i)) h in
          subst (λ z. Has z (map (at_columns (part_key v i)) (del i))) (sym a.2) (has_mapped (at_columns (part_key v i)) a.0 (del i) (has_passed (meets_part v.base i) a.0 (del i) a.1).0)

  given_is : (i : ℕ) (u : Codes) → Has u (given_at v t i) → Has u (ins i) × Meets v i u
  given_is i u h = has_passed (meets_part v.base i) u (ins i) h

  fit : Fit v kept (given_at v t) (places_from 0 (length v.keys))
  fit i k =
      let lt = below_is (length v.keys) i k in (
        lt,
        keyed_filter (get_or v.keys i []) (meets_part v.base i) (ins i) (net i lt).rising,
        λ u h w g same. all_gone v s.view named tables i w s.good named_in g (is_named i (key i w) lt ((net i lt).inserted_new u w (given_is i u h).0 (all_only v s.view named tables i w s.good named_in g) same)),
        λ u h. (given_is i u h).1,
      )

  free : (i : ℕ) → Has i (places_from 0 (length v.keys)) → Has (number, i) (map name_of (with_deletions (record m { last = number }) (taken v t)).queries) → ⊥
  free i k h =
      let a = has_before name_of (number, i) m.queries (subst (λ l. Has (number, i) l) (names_stay v (taken v t) (record m { last = number })) h) in
      let le = s.invariant.numbered.known a.0 a.1 in
      let e = ap (λ z. z.0) a.2 in
      absurd (omega arith)

  given_keep : Keeps v (with_parts v kept (given_at v t) (places_from 0 (length v.keys))) rows (with_transaction v columns m number t)
  given_keep = givens_keep v columns (given_at v t) (places_from 0 (length v.keys)) kept rows _ number deleted_keep (places_distinct 0 (length v.keys)) fit (let e = deletions_last v (taken v t) (record m { last = number }) in omega arith) free

  -- the inserted tuples that aren't given don't meet the view
  pub taken_whole : Keeps v after rows (with_transaction v columns m number t)
  taken_whole = change_unseen v (with_parts v kept (given_at v t) (places_from 0 (length v.keys))) after rows _ given_keep (tables_good v (applied db t) (relations_after v db t rel valid)) to back
    where
      to : (i : ℕ) (u : Codes) → i < length v.keys → Meets v i u → Has u (get_or (with_parts v kept (given_at v t) (places_from 0 (length v.keys))) i []) → Has u (get_or after i [])
      to i u lt meets h = elim (parts_only v columns (given_at v t) (places_from 0 (length v.keys)) kept i u kept_good (places_distinct 0 (length v.keys)) fit h) [
        | inl g ↦ (net i lt).comes u (given_is i u g).0
        | inr g ↦ (net i lt).stays u (all_only v s.view named tables i u s.good named_in g) (λ k. all_gone v s.view named tables i u s.good named_in g (is_named i (key i u) lt k))
      ]

      back : (i : ℕ) (u : Codes) → i < length v.keys → Meets v i u → Has u (get_or after i []) → Has u (get_or (with_parts v kept (given_at v t) (places_from 0 (length v.keys))) i [])
      back i u lt meets h = elim ((net i lt).from u h) [
        | inl g ↦ parts_have v columns (given_at v t) (places_from 0 (length v.keys)) kept i u kept_good (places_distinct 0 (length v.keys)) fit (is_below (length v.keys) i lt) (has_passing (meets_part v.base i) u (ins i) meets g)
        | inr g ↦ parts_stay v columns (given_at v t) (places_from 0 (length v.keys)) kept i u kept_good (places_distinct 0 (length v.keys)) fit (all_stay v s.view named tables i u s.good named_in g.0 (λ k. g.1 (named_is i (key i u) k)))
      ]

pub transaction : TransactionKeeps
transaction v columns db rows m number t rel valid later s = taken_whole v columns db rows m number t rel valid later s
