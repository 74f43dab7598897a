-- What edits of open queries keep.
use Rattle.std.specs.Prelude.{◌↔◌, OnSome, IsSome}
use Rattle.std.proofs.Common.{◌≡◌, ℕ, zero, suc, ◌+◌, ◌<◌, ◌≤◌, true, false, Option, Some, None, List, [], ◌∷◌, ◌++◌, length, map, get_or, set, refl, sym, ap, ap₂, subst, arith}
use Rattle.std.specs.List.{AllByRecursion, remove}
use Rattle.std.proofs.lemmas.List.{drop-append-le, length-append, map-append}
use Rattle.std.specs.declared.cmp.Ordering.TheVariants.{Less}
use Rattle.whips_model.specs.Tuples.{Codes, codes_cmp}
use Rattle.whips_lists.specs.Lists.{changed_at}
use Rattle.whips_choices.specs.Partials.{Partial}
use Rattle.whips_managers.specs.Managers.{Query, with_pending, moved_on}
use Rattle.whips_open_queries.specs.Names.{name_codes, IsNamedBelow, AreInOrder}
use Rattle.whips_open_queries.specs.OpenQueries.{query_of, AreOver}
use Rattle.whips_open_queries.specs.declared.queries.OpenQuery.{OpenQuery}
use Rattle.whips_lists.proofs.Alls.{all_more, all_set, all_remove}

-- ---- the order of names

in_order_more : (qs : List Query) (q : Query) → AreInOrder qs → AllByRecursion (IsNamedBelow (name_codes q)) qs → AreInOrder (qs ++ q ∷ [])
in_order_more [] q h below = (tt, tt)
in_order_more (p ∷ qs) q h below = (all_more (λ r. IsNamedBelow (name_codes r) p) qs q h.0 below.0, in_order_more qs q h.1 below.1)

in_order_removed : (qs : List Query) (i : ℕ) → AreInOrder qs → AreInOrder (remove qs i)
in_order_removed [] zero h = tt
in_order_removed [] (suc i) h = tt
in_order_removed (q ∷ qs) zero h = h.1
in_order_removed (q ∷ qs) (suc i) h = (all_remove (λ r. IsNamedBelow (name_codes r) q) qs i h.0, in_order_removed qs i h.1)

-- queries with the same names are in the same order
in_order_same : (qs rs : List Query) → map name_codes qs ≡ map name_codes rs → AreInOrder qs → AreInOrder rs
in_order_same [] [] e h = tt
in_order_same [] (r ∷ rs) e h = absurd (cc)
in_order_same (q ∷ qs) [] e h = absurd (cc)
in_order_same (q ∷ qs) (r ∷ rs) e h =
    let first : name_codes q ≡ name_codes r = cc in
    let later : map name_codes qs ≡ map name_codes rs = cc in
    (below_same q r qs rs first later h.0, in_order_same qs rs later h.1)
  where
    below_same : (q r : Query) (qs rs : List Query) → name_codes q ≡ name_codes r → map name_codes qs ≡ map name_codes rs → AllByRecursion (λ s. IsNamedBelow (name_codes s) q) qs → AllByRecursion (λ s. IsNamedBelow (name_codes s) r) rs
    below_same q r [] [] first e h = tt
    below_same q r [] (s ∷ rs) first e h = absurd (cc)
    below_same q r (p ∷ qs) [] first e h = absurd (cc)
    below_same q r (p ∷ qs) (s ∷ rs) first e h =
        let one : name_codes p ≡ name_codes s = cc in
        let later : map name_codes qs ≡ map name_codes rs = cc in
        (subst (λ n. codes_cmp (name_codes r) n ≡ Less) one (subst (λ n. codes_cmp n (name_codes p) ≡ Less) first h.0), below_same q r qs rs first later h.1)

-- ---- lists that have an element

more_some : {X : Type 0} (xs : List X) (x : X) → xs ++ x ∷ [] ≡ [] → ⊥
more_some [] x e = cc
more_some (y ∷ xs) x e = cc

set_some : {X : Type 0} (xs : List X) (i : ℕ) (x : X) → i < length xs → set xs i x ≡ [] → ⊥
set_some [] i x lt e = omega arith
set_some (y ∷ xs) zero x lt e = cc
set_some (y ∷ xs) (suc i) x lt e = cc

-- ---- a query begins

pub over_more : (deleted : List (ℕ × Codes)) (items : List OpenQuery) (o : OpenQuery) → AreOver deleted items → o.since ≤ length deleted → AllByRecursion (IsNamedBelow (name_codes (query_of deleted o))) (map (query_of deleted) items) → AreOver deleted (items ++ o ∷ [])
over_more deleted items o over since below = record {
  in_order = subst AreInOrder (sym (map-append (query_of deleted) items (o ∷ []))) (in_order_more (map (query_of deleted) items) (query_of deleted o) over.in_order below);
  since = all_more (λ q. q.since ≤ length deleted) items o over.since since;
  dropped = λ e. absurd (more_some items o e);
}

-- ---- a deletion

module _ (deleted : List (ℕ × Codes)) (part : ℕ) (k : Codes) where
  pub seen_pending : (items : List OpenQuery) → AllByRecursion (λ q. q.since ≤ length deleted) items → map (query_of (deleted ++ (part, k) ∷ [])) items ≡ map (with_pending part k) (map (query_of deleted) items)
  seen_pending [] h = refl
  seen_pending (o ∷ items) h =
      ap₂ (λ (p : List (ℕ × Codes)) l. record (query_of deleted o) { pending = p } ∷ l) (drop-append-le o.since deleted ((part, k) ∷ []) h.0) (seen_pending items h.1)

  same_names : (items : List OpenQuery) → map name_codes (map (query_of deleted) items) ≡ map name_codes (map (query_of (deleted ++ (part, k) ∷ [])) items)
  same_names [] = refl
  same_names (o ∷ items) = ap (λ l. (o.transaction ∷ o.origin ∷ []) ∷ l) (same_names items)

  later_since : (items : List OpenQuery) → AllByRecursion (λ q. q.since ≤ length deleted) items → AllByRecursion (λ q. q.since ≤ length (deleted ++ (part, k) ∷ [])) items
  later_since [] h = tt
  later_since (o ∷ items) h = (let first = h.0 in omega (arith, length-append deleted ((part, k) ∷ [])), later_since items h.1)

  pub over_pending : (items : List OpenQuery) → AreOver deleted items → (items ≡ [] → ⊥) → AreOver (deleted ++ (part, k) ∷ []) items
  over_pending items over some = record {
    in_order = in_order_same (map (query_of deleted) items) (map (query_of (deleted ++ (part, k) ∷ [])) items) (same_names items) over.in_order;
    since = later_since items over.since;
    dropped = λ e. absurd (some e);
  }

-- ---- a query moves on

module _ (deleted : List (ℕ × Codes)) (ps : List Partial) where
  abbrev pub moved : OpenQuery → OpenQuery
  moved o = record o { step = o.step + 1; partials = ps }

  pub seen_moved : (items : List OpenQuery) (i : ℕ) (o : OpenQuery) → i < length items → o ≡ get_or items i o → map (query_of deleted) (set items i (moved o)) ≡ changed_at i (λ q. moved_on q ps) (map (query_of deleted) items)
  seen_moved [] i o lt e = absurd (omega arith)
  seen_moved (p ∷ items) zero o lt e = ap (λ z. query_of deleted (moved z) ∷ map (query_of deleted) items) e
  seen_moved (p ∷ items) (suc i) o lt e = ap (λ l. query_of deleted p ∷ l) (seen_moved items i o (omega arith) e)

  moved_names : (items : List OpenQuery) (i : ℕ) (o : OpenQuery) → i < length items → o ≡ get_or items i o → map name_codes (map (query_of deleted) items) ≡ map name_codes (map (query_of deleted) (set items i (moved o)))
  moved_names [] i o lt e = absurd (omega arith)
  moved_names (p ∷ items) zero o lt e = ap (λ (z : OpenQuery). (z.transaction ∷ z.origin ∷ []) ∷ map name_codes (map (query_of deleted) items)) (sym e)
  moved_names (p ∷ items) (suc i) o lt e = ap (λ l. (p.transaction ∷ p.origin ∷ []) ∷ l) (moved_names items i o (omega arith) e)

  since_at : (items : List OpenQuery) (i : ℕ) (o : OpenQuery) → i < length items → o ≡ get_or items i o → AllByRecursion (λ q. q.since ≤ length deleted) items → o.since ≤ length deleted
  since_at [] i o lt e h = absurd (omega arith)
  since_at (p ∷ items) zero o lt e h = subst (λ (z : OpenQuery). z.since ≤ length deleted) (sym e) h.0
  since_at (p ∷ items) (suc i) o lt e h = since_at items i o (omega arith) e h.1

  pub over_moved : (items : List OpenQuery) (i : ℕ) (o : OpenQuery) → AreOver deleted items → i < length items → o ≡ get_or items i o → AreOver deleted (set items i (moved o))
  over_moved items i o over lt e = record {
    in_order = in_order_same (map (query_of deleted) items) (map (query_of deleted) (set items i (moved o))) (moved_names items i o lt e) over.in_order;
    since = all_set (λ q. q.since ≤ length deleted) items i (moved o) over.since (since_at items i o lt e over.since);
    dropped = λ none. absurd (set_some items i (moved o) lt none);
  }

-- ---- a query is closed

pub seen_removed : (deleted : List (ℕ × Codes)) (items : List OpenQuery) (i : ℕ) → map (query_of deleted) (remove items i) ≡ remove (map (query_of deleted) items) i
seen_removed deleted [] zero = refl
seen_removed deleted [] (suc i) = refl
seen_removed deleted (o ∷ items) zero = refl
seen_removed deleted (o ∷ items) (suc i) = ap (λ l. query_of deleted o ∷ l) (seen_removed deleted items i)

pub over_removed : (deleted : List (ℕ × Codes)) (items : List OpenQuery) (i : ℕ) → AreOver deleted items → (remove items i ≡ [] → ⊥) → AreOver deleted (remove items i)
over_removed deleted items i over some = record {
  in_order = subst AreInOrder (sym (seen_removed deleted items i)) (in_order_removed (map (query_of deleted) items) i over.in_order);
  since = all_remove (λ q. q.since ≤ length deleted) items i over.since;
  dropped = λ e. absurd (some e);
}

-- what `remove` leaves, where the place is there
pub removed_is : {X : Type 0} (r : Option X) (old new : List X) (i n : ℕ) → OnSome r (new ≡ remove old i) → IsSome r ↔ (i < n) → i < n → new ≡ remove old i
removed_is None old new i n h is lt = let no : false ≡ true = is.1 lt in absurd (cc)
removed_is (Some x) old new i n h is lt = h
