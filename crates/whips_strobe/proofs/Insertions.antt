-- What the insertions of a transaction make of a manager.
use Rattle.std.proofs.Common.{◌≡◌, ◌≢◌, ◌⊎◌, inl, inr, ℕ, zero, suc, ◌+◌, ◌<◌, ◌≤◌, ◌==◌, true, false, cond, List, [], ◌∷◌, ◌++◌, map, refl, sym, ap, ap₂, ◌∙◌, arith, eq-eqb, ne_eqb, add-one, append-nil}
use Rattle.std.specs.Cmp.{nat_cmp_is}
use Rattle.std.proofs.lemmas.Bool.{cases_eq}
use Rattle.std.specs.List.{filter, flat_map, range_with_len, AllByRecursion}
use Rattle.std.specs.Ordering.{nat_cmp, ordering_then}
use Rattle.std.specs.declared.cmp.Ordering.TheVariants.{Less, Equal}
use Rattle.whips_model.specs.Tuples.{Codes, Columns}
use Rattle.whips_choices.specs.KeyedViews.{KeyedView}
use Rattle.whips_states.specs.Net.{by_part}
use Rattle.whips_steps.specs.Steps.{asked_sources}
use Rattle.whips_lists.specs.Lists.{places_from}
use Rattle.whips_lists.proofs.Places.{places_next}
use Rattle.whips_managers.specs.Managers.{Query, ManagerState, with_given, with_put, with_query, with_all_given, put_or_asked, with_pending, with_deletion, with_deletions}
use Rattle.whips_open_queries.specs.Names.{IsNamedBelow}
use Rattle.whips_strobe.specs.Parts.{tuples_at}

-- ---- names

-- the query is of an earlier transaction, or of this one and an earlier part
abbrev pub IsOfEarlier : ℕ → ℕ → Query → Type 0
IsOfEarlier number part q = (q.transaction < number) ⊎ ((q.transaction ≡ number) × (q.origin < part))

-- ---- one insertion after others

pub all_given_more : (v : KeyedView) (columns : Columns) (number : ℕ) (given : ℕ → List Codes) (parts : List ℕ) (part : ℕ) (m : ManagerState)
    → with_all_given v columns m number given (parts ++ part ∷ []) ≡ with_given v columns (with_all_given v columns m number given parts) number part (given part)
all_given_more v columns number given [] part m = refl
all_given_more v columns number given (p ∷ parts) part m = all_given_more v columns number given parts part (with_given v columns m number p (given p))

-- the insertion at one more part
pub given_next : (v : KeyedView) (columns : Columns) (number : ℕ) (given : ℕ → List Codes) (part : ℕ) (m now new : ManagerState) (ts : List Codes) → now ≡ with_all_given v columns m number given (places_from 0 part) → ts ≡ given part
    → new ≡ with_given v columns now number part ts → new ≡ with_all_given v columns m number given (places_from 0 (part + 1))
given_next v columns number given part m now new ts so_far are is =
    rw add-one (is ∙ ap (λ (w : ManagerState). with_given v columns w number part ts) so_far ∙ ap (with_given v columns (with_all_given v columns m number given (places_from 0 part)) number part) are ∙ sym (all_given_more v columns number given (places_from 0 part) part m) ∙ ap (with_all_given v columns m number given) (sym (places_next part)))

module _ (v : KeyedView) (columns : Columns) (m : ManagerState) (number part : ℕ) where
  pub given_put : (ts : List Codes) → ts ≢ [] → asked_sources v part ≡ [] → with_given v columns m number part ts ≡ with_put v columns m number part ts
  given_put [] some none = absurd (some refl)
  given_put (t ∷ ts) some none = ap (λ l. put_or_asked l (with_put v columns m number part (t ∷ ts)) (with_query v m number part (t ∷ ts))) none

  pub given_query : (ts : List Codes) → ts ≢ [] → asked_sources v part ≢ [] → with_given v columns m number part ts ≡ with_query v m number part ts
  given_query [] some asked = absurd (some refl)
  given_query (t ∷ ts) some asked = go (asked_sources v part) refl
    where
      go : (l : List ℕ) → asked_sources v part ≡ l → put_or_asked (asked_sources v part) (with_put v columns m number part (t ∷ ts)) (with_query v m number part (t ∷ ts)) ≡ with_query v m number part (t ∷ ts)
      go [] e = absurd (asked e)
      go (s ∷ l) e = ap (λ l. put_or_asked l (with_put v columns m number part (t ∷ ts)) (with_query v m number part (t ∷ ts))) e

  pub earlier_given : (ts : List Codes) → AllByRecursion (IsOfEarlier number part) m.queries → AllByRecursion (IsOfEarlier number (part + 1)) (with_given v columns m number part ts).queries
  earlier_given [] h = later m.queries h
    where
      later : (qs : List Query) → AllByRecursion (IsOfEarlier number part) qs → AllByRecursion (IsOfEarlier number (part + 1)) qs
      later [] h = tt
      later (q ∷ qs) h = (elim (h.0) [ inl lt ↦ inl lt | inr e ↦ inr (e.0, let lt = e.1 in omega arith) ], later qs h.1)
  earlier_given (t ∷ ts) h = go (asked_sources v part)
    where
      later : (qs : List Query) → AllByRecursion (IsOfEarlier number part) qs → AllByRecursion (IsOfEarlier number (part + 1)) qs
      later [] h = tt
      later (q ∷ qs) h = (elim (h.0) [ inl lt ↦ inl lt | inr e ↦ inr (e.0, let lt = e.1 in omega arith) ], later qs h.1)

      more : (qs : List Query) (q : Query) → AllByRecursion (IsOfEarlier number (part + 1)) qs → IsOfEarlier number (part + 1) q → AllByRecursion (IsOfEarlier number (part + 1)) (qs ++ q ∷ [])
      more [] q h p = (p, tt)
      more (r ∷ qs) q h p = (h.0, more qs q h.1 p)

      go : (l : List ℕ) → AllByRecursion (IsOfEarlier number (part + 1)) (put_or_asked l (with_put v columns m number part (t ∷ ts)) (with_query v m number part (t ∷ ts))).queries
      go [] = later m.queries h
      go (s ∷ l) = more m.queries _ (later m.queries h) (inr (refl, omega arith))

pub earlier_names : (number part : ℕ) (qs : List Query) → AllByRecursion (IsOfEarlier number part) qs → AllByRecursion (IsNamedBelow (number ∷ part ∷ [])) qs
earlier_names number part [] h = tt
earlier_names number part (q ∷ qs) h = (
  elim (h.0) [
    | inl lt ↦ ap (λ o. ordering_then o (ordering_then (nat_cmp q.origin part) Equal)) (sym (nat_cmp_is q.transaction number Less lt))
    | inr e ↦ ap₂ (λ o p. ordering_then o (ordering_then p Equal)) (sym (nat_cmp_is q.transaction number Equal e.0)) (sym (nat_cmp_is q.origin part Less e.1))
  ],
  earlier_names number part qs h.1,
)

pub all_earlier : (number : ℕ) (qs : List Query) → AllByRecursion (λ q. q.transaction < number) qs → AllByRecursion (IsOfEarlier number 0) qs
all_earlier number [] h = tt
all_earlier number (q ∷ qs) h = (inl h.0, all_earlier number qs h.1)

-- ---- the tuples of one part

tuples_append : (part : ℕ) (xs ys : List (ℕ × Codes)) → tuples_at part (xs ++ ys) ≡ tuples_at part xs ++ tuples_at part ys
tuples_append part [] ys = refl
tuples_append part (x ∷ xs) ys = elim (x.0 == part) as (λ b. map (λ (e : ℕ × Codes). e.1) (cond b (x ∷ filter (λ e. e.0 == part) (xs ++ ys)) (filter (λ e. e.0 == part) (xs ++ ys))) ≡ map (λ (e : ℕ × Codes). e.1) (cond b (x ∷ filter (λ e. e.0 == part) xs) (filter (λ e. e.0 == part) xs)) ++ tuples_at part ys) [
  | true ↦ ap (λ l. x.1 ∷ l) (tuples_append part xs ys)
  | false ↦ tuples_append part xs ys
]

tuples_own : (part : ℕ) (ts : List Codes) → tuples_at part (map (λ t. (part, t)) ts) ≡ ts
tuples_own part [] = refl
tuples_own part (t ∷ ts) = ap (λ b. map (λ (e : ℕ × Codes). e.1) (cond b ((part, t) ∷ filter (λ e. e.0 == part) (map (λ t. (part, t)) ts)) (filter (λ e. e.0 == part) (map (λ t. (part, t)) ts)))) (eq-eqb part part refl) ∙ ap (λ l. t ∷ l) (tuples_own part ts)

tuples_other : (part p : ℕ) (ts : List Codes) → (p == part) ≡ false → tuples_at part (map (λ t. (p, t)) ts) ≡ []
tuples_other part p [] e = refl
tuples_other part p (t ∷ ts) e = ap (λ b. map (λ (e : ℕ × Codes). e.1) (cond b ((p, t) ∷ filter (λ e. e.0 == part) (map (λ t. (p, t)) ts)) (filter (λ e. e.0 == part) (map (λ t. (p, t)) ts)))) e ∙ tuples_other part p ts e

module _ (f : ℕ → List Codes) (part : ℕ) where
  abbrev given_of : ℕ → List (ℕ × Codes)
  given_of p = map (λ t. (p, t)) (f p)

  none_after : (start n : ℕ) → part < start → tuples_at part (flat_map given_of (range_with_len start n)) ≡ []
  none_after start zero lt = refl
  none_after start (suc n) lt =
      let ne : start ≢ part = λ e. omega arith in
      tuples_append part (given_of start) (flat_map given_of (range_with_len (start + 1) n))
      ∙ ap₂ (λ a b. a ++ b) (tuples_other part start (f start) (ne_eqb start part ne)) (none_after (start + 1) n (omega arith))

  one_of : (start n : ℕ) → start ≤ part → part < start + n → tuples_at part (flat_map given_of (range_with_len start n)) ≡ f part
  one_of start zero low high = absurd (omega arith)
  one_of start (suc n) low high = tuples_append part (given_of start) (flat_map given_of (range_with_len (start + 1) n)) ∙ go (λ lt. one_of (start + 1) n lt (omega arith)) (cases_eq start part)
    where
      go : (start + 1 ≤ part → tuples_at part (flat_map given_of (range_with_len (start + 1) n)) ≡ f part) → (start ≡ part) ⊎ (start ≢ part) → tuples_at part (given_of start) ++ tuples_at part (flat_map given_of (range_with_len (start + 1) n)) ≡ f part
      go ih (inl e) =
          ap₂ (λ a b. a ++ b) (ap (λ p. tuples_at p (given_of start)) (sym e) ∙ tuples_own start (f start)) (none_after (start + 1) n (omega arith))
          ∙ append-nil (f start) ∙ ap f e
      go ih (inr ne) = ap₂ (λ a b. a ++ b) (tuples_other part start (f start) (ne_eqb start part ne)) (ih (omega arith))

  pub tuples_of_part : (n : ℕ) → part < n → tuples_at part (by_part n f) ≡ f part
  tuples_of_part n lt = one_of 0 n (omega arith) (omega arith)

-- ---- deletions before

earlier_pending : (number part : ℕ) (k : Codes) (qs : List Query) → AllByRecursion (λ q. q.transaction < number) qs → AllByRecursion (λ q. q.transaction < number) (map (with_pending part k) qs)
earlier_pending number part k [] h = tt
earlier_pending number part k (q ∷ qs) h = (h.0, earlier_pending number part k qs h.1)

pub earlier_deleted : (number : ℕ) (keys : List (ℕ × Codes)) (m : ManagerState) → AllByRecursion (λ q. q.transaction < number) m.queries → AllByRecursion (λ q. q.transaction < number) (with_deletions m keys).queries
earlier_deleted number [] m h = h
earlier_deleted number (e ∷ keys) m h = earlier_deleted number keys (with_deletion m e) (earlier_pending number e.0 e.1 m.queries h)
