-- A choice has a pending key exactly where the look-up at one of its parts finds one.
use Rattle.std.proofs.Common.{◌≡◌, ◌⊎◌, inl, inr, ℕ, zero, suc, ◌<◌, ◌≤◌, map, Bool, true, false, ◌&&◌, ◌||◌, nat_eq, nat_lt, Option, Some, None, List, [], ◌∷◌, length, refl, sym, ap, ap₂, subst, ◌∙◌, arith}
use Rattle.std.specs.Prelude.{slice_get, slice_index, slice_index_or}
use Rattle.std.specs.List.{list_any, AllByRecursion}
use Rattle.std.specs.Cmp.Lexicographic.{texts_ties}
use Rattle.std.proofs.lemmas.Bool.{cases_eq}
use Rattle.std.proofs.lemmas.Bool.Decides.{nat_tests}
use Rattle.whips_model.specs.Tuples.{Codes, Columns, at_columns}
use Rattle.whips_choices.specs.KeyedViews.{KeyedView}
use Rattle.whips_choices.specs.Partials.{Partial}
use Rattle.whips_steps.specs.Answers.{is_key, has_key_at, IsWhole}
use Rattle.whips_steps.specs.Filled.{IsFilledBefore}
use Rattle.whips_open_queries.specs.Deletions.{is_entry}
use Rattle.whips_strobe.specs.Strikes.{HasWidths, is_struck_at, is_struck_below}

or_swap : (a b c d : Bool) → ((a || b) || (c || d)) ≡ ((a || c) || (b || d))
or_swap true b c d = refl
or_swap false true true d = refl
or_swap false true false d = refl
or_swap false false c d = refl

or_false : (a : Bool) → (a || false) ≡ a
or_false true = refl
or_false false = refl

and_false : (a : Bool) → (a && false) ≡ false
and_false true = refl
and_false false = refl

-- a place past the end is not filled
past_end : (p : Partial) (n : ℕ) → length p ≤ n → slice_index_or p n None ≡ None
past_end [] n le = refl
past_end (s ∷ p) zero le = absurd (omega arith)
past_end (s ∷ p) (suc n) le = past_end p n (omega arith)

module _ (v : KeyedView) (p : Partial) where
  -- no key is pending
  none_below : (n : ℕ) → is_struck_below v.keys [] p n ≡ false
  none_below zero = refl
  none_below (suc n) = ap₂ (λ a b. a || b) (none_below n) (none_at (slice_index_or p n None))
    where
      none_at : (o : Option Codes) → is_struck_at [] n (slice_index_or v.keys n []) o ≡ false
      none_at None = refl
      none_at (Some t) = refl

  -- one key and the others
  more_below : (e : ℕ × Codes) (es : List (ℕ × Codes)) (n : ℕ) → is_struck_below v.keys (e ∷ es) p n ≡ (is_struck_below v.keys (e ∷ []) p n || is_struck_below v.keys es p n)
  more_below e es zero = refl
  more_below e es (suc n) =
      ap₂ (λ a b. a || b) (more_below e es n) (more_at (slice_index_or p n None))
      ∙ or_swap (is_struck_below v.keys (e ∷ []) p n) (is_struck_below v.keys es p n) (is_struck_at (e ∷ []) n (slice_index_or v.keys n []) (slice_index_or p n None)) (is_struck_at es n (slice_index_or v.keys n []) (slice_index_or p n None))
    where
      more_at : (o : Option Codes) → is_struck_at (e ∷ es) n (slice_index_or v.keys n []) o ≡ (is_struck_at (e ∷ []) n (slice_index_or v.keys n []) o || is_struck_at es n (slice_index_or v.keys n []) o)
      more_at None = refl
      more_at (Some t) = ap (λ a. a || list_any (is_entry (n, at_columns (slice_index_or v.keys n []) t)) es) (sym (or_false (is_entry (n, at_columns (slice_index_or v.keys n []) t) e)))

  -- one key at one part
  one_at : (e : ℕ × Codes) (n : ℕ) (columns : List ℕ) (o : Option Codes) → is_struck_at (e ∷ []) n columns o ≡ (nat_eq n e.0 && is_key columns e.1 o)
  one_at e n columns None = sym (and_false (nat_eq n e.0))
  one_at e n columns (Some t) = or_false (is_entry (n, at_columns columns t) e) ∙ ap (λ b. nat_eq n e.0 && b) (texts_ties (at_columns columns t) e.1)

  -- one key
  one_below : (e : ℕ × Codes) (n : ℕ) → is_struck_below v.keys (e ∷ []) p n ≡ (nat_lt e.0 n && has_key_at v p e)
  one_below e zero = ap (λ b. b && has_key_at v p e) (not_below e.0)
    where
      not_below : (k : ℕ) → false ≡ nat_lt k 0
      not_below k = grind (arith, nat_tests)
  one_below e (suc n) = ap₂ (λ a b. a || b) (one_below e n) (one_at e n (slice_index_or v.keys n []) (slice_index_or p n None)) ∙ elim (cases_eq n e.0) [
    | inl same ↦ here same (has_key_at v p e)
    | inr other ↦ there other (has_key_at v p e) (is_key (slice_index_or v.keys n []) e.1 (slice_index_or p n None))
  ]
    where
      bounds : n ≡ e.0 → (nat_lt e.0 n ≡ false) × (nat_eq n e.0 ≡ true) × (nat_lt e.0 (suc n) ≡ true)
      bounds same = (grind (arith, nat_tests), grind (arith, nat_tests), grind (arith, nat_tests))

      -- the key's own part
      here : n ≡ e.0 → (b : Bool) → ((nat_lt e.0 n && b) || (nat_eq n e.0 && is_key (slice_index_or v.keys n []) e.1 (slice_index_or p n None))) ≡ (nat_lt e.0 (suc n) && has_key_at v p e)
      here same b = let is = bounds same in
          ap₂ (λ x y. (x && b) || (y && is_key (slice_index_or v.keys n []) e.1 (slice_index_or p n None))) is.0 is.1
          ∙ ap (λ k. is_key (slice_index_or v.keys k []) e.1 (slice_index_or p k None)) same ∙ ap (λ x. x && has_key_at v p e) (sym is.2)

      -- another part
      apart : (n ≡ e.0 → ⊥) → (nat_eq n e.0 ≡ false) × (nat_lt e.0 n ≡ nat_lt e.0 (suc n))
      apart other = (grind (arith, nat_tests), below_same (e.0) n other)
        where
          below_same : (k n : ℕ) → (n ≡ k → ⊥) → nat_lt k n ≡ nat_lt k (suc n)
          below_same k n ne = grind (arith, nat_tests)

      there : (n ≡ e.0 → ⊥) → (b c : Bool) → ((nat_lt e.0 n && b) || (nat_eq n e.0 && c)) ≡ (nat_lt e.0 (suc n) && b)
      there other b c = let is = apart other in ap₂ (λ x y. (x && b) || (y && c)) is.1 is.0 ∙ or_false (nat_lt e.0 (suc n) && b)

  -- a key of a part that the choice doesn't have
  one_whole : (e : ℕ × Codes) (n : ℕ) → length p ≤ n → (nat_lt e.0 n && has_key_at v p e) ≡ has_key_at v p e
  one_whole e n le = go (nat_lt e.0 n) refl
    where
      past : (k n : ℕ) → nat_lt k n ≡ false → n ≤ k
      past k n is = grind (arith, nat_tests)

      go : (b : Bool) → nat_lt e.0 n ≡ b → (nat_lt e.0 n && has_key_at v p e) ≡ has_key_at v p e
      go true is = ap (λ b. b && has_key_at v p e) is
      go false is = let behind = past e.0 n is in
          ap (λ b. b && has_key_at v p e) is ∙ sym (ap (is_key (slice_index_or v.keys e.0 []) e.1) (past_end p e.0 (omega arith)))

  -- the look-ups at all parts find a pending key exactly where the choice has one
  pub struck_is : (pending : List (ℕ × Codes)) (n : ℕ) → length p ≤ n → is_struck_below v.keys pending p n ≡ list_any (has_key_at v p) pending
  struck_is [] n le = none_below n
  struck_is (e ∷ es) n le = more_below e es n ∙ ap₂ (λ a b. a || b) (one_below e n ∙ one_whole e n le) (struck_is es n le)

-- the look-up at a part finds a pending key
or_true : (b : Bool) → (b || true) ≡ true
or_true true = refl
or_true false = refl

pub found_struck : (keys : List (List ℕ)) (pending : List (ℕ × Codes)) (p : Partial) (n part : ℕ) → part < n → is_struck_at pending part (slice_index_or keys part []) (slice_index_or p part None) ≡ true → is_struck_below keys pending p n ≡ true
found_struck keys pending p zero part lt h = absurd (omega arith)
found_struck keys pending p (suc n) part lt h = go (λ below. found_struck keys pending p n part below h) (cases_eq part n)
  where
    go : (part < n → is_struck_below keys pending p n ≡ true) → (part ≡ n) ⊎ (part ≡ n → ⊥) → is_struck_below keys pending p (suc n) ≡ true
    go ih (inl e) = ap (λ b. is_struck_below keys pending p n || b) (subst (λ i. is_struck_at pending i (slice_index_or keys i []) (slice_index_or p i None) ≡ true) e h) ∙ or_true (is_struck_below keys pending p n)
    go ih (inr ne) = ap (λ b. b || is_struck_at pending n (slice_index_or keys n []) (slice_index_or p n None)) (ih (omega arith))

-- the tuple of a part has the width of its relation
pub wide_tuple : (bases : List Columns) (p : Partial) (part : ℕ) (base : Columns) (t : Codes) → HasWidths (map (λ (b : Columns). length b.kinds) bases) p → slice_get bases part ≡ Some base → slice_index_or p part None ≡ Some t → length t ≡ length base.kinds
wide_tuple bases p part base t wide at is = wide part t is ∙ width_at bases part at
  where
    width_at : (bases : List Columns) (part : ℕ) → slice_get bases part ≡ Some base → slice_index (map (λ (b : Columns). length b.kinds) bases) part ≡ length base.kinds
    width_at [] part e = absurd (cc)
    width_at (b ∷ bases) zero e = let same : b ≡ base = cc in ap (λ (z : Columns). length z.kinds) same
    width_at (b ∷ bases) (suc part) e = width_at bases part e

-- the look-up of the key of a part's tuple
pub struck_there : (bases : List Columns) (pending : List (ℕ × Codes)) (p : Partial) (part : ℕ) (base : Columns) (t k : Codes) (b : Bool) → slice_get bases part ≡ Some base → slice_index_or p part None ≡ Some t → k ≡ at_columns base.key t → b ≡ list_any (is_entry (part, k)) pending
    → b ≡ is_struck_at pending part (slice_index_or (map (λ (c : Columns). c.key) bases) part []) (slice_index_or p part None)
struck_there bases pending p part base t k b at is key found =
    found
    ∙ ap (λ z. list_any (is_entry (part, z)) pending) (key ∙ ap (λ columns. at_columns columns t) (sym (key_at bases part at)))
    ∙ sym (ap (is_struck_at pending part (slice_index_or (map (λ (c : Columns). c.key) bases) part [])) is)
  where
    key_at : (bases : List Columns) (part : ℕ) → slice_get bases part ≡ Some base → slice_index_or (map (λ (c : Columns). c.key) bases) part [] ≡ base.key
    key_at [] part e = absurd (cc)
    key_at (c ∷ bases) zero e = let same : c ≡ base = cc in ap (λ (z : Columns). z.key) same
    key_at (c ∷ bases) (suc part) e = key_at bases part e

-- tuples that are as a step's partial choices are to be have their relations' widths
pub filled_wide : (v : KeyedView) (widths : List ℕ) (origin step : ℕ) (ps : List Partial) → AllByRecursion (IsFilledBefore v widths origin step) ps → AllByRecursion (HasWidths widths) ps
filled_wide v widths origin step [] h = tt
filled_wide v widths origin step (p ∷ ps) h = (h.0.tuples, filled_wide v widths origin step ps h.1)

pub wide_at : (widths : List ℕ) (ps : List Partial) (i : ℕ) (p : Partial) → AllByRecursion (HasWidths widths) ps → slice_get ps i ≡ Some p → HasWidths widths p
wide_at widths [] i p h e = absurd (cc)
wide_at widths (q ∷ ps) zero p h e = let same : q ≡ p = cc in subst (λ (z : Partial). HasWidths widths z) same h.0
wide_at widths (q ∷ ps) (suc i) p h e = wide_at widths ps i p h.1 e

-- each choice has a place for each part
pub whole_at : (n : ℕ) (ps : List Partial) (i : ℕ) (p : Partial) → AllByRecursion (IsWhole n) ps → slice_get ps i ≡ Some p → length p ≡ n
whole_at n [] i p h e = absurd (cc)
whole_at n (q ∷ ps) zero p h e = let same : q ≡ p = cc in subst (λ (z : Partial). length z ≡ n) same (h.0).width
whole_at n (q ∷ ps) (suc i) p h e = whole_at n ps i p h.1 e
