-- The test that a reply fits is its condition.
use Rattle.std.proofs.Common.{◌≡◌, ◌≢◌, ◌⊎◌, inl, inr, ℕ, zero, suc, ◌+◌, ◌-◌, ◌<◌, ◌==◌, ◌&&◌, ◌||◌, not, Bool, true, false, Option, Some, None, is_some, List, [], ◌∷◌, length, take, refl, sym, ap, ap₂, subst, ◌∙◌, arith, eq-eqb, eqb-true, ne_eqb, is_eq}
use Rattle.std.specs.Prelude.{slice_index, slice_index_or}
use Rattle.std.specs.List.{list_any, list_all, AllByRecursion}
use Rattle.std.specs.declared.cmp.Ordering.{Ordering}
use Rattle.std.specs.declared.cmp.Ordering.TheVariants.{Less, Equal, Greater}
use Rattle.std.proofs.lemmas.Bool.{cases_eq}
use Rattle.whips_model.specs.Tuples.{Codes, at_columns, codes_cmp}
use Rattle.whips_lists.specs.Members.{Has}
use Rattle.whips_choices.specs.KeyedViews.{KeyedView}
use Rattle.whips_choices.specs.Partials.{Partial}
use Rattle.whips_choices.proofs.Rows.{codes_equal, codes_tied}
use Rattle.whips_steps.specs.Steps.{home, asked_sources, is_filled}
use Rattle.whips_steps.specs.Answers.{DifferInKey, AllDifferInKey}
use Rattle.whips_steps.specs.Filled.{IsFilledBefore}
use Rattle.whips_strobe.specs.Fitting.{is_filled_as, are_filled_before, is_filled_before, differ_at, differ_below, all_differ}

-- ---- which parts are filled

module _ (v : KeyedView) (origin step part : ℕ) where
  pub filled_origin : part ≡ origin → (part == origin) ≡ is_filled v origin (step + 1) part
  unfolding is_filled
  filled_origin e = eq-eqb part origin e ∙ sym (ap (λ b. b || list_any (λ s. s == home v part) (take (step + 1 - 1) (asked_sources v origin))) (eq-eqb part origin e))

  pub filled_asked : (sources : List ℕ) (source : ℕ) → sources ≡ asked_sources v origin → source ≡ home v part → part ≢ origin → list_any (λ s. s == source) (take step sources) ≡ is_filled v origin (step + 1) part
  unfolding is_filled
  filled_asked sources source all is ne =
      let back : step + 1 - 1 ≡ step = omega arith in
      ap (λ (l : List ℕ). list_any (λ s. s == source) (take step l)) all
      ∙ ap (λ z. list_any (λ s. s == z) (take step (asked_sources v origin))) is
      ∙ ap (λ n. list_any (λ s. s == home v part) (take n (asked_sources v origin))) (sym back)
      ∙ sym (ap (λ b. b || list_any (λ s. s == home v part) (take (step + 1 - 1) (asked_sources v origin))) (ne_eqb part origin ne))

-- ---- tests

and_both : (a b : Bool) → (a && b) ≡ true → (a ≡ true) × (b ≡ true)
and_both true b h = (refl, h)
and_both false b h = absurd (cc)

module _ {X : Type 0} (test : X → Bool) where
  all_has : (xs : List X) (x : X) → list_all test xs ≡ true → Has x xs → test x ≡ true
  unfolding Has
  all_has [] x h has = absurd has
  all_has (y ∷ xs) x h has = let both = and_both (test y) (list_all test xs) h in elim has [ inl same ↦ ap test same ∙ both.0 | inr later ↦ all_has xs x both.1 later ]

  has_all : (xs : List X) → ((x : X) → Has x xs → test x ≡ true) → list_all test xs ≡ true
  unfolding Has
  has_all [] h = refl
  has_all (x ∷ xs) h = ap₂ (λ a b. a && b) (h x (inl refl)) (has_all xs (λ y later. h y (inr later)))

  module _ (P : X → Type 0) where
    each_to : ((x : X) → test x ≡ true → P x) → (xs : List X) → list_all test xs ≡ true → AllByRecursion P xs
    each_to f [] h = tt
    each_to f (x ∷ xs) h = let both = and_both (test x) (list_all test xs) h in (f x both.0, each_to f xs both.1)

    each_from : ((x : X) → P x → test x ≡ true) → (xs : List X) → AllByRecursion P xs → list_all test xs ≡ true
    each_from f [] h = refl
    each_from f (x ∷ xs) h = ap₂ (λ a b. a && b) (f x h.0) (each_from f xs h.1)

-- ---- one partial choice

slot_to : (filled : Bool) (width : ℕ) (o : Option Codes) → is_filled_as filled width o ≡ true → (is_some o ≡ filled) × ((t : Codes) → o ≡ Some t → length t ≡ width)
slot_to true width None h = absurd (cc)
slot_to false width None h = (refl, λ t e. absurd (cc))
slot_to true width (Some t) h = (refl, λ u e. let same : t ≡ u = cc in ap length (sym same) ∙ eqb-true (length t) width h)
slot_to false width (Some t) h = absurd (cc)

slot_from : (filled : Bool) (width : ℕ) (o : Option Codes) → is_some o ≡ filled → ((t : Codes) → o ≡ Some t → length t ≡ width) → is_filled_as filled width o ≡ true
slot_from true width None e f = absurd (cc)
slot_from false width None e f = refl
slot_from true width (Some t) e f = eq-eqb (length t) width (f t refl)
slot_from false width (Some t) e f = absurd (cc)

within : (p : Partial) (part : ℕ) (t : Codes) → slice_index_or p part None ≡ Some t → part < length p
within [] part t e = absurd (cc)
within (o ∷ p) zero t e = omega arith
within (o ∷ p) (suc part) t e = let ih = within p part t e in omega arith

module _ (v : KeyedView) (widths : List ℕ) (origin step : ℕ) (p : Partial) where
  abbrev is_right : ℕ → Bool
  is_right part = is_filled_as (is_filled v origin step part) (slice_index widths part) (slice_index_or p part None)

  below_to : (n part : ℕ) → part < n → are_filled_before v widths origin step p n ≡ true → is_right part ≡ true
  below_to zero part lt h = absurd (omega arith)
  below_to (suc n) part lt h = go (λ below so_far. below_to n part below so_far) (and_both (are_filled_before v widths origin step p n) (is_right n) h) (cases_eq part n)
    where
      go : (part < n → are_filled_before v widths origin step p n ≡ true → is_right part ≡ true) → (are_filled_before v widths origin step p n ≡ true) × (is_right n ≡ true) → (part ≡ n) ⊎ (part ≢ n) → is_right part ≡ true
      go ih both (inl e) = ap is_right e ∙ both.1
      go ih both (inr ne) = ih (omega arith) both.0

  below_from : (n : ℕ) → ((part : ℕ) → part < n → is_right part ≡ true) → are_filled_before v widths origin step p n ≡ true
  below_from zero h = refl
  below_from (suc n) h = ap₂ (λ a b. a && b) (below_from n (λ part lt. h part (omega arith))) (h n (omega arith))

  -- a part isn't as it is to be
  pub part_missed : (n part : ℕ) → part < n → is_right part ≡ false → are_filled_before v widths origin step p n ≡ false
  part_missed n part lt wrong = go (are_filled_before v widths origin step p n) refl
    where
      go : (b : Bool) → are_filled_before v widths origin step p n ≡ b → b ≡ false
      go false e = refl
      go true e = let no : true ≡ false = sym (below_to n part lt e) ∙ wrong in absurd (cc)

  filled_to : is_filled_before v widths origin step p ≡ true → IsFilledBefore v widths origin step p
  filled_to h =
      let both = and_both (length p == length v.keys) (are_filled_before v widths origin step p (length v.keys)) h in
      let size : length p ≡ length v.keys = eqb-true (length p) (length v.keys) both.0 in
      record {
        parts = size;
        filled = λ part lt. (slot_to (is_filled v origin step part) (slice_index widths part) (slice_index_or p part None) (below_to (length v.keys) part lt both.1)).0;
        tuples = λ part t e. let lt = within p part t e in (slot_to (is_filled v origin step part) (slice_index widths part) (slice_index_or p part None) (below_to (length v.keys) part (omega arith) both.1)).1 t e;
      }

  filled_from : IsFilledBefore v widths origin step p → is_filled_before v widths origin step p ≡ true
  filled_from f = ap₂ (λ a b. a && b) (eq-eqb (length p) (length v.keys) f.parts)
      (below_from (length v.keys) (λ part lt. slot_from (is_filled v origin step part) (slice_index widths part) (slice_index_or p part None) (f.filled part lt) (f.tuples part)))

-- ---- two partial choices

differ_to : (a b : Codes) → not (is_eq (codes_cmp a b)) ≡ true → a ≢ b
differ_to a b h e = let tied = ap (λ o. not (is_eq o)) (codes_tied a b e) in absurd (cc (tied, h))

differ_from : (a b : Codes) → a ≢ b → not (is_eq (codes_cmp a b)) ≡ true
differ_from a b ne = go (codes_cmp a b) refl
  where
    go : (o : Ordering) → codes_cmp a b ≡ o → not (is_eq o) ≡ true
    go Less e = refl
    go Equal e = absurd (ne (codes_equal a b e))
    go Greater e = refl

key_within : (keys : List (List ℕ)) (part : ℕ) (a b : Codes) → at_columns (slice_index_or keys part []) a ≢ at_columns (slice_index_or keys part []) b → part < length keys
key_within [] part a b ne = absurd (ne refl)
key_within (k ∷ keys) zero a b ne = omega arith
key_within (k ∷ keys) (suc part) a b ne = let ih = key_within keys part a b ne in omega arith

module _ (keys : List (List ℕ)) (p q : Partial) where
  at_to : (part : ℕ) (s t : Option Codes) → slice_index_or p part None ≡ s → slice_index_or q part None ≡ t → differ_at (slice_index_or keys part []) s t ≡ true → DifferInKey keys p q
  at_to part None t e f h = absurd (cc)
  at_to part (Some s) None e f h = absurd (cc)
  at_to part (Some s) (Some t) e f h = record { part = part; left = s; right = t; in_left = e; in_right = f; differ = differ_to (at_columns (slice_index_or keys part []) s) (at_columns (slice_index_or keys part []) t) h }

  some_to : (n : ℕ) → differ_below keys p q n ≡ true → DifferInKey keys p q
  some_to zero h = absurd (cc)
  some_to (suc n) h = go (some_to n) (differ_below keys p q n) refl h
    where
      go : (differ_below keys p q n ≡ true → DifferInKey keys p q) → (b : Bool) → differ_below keys p q n ≡ b → (b || differ_at (slice_index_or keys n []) (slice_index_or p n None) (slice_index_or q n None)) ≡ true → DifferInKey keys p q
      go ih true e h = ih e
      go ih false e h = at_to n (slice_index_or p n None) (slice_index_or q n None) refl refl h

  or_right : (b : Bool) → (b || true) ≡ true
  or_right true = refl
  or_right false = refl

  at_from : (d : DifferInKey keys p q) → differ_at (slice_index_or keys d.part []) (slice_index_or p d.part None) (slice_index_or q d.part None) ≡ true
  at_from d = ap₂ (λ s t. differ_at (slice_index_or keys d.part []) s t) d.in_left d.in_right ∙ differ_from (at_columns (slice_index_or keys d.part []) d.left) (at_columns (slice_index_or keys d.part []) d.right) d.differ

  some_from : (d : DifferInKey keys p q) (n : ℕ) → d.part < n → differ_below keys p q n ≡ true
  some_from d zero lt = absurd (omega arith)
  some_from d (suc n) lt = go (λ below. some_from d n below) (cases_eq d.part n)
    where
      go : (d.part < n → differ_below keys p q n ≡ true) → (d.part ≡ n) ⊎ (d.part ≢ n) → differ_below keys p q (suc n) ≡ true
      go ih (inl e) = ap (λ b. differ_below keys p q n || b) (subst (λ i. differ_at (slice_index_or keys i []) (slice_index_or p i None) (slice_index_or q i None) ≡ true) e (at_from d)) ∙ or_right (differ_below keys p q n)
      go ih (inr ne) = ap (λ b. b || differ_at (slice_index_or keys n []) (slice_index_or p n None) (slice_index_or q n None)) (ih (omega arith))

  -- they differ in the key of a part
  pub found_different : (n part : ℕ) → part < n → differ_at (slice_index_or keys part []) (slice_index_or p part None) (slice_index_or q part None) ≡ true → differ_below keys p q n ≡ true
  found_different zero part lt h = absurd (omega arith)
  found_different (suc n) part lt h = go (λ below. found_different n part below h) (cases_eq part n)
    where
      go : (part < n → differ_below keys p q n ≡ true) → (part ≡ n) ⊎ (part ≢ n) → differ_below keys p q (suc n) ≡ true
      go ih (inl e) = ap (λ b. differ_below keys p q n || b) (subst (λ i. differ_at (slice_index_or keys i []) (slice_index_or p i None) (slice_index_or q i None) ≡ true) e h) ∙ or_right (differ_below keys p q n)
      go ih (inr ne) = ap (λ b. b || differ_at (slice_index_or keys n []) (slice_index_or p n None) (slice_index_or q n None)) (ih (omega arith))

  pair_from : DifferInKey keys p q → differ_below keys p q (length keys) ≡ true
  pair_from d = some_from d (length keys) (key_within keys d.part d.left d.right d.differ)

module _ (keys : List (List ℕ)) where
  differ_all_to : (ps : List Partial) → all_differ keys ps ≡ true → AllDifferInKey keys ps
  differ_all_to [] h = tt
  differ_all_to (p ∷ ps) h =
      let both = and_both (list_all (λ q. differ_below keys p q (length keys)) ps) (all_differ keys ps) h in
      (λ q has. some_to keys p q (length keys) (all_has (λ q. differ_below keys p q (length keys)) ps q both.0 has), differ_all_to ps both.1)

  differ_all_from : (ps : List Partial) → AllDifferInKey keys ps → all_differ keys ps ≡ true
  differ_all_from [] h = refl
  differ_all_from (p ∷ ps) h = ap₂ (λ a b. a && b) (has_all (λ q. differ_below keys p q (length keys)) ps (λ q has. pair_from keys p q (h.0 q has))) (differ_all_from ps h.1)

-- ---- all of a reply

module _ (v : KeyedView) (widths : List ℕ) (origin step : ℕ) (ps : List Partial) where
  pub replied_to : list_all (is_filled_before v widths origin step) ps ≡ true → AllByRecursion (IsFilledBefore v widths origin step) ps
  replied_to h = each_to (is_filled_before v widths origin step) (IsFilledBefore v widths origin step) (filled_to v widths origin step) ps h

  pub replied_from : AllByRecursion (IsFilledBefore v widths origin step) ps → list_all (is_filled_before v widths origin step) ps ≡ true
  replied_from h = each_from (is_filled_before v widths origin step) (IsFilledBefore v widths origin step) (filled_from v widths origin step) ps h

pub differ_is : (keys : List (List ℕ)) (ps : List Partial) → all_differ keys ps ≡ true → AllDifferInKey keys ps
differ_is keys ps h = differ_all_to keys ps h

pub is_differ : (keys : List (List ℕ)) (ps : List Partial) → AllDifferInKey keys ps → all_differ keys ps ≡ true
is_differ keys ps h = differ_all_from keys ps h
