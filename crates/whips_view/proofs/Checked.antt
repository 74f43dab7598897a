-- What follows where no refusal of a view's making holds.
use Rattle.std.proofs.Common.{◌≡◌, ◌⊎◌, inl, inr, ℕ, zero, suc, ◌+◌, ◌<◌, ◌==◌, ◌&&◌, ◌||◌, nat_le, Bool, true, false, cond, is_some, Option, Some, None, List, [], ◌∷◌, length, map, get_or, slice_get, refl, sym, ap, ap₂, subst, ◌∙◌, arith, eqb-true, eq-eqb}
use Rattle.std.specs.List.{list_any}
use Rattle.std.specs.Option.{option_or}
use Rattle.std.proofs.lemmas.Bool.{and_parts}
use Rattle.std.proofs.lemmas.List.{length-map}
use Rattle.std.proofs.lemmas.Option.{slice_get_within}
use Rattle.whips_model.specs.declared.Kind.{Kind}
use Rattle.whips_model.specs.declared.ColRef.{ColRef}
use Rattle.whips_model.specs.declared.Cond.{Cond}
use Rattle.whips_model.specs.Tuples.{Columns, AreColumns}
use Rattle.whips_model.specs.Views.{ViewData}
use Rattle.whips_lists.specs.Members.{Has, AreDistinct}
use Rattle.whips_lists.proofs.Members.{has_first, has_later, has_none, has_cases, has_either, has_before, has_mapped, all_from_has}
use Rattle.whips_choices.specs.Places.{column, place_of, joined, key_places_from}
use Rattle.whips_choices.proofs.Placed.{keyed_is}
use Rattle.whips_view.specs.declared.error.ViewErr.{ViewErr}
use Rattle.whips_view.specs.declared.error.ViewErr.TheVariants.{Limit, TwiceUsed, NoColumn, KeyMissing}
use Rattle.whips_view.specs.ViewDefs.{kind_of, kinds_in, is_within, are_within, IsWellFormed}
use Rattle.whips_view.specs.Refusals.{limit_refusal, twice_refusal, column_refusal, equality_columns, kinds_refusal, is_column, key_refusal_at, key_refusal, refusal_in}

-- ---- options and tests

or_none : (a b : Option ViewErr) → option_or a b ≡ None → (a ≡ None) × (b ≡ None)
or_none None b e = (refl, e)
or_none (Some x) b e = absurd (cc)

passed : (b : Bool) (x : ViewErr) (rest : Option ViewErr) → cond b rest (Some x) ≡ None → (b ≡ true) × (rest ≡ None)
passed true x rest e = (refl, e)
passed false x rest e = absurd (cc)

failed : (b : Bool) (x : ViewErr) (rest : Option ViewErr) → cond b (Some x) rest ≡ None → (b ≡ false) × (rest ≡ None)
failed true x rest e = absurd (cc)
failed false x rest e = (refl, e)

second_of : (a b c d f : Bool) → (a && b && c && d && f) ≡ true → b ≡ true
second_of a b c d f e = (and_parts a b (and_parts (a && b) c (and_parts (a && b && c) d (and_parts (a && b && c && d) f e).0).0).0).1

module _ {X : Type 0} (p : X → Bool) where
  any_of : (xs : List X) → list_any p xs ≡ true → (x : X) × Has x xs × (p x ≡ true)
  any_of [] e = absurd (cc)
  any_of (y ∷ xs) e = go (λ h. any_of xs h) (p y) refl e
    where
      go : (list_any p xs ≡ true → (x : X) × Has x xs × (p x ≡ true)) → (b : Bool) → p y ≡ b → (b || list_any p xs) ≡ true → (x : X) × Has x (y ∷ xs) × (p x ≡ true)
      go ih true h e = (y, has_first y xs, h)
      go ih false h e = let g = ih e in (g.0, has_later g.0 y xs g.1, g.2)

  none_of : (xs : List X) → list_any p xs ≡ false → (x : X) → Has x xs → p x ≡ false
  none_of [] e x h = absurd (has_none x h)
  none_of (y ∷ xs) e x h = go (λ g k. none_of xs g x k) (p y) refl e (has_cases x y xs h)
    where
      go : (list_any p xs ≡ false → Has x xs → p x ≡ false) → (b : Bool) → p y ≡ b → (b || list_any p xs) ≡ false → (x ≡ y) ⊎ Has x xs → p x ≡ false
      go ih true h e g = absurd (cc)
      go ih false h e (inl same) = ap p same ∙ h
      go ih false h e (inr k) = ih e k

-- ---- each check by itself

within : (parts : ViewData) → limit_refusal parts ≡ None → are_within parts ≡ true
within parts e = (passed (are_within parts) Limit None e).0

distinct : (relations : List ℕ) → twice_refusal relations ≡ None → AreDistinct relations
distinct [] e = tt
distinct (r ∷ relations) e =
    let b = failed (list_any (λ s. s == r) relations) (TwiceUsed r) (twice_refusal relations) e in
    (λ h. let f = none_of (λ s. s == r) relations b.0 r h in let t = eq-eqb r r refl in absurd (cc (f, t)), distinct relations b.1)

module _ (bases : List Columns) where
  columns_there : (columns : List ColRef) → column_refusal bases columns ≡ None → (at : ColRef) → Has at columns → is_some (kind_of bases at) ≡ true
  columns_there [] e at h = absurd (has_none at h)
  columns_there (x ∷ columns) e at h =
      let b = passed (is_some (kind_of bases x)) (NoColumn x) (column_refusal bases columns) e in
      elim (has_cases at x columns h) [ inl same ↦ subst (λ z. is_some (kind_of bases z) ≡ true) (sym same) b.0 | inr k ↦ columns_there columns b.1 at k ]

  pub part_there : (at : ColRef) → is_some (kind_of bases at) ≡ true → at.part < length bases
  part_there at e = go (slice_get bases at.part) refl e
    where
      go : (o : Option Columns) → slice_get bases at.part ≡ o → is_some (slice_get (kinds_in o) at.col) ≡ true → at.part < length bases
      go None g h = absurd (cc)
      go (Some base) g h = slice_get_within bases at.part base g

left_named : (pair : ColRef × ColRef) (equal : List (ColRef × ColRef)) → Has pair equal → Has pair.0 (equality_columns equal) × Has pair.1 (equality_columns equal)
left_named pair [] h = absurd (has_none pair h)
left_named pair (x ∷ equal) h = elim (has_cases pair x equal h) [
  | inl same ↦ subst (λ (z : ColRef × ColRef). Has z.0 (x.0 ∷ x.1 ∷ equality_columns equal) × Has z.1 (x.0 ∷ x.1 ∷ equality_columns equal)) (sym same) (has_first x.0 (x.1 ∷ equality_columns equal), has_later x.1 x.0 (x.1 ∷ equality_columns equal) (has_first x.1 (equality_columns equal)))
  | inr k ↦ let g = left_named pair equal k in (has_later pair.0 x.0 (x.1 ∷ equality_columns equal) (has_later pair.0 x.1 (equality_columns equal) g.0), has_later pair.1 x.0 (x.1 ∷ equality_columns equal) (has_later pair.1 x.1 (equality_columns equal) g.1))
]

-- ---- keys

module _ (out : List ColRef) where
  key_there : (part relation : ℕ) (key : List ℕ) → key_refusal_at out part relation key ≡ None → (c : ℕ) → Has c key → Has (column part c) out
  key_there part relation [] e c h = absurd (has_none c h)
  key_there part relation (d ∷ key) e c h =
      let b = passed (list_any (is_column part d) out) (KeyMissing relation d) (key_refusal_at out part relation key) e in
      elim (has_cases c d key h) [
        | inl same ↦
            let a = any_of (is_column part d) out b.0 in
            let k = and_parts (a.0.part == part) (a.0.col == d) a.2 in
            let is : a.0 ≡ column part d = ap₂ (λ i j. column i j) (eqb-true a.0.part part k.0) (eqb-true a.0.col d k.1) in
            subst (λ z. Has (column part z) out) (sym same) (subst (λ z. Has z out) is a.1)
        | inr k ↦ key_there part relation key b.1 c k
      ]

  abbrev pub HasKeys : ℕ → List (List ℕ) → Type 0
  HasKeys part keys = (p c : ℕ) → p < length keys → Has c (get_or keys p []) → Has (column (part + p) c) out

  keys_there : (part : ℕ) (relations : List ℕ) (bases : List Columns) → length bases ≡ length relations → key_refusal out part relations bases ≡ None → HasKeys part (map (λ b. b.key) bases)
  keys_there part [] [] w e p c lt h = absurd (omega arith)
  keys_there part [] (base ∷ bases) w e p c lt h = absurd (omega arith)
  keys_there part (r ∷ relations) [] w e p c lt h = absurd (omega arith)
  keys_there part (r ∷ relations) (base ∷ bases) w e zero c lt h =
      let b = or_none (key_refusal_at out part r base.key) (key_refusal out (suc part) relations bases) e in
      let same : part ≡ part + 0 = omega arith in
      subst (λ z. Has (column z c) out) same (key_there part r base.key b.0 c h)
  keys_there part (r ∷ relations) (base ∷ bases) w e (suc p) c lt h =
      let b = or_none (key_refusal_at out part r base.key) (key_refusal out (suc part) relations bases) e in
      let same : suc part + p ≡ part + suc p = omega arith in
      subst (λ z. Has (column z c) out) same (keys_there (suc part) relations bases (omega arith) b.1 p c (omega arith) h)

  place_below : (p c : ℕ) → Has (column p c) out → place_of out p c < length out
  place_below = go out
    where
      go : (out : List ColRef) (p c : ℕ) → Has (column p c) out → place_of out p c < length out
      go [] p c h = absurd (has_none (column p c) h)
      go (x ∷ out) p c h = step (λ k. go out p c k) ((x.part == p) && (x.col == c)) refl (has_cases (column p c) x out h)
        where
          step : (Has (column p c) out → place_of out p c < length out) → (b : Bool) → ((x.part == p) && (x.col == c)) ≡ b → (column p c ≡ x) ⊎ Has (column p c) out → cond b 0 (suc (place_of out p c)) < suc (length out)
          step ih true e g = omega arith
          step ih false e (inl same) = let a = eq-eqb x.part p (ap (λ z. z.part) (sym same)) in let b = eq-eqb x.col c (ap (λ z. z.col) (sym same)) in absurd (cc)
          step ih false e (inr k) = let lt = ih k in omega arith

  places_below : (part : ℕ) (keys : List (List ℕ)) → HasKeys part keys → (x : ℕ) → Has x (joined (key_places_from out part keys)) → x < length out
  places_below part [] h x g = absurd (has_none x g)
  places_below part (cols ∷ keys) h x g = elim (has_either x (map (place_of out part) cols) (joined (key_places_from out (suc part) keys)) g) [
    | inl k ↦
        let b = has_before (place_of out part) x cols k in
        let same : part + 0 ≡ part = omega arith in
        subst (λ z. z < length out) (sym b.2) (place_below part b.0 (subst (λ z. Has (column z b.0) out) same (h 0 b.0 (omega arith) b.1)))
    | inr k ↦ places_below (suc part) keys (λ p c lt m. let same : part + suc p ≡ suc part + p = omega arith in subst (λ z. Has (column z c) out) same (h (suc p) c (omega arith) m)) x k
  ]

-- ---- together

module _ (parts : ViewData) (bases : List Columns) (e : refusal_in (record { parts = parts; bases = bases }) ≡ None) where
  equal_ok : column_refusal bases (equality_columns parts.equal) ≡ None
  equal_ok = (or_none _ _ e).0

  conds_ok : column_refusal bases (map (λ c. c.at) parts.conds) ≡ None
  conds_ok = (or_none _ _ (or_none _ _ e).1).0

  out_ok : column_refusal bases parts.out ≡ None
  out_ok = (or_none _ _ (or_none _ _ (or_none _ _ e).1).1).0

  keys_ok : key_refusal parts.out 0 parts.relations bases ≡ None
  keys_ok =
      let a = or_none (column_refusal bases (equality_columns parts.equal)) _ e in
      let b = or_none (column_refusal bases (map (λ c. c.at) parts.conds)) _ a.1 in
      let d = or_none (column_refusal bases parts.out) _ b.1 in
      (or_none (kinds_refusal (record { parts = parts; bases = bases })) _ d.1).1

  module _ (w : length bases ≡ length parts.relations) where
    has_keys : HasKeys parts.out 0 (map (λ b. b.key) bases)
    has_keys = keys_there parts.out 0 parts.relations bases w keys_ok

    -- the key columns of the rows are columns of the rows
    pub rows_keyed : (kinds : List Kind) → length kinds ≡ length parts.out → AreColumns kinds (joined (key_places_from parts.out 0 (map (λ b. b.key) bases)))
    rows_keyed kinds same = all_from_has (λ c. c < length kinds) (joined (key_places_from parts.out 0 (map (λ b. b.key) bases))) (λ x h. let lt = places_below parts.out 0 (map (λ b. b.key) bases) has_keys x h in omega arith)

    pub well_formed : limit_refusal parts ≡ None → twice_refusal parts.relations ≡ None → IsWellFormed (record { parts = parts; bases = bases })
    well_formed limits once =
        let width : length (map (λ (b : Columns). b.key) bases) ≡ length bases = length-map bases (λ (b : Columns). b.key) in
        let inside = within parts limits in
        let homes = second_of (is_within 1 4 (length parts.relations)) (length parts.homes == length parts.relations) (nat_le (length parts.equal) 16) (nat_le (length parts.conds) 16) (is_within 1 16 (length parts.out)) inside in
        record {
          within = inside;
          bases = w;
          distinct = distinct parts.relations once;
          out = λ at h. columns_there bases parts.out out_ok at h;
          keyed = keyed_is parts (map (λ b. b.key) bases) (record {
            homes = eqb-true (length parts.homes) (length parts.relations) homes ∙ sym w ∙ sym width;
            equal = λ pair h.
                let named = left_named pair parts.equal h in
                let left = part_there bases pair.0 (columns_there bases (equality_columns parts.equal) equal_ok pair.0 named.0) in
                let right = part_there bases pair.1 (columns_there bases (equality_columns parts.equal) equal_ok pair.1 named.1) in
                (omega arith, omega arith);
            conds = λ c h. let lt = part_there bases c.at (columns_there bases (map (λ c. c.at) parts.conds) conds_ok c.at (has_mapped (λ (c : Cond). c.at) c parts.conds h)) in omega arith;
            out = λ p c lt h. let zero_more : 0 + p ≡ p = omega arith in subst (λ z. Has (column z c) parts.out) zero_more (has_keys p c lt h);
          });
        }
