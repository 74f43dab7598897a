-- Partial choices, extended by rows of their relations' widths.
use Rattle.std.proofs.Common.{◌≡◌, ◌≢◌, ◌⊎◌, inl, inr, ℕ, ◌<◌, ◌==◌, ◌||◌, Bool, true, false, Some, is_some, List, [], ◌∷◌, ◌++◌, length, map, get_or, sym, ap, subst, ◌∙◌, arith, eq-eqb, ne_eqb}
use Rattle.std.specs.List.{filter}
use Rattle.std.proofs.lemmas.Bool.{cases_eq}
use Rattle.std.proofs.lemmas.List.{length-set}
use Rattle.whips_model.specs.Tuples.{Codes, IsKeyed}
use Rattle.whips_lists.specs.Members.{Has, AreDistinct}
use Rattle.whips_model.specs.Views.{ViewData}
use Rattle.whips_lists.proofs.Members.{has_first, has_later, has_either, has_passed, has_before}
use Rattle.whips_choices.specs.Partials.{Partial, slot, meets_on, with_tuple, extended_at, extended}
use Rattle.whips_choices.proofs.Parts.{slot_set_same, slot_set_other, extended_from, ComesFrom}
use Rattle.whips_steps.specs.Answers.{DifferInKey, AllDifferInKey}
use Rattle.whips_steps.proofs.Fills.{with_filled, with_all, kept, differ_filter, differ_rows}

-- ---- any two differ in a key

module _ (keys : List (List ℕ)) where
  differ_kept : (p q : Partial) (i : ℕ) (t u : Codes) → is_some (slot p i) ≡ false → is_some (slot q i) ≡ false → DifferInKey keys p q → DifferInKey keys (with_tuple p i t) (with_tuple q i u)
  differ_kept p q i t u a b d = record {
    part = d.part;
    left = d.left;
    right = d.right;
    in_left = kept p i d.part d.left t a d.in_left;
    in_right = kept q i d.part d.right u b d.in_right;
    differ = d.differ;
  }

  differ_append : (xs ys : List Partial) → AllDifferInKey keys xs → AllDifferInKey keys ys → ((p q : Partial) → Has p xs → Has q ys → DifferInKey keys p q) → AllDifferInKey keys (xs ++ ys)
  differ_append [] ys h g d = g
  differ_append (x ∷ xs) ys h g d = (λ q k. elim (has_either q xs ys k) [ inl m ↦ h.0 q m | inr m ↦ d x q (has_first x xs) m ], differ_append xs ys h.1 g (λ p q m k. d p q (has_later p x xs m) k))

module _ (view : ViewData) (keys : List (List ℕ)) (widths : List ℕ) where
  -- filled exactly where f says so, by tuples of their widths
  pub record IsFilledAt (f : ℕ → Bool) (p : Partial) : Type 0 where
    pub parts : length p ≡ length keys
    pub filled : (j : ℕ) → j < length keys → is_some (slot p j) ≡ f j
    pub tuples : (j : ℕ) (t : Codes) → slot p j ≡ Some t → length t ≡ get_or widths j 0

  -- each is filled so, and any two differ in a key
  pub record AreFilledAt (f : ℕ → Bool) (ps : List Partial) : Type 0 where
    pub each : (p : Partial) → Has p ps → IsFilledAt f p
    pub differ : AllDifferInKey keys ps

  -- ---- one part more

  module _ (i : ℕ) (rows : List Codes) (lt : i < length keys) (keyed : IsKeyed (get_or keys i []) rows) (wide : (t : Codes) → Has t rows → length t ≡ get_or widths i 0) where
    differ_extended : (ps : List Partial) → ((p : Partial) → Has p ps → length p ≡ length keys) → ((p : Partial) → Has p ps → is_some (slot p i) ≡ false) → AllDifferInKey keys ps → AllDifferInKey keys (extended_at view i rows ps)
    differ_extended [] w empty h = tt
    differ_extended (p ∷ ps) w empty h =
        differ_append keys (filter (meets_on view) (map (λ t. with_tuple p i t) rows)) (extended_at view i rows ps)
        (differ_filter keys (meets_on view) _ (differ_rows keys p i rows (omega (arith, w p (has_first p ps))) keyed))
        (differ_extended ps (λ q k. w q (has_later q p ps k)) (λ q k. empty q (has_later q p ps k)) h.1)
        (λ a b m k. across a b (has_before (λ t. with_tuple p i t) a rows (has_passed (meets_on view) a _ m).0) (extended_from view i rows ps b k))
      where
        across : (a b : Partial) → (t : Codes) × Has t rows × (a ≡ with_tuple p i t) → ComesFrom view i rows ps b → DifferInKey keys a b
        across a b m k =
            let d = differ_kept keys p k.partial i m.0 k.tuple (empty p (has_first p ps)) (empty k.partial (has_later k.partial p ps k.there)) (h.0 k.partial k.there) in
            subst (λ z. DifferInKey keys z b) (sym m.2) (subst (λ z. DifferInKey keys (with_tuple p i m.0) z) (sym k.is) d)

    filled_once : (f : ℕ → Bool) (p : Partial) (t : Codes) → Has t rows → IsFilledAt f p → IsFilledAt (with_filled f i) (with_tuple p i t)
    filled_once f p t h g = record {
      parts = length-set p i (Some t) ∙ g.parts;
      filled = λ j below. filled j below (cases_eq j i);
      tuples = λ j u e. tuples j u e (cases_eq j i);
    }
      where
        here : slot (with_tuple p i t) i ≡ Some t
        here = slot_set_same p i t (omega (arith, g.parts))

        filled : (j : ℕ) → j < length keys → (j ≡ i) ⊎ (j ≢ i) → is_some (slot (with_tuple p i t) j) ≡ ((j == i) || f j)
        filled j below (inl e) = subst (λ z. is_some (slot (with_tuple p i t) z) ≡ true) (sym e) (ap is_some here) ∙ ap (λ b. b || f j) (sym (eq-eqb j i e))
        filled j below (inr ne) = ap is_some (slot_set_other p i j t ne) ∙ g.filled j below ∙ ap (λ b. b || f j) (sym (ne_eqb j i ne))

        tuples : (j : ℕ) (u : Codes) → slot (with_tuple p i t) j ≡ Some u → (j ≡ i) ⊎ (j ≢ i) → length u ≡ get_or widths j 0
        tuples j u e (inl same) =
            let there : slot (with_tuple p i t) i ≡ Some u = subst (λ z. slot (with_tuple p i t) z ≡ Some u) same e in
            let is : t ≡ u = cc (here, there) in
            subst (λ z. length u ≡ get_or widths z 0) (sym same) (subst (λ z. length z ≡ get_or widths i 0) is (wide t h))
        tuples j u e (inr ne) = g.tuples j u (sym (slot_set_other p i j t ne) ∙ e)

    pub fill_once : (f : ℕ → Bool) (ps : List Partial) → f i ≡ false → AreFilledAt f ps → AreFilledAt (with_filled f i) (extended_at view i rows ps)
    fill_once f ps free h = record {
      each = λ q k. let x = extended_from view i rows ps q k in subst (λ z. IsFilledAt (with_filled f i) z) (sym x.is) (filled_once f x.partial x.tuple x.row (h.each x.partial x.there));
      differ = differ_extended ps (λ p k. (h.each p k).parts) (λ p k. (h.each p k).filled i lt ∙ free) h.differ;
    }

  -- ---- all parts of a step

  pub fill_parts : (tables : List (List Codes)) (f : ℕ → Bool) (parts : List ℕ) (ps : List Partial) → AreDistinct parts → ((i : ℕ) → Has i parts → (i < length keys) × (f i ≡ false))
      → ((i : ℕ) → Has i parts → IsKeyed (get_or keys i []) (get_or tables i [])) → ((i : ℕ) (t : Codes) → Has i parts → Has t (get_or tables i []) → length t ≡ get_or widths i 0)
      → AreFilledAt f ps → AreFilledAt (with_all f parts) (extended view tables parts ps)
  fill_parts tables f [] ps d free keyed wide h = h
  fill_parts tables f (i ∷ parts) ps d free keyed wide h =
      let first = free i (has_first i parts) in
      fill_parts tables (with_filled f i) parts _ d.1
      (λ j k. ((free j (has_later j i parts k)).0, ap (λ b. b || f j) (ne_eqb j i (λ e. d.0 (subst (λ z. Has z parts) e k))) ∙ (free j (has_later j i parts k)).1))
      (λ j k. keyed j (has_later j i parts k)) (λ j t k g. wide j t (has_later j i parts k) g)
      (fill_once i (get_or tables i []) first.0 (keyed i (has_first i parts)) (λ t g. wide i t (has_first i parts) g) f ps first.1 h)
