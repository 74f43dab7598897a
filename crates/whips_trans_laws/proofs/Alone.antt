-- A tuple alone in its part.
use Rattle.std.proofs.Common.{◌≡◌, inl, inr, ℕ, ◌<◌, ◌==◌, ◌&&◌, Bool, true, false, cond, Some, None, List, [], ◌∷◌, get_or, refl, sym, ap, ap₂, subst, ◌∙◌, eq-eqb}
use Rattle.std.specs.List.{list_all}
use Rattle.std.specs.Option.{option_map}
use Rattle.std.proofs.lemmas.Bool.{cases_eq, ne_eqb}
use Rattle.whips_model.specs.declared.ColRef.{ColRef}
use Rattle.whips_model.specs.Tuples.{Codes}
use Rattle.whips_model.specs.Views.{compares}
use Rattle.whips_choices.specs.Partials.{slot, seed, code_on, may_be, may_pass, may_equal, may_hold}
use Rattle.whips_choices.proofs.Parts.{seed_at, seed_other}
use Rattle.whips_states.specs.Concerns.{meets_equality, meets_condition}
use Rattle.whips_states.specs.Laws.{MeetsAlone}

all_same : {X : Type 0} (f g : X → Bool) (xs : List X) → ((x : X) → f x ≡ g x) → list_all f xs ≡ list_all g xs
all_same f g [] h = refl
all_same f g (x ∷ xs) h = ap₂ (λ a b. a && b) (h x) (all_same f g xs h)

module _ (n i : ℕ) (t : Codes) (lt : i < n) where
  code_here : (at : ColRef) → code_on (seed n i t) at ≡ cond (at.part == i) (Some (get_or t at.col 0)) None
  code_here at = elim (cases_eq at.part i) [
    | inl e ↦ ap (option_map (λ t. get_or t at.col 0)) (subst (λ z. slot (seed n i t) z ≡ Some t) (sym e) (seed_at n i t lt)) ∙ ap (λ b. cond b (Some (get_or t at.col 0)) None) (sym (eq-eqb at.part i e))
    | inr ne ↦ ap (option_map (λ t. get_or t at.col 0)) (seed_other n i at.part t ne) ∙ ap (λ b. cond b (Some (get_or t at.col 0)) None) (sym (ne_eqb at.part i ne))
  ]

  both : (a b : Bool) (x y : ℕ) → may_be (cond a (Some x) None) (cond b (Some y) None) ≡ cond (a && b) (x == y) true
  both true true x y = refl
  both true false x y = refl
  both false b x y = refl

  one : (a : Bool) (test : ℕ → Bool) (x : ℕ) → may_pass test (cond a (Some x) None) ≡ cond a (test x) true
  one true test x = refl
  one false test x = refl

pub meets_is : MeetsAlone
meets_is view n i t lt = ap₂ (λ a b. a && b)
    (all_same (may_equal (seed n i t)) (meets_equality i t) view.equal (λ pair. ap₂ may_be (code_here n i t lt pair.0) (code_here n i t lt pair.1) ∙ both n i t lt (pair.0.part == i) (pair.1.part == i) (get_or t pair.0.col 0) (get_or t pair.1.col 0)))
    (all_same (may_hold (seed n i t)) (meets_condition i t) view.conds (λ c. ap (may_pass (λ x. compares c.cmp x c.code)) (code_here n i t lt c.at) ∙ one n i t lt (c.at.part == i) (λ x. compares c.cmp x c.code) (get_or t c.at.col 0)))
