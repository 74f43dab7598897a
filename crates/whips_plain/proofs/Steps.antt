-- One change is made.
use Rattle.std.proofs.Common.{◌≡◌, ℕ, zero, suc, ◌+◌, ◌<◌, ◌≤◌, List, [], ◌∷◌, length, get_or, refl, sym, ap, ap₂, subst, ◌∙◌, arith, inl, inr}
use Rattle.std.specs.Prelude.{set}
use Rattle.std.specs.List.{sum_by}
use Rattle.std.proofs.lemmas.Bool.{cases_lt}
use Rattle.std.proofs.lemmas.List.Sums.{sum_by-cons}
use Rattle.whips_rel.specs.declared.update.Change.{Change}
use Rattle.whips_store.specs.Stores.{ViewState, no_view}
use Rattle.whips_store.specs.Calls.{changed_view, views_changed}
use Rattle.whips_plain_store.specs.Plain.{changed_first}
use Rattle.whips_faithful_laws.proofs.Shapes.{by_left}

-- the first x views have no change left
abbrev pub NoneBefore : ℕ → List ViewState → Type 0
NoneBefore x vs = (k : ℕ) → k < x → (get_or vs k no_view).left ≡ []

pub none_at_first : (vs : List ViewState) → NoneBefore 0 vs
none_at_first vs k lt = absurd (omega arith)

left_of : ViewState → ℕ
left_of v = length v.left

module _ (n c : ℕ) where
  abbrev first_by_left : ViewState → List Change → ViewState
  first_by_left v left = elim left [
    | [] ↦ v
    | change ∷ others ↦ changed_view n c change others v
  ]

  at_head : (v : ViewState) (vs : List ViewState) (left : List Change) → 0 < length left → by_left n c v vs left ≡ first_by_left v left ∷ vs
  at_head v vs [] lt = absurd (omega arith)
  at_head v vs (change ∷ others) lt = refl

  -- the change is made in the first view that has one left
  pub changed_at : (vs : List ViewState) (x : ℕ) → NoneBefore x vs → x < length vs → 0 < length (get_or vs x no_view).left → set vs x (changed_first n c (get_or vs x no_view)) ≡ views_changed n c vs
  changed_at [] x none lt some = absurd (omega arith)
  changed_at (v ∷ vs) zero none lt some = sym (at_head v vs v.left some)
  changed_at (v ∷ vs) (suc x) none lt some =
      ap (λ l. v ∷ l) (changed_at vs x (λ k below. none (suc k) (omega (arith, below))) (omega arith) some) ∙ sym (ap (by_left n c v vs) (none 0 (omega arith)))

  pub none_changed : (vs : List ViewState) (x : ℕ) → NoneBefore x vs → length vs ≤ x → vs ≡ views_changed n c vs
  none_changed [] x none le = refl
  none_changed (v ∷ vs) zero none le = absurd (omega arith)
  none_changed (v ∷ vs) (suc x) none le =
      ap (λ l. v ∷ l) (none_changed vs x (λ k below. none (suc k) (omega (arith, below))) (omega arith)) ∙ sym (ap (by_left n c v vs) (none 0 (omega arith)))

get_or_any : (l : List ViewState) (i : ℕ) (d e : ViewState) → i < length l → get_or l i d ≡ get_or l i e
get_or_any [] i d e lt = absurd (omega arith)
get_or_any (y ∷ l) zero d e lt = refl
get_or_any (y ∷ l) (suc i) d e lt = get_or_any l i d e (omega arith)

-- the call finds the first view that has a change left
pub change_there : (n c : ℕ) (vs mid : List ViewState) (seen held made : ViewState) (m x : ℕ) → mid ≡ vs → NoneBefore x vs → x < length mid → seen ≡ get_or mid x seen → m ≡ length seen.left → 0 < m → held ≡ get_or mid x held
    → made ≡ changed_first n c held → set mid x made ≡ views_changed n c vs
change_there n c vs mid seen held made m x same none lt is counts some at new =
    let here : seen ≡ get_or vs x no_view = is ∙ get_or_any mid x seen no_view lt ∙ ap (λ l. get_or l x no_view) same in
    let held_here : held ≡ get_or vs x no_view = at ∙ get_or_any mid x held no_view lt ∙ ap (λ l. get_or l x no_view) same in
    let left : 0 < length (get_or vs x no_view).left = subst (λ (v : ViewState). 0 < length v.left) here (subst (λ k. 0 < k) counts some) in
    ap₂ (λ l v. set l x v) same (new ∙ ap (changed_first n c) held_here) ∙ changed_at n c vs x none (subst (λ l. x < length l) same lt) left

pub none_there : (n c : ℕ) (vs mid : List ViewState) (x : ℕ) → mid ≡ vs → NoneBefore x vs → length mid ≤ x → mid ≡ views_changed n c vs
none_there n c vs mid x same none le = same ∙ none_changed n c vs x none (subst (λ l. length l ≤ x) same le)

pub none_yet : (vs mid : List ViewState) (seen : ViewState) (m x : ℕ) → mid ≡ vs → NoneBefore x vs → x < length mid → seen ≡ get_or mid x seen → m ≡ length seen.left → m ≤ 0 → NoneBefore (x + 1) vs
none_yet vs mid seen m x same none lt is counts nought k below = elim (cases_lt k x) [
  | inl before ↦ none k before
  | inr from ↦
      let at : k ≡ x = omega (arith, below, from) in
      let here : seen ≡ get_or vs x no_view = is ∙ get_or_any mid x seen no_view lt ∙ ap (λ l. get_or l x no_view) same in
      nothing (get_or vs k no_view).left (ap (λ (v : ViewState). length v.left) (ap (λ i. get_or vs i no_view) at ∙ sym here) ∙ sym counts ∙ omega (arith, nought))
]
  where
    nothing : (left : List Change) → length left ≡ 0 → left ≡ []
    nothing [] e = refl
    nothing (y ∷ left) e = absurd (omega (arith, e))

-- ---- no change is left

none_at_all : (vs : List ViewState) → NoneBefore (length vs) vs → sum_by (λ (v : ViewState). length v.left) vs ≡ 0
none_at_all [] none = refl
none_at_all (v ∷ vs) none =
    let rest = none_at_all vs (λ k below. none (suc k) (omega (arith, below))) in
    let here = ap length (none 0 (omega arith)) in
    let both = sum_by-cons (λ (v : ViewState). length v.left) v vs in
    omega (arith, rest, here, both)

pub none_in_all : (vs : List ViewState) (x : ℕ) → NoneBefore x vs → length vs ≤ x → sum_by (λ (v : ViewState). length v.left) vs ≡ 0
none_in_all vs x none all = none_at_all vs (λ k below. none k (omega (arith, below, all)))
