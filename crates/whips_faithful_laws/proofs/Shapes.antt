-- What the calls of a store keep of its views: how many there are, the columns and the slots of each, and how many changes are left.
use Rattle.std.proofs.Common.{◌≡◌, ℕ, zero, suc, ◌+◌, ◌-◌, ◌<◌, List, [], ◌∷◌, length, map, get_or, Option, Some, None, refl, sym, ap, ◌∙◌, arith}
use Rattle.std.specs.List.{sum_by}
use Rattle.std.proofs.Math.ListN.{get_or-map}
use Rattle.std.proofs.lemmas.List.{length-set}
use Rattle.std.proofs.lemmas.List.Sums.{sum_by-cons}
use Rattle.whips_rel.specs.declared.update.Change.{Change}
use Rattle.whips_net.specs.Made.{change_key}
use Rattle.whips_vnl.specs.Records.{steps_after}
use Rattle.whips_vnl.specs.declared.record.Vstep.{Vstep}
use Rattle.whips_store.specs.Stores.{ViewState, ChangeLists, no_view}
use Rattle.whips_store.specs.Calls.{AreNet, views_with, records_with, slot_for, changed_view, views_changed}

-- the views once the first change is made, by what is left in the first of them
abbrev pub by_left : ℕ → ℕ → ViewState → List ViewState → List Change → List ViewState
by_left n c v vs left = elim left [
  | [] ↦ v ∷ views_changed n c vs
  | change ∷ others ↦ changed_view n c change others v ∷ vs
]

-- ---- how many views

pub net_length : (vs : List ViewState) (cs : ChangeLists) → AreNet vs cs → length cs ≡ length vs
net_length [] [] net = refl
net_length [] (c ∷ cs) net = absurd net
net_length (v ∷ vs) [] net = absurd net
net_length (v ∷ vs) (c ∷ cs) net = ap suc (net_length vs cs net.1)

pub begun_length : (vs : List ViewState) (cs : ChangeLists) → length (views_with vs cs) ≡ length vs
begun_length [] cs = refl
begun_length (v ∷ vs) [] = refl
begun_length (v ∷ vs) (c ∷ cs) = ap suc (begun_length vs cs)

pub changed_length : (n c : ℕ) (vs : List ViewState) → length (views_changed n c vs) ≡ length vs
changed_length n c [] = refl
changed_length n c (v ∷ vs) = go v.left (changed_length n c vs)
  where
    go : (left : List Change) → length (views_changed n c vs) ≡ length vs → length {A = ViewState} (by_left n c v vs left) ≡ suc (length vs)
    go [] more = ap suc more
    go (change ∷ others) more = refl

-- ---- columns and slots

-- two views with as many slots and the same columns
abbrev pub AreAlike : ViewState → ViewState → Type 0
AreAlike v w = (length v.records ≡ length w.records) × (v.columns ≡ w.columns)

pub begun_alike : (vs : List ViewState) (cs : ChangeLists) (x : ℕ) → AreAlike (get_or (views_with vs cs) x no_view) (get_or vs x no_view)
begun_alike [] cs x = (refl, refl)
begun_alike (v ∷ vs) [] x = (refl, refl)
begun_alike (v ∷ vs) (c ∷ cs) zero = (refl, refl)
begun_alike (v ∷ vs) (c ∷ cs) (suc x) = begun_alike vs cs x

pub changed_slots : (n c : ℕ) (change : Change) (o : Option ℕ) (records : List (List Vstep)) → length (records_with n c change o records) ≡ length records
changed_slots n c change None records = refl
changed_slots n c change (Some i) records = length-set records i (steps_after n (suc c) change (get_or records i []))

pub changed_alike : (n c : ℕ) (vs : List ViewState) (x : ℕ) → AreAlike (get_or (views_changed n c vs) x no_view) (get_or vs x no_view)
changed_alike n c [] x = (refl, refl)
changed_alike n c (v ∷ vs) x = go v.left x (λ y. changed_alike n c vs y)
  where
    go : (left : List Change) (x : ℕ) → ((y : ℕ) → AreAlike (get_or (views_changed n c vs) y no_view) (get_or vs y no_view)) → AreAlike (get_or (by_left n c v vs left) x no_view) (get_or (v ∷ vs) x no_view)
    go [] zero more = (refl, refl)
    go [] (suc x) more = more x
    go (change ∷ others) zero more = (changed_slots n c change (slot_for n c v.columns.key (change_key v.columns.key change) v.records) v.records, refl)
    go (change ∷ others) (suc x) more = (refl, refl)

pub published_alike : (vs : List ViewState) (x : ℕ) → AreAlike (get_or (map (λ (v : ViewState). record v { current = v.next }) vs) x no_view) (get_or vs x no_view)
published_alike vs x = let same = get_or-map (λ (v : ViewState). record v { current = v.next }) vs x no_view in (ap (λ (v : ViewState). length v.records) same, ap (λ (v : ViewState). v.columns) same)

-- ---- changes left

-- one change fewer is left
pub one_fewer : (n c : ℕ) (vs : List ViewState) → 0 < sum_by (λ (v : ViewState). length v.left) vs → sum_by (λ (v : ViewState). length v.left) (views_changed n c vs) ≡ sum_by (λ (v : ViewState). length v.left) vs - 1
one_fewer n c [] some = absurd (omega (arith, some))
one_fewer n c (v ∷ vs) some = go v.left refl (λ more. one_fewer n c vs more)
  where
    go : (left : List Change) → v.left ≡ left → (0 < sum_by (λ (v : ViewState). length v.left) vs → sum_by (λ (v : ViewState). length v.left) (views_changed n c vs) ≡ sum_by (λ (v : ViewState). length v.left) vs - 1)
        → sum_by (λ (v : ViewState). length v.left) (by_left n c v vs left) ≡ sum_by (λ (v : ViewState). length v.left) (v ∷ vs) - 1
    go [] e more =
        let none : length v.left ≡ 0 = ap length e in
        let a = sum_by-cons (λ (v : ViewState). length v.left) v vs in
        let b = sum_by-cons (λ (v : ViewState). length v.left) v (views_changed n c vs) in
        let rest = more (omega (arith, some, none, a)) in
        omega (arith, none, a, b, rest)
    go (change ∷ others) e more =
        let one : length v.left ≡ suc (length others) = ap length e in
        let a = sum_by-cons (λ (v : ViewState). length v.left) v vs in
        let b = sum_by-cons (λ (v : ViewState). length v.left) (changed_view n c change others v) vs in
        omega (arith, one, a, b)

pub published_left : (vs : List ViewState) → sum_by (λ (v : ViewState). length v.left) (map (λ (v : ViewState). record v { current = v.next }) vs) ≡ sum_by (λ (v : ViewState). length v.left) vs
published_left [] = refl
published_left (v ∷ vs) =
    sum_by-cons (λ (v : ViewState). length v.left) (record v { current = v.next }) (map (λ (v : ViewState). record v { current = v.next }) vs) ∙ ap (λ k. length v.left + k) (published_left vs) ∙ sym (sum_by-cons (λ (v : ViewState). length v.left) v vs)
