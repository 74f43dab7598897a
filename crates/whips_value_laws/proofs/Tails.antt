-- Transactions that concern no view may be left out at the end of each source.
use Rattle.std.proofs.Common.{◌≡◌, ℕ, zero, suc, false, List, [], ◌∷◌, length, take, drop, refl, sym, ap, ◌∙◌}
use Rattle.std.specs.Prelude.{map}
use Rattle.std.specs.List.{AllByRecursion}
use Rattle.std.proofs.Math.Seq.{take-length}
use Rattle.whips_lists.proofs.Members.{all_from_has}
use Rattle.whips_model.specs.Relation.{Table, value_of}
use Rattle.whips_model.specs.Views.{ViewData}
use Rattle.whips_rel.specs.Updates.{relation_of}
use Rattle.whips_states.specs.States.{Updates, applied, all_applied, state_at, AreAllValid, AreSoundTables}
use Rattle.whips_states.specs.Concerns.{concerns}
use Rattle.whips_states.proofs.Changed.{tables_stay}
use Rattle.whips_states.proofs.Unconcerned.{transaction_keeps}
use Rattle.whips_facts.specs.Values.{Changes}
use Rattle.whips_value_laws.proofs.Commute.{In, Out, states_past, state_valid_past, lists_valid_past}

-- each list of transactions changes no relation that an earlier one changes, nor the other way round
abbrev pub AreApart : List (List Updates) → Type 0
AreApart [] = Unit {0}
AreApart (ts ∷ work) = AllByRecursion (λ us. (r : ℕ) → Changes ts r → Changes us r → ⊥) work × AreApart work

pub inside : (ts : List Updates) → AllByRecursion (In (Changes ts)) ts
inside ts = all_from_has (In (Changes ts)) ts (λ t i. all_from_has (λ u. Changes ts (relation_of u)) t (λ u j. (t, u, i, j, refl)))

pub outside : (ts : List Updates) (work : List (List Updates)) → AllByRecursion (λ us. (r : ℕ) → Changes ts r → Changes us r → ⊥) work → AllByRecursion (AllByRecursion (Out (Changes ts))) work
outside ts [] h = tt
outside ts (us ∷ work) h = (all_from_has (Out (Changes ts)) us (λ t i. all_from_has (λ u. Changes ts (relation_of u) → ⊥) t (λ u j c. h.0 (relation_of u) c (t, u, i, j, refl))), outside ts work h.1)

pub all_take : (P : Updates → Type 0) (n : ℕ) (ts : List Updates) → AllByRecursion P ts → AllByRecursion P (take n ts)
all_take P zero ts h = tt
all_take P (suc n) [] h = tt
all_take P (suc n) (t ∷ ts) h = (h.0, all_take P n ts h.1)

pub all_drop : (P : Updates → Type 0) (n : ℕ) (ts : List Updates) → AllByRecursion P ts → AllByRecursion P (drop n ts)
all_drop P zero ts h = h
all_drop P (suc n) [] h = tt
all_drop P (suc n) (t ∷ ts) h = all_drop P n ts h.1

-- ---- soundness and validity of the parts

pub all_sound : (db : List Table) (ts : List Updates) → AreSoundTables db → AreAllValid db ts → AreSoundTables (all_applied db ts)
all_sound db [] h v = h
all_sound db (t ∷ ts) h v = all_sound (applied db t) ts (tables_stay db t h v.0) v.1

pub valid_take : (n : ℕ) (db : List Table) (ts : List Updates) → AreAllValid db ts → AreAllValid db (take n ts)
valid_take zero db ts v = tt
valid_take (suc n) db [] v = tt
valid_take (suc n) db (t ∷ ts) v = (v.0, valid_take n (applied db t) ts v.1)

pub valid_drop : (n : ℕ) (db : List Table) (ts : List Updates) → AreAllValid db ts → AreAllValid (all_applied db (take n ts)) (drop n ts)
valid_drop zero db ts v = v
valid_drop (suc n) db [] v = tt
valid_drop (suc n) db (t ∷ ts) v = valid_drop n (applied db t) ts v.1

-- the other sources' transactions stay valid after those of one source
pub others_valid : (db : List Table) (ts ss : List Updates) (work : List (List Updates)) → AllByRecursion (In (Changes ts)) ss → AllByRecursion (λ us. (r : ℕ) → Changes ts r → Changes us r → ⊥) work → AllByRecursion (AreAllValid db) work → AllByRecursion (AreAllValid (all_applied db ss)) work
others_valid db ts ss [] i h v = tt
others_valid db ts ss (us ∷ work) i h v =
    (lists_valid_past (Changes us) db us ss (inside us) (turned ss i) v.0, others_valid db ts ss work i h.1 v.1)
  where
    turned : (ss : List Updates) → AllByRecursion (In (Changes ts)) ss → AllByRecursion (Out (Changes us)) ss
    turned [] i = tt
    turned (s ∷ ss) i = (one s i.0, turned ss i.1)
      where
        one : (s : Updates) → In (Changes ts) s → Out (Changes us) s
        one [] i = tt
        one (u ∷ s) i = ((λ c. h.0 (relation_of u) i.0 c), one s i.1)

-- applying all of a list in two parts
pub parts_applied : (n : ℕ) (db : List Table) (ts : List Updates) → all_applied (all_applied db (take n ts)) (drop n ts) ≡ all_applied db ts
parts_applied zero db ts = refl
parts_applied (suc n) db [] = refl
parts_applied (suc n) db (t ∷ ts) = parts_applied n (applied db t) ts

module _ (view : ViewData) where
  -- transactions that don't concern the view leave its value
  pub tail_keeps : (db : List Table) (ts : List Updates) → AreSoundTables db → AreAllValid db ts → AllByRecursion (λ t. concerns view t ≡ false) ts → value_of view (all_applied db ts) ≡ value_of view db
  tail_keeps db [] h v u = refl
  tail_keeps db (t ∷ ts) h v u = tail_keeps (applied db t) ts (tables_stay db t h v.0) v.1 u.1 ∙ transaction_keeps view db t h v.0 u.0

  -- what a cut doesn't count doesn't concern the view
  abbrev pub TailsUnconcerned : List (List Updates) → List ℕ → Type 0
  TailsUnconcerned [] cut = Unit {0}
  TailsUnconcerned (ts ∷ work) [] = ⊥
  TailsUnconcerned (ts ∷ work) (c ∷ cut) = AllByRecursion (λ t. concerns view t ≡ false) (drop c ts) × TailsUnconcerned work cut

pub state_sound : (db : List Table) (work : List (List Updates)) (cut : List ℕ) → AreSoundTables db → AreApart work → AllByRecursion (AreAllValid db) work → AreSoundTables (state_at db work cut)
state_sound db [] cut h a v = h
state_sound db (ts ∷ work) [] h a v = h
state_sound db (ts ∷ work) (c ∷ cut) h a v =
    state_sound (all_applied db (take c ts)) work cut
    (all_sound db (take c ts) h (valid_take c db ts v.0))
    a.1
    (others_valid db ts (take c ts) work (all_take (In (Changes ts)) c ts (inside ts)) a.0 v.1)

pub tails_keep : (view : ViewData) (db : List Table) (work : List (List Updates)) (cut : List ℕ) → AreSoundTables db → AreApart work → AllByRecursion (AreAllValid db) work → TailsUnconcerned view work cut → value_of view (state_at db work cut) ≡ value_of view (state_at db work (map length work))
tails_keep view db [] cut h a v u = refl
tails_keep view db (ts ∷ work) [] h a v u = absurd u
tails_keep view db (ts ∷ work) (c ∷ cut) h a v u =
    let front = all_applied db (take c ts) in
    let rest = drop c ts in
    let others = others_valid db ts (take c ts) work (all_take (In (Changes ts)) c ts (inside ts)) a.0 v.1 in
    let sound = all_sound db (take c ts) h (valid_take c db ts v.0) in
    let all = state_at front work (map length work) in
    let rest_in = all_drop (In (Changes ts)) c ts (inside ts) in
    let out = outside ts work a.0 in
    let whole : all_applied all rest ≡ state_at (all_applied db (take (length ts) ts)) work (map length work) =
    sym (states_past (Changes ts) front rest work (map length work) rest_in out)
    ∙ ap (λ z. state_at z work (map length work)) (parts_applied c db ts ∙ sym (ap (all_applied db) (take-length ts))) in
    tails_keep view front work cut sound a.1 others u.1
    ∙ (sym (tail_keeps view all rest (state_sound front work (map length work) sound a.1 others) (state_valid_past (Changes ts) front rest work (map length work) rest_in out (valid_drop c db ts v.0)) u.0)
    ∙ ap (value_of view) whole)
