-- A plain view while its changes are made.
use Rattle.std.proofs.Common.{◌≡◌, ◌<◌, ◌≤◌, ◌/◌, ℕ, zero, suc, List, [], ◌∷◌, length, get_or, refl, subst, arith}
use Rattle.std.specs.List.{AllByRecursion}
use Rattle.whips_rel.specs.declared.update.Change.{Change}
use Rattle.whips_vnl.specs.declared.record.Vstep.{Vstep}
use Rattle.whips_store.specs.Stores.{ViewState}
use Rattle.whips_store.specs.Sound.{IsSlot, StepsHaveWidth, IsSoundView}
use Rattle.whips_store_laws.proofs.Views.{view_changed}
use Rattle.whips_plain_store.specs.Plain.{changed_first}

-- it stays sound
pub changed_sound : (n phase c : ℕ) (v : ViewState) → 2 ≤ n → c ≡ phase / 2 → IsSoundView n phase v → IsSoundView n phase (changed_first n c v)
changed_sound n phase c v two half h = go v.left refl
  where
    go : (left : List Change) → v.left ≡ left → IsSoundView n phase (changed_first n c v)
    go [] e = rw e (subst (λ (left : List Change). IsSoundView n phase (record v { left = left })) e h)
    go (change ∷ others) e = rw (e, half) (view_changed n phase v change others two h e)

-- and keeps its columns
pub changed_columns : (n c : ℕ) (v : ViewState) → (changed_first n c v).columns ≡ v.columns
changed_columns n c v = go v.left refl
  where
    go : (left : List Change) → v.left ≡ left → (changed_first n c v).columns ≡ v.columns
    go [] e = rw e refl
    go (change ∷ others) e = rw e refl

-- what a look at a slot relies on
pub slot_kept : (n phase : ℕ) (records : List (List Vstep)) → AllByRecursion (IsSlot n phase) records → (i : ℕ) → i < length records → length (get_or records i []) ≤ n
slot_kept n phase [] h i lt = absurd (omega arith)
slot_kept n phase (steps ∷ records) h zero lt = h.0.kept
slot_kept n phase (steps ∷ records) h (suc i) lt = slot_kept n phase records h.1 i (omega arith)

pub slot_wide : (width : ℕ) (records : List (List Vstep)) → AllByRecursion (StepsHaveWidth width) records → (i : ℕ) → i < length records → StepsHaveWidth width (get_or records i [])
slot_wide width [] h i lt = absurd (omega arith)
slot_wide width (steps ∷ records) h zero lt = h.0
slot_wide width (steps ∷ records) h (suc i) lt = slot_wide width records h.1 i (omega arith)
