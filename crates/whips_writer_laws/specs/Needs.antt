-- Where a store that is faithful to a script's values is full.
use Rattle.std.specs.Prelude.{◌≡◌, ℕ, suc, ◌/◌, ◌≤◌, List, [], ◌∷◌, ◌++◌, length, map, slice_index_or}
use Rattle.std.specs.Option.{option_map}
use Rattle.whips_model.specs.Tuples.{Codes}
use Rattle.whips_flow.specs.Facts.{Facts, Shortage}
use Rattle.whips_flow.specs.State.{Writer}
use Rattle.whips_flow.specs.Effects.{cuts_in_use}
use Rattle.whips_facts.specs.Scripts.{Script, SlottedView, slotted_views, value_at, view_at}
use Rattle.whips_facts.specs.ScriptFacts.{first_shortage}
use Rattle.whips_store.specs.declared.error.StoreErr.{StoreErr}
use Rattle.whips_store.specs.declared.error.StoreErr.TheVariants.{Full}
use Rattle.whips_store.specs.Versions.{versions_in_use}
use Rattle.whips_store.specs.Stores.{ViewState, StoreState, ChangeLists}
use Rattle.whips_store.specs.Calls.{shortage}
use Rattle.whips_faithful_laws.specs.Faithful.{IsFaithful}
use Rattle.whips_faithful_laws.specs.Laws.{LeadToNext}

-- the values of a script's views at versions with these cuts; own
abbrev pub values_at : Script → (ℕ → List ℕ) → ℕ → ℕ → List Codes
values_at script cut x v = value_at script (view_at script x) (cut v)

-- these views of a store are those of a script: with their key columns and as many slots; own
abbrev pub AreViewsOf : List SlottedView → List ViewState → Type 0
AreViewsOf [] [] = Unit {0}
AreViewsOf [] (v ∷ vs) = ⊥
AreViewsOf (w ∷ ws) [] = ⊥
AreViewsOf (w ∷ ws) (v ∷ vs) = ((v.columns.key ≡ w.view.columns) × (length v.records ≡ w.slots)) × AreViewsOf ws vs

-- what a store answers where a script has this shortage
abbrev pub full_of : Shortage → StoreErr
full_of short = Full short.view short.need short.slots

-- A store that is faithful to a script's values is full for the values at the next cut exactly where the script has a shortage, at the same view with the same numbers.
abbrev pub FullIsShortage : Type 0
FullIsShortage = (script : Script) (cut : ℕ → List ℕ) (s : StoreState) (cs : ChangeLists) → 2 ≤ s.versions → AreViewsOf (slotted_views script) s.views → length cs ≡ length s.views
    → IsFaithful (values_at script cut) s → LeadToNext (values_at script cut) s cs
    → shortage s cs ≡ option_map full_of (first_shortage script (map cut (versions_in_use s.versions (s.phase / 2)) ++ cut (suc (s.phase / 2)) ∷ []) 0 (slotted_views script))

-- the cut of a version of the writer, of which the last is the one that its transaction leads to; own
abbrev pub cut_of_version : Writer → ℕ → List ℕ
cut_of_version w v = slice_index_or (w.earlier_cuts ++ w.cut ∷ w.target_cut ∷ []) v []

-- The cuts in use of a writer are those of the versions in use.
abbrev pub CutsInUseAreOfVersions : Type 0
CutsInUseAreOfVersions = (f : Facts) (w : Writer) → length w.earlier_cuts ≡ w.phase / 2 → cuts_in_use f w ≡ map (cut_of_version w) (versions_in_use f.versions (w.phase / 2))
