-- Which setups are refused, and what a setup that was made keeps.
use Rattle.std.specs.Prelude.{◌≡◌, ℕ, suc, ◌≤◌, nat_le, true, cond, List, [], ◌∷◌, length, Option, Some, None}
use Rattle.std.specs.List.{AllByRecursion}
use Rattle.whips_model.specs.Tuples.{Columns}
use Rattle.whips_model.specs.Relation.{Table, value_of}
use Rattle.whips_states.specs.States.{AreSoundTables}
use Rattle.whips_view.specs.ViewDefs.{View, HasBases, IsWellFormed, is_within}
use Rattle.whips_setup.specs.declared.error.SetupErr.{SetupErr}
use Rattle.whips_setup.specs.declared.error.SetupErr.TheVariants.{Limit, Slots}
use Rattle.whips_setup.specs.Setups.{SetupData, columns_of}
use Rattle.whips_setup.specs.Limits.{is_within_limits}

-- The first of the views, of which the first here is number x, whose value on these relations has more rows than its slots.
abbrev pub slots_refusal : ℕ → List Table → List View → List ℕ → Option SetupErr
slots_refusal x db [] slots = None
slots_refusal x db (view ∷ views) [] = None
slots_refusal x db (view ∷ views) (n ∷ slots) = cond (nat_le (length (value_of view.parts db)) n) (slots_refusal (suc x) db views slots) (Some (Slots x))

-- Why there is no such setup over relations of these schemas: a limit, or else the first view whose initial rows need more than its slots.
abbrev pub setup_refusal : List Columns → SetupData → Option SetupErr
setup_refusal schemas s = cond (is_within_limits schemas s) (slots_refusal 0 s.initial s.views s.slots) (Some Limit)

-- What a setup keeps: none of the refusals holds of it, 2 to 4 versions stay readable, its lists fit each other, the views are well formed and over its relations, and these are relations.
pub record IsSetup (s : SetupData) : Type 0 where
  pub accepted : setup_refusal (columns_of s) s ≡ None
  pub versions : is_within 2 4 s.versions ≡ true
  pub homes : length s.homes ≡ length s.initial
  pub relations : length s.initial ≤ 32
  pub slots : length s.slots ≡ length s.views
  pub views : length s.views ≤ 8
  pub bases : AllByRecursion (λ view. HasBases view s.initial) s.views
  pub well_formed : AllByRecursion IsWellFormed s.views
  pub tables : AreSoundTables s.initial
