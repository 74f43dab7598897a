-- How many rows the views of the shop have, and that they always have slots for them.
use Rattle.std.specs.Prelude.{◌≡◌, ℕ, ◌<◌, ◌≤◌, false, List, [], ◌∷◌, length, slice_index}
use Rattle.std.specs.List.{AllByRecursion}
use Rattle.whips_model.specs.Tuples.{Codes, IsKeyed}
use Rattle.whips_model.specs.Views.{rows_of}
use Rattle.whips_setup.specs.declared.plan.Plan.{Plan}
use Rattle.whips_reports.specs.Reported.{run_of}
use Rattle.whips_gen.specs.Shop.{lines_parts, big_parts}
use Rattle.whips_gen.specs.Made.{made_script}

-- where orders and items have one row for a key each, and the numbers of orders are below 64, each view has at most 64 rows
abbrev pub ViewsAreSmall : Type 0
ViewsAreSmall = (orders items : List Codes) → IsKeyed (0 ∷ []) orders → IsKeyed (0 ∷ []) items → AllByRecursion (λ t. slice_index t 0 < 64) orders
    → (length (rows_of lines_parts (orders ∷ items ∷ [])) ≤ 64) × (length (rows_of big_parts (orders ∷ [])) ≤ 64)

-- whatever the schedule, a run of a made script is never full
abbrev pub MadeRunsAreNeverFull : Type 0
MadeRunsAreNeverFull = (start size : ℕ) (plan : Plan) → (run_of (made_script start size) plan).is_full ≡ false
