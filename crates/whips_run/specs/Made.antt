-- What the command `make` does.
use Rattle.std.specs.Prelude.{◌≡◌, ℕ, List}
use Rattle.whips_runs.specs.World.{World}
use Rattle.whips_reports.specs.Reported.{run_of}
use Rattle.whips_reports.specs.Lines.{text_of}
use Rattle.whips_reports.specs.Summary.{summary_lines}
use Rattle.whips_gen.specs.Shop.{shop_labels}
use Rattle.whips_gen.specs.Made.{made_script, made_plan}

-- The run of the script that these numbers make.
abbrev pub made_run : (start size : ℕ) → World
made_run start size = run_of (made_script start size) (made_plan start size)

-- The summary of that run.
abbrev pub summary : (start size : ℕ) → List ℕ
summary start size = text_of (summary_lines start size (made_script start size) shop_labels (made_run start size))
