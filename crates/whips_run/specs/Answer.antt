-- What the program answers for a whole input.
use Rattle.std.specs.Prelude.{ℕ, List, [], ◌∷◌, ◌++◌, codes, Result, Ok, Err, if◌then◌else◌}
use Rattle.whips_runs.specs.World.{World}
use Rattle.whips_reports.specs.Reported.{run_of}
use Rattle.whips_reports.specs.Lines.{report}
use Rattle.whips_reading.specs.Places.{Refusal, code_word, place_text}
use Rattle.whips_script_reading.specs.Script.{NamedScript, script_of}
use Rattle.whips_script_writing.specs.Scripts.{canonical}

-- A text with a line feed.
abbrev pub line : List ℕ → List ℕ
line text = text ++ 10 ∷ []

-- The run of a script: the events of its plan, and then the first event that can be done again and again, until none is left or a view has too few slots.
abbrev pub run_of_script : NamedScript → World
run_of_script n = run_of n.script n.plan

-- The report of that run.
abbrev pub report_of : NamedScript → List ℕ
report_of n = report n.script n.labels n.plan

-- The status of a run to its end: 7 where a view had too few slots, which ended it.
abbrev pub run_status : World → ℕ
run_status w = if w.is_full then 7 else 0

-- The text of a refusal: its code, and its place.
abbrev pub refusal_text : Refusal → List ℕ
refusal_text refusal = line (codes "refused " ++ code_word refusal.code ++ codes " " ++ place_text refusal.place)

-- The status and the text for bytes that are a script, and for those that are refused.
abbrev pub answer_of : Result NamedScript Refusal → ℕ × List ℕ
answer_of (Ok n) = (run_status (run_of_script n), report_of n)
answer_of (Err refusal) = (3, refusal_text refusal)

-- The status and the text for a whole input that is run.
unfoldable pub answer : List ℕ → ℕ × List ℕ
answer bytes = answer_of (script_of bytes)

-- The canonical text of a script, with a line feed.
abbrev pub canonical_line : NamedScript → List ℕ
canonical_line n = line (canonical n)

-- The same for bytes that are checked.
abbrev pub checked_of : Result NamedScript Refusal → ℕ × List ℕ
checked_of (Ok n) = (0, canonical_line n)
checked_of (Err refusal) = (3, refusal_text refusal)

unfoldable pub checked : List ℕ → ℕ × List ℕ
checked bytes = checked_of (script_of bytes)
