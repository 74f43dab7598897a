use Rattle.std.proofs.Common.{◌≡◌, ◌++◌, take, string_bytes}
use Rattle.whips_report.specs.Texts.{rows_text}
use Rattle.whips_report.proofs.rows.push_tuples.Given as goal

abbrev pub invariant-loop-row : goal.invariant-loop-row
invariant-loop-row l = string_bytes l.text ≡ string_bytes l.initial.text ++ rows_text l.labels l.kinds (take l.row-index l.rows)
