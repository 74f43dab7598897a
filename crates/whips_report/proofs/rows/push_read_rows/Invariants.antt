use Rattle.std.proofs.Common.{◌≡◌, ◌++◌, take, string_bytes}
use Rattle.whips_report.specs.Texts.{rows_text}
use Rattle.whips_report.proofs.rows.push_read_rows.Given as goal

abbrev pub invariant-loop-i : goal.invariant-loop-i
invariant-loop-i l = string_bytes l.text ≡ string_bytes l.initial.text ++ rows_text l.labels l.kinds (take l.i l.rows.rows)
