use Rattle.std.proofs.Common.{◌≡◌, ◌++◌, false, length, map, take, string_bytes, Some}
use Rattle.whips_reports.specs.Lines.{row_data}
use Rattle.whips_report.proofs.RowTexts.{some_before, listed}
use Rattle.whips_report.proofs.rows.push_row.Given as goal

abbrev pub invariant-loop-code : goal.invariant-loop-code
invariant-loop-code l =
    let n = length l.yielded in
    let done = row_data l.labels (map (λ k. Some k) (take n l.kinds)) (take n l.row) in
    (l.later ≡ some_before done) × (string_bytes l.text ≡ string_bytes l.initial.text ++ listed false done)
