use Rattle.std.proofs.Common.{◌≡◌, ◌++◌, length, take, string_bytes}
use Rattle.whips_reports.specs.Lines.{counts_words}
use Rattle.whips_report.specs.Texts.{spaced}
use Rattle.whips_report.proofs.words.push_counts.Given as goal

abbrev pub invariant-loop-name : goal.invariant-loop-name
invariant-loop-name l =
    let n = length l.yielded in
    string_bytes l.text ≡ string_bytes l.initial.text ++ spaced (counts_words (take n l.names) (take n l.counts))
