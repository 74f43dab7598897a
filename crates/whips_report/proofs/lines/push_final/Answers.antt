use Rattle.std.proofs.Common.{◌≡◌, sym, subst, string_bytes, OnOk, List, ℕ, codes}
use Rattle.whips_reports.specs.Lines.{counts_words}
use Rattle.whips_report.proofs.Spaced.{words_behind}
use Rattle.whips_report.proofs.lines.push_final.Goals as goal

pub returns : goal.returns
returns c =
    let parts = words_behind (string_bytes c.args.text.now) (codes "final") (counts_words c.args.labels.now.sources c.args.counts.now) in
    subst (λ (t : List ℕ). OnOk c.push_counts.result (string_bytes c.push_counts.new.text ≡ t)) (sym parts) (rw (c.in_ok-push_str.ensures.bytes, c.sources.ensures) at c.push_counts.ensures)
