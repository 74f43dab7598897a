use Rattle.std.proofs.Common.{◌≡◌, sym, subst, string_bytes, OnOk, List, ℕ}
use Rattle.std.specs.Prelude.{decimal}
use Rattle.whips_reports.specs.Lines.{counts_words}
use Rattle.whips_report.proofs.Spaced.{version_words}
use Rattle.whips_report.proofs.lines.push_version.Goals as goal

pub returns : goal.returns
returns c =
    let l = c.args.labels.now in
    let parts = version_words (string_bytes c.args.text.now) (decimal c.args.number) (counts_words l.sources c.args.cut.now) (counts_words l.views c.args.rows.now) in
    subst (λ (t : List ℕ). OnOk c.push_counts-2.result (string_bytes c.push_counts-2.new.text ≡ t)) (sym parts) (rw (c.in_ok-push_str.ensures.bytes, c.in_ok-push_counts.ensures, c.in_ok-write.ensures.bytes, c.sources.ensures, c.views.ensures) at c.push_counts-2.ensures)
