use Rattle.std.proofs.Common.{◌≡◌, ◌-◌, sym, subst, string_bytes, OnOk, List, ℕ}
use Rattle.std.specs.Prelude.{decimal}
use Rattle.whips_reports.specs.Lines.{counts_words}
use Rattle.whips_tally.proofs.Texts.{updates_words}
use Rattle.whips_tally.proofs.tally.Tally.push_updates.Goals as goal

pub returns : goal.returns
returns c =
    let t = c.args.self.now in
    let parts = updates_words (string_bytes c.args.text.now) (decimal c.args.size) (decimal (t.versions - 1)) (counts_words c.args.labels.now.views t.rows) in
    subst (λ (t : List ℕ). OnOk c.push_counts.result (string_bytes c.push_counts.new.text ≡ t)) (sym parts)
    (rw (c.in_ok-write.ensures.bytes, c.saturating_sub-later.ensures, c.versions.ensures, c.views.ensures, c.rows.ensures) at c.push_counts.ensures)
