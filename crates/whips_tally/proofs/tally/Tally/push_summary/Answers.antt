use Rattle.std.proofs.Common.{string_bytes, sym, ◌∙◌}
use Rattle.whips_tally.specs.Tallies.{counts_from}
use Rattle.whips_tally.proofs.Texts.{summary_text}
use Rattle.whips_tally.proofs.tally.Tally.push_summary.Goals as goal

pub returns : goal.returns
unfolding lib.Utf8.encode
returns c =
    let whole = summary_text (string_bytes c.args.text.now) c.args.made.0 c.args.made.1 c.args.labels.now (counts_from c.args.self.now c.args.transactions.now) in
    (rw (c.in_ok-push_counts.ensures, c.in_ok-push_str.ensures.bytes, c.in_ok-push_fetches.ensures, c.in_ok-push.ensures.bytes, c.in_ok-push_updates.ensures, c.in_ok-writeln.ensures.bytes, c.sources.ensures) at c.in_ok-push-2.ensures.bytes) ∙ sym whole
