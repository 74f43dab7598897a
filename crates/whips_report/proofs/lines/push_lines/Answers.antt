use Rattle.std.proofs.Common.{◌∙◌, sym, refl}
use Rattle.whips_report.proofs.RowTexts.{record_parts}
use Rattle.whips_report.specs.Recs.{reported_of}
use Rattle.std.proofs.Common.{string_bytes}
use Rattle.whips_report.proofs.lines.push_lines.Goals as goal

pub returns : goal.returns
returns c = λ s is. (c.in_ok-push_rows.ensures ∙ rw (c.in_ok-push_str.ensures.bytes, c.in_ok-push_first_line.ensures) refl) ∙ sym (record_parts c.args.labels.now c.args.setup.now (reported_of c.args.rec.now) (string_bytes c.args.text.now) s is)
