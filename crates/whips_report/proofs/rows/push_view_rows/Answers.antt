use Rattle.std.proofs.Common.{◌++◌, ◌∙◌, ap, string_bytes}
use Rattle.whips_report.specs.Texts.{rows_text}
use Rattle.whips_report.proofs.RowTexts.{chunk_more}
use Rattle.whips_report.proofs.rows.push_view_rows.Goals as goal

pub loop-chunk-preserved : goal.loop-chunk-preserved
loop-chunk-preserved c =
    let rest = c.in_ok-push_tuples.ensures ∙ ap (λ rows. string_bytes c.loop-chunk.text ++ rows_text c.args.labels.now c.args.kinds.now rows) c.rows.ensures in
    chunk_more c.args.labels.now c.args.kinds.now c.chunks-chunk-items.result.now c.loop-chunk.chunk-index c.chunk-item.result (string_bytes c.args.text.now) (string_bytes c.loop-chunk.text) (string_bytes c.push_tuples.new.text) c.loop-chunk-test.true c.chunk-item.is c.loop-chunk.invariant rest
