use Rattle.std.proofs.Common.{◌∙◌, ap, ◌++◌}
use Rattle.std.specs.List.{flat_map}
use Rattle.whips_slots.specs.Boards.{row_slot}
use Rattle.whips_slots.proofs.Layouts.{chunk_more}
use Rattle.whips_slots.proofs.first.put_all_rows.Goals as goal

pub loop-chunk-preserved : goal.loop-chunk-preserved
loop-chunk-preserved c =
    let rest = c.in_ok-put_rows.ensures ∙ ap (λ rows. c.loop-chunk.words.items ++ flat_map (row_slot c.args.zeros) rows) c.rows.ensures in
    chunk_more c.args.zeros c.loop-chunk.chunk-index c.chunks-chunk-items.result.now c.chunk-item.result c.args.words.now.items c.loop-chunk.words.items c.put_rows.new.words.items c.loop-chunk-test.true c.chunk-item.is c.loop-chunk.invariant rest
