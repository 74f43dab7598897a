use Rattle.std.proofs.Common.{◌≡◌, ◌<◌, length, get_or, ap, ◌∙◌, arith}
use Rattle.std.specs.Prelude.{fold}
use Rattle.std.proofs.Math.ListN.{set}
use Rattle.std.proofs.lemmas.List.Edits.{map_over_more}
use Rattle.whips_flow.specs.Painted.{painted_rows}
use Rattle.whips_flow.specs.Settling.{due_lists, later_lists}
use Rattle.whips_paint.specs.Table.{ViewTable}
use Rattle.whips_merge.proofs.Painting.{rest_at, lists_next, still_rows, neither}
use Rattle.whips_merge.proofs.paint.paint_all.Goals as goal

pub overflow_cast-x : goal.overflow_cast-x
overflow_cast-x c = let a = c.loop-x-test.true in let b = c.requires.there in let d = c.requires.few in let e = c.len-x-end.ensures in let ok = c.args.waiting.now.ok in omega (arith, a, b, d, e, ok.0)

pub loop-x-preserved : goal.loop-x-preserved
loop-x-preserved c =
    let a = c.loop-x-test.true in let e = c.len-x-end.ensures in let ok = c.args.waiting.now.ok in
    let within : c.loop-x.x < length c.args.waiting.now.items = omega (arith, a, e, ok.0) in
    let last = c.args.table.now.table.last_announced in
    let q = c.index_mut.result.now in
    let same : c.loop-x.table.table.last_announced ≡ last = ap (λ (t : ViewTable). t.table.last_announced) c.loop-x.invariant.table in
    let at : q ≡ get_or c.args.waiting.now.items c.loop-x.x q = c.index_mut.ensures.value ∙ rest_at (later_lists last) c.args.waiting.now.items c.loop-x.waiting.items c.loop-x.x q within c.loop-x.invariant.waiting in
    let painted : c.paint_view-here.new.table.table.rows ≡ fold (painted_rows c.loop-x.x) c.loop-x.table.table.rows (due_lists last q) = ap (λ (t : ViewTable). t.table.rows) c.paint_view-here.ensures.table ∙ ap (λ n. fold (painted_rows c.loop-x.x) c.loop-x.table.table.rows (due_lists n q)) same in
    record {
      rows = lists_next last c.loop-x.x c.args.waiting.now.items q c.loop-x.table.table.rows c.paint_view-here.new.table.table.rows within at painted ∙ c.loop-x.invariant.rows;
      waiting = ap (set c.loop-x.waiting.items c.loop-x.x) (c.paint_view-here.ensures.waiting ∙ ap (λ n. later_lists n q) same) ∙ map_over_more (later_lists last) c.args.waiting.now.items c.loop-x.waiting.items c.loop-x.x q within c.loop-x.invariant.waiting c.index_mut.ensures.value;
      table = still_rows c.args.table.now c.loop-x.table c.paint_view-here.new.table _ c.loop-x.invariant.table c.paint_view-here.ensures.table;
      painted = λ e. let both = neither c.loop-x.is_painted c.paint_view-here.result e in c.paint_view-here.ensures.none both.1 ∙ c.loop-x.invariant.painted both.0;
    }
