use Rattle.std.proofs.Common.{refl}
use Rattle.whips_model.specs.Tuples.{at_columns}
use Rattle.whips_model.specs.Search.{IsRowAt, Misses}
use Rattle.whips_model.proofs.Keyed.{keyed_put}
use Rattle.whips_view.proofs.Netted.{set_is_put}
use Rattle.whips_view.proofs.net.put.Goals as goal

pub returns-in-Ok-clause-rows : goal.returns-in-Ok-clause-rows
returns-in-Ok-clause-rows c =
    let key = c.args.schema.now.key in
    let at : IsRowAt key c.args.rows.now.items (at_columns key c.args.tuple) c.in-Ok.at = rw (← c.deref.ensures.value) c.in-Ok.ensures.found in
    set_is_put key c.args.tuple c.args.rows.now.items c.in-Ok.at c.requires at

pub returns-in-Ok-clause-keyed : goal.returns-in-Ok-clause-keyed
returns-in-Ok-clause-keyed c =
    let key = c.args.schema.now.key in
    let at : IsRowAt key c.args.rows.now.items (at_columns key c.args.tuple) c.in-Ok.at = rw (← c.deref.ensures.value) c.in-Ok.ensures.found in
    rw (set_is_put key c.args.tuple c.args.rows.now.items c.in-Ok.at c.requires at) (keyed_put key c.args.tuple c.args.rows.now.items c.requires)

pub returns-in_ok-insert-in-Err-clause-keyed : goal.returns-in_ok-insert-in-Err-clause-keyed
returns-in_ok-insert-in-Err-clause-keyed c =
    let key = c.args.schema.now.key in
    let gap : Misses key c.args.rows.now.items (at_columns key c.args.tuple) c.in-Err.at = rw (← c.deref.ensures.value) c.in-Err.ensures.absent in
    rw (c.in_ok-insert-in-Err.ensures.items, gap.inserted c.args.tuple refl) (keyed_put key c.args.tuple c.args.rows.now.items c.requires)
