use Rattle.whips_gen.proofs.Updates.{deleted_is}
use Rattle.whips_gen.proofs.picks.make_item.Goals as goal

pub returns-in-Ok-clause-items : goal.returns-in-Ok-clause-items
returns-in-Ok-clause-items c = deleted_is c.args.items.now c.delete-2.new.self _ c.in-Ok.item c.in-Ok.ensures.row c.in-Ok.ensures.ok
