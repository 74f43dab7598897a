use Rattle.whips_order.proofs.Counting.{counted_of, forwarded_of}
use Rattle.whips_order.proofs.integrator.Integrator.take.Goals as goal

pub returns-in-Update-clause-forwarded : goal.returns-in-Update-clause-forwarded
returns-in-Update-clause-forwarded c = λ numbering is. forwarded_of c.number.result c.args.setup.now.sources c.args.setup.now.views numbering c.args.source c.in-Update.update c.args.m c.args.self.now c.requires.there is c.in-Update.is c.number.ensures.forwarded

pub returns-in-Update-clause-counted : goal.returns-in-Update-clause-counted
returns-in-Update-clause-counted c = λ numbering is. rw (c.in-Update.is) (counted_of c.number.result c.args.setup.now.sources numbering c.args.source c.args.self.now c.number.new.self c.requires.there is c.number.ensures.counted)
