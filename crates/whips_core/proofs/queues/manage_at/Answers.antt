use Rattle.std.proofs.Common.{◌≡◌}
use Rattle.whips_strobe.specs.Outs.{all_sent_by}
use Rattle.whips_contents.specs.Events.{asks_after_input}
use Rattle.whips_core.proofs.Places.{managed_place, of_oldest, no_manager}
use Rattle.whips_core.proofs.queues.manage_at.Goals as goal

pub returns-then-at-managers-clause-ok : goal.returns-then-at-managers-clause-ok
returns-then-at-managers-clause-ok c = managed_place c.args.managers.now c.args.x _ c.manage.new.self c.if-at-managers.true c.in_ok-asks.ensures.ok

pub returns-then-at-managers-clause-asks : goal.returns-then-at-managers-clause-asks
returns-then-at-managers-clause-asks c = of_oldest c.args.managers.now c.args.x _ (λ i z. c.in_ok-asks.asks.items ≡ all_sent_by z.manager.number (asks_after_input z.manager i)) c.in_ok-asks.ensures.asks

pub returns-clause-ok : goal.returns-clause-ok
returns-clause-ok c = λ m i at first. no_manager c.args.managers.now c.args.x m c.if-at-managers.false at

pub returns-clause-asks : goal.returns-clause-asks
returns-clause-asks c = λ m i at first. no_manager c.args.managers.now c.args.x m c.if-at-managers.false at
