use Rattle.std.proofs.Common.{ap, sym, ◌∙◌}
use Rattle.std.specs.Prelude.{slice_get}
use Rattle.std.specs.Option.{option_and_then}
use Rattle.whips_lists.specs.Lists.{front}
use Rattle.whips_contents.specs.Events.{oldest_ask_to}
use Rattle.whips_core.proofs.Places.{none_not}
use Rattle.whips_core.proofs.queues.SourceQueues.answer.Goals as goal

pub returns-in_default : goal.returns-in_default
returns-in_default g c = none_not (oldest_ask_to c.args.x c.args.self.now) c.requires.some (ap (oldest_ask_to c.args.x) (sym c.self.view_is) ∙ (ap (λ q. option_and_then front (slice_get q c.args.x)) (sym c.deref_mut.ensures.value) ∙ (sym c.pop_ask.ensures.ask ∙ c.in_default.is)))
