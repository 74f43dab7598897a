use Rattle.std.proofs.Common.{◌-◌, ap, ◌∙◌}
use Rattle.std.specs.Prelude.{slice_get, slice_index}
use Rattle.whips_view.specs.ViewDefs.{keyed}
use Rattle.whips_strobe.proofs.Replies.{ask_is}
use Rattle.whips_strobe.proofs.state.State.ask.Goals as goal

pub returns : goal.returns
returns c =
    let source = c.source_of.ensures ∙ ap (λ l. slice_index l (c.step-step.result - 1)) c.sources.ensures.sources in
    rw (← c.self.view_is) (ask_is c.args.number (keyed c.args.view.now) (slice_get c.self.inside.queries c.args.i) c.transaction.result c.origin-origin.result c.step-step.result c.in_ok-copied.field-0 c.source_of.result c.transaction.ensures c.origin-origin.ensures c.step-step.ensures (rw c.in_ok-copied.ensures c.partials.ensures) source)
