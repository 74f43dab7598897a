use Rattle.std.proofs.Common.{[], not, length, sym, ap, ◌∙◌}
use Rattle.std.specs.List.{list_any}
use Rattle.whips_steps.specs.Answers.{has_key_at}
use Rattle.whips_view.specs.ViewDefs.{keyed}
use Rattle.whips_view.specs.Widths.{widths_of}
use Rattle.whips_open_queries.specs.Deletions.{pending_at}
use Rattle.whips_strobe.proofs.Strikes.{whole_at, wide_at}
use Rattle.whips_strobe.proofs.Struck.{kept, left_out}
use Rattle.whips_strobe.proofs.strike.unstruck.Goals as goal
use Rattle.whips_strobe.proofs.strike.unstruck.Goals.{then-not-struck+in_ok-push, else-not-struck}

pub is_struck-requires-clause-width : goal.is_struck-requires-clause-width
is_struck-requires-clause-width c = whole_at (length c.args.view.now.bases) c.args.partials.now c.loop-place.place c.at.result.now c.requires.whole c.at.ensures

pub is_struck-requires-clause-wide : goal.is_struck-requires-clause-wide
is_struck-requires-clause-wide c = wide_at (widths_of c.args.view.now) c.args.partials.now c.loop-place.place c.at.result.now c.requires.wide c.at.ensures

pub loop-place-preserved : goal.loop-place-preserved
loop-place-preserved c = elim c.if-not-struck.branch [
  | then-not-struck+in_ok-push w ↦ kept (λ p. not (list_any (has_key_at (keyed c.args.view.now) p) (pending_at c.args.queries.now c.args.i))) c.args.partials.now c.loop-place.place c.at.result.now c.loop-place.left c.if-not-struck.left [] c.at.ensures c.loop-place.invariant
      (ap not (sym c.in_ok-struck.ensures ∙ w.if-not-struck.true)) (w.left-is ∙ w.in_ok-push.ensures.ok)
  | else-not-struck w ↦ left_out (λ p. not (list_any (has_key_at (keyed c.args.view.now) p) (pending_at c.args.queries.now c.args.i))) c.args.partials.now c.loop-place.place c.at.result.now c.loop-place.left c.if-not-struck.left c.at.ensures c.loop-place.invariant
      (ap not (sym c.in_ok-struck.ensures ∙ w.if-not-struck.false)) w.left-is
]
