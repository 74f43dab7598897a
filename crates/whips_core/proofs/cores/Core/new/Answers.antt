use Rattle.std.proofs.Common.{sym, ◌∙◌}
use Rattle.whips_core.proofs.Carried.{started_core}
use Rattle.whips_core.proofs.cores.Core.new.Goals as goal

pub invariant_of-result : goal.invariant_of-result
invariant_of-result g c = (
  λ on. started_core c.args.setup c.args.sources.items (g.S.Store.state c.args.store) c.in_ok-pipeline.pipeline c.in_ok-integrator.integrator
      c.sources-sound.ensures.sound c.requires.fresh c.requires.store c.in_ok-pipeline.ensures c.in_ok-integrator.ensures,
  record { are = λ f a b. c.in_ok-groups.ensures.events f (a ∙ sym c.views.ensures) (b ∙ sym c.sources.ensures.sources); few = c.in_ok-groups.ensures.few },
)
