use Rattle.std.proofs.Common.{ap, length, ◌∙◌}
use Rattle.whips_order.specs.Numbering.{Counts}
use Rattle.whips_core.proofs.Places.{counts_long}
use Rattle.whips_core.proofs.pipeline.Pipeline.integrate.Goals as goal

pub take-requires-clause-sources : goal.take-requires-clause-sources
take-requires-clause-sources g c = ap (λ (k : Counts). length k.places) c.requires.counted ∙ counts_long c.args.setup.now.sources c.args.self.now.numbering
