use Rattle.std.proofs.Common.{ℕ, List, ap, ◌∙◌}
use Rattle.std.specs.Prelude.{replicate}
use Rattle.whips_order.proofs.Counting.{no_counts}
use Rattle.whips_order.specs.Numbering.{Counts}
use Rattle.whips_order.proofs.integrator.Integrator.new.Goals as goal

abbrev with_places : List ℕ → Counts
with_places places = record { total = 0; places = places }

pub returns : goal.returns
returns c = ap with_places (c.in_ok-vec.ensures.items_if_clones_equal (λ y e. e) ∙ ap (λ n. replicate n 0) c.sources.ensures.sources ∙ no_counts c.args.setup.now.sources 0)
