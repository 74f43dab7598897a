use Rattle.std.proofs.Common.{rules, not}
use Rattle.std.proofs.lemmas.Fn.{filter_same}
use Rattle.whips_flow.specs.Painted.{has_number}
use Rattle.whips_paint.proofs.closure.remove_rows.Goals as goal

pub returns : goal.returns
returns c = filter_same _ (λ r. not (has_number c.args.numbers.now r.number)) _ (λ x b f k. search (rules, c.requires)) _ _ c.retain.ensures.filtered
