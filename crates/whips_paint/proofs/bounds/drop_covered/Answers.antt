use Rattle.std.proofs.Common.{rules, not}
use Rattle.std.proofs.lemmas.Fn.{filter_same}
use Rattle.whips_paint.specs.Bounds.{covers}
use Rattle.whips_paint.proofs.bounds.drop_covered.Goals as goal

pub returns : goal.returns
returns c = filter_same _ (λ own. not (covers c.args.side c.args.bound own)) _ (λ x b f k. search rules) _ _ c.retain.ensures.filtered
