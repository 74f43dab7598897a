use Rattle.std.proofs.Common.{◌∙◌}
use Rattle.whips_paint.proofs.Ready.{searched_lacks}
use Rattle.whips_paint.proofs.closure.lacks.Goals as goal

pub returns : goal.returns
returns c = λ rising. c.is_err.ensures.value ∙ searched_lacks c.args.numbers.now c.args.number c.binary_search.result c.binary_search.ensures.position rising
