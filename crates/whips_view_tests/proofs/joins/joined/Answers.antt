use Rattle.std.proofs.Common.{arith}
use Rattle.whips_view_tests.proofs.Choices.{distinct_two}
use Rattle.whips_view_tests.proofs.joins.joined.Goals as goal

pub extend-requires-clause-distinct : goal.extend-requires-clause-distinct
extend-requires-clause-distinct c = distinct_two 1 0 (λ e. omega arith)
