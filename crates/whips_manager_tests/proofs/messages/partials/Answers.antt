use Rattle.std.proofs.Common.{inl, inr, arith}
use Rattle.whips_lists.specs.Members.{Has}
use Rattle.whips_manager_tests.proofs.messages.partials.Goals as goal

pub extended-requires-clause-distinct : goal.extended-requires-clause-distinct
unfolding Has
extended-requires-clause-distinct c = (λ h. h, tt)

pub extended-requires-in-InBoth-clause-distinct : goal.extended-requires-in-InBoth-clause-distinct
unfolding Has
extended-requires-in-InBoth-clause-distinct c = (λ h. elim h [ inl e ↦ omega arith | inr g ↦ g ], (λ h. h, tt))

pub extended-requires-in-InRight-clause-distinct : goal.extended-requires-in-InRight-clause-distinct
unfolding Has
extended-requires-in-InRight-clause-distinct c = (λ h. h, tt)
