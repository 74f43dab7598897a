use Rattle.std.proofs.Common.{refl, arith}
use Rattle.whips_lists.proofs.Members.{has_none}
use Rattle.whips_view_tests.proofs.query.answer.Goals as goal

pub extend-requires-clause-parts : goal.extend-requires-clause-parts
extend-requires-clause-parts c = (omega (arith, c.requires.bases), tt)

pub extend-requires-clause-distinct : goal.extend-requires-clause-distinct
extend-requires-clause-distinct c = (has_none 1, tt)

pub extend-requires-clause-wide : goal.extend-requires-clause-wide
extend-requires-clause-wide c = rw (c.requires.begun, c.requires.bases) (refl, tt)

pub extend-requires-clause-free : goal.extend-requires-clause-free
extend-requires-clause-free c = rw (c.requires.begun) ((refl, tt), tt)
