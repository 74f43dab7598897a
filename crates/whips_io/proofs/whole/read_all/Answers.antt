use Rattle.std.proofs.Common.{arith}
use Rattle.std.proofs.lemmas.Result.{err_from_is_err_and}
use Rattle.whips_io.proofs.Moved.{ConsumesAtMost-more}
use Rattle.whips_io.proofs.whole.read_all.Goals as goal

pub returns-in_err-n-clause-memory : goal.returns-in_err-n-clause-memory
returns-in_err-n-clause-memory g c =
    let p = err_from_is_err_and c.from_residual.result c.from_residual.ensures.1 in
    λ is. ConsumesAtMost-more _ _ _ c.loop-bytes.bytes.items _ _ c.loop-bytes.invariant.taken (c.in_err-n.ensures.memory (cc (p.1, p.2, is))) (omega (arith, c.saturating_add-room.ensures, c.len-in-loop-bytes.ensures))
