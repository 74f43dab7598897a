use Rattle.std.proofs.Common.{◌≡◌, ◌+◌, ◌-◌, min, length, take, refl, arith, length-take}
use Rattle.whips_io.proofs.Moved.{read_gives, read_ends}
use Rattle.whips_io.proofs.memory.MemSourceSource.read.Goals as goal

pub returns-clause-bytes : goal.returns-clause-bytes
returns-clause-bytes c =
    let size : length c.copy_from_slice.new.self ≡ length (take c.min-n.result c.args.buf.now) = c.copy_from_slice.ensures.len in
    let n : c.min-n.result ≡ min (length c.args.buf.now) (min c.self.inside.max_piece (length c.self.inside.bytes.items - c.self.inside.at)) = omega (arith, c.min-n.ensures, c.min.ensures, c.len.ensures, c.self.inside.bytes.ok.0) in
    let size_n : c.self.inside.at + c.min-n.result - c.self.inside.at ≡ c.min-n.result = omega arith in (
      read_gives c.self.inside.bytes.items _ c.copy_from_slice.new.self _ c.self.inside.at c.min-n.result (rw (← c.self.view_is) refl)
          (let s = simp length-take at size in omega arith)
          (rw (c.copy_from_slice.ensures.after, size_n, c.deref-2.ensures.value) refl),
      read_ends c.self.inside.bytes.items c.args.buf.now c.copy_from_slice.new.self c.self.inside.at c.min-n.result c.self.inside.max_piece n c.self.invariant.1 size,
    )
