use Rattle.std.proofs.Common.{◌≡◌, [], map}
use Rattle.whips_board.specs.Rule.{origin_of}
use Rattle.whips_board.specs.declared.view.View.TheVariants.{Pen}
use Rattle.whips_board.proofs.closing.join_eyes.Given as goal

-- the pen's token knows what each eye did that was joined so far
abbrev pub invariant-loop-eye : goal.invariant-loop-eye
invariant-loop-eye g l =
    (l.token.table_id ≡ l.fn.board.table)
    × (l.token.me ≡ (Pen (origin_of l.fn.board) l.fn.pen.history (map (λ eye. eye.log) l.yielded), []))
