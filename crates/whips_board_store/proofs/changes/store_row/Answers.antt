use Rattle.std.proofs.Common.{length, ap, arith}
use Rattle.whips_board_store.proofs.Changed.{row_allowed, row_place, row_further}
use Rattle.whips_board_store.proofs.changes.store_row.Goals as goal

pub overflow_cast-k : goal.overflow_cast-k
overflow_cast-k g c =
    let p = row_place c.args.words.now c.loop-k.words c.args.place c.loop-k.k c.args.row.now c.requires.versions c.loop-k.invariant c.loop-k-test.true c.requires.lawful in
    omega (arith, p, c.requires.small)

pub overflow_add-place : goal.overflow_add-place
overflow_add-place g c =
    let p = row_place c.args.words.now c.loop-k.words c.args.place c.loop-k.k c.args.row.now c.requires.versions c.loop-k.invariant c.loop-k-test.true c.requires.lawful in
    omega (arith, p, c.requires.small)

pub store-requires-clause-place : goal.store-requires-clause-place
store-requires-clause-place g c =
    let p = row_place c.args.words.now c.loop-k.words c.args.place c.loop-k.k c.args.row.now c.requires.versions c.loop-k.invariant c.loop-k-test.true c.requires.lawful in
    let n = ap (λ p. length p.board.first) c.loop-k.invariant in
    omega (arith, p, n, c.requires.board)

pub store-requires-clause-allowed : goal.store-requires-clause-allowed
store-requires-clause-allowed g c = row_allowed c.args.words.now c.loop-k.words c.args.place c.loop-k.k c.args.row.now c.loop-k.invariant c.loop-k-test.true c.requires.lawful

pub loop-k-preserved : goal.loop-k-preserved
loop-k-preserved g c = row_further c.args.words.now c.loop-k.words c.store.new.self c.args.place c.loop-k.k c.args.row.now c.loop-k.invariant c.loop-k-test.true c.store.ensures
