use Rattle.std.proofs.Common.{ℕ, ◌+◌, List, length, arith}
use Rattle.std.specs.Prelude.{map, slice_get}
use Rattle.std.proofs.lemmas.List.{length-map}
use Rattle.whips_flow.specs.declared.event.Event.{Event}
use Rattle.whips_world.specs.Readers.{session_of}
use Rattle.whips_world.specs.Picks.{session_choices}
use Rattle.whips_world.proofs.Counted.{joined, joined_grows, joined_turn, least}
use Rattle.whips_world.proofs.Sessions.{some_there}
use Rattle.whips_world.proofs.picks.count_choices.Goals as goal

pub returns-then-count-ge-MOST_CHOICES : goal.returns-then-count-ge-MOST_CHOICES
returns-then-count-ge-MOST_CHOICES c =
    let of : ℕ → List Event = λ s. session_choices c.args.may_scan c.args.views s (slice_get (map session_of c.args.readers.now) s) in
    least 65536 (c.args.first + length (joined of (length c.args.readers.now)))
    (omega (arith, c.if-count-ge-MOST_CHOICES.true, c.loop-s.invariant.0, joined_grows of c.loop-s.s (length c.args.readers.now) (omega (arith, c.loop-s-test.true))))

pub overflow_add-count : goal.overflow_add-count
overflow_add-count c = omega (arith, c.if-count-ge-MOST_CHOICES.false, c.count_of-count.ensures.few, c.ranges.views.fits)

pub loop-s-preserved : goal.loop-s-preserved
loop-s-preserved c =
    let of : ℕ → List Event = λ s. session_choices c.args.may_scan c.args.views s (slice_get (map session_of c.args.readers.now) s) in
    let long = length-map c.args.readers.now session_of in
    let there = some_there c.args.may_scan c.args.views c.loop-s.s c.loop-s.s (map session_of c.args.readers.now) (omega (arith, c.loop-s-test.true, long)) in
    (omega (arith, c.loop-s.invariant.0, c.count_of-count.ensures.count, joined_turn of c.loop-s.s), omega (arith, c.loop-s.invariant.1, c.count_of-count.ensures.count, there))
