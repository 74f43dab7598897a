use Rattle.std.proofs.Common.{ℕ, List, length, sym, ◌∙◌, arith}
use Rattle.std.specs.Prelude.{map, slice_get}
use Rattle.std.proofs.lemmas.List.{length-map}
use Rattle.std.proofs.lemmas.Option.{slice_get_past}
use Rattle.whips_flow.specs.declared.event.Event.{Event}
use Rattle.whips_world.specs.Readers.{session_of}
use Rattle.whips_world.specs.Picks.{session_choices}
use Rattle.whips_world.proofs.Counted.{joined, joined_grows, joined_turn, joined_there}
use Rattle.whips_world.proofs.Sessions.{some_there}
use Rattle.whips_world.proofs.picks.choice_at.Goals as goal

pub returns-then-left-count : goal.returns-then-left-count
returns-then-left-count c =
    let of : ℕ → List Event = λ s. session_choices c.args.may_scan c.args.views s (slice_get (map session_of c.args.readers.now) s) in
    c.choice_of.ensures
    ∙ sym (joined_there of c.loop-s.s (length c.args.readers.now) c.args.place c.loop-s.left c.loop-s-test.true c.loop-s.invariant.0 (omega (arith, c.if-left-count.true, c.count_of-count.ensures.count)))

pub loop-s-preserved : goal.loop-s-preserved
loop-s-preserved c =
    let of : ℕ → List Event = λ s. session_choices c.args.may_scan c.args.views s (slice_get (map session_of c.args.readers.now) s) in
    let long = length-map c.args.readers.now session_of in
    let there = some_there c.args.may_scan c.args.views c.loop-s.s c.loop-s.s (map session_of c.args.readers.now) (omega (arith, c.loop-s-test.true, long)) in
    let turn = joined_turn of c.loop-s.s in
    (omega (arith, c.loop-s.invariant.0, c.count_of-count.ensures.count, turn, c.if-left-count.false), omega (arith, c.loop-s.invariant.1, there, turn))

pub returns : goal.returns
returns c =
    let of : ℕ → List Event = λ s. session_choices c.args.may_scan c.args.views s (slice_get (map session_of c.args.readers.now) s) in
    sym (slice_get_past (joined of (length c.args.readers.now)) c.args.place (omega (arith, c.loop-s.invariant.0, joined_grows of (length c.args.readers.now) c.loop-s.s c.loop-s-test.false)))
