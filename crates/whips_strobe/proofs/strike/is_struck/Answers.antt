use Rattle.std.proofs.Common.{◌≤◌, true, length, sym, ◌∙◌, arith}
use Rattle.whips_view.specs.ViewDefs.{keyed}
use Rattle.whips_open_queries.specs.Deletions.{pending_at}
use Rattle.whips_strobe.proofs.Strikes.{struck_is, found_struck}
use Rattle.whips_strobe.proofs.strike.is_struck.Goals as goal

pub returns-then-branch : goal.returns-then-branch
returns-then-branch c =
    let width = c.width-part-end.ensures.width in
    let whole = c.requires.width in
    let le : length c.args.partial.now ≤ c.width-part-end.result = omega arith in
    sym (found_struck (keyed c.args.view.now).keys (pending_at c.args.queries.now c.args.i) c.args.partial.now c.width-part-end.result c.loop-part.part c.loop-part-test.true (sym c.in_ok-is_struck_at.ensures ∙ c.if-branch.true))
    ∙ struck_is (keyed c.args.view.now) c.args.partial.now (pending_at c.args.queries.now c.args.i) c.width-part-end.result le

pub returns : goal.returns
returns c =
    let width = c.width-part-end.ensures.width in
    let whole = c.requires.width in
    let past = c.loop-part-test.false in
    let le : length c.args.partial.now ≤ c.loop-part.part = omega arith in
    sym c.loop-part.invariant ∙ struck_is (keyed c.args.view.now) c.args.partial.now (pending_at c.args.queries.now c.args.i) c.loop-part.part le
