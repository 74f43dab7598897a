use Rattle.std.proofs.Common.{refl, ◌∙◌, arith}
use Rattle.std.proofs.lemmas.Iterator.Adapters.{YieldsList-from_vec}
use Rattle.std.proofs.lemmas.Iterator.Consumers.{YieldsList-turn, YieldsList-so_far}
use Rattle.whips_plain.proofs.Begins.{none_with, net_split, view_there, columns_at, one_further, put_at}
use Rattle.whips_plain.proofs.views.put_changes.Goals as goal

pub loop-change-init : goal.loop-change-init
loop-change-init c = record { at = refl; views = none_with c.args.views.now.items }

pub index_mut-requires : goal.index_mut-requires
index_mut-requires c =
    let e = c.into_iter-change-iterator.ensures.into_iter_gives in
    let all = YieldsList-from_vec c.changes.inside.views.items e.0 (e.1 ∙ c.changes.inside.views.ok.0) in
    let turn = YieldsList-turn all c.loop-change.yielded c.loop-change.change-iterator c.loop-change.yielded_by c.next.result c.next.new.self c.in-Some.change c.in-Some.is c.next.ensures.steps in
    let so_far = YieldsList-so_far all c.loop-change.yielded c.loop-change.change-iterator c.loop-change.yielded_by in
    let net = net_split (λ view. (view.0, view.1.items)) c.args.views.now.items c.args.changes c.changes.inside.views.items c.loop-change.yielded c.in-Some.change c.requires c.changes.view_is so_far turn.0 turn.1 in
    let there = view_there (λ view. (view.0, view.1.items)) c.args.views.now.items c.loop-change.views.items c.loop-change.yielded c.in-Some.change net.0 c.loop-change.x net.1 c.loop-change.invariant.at c.loop-change.invariant.views in
    let ok = c.loop-change.views.ok in
    omega (arith, there, ok.0)

pub begin-requires : goal.begin-requires
begin-requires c =
    let e = c.into_iter-change-iterator.ensures.into_iter_gives in
    let all = YieldsList-from_vec c.changes.inside.views.items e.0 (e.1 ∙ c.changes.inside.views.ok.0) in
    let turn = YieldsList-turn all c.loop-change.yielded c.loop-change.change-iterator c.loop-change.yielded_by c.next.result c.next.new.self c.in-Some.change c.in-Some.is c.next.ensures.steps in
    let so_far = YieldsList-so_far all c.loop-change.yielded c.loop-change.change-iterator c.loop-change.yielded_by in
    let net = net_split (λ view. (view.0, view.1.items)) c.args.views.now.items c.args.changes c.changes.inside.views.items c.loop-change.yielded c.in-Some.change c.requires c.changes.view_is so_far turn.0 turn.1 in
    columns_at (λ view. (view.0, view.1.items)) c.args.views.now.items c.loop-change.views.items c.loop-change.yielded c.in-Some.change net.0 c.loop-change.x net.1 c.loop-change.invariant.at c.loop-change.invariant.views c.index_mut.result.now c.index_mut.ensures.value

pub loop-change-preserved : goal.loop-change-preserved
loop-change-preserved c =
    let e = c.into_iter-change-iterator.ensures.into_iter_gives in
    let all = YieldsList-from_vec c.changes.inside.views.items e.0 (e.1 ∙ c.changes.inside.views.ok.0) in
    let turn = YieldsList-turn all c.loop-change.yielded c.loop-change.change-iterator c.loop-change.yielded_by c.next.result c.next.new.self c.in-Some.change c.in-Some.is c.next.ensures.steps in
    let so_far = YieldsList-so_far all c.loop-change.yielded c.loop-change.change-iterator c.loop-change.yielded_by in
    let net = net_split (λ view. (view.0, view.1.items)) c.args.views.now.items c.args.changes c.changes.inside.views.items c.loop-change.yielded c.in-Some.change c.requires c.changes.view_is so_far turn.0 turn.1 in record {
      at = one_further (λ view. (view.0, view.1.items)) c.args.views.now.items c.loop-change.views.items c.loop-change.yielded c.in-Some.change net.0 c.loop-change.x net.1 c.loop-change.invariant.at c.loop-change.invariant.views;
      views = put_at (λ view. (view.0, view.1.items)) c.args.views.now.items c.loop-change.views.items c.loop-change.yielded c.in-Some.change net.0 c.loop-change.x net.1 c.loop-change.invariant.at c.loop-change.invariant.views c.index_mut.result.now c.begin.new.self c.index_mut.ensures.value c.begin.ensures;
    }
