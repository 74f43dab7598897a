use Rattle.std.proofs.Common.{◌≡◌, ◌≢◌, ◌/◌, List, length, map, get_or, Some, sym, ap, subst, ◌∙◌, arith, rules}
use Rattle.std.proofs.Math.ListN.{set}
use Rattle.std.proofs.lemmas.List.{set-get_or}
use Rattle.whips_model.proofs.Keyed.{all_at}
use Rattle.whips_store.specs.declared.error.StoreErr.TheVariants.{NoMemory}
use Rattle.whips_store.specs.Stores.{ViewState}
use Rattle.whips_store.specs.Calls.{AreNetChanges, first_full}
use Rattle.whips_store.specs.Sound.{IsSoundView}
use Rattle.whips_plain.proofs.Begins.{net_at, net_there, full_at, fits_at, none_short}
use Rattle.whips_plain.proofs.views.check_views.Goals as goal

pub overflow_cast-x : goal.overflow_cast-x
overflow_cast-x c = let there = net_there (λ view. (view.0, view.1.items)) c.args.views.now.items c.args.changes.now c.loop-x.x c.requires.net c.loop-x-test.true in omega (arith, there, c.requires.numbers)

pub index_mut-requires : goal.index_mut-requires
index_mut-requires c =
    let there = net_there (λ view. (view.0, view.1.items)) c.args.views.now.items c.args.changes.now c.loop-x.x c.requires.net c.loop-x-test.true in
    let ok = c.loop-x.views.ok in
    omega (arith, there, ok.0, ap length c.loop-x.invariant.same)

pub check_view-requires-clause-sound : goal.check_view-requires-clause-sound
check_view-requires-clause-sound c =
    let is = c.index_mut.ensures.value ∙ ap (λ (l : List ViewState). get_or l c.loop-x.x c.index_mut.result.now) c.loop-x.invariant.same in
    subst (IsSoundView c.args.n c.args.phase) (sym is) (all_at (IsSoundView c.args.n c.args.phase) c.args.views.now.items c.loop-x.x c.index_mut.result.now c.requires.sound (net_there (λ view. (view.0, view.1.items)) c.args.views.now.items c.args.changes.now c.loop-x.x c.requires.net c.loop-x-test.true))

pub check_view-requires-clause-columns : goal.check_view-requires-clause-columns
check_view-requires-clause-columns c =
    let is = c.index_mut.ensures.value ∙ ap (λ (l : List ViewState). get_or l c.loop-x.x c.index_mut.result.now) c.loop-x.invariant.same in
    (net_at (λ view. (view.0, view.1.items)) c.args.views.now.items c.args.changes.now c.loop-x.x c.index_mut.result.now c.index-changes-x.result c.requires.net c.loop-x-test.true is c.index-changes-x.is).0

pub check_view-requires-clause-net : goal.check_view-requires-clause-net
check_view-requires-clause-net c =
    let is = c.index_mut.ensures.value ∙ ap (λ (l : List ViewState). get_or l c.loop-x.x c.index_mut.result.now) c.loop-x.invariant.same in
    subst (AreNetChanges c.index_mut.result.now c.index-changes-x.result.0.rows) (sym c.deref.ensures.value) (net_at (λ view. (view.0, view.1.items)) c.args.views.now.items c.args.changes.now c.loop-x.x c.index_mut.result.now c.index-changes-x.result c.requires.net c.loop-x-test.true is c.index-changes-x.is).1

pub returns-in_err-check_view-clause-full : goal.returns-in_err-check_view-clause-full
returns-in_err-check_view-clause-full c =
    let is = c.index_mut.ensures.value ∙ ap (λ (l : List ViewState). get_or l c.loop-x.x c.index_mut.result.now) c.loop-x.invariant.same in
    let e = c.in_err-check_view in
    let told : e.field-0.0 ≢ NoMemory → first_full c.args.n (c.args.phase / 2) 0 c.args.views.now.items (map (λ view. (view.0, view.1.items)) c.args.changes.now) ≡ Some e.field-0.0 =
    λ other. c.loop-x.invariant.fits ∙ full_at (λ view. (view.0, view.1.items)) c.args.n (c.args.phase / 2) c.loop-x.x c.index_mut.result.now c.index-changes-x.result c.args.views.now.items c.args.changes.now (net_there (λ view. (view.0, view.1.items)) c.args.views.now.items c.args.changes.now c.loop-x.x c.requires.net c.loop-x-test.true) is c.loop-x-test.true c.index-changes-x.is (e.ensures.full other).0
    ∙ ap (λ e. Some e) (sym (e.ensures.full other).1) in
    search rules

pub loop-x-preserved : goal.loop-x-preserved
loop-x-preserved c =
    let is = c.index_mut.ensures.value ∙ ap (λ (l : List ViewState). get_or l c.loop-x.x c.index_mut.result.now) c.loop-x.invariant.same in
    record {
      same = ap (set c.loop-x.views.items c.loop-x.x) (c.in_ok-check_view.ensures.same ∙ c.index_mut.ensures.value) ∙ set-get_or c.loop-x.views.items c.loop-x.x c.index_mut.result.now ∙ c.loop-x.invariant.same;
      fits = c.loop-x.invariant.fits ∙ fits_at (λ view. (view.0, view.1.items)) c.args.n (c.args.phase / 2) c.loop-x.x c.index_mut.result.now c.index-changes-x.result c.args.views.now.items c.args.changes.now (net_there (λ view. (view.0, view.1.items)) c.args.views.now.items c.args.changes.now c.loop-x.x c.requires.net c.loop-x-test.true) is c.loop-x-test.true c.index-changes-x.is c.in_ok-check_view.ensures.ok;
    }

pub returns-clause-ok : goal.returns-clause-ok
returns-clause-ok c = c.loop-x.invariant.fits ∙ none_short (λ view. (view.0, view.1.items)) c.args.n (c.args.phase / 2) c.loop-x.x c.args.views.now.items c.args.changes.now c.loop-x-test.false
