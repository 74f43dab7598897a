use Rattle.std.proofs.Common.{◌≡◌, ◌+◌, ◌<◌, ◌≤◌, ◌∷◌, [], ◌++◌, length, cond, arith, subst, sym, ap, ap₂, ◌∙◌}
use Rattle.std.specs.Prelude.{IfSome}
use Rattle.std.specs.List.{AllByRecursion, remove}
use Rattle.std.proofs.lemmas.List.{length-map}
use Rattle.whips_model.specs.Tuples.{Columns}
use Rattle.whips_steps.specs.Steps.{asked_sources}
use Rattle.whips_steps.specs.Answers.{IsWhole, unstruck}
use Rattle.whips_view.specs.ViewDefs.{keyed, row_columns}
use Rattle.whips_managers.specs.Managers.{Query, ManagerState, moved_on, put_of}
use Rattle.whips_managers.specs.Messages.{ask_of}
use Rattle.whips_view.specs.Widths.{widths_of}
use Rattle.whips_strobe.specs.Outs.{sent_by, all_sent_by}
use Rattle.whips_strobe.proofs.Seeds.{all_whole}
use Rattle.whips_strobe.proofs.Strikes.{filled_wide}
use Rattle.whips_strobe.proofs.Replies.{replied_at, reply_lost, asks_lost, get_below, has_next_step, has_no_next, reply_moves, reply_ends, asks_at}
use Rattle.whips_strobe.proofs.state.State.take_reply.Goals as goal

pub returns-in-None-clause-state : goal.returns-in-None-clause-state
returns-in-None-clause-state c = reply_lost c.args.r.update c.args.r.origin (keyed c.args.view.now) (row_columns c.args.view.now) c.args.self.now c.args.r.partials (rw (← ap (λ (m : ManagerState). m.queries) c.self.view_is) (sym c.in-None.ensures.place))

pub returns-in-None-clause-asks : goal.returns-in-None-clause-asks
returns-in-None-clause-asks c = c.new-asks.ensures.items ∙ ap (all_sent_by c.args.r.view) (sym (asks_lost c.args.r.update c.args.r.origin (keyed c.args.view.now) c.args.r.partials c.args.self.now.queries (rw (← ap (λ (m : ManagerState). m.queries) c.self.view_is) (sym c.in-None.ensures.place))))

pub advance-requires-clause-place : goal.advance-requires-clause-place
advance-requires-clause-place c =
    let r = replied_at c.args.self.now c.self.inside.queries c.args.r.update c.args.r.origin c.args.r.step c.in-Some.i (ap (λ (m : ManagerState). m.queries) c.self.view_is) c.in-Some.ensures.place c.in-Some.ensures.in_order c.requires.fits.open_query in
    get_below c.args.self.now.queries c.in-Some.i r.query r.at

pub advance-requires-clause-step : goal.advance-requires-clause-step
advance-requires-clause-step c =
    let r = replied_at c.args.self.now c.self.inside.queries c.args.r.update c.args.r.origin c.args.r.step c.in-Some.i (ap (λ (m : ManagerState). m.queries) c.self.view_is) c.in-Some.ensures.place c.in-Some.ensures.in_order c.requires.fits.open_query in
    let count = ap length c.sources.ensures.sources in
    let few = c.sources.ensures.few in
    let is = r.step_is in
    let lt = c.if-r-sources.true in
    let small : r.query.step + 1 < 4294967296 = omega arith in
    subst (λ o. IfSome o (λ (q : Query). q.step + 1 < 4294967296)) (sym r.at) small

pub returns-then-r-sources-clause-state : goal.returns-then-r-sources-clause-state
returns-then-r-sources-clause-state c =
    let r = replied_at c.args.self.now c.self.inside.queries c.args.r.update c.args.r.origin c.args.r.step c.in-Some.i (ap (λ (m : ManagerState). m.queries) c.self.view_is) c.in-Some.ensures.place c.in-Some.ensures.in_order c.requires.fits.open_query in
    let count = ap length c.sources.ensures.sources in
    let lt : c.args.r.step < length (asked_sources (keyed c.args.view.now) c.args.r.origin) = omega (arith, c.if-r-sources.true) in
    c.in_ok-sent.ensures.state ∙ reply_moves c.args.r.update c.args.r.origin (keyed c.args.view.now) (row_columns c.args.view.now) c.args.self.now c.args.r.partials c.in-Some.i r.query r.place r.at (has_next_step (keyed c.args.view.now) c.args.self.now c.args.r.update c.args.r.origin c.args.r.step c.in-Some.i r lt)

pub returns-then-r-sources-clause-asks : goal.returns-then-r-sources-clause-asks
returns-then-r-sources-clause-asks c =
    let r = replied_at c.args.self.now c.self.inside.queries c.args.r.update c.args.r.origin c.args.r.step c.in-Some.i (ap (λ (m : ManagerState). m.queries) c.self.view_is) c.in-Some.ensures.place c.in-Some.ensures.in_order c.requires.fits.open_query in
    let count = ap length c.sources.ensures.sources in
    let lt : c.args.r.step < length (asked_sources (keyed c.args.view.now) c.args.r.origin) = omega (arith, c.if-r-sources.true) in
    let next = has_next_step (keyed c.args.view.now) c.args.self.now c.args.r.update c.args.r.origin c.args.r.step c.in-Some.i r lt in
    let sent : c.in_ok-sent.sent ≡ sent_by c.args.r.view (ask_of (keyed c.args.view.now) (moved_on r.query c.args.r.partials)) = subst (λ o. IfSome o (λ q. c.in_ok-sent.sent ≡ sent_by c.args.r.view (ask_of (keyed c.args.view.now) (moved_on q c.args.r.partials)))) r.at c.in_ok-sent.ensures.ask in
    let asked = asks_at c.args.r.update c.args.r.origin (keyed c.args.view.now) c.args.r.partials c.args.self.now.queries c.in-Some.i r.query r.place r.at ∙ ap (λ b. cond b (ask_of (keyed c.args.view.now) (moved_on r.query c.args.r.partials) ∷ []) []) next in
    c.in_ok-push.ensures.items ∙ ap₂ (λ l z. l ++ z ∷ []) c.new-asks.ensures.items sent ∙ ap (all_sent_by c.args.r.view) (sym asked)

pub finish-requires-clause-place : goal.finish-requires-clause-place
finish-requires-clause-place c =
    let r = replied_at c.args.self.now c.self.inside.queries c.args.r.update c.args.r.origin c.args.r.step c.in-Some.i (ap (λ (m : ManagerState). m.queries) c.self.view_is) c.in-Some.ensures.place c.in-Some.ensures.in_order c.requires.fits.open_query in
    get_below c.args.self.now.queries c.in-Some.i r.query r.at

pub finish-requires-clause-whole : goal.finish-requires-clause-whole
finish-requires-clause-whole c =
    let count = ap length c.sources.ensures.sources in
    let width : length (keyed c.args.view.now).keys ≡ length c.args.view.now.bases = length-map c.args.view.now.bases (λ (b : Columns). b.key) in
    let past : length (asked_sources (keyed c.args.view.now) c.args.r.origin) < c.args.r.step + 1 = omega (arith, c.if-r-sources.false) in
    subst (λ n. AllByRecursion (IsWhole n) c.args.r.partials) width (all_whole (keyed c.args.view.now) (widths_of c.args.view.now) c.args.r.origin (c.args.r.step + 1) c.args.r.partials past c.requires.fits.filled)

pub finish-requires-clause-wide : goal.finish-requires-clause-wide
finish-requires-clause-wide c = filled_wide (keyed c.args.view.now) (widths_of c.args.view.now) c.args.r.origin (c.args.r.step + 1) c.args.r.partials c.requires.fits.filled

pub returns-clause-state : goal.returns-clause-state
returns-clause-state c =
    let r = replied_at c.args.self.now c.self.inside.queries c.args.r.update c.args.r.origin c.args.r.step c.in-Some.i (ap (λ (m : ManagerState). m.queries) c.self.view_is) c.in-Some.ensures.place c.in-Some.ensures.in_order c.requires.fits.open_query in
    let count = ap length c.sources.ensures.sources in
    let le : length (asked_sources (keyed c.args.view.now) c.args.r.origin) ≤ c.args.r.step = omega (arith, c.if-r-sources.false) in
    let next = has_no_next (keyed c.args.view.now) c.args.self.now c.args.r.update c.args.r.origin c.args.r.step c.in-Some.i r le in
    let done = subst (λ o. IfSome o (λ (q : Query). c.finish.new.self ≡ record c.args.self.now { actions = c.args.self.now.actions ++ put_of (keyed c.args.view.now) (row_columns c.args.view.now) (unstruck (keyed c.args.view.now) q.pending c.args.r.partials) ∷ []; queries = remove c.args.self.now.queries c.in-Some.i })) r.at c.in_ok-finish.ensures in
    done ∙ reply_ends c.args.r.update c.args.r.origin (keyed c.args.view.now) (row_columns c.args.view.now) c.args.self.now c.args.r.partials c.in-Some.i r.query r.place r.at next

pub returns-clause-asks : goal.returns-clause-asks
returns-clause-asks c =
    let r = replied_at c.args.self.now c.self.inside.queries c.args.r.update c.args.r.origin c.args.r.step c.in-Some.i (ap (λ (m : ManagerState). m.queries) c.self.view_is) c.in-Some.ensures.place c.in-Some.ensures.in_order c.requires.fits.open_query in
    let count = ap length c.sources.ensures.sources in
    let le : length (asked_sources (keyed c.args.view.now) c.args.r.origin) ≤ c.args.r.step = omega (arith, c.if-r-sources.false) in
    let next = has_no_next (keyed c.args.view.now) c.args.self.now c.args.r.update c.args.r.origin c.args.r.step c.in-Some.i r le in
    let asked = asks_at c.args.r.update c.args.r.origin (keyed c.args.view.now) c.args.r.partials c.args.self.now.queries c.in-Some.i r.query r.place r.at ∙ ap (λ b. cond b (ask_of (keyed c.args.view.now) (moved_on r.query c.args.r.partials) ∷ []) []) next in
    c.new-asks.ensures.items ∙ ap (all_sent_by c.args.r.view) (sym asked)
