use Rattle.std.proofs.Common.{◌≡◌, true, refl, subst}
use Rattle.std.proofs.lemmas.Option.{slice_get_within}
use Rattle.whips_runs.specs.Sessions.{is_open}
use Rattle.whips_world.specs.Readers.{is_allowed_here}
use Rattle.whips_world.specs.Runs.{Moment, IsDue}
use Rattle.whips_world.proofs.Errors.{ok_both, if_ok, if_err}
use Rattle.whips_world.proofs.Reading.{reader_there}
use Rattle.whips_world.proofs.Turns.{due_told, closed_on, opened_on, open_failed, scan_there, scanned_on, fetched_on, fetch_failed}
use Rattle.whips_world.proofs.schedule.do_session.Goals as goal

pub scan-requires-clause-view : goal.scan-requires-clause-view
scan-requires-clause-view g c =
    let told = g.K.RecordSink.told in
    let m : Moment _ = record { core = c.args.core.now; readers = c.args.readers.now; sink = c.args.sink.now } in
    let h = subst (λ e. IsDue told g.at m e c.requires.1.1.1.1.1.1.0) c.in-SessionScan.is c.requires.1.1.1.1.1.1.1 in
    let may = subst (λ e. is_allowed_here m.core m.readers e ≡ true) c.in-SessionScan.is c.requires.1.1.1.1.0 in
    scan_there told g.met.K.RecordSink.told_more g.at m c.requires.1.1.1.1.1.1.0 (g.S.Store.state c.store-in-SessionScan.result.now) c.store-in-SessionScan.ensures.store c.in-SessionScan.s c.in-SessionScan.x h may

pub close-requires : goal.close-requires
close-requires g c =
    let may = subst (λ e. is_allowed_here c.args.core.now c.args.readers.now e ≡ true) c.in-SessionClose.is c.requires.1.1.1.1.0 in
    let r = reader_there is_open refl c.args.readers.now c.in-SessionClose.s may in
    record { there = slice_get_within c.args.readers.now c.in-SessionClose.s r.0 r.1 }

pub returns-in-SessionOpen-clause-ok : goal.returns-in-SessionOpen-clause-ok
returns-in-SessionOpen-clause-ok g c =
    let told = g.K.RecordSink.told in
    let m : Moment _ = record { core = c.args.core.now; readers = c.args.readers.now; sink = c.args.sink.now } in
    let may = subst (λ e. is_allowed_here m.core m.readers e ≡ true) c.in-SessionOpen.is c.requires.1.1.1.1.0 in
    if_ok c.open.result (ok_both c.open.result _ _ c.open.ensures.readers c.open.ensures.told)
    (λ t left due. opened_on told g.met.K.RecordSink.told_more g.at m left (g.S.Store.state c.store.result.now) c.store.ensures.store c.in-SessionOpen.s (subst (λ e. IsDue told g.at m e left) c.in-SessionOpen.is due) may c.open.new.readers c.open.new.sink t.0 t.1)

pub returns-in-SessionOpen-clause-memory : goal.returns-in-SessionOpen-clause-memory
returns-in-SessionOpen-clause-memory g c =
    let m : Moment _ = record { core = c.args.core.now; readers = c.args.readers.now; sink = c.args.sink.now } in
    if_err c.open.result c.open.ensures.memory
    (λ e t is. due_told g.K.RecordSink.told g.met.K.RecordSink.told_more g.at m c.args.e c.requires.1.1.1.1.1.1.0 c.requires.1.1.1.1.1.1.1 c.requires.1.1.1.1.0 c.open.new.sink (t is))

pub returns-in-SessionOpen-clause-failed : goal.returns-in-SessionOpen-clause-failed
returns-in-SessionOpen-clause-failed g c =
    let told = g.K.RecordSink.told in
    let m : Moment _ = record { core = c.args.core.now; readers = c.args.readers.now; sink = c.args.sink.now } in
    let h = subst (λ e. IsDue told g.at m e c.requires.1.1.1.1.1.1.0) c.in-SessionOpen.is c.requires.1.1.1.1.1.1.1 in
    let may = subst (λ e. is_allowed_here m.core m.readers e ≡ true) c.in-SessionOpen.is c.requires.1.1.1.1.0 in
    if_err c.open.result c.open.ensures.failed (λ e t is.
    open_failed told g.met.K.RecordSink.told_more g.at m c.requires.1.1.1.1.1.1.0 (g.S.Store.state c.store.result.now) c.store.ensures.store c.in-SessionOpen.s h may g.K.RecordSink.failed g.met.K.RecordSink.failed_later c.open.new.sink (t is))

pub returns-in-SessionScan-clause-ok : goal.returns-in-SessionScan-clause-ok
returns-in-SessionScan-clause-ok g c =
    let told = g.K.RecordSink.told in
    let m : Moment _ = record { core = c.args.core.now; readers = c.args.readers.now; sink = c.args.sink.now } in
    let may = subst (λ e. is_allowed_here m.core m.readers e ≡ true) c.in-SessionScan.is c.requires.1.1.1.1.0 in
    if_ok c.scan.result c.scan.ensures.ok
    (λ t left due. scanned_on told g.met.K.RecordSink.told_more g.at m left (g.S.Store.state c.store-in-SessionScan.result.now) c.store-in-SessionScan.ensures.store
    c.in-SessionScan.s c.in-SessionScan.x (subst (λ e. IsDue told g.at m e left) c.in-SessionScan.is due) (g.met.K.RecordSink.told_none c.args.sink.now) may c.scan.new.readers t)

pub returns-in-SessionScan-clause-memory : goal.returns-in-SessionScan-clause-memory
returns-in-SessionScan-clause-memory g c =
    let m : Moment _ = record { core = c.args.core.now; readers = c.args.readers.now; sink = c.args.sink.now } in
    if_err c.scan.result c.scan.ensures.memory
    (λ e t is. due_told g.K.RecordSink.told g.met.K.RecordSink.told_more g.at m c.args.e c.requires.1.1.1.1.1.1.0 c.requires.1.1.1.1.1.1.1 c.requires.1.1.1.1.0 c.args.sink.now (g.met.K.RecordSink.told_none c.args.sink.now))

pub returns-in-SessionFetch-clause-ok : goal.returns-in-SessionFetch-clause-ok
returns-in-SessionFetch-clause-ok g c =
    let told = g.K.RecordSink.told in
    let m : Moment _ = record { core = c.args.core.now; readers = c.args.readers.now; sink = c.args.sink.now } in
    let may = subst (λ e. is_allowed_here m.core m.readers e ≡ true) c.in-SessionFetch.is c.requires.1.1.1.1.0 in
    if_ok c.fetch.result c.fetch.ensures.told
    (λ t left due. fetched_on told g.met.K.RecordSink.told_more g.at m left (g.S.Store.state c.store-in-SessionFetch.result.now) c.store-in-SessionFetch.ensures.store
    c.in-SessionFetch.s c.in-SessionFetch.n (subst (λ e. IsDue told g.at m e left) c.in-SessionFetch.is due) may c.fetch.new.readers c.fetch.new.sink t)

pub returns-in-SessionFetch-clause-memory : goal.returns-in-SessionFetch-clause-memory
returns-in-SessionFetch-clause-memory g c =
    let m : Moment _ = record { core = c.args.core.now; readers = c.args.readers.now; sink = c.args.sink.now } in
    if_err c.fetch.result c.fetch.ensures.memory
    (λ e t is. due_told g.K.RecordSink.told g.met.K.RecordSink.told_more g.at m c.args.e c.requires.1.1.1.1.1.1.0 c.requires.1.1.1.1.1.1.1 c.requires.1.1.1.1.0 c.fetch.new.sink (t is))

pub returns-in-SessionFetch-clause-failed : goal.returns-in-SessionFetch-clause-failed
returns-in-SessionFetch-clause-failed g c =
    let told = g.K.RecordSink.told in
    let m : Moment _ = record { core = c.args.core.now; readers = c.args.readers.now; sink = c.args.sink.now } in
    let h = subst (λ e. IsDue told g.at m e c.requires.1.1.1.1.1.1.0) c.in-SessionFetch.is c.requires.1.1.1.1.1.1.1 in
    let may = subst (λ e. is_allowed_here m.core m.readers e ≡ true) c.in-SessionFetch.is c.requires.1.1.1.1.0 in
    if_err c.fetch.result c.fetch.ensures.failed (λ e t is.
    fetch_failed told g.met.K.RecordSink.told_more g.at m c.requires.1.1.1.1.1.1.0 (g.S.Store.state c.store-in-SessionFetch.result.now) c.store-in-SessionFetch.ensures.store
    c.in-SessionFetch.s c.in-SessionFetch.n h may g.K.RecordSink.failed g.met.K.RecordSink.failed_later c.fetch.new.readers c.fetch.new.sink (t is))

pub returns-in-SessionClose-clause-ok : goal.returns-in-SessionClose-clause-ok
returns-in-SessionClose-clause-ok g c =
    let told = g.K.RecordSink.told in
    let m : Moment _ = record { core = c.args.core.now; readers = c.args.readers.now; sink = c.args.sink.now } in
    let may = subst (λ e. is_allowed_here m.core m.readers e ≡ true) c.in-SessionClose.is c.requires.1.1.1.1.0 in
    λ left due. closed_on told g.met.K.RecordSink.told_more g.at m left c.in-SessionClose.s (subst (λ e. IsDue told g.at m e left) c.in-SessionClose.is due) (g.met.K.RecordSink.told_none c.args.sink.now) may c.close.new.readers c.close.ensures
