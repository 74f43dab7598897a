use Rattle.std.proofs.Common.{Some, ap, ◌∙◌}
use Rattle.std.specs.Prelude.{slice_index_or, slice_set}
use Rattle.whips_session.specs.Sessions.{OpenSession}
use Rattle.whips_world.specs.Readers.{ReaderData, opened_session}
use Rattle.whips_world.proofs.Errors.{if_ok}
use Rattle.whips_world.proofs.Reading.{set_at}
use Rattle.whips_world.proofs.readers.open.Goals as goal

pub returns-clause-readers : goal.returns-clause-readers
returns-clause-readers g c =
    let readers = c.args.readers.now in
    let before = slice_index_or readers c.args.s c.index-readers-s.result in
    if_ok c.push.result c.push.ensures.told (λ _.
    ap (λ (r : ReaderData). slice_set readers c.args.s (record r { session = Some c.start_from-session.result.0 })) c.reader.view_is
    ∙ (ap (λ (o : OpenSession). slice_set readers c.args.s (record before { session = Some o })) c.start_from-session.ensures.session
    ∙ set_at (λ (r : ReaderData). record r { session = Some (opened_session (g.S.Store.state c.args.store.now)) }) c.args.s readers c.index-readers-s.result c.requires.there))
