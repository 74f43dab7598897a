-- What the look says is what the store's slots show.
use Rattle.std.proofs.Common.{◌≡◌, ℕ, [], length, sym, ap, ◌∙◌}
use Rattle.std.specs.Prelude.{Option, unwrap_or}
use Rattle.whips_store.specs.Stores.{view_in}
use Rattle.whips_session.specs.Sessions.{scan_in}
use Rattle.whips_session_laws.specs.Readers.{slots_in}
use Rattle.whips_session_laws.proofs.Readers.{fetched_over}
use Rattle.whips_session_laws.proofs.still.fetch_from.Goals as goal

pub returns-clause-reader : goal.returns-clause-reader
returns-clause-reader g c =
    let store = g.S.Store.state c.args.store.now in
    let all : c.slots-slots.result ≡ slots_in store (scan_in c.args.session.now) =
    c.slots-slots.ensures ∙ ap (λ (o : Option (ℕ × ℕ)). length (view_in store (unwrap_or o (0, 0)).0).records) (sym c.in-Some.is ∙ c.scanning.ensures) in
    let has = fetched_over g.S.Store.state c.over.result.store.now c.args.store.now [] [] c.args.session.now c.fetch.new.self c.args.n c.slots-slots.result c.fetch.result.1 c.args.buf.now c.fetch.new.buf c.fetch.result.0
    c.over.ensures c.requires.scan c.requires.reader all c.fetch.ensures.said c.fetch.ensures.session c.fetch.ensures.answer in
    has.reader

pub returns-clause-values : goal.returns-clause-values
returns-clause-values g c =
    let store = g.S.Store.state c.args.store.now in
    let all : c.slots-slots.result ≡ slots_in store (scan_in c.args.session.now) =
    c.slots-slots.ensures ∙ ap (λ (o : Option (ℕ × ℕ)). length (view_in store (unwrap_or o (0, 0)).0).records) (sym c.in-Some.is ∙ c.scanning.ensures) in
    let has = fetched_over g.S.Store.state c.over.result.store.now c.args.store.now [] [] c.args.session.now c.fetch.new.self c.args.n c.slots-slots.result c.fetch.result.1 c.args.buf.now c.fetch.new.buf c.fetch.result.0
    c.over.ensures c.requires.scan c.requires.reader all c.fetch.ensures.said c.fetch.ensures.session c.fetch.ensures.answer in
    has.values
