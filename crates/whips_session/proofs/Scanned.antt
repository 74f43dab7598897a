-- Scans in a log that goes on.
use Rattle.std.proofs.Common.{◌≡◌, ℕ, ◌+◌, ◌≤◌, min, List, [], ◌∷◌, ◌++◌, length, refl, sym, ap, subst, ◌∙◌, arith, append-nil, length-append}
use Rattle.std.specs.Prelude.{fold}
use Rattle.std.proofs.lemmas.Grind.{fold-append}
use Rattle.std.proofs.lemmas.List.Concat.{flat_map-append}
use Rattle.whips_row_buf.specs.Buffers.{Buffer}
use Rattle.whips_vnl.specs.Records.{Seen}
use Rattle.whips_store.specs.Stores.{with_seen}
use Rattle.whips_store.specs.Reads.{Log, PhaseSays, RowSays, PhaseStays, RowStays}
use Rattle.whips_session.specs.Reads.{FetchSays, FetchSaid}
use Rattle.whips_session.specs.Scans.{LoggedFetch, all_seen, FetchesSay, HasScanned, ScansGoOn}
use Rattle.whips_session.proofs.Logs.{fetch_stays, one_fetch}

-- the last of the fetches, or this place where there are none, is up to that place
abbrev FetchesUpTo : ℕ → ℕ → List LoggedFetch → Type 0
FetchesUpTo was from [] = from ≤ was
FetchesUpTo was from (f ∷ fetches) = FetchesUpTo was f.next fetches

module _ {B : Type 0} (phase_says : PhaseSays B) (row_says : RowSays B) (phases : PhaseStays phase_says) (rows : RowStays row_says) (base : B) where
  say_stay : (log more : Log) (from x i v : ℕ) (fetches : List LoggedFetch) → FetchesSay phase_says row_says base log from x i v fetches → FetchesSay phase_says row_says base (log ++ more) from x i v fetches
  say_stay log more from x i v [] h = let all = length-append log more in omega (arith, all, h)
  say_stay log more from x i v (f ∷ fetches) h =
      (h.0, fetch_stays phase_says row_says phases rows base log more f.start x i v f.seen f.phase f.next h.1, say_stay log more f.next x (i + length f.seen) v fetches h.2)

  say_more : (log : Log) (from x i v j : ℕ) (fetches : List LoggedFetch) (f : LoggedFetch) (was : ℕ) → was ≤ f.start → j ≡ i + length (all_seen fetches) → FetchesUpTo was from fetches
      → FetchesSay phase_says row_says base log from x i v fetches → FetchSays phase_says row_says base log f.start x j v f.seen f.phase f.next → f.next ≤ length log
      → FetchesSay phase_says row_says base log from x i v (fetches ++ f ∷ [])
  say_more log from x i v j [] f was le e before h g end =
      let here : j ≡ i = omega (arith, e) in
      let first : from ≤ f.start = omega (arith, before, le) in
      (first, subst (λ k. FetchSays phase_says row_says base log f.start x k v f.seen f.phase f.next) here g, end)
  say_more log from x i v j (u ∷ fetches) f was le e before h g end =
      let all = length-append u.seen (all_seen fetches) in
      let there : j ≡ i + length u.seen + length (all_seen fetches) = omega (arith, all, e) in
      (h.0, h.1, say_more log u.next x (i + length u.seen) v j fetches f was le there before h.2 g end)

  up_to : (log : Log) (from x i v : ℕ) (fetches : List LoggedFetch) → FetchesSay phase_says row_says base log from x i v fetches → FetchesUpTo (length log) from fetches
  up_to log from x i v [] h = h
  up_to log from x i v (f ∷ fetches) h = up_to log f.next x (i + length f.seen) v fetches h.2

  scan_stays : (log more : Log) (x v slots next : ℕ) (fetches : List LoggedFetch) (b : Buffer) → HasScanned phase_says row_says base log x v slots next fetches b → HasScanned phase_says row_says base (log ++ more) x v slots next fetches b
  scan_stays log more x v slots next fetches b h =
      record { said = say_stay log more 0 x 0 v fetches h.said; visited = h.visited; within = h.within; first = h.first; empty = h.empty; put = h.put }

  scan_fetch : (old new : Log) (x v slots next n phase : ℕ) (fetches : List LoggedFetch) (before after : Buffer) → HasScanned phase_says row_says base old x v slots next fetches before
      → FetchSaid phase_says row_says base old new (record { version = v; view = x; slot = next }) (min (next + n) slots) before after phase
      → (f : LoggedFetch) × (f.phase ≡ phase) × HasScanned phase_says row_says base new x v slots (min (next + n) slots) (fetches ++ f ∷ []) after
  scan_fetch old new x v slots next n phase fetches before after h said =
      let g = one_fetch phase_says row_says base old new (record { version = v; view = x; slot = next }) (min (next + n) slots) before after phase rows said in
      let f : LoggedFetch = record { start = length old; seen = g.seen; phase = phase; next = length new } in
      let stayed = subst (λ l. FetchesSay phase_says row_says base l 0 x 0 v fetches) (sym g.goes_on) (say_stay old g.rest 0 x 0 v fetches h.said) in
      let seen : all_seen (fetches ++ f ∷ []) ≡ all_seen fetches ++ g.seen = flat_map-append (λ (w : LoggedFetch). w.seen) fetches (f ∷ []) ∙ ap (λ l. all_seen fetches ++ l) (append-nil g.seen) in
      let count = length-append (all_seen fetches) g.seen in (
        f,
        refl,
        record {
          said = say_more new 0 x 0 v next fetches f (length old) (omega arith) (let all = h.visited in omega (arith, all)) (up_to old 0 x 0 v fetches h.said) stayed g.said (omega arith);
          visited = ap length seen ∙ count ∙ (let all = h.visited in let more = g.visited in let there : length (all_seen fetches) + length g.seen ≡ min (next + n) slots = omega (arith, all, more, h.within) in there);
          within = omega arith;
          first = h.first;
          empty = h.empty;
          put = g.put ∙ ap (λ b. fold (λ (b : Buffer) (s : Seen). with_seen s b) b g.seen) h.put
              ∙ sym (fold-append (λ (b : Buffer) (s : Seen). with_seen s b) h.first (all_seen fetches) g.seen) ∙ ap (fold (λ (b : Buffer) (s : Seen). with_seen s b) h.first) (sym seen);
        },
      )

pub scans_go : {B : Type 0} (phase_says : PhaseSays B) (row_says : RowSays B) → PhaseStays phase_says → RowStays row_says → ScansGoOn phase_says row_says
scans_go phase_says row_says phases rows = record {
  begins = λ base log x v slots b empty. record { said = omega arith; visited = refl; within = omega arith; first = b; empty = empty; put = refl };
  fetch = λ base. scan_fetch phase_says row_says phases rows base;
  stays = λ base. scan_stays phase_says row_says phases rows base;
}
