-- How many loads there are, and what was read: the laws on logs for a fetch of a session.
use Rattle.std.proofs.Common.{◌≡◌, ℕ, zero, suc, ◌+◌, ◌*◌, ◌/◌, ◌<◌, ◌≤◌, List, [], ◌∷◌, length, take, refl, ap, ◌∙◌, arith, length-append}
use Rattle.std.specs.Prelude.{Some, slice_get, slice_index}
use Rattle.std.proofs.Math.Nat.{suc-mul}
use Rattle.whips_flow.specs.Staleness.{last_phase}
use Rattle.whips_vnl.specs.Records.{Seen, seen_row, seen_nothing, seen_past}
use Rattle.whips_board.specs.History.{words_after}
use Rattle.whips_store.specs.Reads.{Log}
use Rattle.whips_session.specs.Reads.{RowsSay}
use Rattle.whips_slot_words.specs.Words.{Shape, view_shape, phase_of, header_place, column_place, taken, IsLiveAt}
use Rattle.whips_slot_words.specs.Loads.{loads_of, words_at, width_loaded}
use Rattle.whips_slot_words.specs.Looks.{board_row_says, board_rows_say}
use Rattle.whips_slot_words.specs.StoreLaws.{shape_of, first_values}
use Rattle.whips_slot_words.proofs.First.{layout_headers}
use Rattle.whips_slot_words.proofs.Looks.{phases, fetches}
use Rattle.whips_slot_laws.proofs.Calls.{rows_fit}
use Rattle.whips_slots.specs.Boards.{first_words}
use Rattle.whips_slots.proofs.Small.{setup_versions, in_shape, slots_is}
use Rattle.whips_board_look.specs.Looks.{BoardBase, view_slots, look_row_says}
use Rattle.whips_board_look.specs.Laws.{words_seen, LoadsAreCounted, FetchesAreBounded, FetchesReadSlots, FetchesReadStarts, PhasesAreRead}
use Rattle.whips_board_look.proofs.Rows.{words_shown}

-- ---- how many loads

words_count : (place : ℕ → ℕ) (k : ℕ) (ws : List ℕ) → length (words_at place k ws) ≡ length ws
words_count place k [] = refl
words_count place k (w ∷ ws) = ap suc (words_count place (suc k) ws)

row_counted : (shape : Shape) (log : Log) (at x i v : ℕ) (seen : Seen) (next : ℕ) → board_row_says shape log at x i v seen next → next ≡ at + (shape.versions + words_seen (view_shape shape x).width seen)
row_counted shape log at x i v seen next (loads, rest, is, le, end, reads) =
    let width = (view_shape shape x).width in
    let both = ap length reads.loaded in
    let split = length-append (words_at (header_place shape x i) 0 reads.hs) (words_at (column_place shape x i (taken v reads.hs)) 0 reads.row) in
    let one = words_count (header_place shape x i) 0 reads.hs in
    let two = words_count (column_place shape x i (taken v reads.hs)) 0 reads.row in
    let count = reads.count in
    let wide = reads.width in
    let shown : words_seen width seen ≡ width_loaded width v reads.hs = ap (words_seen width) reads.answer ∙ words_shown v reads.hs (λ e. reads.row) width in
    omega (arith, end, both, split, one, two, count, wide, shown)

pub counted : LoadsAreCounted
counted = record {
  phase = λ base log at phase next says. let end = says.3 in omega (arith, end);
  row = λ base log at x i v seen next says. row_counted (shape_of base.0) log at x i v seen next says;
  phase_loads = λ base log at phase next says. let end = says.3 in omega (arith, end);
}

words_most : (width : ℕ) (seen : Seen) → words_seen width seen ≤ width
words_most width (seen_row t) = omega arith
words_most width seen_nothing = omega arith
words_most width seen_past = omega arith

rows_bounded : (base : BoardBase) (log : Log) (at x i v : ℕ) (seen : List Seen) (next : ℕ) → RowsSay look_row_says base log at x i v seen next → next ≤ at + length seen * (base.0.versions + (view_shape (shape_of base.0) x).width)
rows_bounded base log at x i v [] next says = let end = says in omega (arith, end)
rows_bounded base log at x i v (s ∷ seen) next (mid, one, more) =
    let each = base.0.versions + (view_shape (shape_of base.0) x).width in
    let here = row_counted (shape_of base.0) log at x i v s mid one in
    let most = words_most (view_shape (shape_of base.0) x).width s in
    let later = rows_bounded base log mid x (suc i) v seen next more in
    sums at mid next base.0.versions (view_shape (shape_of base.0) x).width (words_seen (view_shape (shape_of base.0) x).width s) (length seen * each) (suc (length seen) * each) here most later (suc-mul (length seen) each)
  where
    sums : (at mid next n w u m t : ℕ) → mid ≡ at + (n + u) → u ≤ w → next ≤ mid + m → t ≡ m + (n + w) → next ≤ at + t
    sums at mid next n w u m t a b c d = omega (arith, a, b, c, d)

pub bounded : FetchesAreBounded
bounded base log at x i v seen phase next says =
    let rows = rows_bounded base log at x i v seen says.mid says.rows in
    let end = says.loaded.3 in
    omega (arith, rows, end)

-- ---- what was read

rows_are : (base : BoardBase) (log : Log) (at x i v : ℕ) (seen : List Seen) (next : ℕ) → RowsSay look_row_says base log at x i v seen next → next ≤ length log → board_rows_say (shape_of base.0) log at x i v seen next
rows_are base log at x i v [] next says le = let end = says in (omega (arith, end, le), says)
rows_are base log at x i v (s ∷ seen) next (mid, one, more) le = (mid, one, rows_are base log mid x (suc i) v seen next more le)

pub read_slots : FetchesReadSlots
read_slots base history log ex start started p at x i v q next seen begin low order fetch fresh lx fits count live =
    let s = base.0 in
    let h = ex.setup_holds in
    let two = (setup_versions s h).0 in
    let some : 1 ≤ s.versions = omega (arith, two) in
    let has = layout_headers (shape_of s) (first_values s.initial s.views s.slots) some (rows_fit s h) in
    let high : q ≤ last_phase s.versions v = omega (arith, fresh) in
    let slots : (view_shape (shape_of s) x).slots ≡ view_slots s x = slots_is s h x (view_slots s x) (slots_there s.slots x (let each = h.slots in omega (arith, each, lx))) in
    fetches (shape_of s) (first_words s) history log some has ex.lawful ex.explained start started at fetch.mid fetch.mid next p q x i v count seen
    begin (rows_are base (loads_of log) at x i v seen fetch.mid fetch.rows fetch.loaded.2) fetch.loaded order (omega arith) low high (in_shape s h x lx) (omega (arith, slots, fits)) live
  where
    slots_there : (xs : List ℕ) (x : ℕ) → x < length xs → slice_get xs x ≡ Some (slice_index xs x)
    slots_there [] x lt = absurd (omega arith)
    slots_there (n ∷ xs) zero lt = refl
    slots_there (n ∷ xs) (suc x) lt = slots_there xs x (omega arith)

pub phases_read : PhasesAreRead
phases_read base history log ex at p next says = phases (shape_of base.0) (first_words base.0) history log ex.explained at p next says

pub read_starts : FetchesReadStarts
read_starts base history log ex start started p at x i q next seen begin order fetch fresh lx fits =
    let two = (setup_versions base.0 ex.setup_holds).0 in
    let from = phases_read base history log ex start p started begin in
    let at_from = from.2 in
    let low : 2 * (p / 2) ≤ p = omega arith in
    let live : IsLiveAt base.0.versions (phase_of (words_after (first_words base.0) (take from.0 history))) (p / 2)
    = record { committed = omega (arith, low, at_from); fresh = omega (arith, two, at_from) } in
    (from.0, from.1, from.2, read_slots base history log ex start started p at x i (p / 2) q next seen begin low order fetch fresh lx fits from.0 live)
