-- Readers of a store that goes on between their fetches (`stays`, `fetched`).
--
-- At a version that isn't stale now, the slots that were visited before show now what they showed then (`holds_later`). So a fetch puts
-- what the next slots show behind what those before them show (`holds_more`), and a scan of all slots is a scan of one store, whose rows
-- are the view's values (`whole`).
use Rattle.std.proofs.Common.{◌≡◌, ℕ, zero, suc, ◌+◌, ◌-◌, ◌*◌, ◌<◌, ◌≤◌, List, [], ◌∷◌, ◌++◌, length, refl, sym, ap, subst, ◌∙◌, arith, true≢false, append-nil}
use Rattle.std.specs.Prelude.{Option, Some, None, IsSome, not, ◌&&◌, min, Bool, true, false, nat_lt, if◌then◌else◌}
use Rattle.std.proofs.lemmas.Bool.{lt-ltb}
use Rattle.std.proofs.lemmas.List.{length-map}
use Rattle.std.proofs.lemmas.Grind.{fold-append}
use Rattle.whips_lists.specs.Lists.{places_from}
use Rattle.whips_lists.proofs.Places.{length_places}
use Rattle.whips_model.specs.Tuples.{Codes, Columns}
use Rattle.whips_flow.specs.Staleness.{IsStale, is_stale}
use Rattle.whips_row_buf.specs.Buffers.{Buffer}
use Rattle.whips_runs.specs.Sessions.{Scan}
use Rattle.whips_vnl.specs.Records.{Seen}
use Rattle.whips_store.specs.Reads.{Log, still_phase_says, still_row_says}
use Rattle.whips_store.specs.Stores.{StoreState, view_in, seen_in, with_seen}
use Rattle.whips_session.specs.declared.session.Fetched.{Fetched}
use Rattle.whips_session.specs.declared.session.Fetched.TheVariants.{More, Done, Expired}
use Rattle.whips_session.specs.Sessions.{OpenSession, scan_in, IsScanBuffer, scan_after, session_fetched, answer_of}
use Rattle.whips_session.specs.Reads.{RowsSay, FetchSaid}
use Rattle.whips_session.proofs.Logs.{all_visited, shape_kept}
use Rattle.whips_faithful_laws.specs.Faithful.{IsFaithful}
use Rattle.whips_faithful_laws.specs.Scans.{IsLater, Visit, seen_from, with_all_seen}
use Rattle.whips_faithful_laws.proofs.Scans.{later_itself, sessions}
use Rattle.whips_session_laws.specs.Readers.{slots_in, HoldsScan, IsReader, OpenedIsReader, ReaderStays, ScanIsReader, HasFetched, StillFetches}

-- ---- what slots show

-- slots that show the same, one by one
seen_same : (s t : StoreState) (x v i n : ℕ) → ((j : ℕ) → seen_in t x j v ≡ seen_in s x j v) → seen_from t x v i n ≡ seen_from s x v i n
seen_same s t x v i zero h = refl
seen_same s t x v i (suc n) h = ap (λ l. seen_in t x i v ∷ l) (seen_same s t x v (suc i) n h) ∙ ap (λ u. u ∷ seen_from s x v (suc i) n) (h i)

-- some slots and the next ones
seen_more : (s : StoreState) (x v i a b : ℕ) → seen_from s x v i a ++ seen_from s x v (i + a) b ≡ seen_from s x v i (a + b)
seen_more s x v i zero b =
    ap (λ j. seen_from s x v j b) (let here : i + 0 ≡ i = omega arith in here) ∙ ap (seen_from s x v i) (let all : b ≡ 0 + b = omega arith in all)
seen_more s x v i (suc a) b =
    ap (λ l. seen_in s x i v ∷ l) (ap (λ j. seen_from s x v (suc i) a ++ seen_from s x v j b) (let next : i + suc a ≡ suc i + a = omega arith in next) ∙ seen_more s x v (suc i) a b)
    ∙ ap (seen_from s x v i) (let all : suc (a + b) ≡ suc a + b = omega arith in all)

-- the buffer with its rows taken out
abbrev cleared : Buffer → Buffer
cleared b = record b { rows = [] }

same_cleared : (b after : Buffer) → after.columns ≡ b.columns → after.room ≡ b.room → cleared b ≡ cleared after
same_cleared b after columns room =
    ap (λ (c : Columns). record b { columns = c; rows = [] }) (sym columns) ∙ ap (λ (r : ℕ). record b { columns = after.columns; rows = []; room = r }) (sym room)

-- ---- a scan

holds_later : (s t : StoreState) (scan : Scan) (b : Buffer) → 2 * scan.version ≤ s.phase → IsLater s t → HoldsScan s scan b → HoldsScan t scan b
holds_later s t scan b committed later h = record {
  view = subst (λ m. scan.view < m) (sym later.views) h.view;
  within = subst (λ m. scan.slot ≤ m) (sym (later.slots scan.view)) h.within;
  ready = record {
    columns = h.ready.columns ∙ sym (later.columns scan.view);
    room = subst (λ m. m ≤ b.room) (sym (later.slots scan.view)) h.ready.room;
    rows = h.ready.rows;
  };
  shown = λ fresh.
      h.shown (λ stale. fresh (omega (arith, stale, later.phase, later.versions)))
      ∙ ap (λ l. with_all_seen l (cleared b)) (sym (seen_same s t scan.view scan.version 0 scan.slot (λ j. later.same scan.view j scan.version committed fresh)));
}

length_seen : (s : StoreState) (x v i n : ℕ) → length (seen_from s x v i n) ≡ n
length_seen s x v i n = length-map (places_from i n) (λ j. seen_in s x j v) ∙ length_places i n

-- what the next slots show is put behind what those before them show
holds_more : (s : StoreState) (scan : Scan) (n : ℕ) (b after : Buffer) → HoldsScan s scan b
    → let to = min (scan.slot + n) (slots_in s scan) in after ≡ with_all_seen (seen_from s scan.view scan.version scan.slot (to - scan.slot)) b
    → HoldsScan s (scan_after (slots_in s scan) n scan) after
holds_more s scan n b after h put = record {
  view = h.view;
  within = omega arith;
  ready = subst (IsScanBuffer (view_in s scan.view).columns (slots_in s scan) to) (sym put)
      (subst (λ k. IsScanBuffer (view_in s scan.view).columns (slots_in s scan) k (with_all_seen seen b)) (ap (λ k. scan.slot + k) (length_seen s scan.view scan.version scan.slot (to - scan.slot)) ∙ there)
      (all_visited (view_in s scan.view).columns (slots_in s scan) scan.slot seen b h.ready));
  shown = λ fresh.
      put
      ∙ ap (with_all_seen seen) (h.shown fresh)
      ∙ sym (fold-append (λ (b : Buffer) (s : Seen). with_seen s b) (cleared b) (seen_from s scan.view scan.version 0 scan.slot) seen)
      ∙ ap (λ j. with_all_seen (seen_from s scan.view scan.version 0 scan.slot ++ seen_from s scan.view scan.version j (to - scan.slot)) (cleared b)) (let here : scan.slot ≡ 0 + scan.slot = omega arith in here)
      ∙ ap (λ l. with_all_seen l (cleared b)) (seen_more s scan.view scan.version 0 scan.slot (to - scan.slot) ∙ ap (seen_from s scan.view scan.version 0) there)
      ∙ ap (with_all_seen (seen_from s scan.view scan.version 0 to)) (same_cleared b after shape.0 shape.1);
}
  where
    to : ℕ
    to = min (scan.slot + n) (slots_in s scan)

    there : scan.slot + (to - scan.slot) ≡ to
    there = let within = h.within in omega (arith, within)

    seen : List Seen
    seen = seen_from s scan.view scan.version scan.slot (to - scan.slot)

    shape : (after.columns ≡ b.columns) × (after.room ≡ b.room)
    shape = shape_kept seen b after put

-- a scan of all slots at a version that isn't stale has the view's values
whole : (values : ℕ → ℕ → List Codes) (s : StoreState) (scan : Scan) (b : Buffer) → 2 * scan.version ≤ s.phase → HoldsScan s scan b → scan.slot ≡ slots_in s scan
    → IsFaithful values s → (IsStale s.versions scan.version s.phase → ⊥) → b.rows ≡ values scan.view scan.version
whole values s scan b committed h all faithful fresh =
    ap (λ (b : Buffer). b.rows) (h.shown fresh ∙ ap (λ l. with_all_seen l (cleared b)) (sym (append-nil (seen_from s scan.view scan.version 0 scan.slot)))
    ∙ sessions values s scan.view scan.version (visit ∷ []) (cleared b) committed (later_itself s, tt) faithful fresh h.view (one ∙ all) (ap (λ (c : Columns). c.key) h.ready.columns) refl)
  where
    visit : Visit
    visit = record { store = s; slots = scan.slot }

    one : 0 + scan.slot ≡ scan.slot
    one = omega arith

-- ---- a look at a store that stands still

rows_seen : {B : Type 0} (state : B → StoreState) (base : B) (log : Log) (at x i v : ℕ) (seen : List Seen) (next : ℕ)
    → RowsSay (λ c. still_row_says (state c)) base log at x i v seen next → seen ≡ seen_from (state base) x v i (length seen)
rows_seen state base log at x i v [] next h = refl
rows_seen state base log at x i v (t ∷ seen) next h =
    ap (λ u. u ∷ seen) h.1.0 ∙ ap (λ l. seen_in (state base) x i v ∷ l) (rows_seen state base log h.0 x (suc i) v seen next h.2)

-- ---- readers

pub opened : OpenedIsReader
opened store b = record { versions = refl; committed = omega arith; scan = λ is. let no : ⊥ = cc in absurd no }

pub stays : ReaderStays
stays store later s b h after = record {
  versions = h.versions ∙ sym after.versions;
  committed = omega (arith, h.committed, after.phase);
  scan = λ is. holds_later store later (scan_in s) b h.committed after (h.scan is);
}

pub scans : ScanIsReader
scans store s x was b h lt columns room empty = record {
  versions = h.versions;
  committed = h.committed;
  scan = λ is. record {
    view = lt;
    within = omega arith;
    ready = record { columns = columns; room = room; rows = omega (arith, ap length empty) };
    shown = λ fresh. ap (λ (rows : List Codes). record b { rows = rows }) empty;
  };
}

-- where a fetch may go on, its scan does
left_is : (store : StoreState) (s : OpenSession) (visited : Scan) (b : Buffer) (stale more : Bool) → visited.version ≡ s.version → HoldsScan store visited b
    → let scan = if◌then◌else◌ {A = Option (ℕ × ℕ)} (not stale && more) (Some (visited.view, visited.slot)) None in IsSome {T = ℕ × ℕ} scan → HoldsScan store (scan_in (record s { scan = scan })) b
left_is store s visited b true more e h is = let no : ⊥ = cc in absurd no
left_is store s visited b false false e h is = let no : ⊥ = cc in absurd no
left_is store s visited b false true e h is = subst (λ v. HoldsScan store (record { version = v; view = visited.view; slot = visited.slot }) b) e h

-- an answer that is Done
done_at : (stale left : Bool) (v phase : ℕ) → (if stale then Expired v phase else if left then More else Done) ≡ Done → (stale ≡ false) × (left ≡ false)
done_at true left v phase h = let no : ⊥ = cc in absurd no
done_at false true v phase h = let no : ⊥ = cc in absurd no
done_at false false v phase h = (refl, refl)

pub fetched : {B : Type 0} (state : B → StoreState) → StillFetches state
fetched state base old new s n phase b after some h said = record {
  phase_is = loaded;
  reader = record {
    versions = h.versions;
    committed = h.committed;
    scan = left_is store s visited after (is_stale s.versions s.version phase) (nat_lt visited.slot slots) refl holds;
  };
  values = λ done values faithful.
      let ended = done_at (is_stale s.versions s.version phase) (nat_lt visited.slot slots) s.version phase done in
      let not_less : visited.slot < slots → ⊥ = λ less. true≢false (sym (lt-ltb visited.slot slots less) ∙ ended.1) in
      whole values store visited after h.committed holds (let within = holds.within in let all : visited.slot ≡ slots = omega (arith, not_less, within) in all) faithful
      (λ stale. true≢false (sym (lt-ltb (2 * s.version + 2 * (s.versions - 1)) phase (omega (arith, stale, h.versions, loaded))) ∙ ended.0));
}
  where
    store : StoreState
    store = state base

    slots : ℕ
    slots = slots_in store (scan_in s)

    visited : Scan
    visited = scan_after slots n (scan_in s)

    loaded : phase ≡ store.phase
    loaded = said.2.said.0

    put : after ≡ with_all_seen (seen_from store (scan_in s).view s.version (scan_in s).slot (visited.slot - (scan_in s).slot)) b
    put = let rows = said.1 in
        rows.put ∙ ap (λ l. with_all_seen l b)
        (rows_seen state base said.0 (length old) (scan_in s).view (scan_in s).slot s.version rows.seen (length said.0) rows.said ∙ ap (seen_from store (scan_in s).view s.version (scan_in s).slot) rows.visited)

    holds : HoldsScan store visited after
    holds = holds_more store (scan_in s) n b after (h.scan some) put

-- the same of a look at this store, as a session's own call tells it
pub fetched_over : {B : Type 0} (state : B → StoreState) (base here : B) (old new : Log) (s t : OpenSession) (n slots phase : ℕ) (b after : Buffer) (answer : Fetched) → base ≡ here → IsSome s.scan → IsReader (state here) s b
    → slots ≡ slots_in (state here) (scan_in s)
    → FetchSaid (λ c. still_phase_says (state c)) (λ c. still_row_says (state c)) base old new (scan_in s) (scan_after slots n (scan_in s)).slot b after phase
    → t ≡ session_fetched slots n phase s → answer ≡ answer_of slots n phase s → HasFetched (state here) s t answer phase after
fetched_over {B = B} state base here old new s t n slots phase b after answer is some h all said left came =
    subst (λ u. HasFetched (state here) s u answer phase after) (sym left)
    (subst (λ a. HasFetched (state here) s (session_fetched slots n phase s) a phase after) (sym came)
    (subst (λ k. HasFetched (state here) s (session_fetched k n phase s) (answer_of k n phase s) phase after) (sym all)
    (fetched state here old new s n phase b after some h
    (subst (λ k. SaidOf here k) all (subst (λ c. SaidOf c slots) is said)))))
  where
    SaidOf : B → ℕ → Type 0
    SaidOf c k = FetchSaid (λ c. still_phase_says (state c)) (λ c. still_row_says (state c)) c old new (scan_in s) (scan_after k n (scan_in s)).slot b after phase
