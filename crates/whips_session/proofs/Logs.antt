-- What a fetch says by the log (`scan_said`), and the laws on such logs (`fetch_stays`, `fetch_determined`, `fetch_loaded`).
--
-- A loop's log goes on by one look each turn (`one_said`), and its buffer by one row at most (`one_visited`). What was said of a log is
-- said of each that begins with it (`rows_stay`), so the looks and the load after them are said by the last log alone (`one_fetch`).
use Rattle.std.proofs.Common.{◌≡◌, ℕ, suc, ◌+◌, ◌-◌, ◌*◌, ◌<◌, ◌≤◌, List, [], ◌∷◌, ◌++◌, length, refl, sym, ap, subst, ◌∙◌, arith, append_assoc, append-nil}
use Rattle.std.specs.Prelude.{fold, min, Bool, true, false, not, ◌&&◌, nat_lt, Option, Some, None, IsSome, unwrap_or, if◌then◌else◌}
use Rattle.std.proofs.lemmas.Bool.{ltb-true}
use Rattle.std.proofs.Common.{length-append}
use Rattle.std.specs.Ordering.{match_ordering}
use Rattle.std.specs.declared.cmp.Ordering.{Ordering}
use Rattle.std.specs.declared.cmp.Ordering.TheVariants.{Less, Equal, Greater}
use Rattle.std.proofs.lemmas.Grind.{fold-append}
use Rattle.whips_model.specs.Tuples.{Codes, Columns, codes_cmp, at_columns}
use Rattle.whips_row_buf.specs.Buffers.{Buffer, put_behind}
use Rattle.whips_flow.specs.Staleness.{is_stale}
use Rattle.whips_runs.specs.Sessions.{Scan}
use Rattle.whips_vnl.specs.Records.{Seen, seen_row, seen_nothing, seen_past}
use Rattle.whips_store.specs.Stores.{with_seen}
use Rattle.whips_store.specs.Reads.{Log, PhaseSays, RowSays, PhaseSaid, RowSaid, PhaseStays, RowStays, PhaseIsDetermined, RowIsDetermined}
use Rattle.whips_session.specs.Sessions.{OpenSession, scan_from, scan_in, scan_after, scan_left, IsScanBuffer}
use Rattle.whips_session.specs.Reads.{RowsSay, RowsSaid, FetchSays, FetchSaid, FetchStays, FetchIsDetermined}
use Rattle.whips_session.specs.Laws.{RowLoads, FetchLoads}

-- ---- what was put

put_one : (columns : List ℕ) (t : Codes) (rows : List Codes) → length (put_behind columns t rows) ≡ suc (length rows)
put_one columns t [] = refl
put_one columns t (u ∷ rows) = by (codes_cmp (at_columns columns u) (at_columns columns t)) (put_one columns t rows)
  where
    by : (o : Ordering) → length (put_behind columns t rows) ≡ suc (length rows) → length (match_ordering o (u ∷ put_behind columns t rows) (u ∷ put_behind columns t rows) (t ∷ u ∷ rows)) ≡ suc (suc (length rows))
    by Less one = ap suc one
    by Equal one = ap suc one
    by Greater one = refl

-- a buffer of a scan has what one more slot showed
pub one_visited : (columns : Columns) (slots visited more : ℕ) (seen : Seen) (b after : Buffer) → more ≡ suc visited → IsScanBuffer columns slots visited b → after ≡ with_seen seen b → IsScanBuffer columns slots more after
one_visited columns slots visited more seen b after e h put = subst (IsScanBuffer columns slots more) (sym put) (by seen)
  where
    by : (seen : Seen) → IsScanBuffer columns slots more (with_seen seen b)
    by (seen_row t) = record { columns = h.columns; room = h.room; rows = omega (arith, e, h.rows, put_one b.columns.key t b.rows) }
    by seen_nothing = record { columns = h.columns; room = h.room; rows = omega (arith, e, h.rows) }
    by seen_past = record { columns = h.columns; room = h.room; rows = omega (arith, e, h.rows) }

pub all_visited : (columns : Columns) (slots visited : ℕ) (seen : List Seen) (b : Buffer) → IsScanBuffer columns slots visited b → IsScanBuffer columns slots (visited + length seen) (fold (λ b s. with_seen s b) b seen)
all_visited columns slots visited [] b h = record { columns = h.columns; room = h.room; rows = omega (arith, h.rows) }
all_visited columns slots visited (s ∷ seen) b h =
    let more = all_visited columns slots (suc visited) seen (with_seen s b) (one_visited columns slots visited (suc visited) s b (with_seen s b) refl h refl) in
    record { columns = more.columns; room = more.room; rows = omega (arith, more.rows) }

pub shape_kept : (seen : List Seen) (b after : Buffer) → after ≡ fold (λ b s. with_seen s b) b seen → (after.columns ≡ b.columns) × (after.room ≡ b.room)
shape_kept seen b after put = let kept = by seen b in (ap (λ (c : Buffer). c.columns) put ∙ kept.0, ap (λ (c : Buffer). c.room) put ∙ kept.1)
  where
    one : (s : Seen) (b : Buffer) → ((with_seen s b).columns ≡ b.columns) × ((with_seen s b).room ≡ b.room)
    one (seen_row t) b = (refl, refl)
    one seen_nothing b = (refl, refl)
    one seen_past b = (refl, refl)

    by : (seen : List Seen) (b : Buffer) → ((fold (λ b s. with_seen s b) b seen).columns ≡ b.columns) × ((fold (λ b s. with_seen s b) b seen).room ≡ b.room)
    by [] b = (refl, refl)
    by (s ∷ seen) b = let first = one s b in let rest = by seen (with_seen s b) in (rest.0 ∙ first.0, rest.1 ∙ first.1)

-- the buffer of a scan once it has visited its next slots, where the scan goes on
pub next_buffer : {B : Type 0} (row_says : RowSays B) (base : B) (old new : Log) (columns : Columns) (s t : OpenSession) (place : ℕ × ℕ) (n slots to phase : ℕ) (b after : Buffer)
    → s.scan ≡ Some place → to ≡ min (place.1 + n) slots → RowsSaid row_says base old new (scan_from s.version place) to b after
    → t ≡ record s { scan = scan_left s.versions slots phase (scan_from s.version (place.0, to)) } → IsScanBuffer columns slots (scan_in s).slot b → IsSome t.scan → IsScanBuffer columns slots (scan_in t).slot after
next_buffer row_says base old new columns s t place n slots to phase b after is end h left ready some =
    subst (λ (o : Option (ℕ × ℕ)). IsScanBuffer columns slots (unwrap_or o (0, 0)).1 after) (sym scan)
    (by (is_stale s.versions s.version phase) (nat_lt to slots) refl (subst (λ (o : Option (ℕ × ℕ)). IsSome {T = ℕ × ℕ} o) scan some))
  where
    scan : t.scan ≡ scan_left s.versions slots phase (scan_from s.version (place.0, to))
    scan = ap (λ (u : OpenSession). u.scan) left

    before : IsScanBuffer columns slots place.1 b
    before = subst (λ (p : ℕ × ℕ). IsScanBuffer columns slots p.1 b) (ap (λ (o : Option (ℕ × ℕ)). unwrap_or o (0, 0)) is) ready

    all : IsScanBuffer columns slots (place.1 + length h.seen) after
    all = subst (IsScanBuffer columns slots (place.1 + length h.seen)) (sym h.put) (all_visited columns slots place.1 h.seen b before)

    by : (stale some : Bool) → nat_lt to slots ≡ some → IsSome {T = ℕ × ℕ} (if not stale && some then Some (place.0, to) else None) → IsScanBuffer columns slots (unwrap_or {T = ℕ × ℕ} (if not stale && some then Some (place.0, to) else None) (0, 0)).1 after
    by true some e is = let no : ⊥ = cc in absurd no
    by false false e is = let no : ⊥ = cc in absurd no
    by false true e is =
        let lt : to < slots = ltb-true to slots e in
        let count = h.visited in
        record { columns = all.columns; room = all.room; rows = omega (arith, all.rows, count, end, lt) }

-- ---- rows, one call after another

module _ {B : Type 0} (says : RowSays B) (base : B) where
  pub rows_stay : RowStays says → (log more : Log) (at x i v : ℕ) (seen : List Seen) (next : ℕ) → RowsSay says base log at x i v seen next → RowsSay says base (log ++ more) at x i v seen next
  rows_stay stays log more at x i v [] next h = h
  rows_stay stays log more at x i v (s ∷ seen) next h = (h.0, stays base log more at x i v s h.0 h.1, rows_stay stays log more h.0 x (suc i) v seen next h.2)

  pub rows_more : (log : Log) (at x i v : ℕ) (seen : List Seen) (mid j : ℕ) (s : Seen) (next : ℕ) → j ≡ i + length seen → RowsSay says base log at x i v seen mid → says base log mid x j v s next
      → RowsSay says base log at x i v (seen ++ s ∷ []) next
  rows_more log at x i v [] mid j s next e h more =
      let here : j ≡ i = omega (arith, e) in
      (next, subst (λ a. says base log a x i v s next) h (subst (λ k. says base log mid x k v s next) here more), refl)
  rows_more log at x i v (t ∷ seen) mid j s next e h more =
      let there : j ≡ suc i + length seen = omega (arith, e) in
      (h.0, h.1, rows_more log h.0 x (suc i) v seen mid j s next there h.2 more)

  rows_determined : RowIsDetermined says → (log : Log) (at x i v : ℕ) (seen other : List Seen) (next after : ℕ) → length seen ≡ length other
      → RowsSay says base log at x i v seen next → RowsSay says base log at x i v other after → (seen ≡ other) × (next ≡ after)
  rows_determined one log at x i v [] [] next after e h g = (refl, h ∙ sym g)
  rows_determined one log at x i v [] (t ∷ other) next after e h g = absurd (omega (arith, e))
  rows_determined one log at x i v (s ∷ seen) [] next after e h g = absurd (omega (arith, e))
  rows_determined one log at x i v (s ∷ seen) (t ∷ other) next after e h g =
      let first = one base log at x i v s t h.0 g.0 h.1 g.1 in
      let rest = rows_determined one log h.0 x (suc i) v seen other next after (omega (arith, e)) h.2 (subst (λ m. RowsSay says base log m x (suc i) v other after) (sym first.1) g.2) in
      (ap (λ u. u ∷ seen) first.0 ∙ ap (λ l. t ∷ l) rest.0, rest.1)

  rows_loads : (most : ℕ) → RowLoads most says → (log : Log) (at x i v : ℕ) (seen : List Seen) (next : ℕ) → RowsSay says base log at x i v seen next → next ≤ at + length seen * most
  rows_loads most loads log at x i v [] next h = omega (arith, h)
  rows_loads most loads log at x i v (s ∷ seen) next h =
      let first = loads base log at x i v s h.0 h.1 in
      let rest = rows_loads most loads log h.0 x (suc i) v seen next h.2 in
      grind (arith, first, rest)

  -- ---- the log of a loop

  pub none_said : (log : Log) (scan : Scan) (to : ℕ) (b : Buffer) → to ≡ scan.slot → RowsSaid says base log log scan to b b
  none_said log scan to b e = record { seen = []; visited = omega (arith, e); rest = []; goes_on = sym (append-nil log); said = refl; put = refl }

  pub one_said : RowStays says → (first old new : Log) (scan : Scan) (j : ℕ) (seen : Seen) (b before after : Buffer) → scan.slot ≤ j → RowsSaid says base first old scan j b before
      → RowSaid says base old new scan.view j scan.version seen → after ≡ with_seen seen before → RowsSaid says base first new scan (j + 1) b after
  one_said stays first old new scan j seen b before after le h g put = record {
    seen = h.seen ++ seen ∷ [];
    visited = length-append h.seen (seen ∷ []) ∙ (let all = h.visited in let one : length h.seen + 1 ≡ j + 1 - scan.slot = omega (arith, all, le) in one);
    rest = h.rest ++ g.rest;
    goes_on = g.goes_on ∙ ap (λ l. l ++ g.rest) h.goes_on ∙ append_assoc first h.rest g.rest;
    said = rows_more new (length first) scan.view scan.slot scan.version h.seen (length old) j seen (length new) (let all = h.visited in let there : j ≡ scan.slot + length h.seen = omega (arith, all, le) in there)
        (subst (λ l. RowsSay says base l (length first) scan.view scan.slot scan.version h.seen (length old)) (sym g.goes_on)
        (rows_stay stays old g.rest (length first) scan.view scan.slot scan.version h.seen (length old) h.said))
        g.said;
    put = put ∙ ap (with_seen seen) h.put ∙ sym (fold-append (λ (b : Buffer) (s : Seen). with_seen s b) b h.seen (seen ∷ []));
  }

  -- the same where the loop went from the scan's slot to the last one
  pub rows_to : (old new : Log) (scan : Scan) (i to : ℕ) (b after : Buffer) → i - scan.slot ≡ to - scan.slot → RowsSaid says base old new scan i b after → RowsSaid says base old new scan to b after
  rows_to old new scan i to b after e h = record { seen = h.seen; visited = h.visited ∙ e; rest = h.rest; goes_on = h.goes_on; said = h.said; put = h.put }

-- ---- a fetch

pub fetch_stays : {B : Type 0} (phase_says : PhaseSays B) (row_says : RowSays B) → PhaseStays phase_says → RowStays row_says → FetchStays phase_says row_says
fetch_stays phase_says row_says phases rows base log more at x i v seen phase next h =
    record { mid = h.mid; rows = rows_stay row_says base rows log more at x i v seen h.mid h.rows; loaded = phases base log more h.mid phase next h.loaded }

pub fetch_determined : {B : Type 0} (phase_says : PhaseSays B) (row_says : RowSays B) → PhaseIsDetermined phase_says → RowIsDetermined row_says → FetchIsDetermined phase_says row_says
fetch_determined phase_says row_says phases rows base log at x i v seen other p q next after e h g =
    let row = rows_determined row_says base rows log at x i v seen other h.mid g.mid e h.rows g.rows in
    let phase = phases base log h.mid p q next after h.loaded (subst (λ m. phase_says base log m q after) (sym row.1) g.loaded) in
    (row.0, phase.0, phase.1)

pub fetch_loaded : {B : Type 0} (most : ℕ) (phase_says : PhaseSays B) (row_says : RowSays B) → FetchLoads most phase_says row_says
fetch_loaded most phase_says row_says rows phases base log at x i v seen phase next h =
    let all = rows_loads row_says base most rows log at x i v seen h.mid h.rows in
    let one = phases base log h.mid phase next h.loaded in
    omega (arith, all, one)

-- the log went on by the looks and the load of one fetch
pub record OneFetch {B : Type 0} (phase_says : PhaseSays B) (row_says : RowSays B) (base : B) (old new : Log) (scan : Scan) (to : ℕ) (before after : Buffer) (phase : ℕ) : Type 0 where
  pub seen : List Seen
  pub visited : length seen ≡ to - scan.slot
  pub rest : Log
  pub goes_on : new ≡ old ++ rest
  pub said : FetchSays phase_says row_says base new (length old) scan.view scan.slot scan.version seen phase (length new)
  pub put : after ≡ fold (λ b s. with_seen s b) before seen

pub one_fetch : {B : Type 0} (phase_says : PhaseSays B) (row_says : RowSays B) (base : B) (old new : Log) (scan : Scan) (to : ℕ) (b after : Buffer) (phase : ℕ) → RowStays row_says
    → FetchSaid phase_says row_says base old new scan to b after phase → OneFetch phase_says row_says base old new scan to b after phase
one_fetch phase_says row_says base old new scan to b after phase stays (mid, h, g) = record {
  seen = h.seen;
  visited = h.visited;
  rest = h.rest ++ g.rest;
  goes_on = g.goes_on ∙ ap (λ l. l ++ g.rest) h.goes_on ∙ append_assoc old h.rest g.rest;
  said = record {
    mid = length mid;
    rows = subst (λ l. RowsSay row_says base l (length old) scan.view scan.slot scan.version h.seen (length mid)) (sym g.goes_on)
        (rows_stay row_says base stays mid g.rest (length old) scan.view scan.slot scan.version h.seen (length mid) h.said);
    loaded = g.said;
  };
  put = h.put;
}

-- what a session's own scan said
pub scan_said : {B : Type 0} (phase_says : PhaseSays B) (row_says : RowSays B) (base : B) (old mid new : Log) (s : OpenSession) (place : ℕ × ℕ) (n slots to : ℕ) (b after : Buffer) (phase : ℕ)
    → s.scan ≡ Some place → to ≡ min (place.1 + n) slots → RowsSaid row_says base old mid (scan_from s.version place) to b after → PhaseSaid phase_says base mid new phase
    → FetchSaid phase_says row_says base old new (scan_in s) (scan_after slots n (scan_in s)).slot b after phase
scan_said phase_says row_says base old mid new s place n slots to b after phase is end h g =
    subst (λ (p : ℕ × ℕ). FetchSaid phase_says row_says base old new (scan_from s.version p) (min (p.1 + n) slots) b after phase) (sym (ap (λ (o : Option (ℕ × ℕ)). unwrap_or o (0, 0)) is))
    (subst (λ t. FetchSaid phase_says row_says base old new (scan_from s.version place) t b after phase) end (mid, h, g))
