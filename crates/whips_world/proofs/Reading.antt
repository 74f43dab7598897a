-- The readers of a run, beside its sessions.
--
-- `readers_stay`: they stay readers while the store goes on. `readers_open`, `readers_scan`, `readers_fetch`, `readers_close`: what a call makes of one of them is what its event makes of the run's session.
--
-- The idea: one reader of the list changes, as does one session, and the laws on sessions say that the changed one is a reader again.
use Rattle.std.proofs.Common.{◌≡◌, ℕ, zero, suc, ◌/◌, ◌<◌, Bool, true, false, ◌&&◌, not, ⊎_elim, replicate, List, [], ◌∷◌, length, Option, Some, None, refl, sym, ap, subst, ◌∙◌, arith}
use Rattle.std.specs.Prelude.{map, nat_lt, unwrap_or, slice_get, slice_index_or, slice_set, IsSome, if◌then◌else◌}
use Rattle.std.specs.List.{AllByRecursion}
use Rattle.std.proofs.lemmas.Option.{slice_get_within, slice_get-get_or}
use Rattle.std.proofs.lemmas.List.{length-replicate}
use Rattle.whips_lists.specs.Lists.{changed_at}
use Rattle.whips_lists.proofs.Lists.{length_changed}
use Rattle.whips_lists.proofs.ByPlace.{get_there, get_changed, get_cases}
use Rattle.whips_flow.specs.Staleness.{is_stale}
use Rattle.whips_lists.proofs.Options.{some_same, none_some}
use Rattle.whips_row_buf.specs.Buffers.{Buffer}
use Rattle.whips_runs.specs.Sessions.{Session, not_open, open_at, with_new_scan}
use Rattle.whips_reports.specs.Reported.{Reported}
use Rattle.whips_store.specs.Stores.{StoreState}
use Rattle.whips_faithful_laws.specs.Scans.{IsLater}
use Rattle.whips_session.specs.Sessions.{OpenSession, scan_from, scan_in, state_of, session_with, scan_after, session_fetched}
use Rattle.whips_session_laws.specs.Readers.{slots_in, IsReader}
use Rattle.whips_session_laws.proofs.Readers.{opened, stays, scans}
use Rattle.whips_world.specs.Readers.{ReaderData, closed_reader, session_in, session_of, FitsView, IsReaderIn, AreReaders, opened_session, HasBegunScan, HasFetchedFrom, ChangedAt}

-- ---- one element of a list

map_at : {A B : Type 0} (f : A → B) (g : A → A) (h : B → B) (i : ℕ) (xs : List A) (x : A) → slice_get xs i ≡ Some x → f (g x) ≡ h (f x) → map f (changed_at i g xs) ≡ changed_at i h (map f xs)
map_at f g h i [] x there e = none_some x there
map_at f g h zero (y ∷ xs) x there e = ap (λ b. b ∷ map f xs) (subst (λ z. f (g z) ≡ h (f z)) (sym (some_same y x there)) e)
map_at f g h (suc i) (y ∷ xs) x there e = ap (λ l. f y ∷ l) (map_at f g h i xs x there e)

all_at : {A : Type 0} (P : A → Type 0) (g : A → A) (i : ℕ) (xs : List A) (x : A) → slice_get xs i ≡ Some x → P (g x) → AllByRecursion P xs → AllByRecursion P (changed_at i g xs)
all_at P g i [] x there p h = tt
all_at P g zero (y ∷ xs) x there p h = (subst (λ z. P (g z)) (sym (some_same y x there)) p, h.1)
all_at P g (suc i) (y ∷ xs) x there p h = (h.0, all_at P g i xs x there p h.1)

pub map_there : {A B : Type 0} (f : A → B) (i : ℕ) (xs : List A) (x : A) → slice_get xs i ≡ Some x → slice_get (map f xs) i ≡ Some (f x)
map_there f i [] x there = none_some x there
map_there f zero (y ∷ xs) x there = ap (λ z. Some (f z)) (some_same y x there)
map_there f (suc i) (y ∷ xs) x there = map_there f i xs x there

pub all_there : {A : Type 0} (P : A → Type 0) (i : ℕ) (xs : List A) (x : A) → slice_get xs i ≡ Some x → AllByRecursion P xs → P x
all_there P i [] x there h = none_some x there
all_there P zero (y ∷ xs) x there h = subst P (some_same y x there) h.0
all_there P (suc i) (y ∷ xs) x there h = all_there P i xs x there h.1

-- the element at a place, written anew
pub set_at : {A : Type 0} (g : A → A) (i : ℕ) (xs : List A) (d : A) → i < length xs → slice_set xs i (g (slice_index_or xs i d)) ≡ changed_at i g xs
set_at g i [] d lt = absurd (omega (arith, lt))
set_at g zero (x ∷ xs) d lt = refl
set_at g (suc i) (x ∷ xs) d lt = ap (λ l. x ∷ l) (set_at g i xs d (omega (arith, lt)))

-- a reader whose session passes a test that none does not
pub reader_there : (test : Option Session → Bool) → test None ≡ false → (rs : List ReaderData) (s : ℕ) → test (slice_get (map session_of rs) s) ≡ true → (r : ReaderData) × (slice_get rs s ≡ Some r)
reader_there test fails [] s may = absurd (cc)
reader_there test fails (r ∷ rs) zero may = (r, refl)
reader_there test fails (r ∷ rs) (suc s) may = reader_there test fails rs s may

-- the call changed the reader at its place
pub changed_there : (did : ReaderData → ReaderData → Type 0) (test : Option Session → Bool) → test None ≡ false → (rs : List ReaderData) (s : ℕ) (d t : ReaderData) → test (slice_get (map session_of rs) s) ≡ true
    → did (slice_index_or rs s d) t → ChangedAt s did rs (slice_set rs s t)
changed_there did test fails rs s d t passes h =
    let r = reader_there test fails rs s passes in
    let lt = slice_get_within rs s r.0 r.1 in
    (slice_index_or rs s d, t, slice_get-get_or rs s d lt, h, set_at (λ _. t) s rs d lt)

-- one reader that changed, and its session
reader_at : (store : StoreState) (rs : List ReaderData) (ts : List Session) (i : ℕ) (r : ReaderData) (g : ReaderData → ReaderData) (h : Session → Session)
    → slice_get rs i ≡ Some r → session_of (g r) ≡ h (session_of r) → IsReaderIn store (g r) → AreReaders store rs ts → AreReaders store (changed_at i g rs) (changed_at i h ts)
reader_at store rs ts i r g h there state reads are = record {
  sessions_are = map_at session_of g h i rs r there state ∙ ap (changed_at i h) are.sessions_are;
  read = all_at (IsReaderIn store) g i rs r there reads are.read;
}

-- ---- while the store goes on

one_stays : (store later : StoreState) (r : ReaderData) → IsLater store later → IsReaderIn store r → IsReaderIn later r
one_stays store later r after h = record {
  long = h.long ∙ sym after.views;
  fits = λ x b there. let f = h.fits x b there in record { columns = f.columns ∙ sym (after.columns x); room = omega (arith, f.room, after.slots x) };
  reads = λ s is. let one = h.reads s is in (one.0, one.1, stays store later s one.0 one.2 after);
}

all_stay : (store later : StoreState) (rs : List ReaderData) → IsLater store later → AllByRecursion (IsReaderIn store) rs → AllByRecursion (IsReaderIn later) rs
all_stay store later [] after h = tt
all_stay store later (r ∷ rs) after h = (one_stays store later r after h.0, all_stay store later rs after h.1)

pub readers_stay : (store later : StoreState) (rs : List ReaderData) (ts us : List Session) → IsLater store later → us ≡ ts → AreReaders store rs ts → AreReaders later rs us
readers_stay store later rs ts us after same are = record { sessions_are = are.sessions_are ∙ sym same; read = all_stay store later rs after are.read }

-- no session is open
none_there : (n x : ℕ) (b : Buffer) → slice_get (replicate n None) x ≡ Some (Some b) → ⊥
none_there zero x b h = cc
none_there (suc n) zero b h = cc
none_there (suc n) (suc x) b h = none_there n x b h

pub none_open : (store : StoreState) (n : ℕ) → AreReaders store (replicate n (closed_reader (length store.views))) (replicate n not_open)
none_open store zero = record { sessions_are = refl; read = tt }
none_open store (suc n) =
    let views = length store.views in
    let rest = none_open store n in
    let one : IsReaderIn store (closed_reader views) = record {
      long = length-replicate views _;
      fits = λ x b there. absurd (none_there views x b there);
      reads = λ s is. none_some s is;
    } in
    record { sessions_are = ap (λ l. not_open ∷ l) rest.sessions_are; read = (one, rest.read) }

-- ---- buffers

module _ (store : StoreState) (bs : List (Option Buffer)) (x : ℕ) (b : Buffer) (lt : x < length bs) where
  set_is : slice_set bs x (Some b) ≡ changed_at x (λ _. Some b) bs
  set_is = set_at (λ _. Some b) x bs (Some b) lt

  put_long : length (slice_set bs x (Some b)) ≡ length bs
  put_long = ap length set_is ∙ length_changed (λ _. Some b) x bs

  put_there : slice_get (slice_set bs x (Some b)) x ≡ Some (Some b)
  put_there = let at = get_there x bs lt in ap (λ l. slice_get l x) set_is ∙ get_changed (λ _. Some b) x bs at.0 at.1

  put_fits : ((y : ℕ) (c : Buffer) → slice_get bs y ≡ Some (Some c) → FitsView store y c) → FitsView store x b → (y : ℕ) (c : Buffer) → slice_get (slice_set bs x (Some b)) y ≡ Some (Some c) → FitsView store y c
  put_fits fits here y c there = ⊎_elim
      (λ same. subst (λ z. FitsView store z c) (sym same.0) (subst (FitsView store x) (some_same b c same.1.2) here))
      (λ other. fits y c other.1)
      (get_cases (λ _. Some b) x y bs (Some c) (ap (λ l. slice_get l y) (sym set_is) ∙ there))

-- ---- calls

no_buffer : Buffer
no_buffer = record { columns = record { kinds = []; key = [] }; rows = []; room = 0 }

-- a reader whose session is this one
reads_is : (store : StoreState) (r : ReaderData) (t : OpenSession) → r.session ≡ Some t → (b : Buffer) × (IsSome t.scan → slice_get r.buffers (scan_in t).view ≡ Some (Some b)) × IsReader store t b
    → (s : OpenSession) → r.session ≡ Some s → (b : Buffer) × (IsSome s.scan → slice_get r.buffers (scan_in s).view ≡ Some (Some b)) × IsReader store s b
reads_is store r t is h s also = subst (λ (u : OpenSession). (b : Buffer) × (IsSome u.scan → slice_get r.buffers (scan_in u).view ≡ Some (Some b)) × IsReader store u b) (some_same t s (sym is ∙ also)) h

pub readers_open : (store : StoreState) (rs : List ReaderData) (ts : List Session) (s : ℕ) (r : ReaderData) → slice_get rs s ≡ Some r → AreReaders store rs ts
    → AreReaders store (changed_at s (λ (r : ReaderData). record r { session = Some (opened_session store) }) rs) (changed_at s (λ _. open_at (store.phase / 2)) ts)
readers_open store rs ts s r there are =
    let was = all_there (IsReaderIn store) s rs r there are.read in
    let o : ReaderData = record r { session = Some (opened_session store) } in
    reader_at store rs ts s r (λ (r : ReaderData). record r { session = Some (opened_session store) }) (λ _. open_at (store.phase / 2)) there refl
    (record { long = was.long; fits = was.fits; reads = reads_is store o (opened_session store) refl (no_buffer, λ is. none_scans o is, opened store no_buffer) }) are
  where
    none_scans : (o : ReaderData) → IsSome {T = ℕ × ℕ} None → slice_get o.buffers (scan_in (opened_session store)).view ≡ Some (Some no_buffer)
    none_scans o is = let no : ⊥ = cc in absurd no

pub readers_close : (store : StoreState) (rs : List ReaderData) (ts : List Session) (s : ℕ) (r : ReaderData) → slice_get rs s ≡ Some r → AreReaders store rs ts
    → AreReaders store (changed_at s (λ (r : ReaderData). record r { session = None }) rs) (changed_at s (λ _. not_open) ts)
readers_close store rs ts s r there are =
    let was = all_there (IsReaderIn store) s rs r there are.read in
    reader_at store rs ts s r (λ (r : ReaderData). record r { session = None }) (λ _. not_open) there refl (record { long = was.long; fits = was.fits; reads = λ s is. none_some s is }) are

scanned_state : (s : OpenSession) (x : ℕ) → state_of (record s { scan = Some (x, 0) }) ≡ with_new_scan x (state_of s)
scanned_state s x = by s.scan
  where
    by : (o : Option (ℕ × ℕ)) → state_of (record s { scan = Some (x, 0) }) ≡ with_new_scan x (session_with s.version o)
    by None = refl
    by (Some place) = refl

pub readers_scan : (store : StoreState) (rs after : List ReaderData) (ts : List Session) (s x : ℕ) → x < length store.views → ChangedAt s (HasBegunScan store x) rs after → AreReaders store rs ts
    → AreReaders store after (changed_at s (with_new_scan x) ts)
readers_scan store rs after ts s x lt (r, t, there, did, put) are =
    let before = all_there (IsReaderIn store) s rs r there are.read in
    let was = before.reads did.session did.is_open in
    let session : OpenSession = record (did.session) { scan = Some (x, 0) } in
    let within : x < length r.buffers = omega (arith, lt, before.long) in
    let u : ReaderData = record { session = Some session; buffers = slice_set r.buffers x (Some did.buffer) } in
    let reads : IsReaderIn store u = record {
      long = put_long store r.buffers x did.buffer within ∙ before.long;
      fits = put_fits store r.buffers x did.buffer within before.fits did.fits;
      reads = reads_is store u session refl (did.buffer, λ is. put_there store r.buffers x did.buffer within, scans store did.session x was.0 did.buffer was.2 lt did.fits.columns did.fits.room did.empty);
    } in
    subst (λ l. AreReaders store l (changed_at s (with_new_scan x) ts)) (sym put)
    (reader_at store rs ts s r (λ _. t) (with_new_scan x) there
    (ap session_of did.put ∙ (scanned_state did.session x ∙ ap (λ o. with_new_scan x (session_in o)) (sym did.is_open)))
    (subst (IsReaderIn store) (sym did.put) reads)
    are)

-- a scan that goes on is of the view that it was
fetched_view : (slots n phase : ℕ) (s : OpenSession) → IsSome (session_fetched slots n phase s).scan → (scan_in (session_fetched slots n phase s)).view ≡ (scan_in s).view
fetched_view slots n phase s = by (not (is_stale s.versions (scan_in s).version phase) && nat_lt (scan_after slots n (scan_in s)).slot slots)
  where
    by : (goes : Bool) → IsSome {T = ℕ × ℕ} (if goes then Some ((scan_in s).view, (scan_after slots n (scan_in s)).slot) else None)
        → (scan_from s.version (unwrap_or {T = ℕ × ℕ} (if goes then Some ((scan_in s).view, (scan_after slots n (scan_in s)).slot) else None) (0, 0))).view ≡ (scan_in s).view
    by true is = refl
    by false is = let no : ⊥ = cc in absurd no

pub readers_fetch : (store : StoreState) (rs : List ReaderData) (ts : List Session) (s n : ℕ) (r t : ReaderData) (line : Reported) → slice_get rs s ≡ Some r → (did : HasFetchedFrom store s n r t line) → AreReaders store rs ts
    → AreReaders store (changed_at s (λ _. t) rs) (changed_at s (λ _. state_of did.new) ts)
readers_fetch store rs ts s n r t line there did are =
    let before = all_there (IsReaderIn store) s rs r there are.read in
    let x = (scan_in did.old).view in
    let held = (before.reads did.old did.is_open).2.scan did.scans in
    let within : x < length r.buffers = omega (arith, held.view, before.long) in
    let u : ReaderData = record { session = Some did.new; buffers = slice_set r.buffers x (Some did.buffer) } in
    let slots = slots_in store (scan_in did.old) in
    let same : IsSome did.new.scan → (scan_in did.new).view ≡ x =
    λ is. ap (λ (o : OpenSession). (scan_in o).view) did.goes_on ∙ fetched_view slots n store.phase did.old (subst (λ (o : OpenSession). IsSome o.scan) did.goes_on is) in
    let reads : IsReaderIn store u = record {
      long = put_long store r.buffers x did.buffer within ∙ before.long;
      fits = put_fits store r.buffers x did.buffer within before.fits did.fits;
      reads = reads_is store u did.new refl (did.buffer, λ is. ap (slice_get u.buffers) (same is) ∙ put_there store r.buffers x did.buffer within, did.did.reader);
    } in
    reader_at store rs ts s r (λ _. t) (λ _. state_of did.new) there (ap session_of did.put) (subst (IsReaderIn store) (sym did.put) reads) are
