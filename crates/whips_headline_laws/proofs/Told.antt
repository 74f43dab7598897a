-- What a run has told beside its state: its printed cuts are those of its versions, its phases never fall, each session is at the version of its last opening, and each line is right by those before it. Every event keeps this.
--
-- `event_told`: every event that is allowed keeps this (`Told`); `start_told`, `skip_told` and `final_told` are the start, a turn whose event isn't allowed, and the records at the end.
--
-- The idea: what a line says is defined by the lines before it alone, so a line that was right stays so. A record that prints no cut and opens no session changes neither the printed cuts nor a session's version; only a published version and an opening do, and these are taken one by one.
--
-- Four lemmas carry it: `from_push` (one line more), `quiet_told` (a record that prints no cut and opens no session), `publish_told` and `open_told`.
use Rattle.std.proofs.Common.{◌≡◌, ℕ, zero, suc, ◌/◌, ◌<◌, true, false, ◌&&◌, not, List, [], ◌∷◌, ◌++◌, length, eqb, ltb, Option, Some, None, cond, refl, sym, ap, subst, ◌∙◌, arith, ⊎_elim, append_assoc}
use Rattle.std.specs.Prelude.{is_some, slice_get, slice_index, replicate, map}
use Rattle.std.specs.List.{AllByRecursion}
use Rattle.std.proofs.lemmas.Bool.{and_parts, eqb-true, eq-eqb, ltb-true, false_from_ne_true}
use Rattle.std.proofs.lemmas.List.{append-nil, length-append, length_push, flat_map_more}
use Rattle.std.proofs.lemmas.List.Sums.{fold-append}
use Rattle.whips_lists.specs.Lists.{changed_at}
use Rattle.whips_flow.specs.Facts.{Facts, Shortage}
use Rattle.whips_flow.specs.State.{start, version_cuts}
use Rattle.whips_flow.specs.Progress.{is_enabled, next, shortage_at}
use Rattle.whips_flow.specs.declared.event.Event.{Event}
use Rattle.whips_flow.specs.declared.event.Event.TheVariants.{Commit, Answer, Integrate, Manage, Rel, Act, Begin, Change, Publish, SessionOpen, SessionScan, SessionFetch, SessionClose}
use Rattle.whips_runs.specs.Sessions.{Scan, Session, not_open, open_at, scanning, is_open, scan_of, with_new_scan, slots_of, visited_scan, has_slots_left, session_after_visit}
use Rattle.whips_flow.specs.Staleness.{is_stale}
use Rattle.whips_runs.specs.Records.{RunRecord, version, skip, opened, more, read, expired, full, final, final_rows, fetch_record, version_record}
use Rattle.whips_runs.specs.World.{World, is_allowed, with_record, with_session, phase_of, after_open, after_scan, after_fetch, after_publish_event, after_event, start_world}
use Rattle.whips_lists.proofs.Options.{some_same}
use Rattle.whips_lists.proofs.ByPlace.{get_cases}
use Rattle.whips_headline_laws.specs.Headline.{cut_on, printed_cuts, phase_on, printed_phases, version_after, version_of, IsNow, IsNumbered, ExpiresByRule, EndsFull}
use Rattle.whips_headline_laws.proofs.Counts.{Counted, next_counted, start_counted, same_versions}
use Rattle.whips_headline_laws.proofs.Phases.{ArePhases, later_phase, phases_push, phases_later}

-- ---- each element with those before it, by recursion

abbrev pub EachFrom : {A : Type 0} → (List A → A → Type 0) → List A → List A → Type 0
EachFrom P seen [] = Unit {0}
EachFrom P seen (x ∷ xs) = P seen x × EachFrom P (seen ++ x ∷ []) xs

module _ {A : Type 0} (P : List A → A → Type 0) where
  pub from_push : (seen xs : List A) (x : A) → EachFrom P seen xs → P (seen ++ xs) x → EachFrom P seen (xs ++ x ∷ [])
  from_push seen [] x h p = (subst (λ z. P z x) (append-nil seen) p, tt)
  from_push seen (y ∷ xs) x h p = (h.0, from_push (seen ++ y ∷ []) xs x h.1 (subst (λ z. P z x) (sym (append_assoc seen (y ∷ []) xs)) p))

  pub from_split : (seen xs before after : List A) (x : A) → EachFrom P seen xs → xs ≡ before ++ x ∷ after → P (seen ++ before) x
  from_split seen [] [] after x h e = absurd (cc)
  from_split seen [] (b ∷ before) after x h e = absurd (cc)
  from_split seen (y ∷ xs) [] after x h e = let q : y ≡ x = cc in subst (λ z. P z x) (sym (append-nil seen)) (subst (P seen) q h.0)
  from_split seen (y ∷ xs) (b ∷ before) after x h e =
      let q : y ≡ b = cc in
      let rest : xs ≡ before ++ x ∷ after = cc in
      subst (λ z. P z x) (append_assoc seen (b ∷ []) before) (from_split (seen ++ b ∷ []) xs before after x (subst (λ z. EachFrom P (seen ++ z ∷ []) xs) q h.1) rest)

-- what follows from it for each element
pub each_is : {A : Type 0} (P : List A → A → Type 0) (Q : A → Type 0) → ((seen : List A) (x : A) → P seen x → Q x) → (seen xs : List A) → EachFrom P seen xs → AllByRecursion Q xs
each_is P Q g seen [] h = tt
each_is P Q g seen (x ∷ xs) h = (g seen x h.0, each_is P Q g (seen ++ x ∷ []) xs h.1)

-- ---- one more record

pub printed_push : (records : List RunRecord) (r : RunRecord) → printed_cuts (records ++ r ∷ []) ≡ printed_cuts records ++ cut_on r
printed_push records r = sym (flat_map_more cut_on [] records r)

pub version_push : (i : ℕ) (records : List RunRecord) (r : RunRecord) → version_of i (records ++ r ∷ []) ≡ version_after i (version_of i records) r
version_push i records r = fold-append (version_after i) None records (r ∷ [])

-- the record prints no cut and no phase but this, and opens no session
pub record IsQuiet (now : ℕ) (r : RunRecord) : Type 0 where
  pub cuts : cut_on r ≡ []
  pub phases : AllByRecursion (λ phase. phase ≡ now) (phase_on r)
  pub versions : (i : ℕ) (o : Option ℕ) → version_after i o r ≡ o

-- ---- what is kept

abbrev pub IsAt : ℕ → List RunRecord → ℕ → Type 0
IsAt i records v = (version_of i records ≡ Some v) × (v < length (printed_cuts records))

-- a session is at the version of its last opening, and scans a view that is there
abbrev pub IsTold : Facts → List RunRecord → ℕ → Session → Type 0
IsTold f records i not_open = Unit {0}
IsTold f records i (open_at v) = IsAt i records v
IsTold f records i (scanning scan) = IsAt i records scan.version × (scan.view < length f.slots)

-- a version counts its rows, a fetch that leaves slots has visited some, and a read is of a version that was printed and of a view that is there
abbrev pub MatchesFacts : Facts → List RunRecord → RunRecord → Type 0
MatchesFacts f before (version number cut row_counts) = row_counts ≡ f.row_counts cut
MatchesFacts f before (more session x v phase slots) = (0 < slots) × (slots < slice_index f.slots x) × (x < length f.slots)
MatchesFacts f before (read session x v phase) = (v < length (printed_cuts before)) × (x < length f.slots)
MatchesFacts f before _ = Unit {0}

abbrev pub IsLine : Facts → List RunRecord → RunRecord → Type 0
IsLine f before r = IsNumbered before r × ExpiresByRule f.versions before r × MatchesFacts f before r

pub record Told (f : Facts) (w : World) : Type 0 where
  pub counted : Counted f w.pipeline
  pub printed : printed_cuts w.records ≡ version_cuts w.pipeline
  pub phases : ArePhases (phase_of w) (printed_phases w.records)
  pub sessions : (i : ℕ) (t : Session) → slice_get w.sessions i ≡ Some t → IsTold f w.records i t
  pub lines : EachFrom (IsLine f) [] w.records
  pub end : w.is_full ≡ true → EndsFull w.records

at_push : (i v : ℕ) (records : List RunRecord) (r : RunRecord) → version_of i (records ++ r ∷ []) ≡ version_of i records → IsAt i records v → IsAt i (records ++ r ∷ []) v
at_push i v records r same h = (same ∙ h.0, omega (arith, h.1, ap length (printed_push records r), length-append (printed_cuts records) (cut_on r)))

told_push : (f : Facts) (i : ℕ) (records : List RunRecord) (r : RunRecord) (t : Session) → version_of i (records ++ r ∷ []) ≡ version_of i records → IsTold f records i t → IsTold f (records ++ r ∷ []) i t
told_push f i records r not_open same h = tt
told_push f i records r (open_at v) same h = at_push i v records r same h
told_push f i records r (scanning scan) same h = (at_push i scan.version records r same h.0, h.1)

module _ (f : Facts) (w : World) (h : Told f w) where
  now : IsNow w.records (phase_of w)
  now = omega (arith, h.counted.writer.versions, ap length h.printed, length_push w.pipeline.writer.earlier_cuts w.pipeline.writer.cut)

  -- ---- a record of neither kind

  quiet_printed : (r : RunRecord) → IsQuiet (phase_of w) r → printed_cuts (w.records ++ r ∷ []) ≡ version_cuts w.pipeline
  quiet_printed r q = printed_push w.records r ∙ (ap (λ z. printed_cuts w.records ++ z) q.cuts ∙ (append-nil (printed_cuts w.records) ∙ h.printed))

  quiet_sessions : (r : RunRecord) → IsQuiet (phase_of w) r → (i : ℕ) (t : Session) → slice_get w.sessions i ≡ Some t → IsTold f (w.records ++ r ∷ []) i t
  quiet_sessions r q i t at = told_push f i w.records r t (version_push i w.records r ∙ q.versions i (version_of i w.records)) (h.sessions i t at)

  pub quiet_told : (r : RunRecord) → IsQuiet (phase_of w) r → IsLine f w.records r → w.is_full ≡ false → Told f (with_record r w)
  quiet_told r q l off = record {
    counted = h.counted;
    printed = quiet_printed r q;
    phases = phases_push (phase_of w) w.records r q.phases h.phases;
    sessions = quiet_sessions r q;
    lines = from_push (IsLine f) [] w.records r h.lines l;
    end = λ t. absurd (cc);
  }

  -- the shortage that ends the run
  full_told : (v : Shortage) → Told f (record w { records = w.records ++ full v ∷ []; is_full = true })
  full_told v = let q : IsQuiet (phase_of w) (full v) = record { cuts = refl; phases = tt; versions = λ i o. refl } in record {
    counted = h.counted;
    printed = quiet_printed (full v) q;
    phases = phases_push (phase_of w) w.records (full v) tt h.phases;
    sessions = quiet_sessions (full v) q;
    lines = from_push (IsLine f) [] w.records (full v) h.lines (tt, tt, tt);
    end = λ t. (w.records, v, refl);
  }

  -- ---- sessions

  session_told : (s : ℕ) (g : Session → Session) → ((t : Session) → slice_get w.sessions s ≡ Some t → IsTold f w.records s (g t)) → Told f (record w { sessions = changed_at s g w.sessions })
  session_told s g there = record {
    counted = h.counted;
    printed = h.printed;
    phases = h.phases;
    sessions = λ i t at. ⊎_elim
        (λ c. subst (λ z. IsTold f w.records i z) c.1.2 (subst (λ z. IsTold f w.records z (g c.1.0)) (sym c.0) (there c.1.0 c.1.1)))
        (λ c. h.sessions i t c.1)
        (get_cases g s i w.sessions t at);
    lines = h.lines;
    end = h.end;
  }

  opened_here : (s i v : ℕ) (o : Option ℕ) → i ≡ s → cond (eqb s i) (Some v) o ≡ Some v
  opened_here s i v o e = ap (λ b. cond b (Some v) o) (eq-eqb s i (sym e))

  opened_elsewhere : (s i v : ℕ) (o : Option ℕ) → (i ≡ s → ⊥) → cond (eqb s i) (Some v) o ≡ o
  opened_elsewhere s i v o ne = ap (λ b. cond b (Some v) o) (false_from_ne_true (eqb s i) (λ t. ne (sym (eqb-true s i t))))

  open_told : (s : ℕ) → w.is_full ≡ false → Told f (after_open s w)
  open_told s off =
      let phase = phase_of w in
      let r = opened s (phase / 2) phase in
      record {
        counted = h.counted;
        printed = printed_push w.records r ∙ (append-nil (printed_cuts w.records) ∙ h.printed);
        phases = phases_push phase w.records r (refl, tt) h.phases;
        sessions = λ i t at. ⊎_elim
            (λ c. subst (λ z. IsTold f (w.records ++ r ∷ []) i z) c.1.2 (
              version_push i w.records r ∙ opened_here s i (phase / 2) (version_of i w.records) c.0,
              omega (arith, now, ap length (printed_push w.records r), length-append (printed_cuts w.records) (cut_on r)),
            ))
            (λ c. told_push f i w.records r t (version_push i w.records r ∙ opened_elsewhere s i (phase / 2) (version_of i w.records) c.0) (h.sessions i t c.1))
            (get_cases (λ _. open_at (phase / 2)) s i w.sessions t at);
        lines = from_push (IsLine f) [] w.records r h.lines ((refl, now), tt, tt);
        end = λ t. absurd (cc);
      }

  scan_is_told : (s x : ℕ) (t : Session) → x < length f.slots → IsTold f w.records s t → IsTold f w.records s (with_new_scan x t)
  scan_is_told s x not_open lt u = tt
  scan_is_told s x (open_at v) lt u = (u, lt)
  scan_is_told s x (scanning scan) lt u = (u.0, lt)

  scan_told : (s x : ℕ) → x < length f.slots → Told f (after_scan s x w)
  scan_told s x lt =
      let c = session_told s (with_new_scan x) (λ t at. scan_is_told s x t lt (h.sessions s t at)) in
      record { counted = c.counted; printed = c.printed; phases = c.phases; sessions = c.sessions; lines = c.lines; end = c.end }

  -- ---- a fetch

  scan_there : (o : Option Session) (scan : Scan) → scan_of o ≡ Some scan → o ≡ Some (scanning scan)
  scan_there None scan e = absurd (cc)
  scan_there (Some not_open) scan e = absurd (cc)
  scan_there (Some (open_at v)) scan e = absurd (cc)
  scan_there (Some (scanning other)) scan e = ap (λ z. Some (scanning z)) (some_same other scan e)

  visit_told : (s : ℕ) (scan : Scan) → IsTold f w.records s (scanning scan) → IsTold f w.records s (session_after_visit f (phase_of w) scan)
  visit_told s scan u = elim (not (is_stale f.versions scan.version (phase_of w)) && has_slots_left f scan) as (λ b. IsTold f w.records s (cond b (scanning scan) (open_at scan.version))) [ true ↦ u | false ↦ u.0 ]

  fetch_is_line : (s : ℕ) (scan : Scan) → IsTold f w.records s (scanning scan) → (has_slots_left f scan ≡ true → 0 < scan.slot) → IsQuiet (phase_of w) (fetch_record f (phase_of w) s scan) × IsLine f w.records (fetch_record f (phase_of w) s scan)
  fetch_is_line s scan u visits =
      let phase = phase_of w in
      let v = scan.version in
      let left = cond (has_slots_left f scan) (more s scan.view v phase scan.slot) (read s scan.view v phase) in
      elim (is_stale f.versions v phase) as (λ b. is_stale f.versions v phase ≡ b → IsQuiet phase (cond b (expired s scan.view v phase) left) × IsLine f w.records (cond b (expired s scan.view v phase) left)) [
        | true ↦ λ stale. (record { cuts = refl; phases = (refl, tt); versions = λ i o. refl }, (tt, (u.0.0, now, stale), tt))
        | false ↦ λ fresh. elim (has_slots_left f scan) as (λ b. has_slots_left f scan ≡ b → IsQuiet phase (cond b (more s scan.view v phase scan.slot) (read s scan.view v phase)) × IsLine f w.records (cond b (more s scan.view v phase scan.slot) (read s scan.view v phase))) [
          | true ↦ λ some. (record { cuts = refl; phases = (refl, tt); versions = λ i o. refl }, (tt, (u.0.0, now, fresh), (visits some, ltb-true scan.slot (slots_of f scan) some, u.1)))
          | false ↦ λ none. (record { cuts = refl; phases = (refl, tt); versions = λ i o. refl }, (tt, (u.0.0, now, fresh), (u.0.1, u.1)))
        ] refl
      ] refl

-- a fetch of a slot at least has visited one
visits : (f : Facts) (n : ℕ) (scan : Scan) → 0 < n → has_slots_left f (visited_scan f n scan) ≡ true → 0 < (visited_scan f n scan).slot
visits f n scan some left = omega (arith, some, ltb-true (visited_scan f n scan).slot (slots_of f scan) left)

-- a published version
publish_told : (f : Facts) (w : World) → is_enabled f w.pipeline Publish ≡ true → w.is_full ≡ false → Told f w → Told f (after_publish_event f w)
publish_told f w en off h =
    let p = w.pipeline in
    let q = next f p Publish in
    let r = version_record f q in
    let counted = next_counted f p Publish en h.counted in
    record {
      counted = counted;
      printed = printed_push w.records r ∙ ap (λ z. z ++ q.writer.cut ∷ []) h.printed;
      phases = phases_push q.writer.phase w.records r tt (phases_later (phase_of w) q.writer.phase (later_phase f p Publish) (printed_phases w.records) h.phases);
      sessions = λ i t at. told_push f i w.records r t (version_push i w.records r) (h.sessions i t at);
      lines = from_push (IsLine f) [] w.records r h.lines (omega (arith, counted.writer.versions, ap length h.printed), tt, refl);
      end = λ t. absurd (cc);
    }

fetch_told : (f : Facts) (w : World) (s n : ℕ) → 0 < n → (o : Option Scan) → scan_of (slice_get w.sessions s) ≡ o → w.is_full ≡ false → Told f w → Told f (after_fetch f s n o w)
fetch_told f w s n some None e off h = h
fetch_told f w s n some (Some scan) e off h =
    let visited = visited_scan f n scan in
    let t = session_after_visit f (phase_of w) visited in
    let here : IsTold f w.records s (scanning visited) = h.sessions s (scanning scan) (scan_there f w h (slice_get w.sessions s) scan e) in
    let line = fetch_is_line f w h s visited here (visits f n scan some) in
    quiet_told f (with_session s t w) (session_told f w h s (λ _. t) (λ z at. visit_told f w h s visited here)) (fetch_record f (phase_of w) s visited) line.0 line.1 off

-- another event of the pipeline
moved_told : (f : Facts) (w : World) (e : Event) → (e ≡ Publish → ⊥) → is_enabled f w.pipeline e ≡ true → Told f w → Told f (record w { pipeline = next f w.pipeline e })
moved_told f w e ne en h = record { counted = next_counted f w.pipeline e en h.counted; printed = h.printed ∙ sym (same_versions f w.pipeline e ne); phases = phases_later (phase_of w) (next f w.pipeline e).writer.phase (later_phase f w.pipeline e) (printed_phases w.records) h.phases; sessions = h.sessions; lines = h.lines; end = h.end }

pub event_told : (f : Facts) (w : World) (e : Event) → w.is_full ≡ false → is_allowed f w e ≡ true → Told f w → Told f (after_event f e w)
event_told f w (Commit y) off en h = moved_told f w (Commit y) (λ q. absurd (cc)) en h
event_told f w (Answer y x) off en h = moved_told f w (Answer y x) (λ q. absurd (cc)) en h
event_told f w (Integrate y) off en h = moved_told f w (Integrate y) (λ q. absurd (cc)) en h
event_told f w (Manage x) off en h = moved_told f w (Manage x) (λ q. absurd (cc)) en h
event_told f w Rel off en h = moved_told f w Rel (λ q. absurd (cc)) en h
event_told f w (Act x) off en h = moved_told f w (Act x) (λ q. absurd (cc)) en h
event_told f w Begin off en h = elim (shortage_at f w.pipeline Begin) as (λ o. Told f (elim o as (λ _. World) [
  | Some shortage ↦ record w { records = w.records ++ full shortage ∷ []; is_full = true }
  | None ↦ record w { pipeline = next f w.pipeline Begin }
])) [
  | Some shortage ↦ full_told f w h shortage
  | None ↦ moved_told f w Begin (λ q. absurd (cc)) en h
]
event_told f w Change off en h = moved_told f w Change (λ q. absurd (cc)) en h
event_told f w Publish off en h = publish_told f w en off h
event_told f w (SessionOpen s) off en h = open_told f w h s off
event_told f w (SessionScan s x) off en h = scan_told f w h s x (ltb-true x (length f.slots) (and_parts (is_open (slice_get w.sessions s)) (ltb x (length f.slots)) en).1)
event_told f w (SessionFetch s n) off en h = fetch_told f w s n (ltb-true 0 n (and_parts (is_some (scan_of (slice_get w.sessions s))) (ltb 0 n) en).1) (scan_of (slice_get w.sessions s)) refl off h
event_told f w (SessionClose s) off en h = session_told f w h s (λ _. not_open) (λ t at. tt)

-- a turn whose event isn't allowed
pub skip_told : (f : Facts) (w : World) (k : ℕ) (e : Event) → w.is_full ≡ false → Told f w → Told f (with_record (skip k e) w)
skip_told f w k e off h = quiet_told f w h (skip k e) (record { cuts = refl; phases = tt; versions = λ i o. refl }) (tt, tt, tt) off

-- the records at the end
final_rows_told : (f : Facts) (xs : List ℕ) (w : World) → w.is_full ≡ false → Told f w → Told f (record w { records = w.records ++ map final_rows xs })
final_rows_told f [] w off h = subst (λ z. Told f (record w { records = z })) (sym (append-nil w.records)) h
final_rows_told f (x ∷ xs) w off h = subst (λ z. Told f (record w { records = z })) (append_assoc w.records (final_rows x ∷ []) (map final_rows xs)) (final_rows_told f xs (with_record (final_rows x) w) off (quiet_told f w h (final_rows x) (record { cuts = refl; phases = tt; versions = λ i o. refl }) (tt, tt, tt) off))

pub final_told : (f : Facts) (counts xs : List ℕ) (w : World) → w.is_full ≡ false → Told f w → Told f (record w { records = w.records ++ final counts ∷ map final_rows xs })
final_told f counts xs w off h = subst (λ z. Told f (record w { records = z })) (append_assoc w.records (final counts ∷ []) (map final_rows xs)) (final_rows_told f xs (with_record (final counts) w) off (quiet_told f w h (final counts) (record { cuts = refl; phases = tt; versions = λ i o. refl }) (tt, tt, tt) off))

-- the start
pub none_open : (n i : ℕ) (t : Session) → slice_get (replicate n not_open) i ≡ Some t → not_open ≡ t
none_open zero i t e = absurd (cc)
none_open (suc n) zero t e = some_same not_open t e
none_open (suc n) (suc i) t e = none_open n i t e

pub start_told : (f : Facts) → Told f (start_world f)
start_told f = record {
  counted = start_counted f;
  printed = refl;
  phases = record { rising = λ i j d le lt. absurd (omega (arith, lt)); passed = tt };
  sessions = λ i t e. subst (IsTold f (version_record f (start f) ∷ []) i) (none_open f.sessions i t e) tt;
  lines = ((refl, tt, refl), tt);
  end = λ t. absurd (cc);
}
