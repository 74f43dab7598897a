-- A fetch that leaves its scan open reports the slots that its session's fetches asked for since the scan began.
--
-- `more_counts`: the law. `visited_plan` is the induction over the plan: after some events, each scan that goes on stands at the slot that was asked for (`Visited`), and each `more` record came from a fetch among the events.
--
-- The idea: a scan that still has slots left was never cut short by its view's end, so its slot is the sum of the fetches. An event that isn't allowed asks for nothing: its session has no scan, or it fetches no slot, or its view isn't there.
--
-- Four lemmas carry it: `skipped`, `scan_slots` and `fetch_slots` (the slots after an event), and `fetch_came` (the record of a fetch).
use Rattle.std.proofs.Common.{◌≡◌, ℕ, zero, suc, ◌+◌, ◌/◌, true, false, ◌&&◌, not, List, [], ◌∷◌, ◌++◌, length, eqb, ltb, Option, Some, None, cond, refl, sym, ap, subst, ◌∙◌, arith, ⊎_elim, append_assoc}
use Rattle.std.specs.Prelude.{is_some, slice_get, map}
use Rattle.std.proofs.lemmas.Bool.{and_parts, eqb-true, eq-eqb, ltb-true, ltb-false, false_from_ne_true}
use Rattle.std.proofs.lemmas.List.{append-nil}
use Rattle.std.proofs.lemmas.List.Sums.{fold-append}
use Rattle.whips_lists.specs.Lists.{changed_at}
use Rattle.whips_lists.proofs.Options.{some_same, found_passes}
use Rattle.whips_lists.proofs.ByPlace.{get_cases}
use Rattle.whips_flow.specs.Facts.{Facts, view_places}
use Rattle.whips_flow.specs.Progress.{is_enabled, next, shortage_at, first_enabled, pipeline_events}
use Rattle.whips_flow.specs.Staleness.{is_stale}
use Rattle.whips_flow.specs.Work.{work}
use Rattle.whips_flow.specs.declared.event.Event.{Event}
use Rattle.whips_flow.specs.declared.event.Event.TheVariants.{Commit, Answer, Integrate, Manage, Rel, Act, Begin, Change, Publish, SessionOpen, SessionScan, SessionFetch, SessionClose}
use Rattle.whips_runs.specs.Sessions.{Scan, Session, not_open, open_at, scanning, is_open, scan_of, with_new_scan, slots_of, visited_scan, has_slots_left, session_after_visit}
use Rattle.whips_runs.specs.Records.{RunRecord, version, skip, opened, more, read, expired, full, final, final_rows, fetch_record, version_record}
use Rattle.whips_runs.specs.World.{World, is_allowed, with_record, phase_of, after_fetch, after_event, after_turn, start_world, drained_world, with_final_records, finished_world, after_listed_plan}
use Rattle.whips_headline_laws.specs.HeadlineLaws.{asked_after, asked_slots, IsVisit, MoreCountsSlots}
use Rattle.whips_headline_laws.proofs.Told.{EachFrom, from_push, from_split, none_open}

-- ---- each element with those before it

each_map : {A : Type 0} (P Q : List A → A → Type 0) → ((seen : List A) (x : A) → P seen x → Q seen x) → (seen xs : List A) → EachFrom P seen xs → EachFrom Q seen xs
each_map P Q g seen [] h = tt
each_map P Q g seen (x ∷ xs) h = (g seen x h.0, each_map P Q g (seen ++ x ∷ []) xs h.1)

each_append : {A : Type 0} (P : List A → A → Type 0) (seen xs ys : List A) → EachFrom P seen xs → EachFrom P (seen ++ xs) ys → EachFrom P seen (xs ++ ys)
each_append P seen [] ys h g = subst (λ z. EachFrom P z ys) (append-nil seen) g
each_append P seen (x ∷ xs) ys h g = (h.0, each_append P (seen ++ x ∷ []) xs ys h.1 (subst (λ z. EachFrom P z ys) (sym (append_assoc seen (x ∷ []) xs)) g))

module _ (f : Facts) where
  abbrev world_after : List Event → World
  world_after es = after_listed_plan f 1 es (start_world f)

  abbrev asked : ℕ → List Event → ℕ
  asked i es = asked_slots (length f.slots) i es

  -- what holds of a record that the events gave
  abbrev Came : List Event → List RunRecord → RunRecord → Type 0
  Came es before (more session x v phase slots) = IsVisit f es before session slots
  Came es before _ = Unit {0}

  abbrev HaveSlots : List Event → List Session → Type 0
  HaveSlots es sessions = (i : ℕ) (scan : Scan) → slice_get sessions i ≡ Some (scanning scan) → scan.slot ≡ asked i es

  record Visited (es : List Event) (w : World) : Type 0 where
    slots : w.is_full ≡ false → HaveSlots es w.sessions
    lines : EachFrom (Came es) [] w.records

  -- ---- one more event

  asked_push : (i : ℕ) (es : List Event) (e : Event) → asked i (es ++ e ∷ []) ≡ asked_after (length f.slots) i (asked i es) e
  asked_push i es e = fold-append (asked_after (length f.slots) i) 0 es (e ∷ [])

  came_later : (es : List Event) (e : Event) (before : List RunRecord) (r : RunRecord) → Came es before r → Came (es ++ e ∷ []) before r
  came_later es e before (version number cut counts) h = tt
  came_later es e before (skip k event) h = tt
  came_later es e before (opened s v phase) h = tt
  came_later es e before (more s x v phase slots) h = record {
    earlier = h.earlier;
    later = h.later ++ e ∷ [];
    asked = h.asked;
    plan = ap (λ z. z ++ e ∷ []) h.plan ∙ append_assoc h.earlier (SessionFetch s h.asked ∷ h.later) (e ∷ []);
    records = h.records;
    visited = h.visited;
  }
  came_later es e before (read s x v phase) h = tt
  came_later es e before (expired s x v phase) h = tt
  came_later es e before (full shortage) h = tt
  came_later es e before (final counts) h = tt
  came_later es e before (final_rows x) h = tt

  lines_later : (es : List Event) (e : Event) (records : List RunRecord) → EachFrom (Came es) [] records → EachFrom (Came (es ++ e ∷ [])) [] records
  lines_later es e records h = each_map (Came es) (Came (es ++ e ∷ [])) (came_later es e) [] records h

  other : (s i : ℕ) → (i ≡ s → ⊥) → eqb s i ≡ false
  other s i ne = false_from_ne_true (eqb s i) (λ t. ne (sym (eqb-true s i t)))

  -- an event that isn't allowed asks for nothing
  skipped : (w : World) (e : Event) (i n : ℕ) (scan : Scan) → is_allowed f w e ≡ false → slice_get w.sessions i ≡ Some (scanning scan) → n ≡ asked_after (length f.slots) i n e
  skipped w (Commit y) i n scan off at = refl
  skipped w (Answer y x) i n scan off at = refl
  skipped w (Integrate y) i n scan off at = refl
  skipped w (Manage x) i n scan off at = refl
  skipped w Rel i n scan off at = refl
  skipped w (Act x) i n scan off at = refl
  skipped w Begin i n scan off at = refl
  skipped w Change i n scan off at = refl
  skipped w Publish i n scan off at = refl
  skipped w (SessionOpen s) i n scan off at = refl
  skipped w (SessionScan s x) i n scan off at = elim (eqb s i) as (λ b. eqb s i ≡ b → n ≡ cond (b && ltb x (length f.slots)) 0 n) [
    | true ↦ λ t. sym (ap (λ b. cond b 0 n) (sym (ap (λ o. is_open o && ltb x (length f.slots)) (ap (slice_get w.sessions) (eqb-true s i t) ∙ at)) ∙ off))
    | false ↦ λ t. refl
  ] refl
  skipped w (SessionFetch s m) i n scan off at = elim (eqb s i) as (λ b. eqb s i ≡ b → n ≡ cond b (n + m) n) [
    | true ↦ λ t. omega (arith, ltb-false 0 m (sym (ap (λ o. is_some (scan_of o) && ltb 0 m) (ap (slice_get w.sessions) (eqb-true s i t) ∙ at)) ∙ off))
    | false ↦ λ t. refl
  ] refl
  skipped w (SessionClose s) i n scan off at = refl

  -- an event that asks for nothing
  abbrev AsksNothing : List Event → Event → Type 0
  AsksNothing es e = (i : ℕ) → asked_after (length f.slots) i (asked i es) e ≡ asked i es

  kept : (es : List Event) (e : Event) (sessions : List Session) → AsksNothing es e → HaveSlots es sessions → HaveSlots (es ++ e ∷ []) sessions
  kept es e sessions same h i scan at = h i scan at ∙ (sym (same i) ∙ sym (asked_push i es e))

  -- a session that has no scan afterwards
  closed : (es : List Event) (e : Event) (s : ℕ) (g : Session → Session) (w : World) → AsksNothing es e → ((t : Session) (scan : Scan) → g t ≡ scanning scan → ⊥) → HaveSlots es w.sessions → HaveSlots (es ++ e ∷ []) (changed_at s g w.sessions)
  closed es e s g w same none h i scan at = ⊎_elim
      (λ c. absurd (none c.1.0 scan c.1.2))
      (λ c. kept es e w.sessions same h i scan c.1)
      (get_cases g s i w.sessions (scanning scan) at)

  scanning_same : (a b : Scan) → scanning a ≡ scanning b → a ≡ b
  scanning_same a b e = let q : a ≡ b = cc in q

  new_slot : (x : ℕ) (t : Session) (scan : Scan) → with_new_scan x t ≡ scanning scan → scan.slot ≡ 0
  new_slot x not_open scan e = absurd (cc)
  new_slot x (open_at v) scan e = ap (λ (z : Scan). z.slot) (sym (scanning_same (record { version = v; view = x; slot = 0 }) scan e))
  new_slot x (scanning old) scan e = ap (λ (z : Scan). z.slot) (sym (scanning_same (record { version = old.version; view = x; slot = 0 }) scan e))

  scan_slots : (es : List Event) (s x : ℕ) (w : World) → ltb x (length f.slots) ≡ true → HaveSlots es w.sessions → HaveSlots (es ++ SessionScan s x ∷ []) (changed_at s (with_new_scan x) w.sessions)
  scan_slots es s x w there h i scan at = ⊎_elim
      (λ c. new_slot x c.1.0 scan c.1.2 ∙ sym (asked_push i es (SessionScan s x) ∙ (ap (λ b. cond (b && ltb x (length f.slots)) 0 (asked i es)) (eq-eqb s i (sym c.0)) ∙ ap (λ b. cond b 0 (asked i es)) there)))
      (λ c. h i scan c.1 ∙ sym (asked_push i es (SessionScan s x) ∙ ap (λ b. cond (b && ltb x (length f.slots)) 0 (asked i es)) (other s i c.0)))
      (get_cases (with_new_scan x) s i w.sessions (scanning scan) at)

  fetch_slots : (es : List Event) (s n : ℕ) (scan : Scan) (w : World) (t : Session) → slice_get w.sessions s ≡ Some (scanning scan) → ((later : Scan) → t ≡ scanning later → later.slot ≡ scan.slot + n) → HaveSlots es w.sessions → HaveSlots (es ++ SessionFetch s n ∷ []) (changed_at s (λ _. t) w.sessions)
  fetch_slots es s n scan w t here goes h i later at = ⊎_elim
      (λ c. goes later c.1.2 ∙ (ap (λ k. k + n) (h s scan here) ∙ sym (ap (λ j. asked j (es ++ SessionFetch s n ∷ [])) c.0 ∙ (asked_push s es (SessionFetch s n) ∙ ap (λ b. cond b (asked s es + n) (asked s es)) (eq-eqb s s refl)))))
      (λ c. h i later c.1 ∙ sym (asked_push i es (SessionFetch s n) ∙ ap (λ b. cond b (asked i es + n) (asked i es)) (other s i c.0)))
      (get_cases (λ _. t) s i w.sessions (scanning later) at)

  -- a visit that leaves slots wasn't cut short
  whole_visit : (n : ℕ) (scan : Scan) → has_slots_left f (visited_scan f n scan) ≡ true → (visited_scan f n scan).slot ≡ scan.slot + n
  whole_visit n scan left = omega (arith, ltb-true (visited_scan f n scan).slot (slots_of f scan) left)

  goes_on : (phase n : ℕ) (scan later : Scan) → session_after_visit f phase (visited_scan f n scan) ≡ scanning later → later.slot ≡ scan.slot + n
  goes_on phase n scan later e =
      let visited = visited_scan f n scan in
      let fresh = not (is_stale f.versions scan.version phase) in
      elim (fresh && has_slots_left f visited) as (λ b. (fresh && has_slots_left f visited) ≡ b → cond b (scanning visited) (open_at scan.version) ≡ scanning later → later.slot ≡ scan.slot + n) [
        | true ↦ λ t q. ap (λ (z : Scan). z.slot) (sym (scanning_same visited later q)) ∙ whole_visit n scan (and_parts fresh (has_slots_left f visited) t).1
        | false ↦ λ t q. absurd (cc)
      ] refl e

  fetch_came : (es : List Event) (s n phase : ℕ) (scan : Scan) → scan.slot ≡ asked s es → Came (es ++ SessionFetch s n ∷ []) (world_after es).records (fetch_record f phase s (visited_scan f n scan))
  fetch_came es s n phase scan at =
      let visited = visited_scan f n scan in
      let v = scan.version in
      let x = scan.view in
      let now = es ++ SessionFetch s n ∷ [] in
      let before = (world_after es).records in
      elim (is_stale f.versions v phase) as (λ b. Came now before (cond b (expired s x v phase) (cond (has_slots_left f visited) (more s x v phase visited.slot) (read s x v phase)))) [
        | true ↦ tt
        | false ↦ elim (has_slots_left f visited) as (λ b. has_slots_left f visited ≡ b → Came now before (cond b (more s x v phase visited.slot) (read s x v phase))) [
          | true ↦ λ left. record {
            earlier = es;
            later = [];
            asked = n;
            plan = refl;
            records = refl;
            visited = whole_visit n scan left ∙ (ap (λ k. k + n) at ∙ sym (asked_push s es (SessionFetch s n) ∙ ap (λ b. cond b (asked s es + n) (asked s es)) (eq-eqb s s refl)));
          }
          | false ↦ λ none. tt
        ] refl
      ]

  -- ---- a turn

  moved : (es : List Event) (e : Event) (w z : World) → AsksNothing es e → z.sessions ≡ w.sessions → z.records ≡ w.records → w.is_full ≡ false → Visited es w → Visited (es ++ e ∷ []) z
  moved es e w z same sessions records off h = record {
    slots = λ _. subst (HaveSlots (es ++ e ∷ [])) (sym sessions) (kept es e w.sessions same (h.slots off));
    lines = subst (EachFrom (Came (es ++ e ∷ [])) []) (sym records) (lines_later es e w.records h.lines);
  }

  pushed : (es : List Event) (e : Event) (w : World) (r : RunRecord) → Came (es ++ e ∷ []) w.records r → Visited es w → EachFrom (Came (es ++ e ∷ [])) [] (w.records ++ r ∷ [])
  pushed es e w r came h = from_push (Came (es ++ e ∷ [])) [] w.records r (lines_later es e w.records h.lines) came

  scan_there : (o : Option Session) (scan : Scan) → scan_of o ≡ Some scan → o ≡ Some (scanning scan)
  scan_there None scan e = absurd (cc)
  scan_there (Some not_open) scan e = absurd (cc)
  scan_there (Some (open_at v)) scan e = absurd (cc)
  scan_there (Some (scanning old)) scan e = ap (λ z. Some (scanning z)) (some_same old scan e)

  fetched : (es : List Event) (s n : ℕ) (o : Option Scan) → scan_of (slice_get (world_after es).sessions s) ≡ o → is_some o ≡ true → (world_after es).is_full ≡ false → Visited es (world_after es) → Visited (es ++ SessionFetch s n ∷ []) (after_fetch f s n o (world_after es))
  fetched es s n None e there off h = absurd (cc)
  fetched es s n (Some scan) e there off h =
      let w = world_after es in
      let here = scan_there (slice_get w.sessions s) scan e in
      let t = session_after_visit f (phase_of w) (visited_scan f n scan) in
      record {
        slots = λ _. fetch_slots es s n scan w t here (goes_on (phase_of w) n scan) (h.slots off);
        lines = pushed es (SessionFetch s n) w (fetch_record f (phase_of w) s (visited_scan f n scan)) (fetch_came es s n (phase_of w) scan (h.slots off s scan here)) h;
      }

  event_visited : (es : List Event) (e : Event) → (world_after es).is_full ≡ false → is_allowed f (world_after es) e ≡ true → Visited es (world_after es) → Visited (es ++ e ∷ []) (after_event f e (world_after es))
  event_visited es (Commit y) off en h = moved es (Commit y) (world_after es) (after_event f (Commit y) (world_after es)) (λ i. refl) refl refl off h
  event_visited es (Answer y x) off en h = moved es (Answer y x) (world_after es) (after_event f (Answer y x) (world_after es)) (λ i. refl) refl refl off h
  event_visited es (Integrate y) off en h = moved es (Integrate y) (world_after es) (after_event f (Integrate y) (world_after es)) (λ i. refl) refl refl off h
  event_visited es (Manage x) off en h = moved es (Manage x) (world_after es) (after_event f (Manage x) (world_after es)) (λ i. refl) refl refl off h
  event_visited es Rel off en h = moved es Rel (world_after es) (after_event f Rel (world_after es)) (λ i. refl) refl refl off h
  event_visited es (Act x) off en h = moved es (Act x) (world_after es) (after_event f (Act x) (world_after es)) (λ i. refl) refl refl off h
  event_visited es Begin off en h =
      let w = world_after es in
      elim (shortage_at f w.pipeline Begin) as (λ o. Visited (es ++ Begin ∷ []) (elim o as (λ _. World) [
        | Some shortage ↦ record w { records = w.records ++ full shortage ∷ []; is_full = true }
        | None ↦ record w { pipeline = next f w.pipeline Begin }
      ])) [
        | Some shortage ↦ record { slots = λ t. absurd (cc); lines = pushed es Begin w (full shortage) tt h }
        | None ↦ moved es Begin w (record w { pipeline = next f w.pipeline Begin }) (λ i. refl) refl refl off h
      ]
  event_visited es Change off en h = moved es Change (world_after es) (after_event f Change (world_after es)) (λ i. refl) refl refl off h
  event_visited es Publish off en h =
      let w = world_after es in
      record { slots = λ _. kept es Publish w.sessions (λ i. refl) (h.slots off); lines = pushed es Publish w (version_record f (next f w.pipeline Publish)) tt h }
  event_visited es (SessionOpen s) off en h =
      let w = world_after es in
      record {
        slots = λ _. closed es (SessionOpen s) s (λ _. open_at (phase_of w / 2)) w (λ i. refl) (λ t scan q. absurd (cc)) (h.slots off);
        lines = pushed es (SessionOpen s) w (opened s (phase_of w / 2) (phase_of w)) tt h;
      }
  event_visited es (SessionScan s x) off en h =
      let w = world_after es in
      record {
        slots = λ _. scan_slots es s x w (and_parts (is_open (slice_get w.sessions s)) (ltb x (length f.slots)) en).1 (h.slots off);
        lines = lines_later es (SessionScan s x) w.records h.lines;
      }
  event_visited es (SessionFetch s n) off en h =
      let w = world_after es in
      let o = scan_of (slice_get w.sessions s) in
      fetched es s n o refl (and_parts (is_some o) (ltb 0 n) en).0 off h
  event_visited es (SessionClose s) off en h =
      let w = world_after es in
      record {
        slots = λ _. closed es (SessionClose s) s (λ _. not_open) w (λ i. refl) (λ t scan q. absurd (cc)) (h.slots off);
        lines = lines_later es (SessionClose s) w.records h.lines;
      }

  turn_visited : (es : List Event) (k : ℕ) (e : Event) → Visited es (world_after es) → Visited (es ++ e ∷ []) (after_turn f k e (world_after es))
  turn_visited es k e h =
      let w = world_after es in
      let now = es ++ e ∷ [] in
      elim (w.is_full) as (λ b. w.is_full ≡ b → Visited now (cond b w (cond (is_allowed f w e) (after_event f e w) (with_record (skip k e) w)))) [
        | true ↦ λ t. record { slots = λ off. absurd (cc); lines = lines_later es e w.records h.lines }
        | false ↦ λ off. elim (is_allowed f w e) as (λ b. is_allowed f w e ≡ b → Visited now (cond b (after_event f e w) (with_record (skip k e) w))) [
          | true ↦ λ en. event_visited es e off en h
          | false ↦ λ no. record {
            slots = λ _ i scan at. h.slots off i scan at ∙ (skipped w e i (asked i es) scan no at ∙ sym (asked_push i es e));
            lines = pushed es e w (skip k e) tt h;
          }
        ] refl
      ] refl

  -- ---- the plan

  one_more : (k : ℕ) (es : List Event) (e : Event) (w : World) → after_listed_plan f k (es ++ e ∷ []) w ≡ after_turn f (k + length es) e (after_listed_plan f k es w)
  one_more k [] e w = ap (λ n. after_turn f n e w) (omega arith)
  one_more k (d ∷ es) e w = one_more (suc k) es e (after_turn f k d w) ∙ ap (λ n. after_turn f n e (after_listed_plan f (suc k) es (after_turn f k d w))) (omega arith)

  along : (es rest : List Event) → Visited es (world_after es) → Visited (es ++ rest) (world_after (es ++ rest))
  along es [] h = subst (λ z. Visited z (world_after z)) (sym (append-nil es)) h
  along es (e ∷ rest) h = subst (λ z. Visited z (world_after z)) (append_assoc es (e ∷ []) rest) (along (es ++ e ∷ []) rest (subst (Visited (es ++ e ∷ [])) (sym (one_more 1 es e (start_world f))) (turn_visited es (1 + length es) e h)))

  visited_plan : (es : List Event) → Visited es (world_after es)
  visited_plan es = along [] es (record {
    slots = λ _ i scan at. let q = none_open f.sessions i (scanning scan) at in absurd (cc);
    lines = (tt, tt);
  })

  -- ---- the end

  drain_event : (es : List Event) (w : World) (e : Event) → is_enabled f w.pipeline e ≡ true → EachFrom (Came es) [] w.records → EachFrom (Came es) [] (after_event f e w).records
  drain_event es w (Commit y) en h = h
  drain_event es w (Answer y x) en h = h
  drain_event es w (Integrate y) en h = h
  drain_event es w (Manage x) en h = h
  drain_event es w Rel en h = h
  drain_event es w (Act x) en h = h
  drain_event es w Begin en h = elim (shortage_at f w.pipeline Begin) as (λ o. EachFrom (Came es) [] (elim o as (λ _. World) [
    | Some shortage ↦ record w { records = w.records ++ full shortage ∷ []; is_full = true }
    | None ↦ record w { pipeline = next f w.pipeline Begin }
  ]).records) [
    | Some shortage ↦ from_push (Came es) [] w.records (full shortage) h tt
    | None ↦ h
  ]
  drain_event es w Change en h = h
  drain_event es w Publish en h = from_push (Came es) [] w.records (version_record f (next f w.pipeline Publish)) h tt
  drain_event es w (SessionOpen s) en h = absurd (cc)
  drain_event es w (SessionScan s x) en h = absurd (cc)
  drain_event es w (SessionFetch s n) en h = absurd (cc)
  drain_event es w (SessionClose s) en h = absurd (cc)

  drained : (n : ℕ) (es : List Event) (w : World) → EachFrom (Came es) [] w.records → EachFrom (Came es) [] (drained_world n f w).records
  drained zero es w h = h
  drained (suc n) es w h = elim (w.is_full) as (λ b. EachFrom (Came es) [] (elim (cond b None (first_enabled f w.pipeline)) as (λ _. World) [ None ↦ w | Some e ↦ drained_world n f (after_event f e w) ]).records) [
    | true ↦ h
    | false ↦ elim (first_enabled f w.pipeline) as (λ o. first_enabled f w.pipeline ≡ o → EachFrom (Came es) [] (elim o as (λ _. World) [ None ↦ w | Some e ↦ drained_world n f (after_event f e w) ]).records) [
      | None ↦ λ q. h
      | Some e ↦ λ found. drained n es (after_event f e w) (drain_event es w e (found_passes (is_enabled f w.pipeline) (pipeline_events f) e found) h)
    ] refl
  ]

  rows_came : (es : List Event) (seen : List RunRecord) (xs : List ℕ) → EachFrom (Came es) seen (map final_rows xs)
  rows_came es seen [] = tt
  rows_came es seen (x ∷ xs) = (tt, rows_came es (seen ++ final_rows x ∷ []) xs)

  finished : (es : List Event) (w : World) → EachFrom (Came es) [] w.records → EachFrom (Came es) [] (with_final_records f w).records
  finished es w h = elim (w.is_full) as (λ b. EachFrom (Came es) [] (cond b w (record w { records = w.records ++ final f.transactions ∷ map final_rows (view_places f) })).records) [
    | true ↦ h
    | false ↦ each_append (Came es) [] w.records (final f.transactions ∷ map final_rows (view_places f)) h (tt, rows_came es (w.records ++ final f.transactions ∷ []) (view_places f))
  ]

pub more_counts : MoreCountsSlots
more_counts f es before after r e session x v phase slots is =
    let w = world_after f es in
    let lines = finished f es (drained_world (work f w.pipeline) f w) (drained f (work f w.pipeline) es w (visited_plan f es).lines) in
    subst (Came f es before) is (from_split (Came f es) [] (finished_world f w).records before after r lines e)
