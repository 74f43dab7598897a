-- At the end nothing is left.
--
-- `nothing_left`: after every list of events, where no event of the pipeline is enabled, all transactions are committed and nothing is on
-- its way (`NothingIsLeft`). `start_sound`, `after_sound`: at the start, and after every list of events, what is on its way is accounted
-- for and the merge has settled (`Sound`).
--
-- The idea: where no event is enabled each queue is empty. So no step is on its way, and by the accounts no query is open. All rows have
-- come, so no list waits for one, and nothing is left for which a white entry could wait. Each row would then be ready, but in a merge that
-- has settled no row is ready, so there is none. The writer has no change left and no row set to begin.
--
-- Five lemmas carry it: `next_sound` (each event), `open_off` (no query is open), `waiting_off` (no list waits), `no_waits` (no entry
-- waits) and `rows_off` (no row is left).
use Rattle.std.proofs.Common.{◌≡◌, ℕ, suc, ◌+◌, ◌%◌, ◌<◌, Bool, true, false, ◌&&◌, not, List, [], ◌∷◌, ◌++◌, length, Option, Some, None, cond, eqb, ltb, refl, sym, ap, subst, ◌∙◌, arith, inl, inr, ⊎_elim}
use Rattle.std.specs.Prelude.{slice_get, slice_index, map, fold, is_some, replicate}
use Rattle.std.specs.List.{list_all, flat_map}
use Rattle.std.proofs.lemmas.Bool.{and_parts, and_from, and_cases, eqb-false, ltb-false, false≢true, not_from_false, and_right}
use Rattle.whips_lists.specs.Lists.{front, without_front, places_from}
use Rattle.std.specs.Option.{option_and_then}
use Rattle.whips_flow.specs.Facts.{Facts, view_places, source_places}
use Rattle.whips_flow.specs.Painted.{Row, Colour, black, white, red, closure, is_ready, is_white, is_waiting, has_number}
use Rattle.whips_flow.specs.State.{Pipeline, Source, Manager, Writer, QueryStep, SourceMessage, ManagerMessage, update, reply, sent_answer, start, new_source, new_manager, oldest_message, oldest_ask, oldest_manager_message, oldest_list, with_source, with_manager}
use Rattle.whips_flow.specs.Progress.{after, step, is_done, is_enabled, has_uncommitted, shortage_at, next, first_enabled, pipeline_events}
use Rattle.whips_flow.specs.Effects.{next_cut, after_answer, after_integrate, after_message, with_list_if_answered, after_begin, after_change, after_publish, with_announced_row, with_waiting_list, after_rel, after_act}
use Rattle.whips_flow.specs.declared.event.Event.{Event}
use Rattle.whips_flow.specs.declared.event.Event.TheVariants.{Commit, Answer, Integrate, Manage, Rel, Act, Begin, Change, Publish, SessionOpen, SessionScan, SessionFetch, SessionClose}
use Rattle.whips_lists.proofs.InList.{In, all_in, all_from, any_to}
use Rattle.whips_settled_laws.specs.Settled.{AsksSourcesOfRun, IsQuietSource, IsQuietManager, IsSettled, NothingIsLeft}
use Rattle.whips_lists.proofs.ByPlace.{in_left, in_right, get_in, in_get, get_within, find_none, in_copies}
use Rattle.whips_lists.proofs.Options.{of_some_is}
use Rattle.whips_lists.proofs.Lists.{front_is, front_nil}
use Rattle.std.proofs.lemmas.List.{length-replicate}
use Rattle.whips_settled_laws.proofs.Accounts.{Flying, HasUpdate, HasFrom, IsOpen, Reason, latest, ManagerFits, Accounted, Settled, commit_kept, answer_kept}
use Rattle.whips_settled_laws.proofs.Moves.{manage_kept, integrate_kept, in_places}
use Rattle.whips_settled_laws.proofs.Settles.{released_kept, acted_kept, settled_is}
use Rattle.whips_lists.proofs.Options.{some_of, none_of}

-- ---- events

pub record Sound (f : Facts) (p : Pipeline) : Type 0 where
  pub accounted : Accounted f p
  pub settled : Settled p.merge

-- the writer changes, and row sets leave
writer_kept : (f : Facts) (p : Pipeline) (sets : List (List Row)) (w : Writer) → Sound f p → Sound f (record p { merge = record (p.merge) { row_sets = sets }; writer = w })
writer_kept f p sets w s = let h = s.accounted in record {
  accounted = record { sources_long = h.sources_long; asks_long = h.asks_long; managers_long = h.managers_long; waiting_long = h.waiting_long; fits = h.fits; waiting_low = h.waiting_low; latest_low = h.latest_low; rising = h.rising; waits = h.waits };
  settled = record { fronts = s.settled.fronts; unready = s.settled.unready };
}

managed_merge : (f : Facts) (x : ℕ) (ts : List QueryStep) (p : Pipeline) → (fold (Rattle.whips_flow.specs.Effects.with_step_asked f x) p ts).merge ≡ p.merge
managed_merge f x [] p = refl
managed_merge f x (t ∷ ts) p = managed_merge f x ts (Rattle.whips_flow.specs.Effects.with_step_asked f x p t)

module _ (f : Facts) (there : AsksSourcesOfRun f) where
  answer_sound : (p : Pipeline) (y x : ℕ) → is_some (oldest_ask p y x) ≡ true → Sound f p → Sound f (with_source y (after_answer x (oldest_ask p y x)) p)
  answer_sound p y x en s =
      let t = some_of (oldest_ask p y x) en in
      let s0 = of_some_is (slice_get p.sources y) (λ s. option_and_then front (slice_get s.asks x)) t.0 t.1 in
      let q0 = of_some_is (slice_get s0.0.asks x) front t.0 s0.2 in
      subst (λ o. Sound f (with_source y (after_answer x o) p)) (sym t.1) (record { accounted = answer_kept f p y x s0.0 q0.0 t.0 s0.1 q0.1 q0.2 s.accounted; settled = s.settled })

  merge_of_integrated : (y : ℕ) (m : SourceMessage) (p : Pipeline) → (after_integrate f y (Some m) p).merge ≡ p.merge
  merge_of_integrated y (SourceMessage.sent_transaction k) p = refl
  merge_of_integrated y (sent_answer x t) p = refl

  merge_of_managed : (x : ℕ) (n : ManagerMessage) (p : Pipeline) → (after_message f x (Some n) p).merge ≡ p.merge
  merge_of_managed x (update n) p = managed_merge f x (Rattle.whips_flow.specs.Effects.first_steps f x n) (with_manager x (Rattle.whips_flow.specs.Effects.with_transaction f x n) p)
  merge_of_managed x (reply t) p = elim (ltb t.step (length (f.asked_sources x t.origin))) as (λ b. (cond b (Rattle.whips_flow.specs.Effects.with_step_asked f x (with_manager x (Rattle.whips_flow.specs.Effects.with_next_step t) p) (Rattle.whips_flow.specs.Effects.next_step t)) (with_manager x (Rattle.whips_flow.specs.Effects.without_query t) p)).merge ≡ p.merge) [ true ↦ refl | false ↦ refl ]

  next_sound : (p : Pipeline) (e : Event) → is_enabled f p e ≡ true → Sound f p → Sound f (next f p e)
  next_sound p (Commit y) en s = record { accounted = commit_kept f p y s.accounted; settled = s.settled }
  next_sound p (Answer y x) en s = answer_sound p y x en s
  next_sound p (Integrate y) en s =
      let m = some_of (oldest_message p y) en in
      subst (λ o. Sound f (after_integrate f y o (with_source y Rattle.whips_flow.specs.Effects.without_message p))) (sym m.1) (record {
        accounted = integrate_kept f p y m.0 m.1 s.accounted;
        settled = subst Settled (sym (merge_of_integrated y m.0 (with_source y Rattle.whips_flow.specs.Effects.without_message p))) s.settled;
      })
  next_sound p (Manage x) en s =
      let n = some_of (oldest_manager_message p x) en in
      subst (λ o. Sound f (with_manager x with_list_if_answered (after_message f x o (with_manager x Rattle.whips_flow.specs.Effects.without_manager_message p)))) (sym n.1) (record {
        accounted = manage_kept f p x n.0 there n.1 s.accounted;
        settled = subst Settled (sym (merge_of_managed x n.0 (with_manager x Rattle.whips_flow.specs.Effects.without_manager_message p))) s.settled;
      })
  next_sound p Rel en s =
      let r = some_of (front p.announcements) en in
      subst (λ o. Sound f (after_rel o p)) (sym r.1) (record { accounted = released_kept f p r.0 r.1 s.accounted; settled = settled_is (with_announced_row r.0 p.merge) })
  next_sound p (Act x) en s =
      let j = some_of (oldest_list p x) en in
      subst (λ o. Sound f (after_act x o p)) (sym j.1) (record { accounted = acted_kept f p x j.0 j.1 s.accounted; settled = settled_is (with_waiting_list x j.0 p.merge) })
  next_sound p Begin en s = go (next_cut p)
    where
      go : (o : Option (List ℕ)) → Sound f (after_begin f o p)
      go None = s
      go (Some cut) = writer_kept f p (without_front p.merge.row_sets) (record (p.writer) { phase = suc p.writer.phase; changes_left = f.change_count p.writer.cut cut; target_cut = cut }) s
  next_sound p Change en s = writer_kept f p p.merge.row_sets (after_change p.writer) s
  next_sound p Publish en s = writer_kept f p p.merge.row_sets (after_publish p.writer) s
  next_sound p (SessionOpen z) en s = s
  next_sound p (SessionScan z x) en s = s
  next_sound p (SessionFetch z n) en s = s
  next_sound p (SessionClose z) en s = s

  step_sound : (p : Pipeline) (e : Event) → Sound f p → Sound f (step f p e)
  step_sound p e s = elim (is_done f p e) as (λ b. is_done f p e ≡ b → Sound f (cond b (next f p e) p)) [
    | true ↦ λ d. next_sound p e (and_parts (is_enabled f p e) (not (is_some (shortage_at f p e))) d).0 s
    | false ↦ λ d. s
  ] refl

  pub after_sound : (es : List Event) (p : Pipeline) → Sound f p → Sound f (after f p es)
  after_sound [] p s = s
  after_sound (e ∷ es) p s = after_sound es (step f p e) (step_sound p e s)

-- ---- the start

get_copies : {A : Type 0} (n i : ℕ) (x y : A) → slice_get (replicate n x) i ≡ Some y → x ≡ y
get_copies n i x y h = in_copies n x y (get_in i (replicate n x) y h)

pub start_sound : (f : Facts) → Sound f (start f)
start_sound f =
    let n = length f.transactions in
    let k = length f.slots in
    record {
      accounted = record {
        sources_long = length-replicate n (new_source f);
        asks_long = λ s i. ap (λ z. length z.asks) (sym (in_copies n (new_source f) s i)) ∙ length-replicate {A = List QueryStep} k [];
        managers_long = length-replicate k new_manager;
        waiting_long = length-replicate {A = List ℕ} k [];
        fits = λ x m a. subst (λ z. ManagerFits (replicate n (new_source f)) 0 x z) (get_copies k x new_manager m a) (record { tokens = λ t i. absurd i; rises = omega arith; lists = λ j i. absurd i });
        waiting_low = λ x js j a i. absurd (subst (λ l. In j l) (sym (get_copies {A = List ℕ} k x [] js a)) i);
        latest_low = omega arith;
        rising = tt;
        waits = λ r x i w. absurd i;
      };
      settled = record {
        fronts = λ x js j a e. absurd (nothing j (ap front (get_copies {A = List ℕ} k x [] js a) ∙ e));
        unready = refl;
      };
    }
  where
    nothing : (j : ℕ) → None ≡ Some j → ⊥
    nothing j e = cc

-- ---- the end

in_mapped : {A B : Type 0} (g : A → B) (x : A) (xs : List A) → In x xs → In (g x) (map g xs)
in_mapped g x [] i = absurd i
in_mapped g x (z ∷ xs) (inl e) = inl (ap g e)
in_mapped g x (z ∷ xs) (inr i) = inr (in_mapped g x xs i)

in_flat : {A B : Type 0} (g : A → List B) (x : A) (y : B) (xs : List A) → In x xs → In y (g x) → In y (flat_map g xs)
in_flat g x y [] i j = absurd i
in_flat g x y (z ∷ xs) (inl e) j = in_left y (g z) (flat_map g xs) (subst (λ w. In y (g w)) (sym e) j)
in_flat g x y (z ∷ xs) (inr i) j = in_right y (g z) (flat_map g xs) (in_flat g x y xs i j)

nil_from : {A : Type 0} (xs : List A) → ((x : A) → In x xs → ⊥) → xs ≡ []
nil_from [] h = refl
nil_from (x ∷ xs) h = absurd (h x (inl refl))

place : (n i : ℕ) → i < n → In i (places_from 0 n)
place n i lt = let z : 0 + i ≡ i = omega arith in subst (λ w. In w (places_from 0 n)) z (in_places 0 n i lt)

all_pass : (p : Row → Bool) (rows : List Row) → ((r : Row) → In r rows → p r ≡ true) → list_all p rows ≡ true
all_pass p [] h = refl
all_pass p (r ∷ rows) h = and_from (p r) (list_all p rows) (h r (inl refl)) (all_pass p rows (λ q i. h q (inr i)))

white_of : (c : Colour) → is_white c ≡ true → c ≡ white
white_of black h = absurd (false≢true h)
white_of white h = refl
white_of (red j) h = absurd (false≢true h)

module _ (f : Facts) (p : Pipeline) (s : Sound f p) (none : first_enabled f p ≡ None) where
  abbrev h : Accounted f p
  h = s.accounted

  off : (e : Event) → In e (pipeline_events f) → is_enabled f p e ≡ false
  off e i = find_none (is_enabled f p) (pipeline_events f) none e i

  abbrev ms : List ℕ
  ms = view_places f

  abbrev ys : List ℕ
  ys = source_places f

  abbrev part1 : List Event
  part1 = Publish ∷ Change ∷ Begin ∷ map Act ms

  abbrev part2 : List Event
  part2 = part1 ++ Rel ∷ map Manage ms

  abbrev part3 : List Event
  part3 = part2 ++ map Integrate ys

  abbrev part4 : List Event
  part4 = part3 ++ flat_map (λ y. map (Answer y) ms) ys

  in1 : (e : Event) → In e part1 → In e (pipeline_events f)
  in1 e i = in_left e part4 (map Commit ys) (in_left e part3 (flat_map (λ y. map (Answer y) ms) ys) (in_left e part2 (map Integrate ys) (in_left e part1 (Rel ∷ map Manage ms) i)))

  in2 : (e : Event) → In e (Rel ∷ map Manage ms) → In e (pipeline_events f)
  in2 e i = in_left e part4 (map Commit ys) (in_left e part3 (flat_map (λ y. map (Answer y) ms) ys) (in_left e part2 (map Integrate ys) (in_right e part1 (Rel ∷ map Manage ms) i)))

  act_off : (x : ℕ) → x < length f.slots → is_enabled f p (Act x) ≡ false
  act_off x lt = off (Act x) (in1 (Act x) (inr (inr (inr (in_mapped Act x ms (place (length f.slots) x lt))))))

  manage_off : (x : ℕ) → x < length f.slots → is_enabled f p (Manage x) ≡ false
  manage_off x lt = off (Manage x) (in2 (Manage x) (inr (in_mapped Manage x ms (place (length f.slots) x lt))))

  integrate_off : (y : ℕ) → y < length f.transactions → is_enabled f p (Integrate y) ≡ false
  integrate_off y lt = off (Integrate y) (in_left (Integrate y) part4 (map Commit ys) (in_left (Integrate y) part3 (flat_map (λ y. map (Answer y) ms) ys) (in_right (Integrate y) part2 (map Integrate ys) (in_mapped Integrate y ys (place (length f.transactions) y lt)))))

  answer_off : (y x : ℕ) → y < length f.transactions → x < length f.slots → is_enabled f p (Answer y x) ≡ false
  answer_off y x lt lx = off (Answer y x) (in_left (Answer y x) part4 (map Commit ys) (in_right (Answer y x) part3 (flat_map (λ y. map (Answer y) ms) ys) (in_flat (λ y. map (Answer y) ms) y (Answer y x) ys (place (length f.transactions) y lt) (in_mapped (Answer y) x ms (place (length f.slots) x lx)))))

  commit_off : (y : ℕ) → y < length f.transactions → is_enabled f p (Commit y) ≡ false
  commit_off y lt = off (Commit y) (in_right (Commit y) part4 (map Commit ys) (in_mapped Commit y ys (place (length f.transactions) y lt)))

  quiet : (q : Source) → In q p.sources → IsQuietSource q
  quiet q i =
      let y = in_get p.sources q i in
      let lt : y.0 < length f.transactions = omega (arith, y.1, h.sources_long) in
      record {
        messages = front_nil q.messages (ap (λ o. option_and_then (λ s. front s.messages) o) (sym y.2) ∙ none_of (oldest_message p y.0) (integrate_off y.0 lt));
        asks = all_from (λ l. l ≡ []) q.asks (λ l j.
            let x = in_get q.asks l j in
            let lx : x.0 < length f.slots = omega (arith, x.1, h.asks_long q i) in
            front_nil l (ap (λ o. option_and_then front o) (sym x.2) ∙ (ap (λ o. option_and_then (λ s. option_and_then front (slice_get s.asks x.0)) o) (sym y.2) ∙ none_of (oldest_ask p y.0 x.0) (answer_off y.0 x.0 lt lx))));
      }

  notes_off : (m : Manager) (x : ℕ) → slice_get p.managers x ≡ Some m → m.messages ≡ []
  notes_off m x a = front_nil m.messages (ap (λ o. option_and_then (λ m. front m.messages) o) (sym a) ∙ none_of (oldest_manager_message p x) (manage_off x (omega (arith, get_within x p.managers m a, h.managers_long))))

  lists_off : (m : Manager) (x : ℕ) → slice_get p.managers x ≡ Some m → m.lists ≡ []
  lists_off m x a = front_nil m.lists (ap (λ o. option_and_then (λ m. front m.lists) o) (sym a) ∙ none_of (oldest_list p x) (act_off x (omega (arith, get_within x p.managers m a, h.managers_long))))

  no_flying : (x : ℕ) (t : QueryStep) → Flying x t p.sources → ⊥
  no_flying x t (q, i, inl (l, a, j)) = subst (λ w. In t w) (all_in (λ l. l ≡ []) q.asks l (quiet q i).asks (get_in x q.asks l a)) j
  no_flying x t (q, i, inr j) = subst (λ w. In (sent_answer x t) w) (quiet q i).messages j

  open_off : (m : Manager) (x : ℕ) → slice_get p.managers x ≡ Some m → m.open_steps ≡ []
  open_off m x a = nil_from m.open_steps (λ t i. ⊎_elim (λ fl. no_flying x t fl) (λ r. subst (λ w. In (reply t) w) (notes_off m x a) r) ((h.fits x m a).tokens t i))

  coming_off : p.announcements ≡ []
  coming_off = front_nil p.announcements (none_of (front p.announcements) (off Rel (in2 Rel (inl refl))))

  waiting_off : (js : List ℕ) (x : ℕ) → slice_get p.merge.waiting_lists x ≡ Some js → js ≡ []
  waiting_off js x a = front_nil js (go (front js) refl)
    where
      go : (o : Option ℕ) → front js ≡ o → front js ≡ None
      go None e = e
      go (Some j) e = absurd (omega (arith, s.settled.fronts x js j a e, h.waiting_low x js j a (subst (λ l. In j l) (sym (front_is js j e)) (inl refl)), ap (latest p.merge.table.last_announced) coming_off))

  no_reason : (m : Manager) (x : ℕ) (js : List ℕ) (n : ℕ) → slice_get p.managers x ≡ Some m → slice_get p.merge.waiting_lists x ≡ Some js → Reason m js n → ⊥
  no_reason m x js n a b (inl u) = subst (HasUpdate n) (notes_off m x a) u
  no_reason m x js n a b (inr (le, inl o)) = subst IsOpen (open_off m x a) o
  no_reason m x js n a b (inr (le, inr (inl l))) = subst (HasFrom n) (lists_off m x a) l
  no_reason m x js n a b (inr (le, inr (inr k))) = subst (HasFrom n) (waiting_off js x b) k

  no_waits : (r : Row) → In r p.merge.table.rows → is_waiting r ≡ false
  no_waits r i = go (is_waiting r) refl
    where
      go : (b : Bool) → is_waiting r ≡ b → b ≡ false
      go false e = refl
      go true e =
          let c = any_to is_white r.entries e in
          let x = in_get r.entries c.0 c.1 in
          let w = h.waits r x.0 (in_left r p.merge.table.rows p.announcements i) (x.2 ∙ ap (λ z. Some z) (white_of c.0 c.2)) in
          absurd (no_reason w.0 x.0 w.1 r.number w.2 w.3 w.4)

  rows_off : p.merge.table.rows ≡ []
  rows_off = nil_from p.merge.table.rows (λ r i. false≢true (sym (find_none (is_ready p.merge.table.rows) p.merge.table.rows s.settled.unready r i) ∙ all_pass (λ q. not (has_number (closure p.merge.table.rows r.number) q.number && is_waiting q)) p.merge.table.rows (λ q j. not_from_false (has_number (closure p.merge.table.rows r.number) q.number && is_waiting q) (and_right (has_number (closure p.merge.table.rows r.number) q.number) (is_waiting q) (no_waits q j)))))

  left_off : p.writer.changes_left ≡ 0
  left_off = omega (arith, ltb-false 0 p.writer.changes_left (off Change (in1 Change (inr (inl refl)))))

  even : p.writer.phase % 2 ≡ 0
  even = ⊎_elim
      (λ e. omega (arith, odd (eqb-false (p.writer.phase % 2) 1 e)))
      (λ e. absurd (eqb-false p.writer.changes_left 0 e left_off))
      (and_cases (eqb (p.writer.phase % 2) 1) (eqb p.writer.changes_left 0) (off Publish (in1 Publish (inl refl))))
    where
      odd : (p.writer.phase % 2 ≡ 1 → ⊥) → p.writer.phase % 2 ≡ 0
      odd ne = omega (arith, ne)

  sets_off : p.merge.row_sets ≡ []
  sets_off = front_nil p.merge.row_sets (⊎_elim
      (λ e. none_of (front p.merge.row_sets) e)
      (λ e. absurd (eqb-false (p.writer.phase % 2) 0 e even))
      (and_cases (is_some (front p.merge.row_sets)) (eqb (p.writer.phase % 2) 0) (off Begin (in1 Begin (inr (inr (inl refl)))))))

  pub used_up : IsSettled f p
  used_up = record {
    committed = λ y q a. ltb-false q.commit_count (slice_index f.transactions y) (ap (λ o. has_uncommitted o (slice_index f.transactions y)) (sym a) ∙ commit_off y (omega (arith, get_within y p.sources q a, h.sources_long)));
    sources = all_from IsQuietSource p.sources quiet;
    managers = all_from IsQuietManager p.managers (λ m i. let x = in_get p.managers m i in record { messages = notes_off m x.0 x.2; open_steps = open_off m x.0 x.2; lists = lists_off m x.0 x.2 });
    announcements = coming_off;
    rows = rows_off;
    waiting_lists = all_from (λ js. js ≡ []) p.merge.waiting_lists (λ js i. let x = in_get p.merge.waiting_lists js i in waiting_off js x.0 x.2);
    row_sets = sets_off;
    changes_left = left_off;
    phase = even;
  }

pub nothing_left : NothingIsLeft
nothing_left f es there none = used_up f (after f (start f) es) (after_sound f there es (start f) (start_sound f)) none
