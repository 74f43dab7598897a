-- Each event makes the work smaller.
--
-- `falls`: each event that is done makes the work of the pipeline smaller, where a version changes at most as many rows as there are slots
-- (`IsRoomy`) and there is a manager for each view (`EventsLessenWork`). `drains`: so after as many events as the work says the drain has
-- no next event (`DrainEnds`). `next_shaped`: each event keeps a manager for each view.
--
-- The idea: the work is a sum over what is still to be done, where each thing counts for more than all that its event puts in its place. A
-- transaction counts for the messages to its managers and for its row, a query for its steps that are left, and a row for a begin, for as
-- many changes as there are slots, and for a publish.
--
-- Five lemmas carry it: `numbered_gain` (a transaction is numbered), `asks_gain` and `managed_falls` (a manager takes a message),
-- `settled_size` (rows and sets don't become more while the merge settles) and `begin_falls` (a set becomes changes).
use Rattle.std.proofs.Common.{◌≡◌, ℕ, zero, suc, ◌+◌, ◌-◌, ◌*◌, ◌%◌, ◌<◌, ◌≤◌, Bool, true, false, not, List, [], ◌∷◌, ◌++◌, length, Option, Some, None, cond, eqb, ltb, refl, sym, ap, subst, ◌∙◌, arith, append_assoc, length-append}
use Rattle.std.specs.Prelude.{slice_get, slice_index, map, filter, find, fold, is_some, drop}
use Rattle.std.specs.List.{list_any}
use Rattle.std.proofs.lemmas.Bool.{ltb-true, eq-eqb, or_left, or_right, eqb-true, and_parts, not-true}
use Rattle.std.proofs.lemmas.List.{length-map}
use Rattle.std.proofs.Math.Nat.{mul-le-mul_left}
use Rattle.whips_lists.specs.Lists.{changed_at, sum_with_place, front, without_front, places_from, total}
use Rattle.std.specs.Option.{option_and_then}
use Rattle.whips_flow.specs.Facts.{Facts, view_places}
use Rattle.whips_flow.specs.Painted.{Row, painted_rows, painted_row, closure, is_ready, is_in_or_needed, with_needed, with_needed_again, has_number}
use Rattle.whips_flow.specs.State.{Pipeline, Source, Manager, Merge, QueryStep, NumberedTransaction, SourceMessage, sent_transaction, sent_answer, ManagerMessage, update, reply, oldest_ask, oldest_message, oldest_manager_message, oldest_list, with_source, with_manager}
use Rattle.whips_flow.specs.Progress.{is_done, is_enabled, has_uncommitted, next, drain, next_drain_event, first_enabled, pipeline_events, shortage_at}
use Rattle.whips_flow.specs.Effects.{begin_shortage, without_message, without_manager_message, without_list, with_manager_message, with_ask, after_commit, after_answer, row_of, announcement_of, notified_manager, after_numbering, after_integrate, with_step_asked, first_steps, next_step, with_transaction, with_next_step, without_query, after_message, with_list_unless, with_list_if_answered, with_announced_row, with_waiting_list, after_rel, after_act, next_cut, cuts_in_use, after_begin}
use Rattle.whips_flow.specs.Settling.{due_lists, rows_after_lists, painted_merge, with_set_taken, with_ready_taken, settled_merge}
use Rattle.whips_flow.specs.Cuts.{cut_after}
use Rattle.whips_flow.specs.Work.{ask_work, query_work, update_work, manager_message_work, row_work, concerned_work, transaction_work, message_work, asks_work, source_work, manager_work, work}
use Rattle.whips_flow.specs.declared.event.Event.{Event}
use Rattle.whips_flow.specs.declared.event.Event.TheVariants.{Commit, Answer, Integrate, Manage, Rel, Act, Begin, Change, Publish, SessionOpen, SessionScan, SessionFetch, SessionClose}
use Rattle.whips_drain_laws.specs.Drain.{IsRoomy, HasAllManagers, EventsLessenWork, DrainEnds}
use Rattle.whips_drain_laws.proofs.Sums.{sum_at_changed, sum_at_grows, total_append, total_front, sum_map_at}
use Rattle.whips_lists.proofs.Options.{some_same, none_some, of_some_is}
use Rattle.whips_lists.proofs.Lists.{front_is, length_changed, length_map_at}
use Rattle.whips_lists.proofs.Options.{some_of, none_of, found_passes}

module _ (f : Facts) where
  -- ---- commit

  uncommitted_is : (o : Option Source) (n : ℕ) → has_uncommitted o n ≡ true → (s : Source) × (o ≡ Some s) × (s.commit_count < n)
  uncommitted_is None n h = absurd (cc)
  uncommitted_is (Some s) n h = (s, refl, ltb-true s.commit_count n h)

  commit_source : (y : ℕ) (s : Source) → s.commit_count < slice_index f.transactions y → source_work f y (after_commit s) < source_work f y s
  commit_source y s lt =
      let e : slice_index f.transactions y - s.commit_count ≡ suc (slice_index f.transactions y - suc s.commit_count) = omega arith in
      let d = ap (λ n. total (λ k. suc (transaction_work f y k)) (places_from (suc s.commit_count) n)) e in
      omega (arith, d, total_append (message_work f y) s.messages (sent_transaction (suc s.commit_count) ∷ []))

  commit_falls : (p : Pipeline) (y : ℕ) → is_enabled f p (Commit y) ≡ true → work f (next f p (Commit y)) < work f p
  commit_falls p y h =
      let s = uncommitted_is (slice_get p.sources y) (slice_index f.transactions y) h in
      omega (arith, sum_at_changed (source_work f) after_commit 0 y y p.sources s.0 (omega arith) s.1, commit_source y s.0 s.2)

  -- ---- answer

  answer_source : (y x : ℕ) (s : Source) (q : List QueryStep) (t : QueryStep) → slice_get s.asks x ≡ Some q → front q ≡ Some t → source_work f y (after_answer x (Some t) s) < source_work f y s
  answer_source y x s q t hs hq =
      omega (arith, sum_at_changed (asks_work f) without_front 0 x x s.asks q (omega arith) hs, total_front (ask_work f x) q t hq, total_append (message_work f y) s.messages (sent_answer x t ∷ []))

  answer_falls : (p : Pipeline) (y x : ℕ) → is_enabled f p (Answer y x) ≡ true → work f (next f p (Answer y x)) < work f p
  answer_falls p y x h =
      let t = some_of (oldest_ask p y x) h in
      let s = of_some_is (slice_get p.sources y) (λ s. option_and_then front (slice_get s.asks x)) t.0 t.1 in
      let q = of_some_is (slice_get s.0.asks x) front t.0 s.2 in
      rw (t.1) (omega (arith, sum_at_changed (source_work f) (after_answer x (Some t.0)) 0 y y p.sources s.0 (omega arith) s.1, answer_source y x s.0 q.0 t.0 q.1 q.2))

  -- ---- integrate

  pop_up : (p : Pipeline) (y : ℕ) (m : SourceMessage) → oldest_message p y ≡ Some m → work f (with_source y without_message p) + message_work f y m ≡ work f p
  pop_up p y m h =
      let s = of_some_is (slice_get p.sources y) (λ s. front s.messages) m h in
      omega (arith, sum_at_changed (source_work f) without_message 0 y y p.sources s.0 (omega arith) s.1, total_front (message_work f y) s.0.messages m s.2)

  note_gain : (n : NumberedTransaction) (j : ℕ) (m : Manager) → manager_work f j (notified_manager f n j m) ≤ manager_work f j m + concerned_work f n.source n.place j
  note_gain n j m = elim (f.concerns n.source n.place j) as (λ b. manager_work f j (cond b (with_manager_message (update n) m) m) ≤ manager_work f j m + cond b (update_work f n.source n.place j) 0) [
    | true ↦ omega (arith, total_append (manager_message_work f j) m.messages (update n ∷ []))
    | false ↦ omega arith
  ]

  coming_gain : (n : NumberedTransaction) (rows : List Row) → suc (row_work f) * length (rows ++ announcement_of f n) ≤ suc (row_work f) * length rows + suc (row_work f)
  coming_gain n rows = go (announcement_of f n) (short n)
    where
      short : (n : NumberedTransaction) → length (announcement_of f n) ≤ 1
      short n = elim (list_any (λ x. f.concerns n.source n.place x) (view_places f)) as (λ b. length (cond b (row_of f n ∷ []) []) ≤ 1) [ true ↦ omega arith | false ↦ omega arith ]

      go : (more : List Row) → length more ≤ 1 → suc (row_work f) * length (rows ++ more) ≤ suc (row_work f) * length rows + suc (row_work f)
      go [] h = omega (arith, ap (λ l. suc (row_work f) * l) (length-append rows []))
      go (r ∷ []) h = omega (arith, ap (λ l. suc (row_work f) * l) (length-append rows (r ∷ [])))
      go (r ∷ s ∷ more) h = absurd (omega arith)

  numbered_gain : (n : NumberedTransaction) (p : Pipeline) → HasAllManagers f p → suc (work f (after_numbering f n p)) ≤ work f p + transaction_work f n.source n.place
  numbered_gain n p shaped =
      let m = sum_map_at (manager_work f) (notified_manager f n) (concerned_work f n.source n.place) (note_gain n) 0 p.managers in
      let l = ap (λ l. total (concerned_work f n.source n.place) (places_from 0 l)) shaped in
      omega (arith, m, l, coming_gain n p.announcements)

  reply_gain : (x : ℕ) (t : QueryStep) (p : Pipeline) → work f (with_manager x (with_manager_message (reply t)) p) ≤ work f p + manager_message_work f x (reply t)
  reply_gain x t p = omega (arith, sum_at_grows (manager_work f) (with_manager_message (reply t)) (manager_message_work f x (reply t)) 0 x x p.managers (omega arith) (λ m. omega (arith, total_append (manager_message_work f x) m.messages (reply t ∷ []))))

  integrated_falls : (p : Pipeline) (y : ℕ) (m : SourceMessage) → HasAllManagers f p → oldest_message p y ≡ Some m → work f (after_integrate f y (Some m) (with_source y without_message p)) < work f p
  integrated_falls p y (sent_transaction k) shaped h =
      let n : NumberedTransaction = record { number = suc (length p.numbering); source = y; place = k } in
      omega (arith, pop_up p y (sent_transaction k) h, numbered_gain n (with_source y without_message p) shaped)
  integrated_falls p y (sent_answer x t) shaped h = omega (arith, pop_up p y (sent_answer x t) h, reply_gain x t (with_source y without_message p))

  integrate_falls : (p : Pipeline) (y : ℕ) → HasAllManagers f p → is_enabled f p (Integrate y) ≡ true → work f (next f p (Integrate y)) < work f p
  integrate_falls p y shaped h =
      let m = some_of (oldest_message p y) h in
      rw (m.1) (integrated_falls p y m.0 shaped m.1)

  -- ---- manage

  pop_note : (p : Pipeline) (x : ℕ) (n : ManagerMessage) → oldest_manager_message p x ≡ Some n → work f (with_manager x without_manager_message p) + manager_message_work f x n ≡ work f p
  pop_note p x n h =
      let m = of_some_is (slice_get p.managers x) (λ m. front m.messages) n h in
      omega (arith, sum_at_changed (manager_work f) without_manager_message 0 x x p.managers m.0 (omega arith) m.1, total_front (manager_message_work f x) m.0.messages n m.2)

  give_gain : (j : ℕ) (ts : List QueryStep) (m : Manager) → manager_work f j (with_list_unless ts m) ≤ manager_work f j m + 1
  give_gain j [] m = omega (arith, length-append m.lists (m.last_number ∷ []))
  give_gain j (t ∷ ts) m = omega arith

  listed_gain : (x : ℕ) (p : Pipeline) → work f (with_manager x with_list_if_answered p) ≤ work f p + 1
  listed_gain x p = omega (arith, sum_at_grows (manager_work f) with_list_if_answered 1 0 x x p.managers (omega arith) (λ m. give_gain x m.open_steps m))

  ask_gain : (x : ℕ) (p : Pipeline) (t : QueryStep) → work f (with_step_asked f x p t) ≤ work f p + ask_work f x t
  ask_gain x p t =
      let y = slice_index (f.asked_sources x t.origin) (t.step - 1) in
      omega (
        arith,
        sum_at_grows (source_work f) (with_ask x t) (ask_work f x t) 0 y y p.sources (omega arith)
            (λ s. omega (arith, sum_at_grows (asks_work f) (λ q. q ++ t ∷ []) (ask_work f x t) 0 x x s.asks (omega arith) (λ q. omega (arith, total_append (ask_work f x) q (t ∷ []))))),
      )

  asks_gain : (x : ℕ) (ts : List QueryStep) (p : Pipeline) → work f (fold (with_step_asked f x) p ts) ≤ work f p + asks_work f x ts
  asks_gain x [] p = omega arith
  asks_gain x (t ∷ ts) p = omega (arith, asks_gain x ts (with_step_asked f x p t), ask_gain x p t)

  firsts_gain : (x n : ℕ) (os : List ℕ) → asks_work f x (map (λ o. record { number = n; origin = o; step = 1 }) (filter (λ o. ltb 0 (length (f.asked_sources x o))) os)) ≤ total (query_work f x) os
  firsts_gain x n [] = omega arith
  firsts_gain x n (o ∷ os) = elim (ltb 0 (length (f.asked_sources x o))) as (λ b. ltb 0 (length (f.asked_sources x o)) ≡ b → asks_work f x (map (λ o. record { number = n; origin = o; step = 1 }) (cond b (o ∷ filter (λ o. ltb 0 (length (f.asked_sources x o))) os) (filter (λ o. ltb 0 (length (f.asked_sources x o))) os))) ≤ query_work f x o + total (query_work f x) os) [
    | true ↦ λ e. omega (arith, ltb-true 0 (length (f.asked_sources x o)) e, firsts_gain x n os)
    | false ↦ λ e. omega (arith, firsts_gain x n os)
  ] refl

  -- a change of a manager that leaves its messages and lists
  same_work : (x : ℕ) (g : Manager → Manager) (p : Pipeline) → ((m : Manager) → manager_work f x (g m) ≤ manager_work f x m) → work f (with_manager x g p) ≤ work f p
  same_work x g p h = omega (arith, sum_at_grows (manager_work f) g 0 0 x x p.managers (omega arith) (λ m. omega (arith, h m)))

  managed_falls : (p : Pipeline) (x : ℕ) (n : ManagerMessage) → oldest_manager_message p x ≡ Some n → suc (suc (work f (after_message f x (Some n) (with_manager x without_manager_message p)))) ≤ work f p
  managed_falls p x (update n) h =
      let q = with_manager x without_manager_message p in
      omega (arith, pop_note p x (update n) h, same_work x (with_transaction f x n) q (λ m. omega arith), asks_gain x (first_steps f x n) (with_manager x (with_transaction f x n) q), firsts_gain x n.number (f.origins n.source n.place x))
  managed_falls p x (reply t) h =
      let q = with_manager x without_manager_message p in
      elim (ltb t.step (length (f.asked_sources x t.origin))) as (λ b. ltb t.step (length (f.asked_sources x t.origin)) ≡ b → suc (suc (work f (cond b (with_step_asked f x (with_manager x (with_next_step t) q) (next_step t)) (with_manager x (without_query t) q)))) ≤ work f p) [
        | true ↦ λ e. omega (arith, ltb-true t.step (length (f.asked_sources x t.origin)) e, pop_note p x (reply t) h, same_work x (with_next_step t) q (λ m. omega arith), ask_gain x (with_manager x (with_next_step t) q) (next_step t))
        | false ↦ λ e. omega (arith, pop_note p x (reply t) h, same_work x (without_query t) q (λ m. omega arith))
      ] refl

  manage_falls : (p : Pipeline) (x : ℕ) → is_enabled f p (Manage x) ≡ true → work f (next f p (Manage x)) < work f p
  manage_falls p x h =
      let n = some_of (oldest_manager_message p x) h in
      rw (n.1) (omega (arith, managed_falls p x n.0 n.1, listed_gain x (after_message f x (Some n.0) (with_manager x without_manager_message p))))

-- ---- the merge: rows go from the table into sets

paint_length : (x : ℕ) (js : List ℕ) (rows : List Row) → length (fold (painted_rows x) rows js) ≡ length rows
paint_length x [] rows = refl
paint_length x (j ∷ js) rows = paint_length x js (painted_rows x rows j) ∙ length-map rows (painted_row x j)

paint_views_length : (announced x : ℕ) (waiting : List (List ℕ)) (rows : List Row) → length (rows_after_lists announced x waiting rows) ≡ length rows
paint_views_length announced x [] rows = refl
paint_views_length announced x (js ∷ waiting) rows = paint_views_length announced (suc x) waiting (fold (painted_rows x) rows (due_lists announced js)) ∙ paint_length x (due_lists announced js) rows

-- the row that was found has a number among those of its closure
found_in : (rows all : List Row) (r : Row) → find (is_ready all) rows ≡ Some r → (pre post : List Row) × (rows ≡ pre ++ r ∷ post)
found_in [] all r h = none_some r h
found_in (q ∷ rows) all r h = elim (is_ready all q) as (λ b. cond b (Some q) (find (is_ready all) rows) ≡ Some r → (pre post : List Row) × (q ∷ rows ≡ pre ++ r ∷ post)) [
  | true ↦ λ e. ([], rows, ap (λ z. z ∷ rows) (some_same q r e))
  | false ↦ λ e. let i = found_in rows all r e in (q ∷ i.0, i.1, ap (λ z. q ∷ z) i.2)
] h

has_self : (n : ℕ) (ns : List ℕ) → has_number (n ∷ ns) n ≡ true
has_self n ns = rw (eq-eqb n n refl) refl

has_append : (ms ns : List ℕ) (n : ℕ) → has_number ns n ≡ true → has_number (ms ++ ns) n ≡ true
has_append [] ns n h = h
has_append (m ∷ ms) ns n h = or_right (eqb m n) (has_number (ms ++ ns) n) (has_append ms ns n h)

-- a row that is there stays among the grown ones
kept_in : (p : Row → Bool) (pre post : List Row) (r : Row) → p r ≡ true → has_number (map (λ q. q.number) (filter p (pre ++ r ∷ post))) r.number ≡ true
kept_in p [] post r h = rw h (has_self r.number (map (λ q. q.number) (filter p post)))
kept_in p (q ∷ pre) post r h = elim (p q) as (λ b. has_number (map (λ q. q.number) (cond b (q ∷ filter p (pre ++ r ∷ post)) (filter p (pre ++ r ∷ post)))) r.number ≡ true) [
  | true ↦ or_right (eqb q.number r.number) _ (kept_in p pre post r h)
  | false ↦ kept_in p pre post r h
]

grown_has : (n : ℕ) (pre post : List Row) (r : Row) (ns : List ℕ) → has_number ns r.number ≡ true → has_number (with_needed_again n (pre ++ r ∷ post) ns) r.number ≡ true
grown_has zero pre post r ns h = h
grown_has (suc n) pre post r ns h = grown_has n pre post r (with_needed (pre ++ r ∷ post) ns) (kept_in (is_in_or_needed (pre ++ r ∷ post) ns) pre post r (or_left (has_number ns r.number) _ h))

closure_has : (pre post : List Row) (r : Row) → has_number (closure (pre ++ r ∷ post) r.number) r.number ≡ true
closure_has pre post r = grown_has (length (pre ++ r ∷ post)) pre post r (r.number ∷ []) (has_self r.number [])

dropped : (ns : List ℕ) (pre post : List Row) (r : Row) → has_number ns r.number ≡ true → length (filter (λ q. not (has_number ns q.number)) (pre ++ r ∷ post)) < length (pre ++ r ∷ post)
dropped ns [] post r h = rw h (omega (arith, fewer post))
  where
    fewer : (rows : List Row) → length (filter (λ q. not (has_number ns q.number)) rows) ≤ length rows
    fewer [] = omega arith
    fewer (q ∷ rows) = elim (not (has_number ns q.number)) as (λ b. length (cond b (q ∷ filter (λ q. not (has_number ns q.number)) rows) (filter (λ q. not (has_number ns q.number)) rows)) ≤ suc (length rows)) [ true ↦ omega (arith, fewer rows) | false ↦ omega (arith, fewer rows) ]
dropped ns (q ∷ pre) post r h = elim (not (has_number ns q.number)) as (λ b. length (cond b (q ∷ filter (λ q. not (has_number ns q.number)) (pre ++ r ∷ post)) (filter (λ q. not (has_number ns q.number)) (pre ++ r ∷ post))) < suc (length (pre ++ r ∷ post))) [ true ↦ omega (arith, dropped ns pre post r h) | false ↦ omega (arith, dropped ns pre post r h) ]

abbrev pub size : Merge → ℕ
size m = length m.table.rows + length m.row_sets

taken_size : (m : Merge) (r : Row) → find (is_ready m.table.rows) m.table.rows ≡ Some r → size (with_set_taken (closure m.table.rows r.number) m) ≤ size m
taken_size m r h =
    let i = found_in m.table.rows m.table.rows r h in
    let e : has_number (closure m.table.rows r.number) r.number ≡ true = subst (λ rows. has_number (closure rows r.number) r.number ≡ true) (sym i.2) (closure_has i.0 i.1 r) in
    let d : length (filter (λ q. not (has_number (closure m.table.rows r.number) q.number)) m.table.rows) < length m.table.rows = subst (λ rows. length (filter (λ q. not (has_number (closure m.table.rows r.number) q.number)) rows) < length rows) (sym i.2) (dropped (closure m.table.rows r.number) i.0 i.1 r e) in
    omega (arith, d, length-append m.row_sets (filter (λ q. has_number (closure m.table.rows r.number) q.number) m.table.rows ∷ []))

swept_size : (n : ℕ) (m : Merge) → size (with_ready_taken n m) ≤ size m
swept_size zero m = omega arith
swept_size (suc n) m = elim (find (is_ready m.table.rows) m.table.rows) as (λ o. find (is_ready m.table.rows) m.table.rows ≡ o → size (elim o as (λ _. Merge) [ None ↦ m | Some r ↦ with_ready_taken n (with_set_taken (closure m.table.rows r.number) m) ]) ≤ size m) [
  | None ↦ λ e. omega arith
  | Some r ↦ λ e. omega (arith, swept_size n (with_set_taken (closure m.table.rows r.number) m), taken_size m r e)
] refl

settled_size : (m : Merge) → size (settled_merge m) ≤ size m
settled_size m = omega (arith, swept_size (length m.table.rows) (painted_merge m), paint_views_length m.table.last_announced 0 m.waiting_lists m.table.rows)

module _ (f : Facts) where
  scaled : (a b : ℕ) → a ≤ b → row_work f * a ≤ row_work f * b
  scaled a b h = mul-le-mul_left (row_work f) h

  rel_falls : (p : Pipeline) → is_enabled f p Rel ≡ true → work f (next f p Rel) < work f p
  rel_falls p h =
      let r = some_of (front p.announcements) h in
      let l = ap length (front_is p.announcements r.0 r.1) in
      let c = ap (λ n. suc (row_work f) * n) l in
      let m = scaled _ _ (settled_size (with_announced_row r.0 p.merge)) in
      let k : size (with_announced_row r.0 p.merge) ≡ suc (size p.merge) = omega (arith, length-append p.merge.table.rows (r.0 ∷ [])) in
      rw (r.1) (omega (arith, c, m, ap (λ n. row_work f * n) k))

  list_work : (p : Pipeline) (x j : ℕ) → oldest_list p x ≡ Some j → sum_with_place (manager_work f) 0 (changed_at x without_list p.managers) < sum_with_place (manager_work f) 0 p.managers
  list_work p x j h =
      let m = of_some_is (slice_get p.managers x) (λ m. front m.lists) j h in
      omega (arith, sum_at_changed (manager_work f) without_list 0 x x p.managers m.0 (omega arith) m.1, ap length (front_is m.0.lists j m.2))

  act_falls : (p : Pipeline) (x : ℕ) → is_enabled f p (Act x) ≡ true → work f (next f p (Act x)) < work f p
  act_falls p x h =
      let j = some_of (oldest_list p x) h in
      rw (j.1) (omega (arith, list_work p x j.0 j.1, scaled _ _ (settled_size (with_waiting_list x j.0 p.merge))))

  -- ---- the writer

  some_cut : (p : Pipeline) → is_some (front p.merge.row_sets) ≡ true → (set : List Row) × (front p.merge.row_sets ≡ Some set) × (next_cut p ≡ Some (cut_after p.writer.cut set))
  some_cut p h = let set = some_of (front p.merge.row_sets) h in (set.0, set.1, ap (λ o. option_and_then (λ s. Some (cut_after p.writer.cut s)) o) set.1)

  begin_falls : (p : Pipeline) → IsRoomy f → is_done f p Begin ≡ true → work f (next f p Begin) < work f p
  begin_falls p roomy h =
      let both = and_parts (is_enabled f p Begin) (not (is_some (begin_shortage f p))) h in
      let ready = and_parts (is_some (front p.merge.row_sets)) (eqb (p.writer.phase % 2) 0) both.0 in
      let c = some_cut p ready.0 in
      let cut = cut_after p.writer.cut c.0 in
      let room : f.shortage (cuts_in_use f p.writer ++ cut ∷ []) ≡ None = none_of (f.shortage (cuts_in_use f p.writer ++ cut ∷ [])) (rw (c.2) at (not-true (is_some (begin_shortage f p)) both.1)) in
      let fits = roomy (drop (length p.writer.earlier_cuts - (f.versions - 2)) p.writer.earlier_cuts) p.writer.cut cut (rw (append_assoc) at room) in
      let l = ap length (front_is p.merge.row_sets c.0 c.1) in
      rw (c.2) (omega (arith, fits, ap (λ n. row_work f * n) l))

  change_falls : (p : Pipeline) → is_enabled f p Change ≡ true → work f (next f p Change) < work f p
  change_falls p h = omega (arith, ltb-true 0 p.writer.changes_left h)

  publish_falls : (p : Pipeline) → is_enabled f p Publish ≡ true → work f (next f p Publish) < work f p
  publish_falls p h =
      let both = and_parts (eqb (p.writer.phase % 2) 1) (eqb p.writer.changes_left 0) h in
      omega (arith, eqb-true (p.writer.phase % 2) 1 both.0)

  enabled_of : (p : Pipeline) (e : Event) → is_done f p e ≡ true → is_enabled f p e ≡ true
  enabled_of p e h = (and_parts (is_enabled f p e) (not (is_some (shortage_at f p e))) h).0

pub falls : EventsLessenWork
falls f p (Commit y) roomy shaped h = commit_falls f p y (enabled_of f p (Commit y) h)
falls f p (Answer y x) roomy shaped h = answer_falls f p y x (enabled_of f p (Answer y x) h)
falls f p (Integrate y) roomy shaped h = integrate_falls f p y shaped (enabled_of f p (Integrate y) h)
falls f p (Manage x) roomy shaped h = manage_falls f p x (enabled_of f p (Manage x) h)
falls f p Rel roomy shaped h = rel_falls f p (enabled_of f p Rel h)
falls f p (Act x) roomy shaped h = act_falls f p x (enabled_of f p (Act x) h)
falls f p Begin roomy shaped h = begin_falls f p roomy h
falls f p Change roomy shaped h = change_falls f p (enabled_of f p Change h)
falls f p Publish roomy shaped h = publish_falls f p (enabled_of f p Publish h)
falls f p (SessionOpen s) roomy shaped h = absurd (cc (enabled_of f p (SessionOpen s) h))
falls f p (SessionScan s x) roomy shaped h = absurd (cc (enabled_of f p (SessionScan s x) h))
falls f p (SessionFetch s n) roomy shaped h = absurd (cc (enabled_of f p (SessionFetch s n) h))
falls f p (SessionClose s) roomy shaped h = absurd (cc (enabled_of f p (SessionClose s) h))

-- ---- the number of managers stays

asks_managers : (f : Facts) (x : ℕ) (ts : List QueryStep) (p : Pipeline) → (fold (with_step_asked f x) p ts).managers ≡ p.managers
asks_managers f x [] p = refl
asks_managers f x (t ∷ ts) p = asks_managers f x ts (with_step_asked f x p t)

module _ (f : Facts) where
  on_manager_shaped : (x : ℕ) (g : Manager → Manager) (p : Pipeline) → HasAllManagers f p → HasAllManagers f (with_manager x g p)
  on_manager_shaped x g p h = length_changed g x p.managers ∙ h

  integrated_shaped : (y : ℕ) (m : Option SourceMessage) (p : Pipeline) → HasAllManagers f p → HasAllManagers f (after_integrate f y m p)
  integrated_shaped y None p h = h
  integrated_shaped y (Some (sent_transaction k)) p h = length_map_at (notified_manager f (record { number = suc (length p.numbering); source = y; place = k })) 0 p.managers ∙ h
  integrated_shaped y (Some (sent_answer x t)) p h = on_manager_shaped x (with_manager_message (reply t)) p h

  managed_shaped : (x : ℕ) (n : Option ManagerMessage) (p : Pipeline) → HasAllManagers f p → HasAllManagers f (after_message f x n p)
  managed_shaped x None p h = h
  managed_shaped x (Some (update n)) p h = ap length (asks_managers f x (first_steps f x n) (with_manager x (with_transaction f x n) p)) ∙ on_manager_shaped x (with_transaction f x n) p h
  managed_shaped x (Some (reply t)) p h = elim (ltb t.step (length (f.asked_sources x t.origin))) as (λ b. HasAllManagers f (cond b (with_step_asked f x (with_manager x (with_next_step t) p) (next_step t)) (with_manager x (without_query t) p))) [
    | true ↦ on_manager_shaped x (with_next_step t) p h
    | false ↦ on_manager_shaped x (without_query t) p h
  ]

  released_shaped : (r : Option Row) (p : Pipeline) → HasAllManagers f p → HasAllManagers f (after_rel r p)
  released_shaped None p h = h
  released_shaped (Some r) p h = h

  acted_shaped : (x : ℕ) (j : Option ℕ) (p : Pipeline) → HasAllManagers f p → HasAllManagers f (after_act x j p)
  acted_shaped x None p h = h
  acted_shaped x (Some j) p h = length_changed without_list x p.managers ∙ h

  begun_shaped : (c : Option (List ℕ)) (p : Pipeline) → HasAllManagers f p → HasAllManagers f (after_begin f c p)
  begun_shaped None p h = h
  begun_shaped (Some c) p h = h

  pub next_shaped : (p : Pipeline) (e : Event) → HasAllManagers f p → HasAllManagers f (next f p e)
  next_shaped p (Commit y) h = h
  next_shaped p (Answer y x) h = h
  next_shaped p (Integrate y) h = integrated_shaped y (oldest_message p y) (with_source y without_message p) h
  next_shaped p (Manage x) h = on_manager_shaped x with_list_if_answered (after_message f x (oldest_manager_message p x) (with_manager x without_manager_message p)) (managed_shaped x (oldest_manager_message p x) (with_manager x without_manager_message p) (on_manager_shaped x without_manager_message p h))
  next_shaped p Rel h = released_shaped (front p.announcements) p h
  next_shaped p (Act x) h = acted_shaped x (oldest_list p x) p h
  next_shaped p Begin h = begun_shaped (next_cut p) p h
  next_shaped p Change h = h
  next_shaped p Publish h = h
  next_shaped p (SessionOpen s) h = h
  next_shaped p (SessionScan s x) h = h
  next_shaped p (SessionFetch s n) h = h
  next_shaped p (SessionClose s) h = h

-- ---- the drain

pub drain_event_done : (f : Facts) (p : Pipeline) (e : Event) → next_drain_event f p ≡ Some e → is_done f p e ≡ true
drain_event_done f p e h =
    let d = of_some_is (first_enabled f p) (λ e. cond (is_some (shortage_at f p e)) None (Some e)) e h in
    go (is_some (shortage_at f p d.0)) d.0 refl (found_passes (is_enabled f p) (pipeline_events f) d.0 d.1) d.2
  where
    go : (b : Bool) (d : Event) → is_some (shortage_at f p d) ≡ b → is_enabled f p d ≡ true → cond b None (Some d) ≡ Some e → is_done f p e ≡ true
    go true d n en h = none_some e h
    go false d n en h = subst (λ z. is_done f p z ≡ true) (some_same d e h) (rw (en, n) refl)

pub drains : DrainEnds
drains f p n roomy shaped h = go n p shaped h
  where
    none_left : (q : Pipeline) → HasAllManagers f q → work f q ≤ 0 → (o : Option Event) → next_drain_event f q ≡ o → o ≡ None
    none_left q s l None e = refl
    none_left q s l (Some d) e = absurd (omega (arith, falls f q d roomy s (drain_event_done f q d e)))

    go : (n : ℕ) (q : Pipeline) → HasAllManagers f q → work f q ≤ n → next_drain_event f (drain n f q) ≡ None
    go zero q s l = none_left q s l (next_drain_event f q) refl
    go (suc n) q s l = elim (next_drain_event f q) as (λ o. next_drain_event f q ≡ o → next_drain_event f (elim o as (λ _. Pipeline) [ None ↦ q | Some d ↦ drain n f (next f q d) ]) ≡ None) [
      | None ↦ λ e. e
      | Some d ↦ λ e. go n (next f q d) (next_shaped f q d s) (omega (arith, falls f q d roomy s (drain_event_done f q d e)))
    ] refl
