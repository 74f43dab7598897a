-- Numbering, rows and versions, kept by every event.
--
-- `after_kept`: after every list of events, with the row sets that were taken during them, each transaction's number and place count those before it (`Counted`), each concerned transaction that was numbered has its row in a set, in the table or on its way (`Parted`), and version v is at the cut of the first v sets (`Versioned`).
--
-- The idea: an event changes one actor. All but a row or a list that comes to the merge take no set, and change one of the three parts; the merge settles until nothing is ready, which takes sets from the front of what it has.
--
-- Five lemmas carry it: `integrate_kept` (a transaction is numbered), `asked_kept` (a manager's message), `settles` (the merge), `begin_kept` (the writer takes a set) and `start_kept` (the start).
use Rattle.std.proofs.Common.{◌≡◌, ℕ, zero, suc, ◌-◌, ◌%◌, ◌<◌, ◌≤◌, true, false, not, List, [], ◌∷◌, ◌++◌, length, take, drop, Option, Some, None, cond, eqb, ltb, refl, sym, ap, subst, ◌∙◌, arith, inl, inr, append_assoc, append-nil}
use Rattle.std.specs.Prelude.{slice_get, slice_index, fold, is_some, replicate}
use Rattle.std.specs.Option.{option_and_then}
use Rattle.std.proofs.lemmas.Bool.{and_parts, eqb-true}
use Rattle.std.proofs.lemmas.List.{drop_all, drop_at}
use Rattle.whips_lists.specs.Lists.{changed_at, front, without_front}
use Rattle.whips_lists.proofs.Options.{some_of}
use Rattle.whips_flow.specs.Facts.{Facts}
use Rattle.whips_flow.specs.Painted.{Row}
use Rattle.whips_flow.specs.State.{Pipeline, Source, Manager, Merge, QueryStep, NumberedTransaction, SourceMessage, sent_transaction, sent_answer, ManagerMessage, update, reply, start, zero_cut, new_source, oldest_message, oldest_ask, oldest_manager_message, oldest_list, with_source, with_manager}
use Rattle.whips_flow.specs.Progress.{after, step, is_done, is_enabled, shortage_at, next}
use Rattle.whips_flow.specs.Effects.{without_message, without_manager_message, with_ask, after_commit, after_answer, after_integrate, with_step_asked, first_steps, next_step, with_transaction, with_next_step, without_query, after_message, with_list_if_answered, with_announced_row, with_waiting_list, without_list, after_rel, after_act, next_cut, after_begin}
use Rattle.whips_flow.specs.Settling.{settled_merge}
use Rattle.whips_flow.specs.Cuts.{cut_after}
use Rattle.whips_flow.specs.declared.event.Event.{Event}
use Rattle.whips_flow.specs.declared.event.Event.TheVariants.{Commit, Answer, Integrate, Manage, Rel, Act, Begin, Change, Publish, SessionOpen, SessionScan, SessionFetch, SessionClose}
use Rattle.whips_lists.proofs.InList.{In}
use Rattle.whips_cut_laws.proofs.Lined.{joined}
use Rattle.whips_settled_laws.specs.Settled.{AsksSourcesOfRun}
use Rattle.whips_lists.proofs.ByPlace.{get_in, in_copies}
use Rattle.whips_lists.proofs.Options.{some_same, of_some_is}
use Rattle.whips_lists.proofs.Lists.{front_is}
use Rattle.whips_settled_laws.proofs.Accounts.{latest, RisingRows, Accounted, asked_one, asks_are}
use Rattle.whips_settled_laws.proofs.Ends.{Sound, after_sound}
use Rattle.whips_facts.specs.Values.{taken_sets, all_taken_sets}
use Rattle.whips_version_laws.proofs.Counts.{of_source, Follows, follows_sent, follows_answered, follows_behind_answer, Counted, source_counted, taken_counted}
use Rattle.whips_version_laws.proofs.Parted.{Parted, settled_parted, came_parted, numbered_parted}
use Rattle.whips_version_laws.proofs.Versioned.{Versioned, more_waiting, begun_versioned, published_versioned, changed_versioned}

-- what holds at every moment, with all sets that were taken up to it
pub record Kept (f : Facts) (p : Pipeline) (sets : List (List Row)) : Type 0 where
  pub counted : Counted p.sources p.numbering
  pub parted : Parted f p.numbering p.announcements p.merge.table sets
  pub versioned : Versioned (zero_cut f) p.writer p.merge.row_sets sets

-- ---- numbers of rows that come

pub rising_latest : (announced : ℕ) (rows : List Row) → RisingRows announced rows → announced ≤ latest announced rows
rising_latest announced [] h = omega arith
rising_latest announced (r ∷ rows) h = omega (arith, h.0, rising_latest r.number rows h.1)

pub above_announced : (announced : ℕ) (rows : List Row) (r : Row) → RisingRows announced rows → In r rows → announced < r.number
above_announced announced [] r h i = absurd i
above_announced announced (q ∷ rows) r h (inl e) = omega (arith, h.0, ap (λ z. z.number) e)
above_announced announced (q ∷ rows) r h (inr i) = omega (arith, h.0, above_announced q.number rows r h.1 i)

-- ---- events that take no set

no_sets : (f : Facts) (q : Pipeline) (n : ℕ) (sets left : List (List Row)) → length left ≤ n → Kept f q sets → Kept f q (sets ++ drop n left)
no_sets f q n sets left le h = subst (Kept f q) (sym (ap (λ z. sets ++ z) (drop_all n left le) ∙ append-nil sets)) h

-- a source changes and its messages still follow
source_kept : (f : Facts) (p : Pipeline) (y : ℕ) (g : Source → Source) (sets : List (List Row)) → ((count : ℕ) (s : Source) → slice_get p.sources y ≡ Some s → Follows count s.messages s.commit_count → Follows count (g s).messages (g s).commit_count) → Kept f p sets → Kept f (with_source y g p) sets
source_kept f p y g sets keeps h = record { counted = source_counted p.sources p.numbering h.counted y g keeps; parted = h.parted; versioned = h.versioned }

answer_kept : (f : Facts) (p : Pipeline) (y x : ℕ) (o : Option QueryStep) (sets : List (List Row)) → Kept f p sets → Kept f (with_source y (after_answer x o) p) sets
answer_kept f p y x None sets h = source_kept f p y (after_answer x None) sets (λ c s a u. u) h
answer_kept f p y x (Some t) sets h = source_kept f p y (after_answer x (Some t)) sets (λ c s a u. follows_answered c x t s.messages s.commit_count u) h

integrate_kept : (f : Facts) (p : Pipeline) (y : ℕ) (m : SourceMessage) (sets : List (List Row)) → oldest_message p y ≡ Some m → Accounted f p → Kept f p sets → Kept f (after_integrate f y (Some m) (with_source y without_message p)) sets
integrate_kept f p y (sent_transaction k) sets e a h =
    let s = of_some_is (slice_get p.sources y) (λ s. front s.messages) (sent_transaction k) e in
    let n : NumberedTransaction = record { number = suc (length p.numbering); source = y; place = k } in
    record {
      counted = taken_counted p.sources p.numbering h.counted y k s.0 s.1 s.2;
      parted = numbered_parted f p.numbering n p.announcements p.merge.table sets (omega (arith, rising_latest p.merge.table.last_announced p.announcements a.rising, a.latest_low)) h.parted;
      versioned = h.versioned;
    }
integrate_kept f p y (sent_answer x t) sets e a h =
    let k = source_kept f p y without_message sets (λ c s at u. follows_behind_answer c x t s.messages s.commit_count (ap (λ o. option_and_then (λ s. front s.messages) o) (sym at) ∙ e) u) h in
    record { counted = k.counted; parted = k.parted; versioned = k.versioned }

merge_of_integrated : (f : Facts) (y : ℕ) (m : SourceMessage) (p : Pipeline) → (after_integrate f y (Some m) p).merge ≡ p.merge
merge_of_integrated f y (sent_transaction k) p = refl
merge_of_integrated f y (sent_answer x t) p = refl

-- ---- manage: sources get asks, and managers change

pub record Asked (p q : Pipeline) : Type 0 where
  pub sources : List Source
  pub managers : List Manager
  pub same : q ≡ record p { sources = sources; managers = managers }
  pub counted : Counted sources p.numbering

asks_counted : (f : Facts) (x : ℕ) (numbering : List NumberedTransaction) (ts : List QueryStep) (sources : List Source) → Counted sources numbering → Counted (fold (asked_one f x) sources ts) numbering
asks_counted f x numbering [] sources h = h
asks_counted f x numbering (t ∷ ts) sources h = asks_counted f x numbering ts (asked_one f x sources t) (ask_counted h)
  where
    ask_counted : Counted sources numbering → Counted (asked_one f x sources t) numbering
    ask_counted h = source_counted sources numbering h (slice_index (f.asked_sources x t.origin) (t.step - 1)) (with_ask x t) (λ c s a u. u)

managed : (f : Facts) (p : Pipeline) (x : ℕ) (o : ManagerMessage) → Counted p.sources p.numbering → Asked p (with_manager x with_list_if_answered (after_message f x (Some o) (with_manager x without_manager_message p)))
managed f p x (update n) h =
    let ts = first_steps f x n in
    record {
      sources = fold (asked_one f x) p.sources ts;
      managers = changed_at x with_list_if_answered (changed_at x (with_transaction f x n) (changed_at x without_manager_message p.managers));
      same = ap (with_manager x with_list_if_answered) (asks_are f x ts (with_manager x (with_transaction f x n) (with_manager x without_manager_message p)));
      counted = asks_counted f x p.numbering ts p.sources h;
    }
managed f p x (reply t) h = elim (ltb t.step (length (f.asked_sources x t.origin))) as (λ b. Asked p (with_manager x with_list_if_answered (cond b (with_step_asked f x (with_manager x (with_next_step t) (with_manager x without_manager_message p)) (next_step t)) (with_manager x (without_query t) (with_manager x without_manager_message p))))) [
  | true ↦ record {
    sources = asked_one f x p.sources (next_step t);
    managers = changed_at x with_list_if_answered (changed_at x (with_next_step t) (changed_at x without_manager_message p.managers));
    same = refl;
    counted = asks_counted f x p.numbering (next_step t ∷ []) p.sources h;
  }
  | false ↦ record {
    sources = p.sources;
    managers = changed_at x with_list_if_answered (changed_at x (without_query t) (changed_at x without_manager_message p.managers));
    same = refl;
    counted = h;
  }
]

asked_kept : (f : Facts) (p q : Pipeline) (sets : List (List Row)) → Asked p q → Kept f p sets → Kept f q (sets ++ drop (length p.merge.row_sets) q.merge.row_sets)
asked_kept f p q sets a h =
    let z = record p { sources = a.sources; managers = a.managers } in
    subst (λ w. Kept f w (sets ++ drop (length p.merge.row_sets) w.merge.row_sets)) (sym a.same)
    (no_sets f z (length p.merge.row_sets) sets p.merge.row_sets (omega arith) (record { counted = a.counted; parted = h.parted; versioned = h.versioned }))

-- ---- the merge settles

settles : (f : Facts) (p : Pipeline) (m : Merge) (more : List Row) (managers : List Manager) (sets : List (List Row)) → m.row_sets ≡ p.merge.row_sets → RisingRows m.table.last_announced more → Parted f p.numbering more m.table sets → Kept f p sets → Kept f (record p { managers = managers; announcements = more; merge = settled_merge m }) (sets ++ drop (length p.merge.row_sets) (settled_merge m).row_sets)
settles f p m more managers sets same rising parted h =
    let s = settled_parted f p.numbering more m sets (λ q i. above_announced m.table.last_announced more q rising i) parted in
    let are : (settled_merge m).row_sets ≡ p.merge.row_sets ++ s.new = s.row_sets ∙ ap (λ z. z ++ s.new) same in
    let new : drop (length p.merge.row_sets) (settled_merge m).row_sets ≡ s.new = ap (drop (length p.merge.row_sets)) are ∙ drop_at p.merge.row_sets s.new (length p.merge.row_sets) refl in
    subst (λ z. Kept f (record p { managers = managers; announcements = more; merge = settled_merge m }) (sets ++ z)) (sym new) (record {
      counted = h.counted;
      parted = s.parted;
      versioned = subst (λ z. Versioned (zero_cut f) p.writer z (sets ++ s.new)) (sym are) (more_waiting (zero_cut f) p.writer p.merge.row_sets sets s.new h.versioned);
    })

rel_kept : (f : Facts) (p : Pipeline) (r : Row) (sets : List (List Row)) → front p.announcements ≡ Some r → Accounted f p → Kept f p sets → Kept f (after_rel (Some r) p) (sets ++ drop (length p.merge.row_sets) (after_rel (Some r) p).merge.row_sets)
rel_kept f p r sets e a h =
    let shape = front_is p.announcements r e in
    let rest = without_front p.announcements in
    let rising = subst (RisingRows p.merge.table.last_announced) shape a.rising in
    settles f p (with_announced_row r p.merge) rest p.managers sets refl rising.1 (came_parted f p.numbering r rest p.merge.table sets rising.0 (subst (λ z. Parted f p.numbering z p.merge.table sets) shape h.parted)) h

act_kept : (f : Facts) (p : Pipeline) (x j : ℕ) (sets : List (List Row)) → Accounted f p → Kept f p sets → Kept f (after_act x (Some j) p) (sets ++ drop (length p.merge.row_sets) (after_act x (Some j) p).merge.row_sets)
act_kept f p x j sets a h = settles f p (with_waiting_list x j p.merge) p.announcements (changed_at x without_list p.managers) sets refl a.rising h.parted h

-- ---- the writer

shorter : {A : Type 0} (xs : List A) → length (without_front xs) ≤ length xs
shorter [] = omega arith
shorter (x ∷ xs) = omega arith

begin_kept : (f : Facts) (p : Pipeline) (set : List Row) (sets : List (List Row)) → front p.merge.row_sets ≡ Some set → p.writer.phase % 2 ≡ 0 → Kept f p sets → Kept f (after_begin f (Some (cut_after p.writer.cut set)) p) (sets ++ drop (length p.merge.row_sets) (without_front p.merge.row_sets))
begin_kept f p set sets e even h =
    no_sets f (after_begin f (Some (cut_after p.writer.cut set)) p) (length p.merge.row_sets) sets (without_front p.merge.row_sets) (shorter p.merge.row_sets) (record {
      counted = h.counted;
      parted = h.parted;
      versioned = begun_versioned (zero_cut f) p.writer (f.change_count p.writer.cut (cut_after p.writer.cut set)) set (without_front p.merge.row_sets) sets even (subst (λ z. Versioned (zero_cut f) p.writer z sets) (front_is p.merge.row_sets set e) h.versioned);
    })

-- ---- every event

next_kept : (f : Facts) (p : Pipeline) (e : Event) (sets : List (List Row)) → is_enabled f p e ≡ true → Accounted f p → Kept f p sets → Kept f (next f p e) (sets ++ drop (length p.merge.row_sets) (next f p e).merge.row_sets)
next_kept f p (Commit y) sets en a h = no_sets f (next f p (Commit y)) (length p.merge.row_sets) sets p.merge.row_sets (omega arith) (source_kept f p y after_commit sets (λ c s at u. follows_sent c s.messages s.commit_count u) h)
next_kept f p (Answer y x) sets en a h = no_sets f (next f p (Answer y x)) (length p.merge.row_sets) sets p.merge.row_sets (omega arith) (answer_kept f p y x (oldest_ask p y x) sets h)
next_kept f p (Integrate y) sets en a h =
    let m = some_of (oldest_message p y) en in
    let k = integrate_kept f p y m.0 sets m.1 a h in
    let z = merge_of_integrated f y m.0 (with_source y without_message p) in
    subst (λ o. Kept f (after_integrate f y o (with_source y without_message p)) (sets ++ drop (length p.merge.row_sets) (after_integrate f y o (with_source y without_message p)).merge.row_sets)) (sym m.1) (no_sets f (after_integrate f y (Some m.0) (with_source y without_message p)) (length p.merge.row_sets) sets (after_integrate f y (Some m.0) (with_source y without_message p)).merge.row_sets (omega (arith, ap (λ w. length w.row_sets) z)) k)
next_kept f p (Manage x) sets en a h =
    let n = some_of (oldest_manager_message p x) en in
    subst (λ o. Kept f (with_manager x with_list_if_answered (after_message f x o (with_manager x without_manager_message p))) (sets ++ drop (length p.merge.row_sets) (with_manager x with_list_if_answered (after_message f x o (with_manager x without_manager_message p))).merge.row_sets)) (sym n.1) (asked_kept f p (with_manager x with_list_if_answered (after_message f x (Some n.0) (with_manager x without_manager_message p))) sets (managed f p x n.0 h.counted) h)
next_kept f p Rel sets en a h =
    let r = some_of (front p.announcements) en in
    subst (λ o. Kept f (after_rel o p) (sets ++ drop (length p.merge.row_sets) (after_rel o p).merge.row_sets)) (sym r.1) (rel_kept f p r.0 sets r.1 a h)
next_kept f p (Act x) sets en a h =
    let j = some_of (oldest_list p x) en in
    subst (λ o. Kept f (after_act x o p) (sets ++ drop (length p.merge.row_sets) (after_act x o p).merge.row_sets)) (sym j.1) (act_kept f p x j.0 sets a h)
next_kept f p Begin sets en a h =
    let both = and_parts (is_some (front p.merge.row_sets)) (eqb (p.writer.phase % 2) 0) en in
    let set = some_of (front p.merge.row_sets) both.0 in
    let cut : next_cut p ≡ Some (cut_after p.writer.cut set.0) = ap (λ o. option_and_then (λ s. Some (cut_after p.writer.cut s)) o) set.1 in
    subst (λ o. Kept f (after_begin f o p) (sets ++ drop (length p.merge.row_sets) (after_begin f o p).merge.row_sets)) (sym cut) (begin_kept f p set.0 sets set.1 (eqb-true (p.writer.phase % 2) 0 both.1) h)
next_kept f p Change sets en a h = no_sets f (next f p Change) (length p.merge.row_sets) sets p.merge.row_sets (omega arith) (record { counted = h.counted; parted = h.parted; versioned = changed_versioned (zero_cut f) p.writer p.merge.row_sets sets h.versioned })
next_kept f p Publish sets en a h = no_sets f (next f p Publish) (length p.merge.row_sets) sets p.merge.row_sets (omega arith) (record { counted = h.counted; parted = h.parted; versioned = published_versioned (zero_cut f) p.writer p.merge.row_sets sets (eqb-true (p.writer.phase % 2) 1 (and_parts (eqb (p.writer.phase % 2) 1) (eqb p.writer.changes_left 0) en).0) h.versioned })
next_kept f p (SessionOpen s) sets en a h = no_sets f p (length p.merge.row_sets) sets p.merge.row_sets (omega arith) h
next_kept f p (SessionScan s x) sets en a h = no_sets f p (length p.merge.row_sets) sets p.merge.row_sets (omega arith) h
next_kept f p (SessionFetch s n) sets en a h = no_sets f p (length p.merge.row_sets) sets p.merge.row_sets (omega arith) h
next_kept f p (SessionClose s) sets en a h = no_sets f p (length p.merge.row_sets) sets p.merge.row_sets (omega arith) h

pub step_kept : (f : Facts) (p : Pipeline) (e : Event) (sets : List (List Row)) → Accounted f p → Kept f p sets → Kept f (step f p e) (sets ++ taken_sets f p e)
step_kept f p e sets a h = elim (is_done f p e) as (λ b. is_done f p e ≡ b → Kept f (cond b (next f p e) p) (sets ++ drop (length p.merge.row_sets) (cond b (next f p e) p).merge.row_sets)) [
  | true ↦ λ d. next_kept f p e sets (and_parts (is_enabled f p e) (not (is_some (shortage_at f p e))) d).0 a h
  | false ↦ λ d. no_sets f p (length p.merge.row_sets) sets p.merge.row_sets (omega arith) h
] refl

pub after_kept : (f : Facts) → AsksSourcesOfRun f → (es : List Event) (p : Pipeline) (sets : List (List Row)) → Sound f p → Kept f p sets → Kept f (after f p es) (sets ++ all_taken_sets f p es)
after_kept f asks [] p sets s h = subst (Kept f p) (sym (append-nil sets)) h
after_kept f asks (e ∷ es) p sets s h = subst (Kept f (after f (step f p e) es)) (append_assoc sets (taken_sets f p e) (all_taken_sets f (step f p e) es)) (after_kept f asks es (step f p e) (sets ++ taken_sets f p e) (after_sound f asks (e ∷ []) p s) (step_kept f p e sets s.accounted h))

-- ---- the start

pub start_kept : (f : Facts) → Kept f (start f) []
start_kept f = record {
  counted = record {
    numbered = λ i n e. nothing i n e;
    within = λ n i. absurd i;
    sends = λ y s e. subst (λ w. Follows 0 w.messages w.commit_count) (in_copies (length f.transactions) (new_source f) s (get_in y (replicate (length f.transactions) (new_source f)) s e)) refl;
  };
  parted = record {
    are_of = λ r i. absurd i;
    low_in_sets = λ r i. absurd i;
    low_in_table = λ r i. absurd i;
    not_white = λ r x i e. i;
    apart = tt;
    there = λ n x i l c. absurd i;
  };
  versioned = record {
    begun = [];
    sets_are = refl;
    target = refl;
    even = λ e. refl;
    odd = λ e. absurd (omega (arith, e));
    cuts = λ v cut e. first v cut e;
  };
}
  where
    nothing : (i : ℕ) (n : NumberedTransaction) → None ≡ Some n → (n.number ≡ suc i) × (n.place ≡ suc (of_source n.source (take i [])))
    nothing i n e = absurd (cc)

    first : (v : ℕ) (cut : List ℕ) → slice_get (zero_cut f ∷ []) v ≡ Some cut → (v ≤ 0) × (cut ≡ cut_after (zero_cut f) (joined (take v [])))
    first zero cut e = (omega arith, sym (some_same (zero_cut f) cut e))
    first (suc v) cut e = absurd (cc)
