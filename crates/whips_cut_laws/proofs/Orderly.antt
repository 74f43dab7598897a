-- What holds of the rows, the messages and the cuts at every moment.
--
-- `start_orderly`, `after_kept`: at the start, and after every list of events, the rows of the sets, of the table and on their way go on
-- from the writer's target cut in order, each source sends its transactions in order, and the cuts of the versions advance (`Orderly`).
-- `advance`: so each version's cut advances on the one before, and none counts more than was committed (`CutsAdvance`). `above_top`,
-- `top_is_cut`: where nothing is on its way, the current cut counts each committed transaction that concerns a view.
--
-- The idea: a source sends its transactions in the order of their places, so the row of a transaction has a higher place than all earlier
-- rows of its source. A row set that leaves the table is a closure, which leaves no earlier row of a source behind. So a row set, which is
-- never empty, raises the cut of some source and lowers none.
--
-- Five lemmas carry it: `sent_kept` (a transaction is numbered), `settled_lined` (the merge settles), `begin_kept` and `publish_kept` (the
-- writer) and `advance_by` (a set that isn't empty advances the cut).
use Rattle.std.proofs.Common.{◌≡◌, ℕ, zero, suc, ◌+◌, ◌-◌, ◌%◌, ◌<◌, ◌≤◌, max, true, false, not, List, [], ◌∷◌, ◌++◌, length, Option, Some, None, cond, eqb, ltb, refl, sym, ap, subst, ◌∙◌, arith, ◌⊎◌, inl, inr, ⊎_elim, append_assoc, append-nil, length-append}
use Rattle.std.specs.Prelude.{slice_get, slice_index, fold, is_some, replicate}
use Rattle.std.specs.List.{AllByRecursion, list_any}
use Rattle.std.proofs.lemmas.Bool.{and_parts, eqb-true, cases_lt}
use Rattle.std.proofs.lemmas.List.{get_or_past}
use Rattle.whips_lists.specs.Lists.{changed_at, map_with_place, front, without_front}
use Rattle.std.specs.Option.{option_and_then}
use Rattle.whips_flow.specs.Facts.{Facts, view_places}
use Rattle.whips_flow.specs.Painted.{Row}
use Rattle.whips_flow.specs.State.{Pipeline, Source, Manager, Merge, Writer, QueryStep, NumberedTransaction, SourceMessage, sent_transaction, sent_answer, ManagerMessage, update, reply, start, zero_cut, new_source, oldest_message, oldest_ask, oldest_manager_message, oldest_list, with_source, with_manager}
use Rattle.whips_flow.specs.Progress.{after, step, is_done, is_enabled, shortage_at, next}
use Rattle.whips_flow.specs.Effects.{without_message, without_manager_message, with_manager_message, with_ask, after_commit, after_answer, row_of, notified_manager, after_numbering, after_integrate, with_step_asked, first_steps, next_step, with_transaction, with_next_step, without_query, after_message, with_list_if_answered, with_announced_row, with_waiting_list, after_rel, after_act, next_cut, after_begin, after_change, after_publish}
use Rattle.whips_flow.specs.Cuts.{raised_cut, cut_after}
use Rattle.whips_flow.specs.declared.event.Event.{Event}
use Rattle.whips_flow.specs.declared.event.Event.TheVariants.{Commit, Answer, Integrate, Manage, Rel, Act, Begin, Change, Publish, SessionOpen, SessionScan, SessionFetch, SessionClose}
use Rattle.whips_cut_laws.specs.Cuts.{Advances, AdvanceFrom, AllAdvance, commit_count_of, committed_at, CutsAdvance}
use Rattle.whips_cut_laws.proofs.Places.{EachAt, each_changed, each_at, each_kept, index_here, index_other, cut_after_append, cut_after_up, cut_after_length, Climbs, climbs_append, climbs_front, climbs_back, AllAbove, Rising}
use Rattle.whips_lists.proofs.Options.{some_same}
use Rattle.whips_lists.proofs.Lists.{length_changed}
use Rattle.whips_cut_laws.proofs.Lined.{joined, AllUpTo, IsFilled, AllFilled, InLine, Lined, settled_lined}
use Rattle.whips_lists.proofs.Options.{of_some_is, some_of}
use Rattle.whips_lists.proofs.Lists.{front_is}
use Rattle.std.proofs.lemmas.List.{length-replicate}

-- no view is concerned by the transaction of source y at place k
abbrev pub IsUnconcerned : Facts → ℕ → ℕ → Type 0
IsUnconcerned f y k = list_any (λ x. f.concerns y k x) (view_places f) ≡ false

-- U holds of each place above low and below high
abbrev pub AllBetween : (ℕ → Type 0) → ℕ → ℕ → Type 0
AllBetween U low high = (k : ℕ) → low < k → k < high → U k

-- the transactions among the messages come in order, above low and up to done, and U holds of the places between
abbrev pub Ascends : (ℕ → Type 0) → ℕ → List SourceMessage → ℕ → Type 0
Ascends U low [] done = (low ≤ done) × AllBetween U low (suc done)
Ascends U low (sent_transaction k ∷ ms) done = (low < k) × AllBetween U low k × Ascends U k ms done
Ascends U low (sent_answer x t ∷ ms) done = Ascends U low ms done

module _ (U : ℕ → Type 0) where
  between_join : (low mid high : ℕ) → AllBetween U low (suc mid) → AllBetween U mid high → AllBetween U low high
  between_join low mid high g h = λ k a b. ⊎_elim (λ lt. h k lt b) (λ le. g k a (omega (arith, le))) (cases_lt mid k)

  between_with : (low k : ℕ) → AllBetween U low k → U k → AllBetween U low (suc k)
  between_with low k g u = λ j a b. ⊎_elim (λ lt. g j a lt) (λ le. let jk : k ≡ j = omega (arith, le, b) in subst U jk u) (cases_lt j k)

  ascends_down : (low lower : ℕ) (ms : List SourceMessage) (done : ℕ) → lower ≤ low → AllBetween U lower (suc low) → Ascends U low ms done → Ascends U lower ms done
  ascends_down low lower [] done le g h = (omega (arith, h.0), between_join lower low (suc done) g h.1)
  ascends_down low lower (sent_transaction k ∷ ms) done le g h = (omega (arith, h.0), between_join lower low k g h.1, h.2)
  ascends_down low lower (sent_answer x t ∷ ms) done le g h = ascends_down low lower ms done le g h

  ascends_behind_none : (low : ℕ) (ms : List SourceMessage) (done : ℕ) → front ms ≡ None → Ascends U low ms done → Ascends U low (without_front ms) done
  ascends_behind_none low [] done e h = h
  ascends_behind_none low (m ∷ ms) done e h = absurd (cc)

  ascends_behind_answer : (low x : ℕ) (t : QueryStep) (ms : List SourceMessage) (done : ℕ) → front ms ≡ Some (sent_answer x t) → Ascends U low ms done → Ascends U low (without_front ms) done
  ascends_behind_answer low x t [] done e h = absurd (cc)
  ascends_behind_answer low x t (sent_transaction k ∷ ms) done e h = absurd (cc)
  ascends_behind_answer low x t (sent_answer z u ∷ ms) done e h = h

  ascends_sent : (low : ℕ) (ms : List SourceMessage) (done : ℕ) → Ascends U low ms done → Ascends U low (ms ++ sent_transaction (suc done) ∷ []) (suc done)
  ascends_sent low [] done h = (omega (arith, h.0), h.1, (omega arith, λ k a b. absurd (omega (arith, a, b))))
  ascends_sent low (sent_transaction k ∷ ms) done h = (h.0, h.1, ascends_sent k ms done h.2)
  ascends_sent low (sent_answer x t ∷ ms) done h = ascends_sent low ms done h

  ascends_answered : (low x : ℕ) (t : QueryStep) (ms : List SourceMessage) (done : ℕ) → Ascends U low ms done → Ascends U low (ms ++ sent_answer x t ∷ []) done
  ascends_answered low x t [] done h = h
  ascends_answered low x t (sent_transaction k ∷ ms) done h = (h.0, h.1, ascends_answered k x t ms done h.2)
  ascends_answered low x t (sent_answer z u ∷ ms) done h = ascends_answered low x t ms done h

  ascends_le : (low : ℕ) (ms : List SourceMessage) (done : ℕ) → Ascends U low ms done → low ≤ done
  ascends_le low [] done h = h.0
  ascends_le low (sent_transaction k ∷ ms) done h = omega (arith, h.0, ascends_le k ms done h.2)
  ascends_le low (sent_answer x t ∷ ms) done h = ascends_le low ms done h

  sent_first : (low : ℕ) (ms : List SourceMessage) (k done : ℕ) → front ms ≡ Some (sent_transaction k) → Ascends U low ms done → (low < k) × AllBetween U low k × Ascends U k (without_front ms) done
  sent_first low [] k done e h = absurd (cc)
  sent_first low (sent_transaction j ∷ ms) k done e h = let jk : j ≡ k = cc in subst (λ z. (low < z) × AllBetween U low z × Ascends U z ms done) jk h
  sent_first low (sent_answer x t ∷ ms) k done e h = absurd (cc)

  -- the first message is a transaction of which U holds
  ascends_behind_sent : (low : ℕ) (ms : List SourceMessage) (k done : ℕ) → front ms ≡ Some (sent_transaction k) → U k → Ascends U low ms done → Ascends U low (without_front ms) done
  ascends_behind_sent low ms k done e u h =
      let first = sent_first low ms k done e h in
      ascends_down k low (without_front ms) done (omega (arith, first.0)) (between_with low k first.1 u) first.2

abbrev pub SendsInOrder : Facts → ℕ → List ℕ → ℕ → Source → Type 0
SendsInOrder f width top y s = (y < width) × Ascends (IsUnconcerned f y) (slice_index top y) s.messages s.commit_count

pub record Turns (w : Writer) : Type 0 where
  pub level : w.phase % 2 ≡ 0 → w.target_cut ≡ w.cut
  pub ahead : w.phase % 2 ≡ 1 → Advances w.cut w.target_cut
  pub chain : AllAdvance (w.earlier_cuts ++ w.cut ∷ [])

pub record Orderly (f : Facts) (p : Pipeline) : Type 0 where
  pub top : List ℕ
  pub line : Lined p.writer.target_cut top (length p.numbering) p.announcements p.merge
  pub width : length p.writer.target_cut ≡ length p.sources
  pub sends : EachAt (SendsInOrder f (length p.writer.target_cut) top) 0 p.sources
  pub turns : Turns p.writer

-- ---- events that leave the rows

-- a change of a source that keeps its messages in order
source_kept : (f : Facts) (p : Pipeline) (y : ℕ) (g : Source → Source) → ((U : ℕ → Type 0) (low : ℕ) (s : Source) → Ascends U low s.messages s.commit_count → Ascends U low (g s).messages (g s).commit_count) → Orderly f p → Orderly f (with_source y g p)
source_kept f p y g keeps h = record {
  top = h.top;
  line = h.line;
  width = h.width ∙ sym (length_changed g y p.sources);
  sends = each_kept (SendsInOrder f (length p.writer.target_cut) h.top) g y p.sources (λ j s u. (u.0, keeps (IsUnconcerned f j) (slice_index h.top j) s u.1)) 0 h.sends;
  turns = h.turns;
}

manager_kept : (f : Facts) (p : Pipeline) (x : ℕ) (g : Manager → Manager) → Orderly f p → Orderly f (with_manager x g p)
manager_kept f p x g h = record { top = h.top; line = h.line; width = h.width; sends = h.sends; turns = h.turns }

-- the front message of a source leaves, where this keeps its messages in order
message_kept : (f : Facts) (p : Pipeline) (y : ℕ) → ((U : ℕ → Type 0) (low : ℕ) (s : Source) → slice_get p.sources y ≡ Some s → Ascends U low s.messages s.commit_count → Ascends U low (without_front s.messages) s.commit_count) → Orderly f p → Orderly f (with_source y without_message p)
message_kept f p y keeps h = record {
  top = h.top;
  line = h.line;
  width = h.width ∙ sym (length_changed without_message y p.sources);
  sends = each_changed (SendsInOrder f (length p.writer.target_cut) h.top) (SendsInOrder f (length p.writer.target_cut) h.top) without_message 0 y y p.sources (omega arith) (λ m z ne v. v) (λ z at v. (v.0, keeps (IsUnconcerned f y) (slice_index h.top y) z at v.1)) h.sends;
  turns = h.turns;
}

ask_kept : (f : Facts) (x : ℕ) (p : Pipeline) (t : QueryStep) → Orderly f p → Orderly f (with_step_asked f x p t)
ask_kept f x p t h = source_kept f p (slice_index (f.asked_sources x t.origin) (t.step - 1)) (with_ask x t) (λ U low s u. u) h

asks_kept : (f : Facts) (x : ℕ) (ts : List QueryStep) (p : Pipeline) → Orderly f p → Orderly f (fold (with_step_asked f x) p ts)
asks_kept f x [] p h = h
asks_kept f x (t ∷ ts) p h = asks_kept f x ts (with_step_asked f x p t) (ask_kept f x p t h)

managed_kept : (f : Facts) (x : ℕ) (n : Option ManagerMessage) (p : Pipeline) → Orderly f p → Orderly f (after_message f x n p)
managed_kept f x None p h = h
managed_kept f x (Some (update n)) p h = asks_kept f x (first_steps f x n) (with_manager x (with_transaction f x n) p) (manager_kept f p x (with_transaction f x n) h)
managed_kept f x (Some (reply t)) p h = elim (ltb t.step (length (f.asked_sources x t.origin))) as (λ b. Orderly f (cond b (with_step_asked f x (with_manager x (with_next_step t) p) (next_step t)) (with_manager x (without_query t) p))) [
  | true ↦ ask_kept f x (with_manager x (with_next_step t) p) (next_step t) (manager_kept f p x (with_next_step t) h)
  | false ↦ manager_kept f p x (without_query t) h
]

answer_kept : (f : Facts) (p : Pipeline) (y x : ℕ) (o : Option QueryStep) → Orderly f p → Orderly f (with_source y (after_answer x o) p)
answer_kept f p y x None h = source_kept f p y (after_answer x None) (λ U low s u. u) h
answer_kept f p y x (Some t) h = source_kept f p y (after_answer x (Some t)) (λ U low s u. ascends_answered U low x t s.messages s.commit_count u) h

-- ---- the integrator

climbs_one : (top : List ℕ) (r : Row) → r.source < length top → slice_index top r.source < r.place → Climbs top (r ∷ [])
climbs_one top r a b = (a, b, tt)

above_push : (n : ℕ) (rows : List Row) (r : Row) → AllAbove n rows → n < r.number → AllAbove n (rows ++ r ∷ [])
above_push n [] r h lt = (lt, tt)
above_push n (q ∷ rows) r h lt = (h.0, above_push n rows r h.1 lt)

rising_push : (n : ℕ) (rows : List Row) (r : Row) → Rising rows → AllUpTo n rows → n < r.number → Rising (rows ++ r ∷ [])
rising_push n [] r h b lt = (tt, tt)
rising_push n (q ∷ rows) r h b lt = (above_push q.number rows r h.0 (omega (arith, b.0)), rising_push n rows r h.1 b.1 lt)

below_up : (n m : ℕ) (rows : List Row) → n ≤ m → AllUpTo n rows → AllUpTo m rows
below_up n m [] le h = tt
below_up n m (q ∷ rows) le h = (omega (arith, h.0), below_up n m rows le h.1)

below_push : (n : ℕ) (rows : List Row) (r : Row) → AllUpTo n rows → r.number ≤ n → AllUpTo n (rows ++ r ∷ [])
below_push n [] r h le = (le, tt)
below_push n (q ∷ rows) r h le = (h.0, below_push n rows r h.1 le)

module _ (cut top : List ℕ) (n : ℕ) (more : List Row) (m : Merge) where
  line_push : (r : Row) → r.number ≡ suc n → r.source < length cut → slice_index top r.source < r.place → Lined cut top n more m → Lined cut (raised_cut top r) (suc n) (more ++ r ∷ []) m
  line_push r e lt above h =
      let base = cut_after cut (joined m.row_sets) in
      let l = h.in_line in
      let long : length top ≡ length cut = sym (ap length l.top_is) ∙ (cut_after_length base (m.table.rows ++ more) ∙ cut_after_length cut (joined m.row_sets)) in
      let s = append_assoc m.table.rows more (r ∷ []) in
      record {
        sets_climb = h.sets_climb;
        filled = h.filled;
        in_line = record {
          climbs = subst (Climbs base) s (climbs_append base (m.table.rows ++ more) (r ∷ []) l.climbs (subst (λ z. Climbs z (r ∷ [])) (sym l.top_is) (climbs_one top r (omega (arith, long)) above)));
          top_is = ap (cut_after base) (sym s) ∙ (cut_after_append base (m.table.rows ++ more) (r ∷ []) ∙ ap (λ z. raised_cut z r) l.top_is);
          rising = subst Rising s (rising_push n (m.table.rows ++ more) r l.rising l.below (omega arith));
          below = subst (AllUpTo (suc n)) s (below_push (suc n) (m.table.rows ++ more) r (below_up n (suc n) (m.table.rows ++ more) (omega arith) l.below) (omega arith));
        };
      }

  line_same : Lined cut top n more m → Lined cut top (suc n) (more ++ []) m
  line_same h =
      let l = h.in_line in
      subst (λ z. Lined cut top (suc n) z m) (sym (append-nil more)) (record {
        sets_climb = h.sets_climb;
        filled = h.filled;
        in_line = record { climbs = l.climbs; top_is = l.top_is; rising = l.rising; below = below_up n (suc n) (m.table.rows ++ more) (omega arith) l.below };
      })

module _ (f : Facts) (p : Pipeline) (y : ℕ) where
  sent_kept : (k : ℕ) → oldest_message p y ≡ Some (sent_transaction k) → Orderly f p → Orderly f (after_numbering f (record { number = suc (length p.numbering); source = y; place = k }) (with_source y without_message p))
  sent_kept k e h =
      let s = of_some_is (slice_get p.sources y) (λ s. front s.messages) (sent_transaction k) e in
      let u = each_at (SendsInOrder f (length p.writer.target_cut) h.top) 0 y y p.sources s.0 (omega arith) s.1 h.sends in
      let n : NumberedTransaction = record { number = suc (length p.numbering); source = y; place = k } in
      let low = (sent_first (IsUnconcerned f y) (slice_index h.top y) s.0.messages k s.0.commit_count s.2 u.1).0 in
      let o : length (p.numbering ++ n ∷ []) ≡ suc (length p.numbering) = omega (arith, length-append p.numbering (n ∷ [])) in
      elim (list_any (λ x. f.concerns y k x) (view_places f)) as (λ b. list_any (λ x. f.concerns y k x) (view_places f) ≡ b → Orderly f (record p { sources = changed_at y without_message p.sources; numbering = p.numbering ++ n ∷ []; managers = map_with_place (notified_manager f n) 0 p.managers; announcements = p.announcements ++ cond b (row_of f n ∷ []) [] })) [
        | true ↦ λ c. record {
          top = raised_cut h.top (row_of f n);
          line = subst (λ z. Lined p.writer.target_cut (raised_cut h.top (row_of f n)) z (p.announcements ++ row_of f n ∷ []) p.merge) (sym o) (line_push p.writer.target_cut h.top (length p.numbering) p.announcements p.merge (row_of f n) refl u.0 low h.line);
          width = h.width ∙ sym (length_changed without_message y p.sources);
          sends = each_changed (SendsInOrder f (length p.writer.target_cut) h.top) (SendsInOrder f (length p.writer.target_cut) (raised_cut h.top (row_of f n))) without_message 0 y y p.sources (omega arith)
              (λ m z ne v. (v.0, subst (λ l. Ascends (IsUnconcerned f m) l z.messages z.commit_count) (sym (index_other (max k) y m h.top ne)) v.1))
              (λ z at v. (
                v.0,
                let same : z ≡ s.0 = some_same z s.0 (sym at ∙ s.1) in
                    let first = sent_first (IsUnconcerned f y) (slice_index h.top y) z.messages k z.commit_count (subst (λ q. front q.messages ≡ Some (sent_transaction k)) (sym same) s.2) v.1 in
                    let l : slice_index (raised_cut h.top (row_of f n)) y ≡ k = index_here (max k) y h.top (omega (arith, v.0, long)) ∙ greater k (slice_index h.top y) first.0 in
                    subst (λ q. Ascends (IsUnconcerned f y) q (without_front z.messages) z.commit_count) (sym l) first.2,
              ))
              h.sends;
          turns = h.turns;
        }
        | false ↦ λ c. record {
          top = h.top;
          line = subst (λ z. Lined p.writer.target_cut h.top z (p.announcements ++ []) p.merge) (sym o) (line_same p.writer.target_cut h.top (length p.numbering) p.announcements p.merge h.line);
          width = h.width ∙ sym (length_changed without_message y p.sources);
          sends = each_changed (SendsInOrder f (length p.writer.target_cut) h.top) (SendsInOrder f (length p.writer.target_cut) h.top) without_message 0 y y p.sources (omega arith) (λ m z ne v. v) (λ z at v. (v.0, ascends_behind_sent (IsUnconcerned f y) (slice_index h.top y) z.messages k z.commit_count (ap (λ o. option_and_then (λ s. front s.messages) o) (sym at) ∙ e) c v.1)) h.sends;
          turns = h.turns;
        }
      ] refl
    where
      long : length h.top ≡ length p.writer.target_cut
      long = sym (ap length h.line.in_line.top_is) ∙ (cut_after_length (cut_after p.writer.target_cut (joined p.merge.row_sets)) (p.merge.table.rows ++ p.announcements) ∙ cut_after_length p.writer.target_cut (joined p.merge.row_sets))

      greater : (a b : ℕ) → b < a → max a b ≡ a
      greater a b lt = omega arith

  integrated_kept : (m : Option SourceMessage) → oldest_message p y ≡ m → Orderly f p → Orderly f (after_integrate f y m (with_source y without_message p))
  integrated_kept None e h = message_kept f p y (λ U low s at u. ascends_behind_none U low s.messages s.commit_count (ap (λ o. option_and_then (λ s. front s.messages) o) (sym at) ∙ e) u) h
  integrated_kept (Some (sent_transaction k)) e h = sent_kept k e h
  integrated_kept (Some (sent_answer x t)) e h = manager_kept f (with_source y without_message p) x (with_manager_message (reply t)) (message_kept f p y (λ U low s at u. ascends_behind_answer U low x t s.messages s.commit_count (ap (λ o. option_and_then (λ s. front s.messages) o) (sym at) ∙ e) u) h)

-- ---- the merge

released_kept : (f : Facts) (p : Pipeline) (o : Option Row) → front p.announcements ≡ o → Orderly f p → Orderly f (after_rel o p)
released_kept f p None e h = h
released_kept f p (Some r) e h =
    let c = front_is p.announcements r e in
    let l = h.line.in_line in
    let s : p.merge.table.rows ++ p.announcements ≡ (p.merge.table.rows ++ r ∷ []) ++ without_front p.announcements = ap (λ z. p.merge.table.rows ++ z) c ∙ sym (append_assoc p.merge.table.rows (r ∷ []) (without_front p.announcements)) in
    let base = cut_after p.writer.target_cut (joined p.merge.row_sets) in
    record {
      top = h.top;
      line = settled_lined p.writer.target_cut h.top (length p.numbering) (without_front p.announcements) (with_announced_row r p.merge) (record {
        sets_climb = h.line.sets_climb;
        filled = h.line.filled;
        in_line = record { climbs = subst (Climbs base) s l.climbs; top_is = ap (cut_after base) (sym s) ∙ l.top_is; rising = subst Rising s l.rising; below = subst (AllUpTo (length p.numbering)) s l.below };
      });
      width = h.width;
      sends = h.sends;
      turns = h.turns;
    }

acted_kept : (f : Facts) (p : Pipeline) (x : ℕ) (o : Option ℕ) → Orderly f p → Orderly f (after_act x o p)
acted_kept f p x None h = h
acted_kept f p x (Some j) h = record {
  top = h.top;
  line = settled_lined p.writer.target_cut h.top (length p.numbering) p.announcements (with_waiting_list x j p.merge) (record { sets_climb = h.line.sets_climb; filled = h.line.filled; in_line = h.line.in_line });
  width = h.width;
  sends = h.sends;
  turns = h.turns;
}

-- ---- the writer

advance_by : (cut : List ℕ) (set : List Row) → IsFilled set → Climbs cut set → Advances cut (cut_after cut set)
advance_by cut [] filled h = absurd filled
advance_by cut (r ∷ rows) filled h = record {
  nowhere_below = cut_after_up cut (r ∷ rows);
  source = r.source;
  above = let up : max r.place (slice_index cut r.source) ≤ slice_index (cut_after (raised_cut cut r) rows) r.source = subst (λ z. z ≤ slice_index (cut_after (raised_cut cut r) rows) r.source) (index_here (max r.place) r.source cut h.0) (cut_after_up (raised_cut cut r) rows r.source) in omega (arith, up, h.1);
}

begin_kept : (f : Facts) (p : Pipeline) (set : List Row) → front p.merge.row_sets ≡ Some set → p.writer.phase % 2 ≡ 0 → Orderly f p → Orderly f (after_begin f (Some (cut_after p.writer.cut set)) p)
begin_kept f p set e even h =
    let s = front_is p.merge.row_sets set e in
    let rest = without_front p.merge.row_sets in
    let t = h.turns.level even in
    let cut = p.writer.cut in
    let line : Lined cut h.top (length p.numbering) p.announcements p.merge = subst (λ z. Lined z h.top (length p.numbering) p.announcements p.merge) t h.line in
    let climbs : Climbs cut (set ++ joined rest) = subst (λ z. Climbs cut (joined z)) s line.sets_climb in
    let filled : AllFilled (set ∷ rest) = subst AllFilled s line.filled in
    let base : cut_after cut (joined p.merge.row_sets) ≡ cut_after (cut_after cut set) (joined rest) = ap (λ z. cut_after cut (joined z)) s ∙ cut_after_append cut set (joined rest) in
    let long : length (cut_after cut set) ≡ length p.writer.target_cut = cut_after_length cut set ∙ sym (ap length t) in
    record {
      top = h.top;
      line = record {
        sets_climb = climbs_back cut set (joined rest) climbs;
        filled = filled.1;
        in_line = subst (λ z. InLine z h.top (length p.numbering) p.announcements p.merge.table.rows) base line.in_line;
      };
      width = long ∙ h.width;
      sends = subst (λ z. EachAt (SendsInOrder f z h.top) 0 p.sources) (sym long) h.sends;
      turns = record {
        level = λ odd. absurd (omega (arith, odd, even));
        ahead = λ odd. advance_by cut set filled.0 (climbs_front cut set (joined rest) climbs);
        chain = h.turns.chain;
      };
    }

advancing_push : (cut : List ℕ) (past : List (List ℕ)) (last next : List ℕ) → AdvanceFrom cut (past ++ last ∷ []) → Advances last next → AdvanceFrom cut ((past ++ last ∷ []) ++ next ∷ [])
advancing_push cut [] last next h a = (h.0, (a, tt))
advancing_push cut (c ∷ past) last next h a = (h.0, advancing_push c past last next h.1 a)

chain_push : (past : List (List ℕ)) (last next : List ℕ) → AllAdvance (past ++ last ∷ []) → Advances last next → AllAdvance ((past ++ last ∷ []) ++ next ∷ [])
chain_push [] last next h a = (a, tt)
chain_push (c ∷ past) last next h a = advancing_push c past last next h a

publish_kept : (f : Facts) (p : Pipeline) → p.writer.phase % 2 ≡ 1 → Orderly f p → Orderly f (record p { writer = after_publish p.writer })
publish_kept f p odd h = record {
  top = h.top;
  line = h.line;
  width = h.width;
  sends = h.sends;
  turns = record {
    level = λ e. refl;
    ahead = λ e. absurd (omega (arith, e, odd));
    chain = chain_push p.writer.earlier_cuts p.writer.cut p.writer.target_cut h.turns.chain (h.turns.ahead odd);
  };
}

change_kept : (f : Facts) (p : Pipeline) → Orderly f p → Orderly f (record p { writer = after_change p.writer })
change_kept f p h = record { top = h.top; line = h.line; width = h.width; sends = h.sends; turns = record { level = h.turns.level; ahead = h.turns.ahead; chain = h.turns.chain } }

next_kept : (f : Facts) (p : Pipeline) (e : Event) → is_enabled f p e ≡ true → Orderly f p → Orderly f (next f p e)
next_kept f p (Commit y) en h = source_kept f p y after_commit (λ U low s u. ascends_sent U low s.messages s.commit_count u) h
next_kept f p (Answer y x) en h = answer_kept f p y x (oldest_ask p y x) h
next_kept f p (Integrate y) en h = integrated_kept f p y (oldest_message p y) refl h
next_kept f p (Manage x) en h = manager_kept f (after_message f x (oldest_manager_message p x) (with_manager x without_manager_message p)) x with_list_if_answered (managed_kept f x (oldest_manager_message p x) (with_manager x without_manager_message p) (manager_kept f p x without_manager_message h))
next_kept f p Rel en h = released_kept f p (front p.announcements) refl h
next_kept f p (Act x) en h = acted_kept f p x (oldest_list p x) h
next_kept f p Begin en h =
    let both = and_parts (is_some (front p.merge.row_sets)) (eqb (p.writer.phase % 2) 0) en in
    let set = some_of (front p.merge.row_sets) both.0 in
    let cut : next_cut p ≡ Some (cut_after p.writer.cut set.0) = ap (λ o. option_and_then (λ s. Some (cut_after p.writer.cut s)) o) set.1 in
    subst (λ o. Orderly f (after_begin f o p)) (sym cut) (begin_kept f p set.0 set.1 (eqb-true (p.writer.phase % 2) 0 both.1) h)
next_kept f p Change en h = change_kept f p h
next_kept f p Publish en h = publish_kept f p (eqb-true (p.writer.phase % 2) 1 (and_parts (eqb (p.writer.phase % 2) 1) (eqb p.writer.changes_left 0) en).0) h
next_kept f p (SessionOpen s) en h = h
next_kept f p (SessionScan s x) en h = h
next_kept f p (SessionFetch s n) en h = h
next_kept f p (SessionClose s) en h = h

step_kept : (f : Facts) (p : Pipeline) (e : Event) → Orderly f p → Orderly f (step f p e)
step_kept f p e h = elim (is_done f p e) as (λ b. is_done f p e ≡ b → Orderly f (cond b (next f p e) p)) [
  | true ↦ λ d. next_kept f p e (and_parts (is_enabled f p e) (not (is_some (shortage_at f p e))) d).0 h
  | false ↦ λ d. h
] refl

pub after_kept : (f : Facts) (es : List Event) (p : Pipeline) → Orderly f p → Orderly f (after f p es)
after_kept f [] p h = h
after_kept f (e ∷ es) p h = after_kept f es (step f p e) (step_kept f p e h)

-- ---- the start

zeros_at : (n y : ℕ) → slice_index (replicate n 0) y ≡ 0
zeros_at zero y = refl
zeros_at (suc n) zero = refl
zeros_at (suc n) (suc y) = zeros_at n y

start_sends : (f : Facts) (width : ℕ) (top : List ℕ) → ((y : ℕ) → slice_index top y ≡ 0) → (n k : ℕ) → k + n ≤ width → EachAt (SendsInOrder f width top) k (replicate n (new_source f))
start_sends f width top z zero k le = tt
start_sends f width top z (suc n) k le = ((omega arith, (omega (arith, z k), λ j a b. absurd (omega (arith, a, b)))), start_sends f width top z n (suc k) (omega arith))

pub start_orderly : (f : Facts) → Orderly f (start f)
start_orderly f =
    let n = length f.transactions in
    record {
      top = zero_cut f;
      line = record { sets_climb = tt; filled = tt; in_line = record { climbs = tt; top_is = refl; rising = tt; below = tt } };
      width = length-replicate {A = ℕ} n 0 ∙ sym (length-replicate n (new_source f));
      sends = start_sends f (length (zero_cut f)) (zero_cut f) (zeros_at n) n 0 (omega (arith, length-replicate {A = ℕ} n 0));
      turns = record { level = λ e. refl; ahead = λ e. absurd (omega (arith, e)); chain = tt };
    }

-- ---- what a reader of the cuts sees

get_past : {A : Type 0} (xs : List A) (y : ℕ) → (slice_get xs y ≡ None → length xs ≤ y)
get_past [] y h = omega arith
get_past (x ∷ xs) zero h = absurd (cc)
get_past (x ∷ xs) (suc y) h = omega (arith, get_past xs y h)

top_committed : (f : Facts) (p : Pipeline) (h : Orderly f p) (y : ℕ) → slice_index h.top y ≤ committed_at p y
top_committed f p h y = go (slice_get p.sources y) refl
  where
    long : length h.top ≡ length p.writer.target_cut
    long = sym (ap length h.line.in_line.top_is) ∙ (cut_after_length (cut_after p.writer.target_cut (joined p.merge.row_sets)) (p.merge.table.rows ++ p.announcements) ∙ cut_after_length p.writer.target_cut (joined p.merge.row_sets))

    go : (o : Option Source) → slice_get p.sources y ≡ o → slice_index h.top y ≤ commit_count_of o
    go None e = omega (arith, get_or_past h.top y 0 (omega (arith, get_past p.sources y e, long, h.width)))
    go (Some s) e = ascends_le (IsUnconcerned f y) (slice_index h.top y) s.messages s.commit_count (each_at (SendsInOrder f (length p.writer.target_cut) h.top) 0 y y p.sources s (omega arith) e h.sends).1

target_top : (f : Facts) (p : Pipeline) (h : Orderly f p) (y : ℕ) → slice_index p.writer.target_cut y ≤ slice_index h.top y
target_top f p h y =
    let base = cut_after p.writer.target_cut (joined p.merge.row_sets) in
    omega (arith, cut_after_up p.writer.target_cut (joined p.merge.row_sets) y, cut_after_up base (p.merge.table.rows ++ p.announcements) y, ap (λ z. slice_index z y) h.line.in_line.top_is)

cut_target : (w : Writer) (t : Turns w) (y : ℕ) → slice_index w.cut y ≤ slice_index w.target_cut y
cut_target w t y = ⊎_elim
    (λ e. omega (arith, ap (λ z. slice_index z y) (t.level e)))
    (λ e. (t.ahead e).nowhere_below y)
    (parity w.phase)
  where
    parity : (n : ℕ) → (n % 2 ≡ 0) ⊎ (n % 2 ≡ 1)
    parity n = ⊎_elim (λ lt. inl (omega arith)) (λ le. inr (omega arith)) (cases_lt (n % 2) 1)

module _ (bound : ℕ → ℕ) where
  abbrev pub Within : List ℕ → Type 0
  Within cut = (y : ℕ) → slice_index cut y ≤ bound y

  advancing_within : (cut : List ℕ) (past : List (List ℕ)) (last : List ℕ) → Within last → AdvanceFrom cut (past ++ last ∷ []) → Within cut × AllByRecursion Within (past ++ last ∷ [])
  advancing_within cut [] last w h = (λ y. omega (arith, w y, h.0.nowhere_below y), (w, tt))
  advancing_within cut (c ∷ past) last w h =
      let more = advancing_within c past last w h.1 in
      (λ y. omega (arith, more.0 y, h.0.nowhere_below y), more)

  all_within : (past : List (List ℕ)) (last : List ℕ) → Within last → AllAdvance (past ++ last ∷ []) → AllByRecursion Within (past ++ last ∷ [])
  all_within [] last w h = (w, tt)
  all_within (c ∷ past) last w h = advancing_within c past last w h

pub advance : CutsAdvance
advance f es =
    let p = after f (start f) es in
    let h = after_kept f es (start f) (start_orderly f) in
    record {
      advance = h.turns.chain;
      within_commits = all_within (committed_at p) p.writer.earlier_cuts p.writer.cut (λ y. omega (arith, cut_target p.writer h.turns y, target_top f p h y, top_committed f p h y)) h.turns.chain;
    }

-- a place above the top, of a source with no message on its way, is unconcerned
pub above_top : (f : Facts) (p : Pipeline) (h : Orderly f p) (y k : ℕ) (s : Source) → slice_get p.sources y ≡ Some s → s.messages ≡ [] → slice_index h.top y < k → k ≤ s.commit_count → IsUnconcerned f y k
above_top f p h y k s at empty lt le =
    let v = (each_at (SendsInOrder f (length p.writer.target_cut) h.top) 0 y y p.sources s (omega arith) at h.sends).1 in
    let w : Ascends (IsUnconcerned f y) (slice_index h.top y) [] s.commit_count = subst (λ ms. Ascends (IsUnconcerned f y) (slice_index h.top y) ms s.commit_count) empty v in
    w.1 k lt (omega (arith, le))

-- where no row is on its way and no transaction is active, the top is the current cut
pub top_is_cut : (f : Facts) (p : Pipeline) (h : Orderly f p) → p.merge.row_sets ≡ [] → p.merge.table.rows ≡ [] → p.announcements ≡ [] → p.writer.phase % 2 ≡ 0 → h.top ≡ p.writer.cut
top_is_cut f p h no_sets no_rows none_coming even =
    sym h.line.in_line.top_is
    ∙ (ap (λ z. cut_after (cut_after p.writer.target_cut (joined z)) (p.merge.table.rows ++ p.announcements)) no_sets
    ∙ (ap (λ z. cut_after p.writer.target_cut (z ++ p.announcements)) no_rows
    ∙ (ap (λ z. cut_after p.writer.target_cut z) none_coming ∙ h.turns.level even)))
