-- The lists of the views stay in their lines after each event of the loaded pipeline.
--
-- `manage_moved`, `integrate_moved`, `rel_moved`, `act_moved`, `begun_moved`: each event keeps that the lists of each view are in their line behind the row sets (`Moved`); `rel_order`, `act_order`: each row set that it takes takes the first lists of each view.
--
-- The idea: the machine says which row sets leave, and the merge's lists go with them. A sweep of the table takes one closure after another, each of which takes the first lists.
--
-- Two lemmas carry it: `settled_moved` (the merge settles) and `begun_number` (the last list of a transaction is that of its row set).
use Rattle.std.proofs.Common.{◌≡◌, ℕ, suc, ◌<◌, ◌≤◌, true, false, not, cond, ltb, List, [], ◌∷◌, ◌++◌, length, drop, Some, refl, sym, ap, subst, ◌∙◌, arith, inl, append_assoc, append-nil}
use Rattle.std.specs.Prelude.{slice_get, map, filter, fold}
use Rattle.std.proofs.lemmas.List.{drop_all, drop_at, length-map}
use Rattle.whips_lists.proofs.InList.{In}
use Rattle.whips_lists.specs.Lists.{changed_at, front, without_front}
use Rattle.whips_lists.proofs.Lists.{front_is, length_changed}
use Rattle.whips_lists.proofs.ByPlace.{in_right, changed_twice}
use Rattle.whips_flow.specs.Facts.{Facts}
use Rattle.whips_flow.specs.Painted.{Row, red}
use Rattle.whips_flow.specs.State.{NumberedTransaction, QueryStep, SourceMessage, sent_transaction, sent_answer, ManagerMessage, update, reply, Manager, Merge, Source, Pipeline, with_manager, with_source}
use Rattle.whips_flow.specs.Effects.{after_integrate, after_message, without_message, without_manager_message, with_transaction, with_next_step, without_query, with_list_if_answered, without_list, with_announced_row, with_waiting_list, first_steps, next_step, with_step_asked, after_rel as machine_rel, after_act as machine_act}
use Rattle.whips_flow.specs.Settling.{settled_merge}
use Rattle.whips_cut_laws.proofs.Lined.{joined}
use Rattle.whips_settled_laws.proofs.Accounts.{IsOpen, asks_are, asked_one, RisingRows, Accounted}
use Rattle.whips_actions.specs.declared.action.ActionList.{ActionList}
use Rattle.whips_facts.specs.Values.{last_list}
use Rattle.whips_merge.specs.declared.lists.Transaction.{Transaction}
use Rattle.whips_merge.specs.Merging.{MergeState, covers_any, with_transaction as with_set, with_merge, with_list}
use Rattle.whips_version_laws.proofs.Kept.{Kept, rising_latest, above_announced}
use Rattle.whips_version_laws.proofs.Parted.{Parted, came_parted}
use Rattle.whips_contents.specs.Contents.{Announcement, LoadedPipeline}
use Rattle.whips_contents.specs.Events.{row_announced, after_announcement, after_list}
use Rattle.whips_contents.specs.Tokens.{tokens}
use Rattle.whips_list_laws.specs.Merged.{of_view, last_upto, AreOwnLists, TakesInOrder, AllTakeFirst, begun_with}
use Rattle.whips_line_laws.proofs.Sweeps.{Lines, Ties, ties_append, Sweeps, settled_sweeps}
use Rattle.whips_line_laws.proofs.Coming.{coming_in, Lined, update_lines, reply_lines, answered_lines, numbered_lines, came_lines, acted_lines}

-- The lists of each view are in their line behind the row sets, of which the transactions that wait are the last; the numbers are those of the last lists of the others.
pub record Moved (p : Pipeline) (m : MergeState) (numbers : ℕ → ℕ) (sets : List (List Row)) : Type 0 where
  pub lined : Lined sets p m.lists
  pub begun : List (List Row)
  pub sets_are : sets ≡ begun ++ p.merge.row_sets
  pub ties : (x : ℕ) → x < length m.lists → Ties x begun p.merge.row_sets m.transactions
  pub numbers_are : (x : ℕ) → x < length m.lists → numbers x ≡ last_list x begun

folded_long : (new : List (List Row)) (m : MergeState) → length (fold with_set m new).lists ≡ length m.lists
folded_long [] m = refl
folded_long (set ∷ new) m = folded_long new (with_set m set) ∙ length-map m.lists (filter (λ l. not (covers_any set l)))

module _ (f : Facts) (p : Pipeline) (mem : MergeState) (numbers : ℕ → ℕ) (sets : List (List Row)) (h : Moved p mem numbers sets) where
  -- the merge stays
  pub quiet : (q : Pipeline) → q.merge ≡ p.merge → Lines sets p.merge q.announcements mem.lists (coming_in q.managers) → Moved q mem numbers (sets ++ drop (length p.merge.row_sets) q.merge.row_sets)
  quiet q e lines =
      let none : sets ++ drop (length p.merge.row_sets) q.merge.row_sets ≡ sets = ap (λ (z : Merge). sets ++ drop (length p.merge.row_sets) z.row_sets) e ∙ (ap (λ z. sets ++ z) (drop_all (length p.merge.row_sets) p.merge.row_sets (omega arith)) ∙ append-nil sets) in
      subst (Moved q mem numbers) (sym none) (record {
        lined = subst (λ z. Lines sets z q.announcements mem.lists (coming_in q.managers)) (sym e) lines;
        begun = h.begun;
        sets_are = h.sets_are ∙ ap (λ (z : Merge). h.begun ++ z.row_sets) (sym e);
        ties = λ x lt. subst (λ (z : Merge). Ties x h.begun z.row_sets mem.transactions) (sym e) (h.ties x lt);
        numbers_are = h.numbers_are;
      })

  -- the merge settles, with these lists
  module _ (m : Merge) (k : MergeState) (more : List Row) (managers : List Manager) (same_sets : m.row_sets ≡ p.merge.row_sets) (same_merge : k.merge.row_sets ≡ p.merge.row_sets) (same_transactions : k.transactions ≡ mem.transactions) (same_long : length k.lists ≡ length mem.lists)
      (own : AreOwnLists 0 k.lists) (above : (q : Row) → In q more → m.table.last_announced < q.number) (parted : Parted f p.numbering more m.table sets) (lines : Lines sets m more k.lists (coming_in managers)) where
    swept : Sweeps f p.numbering more (coming_in managers) m (settled_merge m) sets (record k { merge = settled_merge m })
    swept = settled_sweeps f p.numbering more (coming_in managers) m sets (record k { merge = settled_merge m }) above parted own lines

    new_are : drop (length p.merge.row_sets) (settled_merge m).row_sets ≡ swept.new
    new_are = ap (drop (length p.merge.row_sets)) (swept.row_sets ∙ ap (λ z. z ++ swept.new) same_sets) ∙ drop_at p.merge.row_sets swept.new (length p.merge.row_sets) refl

    new_here : drop (length k.merge.row_sets) (settled_merge m).row_sets ≡ swept.new
    new_here = ap (λ z. drop (length z) (settled_merge m).row_sets) same_merge ∙ new_are

    pub in_order : TakesInOrder (settled_merge m) k
    in_order = subst (AllTakeFirst (record k { merge = settled_merge m })) (sym new_here) swept.first

    pub settled_moved : Moved (record p { managers = managers; announcements = more; merge = settled_merge m }) (with_merge (settled_merge m) k) numbers (sets ++ drop (length p.merge.row_sets) (settled_merge m).row_sets)
    settled_moved = subst (λ z. Moved (record p { managers = managers; announcements = more; merge = settled_merge m }) (with_merge (settled_merge m) k) numbers (sets ++ z)) (sym new_are)
        (subst (λ z. Moved (record p { managers = managers; announcements = more; merge = settled_merge m }) (fold with_set (record k { merge = settled_merge m }) z) numbers (sets ++ swept.new)) (sym new_here) (record {
          lined = swept.lines;
          begun = h.begun;
          sets_are = ap (λ z. z ++ swept.new) h.sets_are ∙ (append_assoc h.begun p.merge.row_sets swept.new ∙ ap (λ z. h.begun ++ z) (sym (swept.row_sets ∙ ap (λ z. z ++ swept.new) same_sets)));
          ties = λ x lt.
              let within : x < length mem.lists = omega (arith, lt, folded_long swept.new (record k { merge = settled_merge m }), same_long) in
              subst (λ z. Ties x h.begun z (fold with_set (record k { merge = settled_merge m }) swept.new).transactions) (sym (swept.row_sets ∙ ap (λ z. z ++ swept.new) same_sets))
              (subst (λ z. Ties x h.begun (p.merge.row_sets ++ swept.new) z) (sym (swept.are ∙ ap (λ z. z ++ swept.transactions) same_transactions))
              (ties_append x h.begun p.merge.row_sets swept.new mem.transactions swept.transactions (h.ties x within) (subst (λ z. Ties x z swept.new swept.transactions) h.sets_are (swept.ties x (omega (arith, within, same_long))))));
          numbers_are = λ x lt. h.numbers_are x (omega (arith, lt, folded_long swept.new (record k { merge = settled_merge m }), same_long));
        }))

  -- the oldest transaction is begun
  pub begun_number : (t : Transaction) (set : List Row) → front mem.transactions ≡ Some t → front p.merge.row_sets ≡ Some set → (x : ℕ) → x < length mem.lists → last_upto (numbers x) (of_view x t.lists) ≡ last_list x (h.begun ++ set ∷ [])
  begun_number t set first first_set x lt = ap (λ n. last_upto n (of_view x t.lists)) (h.numbers_are x lt) ∙ (subst (λ z. Ties x h.begun z (t ∷ without_front mem.transactions)) (front_is p.merge.row_sets set first_set) (subst (λ z. Ties x h.begun p.merge.row_sets z) (front_is mem.transactions t first) (h.ties x lt))).0

  pub begun_moved : (t : Transaction) (set : List Row) (q : Pipeline) → front mem.transactions ≡ Some t → front p.merge.row_sets ≡ Some set → q.merge ≡ record (p.merge) { row_sets = without_front p.merge.row_sets } → q.announcements ≡ p.announcements → q.managers ≡ p.managers
      → (k : MergeState) → k.lists ≡ mem.lists → k.transactions ≡ without_front mem.transactions → Moved q k (begun_with (Some t) numbers) sets
  begun_moved t set q first first_set e ea em k el et = record {
    lined = subst (λ z. Lines sets z q.announcements k.lists (coming_in q.managers)) (sym e) (subst (λ z. Lines sets (record (p.merge) { row_sets = without_front p.merge.row_sets }) z k.lists (coming_in q.managers)) (sym ea) (subst (λ z. Lines sets (record (p.merge) { row_sets = without_front p.merge.row_sets }) p.announcements k.lists (coming_in z)) (sym em) (subst (λ z. Lines sets (record (p.merge) { row_sets = without_front p.merge.row_sets }) p.announcements z (coming_in p.managers)) (sym el) (record { long = h.lined.long; at = h.lined.at }))));
    begun = h.begun ++ set ∷ [];
    sets_are = h.sets_are ∙ (ap (λ z. h.begun ++ z) (front_is p.merge.row_sets set first_set) ∙ (sym (append_assoc h.begun (set ∷ []) (without_front p.merge.row_sets)) ∙ ap (λ (z : Merge). (h.begun ++ set ∷ []) ++ z.row_sets) (sym e)));
    ties = λ x lt. subst (λ (z : Merge). Ties x (h.begun ++ set ∷ []) z.row_sets k.transactions) (sym e) (subst (λ z. Ties x (h.begun ++ set ∷ []) (without_front p.merge.row_sets) z) (sym et) (tie x (omega (arith, lt, ap (λ z. length z) el))).1);
    numbers_are = λ x lt. let within : x < length mem.lists = omega (arith, lt, ap (λ z. length z) el) in ap (λ n. last_upto n (of_view x t.lists)) (h.numbers_are x within) ∙ (tie x within).0;
  }
    where
      tie : (x : ℕ) → x < length mem.lists → Ties x h.begun (set ∷ without_front p.merge.row_sets) (t ∷ without_front mem.transactions)
      tie x lt = subst (λ z. Ties x h.begun z (t ∷ without_front mem.transactions)) (front_is p.merge.row_sets set first_set) (subst (λ z. Ties x h.begun p.merge.row_sets z) (front_is mem.transactions t first) (h.ties x lt))

-- ---- manage, on the machine

managed_is : (f : Facts) (p : Pipeline) (x : ℕ) (n : NumberedTransaction) → (ss : List Source) × (with_manager x with_list_if_answered (after_message f x (Some (update n)) (with_manager x without_manager_message p)) ≡ record p { sources = ss; managers = changed_at x (λ m. with_list_if_answered (with_transaction f x n (without_manager_message m))) p.managers })
managed_is f p x n =
    let one = with_manager x (with_transaction f x n) (with_manager x without_manager_message p) in
    let a = asks_are f x (first_steps f x n) one in (
      _,
      ap (with_manager x with_list_if_answered) a
          ∙ ap (λ ms. record p { sources = fold (asked_one f x) p.sources (first_steps f x n); managers = ms })
          (ap (changed_at x with_list_if_answered) (changed_twice (with_transaction f x n) without_manager_message x p.managers) ∙ changed_twice with_list_if_answered (λ m. with_transaction f x n (without_manager_message m)) x p.managers),
    )

module _ (f : Facts) (n : ℕ) (l : LoadedPipeline) (numbers : ℕ → ℕ) (sets : List (List Row)) (h : Moved (tokens n l) l.merge numbers sets) (kept : Kept f (tokens n l) sets) (accounted : Accounted f (tokens n l)) (lists_long : length l.merge.lists ≡ n) (slots_long : length f.slots ≡ n) (own : AreOwnLists 0 l.merge.lists)
    (opened : (x : ℕ) (m : Manager) (t : QueryStep) → slice_get (tokens n l).managers x ≡ Some m → front m.messages ≡ Some (reply t) → IsOpen m.open_steps) where
  abbrev P : Pipeline
  P = tokens n l

  announced_low : l.merge.merge.table.last_announced ≤ length l.numbering
  announced_low = omega (arith, rising_latest l.merge.merge.table.last_announced (tokens n l).announcements accounted.rising, accounted.latest_low)

  pub manage_moved : (x : ℕ) (m : Manager) (o : ManagerMessage) → slice_get P.managers x ≡ Some m → front m.messages ≡ Some o → let q = with_manager x with_list_if_answered (after_message f x (Some o) (with_manager x without_manager_message (tokens n l))) in Moved q l.merge numbers (sets ++ drop (length (tokens n l).merge.row_sets) q.merge.row_sets)
  manage_moved x m (update k) at first =
      let e = managed_is f P x k in
      subst (λ q. Moved q l.merge numbers (sets ++ drop (length (tokens n l).merge.row_sets) q.merge.row_sets)) (sym e.1)
      (quiet f P l.merge numbers sets h (record P { sources = e.0; managers = changed_at x (λ m. with_list_if_answered (with_transaction f x k (without_manager_message m))) P.managers }) refl (update_lines f P sets l.merge.lists h.lined x k m at first))
  manage_moved x m (reply t) at first = elim (ltb t.step (length (f.asked_sources x t.origin))) as (λ b. let q = with_manager x with_list_if_answered (cond b (with_step_asked f x (with_manager x (with_next_step t) (with_manager x without_manager_message (tokens n l))) (next_step t)) (with_manager x (without_query t) (with_manager x without_manager_message (tokens n l)))) in Moved q l.merge numbers (sets ++ drop (length (tokens n l).merge.row_sets) q.merge.row_sets)) [
    | true ↦
        let q = with_manager x with_list_if_answered (with_step_asked f x (with_manager x (with_next_step t) (with_manager x without_manager_message (tokens n l))) (next_step t)) in
        quiet f P l.merge numbers sets h q refl (subst (λ ms. Lines sets P.merge P.announcements l.merge.lists (coming_in ms)) (sym (ap (changed_at x with_list_if_answered) (changed_twice (with_next_step t) without_manager_message x P.managers) ∙ changed_twice with_list_if_answered (λ m. with_next_step t (without_manager_message m)) x P.managers)) (reply_lines f P sets l.merge.lists h.lined x t m (with_next_step t) at first (opened x m t at first) (λ w. (refl, refl, refl))))
    | false ↦
        let q = with_manager x with_list_if_answered (with_manager x (without_query t) (with_manager x without_manager_message (tokens n l))) in
        quiet f P l.merge numbers sets h q refl (subst (λ ms. Lines sets P.merge P.announcements l.merge.lists (coming_in ms)) (sym (ap (changed_at x with_list_if_answered) (changed_twice (without_query t) without_manager_message x P.managers) ∙ changed_twice with_list_if_answered (λ m. without_query t (without_manager_message m)) x P.managers)) (reply_lines f P sets l.merge.lists h.lined x t m (without_query t) at first (opened x m t at first) (λ w. (refl, refl, refl))))
  ]

  pub integrate_moved : (y : ℕ) (m : SourceMessage) → let q = after_integrate f y (Some m) (with_source y without_message (tokens n l)) in Moved q l.merge numbers (sets ++ drop (length (tokens n l).merge.row_sets) q.merge.row_sets)
  integrate_moved y (sent_transaction k) =
      let t : NumberedTransaction = record { number = suc (length l.numbering); source = y; place = k } in
      quiet f P l.merge numbers sets h (after_integrate f y (Some (sent_transaction k)) (with_source y without_message P)) refl (numbered_lines f P sets l.merge.lists h.lined kept.counted.numbered kept.parted announced_low t refl (lists_long ∙ sym slots_long))
  integrate_moved y (sent_answer x t) = quiet f P l.merge numbers sets h (after_integrate f y (Some (sent_answer x t)) (with_source y without_message P)) refl (answered_lines f P sets l.merge.lists h.lined x t)

  -- ---- rel, act

  module _ (a : Announcement) (first : front l.announcements ≡ Some a) where
    abbrev r : Row
    r = row_announced (length l.merge.lists) a

    rows_are : (tokens n l).announcements ≡ row_announced (length l.merge.lists) a ∷ map (row_announced n) (without_front l.announcements)
    rows_are = ap (map (row_announced n)) (front_is l.announcements a first) ∙ ap (λ k. row_announced k a ∷ map (row_announced n) (without_front l.announcements)) (sym lists_long)

    rising : RisingRows l.merge.merge.table.last_announced (row_announced (length l.merge.lists) a ∷ map (row_announced n) (without_front l.announcements))
    rising = subst (RisingRows l.merge.merge.table.last_announced) rows_are accounted.rising

    unpainted : (x j : ℕ) → slice_get r.entries x ≡ Some (red j) → ⊥
    unpainted x j e =
        let b = (kept.parted.are_of r (in_right r (joined sets) (l.merge.merge.table.rows ++ P.announcements) (in_right r l.merge.merge.table.rows P.announcements (subst (λ z. In r z) (sym rows_are) (inl refl))))).reds x j e in
        omega (arith, b.0, b.1, rising.0)

    came : Lines sets (with_announced_row (row_announced (length l.merge.lists) a) l.merge.merge) (map (row_announced n) (without_front l.announcements)) l.merge.lists (coming_in (tokens n l).managers)
    came = came_lines f P sets l.merge.lists h.lined r (map (row_announced n) (without_front l.announcements)) rows_are unpainted

    came_part : Parted f l.numbering (map (row_announced n) (without_front l.announcements)) (with_announced_row (row_announced (length l.merge.lists) a) l.merge.merge).table sets
    came_part = came_parted f l.numbering r (map (row_announced n) (without_front l.announcements)) l.merge.merge.table sets rising.0 (subst (λ z. Parted f l.numbering z l.merge.merge.table sets) rows_are kept.parted)

    above : (q : Row) → In q (map (row_announced n) (without_front l.announcements)) → r.number < q.number
    above q i = above_announced r.number (map (row_announced n) (without_front l.announcements)) q rising.1 i

    pub rel_order : TakesInOrder (settled_merge (with_announced_row (row_announced (length l.merge.lists) a) l.merge.merge)) l.merge
    rel_order = in_order f P l.merge numbers sets h (with_announced_row r l.merge.merge) l.merge (map (row_announced n) (without_front l.announcements)) P.managers refl refl refl refl own above came_part came

    pub rel_moved : Moved (machine_rel (Some (row_announced (length l.merge.lists) a)) (tokens n l)) (after_announcement (Some a) l).merge numbers (sets ++ drop (length (tokens n l).merge.row_sets) (machine_rel (Some (row_announced (length l.merge.lists) a)) (tokens n l)).merge.row_sets)
    rel_moved =
        let w = settled_moved f P l.merge numbers sets h (with_announced_row r l.merge.merge) l.merge (map (row_announced n) (without_front l.announcements)) P.managers refl refl refl refl own above came_part came in
        subst (λ z. Moved (record P { announcements = z; merge = settled_merge (with_announced_row r l.merge.merge) }) (after_announcement (Some a) l).merge numbers (sets ++ drop (length P.merge.row_sets) (settled_merge (with_announced_row r l.merge.merge)).row_sets)) (sym (ap without_front rows_are)) w

  module _ (x : ℕ) (a : ActionList) (m : Manager) (view_is : a.view ≡ x) (at : slice_get (tokens n l).managers x ≡ Some m) (first : front m.lists ≡ Some a.upto) (own_after : AreOwnLists 0 (with_list a l.merge).lists) where
    acted : Lines sets (with_waiting_list a.view a.upto l.merge.merge) (tokens n l).announcements (with_list a l.merge).lists (coming_in (changed_at x without_list (tokens n l).managers))
    acted = subst (λ z. Lines sets (with_waiting_list z a.upto l.merge.merge) (tokens n l).announcements (changed_at z (λ ls. ls ++ a ∷ []) l.merge.lists) (coming_in (changed_at x without_list (tokens n l).managers))) (sym view_is) (acted_lines f P sets l.merge.lists h.lined x a m view_is at first)

    act_above : (q : Row) → In q (tokens n l).announcements → l.merge.merge.table.last_announced < q.number
    act_above q i = above_announced l.merge.merge.table.last_announced (tokens n l).announcements q accounted.rising i

    pub act_order : TakesInOrder (settled_merge (with_waiting_list a.view a.upto l.merge.merge)) (with_list a l.merge)
    act_order = in_order f P l.merge numbers sets h (with_waiting_list a.view a.upto l.merge.merge) (with_list a l.merge) (tokens n l).announcements (changed_at x without_list (tokens n l).managers) refl refl refl (length_changed (λ ls. ls ++ a ∷ []) a.view l.merge.lists) own_after act_above kept.parted acted

    pub act_moved : Moved (machine_act x (Some a.upto) (tokens n l)) (after_list x (Some a) l).merge numbers (sets ++ drop (length (tokens n l).merge.row_sets) (machine_act x (Some a.upto) (tokens n l)).merge.row_sets)
    act_moved = subst (λ z. Moved (record P { managers = changed_at x without_list P.managers; merge = settled_merge (with_waiting_list z a.upto l.merge.merge) }) (after_list x (Some a) l).merge numbers (sets ++ drop (length P.merge.row_sets) (settled_merge (with_waiting_list z a.upto l.merge.merge)).row_sets)) view_is
        (settled_moved f P l.merge numbers sets h (with_waiting_list a.view a.upto l.merge.merge) (with_list a l.merge) (tokens n l).announcements (changed_at x without_list (tokens n l).managers) refl refl refl (length_changed (λ ls. ls ++ a ∷ []) a.view l.merge.lists) own_after act_above kept.parted acted)
