-- What each event does to the row sets that wait and to their transactions.
use Rattle.std.proofs.Common.{◌≡◌, ℕ, zero, suc, ◌%◌, ◌==◌, ◌&&◌, true, false, not, cond, List, [], ◌∷◌, ◌++◌, length, drop, Option, Some, None, slice_get, refl, sym, ap, subst, ◌∙◌, arith, eqb-true, append_assoc, append-nil}
use Rattle.std.specs.Prelude.{fold, filter, is_some}
use Rattle.std.proofs.lemmas.Bool.{and_parts}
use Rattle.std.proofs.lemmas.List.{length-map}
use Rattle.whips_lists.proofs.Lists.{front_is, length_changed}
use Rattle.whips_lists.specs.Lists.{front, without_front}
use Rattle.whips_flow.specs.Painted.{Row, closure, lowest_ready, rows_with}
use Rattle.whips_flow.specs.Cuts.{cut_after}
use Rattle.whips_flow.specs.State.{Merge}
use Rattle.whips_flow.specs.Settling.{painted_merge, with_set_taken, with_ready_taken, settled_merge}
use Rattle.whips_flow.specs.Effects.{with_announced_row, with_waiting_list}
use Rattle.whips_flow.specs.declared.event.Event.{Event}
use Rattle.whips_flow.specs.declared.event.Event.TheVariants.{Commit, Answer, Integrate, Manage, Rel, Act, Begin, Change, Publish, SessionOpen, SessionScan, SessionFetch, SessionClose}
use Rattle.whips_actions.specs.declared.action.ActionList.{ActionList}
use Rattle.whips_setup.specs.Setups.{SetupData}
use Rattle.whips_merge.specs.declared.lists.Transaction.{Transaction}
use Rattle.whips_merge.specs.Merging.{MergeState, with_transaction, with_merge, with_list, covers_any}
use Rattle.whips_order.specs.declared.message.Message.{Message}
use Rattle.whips_order.specs.declared.message.Message.TheVariants.{Update, Reply as SentReply}
use Rattle.whips_contents.specs.Contents.{ManagerInput, Announcement, LoadedManager, LoadedPipeline}
use Rattle.whips_contents.specs.Events.{row_announced, after_integrate, after_input, after_manage, after_announcement, after_list, after_begin, oldest_message, oldest_list, is_enabled_loaded, is_full_for, next_loaded, step_loaded}
use Rattle.whips_token_laws.specs.Ties.{SetsFit, FitsMerge}

-- settling only adds row sets
ready_adds : (n : ℕ) (m : Merge) → (more : List (List Row)) × ((with_ready_taken n m).row_sets ≡ m.row_sets ++ more)
ready_adds zero m = ([], sym (append-nil m.row_sets))
ready_adds (suc n) m = elim (lowest_ready m.table.rows) as (λ o. (more : List (List Row)) × ((elim o as (λ _. Merge) [ None ↦ m | Some r ↦ with_ready_taken n (with_set_taken (closure m.table.rows r.number) m) ]).row_sets ≡ m.row_sets ++ more)) [
  | None ↦ ([], sym (append-nil m.row_sets))
  | Some r ↦
      let ih = ready_adds n (with_set_taken (closure m.table.rows r.number) m) in
      (rows_with (closure m.table.rows r.number) m.table.rows ∷ ih.0, ih.1 ∙ append_assoc m.row_sets (rows_with (closure m.table.rows r.number) m.table.rows ∷ []) ih.0)
]

settled_adds : (m : Merge) → (more : List (List Row)) × ((settled_merge m).row_sets ≡ m.row_sets ++ more)
settled_adds m = ready_adds (length m.table.rows) (painted_merge m)

dropped_is : {A : Type 0} (xs ys : List A) → drop (length xs) (xs ++ ys) ≡ ys
dropped_is [] ys = refl
dropped_is (x ∷ xs) ys = dropped_is xs ys

-- a row set that has become a transaction
set_fits : (cut : List ℕ) (sets : List (List Row)) (ts : List Transaction) (last : List ℕ) (set : List Row) (t : Transaction) → t.cut ≡ cut_after last set → SetsFit cut sets ts last → SetsFit cut (sets ++ set ∷ []) (ts ++ t ∷ []) (cut_after last set)
set_fits cut [] [] last set t e h = (e ∙ ap (λ c. cut_after c set) (sym h), e)
set_fits cut [] (u ∷ ts) last set t e h = absurd h
set_fits cut (r ∷ sets) [] last set t e h = absurd h
set_fits cut (r ∷ sets) (u ∷ ts) last set t e h = (h.0, set_fits u.cut sets ts last set t e h.1)

sets_made : (cut : List ℕ) (more sets : List (List Row)) (m : MergeState) → SetsFit cut sets m.transactions m.cut → SetsFit cut (sets ++ more) (fold with_transaction m more).transactions (fold with_transaction m more).cut
sets_made cut [] sets m h = subst (λ l. SetsFit cut l m.transactions m.cut) (sym (append-nil sets)) h
sets_made cut (set ∷ more) sets m h = subst (λ l. SetsFit cut l (fold with_transaction (with_transaction m set) more).transactions (fold with_transaction (with_transaction m set) more).cut) (append_assoc sets (set ∷ []) more)
    (sets_made cut more (sets ++ set ∷ []) (with_transaction m set) (set_fits cut sets m.transactions m.cut set _ refl h))

lists_made : (more : List (List Row)) (m : MergeState) → length (fold with_transaction m more).lists ≡ length m.lists
lists_made [] m = refl
lists_made (set ∷ more) m = lists_made more (with_transaction m set) ∙ length-map m.lists (filter (λ l. not (covers_any set l)))

merge_made : (more : List (List Row)) (m : MergeState) → (fold with_transaction m more).merge ≡ m.merge
merge_made [] m = refl
merge_made (set ∷ more) m = merge_made more (with_transaction m set)

-- the merge once the machine's part has settled
settled_fits : (cut : List ℕ) (g : Merge) (m : MergeState) → g.row_sets ≡ m.merge.row_sets → SetsFit cut m.merge.row_sets m.transactions m.cut
    → SetsFit cut (with_merge (settled_merge g) m).merge.row_sets (with_merge (settled_merge g) m).transactions (with_merge (settled_merge g) m).cut
settled_fits cut g m same h =
    let more = settled_adds g in
    let is : (settled_merge g).row_sets ≡ m.merge.row_sets ++ more.0 = more.1 ∙ ap (λ l. l ++ more.0) same in
    let new : drop (length m.merge.row_sets) (settled_merge g).row_sets ≡ more.0 = ap (drop (length m.merge.row_sets)) is ∙ dropped_is m.merge.row_sets more.0 in
    subst (λ l. SetsFit cut (fold with_transaction (record m { merge = settled_merge g }) l).merge.row_sets (fold with_transaction (record m { merge = settled_merge g }) l).transactions (fold with_transaction (record m { merge = settled_merge g }) l).cut) (sym new)
    (subst (λ l. SetsFit cut l (fold with_transaction (record m { merge = settled_merge g }) more.0).transactions (fold with_transaction (record m { merge = settled_merge g }) more.0).cut) (sym (ap (λ (g : Merge). g.row_sets) (merge_made more.0 (record m { merge = settled_merge g })) ∙ is))
    (sets_made cut more.0 m.merge.row_sets (record m { merge = settled_merge g }) h))

module _ (s : SetupData) (l : LoadedPipeline) (h : FitsMerge s l) where
  integrated : (y : ℕ) (o : Option Message) → FitsMerge s (after_integrate s y o l)
  integrated y None = h
  integrated y (Some (Update t)) = record { lists_long = h.lists_long; sets = h.sets; level = h.level }
  integrated y (Some (SentReply r)) = record { lists_long = h.lists_long; sets = h.sets; level = h.level }

  managed : (x : ℕ) (o : Option LoadedManager) → FitsMerge s (after_manage x o l)
  managed x None = h
  managed x (Some m) = go (front m.messages)
    where
      go : (i : Option ManagerInput) → FitsMerge s (after_input x m i l)
      go None = h
      go (Some i) = record { lists_long = h.lists_long; sets = h.sets; level = h.level }

  released : (o : Option Announcement) → FitsMerge s (after_announcement o l)
  released None = h
  released (Some a) =
      let g = with_announced_row (row_announced (length l.merge.lists) a) l.merge.merge in
      record {
        lists_long = lists_made (drop (length l.merge.merge.row_sets) (settled_merge g).row_sets) (record (l.merge) { merge = settled_merge g }) ∙ h.lists_long;
        sets = settled_fits l.target_cut g l.merge refl h.sets;
        level = h.level;
      }

  acted : (x : ℕ) (o : Option ActionList) → FitsMerge s (after_list x o l)
  acted x None = h
  acted x (Some list) =
      let g = with_waiting_list list.view list.upto l.merge.merge in
      record {
        lists_long = lists_made (drop (length l.merge.merge.row_sets) (settled_merge g).row_sets) (record (with_list list l.merge) { merge = settled_merge g }) ∙ (length_changed (λ ls. ls ++ list ∷ []) list.view l.merge.lists ∙ h.lists_long);
        sets = settled_fits l.target_cut g (with_list list l.merge) refl h.sets;
        level = h.level;
      }

  -- the oldest transaction and its row set
  pub first_set : (t : Transaction) → front l.merge.transactions ≡ Some t → (set : List Row) × (front l.merge.merge.row_sets ≡ Some set) × (t.cut ≡ cut_after l.target_cut set) × SetsFit t.cut (without_front l.merge.merge.row_sets) (without_front l.merge.transactions) l.merge.cut
  first_set t first = go l.merge.merge.row_sets refl (subst (λ ts. SetsFit l.target_cut l.merge.merge.row_sets ts l.merge.cut) (front_is l.merge.transactions t first) h.sets)
    where
      go : (sets : List (List Row)) → l.merge.merge.row_sets ≡ sets → SetsFit l.target_cut l.merge.merge.row_sets (t ∷ without_front l.merge.transactions) l.merge.cut
          → (set : List Row) × (front l.merge.merge.row_sets ≡ Some set) × (t.cut ≡ cut_after l.target_cut set) × SetsFit t.cut (without_front l.merge.merge.row_sets) (without_front l.merge.transactions) l.merge.cut
      go [] e f = absurd (subst (λ sets. SetsFit l.target_cut sets (t ∷ without_front l.merge.transactions) l.merge.cut) e f)
      go (set ∷ sets) e f =
          let g = subst (λ sets. SetsFit l.target_cut sets (t ∷ without_front l.merge.transactions) l.merge.cut) e f in
          (set, ap front e, g.0, subst (λ sets. SetsFit t.cut (without_front sets) (without_front l.merge.transactions) l.merge.cut) (sym e) g.1)

  pub same_waits : is_some (front l.merge.transactions) ≡ is_some (front l.merge.merge.row_sets)
  same_waits = go l.merge.merge.row_sets l.merge.transactions h.sets
    where
      go : (sets : List (List Row)) (ts : List Transaction) → SetsFit l.target_cut sets ts l.merge.cut → is_some (front ts) ≡ is_some (front sets)
      go [] [] f = refl
      go [] (t ∷ ts) f = absurd f
      go (set ∷ sets) [] f = absurd f
      go (set ∷ sets) (t ∷ ts) f = refl

  begun_fits : (o : Option Transaction) → front l.merge.transactions ≡ o → l.store.phase % 2 ≡ 0 → FitsMerge s (after_begin s o l)
  begun_fits None e even = h
  begun_fits (Some t) e even = record {
    lists_long = h.lists_long;
    sets = (first_set t e).3;
    level = λ odd. absurd (omega (arith, odd, even));
  }

  next_fits : (e : Event) → is_enabled_loaded l e ≡ true → FitsMerge s (next_loaded s l e)
  next_fits (Commit y) en = record { lists_long = h.lists_long; sets = h.sets; level = h.level }
  next_fits (Answer y x) en = record { lists_long = h.lists_long; sets = h.sets; level = h.level }
  next_fits (Integrate y) en = integrated y (oldest_message l y)
  next_fits (Manage x) en = managed x (slice_get l.managers x)
  next_fits Rel en = released (front l.announcements)
  next_fits (Act x) en = acted x (oldest_list l x)
  next_fits Begin en = begun_fits (front l.merge.transactions) refl (eqb-true (l.store.phase % 2) 0 (and_parts (is_some (front l.merge.transactions)) (l.store.phase % 2 == 0) en).1)
  next_fits Change en = record { lists_long = h.lists_long; sets = h.sets; level = h.level }
  next_fits Publish en = record { lists_long = h.lists_long; sets = h.sets; level = λ e. refl }
  next_fits (SessionOpen v) en = h
  next_fits (SessionScan v x) en = h
  next_fits (SessionFetch v n) en = h
  next_fits (SessionClose v) en = h

  pub step_fits : (e : Event) → FitsMerge s (step_loaded s l e)
  step_fits e = elim (is_enabled_loaded l e && not (is_full_for s l e)) as (λ b. (is_enabled_loaded l e && not (is_full_for s l e)) ≡ b → FitsMerge s (cond b (next_loaded s l e) l)) [
    | true ↦ λ d. next_fits e (and_parts (is_enabled_loaded l e) (not (is_full_for s l e)) d).0
    | false ↦ λ d. h
  ] refl
