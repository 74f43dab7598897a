-- Row sets that become transactions, one after another.
--
-- `settled_said`: the table painted, the row sets taken in so many turns as there are rows, and a transaction formed of each make of a merge what the machine's settling makes of it. `settled_still`: where no row was ready and no list was due, nothing leaves.
--
-- The idea: the machine takes a row set while one is ready, at most as often as there are rows (`with_ready_taken`). Its turns are two functions of the rows alone, the sets that leave and the rows that stay (`machine_taken`). The code forms each set's transaction as it takes it, so `Forming` says after each turn that what is left of both functions, with what was formed, gives all.
--
-- Four lemmas carry it: `machine_taken`, `forming_goes_on` (one turn more), `stopped_formed` (no row is ready) and `settled_is` (the turns together).
use Rattle.std.proofs.Common.{◌≡◌, ℕ, zero, suc, ◌+◌, ◌-◌, ◌<◌, List, [], ◌∷◌, ◌++◌, length, map, drop, set, get_or, Option, Some, None, refl, sym, ap, ap₂, subst, ◌∙◌, arith, append-nil, append_assoc}
use Rattle.std.specs.Prelude.{fold}
use Rattle.std.proofs.lemmas.List.{map-append}
use Rattle.std.specs.Option.{option_map}
use Rattle.whips_lists.specs.Lists.{changed_at}
use Rattle.whips_flow.specs.Painted.{Row, rows_with, rows_without, closure, lowest_ready}
use Rattle.whips_flow.specs.State.{Merge}
use Rattle.whips_flow.specs.Settling.{with_set_taken, with_ready_taken, painted_merge, settled_merge, rows_after_lists, later_lists}
use Rattle.whips_flow.specs.Cuts.{cut_after}
use Rattle.whips_paint.specs.Table.{ready_numbers}
use Rattle.whips_actions.specs.declared.action.ActionList.{ActionList}
use Rattle.whips_merge.specs.declared.lists.Transaction.{Transaction}
use Rattle.whips_merge.specs.Taking.{sets_taken, rows_after_sets, merge_of}
use Rattle.whips_merge.specs.Merging.{MergeState, lists_left, transaction_of, with_transaction, with_merge}

-- ---- turns

pub none_taken : (k : ℕ) (rows : List Row) → ready_numbers rows ≡ None → sets_taken k rows ≡ []
none_taken zero rows e = refl
none_taken (suc k) rows e = ap (λ (o : Option (List ℕ)). elim o [ None ↦ [] | Some numbers ↦ rows_with numbers rows ∷ sets_taken k (rows_without numbers rows) ]) e

pub none_leave : (k : ℕ) (rows : List Row) → ready_numbers rows ≡ None → rows_after_sets k rows ≡ rows
none_leave zero rows e = refl
none_leave (suc k) rows e = ap (λ (o : Option (List ℕ)). elim o [ None ↦ rows | Some numbers ↦ rows_after_sets k (rows_without numbers rows) ]) e

pub one_taken : (k : ℕ) (rows : List Row) (numbers : List ℕ) → ready_numbers rows ≡ Some numbers → sets_taken (suc k) rows ≡ rows_with numbers rows ∷ sets_taken k (rows_without numbers rows)
one_taken k rows numbers e = ap (λ (o : Option (List ℕ)). elim o [ None ↦ [] | Some numbers ↦ rows_with numbers rows ∷ sets_taken k (rows_without numbers rows) ]) e

pub one_leaves : (k : ℕ) (rows : List Row) (numbers : List ℕ) → ready_numbers rows ≡ Some numbers → rows_after_sets (suc k) rows ≡ rows_after_sets k (rows_without numbers rows)
one_leaves k rows numbers e = ap (λ (o : Option (List ℕ)). elim o [ None ↦ rows | Some numbers ↦ rows_after_sets k (rows_without numbers rows) ]) e

-- ---- the machine's turns

abbrev taken_state : ℕ → Merge → Merge
taken_state n m = record m { table = record (m.table) { rows = rows_after_sets n m.table.rows }; row_sets = m.row_sets ++ sets_taken n m.table.rows }

pub machine_taken : (n : ℕ) (m : Merge) → with_ready_taken n m ≡ taken_state n m
machine_taken zero m = ap (λ s. record m { row_sets = s }) (sym (append-nil m.row_sets))
machine_taken (suc n) m = go (machine_taken n) (lowest_ready m.table.rows)
  where
    go : ((m' : Merge) → with_ready_taken n m' ≡ taken_state n m') → (o : Option Row) → elim o [ None ↦ m | Some r ↦ with_ready_taken n (with_set_taken (closure m.table.rows r.number) m) ]
        ≡ record m {
          table = record (m.table) { rows = elim (option_map (λ r. closure m.table.rows r.number) o) [ None ↦ m.table.rows | Some numbers ↦ rows_after_sets n (rows_without numbers m.table.rows) ] };
          row_sets = m.row_sets ++ elim (option_map (λ r. closure m.table.rows r.number) o) [ None ↦ [] | Some numbers ↦ rows_with numbers m.table.rows ∷ sets_taken n (rows_without numbers m.table.rows) ];
        }
    go ih None = ap (λ s. record m { row_sets = s }) (sym (append-nil m.row_sets))
    go ih (Some r) =
        let numbers = closure m.table.rows r.number in
        ih (with_set_taken numbers m)
        ∙ ap (λ s. record m { table = record (m.table) { rows = rows_after_sets n (rows_without numbers m.table.rows) }; row_sets = s }) (append_assoc m.row_sets (rows_with numbers m.table.rows ∷ []) (sets_taken n (rows_without numbers m.table.rows)))

-- ---- transactions so far

pub record Forming (n k : ℕ) (rows0 rows : List Row) (lists0 lists : List (List ActionList)) (cut0 cut : List ℕ) (sets : List (List Row)) (transactions : List Transaction) : Type 0 where
  pub left : rows_after_sets k rows ≡ rows_after_sets n rows0
  pub taken : sets ++ sets_taken k rows ≡ sets_taken n rows0
  pub formed : (s : MergeState) → s.lists ≡ lists0 → s.cut ≡ cut0 → fold with_transaction s (sets_taken n rows0) ≡ fold with_transaction (record s { lists = lists; cut = cut; transactions = s.transactions ++ transactions }) (sets_taken k rows)
  pub views : length lists ≡ length lists0

pub same_state : (s : MergeState) (lists : List (List ActionList)) (cut : List ℕ) → s.lists ≡ lists → s.cut ≡ cut → s ≡ record s { lists = lists; cut = cut; transactions = s.transactions ++ [] }
same_state s lists cut l c = rw (← l, ← c, append-nil s.transactions) refl

pub forming_begins : (n : ℕ) (rows : List Row) (lists : List (List ActionList)) (cut : List ℕ) → Forming n n rows rows lists lists cut cut [] []
forming_begins n rows lists cut = record { left = refl; taken = refl; formed = λ s l c. ap (λ z. fold with_transaction z (sets_taken n rows)) (same_state s lists cut l c); views = refl }

length-map-lists : (f : List ActionList → List ActionList) (lists : List (List ActionList)) → length (map f lists) ≡ length lists
length-map-lists f [] = refl
length-map-lists f (x ∷ xs) = ap suc (length-map-lists f xs)

pub forming_goes_on : (n k : ℕ) (rows0 rows : List Row) (lists0 lists : List (List ActionList)) (cut0 cut : List ℕ) (sets : List (List Row)) (transactions : List Transaction) (numbers : List ℕ)
    → ready_numbers rows ≡ Some numbers → Forming n (suc k) rows0 rows lists0 lists cut0 cut sets transactions
    → Forming n k rows0 (rows_without numbers rows) lists0 (lists_left (rows_with numbers rows) lists) cut0 (cut_after cut (rows_with numbers rows)) (sets ++ rows_with numbers rows ∷ []) (transactions ++ transaction_of (rows_with numbers rows) lists cut ∷ [])
forming_goes_on n k rows0 rows lists0 lists cut0 cut sets transactions numbers e f = record {
  left = sym (one_leaves k rows numbers e) ∙ f.left;
  taken = append_assoc sets (rows_with numbers rows ∷ []) (sets_taken k (rows_without numbers rows)) ∙ ap (λ l. sets ++ l) (sym (one_taken k rows numbers e)) ∙ f.taken;
  formed = λ s l c.
      f.formed s l c
      ∙ ap (fold with_transaction (record s { lists = lists; cut = cut; transactions = s.transactions ++ transactions })) (one_taken k rows numbers e)
      ∙ ap (λ ts. fold with_transaction (record s { lists = lists_left (rows_with numbers rows) lists; cut = cut_after cut (rows_with numbers rows); transactions = ts }) (sets_taken k (rows_without numbers rows)))
      (append_assoc s.transactions transactions (transaction_of (rows_with numbers rows) lists cut ∷ []));
  views = length-map-lists _ lists ∙ f.views;
}

-- ---- after all turns

module _ (n k : ℕ) (rows0 rows : List Row) (lists0 lists : List (List ActionList)) (cut0 cut : List ℕ) (sets : List (List Row)) (transactions : List Transaction) (f : Forming n k rows0 rows lists0 lists cut0 cut sets transactions) (stops : ready_numbers rows ≡ None) where
  pub stopped_rows : rows ≡ rows_after_sets n rows0
  stopped_rows = sym (none_leave k rows stops) ∙ f.left

  pub stopped_sets : sets ≡ sets_taken n rows0
  stopped_sets = sym (append-nil sets) ∙ ap (λ l. sets ++ l) (sym (none_taken k rows stops)) ∙ f.taken

  pub stopped_formed : (s : MergeState) → s.lists ≡ lists0 → s.cut ≡ cut0 → fold with_transaction s (sets_taken n rows0) ≡ record s { lists = lists; cut = cut; transactions = s.transactions ++ transactions }
  stopped_formed s l c = f.formed s l c ∙ ap (fold with_transaction (record s { lists = lists; cut = cut; transactions = s.transactions ++ transactions })) (none_taken k rows stops)

-- one turn more, said of what the calls gave
pub forming_turn : (n i : ℕ) (rows0 rows rows1 : List Row) (lists0 lists lists1 : List (List ActionList)) (cut0 cut cut1 : List ℕ) (sets : List (List Row)) (transactions : List Transaction) (numbers : List ℕ) (set : List Row) (transaction : Transaction)
    → i < n → ready_numbers rows ≡ Some numbers → set ≡ rows_with numbers rows → rows1 ≡ rows_without numbers rows → lists1 ≡ lists_left set lists → cut1 ≡ cut_after cut set → transaction ≡ transaction_of set lists cut
    → Forming n (n - i) rows0 rows lists0 lists cut0 cut sets transactions → Forming n (n - (i + 1)) rows0 rows1 lists0 lists1 cut0 cut1 (sets ++ set ∷ []) (transactions ++ transaction ∷ [])
forming_turn n i rows0 rows rows1 lists0 lists lists1 cut0 cut cut1 sets transactions numbers set transaction lt e is left ls cs ts f =
    let next : n - i ≡ suc (n - (i + 1)) = omega arith in
    rw (ts, ls, cs, left, is) (forming_goes_on n (n - (i + 1)) rows0 rows lists0 lists cut0 cut sets transactions numbers e (subst (λ k. Forming n k rows0 rows lists0 lists cut0 cut sets transactions) next f))

drop_front : {X : Type 0} (xs ys : List X) → drop (length xs) (xs ++ ys) ≡ ys
drop_front [] ys = refl
drop_front (x ∷ xs) ys = drop_front xs ys

pub settled_is : (s : MergeState) (last : ℕ) (rows0 rows1 rows2 : List Row) (waiting0 waiting1 : List (List ℕ)) (lists2 : List (List ActionList)) (cut2 : List ℕ) (sets0 sets : List (List Row)) (transactions : List Transaction)
    → s.merge.row_sets ≡ sets0 → rows1 ≡ rows_after_lists last 0 waiting0 rows0 → waiting1 ≡ map (later_lists last) waiting0 → rows2 ≡ rows_after_sets (length rows0) rows1 → sets ≡ sets_taken (length rows0) rows1
    → ((z : MergeState) → z.lists ≡ s.lists → z.cut ≡ s.cut → fold with_transaction z (sets_taken (length rows0) rows1) ≡ record z { lists = lists2; cut = cut2; transactions = z.transactions ++ transactions })
    → with_merge (settled_merge (merge_of last rows0 waiting0 sets0)) s ≡ record s { merge = merge_of last rows2 waiting1 (sets0 ++ sets); lists = lists2; cut = cut2; transactions = s.transactions ++ transactions }
settled_is s last rows0 rows1 rows2 waiting0 waiting1 lists2 cut2 sets0 sets transactions same painted later left taken formed =
    let m : Merge = merge_of last rows2 waiting1 (sets0 ++ sets) in
    let is : settled_merge (merge_of last rows0 waiting0 sets0) ≡ m =
    machine_taken (length rows0) (painted_merge (merge_of last rows0 waiting0 sets0))
    ∙ ap (λ rows. merge_of last (rows_after_sets (length rows0) rows) (map (later_lists last) waiting0) (sets0 ++ sets_taken (length rows0) rows)) (sym painted)
    ∙ ap (λ rows. merge_of last rows (map (later_lists last) waiting0) (sets0 ++ sets_taken (length rows0) rows1)) (sym left)
    ∙ ap₂ (λ waiting l. merge_of last rows2 waiting (sets0 ++ l)) (sym later) (sym taken) in
    ap (λ z. with_merge z s) is
    ∙ ap (λ l. fold with_transaction (record s { merge = m }) (drop (length l) (sets0 ++ sets))) same
    ∙ ap (fold with_transaction (record s { merge = m })) (drop_front sets0 sets ∙ taken)
    ∙ formed (record s { merge = m }) refl refl

-- the same, said of what the calls gave
pub settled_said : {W : Type 0} (rows_of : W → List Row) (transaction_in : W → Transaction) (s : MergeState) (last turns : ℕ) (rows0 rows1 rows2 : List Row) (waiting0 waiting1 : List (List ℕ)) (lists0 lists2 : List (List ActionList)) (cut0 cut2 : List ℕ) (olds formed news : List W)
    → turns ≡ length rows0 → s.merge.row_sets ≡ map rows_of olds → s.lists ≡ lists0 → s.cut ≡ cut0 → s.transactions ≡ map transaction_in olds
    → rows1 ≡ rows_after_lists last 0 waiting0 rows0 → waiting1 ≡ map (later_lists last) waiting0 → rows2 ≡ rows_after_sets turns rows1 → map rows_of formed ≡ sets_taken turns rows1
    → ((z : MergeState) → z.lists ≡ lists0 → z.cut ≡ cut0 → fold with_transaction z (sets_taken turns rows1) ≡ record z { lists = lists2; cut = cut2; transactions = z.transactions ++ map transaction_in formed })
    → news ≡ olds ++ formed
    → with_merge (settled_merge (merge_of last rows0 waiting0 (map rows_of olds))) s ≡ record s { merge = merge_of last rows2 waiting1 (map rows_of news); lists = lists2; cut = cut2; transactions = map transaction_in news }
settled_said rows_of transaction_in s last turns rows0 rows1 rows2 waiting0 waiting1 lists0 lists2 cut0 cut2 olds formed news n sets lists cut ts painted later left taken said is =
    settled_is s last rows0 rows1 rows2 waiting0 waiting1 lists2 cut2 (map rows_of olds) (map rows_of formed) (map transaction_in formed) sets painted later
    (left ∙ ap (λ k. rows_after_sets k rows1) n) (taken ∙ ap (λ k. sets_taken k rows1) n)
    (λ z l c. ap (λ k. fold with_transaction z (sets_taken k rows1)) (sym n) ∙ said z (l ∙ lists) (c ∙ cut))
    ∙ ap₂ (λ l t. record s { merge = merge_of last rows2 waiting1 l; lists = lists2; cut = cut2; transactions = t })
    (sym (ap (map rows_of) is ∙ map-append rows_of olds formed))
    (ap (λ t. t ++ map transaction_in formed) ts ∙ sym (ap (map transaction_in) is ∙ map-append transaction_in olds formed))

-- where no row was ready and none was painted, nothing leaves
pub settled_still : {W : Type 0} (rows_of : W → List Row) (transaction_in : W → Transaction) (s : MergeState) (last : ℕ) (rows0 rows1 : List Row) (waiting0 waiting1 : List (List ℕ)) (lists : List (List ActionList)) (cut : List ℕ) (olds : List W)
    → s.merge.row_sets ≡ map rows_of olds → s.lists ≡ lists → s.cut ≡ cut → s.transactions ≡ map transaction_in olds
    → ready_numbers rows0 ≡ None → rows1 ≡ rows0 → rows1 ≡ rows_after_lists last 0 waiting0 rows0 → waiting1 ≡ map (later_lists last) waiting0
    → with_merge (settled_merge (merge_of last rows0 waiting0 (map rows_of olds))) s ≡ record s { merge = merge_of last rows1 waiting1 (map rows_of olds); lists = lists; cut = cut; transactions = map transaction_in olds }
settled_still rows_of transaction_in s last rows0 rows1 waiting0 waiting1 lists cut olds sets ls cs ts none same painted later =
    let n = length rows0 in
    let still : ready_numbers rows1 ≡ None = ap ready_numbers same ∙ none in
    settled_said rows_of transaction_in s last n rows0 rows1 rows1 waiting0 waiting1 lists lists cut cut olds [] olds refl sets ls cs ts painted later
    (sym (none_leave n rows1 still)) (sym (none_taken n rows1 still))
    (λ z l c. ap (fold with_transaction z) (none_taken n rows1 still) ∙ same_state z lists cut l c)
    (sym (append-nil olds))

pub forming_step : {W : Type 0} (rows_of : W → List Row) (transaction_in : W → Transaction) (n i : ℕ) (rows0 rows rows1 : List Row) (lists0 lists lists1 : List (List ActionList)) (cut0 cut cut1 : List ℕ) (old new : List W) (w : W) (numbers : List ℕ) (set : List Row)
    → i < n → ready_numbers rows ≡ Some numbers → set ≡ rows_with numbers rows → rows1 ≡ rows_without numbers rows → rows_of w ≡ set → lists1 ≡ lists_left set lists → cut1 ≡ cut_after cut set → transaction_in w ≡ transaction_of set lists cut → new ≡ old ++ w ∷ []
    → Forming n (n - i) rows0 rows lists0 lists cut0 cut (map rows_of old) (map transaction_in old) → Forming n (n - (i + 1)) rows0 rows1 lists0 lists1 cut0 cut1 (map rows_of new) (map transaction_in new)
forming_step rows_of transaction_in n i rows0 rows rows1 lists0 lists lists1 cut0 cut cut1 old new w numbers set lt e is left same ls cs ts pushed f =
    let sets : map rows_of new ≡ map rows_of old ++ set ∷ [] = ap (map rows_of) pushed ∙ map-append rows_of old (w ∷ []) ∙ ap (λ r. map rows_of old ++ r ∷ []) same in
    let transactions : map transaction_in new ≡ map transaction_in old ++ transaction_in w ∷ [] = ap (map transaction_in) pushed ∙ map-append transaction_in old (w ∷ []) in
    rw (sets, transactions) (forming_turn n i rows0 rows rows1 lists0 lists lists1 cut0 cut cut1 (map rows_of old) (map transaction_in old) numbers set (transaction_in w) lt e is left ls cs ts f)

-- ---- a list that has come

pub pushed_at : {X : Type 0} (xs : List (List X)) (i : ℕ) (x : X) (own new : List X) → i < length xs → own ≡ get_or xs i own → new ≡ own ++ x ∷ [] → set xs i new ≡ changed_at i (λ l. l ++ x ∷ []) xs
pushed_at [] i x own new lt is e = absurd (omega arith)
pushed_at (y ∷ ys) zero x own new lt is e = ap (λ l. l ∷ ys) (e ∙ ap (λ l. l ++ x ∷ []) is)
pushed_at (y ∷ ys) (suc i) x own new lt is e = ap (λ l. y ∷ l) (pushed_at ys i x own new (omega arith) is e)
