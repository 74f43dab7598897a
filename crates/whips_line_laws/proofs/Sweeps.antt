-- The merge settles: each row set that it takes has the first lists of each view.
use Rattle.std.proofs.Common.{◌≡◌, ℕ, zero, suc, ◌<◌, true, not, List, [], ◌∷◌, ◌++◌, length, Some, None, refl, sym, ap, subst, ◌∙◌, arith, append_assoc, append-nil}
use Rattle.std.specs.Prelude.{slice_get, filter, find, fold}
use Rattle.std.proofs.lemmas.List.{length-map}
use Rattle.whips_lists.proofs.Options.{found_passes}
use Rattle.whips_lists.proofs.InList.{In}
use Rattle.whips_lists.proofs.ByPlace.{get_there, get_within, get_map, in_left, in_right, find_in}
use Rattle.whips_flow.specs.Facts.{Facts}
use Rattle.whips_flow.specs.State.{NumberedTransaction, Merge}
use Rattle.whips_flow.specs.Painted.{Row, is_ready, closure, rows_with}
use Rattle.whips_flow.specs.Settling.{later_lists, painted_merge, with_set_taken, with_ready_taken, settled_merge}
use Rattle.whips_cut_laws.proofs.Lined.{joined}
use Rattle.whips_actions.specs.declared.action.ActionList.{ActionList}
use Rattle.whips_facts.specs.Values.{last_list}
use Rattle.whips_merge.specs.declared.lists.Transaction.{Transaction}
use Rattle.whips_merge.specs.Merging.{MergeState, covers_any, lists_of, lists_left, with_transaction, transaction_of}
use Rattle.whips_version_laws.proofs.Parted.{IsOf, Parted, painted_parted, taken_parted}
use Rattle.whips_stage_laws.proofs.Flights.{get_is}
use Rattle.whips_list_laws.specs.Merged.{of_view, last_upto, TakesFirst, AllTakeFirst, AreOwnLists}
use Rattle.whips_list_laws.proofs.Merged.{taken_own, own_left}
use Rattle.whips_line_laws.proofs.Lines.{Line, all_painted}
use Rattle.whips_line_laws.proofs.Taken.{takes_first, line_left, last_is}

-- The lists of all views, behind these row sets.
pub record Lines (sets : List (List Row)) (m : Merge) (more : List Row) (lists : List (List ActionList)) (coming : ℕ → List ℕ) : Type 0 where
  pub long : length lists ≡ length m.waiting_lists
  pub at : (x : ℕ) (ls : List ActionList) (js : List ℕ) → slice_get lists x ≡ Some ls → slice_get m.waiting_lists x ≡ Some js → Line x (last_list x sets) m.table.rows more ls js (coming x)

-- Each transaction has of view x the lists from the last one before it to the last of its row set.
abbrev pub Ties : ℕ → List (List Row) → List (List Row) → List Transaction → Type 0
Ties x sets [] [] = Unit {0}
Ties x sets [] (t ∷ ts) = ⊥
Ties x sets (set ∷ new) [] = ⊥
Ties x sets (set ∷ new) (t ∷ ts) = (last_upto (last_list x sets) (of_view x t.lists) ≡ last_list x (sets ++ set ∷ [])) × Ties x (sets ++ set ∷ []) new ts

pub ties_append : (x : ℕ) (sets ws new : List (List Row)) (ts us : List Transaction) → Ties x sets ws ts → Ties x (sets ++ ws) new us → Ties x sets (ws ++ new) (ts ++ us)
ties_append x sets [] new [] us h g = subst (λ z. Ties x z new us) (append-nil sets) g
ties_append x sets [] new (t ∷ ts) us h g = absurd h
ties_append x sets (w ∷ ws) new [] us h g = absurd h
ties_append x sets (w ∷ ws) new (t ∷ ts) us h g = (h.0, ties_append x (sets ++ w ∷ []) ws new ts us h.1 (subst (λ z. Ties x z new us) (sym (append_assoc sets (w ∷ []) ws)) g))

module _ (more : List Row) (coming : ℕ → List ℕ) where
  pub painted_lines : (m : Merge) (sets : List (List Row)) (lists : List (List ActionList)) → ((q : Row) → In q more → m.table.last_announced < q.number) → Lines sets m more lists coming → Lines sets (painted_merge m) more lists coming
  painted_lines m sets lists above h = record {
    long = h.long ∙ sym (length-map m.waiting_lists (later_lists m.table.last_announced));
    at = λ x ls js a b.
        let k = get_map (later_lists m.table.last_announced) x m.waiting_lists js b in
        subst (λ z. Line x (last_list x sets) (painted_merge m).table.rows more ls z (coming x)) k.2
        (all_painted x (last_list x sets) more ls (coming x) m.table.last_announced 0 x m.waiting_lists m.table.rows k.0 above (omega arith) k.1 (h.at x ls k.0 a k.1));
  }

module _ (f : Facts) (numbering : List NumberedTransaction) (more : List Row) (coming : ℕ → List ℕ) where
  -- what settling leaves
  pub record Sweeps (before after : Merge) (sets : List (List Row)) (s : MergeState) : Type 0 where
    pub new : List (List Row)
    pub row_sets : after.row_sets ≡ before.row_sets ++ new
    pub parted : Parted f numbering more after.table (sets ++ new)
    pub lines : Lines (sets ++ new) after more (fold with_transaction s new).lists coming
    pub first : AllTakeFirst s new
    pub transactions : List Transaction
    pub are : (fold with_transaction s new).transactions ≡ s.transactions ++ transactions
    pub ties : (x : ℕ) → x < length s.lists → Ties x sets new transactions

  none_swept : (m : Merge) (sets : List (List Row)) (s : MergeState) → Parted f numbering more m.table sets → Lines sets m more s.lists coming → Sweeps m m sets s
  none_swept m sets s p h = record {
    new = [];
    row_sets = sym (append-nil m.row_sets);
    parted = subst (λ z. Parted f numbering more m.table z) (sym (append-nil sets)) p;
    lines = subst (λ z. Lines z m more s.lists coming) (sym (append-nil sets)) h;
    first = tt;
    transactions = [];
    are = sym (append-nil s.transactions);
    ties = λ x lt. tt;
  }

  -- one set
  module _ (m : Merge) (sets : List (List Row)) (s : MergeState) (r : Row) (there : In r m.table.rows) (ready : is_ready m.table.rows r ≡ true) (p : Parted f numbering more m.table sets) (own : AreOwnLists 0 s.lists) (h : Lines sets m more s.lists coming) where
    abbrev set : List Row
    set = rows_with (closure m.table.rows r.number) m.table.rows

    rows_are : (q : Row) → In q m.table.rows → IsOf f numbering m.table.last_announced q
    rows_are q i = p.are_of q (in_right q (joined sets) (m.table.rows ++ more) (in_left q m.table.rows more i))

    waiting_at : (x : ℕ) (ls : List ActionList) → slice_get s.lists x ≡ Some ls → (js : List ℕ) × (slice_get m.waiting_lists x ≡ Some js)
    waiting_at x ls a = get_there x m.waiting_lists (omega (arith, get_within x s.lists ls a, h.long))

    one_first : TakesFirst (rows_with (closure m.table.rows r.number) m.table.rows) s.lists
    one_first x ls a = let js = waiting_at x ls a in takes_first f numbering m.table.last_announced m.table.rows more r there ready rows_are x (last_list x sets) ls js.0 (coming x) (h.at x ls js.0 a js.1)

    one_tie : (x : ℕ) → x < length s.lists → last_upto (last_list x sets) (of_view x (lists_of (rows_with (closure m.table.rows r.number) m.table.rows) s.lists)) ≡ last_list x (sets ++ rows_with (closure m.table.rows r.number) m.table.rows ∷ [])
    one_tie x lt =
        let ls = get_there x s.lists lt in
        let js = waiting_at x ls.0 ls.1 in
        ap (last_upto (last_list x sets)) (taken_own (covers_any set) 0 x x s.lists (omega arith) own ∙ ap (filter (covers_any set)) (get_is s.lists x ls.0 [] ls.1))
        ∙ last_is f numbering m.table.last_announced m.table.rows more r there ready rows_are x (last_list x sets) ls.0 js.0 (coming x) (h.at x ls.0 js.0 ls.1 js.1) sets refl

    one_left : Lines (sets ++ rows_with (closure m.table.rows r.number) m.table.rows ∷ []) (with_set_taken (closure m.table.rows r.number) m) more (lists_left (rows_with (closure m.table.rows r.number) m.table.rows) s.lists) coming
    one_left = record {
      long = length-map s.lists (filter (λ l. not (covers_any set l))) ∙ h.long;
      at = λ x ls js a b.
          let o = get_map (filter (λ l. not (covers_any set l))) x s.lists ls a in
          let line = h.at x o.0 js o.1 b in
          subst (λ z. Line x (last_list x (sets ++ set ∷ [])) (with_set_taken (closure m.table.rows r.number) m).table.rows more z js (coming x)) o.2
          (subst (λ z. Line x z (with_set_taken (closure m.table.rows r.number) m).table.rows more (filter (λ l. not (covers_any set l)) o.0) js (coming x)) (last_is f numbering m.table.last_announced m.table.rows more r there ready rows_are x (last_list x sets) o.0 js (coming x) line sets refl)
          (line_left f numbering m.table.last_announced m.table.rows more r there ready rows_are x (last_list x sets) o.0 js (coming x) line));
    }

  sweeps : (k : ℕ) (m : Merge) (sets : List (List Row)) (s : MergeState) → ((q : Row) → In q more → m.table.last_announced < q.number) → Parted f numbering more m.table sets → AreOwnLists 0 s.lists → Lines sets m more s.lists coming → Sweeps m (with_ready_taken k m) sets s
  sweeps zero m sets s above p own h = none_swept m sets s p h
  sweeps (suc k) m sets s above p own h = elim (find (is_ready m.table.rows) m.table.rows) as (λ o. find (is_ready m.table.rows) m.table.rows ≡ o → Sweeps m (elim o as (λ _. Merge) [ None ↦ m | Some r ↦ with_ready_taken k (with_set_taken (closure m.table.rows r.number) m) ]) sets s) [
    | None ↦ λ e. none_swept m sets s p h
    | Some r ↦ λ e.
        let set = rows_with (closure m.table.rows r.number) m.table.rows in
        let there = find_in (is_ready m.table.rows) m.table.rows r e in
        let ready = found_passes (is_ready m.table.rows) m.table.rows r e in
        let one = taken_parted f numbering more m sets r there ready above p in
        let w = sweeps k (with_set_taken (closure m.table.rows r.number) m) (sets ++ set ∷ []) (with_transaction s set) above one (own_left (λ l. not (covers_any set l)) 0 s.lists own) (one_left m sets s r there ready p own h) in
        record {
          new = set ∷ w.new;
          row_sets = w.row_sets ∙ append_assoc m.row_sets (set ∷ []) w.new;
          parted = subst (λ z. Parted f numbering more (with_ready_taken k (with_set_taken (closure m.table.rows r.number) m)).table z) (append_assoc sets (set ∷ []) w.new) w.parted;
          lines = subst (λ z. Lines z (with_ready_taken k (with_set_taken (closure m.table.rows r.number) m)) more (fold with_transaction (with_transaction s set) w.new).lists coming) (append_assoc sets (set ∷ []) w.new) w.lines;
          first = (one_first m sets s r there ready p own h, w.first);
          transactions = transaction_of set s.lists s.cut ∷ w.transactions;
          are = w.are ∙ append_assoc s.transactions (transaction_of set s.lists s.cut ∷ []) w.transactions;
          ties = λ x lt. (one_tie m sets s r there ready p own h x lt, w.ties x (omega (arith, lt, length-map s.lists (filter (λ l. not (covers_any set l))))));
        }
  ] refl

  pub settled_sweeps : (m : Merge) (sets : List (List Row)) (s : MergeState) → ((q : Row) → In q more → m.table.last_announced < q.number) → Parted f numbering more m.table sets → AreOwnLists 0 s.lists → Lines sets m more s.lists coming → Sweeps m (settled_merge m) sets s
  settled_sweeps m sets s above p own h =
      let w = sweeps (length m.table.rows) (painted_merge m) sets s above (painted_parted f numbering more sets m p) own (painted_lines more coming m sets s.lists above h) in
      record { new = w.new; row_sets = w.row_sets; parted = w.parted; lines = w.lines; first = w.first; transactions = w.transactions; are = w.are; ties = w.ties }
