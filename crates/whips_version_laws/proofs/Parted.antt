-- The rows of the transactions that concern a view: those in row sets, those in the table and those that come.
--
-- `settled_parted`, `came_parted` and `numbered_parted`: settling, a row that comes into the table, and a transaction that gets its number keep that each concerned transaction has its row in one of the three, and that no row needs one of a later set (`Parted`).
--
-- The idea: a set that leaves is a closure, so it holds all that its rows need among those of the table, and a row on its way has a number above all announced ones, which no list in the table covers. So nothing that a set needs can come later.
--
-- Three lemmas carry it: `painted_parted` (lists only redden entries), `taken_parted` (a closure leaves) and `where_it_is` (a row stands in one of the three parts).
use Rattle.std.proofs.Common.{◌≡◌, ℕ, zero, suc, ◌+◌, ◌<◌, ◌≤◌, Bool, true, false, ◌&&◌, not, List, [], ◌∷◌, ◌++◌, length, Some, None, cond, refl, sym, ap, subst, ◌∙◌, arith, ◌⊎◌, inl, inr, ⊎_elim, append_assoc, append-nil}
use Rattle.std.specs.Prelude.{slice_get, filter, find}
use Rattle.std.specs.List.{AllByRecursion, list_all, list_any}
use Rattle.std.proofs.lemmas.Bool.{and_parts, and_from, not-true, false≢true, both_ways}
use Rattle.whips_lists.specs.Lists.{places_from}
use Rattle.whips_flow.specs.Facts.{Facts, view_places}
use Rattle.whips_flow.specs.Painted.{Row, white, red, PaintedTable, is_concerned, needs, has_number, closure, rows_with, is_white, is_waiting, is_ready, with_row}
use Rattle.whips_flow.specs.State.{NumberedTransaction, Merge}
use Rattle.whips_flow.specs.Settling.{rows_after_lists, painted_merge, with_set_taken, with_ready_taken, settled_merge}
use Rattle.whips_flow.specs.Effects.{entry_of, row_of, announcement_of}
use Rattle.whips_closure_laws.proofs.Grown.{closure_least}
use Rattle.whips_lists.proofs.InList.{In, all_in, any_from}
use Rattle.whips_cut_laws.proofs.Lined.{joined}
use Rattle.whips_lists.proofs.ByPlace.{in_append, in_left, in_right, in_filter, get_in, get_map, get_mapped, find_in}
use Rattle.whips_lists.proofs.Options.{found_passes}
use Rattle.whips_settled_laws.proofs.Moves.{in_places}
use Rattle.whips_version_laws.proofs.Later.{in_pushed, pushed_old, pushed_new, needs_low, NeedNoLater, need_changed, need_pushed, need_more}
use Rattle.whips_version_laws.proofs.Painting.{transaction_of, IsPainted, ArePainted, rows_painted, painted_needed}

-- a row is of a numbered transaction, its entries say which views that concerns, and it is red only with lists from its own number up to the last announced one
pub record IsOf (f : Facts) (numbering : List NumberedTransaction) (high : ℕ) (r : Row) : Type 0 where
  pub listed : In (transaction_of r) numbering
  pub concerned : (x : ℕ) → x < length f.slots → is_concerned (slice_get r.entries x) ≡ f.concerns r.source r.place x
  pub reds : (x m : ℕ) → slice_get r.entries x ≡ Some (red m) → (r.number ≤ m) × (m ≤ high)

abbrev pub HasRow : NumberedTransaction → List Row → Type 0
HasRow n rows = (r : Row) × In r rows × (transaction_of r ≡ n)

-- each concerned transaction that was numbered has its row in a set, in the table or on its way, and no row needs one of a later set
pub record Parted (f : Facts) (numbering : List NumberedTransaction) (more : List Row) (table : PaintedTable) (sets : List (List Row)) : Type 0 where
  pub are_of : (r : Row) → In r (joined sets ++ (table.rows ++ more)) → IsOf f numbering table.last_announced r
  pub low_in_sets : (r : Row) → In r (joined sets) → r.number ≤ table.last_announced
  pub low_in_table : (r : Row) → In r table.rows → r.number ≤ table.last_announced
  pub not_white : (r : Row) (x : ℕ) → In r (joined sets) → slice_get r.entries x ≡ Some white → ⊥
  pub apart : NeedNoLater sets (table.rows ++ more)
  pub there : (n : NumberedTransaction) (x : ℕ) → In n numbering → x < length f.slots → f.concerns n.source n.place x ≡ true → HasRow n (joined sets ++ (table.rows ++ more))

-- ---- rows in three parts

module _ (sets : List (List Row)) (rows more : List Row) where
  in_set : (q : Row) → In q (joined sets) → In q (joined sets ++ (rows ++ more))
  in_set q i = in_left q (joined sets) (rows ++ more) i

  in_table : (q : Row) → In q rows → In q (joined sets ++ (rows ++ more))
  in_table q i = in_right q (joined sets) (rows ++ more) (in_left q rows more i)

  on_the_way : (q : Row) → In q more → In q (joined sets ++ (rows ++ more))
  on_the_way q i = in_right q (joined sets) (rows ++ more) (in_right q rows more i)

  where_it_is : (q : Row) → In q (joined sets ++ (rows ++ more)) → In q (joined sets) ⊎ (In q rows ⊎ In q more)
  where_it_is q i = ⊎_elim (λ j. inl j) (λ j. inr (in_append q rows more j)) (in_append q (joined sets) (rows ++ more) i)

-- ---- painting

painted_of : (f : Facts) (numbering : List NumberedTransaction) (high : ℕ) (q r : Row) → IsPainted high q r → IsOf f numbering high q → IsOf f numbering high r
painted_of f numbering high q r h g = record {
  listed = subst (λ n. In n numbering) h.same g.listed;
  concerned = λ x lt. h.concerned x ∙ (g.concerned x lt ∙ ap (λ n. f.concerns n.source n.place x) h.same);
  reds = λ x m e. ⊎_elim (λ k. let b = g.reds x m k in (omega (arith, b.0, ap (λ n. n.number) h.same), b.1)) (λ b. b) (h.reds x m e);
}

module _ (f : Facts) (numbering : List NumberedTransaction) (more : List Row) (sets : List (List Row)) where
  pub painted_parted : (m : Merge) → Parted f numbering more m.table sets → Parted f numbering more (painted_merge m).table sets
  painted_parted m h = record {
    are_of = λ r i. ⊎_elim
        (λ j. h.are_of r (in_set sets rows more r j))
        (λ j. ⊎_elim
        (λ k. let q = painted.from r k in painted_of f numbering high q.0 r q.2 (h.are_of q.0 (in_table sets rows more q.0 q.1)))
        (λ k. h.are_of r (on_the_way sets rows more r k))
        j)
        (where_it_is sets after more r i);
    low_in_sets = h.low_in_sets;
    low_in_table = λ r i. let q = painted.from r i in omega (arith, h.low_in_table q.0 q.1, ap (λ n. n.number) q.2.same);
    not_white = h.not_white;
    apart = need_changed sets (rows ++ more) (after ++ more) (λ q i. old q (in_append q after more i)) h.apart;
    there = λ n x i lt c. found n (h.there n x i lt c);
  }
    where
      high : ℕ
      high = m.table.last_announced

      rows : List Row
      rows = m.table.rows

      after : List Row
      after = rows_after_lists high 0 m.waiting_lists rows

      painted : ArePainted high rows after
      painted = rows_painted high 0 m.waiting_lists rows

      old : (q : Row) → In q after ⊎ In q more → (o : Row) × In o (rows ++ more) × ((r : Row) → needs r q ≡ true → needs r o ≡ true)
      old q (inl i) = let o = painted.from q i in (o.0, in_left o.0 rows more o.1, λ r e. painted_needed high o.0 q o.2 r e)
      old q (inr i) = (q, in_right q rows more i, λ r e. e)

      found : (n : NumberedTransaction) → HasRow n (joined sets ++ (rows ++ more)) → HasRow n (joined sets ++ (after ++ more))
      found n (r, i, e) = ⊎_elim
          (λ j. (r, in_set sets after more r j, e))
          (λ j. ⊎_elim
          (λ k. let q = painted.to r k in (q.0, in_table sets after more q.0 q.1, sym q.2.same ∙ e))
          (λ k. (r, on_the_way sets after more r k, e))
          j)
          (where_it_is sets rows more r i)

-- ---- a closure leaves

pub filter_in : (p : Row → Bool) (q : Row) (rows : List Row) → In q rows → p q ≡ true → In q (filter p rows)
filter_in p q [] i h = absurd i
filter_in p q (r ∷ rows) (inl e) h = rw (subst (λ z. p z ≡ true) (sym e) h) (inl e)
filter_in p q (r ∷ rows) (inr i) h = elim (p r) as (λ b. In q (cond b (r ∷ filter p rows) (filter p rows))) [ true ↦ inr (filter_in p q rows i h) | false ↦ filter_in p q rows i h ]

pub all_true : (test : Row → Bool) (rows : List Row) (q : Row) → list_all test rows ≡ true → In q rows → test q ≡ true
all_true test [] q h i = absurd i
all_true test (r ∷ rows) q h (inl e) = subst (λ z. test z ≡ true) e (and_parts (test r) (list_all test rows) h).0
all_true test (r ∷ rows) q h (inr i) = all_true test rows q (and_parts (test r) (list_all test rows) h).1 i

module _ (f : Facts) (numbering : List NumberedTransaction) (more : List Row) where
  pub taken_parted : (m : Merge) (sets : List (List Row)) (r : Row) → In r m.table.rows → is_ready m.table.rows r ≡ true → ((q : Row) → In q more → m.table.last_announced < q.number) → Parted f numbering more m.table sets → Parted f numbering more (with_set_taken (closure m.table.rows r.number) m).table (sets ++ rows_with (closure m.table.rows r.number) m.table.rows ∷ [])
  taken_parted m sets r ir ready above h = record {
    are_of = λ q i. h.are_of q (back q i);
    low_in_sets = λ q i. ⊎_elim (λ j. h.low_in_sets q j) (λ j. h.low_in_table q (of_set q j).0) (in_pushed sets set q i);
    low_in_table = λ q i. h.low_in_table q (of_rest q i).0;
    not_white = λ q x i e. ⊎_elim (λ j. h.not_white q x j e) (λ j. unwhite q x j e) (in_pushed sets set q i);
    apart = need_pushed sets set (rows ++ more) (rest ++ more) (λ q i. in_left q rows more (of_set q i).0) (λ q i. behind q (in_append q rest more i)) (λ q s iq is. unneeded q s iq (in_append s rest more is)) h.apart;
    there = λ n x i lt c. let o = h.there n x i lt c in (o.0, forth o.0 (where_it_is sets rows more o.0 o.1), o.2);
  }
    where
      rows : List Row
      rows = m.table.rows

      ns : List ℕ
      ns = closure m.table.rows r.number

      set : List Row
      set = filter (λ q. has_number ns q.number) m.table.rows

      rest : List Row
      rest = filter (λ q. not (has_number ns q.number)) m.table.rows

      of_set : (q : Row) → In q set → In q rows × (has_number ns q.number ≡ true)
      of_set q i = in_filter (λ q. has_number ns q.number) q rows i

      of_rest : (q : Row) → In q rest → In q rows × (not (has_number ns q.number) ≡ true)
      of_rest q i = in_filter (λ q. not (has_number ns q.number)) q rows i

      behind : (q : Row) → In q rest ⊎ In q more → In q (rows ++ more)
      behind q (inl i) = in_left q rows more (of_rest q i).0
      behind q (inr i) = in_right q rows more i

      back : (q : Row) → In q (joined (sets ++ set ∷ []) ++ (rest ++ more)) → In q (joined sets ++ (rows ++ more))
      back q i = ⊎_elim
          (λ j. ⊎_elim (λ k. in_set sets rows more q k) (λ k. in_table sets rows more q (of_set q k).0) (in_pushed sets set q j))
          (λ j. in_right q (joined sets) (rows ++ more) (behind q j))
          (where_it_is (sets ++ set ∷ []) rest more q i)

      kept : (q : Row) → In q rows → (b : Bool) → has_number ns q.number ≡ b → In q (joined (sets ++ set ∷ []) ++ (rest ++ more))
      kept q i true e = in_set (sets ++ set ∷ []) rest more q (pushed_new sets set q (filter_in (λ q. has_number ns q.number) q rows i e))
      kept q i false e = in_table (sets ++ set ∷ []) rest more q (filter_in (λ q. not (has_number ns q.number)) q rows i (ap not e))

      forth : (q : Row) → In q (joined sets) ⊎ (In q rows ⊎ In q more) → In q (joined (sets ++ set ∷ []) ++ (rest ++ more))
      forth q (inl i) = in_set (sets ++ set ∷ []) rest more q (pushed_old sets set q i)
      forth q (inr (inl i)) = kept q i (has_number ns q.number) refl
      forth q (inr (inr i)) = on_the_way (sets ++ set ∷ []) rest more q i

      unwhite : (q : Row) (x : ℕ) → In q set → slice_get q.entries x ≡ Some white → ⊥
      unwhite q x i e =
          let o = of_set q i in
          let both = and_from (has_number ns q.number) (is_waiting q) o.1 (any_from is_white q.entries white (get_in x q.entries white e) refl) in
          both_ways (has_number ns q.number && is_waiting q) (not-true (has_number ns q.number && is_waiting q) (all_true (λ q. not (has_number ns q.number && is_waiting q)) rows q ready o.0)) both

      drawn : (q s : Row) → In q rows → In s rows → has_number ns q.number ≡ true → needs q s ≡ true → has_number ns s.number ≡ true
      drawn q s iq is e d = all_in (λ s. needs q s ≡ true → has_number ns s.number ≡ true) rows s (all_in (λ q. has_number ns q.number ≡ true → AllByRecursion (λ s. needs q s ≡ true → has_number ns s.number ≡ true) rows) rows q (closure_least rows r ir).closed iq e) is d

      unneeded : (q s : Row) → In q set → In s rest ⊎ In s more → needs q s ≡ true → ⊥
      unneeded q s iq (inl is) d =
          let o = of_set q iq in
          let t = of_rest s is in
          both_ways (has_number ns s.number) (not-true (has_number ns s.number) t.1) (drawn q s o.0 t.0 o.1 d)
      unneeded q s iq (inr is) d =
          let o = of_set q iq in
          let g = h.are_of q (in_table sets rows more q o.0) in
          let a = above s is in
          let b = needs_low m.table.last_announced q s (h.low_in_table q o.0) (λ x j e. (g.reds x j e).1) d in
          omega (arith, a, b)

  -- what settling leaves: more row sets, and the rows in their parts
  pub record Swept (before after : Merge) (sets : List (List Row)) : Type 0 where
    pub new : List (List Row)
    pub row_sets : after.row_sets ≡ before.row_sets ++ new
    pub parted : Parted f numbering more after.table (sets ++ new)

  nothing_swept : (m : Merge) (sets : List (List Row)) → Parted f numbering more m.table sets → Swept m m sets
  nothing_swept m sets h = record { new = []; row_sets = sym (append-nil m.row_sets); parted = subst (λ z. Parted f numbering more m.table z) (sym (append-nil sets)) h }

  swept : (k : ℕ) (m : Merge) (sets : List (List Row)) → ((q : Row) → In q more → m.table.last_announced < q.number) → Parted f numbering more m.table sets → Swept m (with_ready_taken k m) sets
  swept zero m sets above h = nothing_swept m sets h
  swept (suc k) m sets above h = elim (find (is_ready m.table.rows) m.table.rows) as (λ o. find (is_ready m.table.rows) m.table.rows ≡ o → Swept m (elim o as (λ _. Merge) [ None ↦ m | Some r ↦ with_ready_taken k (with_set_taken (closure m.table.rows r.number) m) ]) sets) [
    | None ↦ λ e. nothing_swept m sets h
    | Some r ↦ λ e.
        let set = rows_with (closure m.table.rows r.number) m.table.rows in
        let one = taken_parted m sets r (find_in (is_ready m.table.rows) m.table.rows r e) (found_passes (is_ready m.table.rows) m.table.rows r e) above h in
        let s = swept k (with_set_taken (closure m.table.rows r.number) m) (sets ++ set ∷ []) above one in
        record {
          new = set ∷ s.new;
          row_sets = s.row_sets ∙ append_assoc m.row_sets (set ∷ []) s.new;
          parted = subst (λ z. Parted f numbering more (with_ready_taken k (with_set_taken (closure m.table.rows r.number) m)).table z) (append_assoc sets (set ∷ []) s.new) s.parted;
        }
  ] refl

  pub settled_parted : (m : Merge) (sets : List (List Row)) → ((q : Row) → In q more → m.table.last_announced < q.number) → Parted f numbering more m.table sets → Swept m (settled_merge m) sets
  settled_parted m sets above h =
      let s = swept (length m.table.rows) (painted_merge m) sets above (painted_parted f numbering more sets m h) in
      record { new = s.new; row_sets = s.row_sets; parted = s.parted }

-- ---- a row comes into the table

up_of : (f : Facts) (numbering : List NumberedTransaction) (low high : ℕ) (r : Row) → low ≤ high → IsOf f numbering low r → IsOf f numbering high r
up_of f numbering low high r le h = record {
  listed = h.listed;
  concerned = h.concerned;
  reds = λ x m e. let b = h.reds x m e in (b.0, omega (arith, b.1, le));
}

pub came_parted : (f : Facts) (numbering : List NumberedTransaction) (r : Row) (rest : List Row) (table : PaintedTable) (sets : List (List Row)) → table.last_announced < r.number → Parted f numbering (r ∷ rest) table sets → Parted f numbering rest (with_row r table) sets
came_parted f numbering r rest table sets lt h =
    let s = append_assoc table.rows (r ∷ []) rest in
    record {
      are_of = λ q i. up_of f numbering table.last_announced r.number q (omega (arith, lt)) (h.are_of q (subst (λ l. In q (joined sets ++ l)) s i));
      low_in_sets = λ q i. omega (arith, h.low_in_sets q i, lt);
      low_in_table = λ q i. ⊎_elim (λ j. omega (arith, h.low_in_table q j, lt)) (λ j. ⊎_elim (λ e. omega (arith, ap (λ z. z.number) e)) (λ z. absurd z) j) (in_append q table.rows (r ∷ []) i);
      not_white = h.not_white;
      apart = subst (NeedNoLater sets) (sym s) h.apart;
      there = λ n x i l c. subst (λ z. HasRow n (joined sets ++ z)) (sym s) (h.there n x i l c);
    }

-- ---- a transaction is numbered

pub get_places : (k n i : ℕ) → i < n → slice_get (places_from k n) i ≡ Some (k + i)
get_places k zero i lt = absurd (omega arith)
get_places k (suc n) zero lt = let e : k ≡ k + 0 = omega arith in ap (λ z. Some z) e
get_places k (suc n) (suc i) lt = let e : suc k + i ≡ k + suc i = omega arith in get_places (suc k) n i (omega arith) ∙ ap (λ z. Some z) e

concerned_of : (b : Bool) → is_concerned (Some (entry_of b)) ≡ b
concerned_of true = refl
concerned_of false = refl

not_red : (b : Bool) (m : ℕ) → entry_of b ≡ red m → ⊥
not_red true m e = cc
not_red false m e = cc

row_is_of : (f : Facts) (numbering : List NumberedTransaction) (high : ℕ) (n : NumberedTransaction) → In n numbering → IsOf f numbering high (row_of f n)
row_is_of f numbering high n i = record {
  listed = i;
  concerned = λ x lt.
      let z : 0 + x ≡ x = omega arith in
      ap is_concerned (get_mapped (λ x. entry_of (f.concerns n.source n.place x)) x (view_places f) x (get_places 0 (length f.slots) x lt ∙ ap (λ w. Some w) z)) ∙ concerned_of (f.concerns n.source n.place x);
  reds = λ x m e. let v = get_map (λ x. entry_of (f.concerns n.source n.place x)) x (view_places f) (red m) e in absurd (not_red (f.concerns n.source n.place v.0) m v.2);
}

old_of : (f : Facts) (numbering new : List NumberedTransaction) (high : ℕ) (r : Row) → IsOf f numbering high r → IsOf f (numbering ++ new) high r
old_of f numbering new high r h = record { listed = in_left (transaction_of r) numbering new h.listed; concerned = h.concerned; reds = h.reds }

pub numbered_parted : (f : Facts) (numbering : List NumberedTransaction) (n : NumberedTransaction) (more : List Row) (table : PaintedTable) (sets : List (List Row)) → table.last_announced < n.number → Parted f numbering more table sets → Parted f (numbering ++ n ∷ []) (more ++ announcement_of f n) table sets
numbered_parted f numbering n more table sets lt h = elim (list_any (λ x. f.concerns n.source n.place x) (view_places f)) as (λ b. list_any (λ x. f.concerns n.source n.place x) (view_places f) ≡ b → Parted f (numbering ++ n ∷ []) (more ++ cond b (row_of f n ∷ []) []) table sets) [
  | true ↦ λ any. record {
    are_of = λ q i. one q (where_it_is sets table.rows (more ++ row_of f n ∷ []) q i);
    low_in_sets = h.low_in_sets;
    low_in_table = h.low_in_table;
    not_white = h.not_white;
    apart = subst (NeedNoLater sets) (append_assoc table.rows more (row_of f n ∷ [])) (need_more sets (table.rows ++ more) (row_of f n ∷ []) (λ r q ir iq e. unneeded r q ir iq e) h.apart);
    there = λ m x i l c. ⊎_elim
        (λ j. let o = h.there m x j l c in (o.0, wider o.0 (where_it_is sets table.rows more o.0 o.1), o.2))
        (λ j. ⊎_elim (λ e. (row_of f n, on_the_way sets table.rows (more ++ row_of f n ∷ []) (row_of f n) (in_right (row_of f n) more (row_of f n ∷ []) (inl refl)), e)) (λ z. absurd z) j)
        (in_append m numbering (n ∷ []) i);
  }
  | false ↦ λ any. subst (λ z. Parted f (numbering ++ n ∷ []) z table sets) (sym (append-nil more)) (record {
    are_of = λ q i. old_of f numbering (n ∷ []) table.last_announced q (h.are_of q i);
    low_in_sets = h.low_in_sets;
    low_in_table = h.low_in_table;
    not_white = h.not_white;
    apart = h.apart;
    there = λ m x i l c. ⊎_elim
        (λ j. h.there m x j l c)
        (λ j. ⊎_elim (λ e. absurd (none any x l (subst (λ w. f.concerns w.source w.place x ≡ true) (sym e) c))) (λ z. absurd z) j)
        (in_append m numbering (n ∷ []) i);
  })
] refl
  where
    last : In n (numbering ++ n ∷ [])
    last = in_right n numbering (n ∷ []) (inl refl)

    one : (q : Row) → In q (joined sets) ⊎ (In q table.rows ⊎ In q (more ++ row_of f n ∷ [])) → IsOf f (numbering ++ n ∷ []) table.last_announced q
    one q (inl i) = old_of f numbering (n ∷ []) table.last_announced q (h.are_of q (in_set sets table.rows more q i))
    one q (inr (inl i)) = old_of f numbering (n ∷ []) table.last_announced q (h.are_of q (in_table sets table.rows more q i))
    one q (inr (inr i)) = ⊎_elim
        (λ j. old_of f numbering (n ∷ []) table.last_announced q (h.are_of q (on_the_way sets table.rows more q j)))
        (λ j. ⊎_elim (λ e. subst (λ w. IsOf f (numbering ++ n ∷ []) table.last_announced w) e (row_is_of f (numbering ++ n ∷ []) table.last_announced n last)) (λ z. absurd z) j)
        (in_append q more (row_of f n ∷ []) i)

    wider : (q : Row) → In q (joined sets) ⊎ (In q table.rows ⊎ In q more) → In q (joined sets ++ (table.rows ++ (more ++ row_of f n ∷ [])))
    wider q (inl i) = in_set sets table.rows (more ++ row_of f n ∷ []) q i
    wider q (inr (inl i)) = in_table sets table.rows (more ++ row_of f n ∷ []) q i
    wider q (inr (inr i)) = on_the_way sets table.rows (more ++ row_of f n ∷ []) q (in_left q more (row_of f n ∷ []) i)

    unneeded : (r q : Row) → In r (joined sets) → In q (row_of f n ∷ []) → needs r q ≡ true → ⊥
    unneeded r q ir (inr z) e = z
    unneeded r q ir (inl w) e =
        let g = h.are_of r (in_set sets table.rows more r ir) in
        let b = needs_low table.last_announced r q (h.low_in_sets r ir) (λ x j k. (g.reds x j k).1) e in
        omega (arith, b, lt, ap (λ z. z.number) w)

    none : list_any (λ x. f.concerns n.source n.place x) (view_places f) ≡ false → (x : ℕ) → x < length f.slots → f.concerns n.source n.place x ≡ true → ⊥
    none any x l c =
        let z : 0 + x ≡ x = omega arith in
        false≢true (sym any ∙ any_from (λ x. f.concerns n.source n.place x) (view_places f) x (subst (λ w. In w (places_from 0 (length f.slots))) z (in_places 0 (length f.slots) x l)) c)
