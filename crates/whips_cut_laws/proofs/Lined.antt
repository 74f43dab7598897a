-- The rows in line: the sets that wait for the writer, the table, and the rows that come.
use Rattle.std.proofs.Common.{◌≡◌, ℕ, zero, suc, ◌≤◌, Bool, true, false, not, List, [], ◌∷◌, ◌++◌, length, Some, None, cond, eqb, ltb, refl, sym, ap, subst, ◌∙◌, inl, inr, append_assoc, append-nil}
use Rattle.std.specs.Prelude.{filter, fold, find}
use Rattle.std.specs.List.{AllByRecursion}
use Rattle.std.proofs.lemmas.Bool.{eq-eqb, lt-ltb, or_right, and_from, false≢true}
use Rattle.whips_flow.specs.Painted.{Row, painted_rows, needs, some_entry_needs, has_number, closure, is_ready}
use Rattle.whips_flow.specs.State.{Merge}
use Rattle.whips_flow.specs.Cuts.{raised_cut, cut_after}
use Rattle.whips_flow.specs.Settling.{due_lists, rows_after_lists, painted_merge, with_set_taken, with_ready_taken, settled_merge}
use Rattle.whips_closure_laws.specs.Closure.{IsClosed}
use Rattle.whips_closure_laws.proofs.Grown.{closure_least}
use Rattle.whips_lists.proofs.InList.{In, all_in}
use Rattle.whips_cut_laws.proofs.Places.{cut_after_append, cut_after_split, Climbs, climbs_append, climbs_front, climbs_back, climbs_split, NoneOf, GoesFirst, AllAbove, Rising}
use Rattle.whips_lists.proofs.Options.{some_same}

abbrev pub joined : List (List Row) → List Row
joined [] = []
joined (set ∷ sets) = set ++ joined sets

abbrev pub AllUpTo : ℕ → List Row → Type 0
AllUpTo n [] = Unit {0}
AllUpTo n (r ∷ rows) = (r.number ≤ n) × AllUpTo n rows

abbrev pub IsFilled : List Row → Type 0
IsFilled [] = ⊥
IsFilled (r ∷ rows) = Unit {0}

abbrev pub AllFilled : List (List Row) → Type 0
AllFilled [] = Unit {0}
AllFilled (set ∷ sets) = IsFilled set × AllFilled sets

-- the rows and those behind them climb from the cut to the top, in the order of their numbers
pub record InLine (cut top : List ℕ) (n : ℕ) (more rows : List Row) : Type 0 where
  pub climbs : Climbs cut (rows ++ more)
  pub top_is : cut_after cut (rows ++ more) ≡ top
  pub rising : Rising (rows ++ more)
  pub below : AllUpTo n (rows ++ more)

pub record Lined (cut top : List ℕ) (n : ℕ) (more : List Row) (m : Merge) : Type 0 where
  pub sets_climb : Climbs cut (joined m.row_sets)
  pub filled : AllFilled m.row_sets
  pub in_line : InLine (cut_after cut (joined m.row_sets)) top n more m.table.rows

-- ---- painting

module _ (x j : ℕ) (more : List Row) where
  paint_climbs : (cut : List ℕ) (rows : List Row) → Climbs cut (rows ++ more) → Climbs cut (painted_rows x rows j ++ more)
  paint_climbs cut [] h = h
  paint_climbs cut (r ∷ rows) h = (h.0, h.1, paint_climbs (raised_cut cut r) rows h.2)

  paint_top : (cut : List ℕ) (rows : List Row) → cut_after cut (painted_rows x rows j ++ more) ≡ cut_after cut (rows ++ more)
  paint_top cut [] = refl
  paint_top cut (r ∷ rows) = paint_top (raised_cut cut r) rows

  paint_above : (n : ℕ) (rows : List Row) → AllAbove n (rows ++ more) → AllAbove n (painted_rows x rows j ++ more)
  paint_above n [] h = h
  paint_above n (r ∷ rows) h = (h.0, paint_above n rows h.1)

  paint_rising : (rows : List Row) → Rising (rows ++ more) → Rising (painted_rows x rows j ++ more)
  paint_rising [] h = h
  paint_rising (r ∷ rows) h = (paint_above r.number rows h.0, paint_rising rows h.1)

  paint_below : (n : ℕ) (rows : List Row) → AllUpTo n (rows ++ more) → AllUpTo n (painted_rows x rows j ++ more)
  paint_below n [] h = h
  paint_below n (r ∷ rows) h = (h.0, paint_below n rows h.1)

module _ (cut top : List ℕ) (n : ℕ) (more : List Row) where
  paint_line : (x j : ℕ) (rows : List Row) → InLine cut top n more rows → InLine cut top n more (painted_rows x rows j)
  paint_line x j rows h = record {
    climbs = paint_climbs x j more cut rows h.climbs;
    top_is = paint_top x j more cut rows ∙ h.top_is;
    rising = paint_rising x j more rows h.rising;
    below = paint_below x j more n rows h.below;
  }

  paints_line : (x : ℕ) (js : List ℕ) (rows : List Row) → InLine cut top n more rows → InLine cut top n more (fold (painted_rows x) rows js)
  paints_line x [] rows h = h
  paints_line x (j ∷ js) rows h = paints_line x js (painted_rows x rows j) (paint_line x j rows h)

  views_line : (announced x : ℕ) (waiting : List (List ℕ)) (rows : List Row) → InLine cut top n more rows → InLine cut top n more (rows_after_lists announced x waiting rows)
  views_line announced x [] rows h = h
  views_line announced x (js ∷ waiting) rows h = views_line announced (suc x) waiting (fold (painted_rows x) rows (due_lists announced js)) (paints_line x (due_lists announced js) rows h)

-- ---- a closure leaves

joined_push : (sets : List (List Row)) (set : List Row) → joined (sets ++ set ∷ []) ≡ joined sets ++ set
joined_push [] set = append-nil set
joined_push (s ∷ sets) set = ap (λ z. s ++ z) (joined_push sets set) ∙ sym (append_assoc s (joined sets) set)

filled_push : (sets : List (List Row)) (set : List Row) → AllFilled sets → IsFilled set → AllFilled (sets ++ set ∷ [])
filled_push [] set h g = (g, tt)
filled_push (s ∷ sets) set h g = (h.0, filled_push sets set h.1 g)

found_there : (test : Row → Bool) (rows : List Row) (r : Row) → find test rows ≡ Some r → In r rows
found_there test [] r h = absurd (cc)
found_there test (q ∷ rows) r h = elim (test q) as (λ b. cond b (Some q) (find test rows) ≡ Some r → In r (q ∷ rows)) [
  | true ↦ λ e. inl (some_same q r e)
  | false ↦ λ e. inr (found_there test rows r e)
] h

filled_filter : (p : Row → Bool) (rows : List Row) (r : Row) → In r rows → p r ≡ true → IsFilled (filter p rows)
filled_filter p [] r i h = absurd i
filled_filter p (q ∷ rows) r (inl e) h = rw (subst (λ z. p z ≡ true) (sym e) h) tt
filled_filter p (q ∷ rows) r (inr i) h = elim (p q) as (λ b. IsFilled (cond b (q ∷ filter p rows) (filter p rows))) [ true ↦ tt | false ↦ filled_filter p rows r i h ]

above_front : (n : ℕ) (rows more : List Row) → AllAbove n (rows ++ more) → AllAbove n rows
above_front n [] more h = tt
above_front n (r ∷ rows) more h = (h.0, above_front n rows more h.1)

rising_front : (rows more : List Row) → Rising (rows ++ more) → Rising rows
rising_front [] more h = tt
rising_front (r ∷ rows) more h = (above_front r.number rows more h.0, rising_front rows more h.1)

module _ (p : Row → Bool) (more : List Row) where
  above_filter : (n : ℕ) (rows : List Row) → AllAbove n (rows ++ more) → AllAbove n (filter p rows ++ more)
  above_filter n [] h = h
  above_filter n (r ∷ rows) h = elim (p r) as (λ b. AllAbove n (cond b (r ∷ filter p rows) (filter p rows) ++ more)) [ true ↦ (h.0, above_filter n rows h.1) | false ↦ above_filter n rows h.1 ]

  rising_filter : (rows : List Row) → Rising (rows ++ more) → Rising (filter p rows ++ more)
  rising_filter [] h = h
  rising_filter (r ∷ rows) h = elim (p r) as (λ b. Rising (cond b (r ∷ filter p rows) (filter p rows) ++ more)) [ true ↦ (above_filter r.number rows h.0, rising_filter rows h.1) | false ↦ rising_filter rows h.1 ]

  below_filter : (n : ℕ) (rows : List Row) → AllUpTo n (rows ++ more) → AllUpTo n (filter p rows ++ more)
  below_filter n [] h = h
  below_filter n (r ∷ rows) h = elim (p r) as (λ b. AllUpTo n (cond b (r ∷ filter p rows) (filter p rows) ++ more)) [ true ↦ (h.0, below_filter n rows h.1) | false ↦ below_filter n rows h.1 ]

module _ (rows : List Row) (ns : List ℕ) (closed : IsClosed rows ns) where
  abbrev goes : Row → Bool
  goes r = has_number ns r.number

  none_behind : (q : Row) → In q rows → goes q ≡ false → (sub : List Row) → ((r : Row) → In r sub → In r rows) → AllAbove q.number sub → NoneOf q.source (filter goes sub)
  none_behind q iq off [] there h = tt
  none_behind q iq off (r ∷ sub) there h = elim (goes r) as (λ b. goes r ≡ b → NoneOf q.source (cond b (r ∷ filter goes sub) (filter goes sub))) [
    | true ↦ λ e. (λ same. false≢true (sym off ∙ drawn same e), none_behind q iq off sub (λ s i. there s (inr i)) h.1)
    | false ↦ λ e. none_behind q iq off sub (λ s i. there s (inr i)) h.1
  ] refl
    where
      drawn : r.source ≡ q.source → goes r ≡ true → goes q ≡ true
      drawn same e = all_in (λ q. needs r q ≡ true → has_number ns q.number ≡ true) rows q (all_in (λ r. has_number ns r.number ≡ true → AllByRecursion (λ q. needs r q ≡ true → has_number ns q.number ≡ true) rows) rows r closed (there r (inl refl)) e) iq
          (or_right (some_entry_needs r.number r.entries q.number q.entries) _ (and_from (eqb r.source q.source) (ltb q.number r.number) (eq-eqb r.source q.source same) (lt-ltb q.number r.number h.0)))

  goes_first : (sub : List Row) → ((r : Row) → In r sub → In r rows) → Rising sub → GoesFirst goes sub
  goes_first [] there h = tt
  goes_first (q ∷ sub) there h = (λ off. none_behind q (there q (inl refl)) off sub (λ s i. there s (inr i)) h.0, goes_first sub (λ s i. there s (inr i)) h.1)

module _ (cut top : List ℕ) (n : ℕ) (more : List Row) where
  taken_lined : (m : Merge) (r : Row) → In r m.table.rows → Lined cut top n more m → Lined cut top n more (with_set_taken (closure m.table.rows r.number) m)
  taken_lined m r ir h =
      let ns = closure m.table.rows r.number in
      let least = closure_least m.table.rows r ir in
      let set = filter (λ q. has_number ns q.number) m.table.rows in
      let rest = filter (λ q. not (has_number ns q.number)) m.table.rows in
      let base = cut_after cut (joined m.row_sets) in
      let split = climbs_split (λ q. has_number ns q.number) base m.table.rows more (goes_first m.table.rows ns least.closed m.table.rows (λ s i. i) (rising_front m.table.rows more h.in_line.rising)) h.in_line.climbs in
      let e = joined_push m.row_sets set in
      let c : cut_after cut (joined (m.row_sets ++ set ∷ [])) ≡ cut_after base set = ap (cut_after cut) e ∙ cut_after_append cut (joined m.row_sets) set in
      record {
        sets_climb = subst (Climbs cut) (sym e) (climbs_append cut (joined m.row_sets) set h.sets_climb (climbs_front base set (rest ++ more) split));
        filled = filled_push m.row_sets set h.filled (filled_filter (λ q. has_number ns q.number) m.table.rows r ir least.own);
        in_line = subst (λ z. InLine z top n more rest) (sym c) (record {
          climbs = climbs_back base set (rest ++ more) split;
          top_is = sym (cut_after_append base set (rest ++ more)) ∙ (cut_after_split (λ q. has_number ns q.number) base m.table.rows more ∙ h.in_line.top_is);
          rising = rising_filter (λ q. not (has_number ns q.number)) more m.table.rows h.in_line.rising;
          below = below_filter (λ q. not (has_number ns q.number)) more n m.table.rows h.in_line.below;
        });
      }

  swept_lined : (k : ℕ) (m : Merge) → Lined cut top n more m → Lined cut top n more (with_ready_taken k m)
  swept_lined zero m h = h
  swept_lined (suc k) m h = elim (find (is_ready m.table.rows) m.table.rows) as (λ o. find (is_ready m.table.rows) m.table.rows ≡ o → Lined cut top n more (elim o as (λ _. Merge) [ None ↦ m | Some r ↦ with_ready_taken k (with_set_taken (closure m.table.rows r.number) m) ])) [
    | None ↦ λ e. h
    | Some r ↦ λ e. swept_lined k (with_set_taken (closure m.table.rows r.number) m) (taken_lined m r (found_there (is_ready m.table.rows) m.table.rows r e) h)
  ] refl

  pub settled_lined : (m : Merge) → Lined cut top n more m → Lined cut top n more (settled_merge m)
  settled_lined m h = swept_lined (length m.table.rows) (painted_merge m) (record { sets_climb = h.sets_climb; filled = h.filled; in_line = views_line (cut_after cut (joined m.row_sets)) top n more m.table.last_announced 0 m.waiting_lists m.table.rows h.in_line })
