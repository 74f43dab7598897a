-- A version has, of what concerns a view, exactly what the view's last list in it covers.
use Rattle.std.proofs.Common.{◌≡◌, ℕ, zero, suc, ◌<◌, ◌≤◌, max, true, List, [], ◌∷◌, ◌++◌, length, take, drop, Option, Some, None, refl, sym, ap, subst, ◌∙◌, arith, ◌⊎◌, inl, inr, ⊎_elim}
use Rattle.std.specs.Prelude.{slice_get, slice_index, map, fold, replicate}
use Rattle.std.specs.List.{flat_map}
use Rattle.std.proofs.lemmas.Bool.{le-leb, cases_lt}
use Rattle.whips_lists.specs.Lists.{changed_at}
use Rattle.whips_flow.specs.Facts.{Facts}
use Rattle.whips_flow.specs.Painted.{Row, Colour, black, white, red, is_concerned, needs}
use Rattle.whips_flow.specs.State.{NumberedTransaction, Pipeline, zero_cut, version_cuts}
use Rattle.whips_flow.specs.Cuts.{raised_cut, cut_after}
use Rattle.whips_closure_laws.proofs.Grown.{draws_entries}
use Rattle.whips_lists.proofs.InList.{In}
use Rattle.whips_cut_laws.proofs.Lined.{joined}
use Rattle.whips_cut_laws.proofs.Places.{index_here, cut_after_up, cut_after_length, raised_length}
use Rattle.whips_lists.proofs.ByPlace.{in_append, in_left, in_right, in_map}
use Rattle.std.proofs.lemmas.List.{length-replicate}
use Rattle.whips_facts.specs.Values.{list_of_entry, last_list}
use Rattle.whips_version_laws.proofs.Counts.{of_source, counted_up_to, same_number, Placed, placed}
use Rattle.whips_version_laws.proofs.Later.{in_taken, in_parts, concerned_entry, need_at}
use Rattle.whips_version_laws.proofs.Painting.{transaction_of}
use Rattle.whips_version_laws.proofs.Parted.{IsOf}
use Rattle.whips_version_laws.proofs.Versioned.{version_cut}
use Rattle.whips_version_laws.proofs.Kept.{Kept}

-- ---- the cut after rows

-- a row's place is counted
place_counted : (cut : List ℕ) (rows : List Row) (r : Row) → In r rows → r.source < length cut → r.place ≤ slice_index (cut_after cut rows) r.source
place_counted cut [] r i lt = absurd i
place_counted cut (q ∷ rows) r (inl e) lt = subst (λ w. w.place ≤ slice_index (cut_after (raised_cut cut q) rows) w.source) e (counted (subst (λ w. w.source < length cut) (sym e) lt))
  where
    counted : q.source < length cut → q.place ≤ slice_index (cut_after (raised_cut cut q) rows) q.source
    counted l = omega (arith, index_here (max q.place) q.source cut l, cut_after_up (raised_cut cut q) rows q.source)
place_counted cut (q ∷ rows) r (inr i) lt = place_counted (raised_cut cut q) rows r i (omega (arith, lt, raised_length cut q))

raised_from : (n i y k : ℕ) (xs : List ℕ) → k ≤ slice_index (changed_at i (max n) xs) y → (k ≤ slice_index xs y) ⊎ ((i ≡ y) × (k ≤ n))
raised_from n i y k [] le = inl le
raised_from n zero zero k (x ∷ xs) le = ⊎_elim (λ lt. inr (refl, omega (arith, le, lt))) (λ ge. inl (omega (arith, le, ge))) (cases_lt x n)
raised_from n zero (suc y) k (x ∷ xs) le = inl le
raised_from n (suc i) zero k (x ∷ xs) le = inl le
raised_from n (suc i) (suc y) k (x ∷ xs) le = ⊎_elim (λ h. inl h) (λ h. inr (ap suc h.0, h.1)) (raised_from n i y k xs le)

-- what is counted was counted before, or a row goes as far
counted_from : (y k : ℕ) (cut : List ℕ) (rows : List Row) → k ≤ slice_index (cut_after cut rows) y → (k ≤ slice_index cut y) ⊎ ((r : Row) × In r rows × (r.source ≡ y) × (k ≤ r.place))
counted_from y k cut [] le = inl le
counted_from y k cut (q ∷ rows) le = ⊎_elim
    (λ h. ⊎_elim (λ o. inl o) (λ o. inr (q, inl refl, o.0, o.1)) (raised_from q.place q.source y k cut h))
    (λ r. inr (r.0, inr r.1, r.2, r.3))
    (counted_from y k (raised_cut cut q) rows le)

zeros_at : (n y : ℕ) → slice_index (replicate n 0) y ≡ 0
zeros_at zero y = refl
zeros_at (suc n) zero = refl
zeros_at (suc n) (suc y) = zeros_at n y

-- ---- the last list

above_first : (a : ℕ) (xs : List ℕ) → a ≤ fold max a xs
above_first a [] = omega arith
above_first a (x ∷ xs) = omega (arith, above_first (max a x) xs)

above_each : (a : ℕ) (xs : List ℕ) (x : ℕ) → In x xs → x ≤ fold max a xs
above_each a [] x i = absurd i
above_each a (y ∷ xs) x (inl e) = omega (arith, e, above_first (max a y) xs)
above_each a (y ∷ xs) x (inr i) = above_each (max a y) xs x i

greatest_from : (a : ℕ) (xs : List ℕ) → (fold max a xs ≡ a) ⊎ In (fold max a xs) xs
greatest_from a [] = inl refl
greatest_from a (x ∷ xs) = ⊎_elim
    (λ e. ⊎_elim (λ lt. inr (inl (omega (arith, e, lt)))) (λ ge. inl (omega (arith, e, ge))) (cases_lt a x))
    (λ i. inr (inr i))
    (greatest_from (max a x) xs)

flat_joined : (sets : List (List Row)) → flat_map (λ set. set) sets ≡ joined sets
flat_joined [] = refl
flat_joined (set ∷ sets) = ap (λ z. set ++ z) (flat_joined sets)

in_mapped : (g : Row → ℕ) (q : Row) (rows : List Row) → In q rows → In (g q) (map g rows)
in_mapped g q [] i = absurd i
in_mapped g q (r ∷ rows) (inl e) = inl (ap g e)
in_mapped g q (r ∷ rows) (inr i) = inr (in_mapped g q rows i)

red_of : (o : Option Colour) (j : ℕ) → 0 < j → list_of_entry o ≡ j → o ≡ Some (red j)
red_of None j lt e = absurd (omega arith)
red_of (Some black) j lt e = absurd (omega arith)
red_of (Some white) j lt e = absurd (omega arith)
red_of (Some (red k)) j lt e = ap (λ z. Some (red z)) e

module _ (x : ℕ) (sets : List (List Row)) where
  abbrev numbers : List ℕ
  numbers = map (λ r. list_of_entry (slice_get r.entries x)) (flat_map (λ set. set) sets)

  -- each list of the view in these sets is one up to the last
  pub up_to_last : (r : Row) (j : ℕ) → In r (joined sets) → slice_get r.entries x ≡ Some (red j) → j ≤ last_list x sets
  up_to_last r j i e = omega (arith, ap list_of_entry e, above_each 0 numbers (list_of_entry (slice_get r.entries x)) (in_mapped (λ r. list_of_entry (slice_get r.entries x)) r (flat_map (λ set. set) sets) (subst (λ l. In r l) (sym (flat_joined sets)) i)))

  -- the last list is there, if there is any
  pub last_there : 0 < last_list x sets → (r : Row) × In r (joined sets) × (slice_get r.entries x ≡ Some (red (last_list x sets)))
  last_there lt = ⊎_elim
      (λ e. absurd (omega (arith, e, lt)))
      (λ i. let r = in_map (λ r. list_of_entry (slice_get r.entries x)) (last_list x sets) (flat_map (λ set. set) sets) i in (r.0, subst (λ l. In r.0 l) (flat_joined sets) r.1, red_of (slice_get r.0.entries x) (last_list x sets) lt r.2))
      (greatest_from 0 numbers)

-- ---- both ways

-- the cut of a version is that of the first sets
module _ (f : Facts) (p : Pipeline) (sets : List (List Row)) (h : Kept f p sets) (v : ℕ) (cut : List ℕ) (at : slice_get (version_cuts p) v ≡ Some cut) where
  pub cut_is : cut ≡ cut_after (zero_cut f) (joined (take v sets))
  cut_is = version_cut (zero_cut f) p.writer p.merge.row_sets sets v cut h.versioned at

pub cut_long : (f : Facts) (v : ℕ) (sets : List (List Row)) (cut : List ℕ) → cut ≡ cut_after (zero_cut f) (joined (take v sets)) → length cut ≡ length f.transactions
cut_long f v sets cut is = ap length is ∙ (cut_after_length (zero_cut f) (joined (take v sets)) ∙ length-replicate {A = ℕ} (length f.transactions) 0)

module _ (f : Facts) (p : Pipeline) (sets : List (List Row)) (h : Kept f p sets) (x v : ℕ) (cut : List ℕ) (is_view : x < length f.slots) (is : cut ≡ cut_after (zero_cut f) (joined (take v sets))) (y k : ℕ) (is_source : y < length f.transactions) (positive : 0 < k) (concerned : f.concerns y k x ≡ true) where
  abbrev rest : List Row
  rest = p.merge.table.rows ++ p.announcements

  abbrev some : List Row
  some = joined (take v sets)

  abbrev last : ℕ
  last = last_list x (take v sets)

  abbrev Concerned : Row → Type 0
  Concerned q = (c : Colour) × (slice_get q.entries x ≡ Some c) × (is_concerned (Some c) ≡ true)

  -- a row of the first sets is of what was numbered
  row_is : (r : Row) → In r some → IsOf f p.numbering p.merge.table.last_announced r
  row_is r i = h.parted.are_of r (in_left r (joined sets) rest (in_taken v sets r i))

  -- a row that isn't in the first sets is behind them
  split : (q : Row) → In q (joined sets ++ rest) → In q some ⊎ In q (joined (drop v sets) ++ rest)
  split q i = ⊎_elim
      (λ j. ⊎_elim (λ a. inl a) (λ a. inr (in_left q (joined (drop v sets)) rest a)) (in_parts v sets q j))
      (λ j. inr (in_right q (joined (drop v sets)) rest j))
      (in_append q (joined sets) rest i)

  -- the transaction concerns the view, however its source and place are written
  concerned_at : (z j : ℕ) → z ≡ y → j ≡ k → f.concerns z j x ≡ true
  concerned_at z j zy jk = ap (λ w. f.concerns w j x) zy ∙ (ap (λ w. f.concerns y w x) jk ∙ concerned)

  -- its row has an entry for the view
  concerned_there : (q : Row) → In q (joined sets ++ rest) → q.source ≡ y → q.place ≡ k → Concerned q
  concerned_there q i qy qk = concerned_entry (slice_get q.entries x) ((h.parted.are_of q i).concerned x is_view ∙ concerned_at q.source q.place qy qk)

  -- the row of the transaction of source y at place k
  record RowOfIt (number : ℕ) : Type 0 where
    row : Row
    there : In row (joined sets ++ rest)
    number_is : row.number ≡ number
    source : row.source ≡ y
    place : row.place ≡ k
    entry : Concerned row

  row_of_it : (n : NumberedTransaction) → In n p.numbering → n.source ≡ y → n.place ≡ k → RowOfIt n.number
  row_of_it n i ny nk =
      let q = h.parted.there n x i is_view (concerned_at n.source n.place ny nk) in
      let source : q.0.source ≡ y = ap (λ z. z.source) q.2 ∙ ny in
      let place : q.0.place ≡ k = ap (λ z. z.place) q.2 ∙ nk in
      record { row = q.0; there = q.1; number_is = ap (λ z. z.number) q.2; source = source; place = place; entry = concerned_there q.0 q.1 source place }

  -- what the last list covers is counted
  pub covered_then_counted : k ≤ of_source y (take last p.numbering) → k ≤ slice_index cut y
  covered_then_counted le =
      let n = placed p.numbering h.counted.numbered y k last positive le in
      let q = row_of_it n.it n.there n.source n.place in
      let r = last_there x (take v sets) (omega (arith, n.low, n.positive)) in
      ⊎_elim
      (λ i. counted q.row i q.source q.place)
      (λ i. absurd (need_at v sets rest h.parted.apart r.0 q.row r.1 i (needed r.0 q.row r.2 (omega (arith, q.number_is, n.low)) q.entry)))
      (split q.row q.there)
    where
      counted : (q : Row) → In q some → q.source ≡ y → q.place ≡ k → k ≤ slice_index cut y
      counted q i qy qk =
          let a = place_counted (zero_cut f) some q i (omega (arith, qy, is_source, length-replicate {A = ℕ} (length f.transactions) 0)) in
          let b : slice_index (cut_after (zero_cut f) some) q.source ≡ slice_index cut y = ap (slice_index (cut_after (zero_cut f) some)) qy ∙ ap (λ z. slice_index z y) (sym is) in
          omega (arith, a, b, qk)

      needed : (r q : Row) → slice_get r.entries x ≡ Some (red last) → q.number ≤ last → Concerned q → needs r q ≡ true
      needed r q e le (c, d, i) = (draws_entries r q).1 (inl (x, record { mine = red last; its = c; mine_is = e; its_is = d; concerned = i; needed = le-leb q.number last le }))

  -- what is counted the last list covers
  pub counted_then_covered : k ≤ slice_index cut y → k ≤ of_source y (take last p.numbering)
  counted_then_covered le = ⊎_elim
      (λ z. absurd (omega (arith, z, zeros_at (length f.transactions) y, positive)))
      (λ r. from r.0 r.1 r.2 r.3)
      (counted_from y k (zero_cut f) some (omega (arith, le, ap (λ z. slice_index z y) is)))
    where
      -- a row of the first sets that concerns the view is red with one of its lists there
      covered : (q : Row) → In q some → Concerned q → q.number ≤ last
      covered q i (black, e, c) = absurd (cc)
      covered q i (white, e, c) = absurd (h.parted.not_white q x (in_taken v sets q i) e)
      covered q i (red m, e, c) = omega (arith, ((row_is q i).reds x m e).0, up_to_last x (take v sets) q m i e)

      finish : (q : Row) → In q some → q.source ≡ y → q.place ≡ k → Concerned q → k ≤ of_source y (take last p.numbering)
      finish q i qy qk c =
          let a = counted_up_to p.numbering h.counted.numbered (transaction_of q) last (row_is q i).listed (covered q i c) in
          omega (arith, a, qk, ap (λ z. of_source z (take last p.numbering)) qy)

      -- the transaction is that of r, or an earlier one of its source, which r needs
      earlier : (r : Row) → In r some → r.source ≡ y → (n : Placed p.numbering h.counted.numbered y k r.number) → RowOfIt n.it.number → k ≤ of_source y (take last p.numbering)
      earlier r ir ry n q = ⊎_elim
          (λ i. finish q.row i q.source q.place q.entry)
          (λ i. ⊎_elim
          (λ lt. absurd (need_at v sets rest h.parted.apart r q.row ir i ((draws_entries r q.row).1 (inr (ry ∙ sym q.source, lt)))))
          (λ ge.
          let same : n.it ≡ transaction_of r = same_number p.numbering h.counted.numbered n.it (transaction_of r) n.there (row_is r ir).listed (omega (arith, ge, q.number_is, n.low)) in
          let place : r.place ≡ k = ap (λ z. z.place) (sym same) ∙ n.place in
          finish r ir ry place (concerned_there r (in_left r (joined sets) rest (in_taken v sets r ir)) ry place))
          (cases_lt q.row.number r.number))
          (split q.row q.there)

      from : (r : Row) → In r some → r.source ≡ y → k ≤ r.place → k ≤ of_source y (take last p.numbering)
      from r ir ry rk =
          let own = counted_up_to p.numbering h.counted.numbered (transaction_of r) r.number (row_is r ir).listed (omega arith) in
          let n = placed p.numbering h.counted.numbered y k r.number positive (omega (arith, own, rk, ap (λ z. of_source z (take r.number p.numbering)) ry)) in
          earlier r ir ry n (row_of_it n.it n.there n.source n.place)
