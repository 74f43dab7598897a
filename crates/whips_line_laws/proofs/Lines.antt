-- The lists of a view that have come to the merge, with the rows that they are painted in and the numbers of the lists that come.
use Rattle.std.proofs.Common.{◌≡◌, ℕ, zero, suc, ◌<◌, ◌≤◌, true, false, cond, leb, List, [], ◌∷◌, ◌++◌, Some, ◌+◌, refl, sym, ap, subst, ◌∙◌, arith, ◌⊎◌, inl, inr, ⊎_elim, append_assoc}
use Rattle.std.specs.Prelude.{slice_get, map, fold}
use Rattle.std.proofs.lemmas.Bool.{leb-true, le-leb}
use Rattle.whips_lists.proofs.InList.{In}
use Rattle.whips_lists.specs.Lists.{changed_at}
use Rattle.whips_lists.proofs.Options.{some_same}
use Rattle.whips_lists.proofs.ByPlace.{in_append, in_left, in_right, in_map, get_changed, get_changed_other, get_cases}
use Rattle.whips_flow.specs.Painted.{Row, Colour, black, white, red, reddened_entry, painted_row, painted_rows}
use Rattle.whips_flow.specs.Settling.{due_lists, later_lists, rows_after_lists}
use Rattle.whips_actions.specs.declared.action.ActionList.{ActionList}

-- ---- numbers that rise

abbrev pub uptos : List ActionList → List ℕ
uptos ls = map (λ (l : ActionList). l.upto) ls

abbrev pub Rising : List ℕ → Type 0
Rising [] = Unit {0}
Rising (n ∷ ns) = ((m : ℕ) → In m ns → n < m) × Rising ns

pub rising_right : (ms bs : List ℕ) → Rising (ms ++ bs) → Rising bs
rising_right [] bs h = h
rising_right (a ∷ ms) bs h = rising_right ms bs h.1

pub rising_across : (ms bs : List ℕ) (a b : ℕ) → Rising (ms ++ bs) → In a ms → In b bs → a < b
rising_across [] bs a b h i j = absurd i
rising_across (c ∷ ms) bs a b h (inl e) j = subst (λ z. z < b) e (h.0 b (in_right b ms bs j))
rising_across (c ∷ ms) bs a b h (inr i) j = rising_across ms bs a b h.1 i j

pub uptos_append : (ms bs : List ActionList) → uptos (ms ++ bs) ≡ uptos ms ++ uptos bs
uptos_append [] bs = refl
uptos_append (a ∷ ms) bs = ap (λ z. a.upto ∷ z) (uptos_append ms bs)

pub in_uptos : (l : ActionList) (ls : List ActionList) → In l ls → In l.upto (uptos ls)
in_uptos l [] i = absurd i
in_uptos l (m ∷ ls) (inl e) = inl (ap (λ (z : ActionList). z.upto) e)
in_uptos l (m ∷ ls) (inr i) = inr (in_uptos l ls i)

pub in_mapped : {A B : Type 0} (g : A → B) (q : A) (rows : List A) → In q rows → In (g q) (map g rows)
in_mapped g q [] i = absurd i
in_mapped g q (r ∷ rows) (inl e) = inl (ap g e)
in_mapped g q (r ∷ rows) (inr i) = inr (in_mapped g q rows i)

-- ---- the entry of a painted row

module _ (j : ℕ) where
  painted_other : (z x : ℕ) (q : Row) → (x ≡ z → ⊥) → slice_get (painted_row z j q).entries x ≡ slice_get q.entries x
  painted_other z x q ne = elim (leb q.number j) as (λ b. slice_get (cond b (changed_at z (reddened_entry j) q.entries) q.entries) x ≡ slice_get q.entries x) [
    | true ↦ get_changed_other (reddened_entry j) z x q.entries ne
    | false ↦ refl
  ]

  painted_high : (z x : ℕ) (q : Row) → j < q.number → slice_get (painted_row z j q).entries x ≡ slice_get q.entries x
  painted_high z x q lt = elim (leb q.number j) as (λ b. leb q.number j ≡ b → slice_get (cond b (changed_at z (reddened_entry j) q.entries) q.entries) x ≡ slice_get q.entries x) [
    | true ↦ λ e. absurd (omega (arith, leb-true q.number j e, lt))
    | false ↦ λ e. refl
  ] refl

  painted_here : (x : ℕ) (q : Row) → q.number ≤ j → slice_get q.entries x ≡ Some white → slice_get (painted_row x j q).entries x ≡ Some (red j)
  painted_here x q le e = subst (λ b. slice_get (cond b (changed_at x (reddened_entry j) q.entries) q.entries) x ≡ Some (red j)) (sym (le-leb q.number j le)) (get_changed (reddened_entry j) x q.entries white e)

  painted_red : (x k : ℕ) (q : Row) → slice_get q.entries x ≡ Some (red k) → slice_get (painted_row x j q).entries x ≡ Some (red k)
  painted_red x k q e = elim (leb q.number j) as (λ b. slice_get (cond b (changed_at x (reddened_entry j) q.entries) q.entries) x ≡ Some (red k)) [
    | true ↦ get_changed (reddened_entry j) x q.entries (red k) e
    | false ↦ e
  ]

  red_cases : (k : ℕ) (c : Colour) → reddened_entry j c ≡ red k → (c ≡ red k) ⊎ (k ≡ j)
  red_cases k black e = absurd (cc)
  red_cases k white e = inr (cc)
  red_cases k (red n) e = inl e

  painted_back : (x k : ℕ) (q : Row) → slice_get (painted_row x j q).entries x ≡ Some (red k) → (slice_get q.entries x ≡ Some (red k)) ⊎ (k ≡ j)
  painted_back x k q e = elim (leb q.number j) as (λ b. slice_get (cond b (changed_at x (reddened_entry j) q.entries) q.entries) x ≡ Some (red k) → (slice_get q.entries x ≡ Some (red k)) ⊎ (k ≡ j)) [
    | true ↦ λ h. ⊎_elim
        (λ c. ⊎_elim (λ a. inl (c.1.1 ∙ ap (λ w. Some w) a)) (λ a. inr a) (red_cases k c.1.0 c.1.2))
        (λ c. inl c.1)
        (get_cases (reddened_entry j) x x q.entries (red k) h)
    | false ↦ λ h. inl h
  ] e

-- ---- the line of a view

abbrev pub HasEntry : ℕ → ℕ → Colour → List Row → Type 0
HasEntry x n c rows = (q : Row) × In q rows × (q.number ≡ n) × (slice_get q.entries x ≡ Some c)

-- Of view x's lists ls, behind the last one that left with number base, the first are painted in rows of the table and the others wait; those that wait and those that come have white rows, in the table or on their way.
pub record Line (x base : ℕ) (rows more : List Row) (ls : List ActionList) (js coming : List ℕ) : Type 0 where
  pub painted : List ActionList
  pub waiting : List ActionList
  pub split : ls ≡ painted ++ waiting
  pub numbers : uptos waiting ≡ js
  pub own : (l : ActionList) → In l ls → l.view ≡ x
  pub low : (n : ℕ) → In n (uptos ls ++ coming) → base < n
  pub rising : Rising (uptos ls ++ coming)
  pub reds : (l : ActionList) → In l painted → HasEntry x l.upto (red l.upto) rows
  pub whites : (n : ℕ) → In n (js ++ coming) → HasEntry x n white (rows ++ more)
  pub back : (r : Row) (j : ℕ) → In r rows → slice_get r.entries x ≡ Some (red j) → In j (uptos painted)

-- ---- painting

module _ (x base : ℕ) (more : List Row) (ls : List ActionList) (coming : List ℕ) where
  -- a list of another view
  other_painted : (z j : ℕ) (rows : List Row) (js : List ℕ) → (x ≡ z → ⊥) → Line x base rows more ls js coming → Line x base (painted_rows z rows j) more ls js coming
  other_painted z j rows js ne h = record {
    painted = h.painted;
    waiting = h.waiting;
    split = h.split;
    numbers = h.numbers;
    own = h.own;
    low = h.low;
    rising = h.rising;
    reds = λ l i. let q = h.reds l i in (painted_row z j q.0, in_mapped (painted_row z j) q.0 rows q.1, q.2, painted_other j z x q.0 ne ∙ q.3);
    whites = λ n i. let q = h.whites n i in ⊎_elim
        (λ k. (painted_row z j q.0, in_left (painted_row z j q.0) (painted_rows z rows j) more (in_mapped (painted_row z j) q.0 rows k), q.2, painted_other j z x q.0 ne ∙ q.3))
        (λ k. (q.0, in_right q.0 (painted_rows z rows j) more k, q.2, q.3))
        (in_append q.0 rows more q.1);
    back = λ r k i e. let q = in_map (painted_row z j) r rows i in h.back q.0 k q.1 (sym (painted_other j z x q.0 ne) ∙ (ap (λ (w : Row). slice_get w.entries x) q.2 ∙ e));
  }

  others_painted : (z : ℕ) (ks : List ℕ) (rows : List Row) (js : List ℕ) → (x ≡ z → ⊥) → Line x base rows more ls js coming → Line x base (fold (painted_rows z) rows ks) more ls js coming
  others_painted z [] rows js ne h = h
  others_painted z (k ∷ ks) rows js ne h = others_painted z ks (painted_rows z rows k) js ne (other_painted z k rows js ne h)

  -- the view's oldest list that waits
  one_painted : (j : ℕ) (js : List ℕ) (rows : List Row) → ((q : Row) → In q more → j < q.number) → Line x base rows more ls (j ∷ js) coming → Line x base (painted_rows x rows j) more ls js coming
  one_painted j js rows above h = go h.waiting h.split h.numbers
    where
      here : HasEntry x j (red j) (painted_rows x rows j)
      here = let q = h.whites j (inl refl) in ⊎_elim
          (λ k. (painted_row x j q.0, in_mapped (painted_row x j) q.0 rows k, q.2, painted_here j x q.0 (omega (arith, q.2)) q.3))
          (λ k. absurd (omega (arith, above q.0 k, q.2)))
          (in_append q.0 rows more q.1)

      higher : (waiting : List ActionList) → ls ≡ h.painted ++ waiting → uptos waiting ≡ j ∷ js → (n : ℕ) → In n (js ++ coming) → j < n
      higher waiting split numbers n i =
          let r : Rising (uptos h.painted ++ (uptos waiting ++ coming)) = subst Rising (ap (λ z. uptos z ++ coming) split ∙ (ap (λ z. z ++ coming) (uptos_append h.painted waiting) ∙ append_assoc (uptos h.painted) (uptos waiting) coming)) h.rising in
          let w : Rising (j ∷ (js ++ coming)) = subst (λ z. Rising (z ++ coming)) numbers (rising_right (uptos h.painted) (uptos waiting ++ coming) r) in
          w.0 n i

      go : (waiting : List ActionList) → ls ≡ h.painted ++ waiting → uptos waiting ≡ j ∷ js → Line x base (painted_rows x rows j) more ls js coming
      go [] split numbers = absurd (cc)
      go (l ∷ waiting) split numbers =
          let first : l.upto ≡ j = cc in
          record {
            painted = h.painted ++ l ∷ [];
            waiting = waiting;
            split = split ∙ sym (append_assoc h.painted (l ∷ []) waiting);
            numbers = cc;
            own = h.own;
            low = h.low;
            rising = h.rising;
            reds = λ m i. ⊎_elim
                (λ k. let q = h.reds m k in (painted_row x j q.0, in_mapped (painted_row x j) q.0 rows q.1, q.2, painted_red j x m.upto q.0 q.3))
                (λ k. ⊎_elim (λ e. subst (λ n. HasEntry x n (red n) (painted_rows x rows j)) (sym first ∙ ap (λ (w : ActionList). w.upto) e) here) (λ w. absurd w) k)
                (in_append m h.painted (l ∷ []) i);
            whites = λ n i. let q = h.whites n (inr i) in ⊎_elim
                (λ k. (painted_row x j q.0, in_left (painted_row x j q.0) (painted_rows x rows j) more (in_mapped (painted_row x j) q.0 rows k), q.2, painted_high j x x q.0 (omega (arith, q.2, higher (l ∷ waiting) split numbers n i)) ∙ q.3))
                (λ k. (q.0, in_right q.0 (painted_rows x rows j) more k, q.2, q.3))
                (in_append q.0 rows more q.1);
            back = λ r k i e.
                let q = in_map (painted_row x j) r rows i in
                subst (λ z. In k z) (sym (uptos_append h.painted (l ∷ [])))
                (⊎_elim
                (λ o. in_left k (uptos h.painted) (l.upto ∷ []) (h.back q.0 k q.1 o))
                (λ o. in_right k (uptos h.painted) (l.upto ∷ []) (inl (first ∙ sym o)))
                (painted_back j x k q.0 (ap (λ (w : Row). slice_get w.entries x) q.2 ∙ e)));
          }

  -- all lists of the view that are due
  due_painted : (high : ℕ) (js : List ℕ) (rows : List Row) → ((q : Row) → In q more → high < q.number) → Line x base rows more ls js coming → Line x base (fold (painted_rows x) rows (due_lists high js)) more ls (later_lists high js) coming
  due_painted high [] rows above h = h
  due_painted high (j ∷ js) rows above h = elim (leb j high) as (λ b. leb j high ≡ b → Line x base (fold (painted_rows x) rows (cond b (j ∷ due_lists high js) [])) more ls (cond b (later_lists high js) (j ∷ js)) coming) [
    | true ↦ λ e. due_painted high js (painted_rows x rows j) above (one_painted j js rows (λ q i. omega (arith, above q i, leb-true j high e)) h)
    | false ↦ λ e. h
  ] refl

  past_painted : (high z : ℕ) (lists : List (List ℕ)) (rows : List Row) (js : List ℕ) → x < z → Line x base rows more ls js coming → Line x base (rows_after_lists high z lists rows) more ls js coming
  past_painted high z [] rows js lt h = h
  past_painted high z (ks ∷ lists) rows js lt h = past_painted high (suc z) lists (fold (painted_rows z) rows (due_lists high ks)) js (omega (arith, lt)) (others_painted z (due_lists high ks) rows js (λ e. omega (arith, e, lt)) h)

  pub all_painted : (high z i : ℕ) (lists : List (List ℕ)) (rows : List Row) (js : List ℕ) → ((q : Row) → In q more → high < q.number) → x ≡ z + i → slice_get lists i ≡ Some js → Line x base rows more ls js coming → Line x base (rows_after_lists high z lists rows) more ls (later_lists high js) coming
  all_painted high z i [] rows js above e at h = absurd (cc)
  all_painted high z zero (ks ∷ lists) rows js above e at h =
      let same : ks ≡ js = some_same ks js at in
      let xz : z ≡ x = omega (arith, e) in
      past_painted high (suc z) lists (fold (painted_rows z) rows (due_lists high ks)) (later_lists high js) (omega (arith, e))
      (subst (λ w. Line x base (fold (painted_rows w) rows (due_lists high ks)) more ls (later_lists high js) coming) (sym xz)
      (subst (λ w. Line x base (fold (painted_rows x) rows (due_lists high w)) more ls (later_lists high js) coming) (sym same) (due_painted high js rows above h)))
  all_painted high z (suc i) (ks ∷ lists) rows js above e at h = all_painted high (suc z) i lists (fold (painted_rows z) rows (due_lists high ks)) js above (omega (arith, e)) at (others_painted z (due_lists high ks) rows js (λ q. omega (arith, q, e)) h)
