-- A row set leaves the table, and with it the first lists of each view.
--
-- `takes_first`: of the lists of one view, those that a row set covers came before the others; `line_left`: the lists that are left are in their line behind the set.
--
-- The idea: a row set is a closure: with a row it has each concerned row up to that row's list. So where it covers a list it covers all earlier ones of the view, and the last of those is the last list of the set.
--
-- Three lemmas carry it: `drawn` (a closure has what its rows need), `covered_by` (a covered list has a row that is red with it) and `first_pass` (lists of which the first pass a test are those that do, and then the others).
use Rattle.std.proofs.Common.{◌≡◌, ℕ, ◌<◌, ◌≤◌, Bool, true, false, not, cond, List, [], ◌∷◌, ◌++◌, Option, Some, None, refl, sym, ap, ap₂, subst, ◌∙◌, arith, ◌⊎◌, inl, inr, ⊎_elim, append_assoc}
use Rattle.std.specs.Prelude.{slice_get, filter, ◌&&◌}
use Rattle.std.specs.List.{AllByRecursion}
use Rattle.std.proofs.lemmas.Bool.{le-leb, eqb-true, eq-eqb, false≢true, cases_lt, not-true, both_ways, and_from, false_from_ne_true}
use Rattle.whips_lists.proofs.InList.{In, all_in, any_from, any_to}
use Rattle.whips_lists.proofs.ByPlace.{in_append, in_left, in_right, in_map, in_filter, get_in}
use Rattle.whips_flow.specs.Facts.{Facts}
use Rattle.whips_flow.specs.State.{NumberedTransaction}
use Rattle.whips_flow.specs.Painted.{Row, Colour, black, white, red, is_concerned, is_white, is_waiting, is_ready, needs, has_number, closure, rows_with, rows_without}
use Rattle.whips_closure_laws.proofs.Grown.{draws_entries, closure_least}
use Rattle.whips_paint.specs.Table.{is_red}
use Rattle.whips_actions.specs.declared.action.ActionList.{ActionList}
use Rattle.whips_facts.specs.Values.{last_list}
use Rattle.whips_merge.specs.Merging.{covers, covers_any}
use Rattle.whips_version_laws.proofs.Later.{in_pushed, pushed_old, pushed_new}
use Rattle.whips_version_laws.proofs.Covered.{up_to_last, last_there}
use Rattle.whips_version_laws.proofs.Parted.{IsOf, filter_in, all_true}
use Rattle.whips_list_laws.specs.Merged.{last_upto}
use Rattle.whips_line_laws.proofs.Lines.{uptos, Rising, rising_right, rising_across, uptos_append, in_uptos, Line}

-- ---- lists of which the first pass

abbrev pub FirstPass : (ActionList → Bool) → List ActionList → Type 0
FirstPass C [] = Unit {0}
FirstPass C (l ∷ ls) = ((m : ActionList) → In m ls → C m ≡ true → C l ≡ true) × FirstPass C ls

module _ (C : ActionList → Bool) where
  none_pass : (ls : List ActionList) → ((m : ActionList) → In m ls → C m ≡ false) → filter C ls ≡ []
  none_pass [] h = refl
  none_pass (l ∷ ls) h = ap₂ (λ b more. cond b (l ∷ more) more) (h l (inl refl)) (none_pass ls (λ m i. h m (inr i)))

  pub all_stay : (ls : List ActionList) → ((m : ActionList) → In m ls → C m ≡ false) → filter (λ m. not (C m)) ls ≡ ls
  all_stay [] h = refl
  all_stay (l ∷ ls) h = ap₂ (λ b more. cond (not b) (l ∷ more) more) (h l (inl refl)) (all_stay ls (λ m i. h m (inr i)))

  pub first_pass : (ls : List ActionList) → FirstPass C ls → filter C ls ++ filter (λ m. not (C m)) ls ≡ ls
  first_pass [] h = refl
  first_pass (l ∷ ls) h = elim (C l) as (λ b. C l ≡ b → cond b (l ∷ filter C ls) (filter C ls) ++ cond (not b) (l ∷ filter (λ m. not (C m)) ls) (filter (λ m. not (C m)) ls) ≡ l ∷ ls) [
    | true ↦ λ e. ap (λ z. l ∷ z) (first_pass ls h.1)
    | false ↦ λ e.
        let off : (m : ActionList) → In m ls → C m ≡ false = λ m i. false_from_ne_true (C m) (λ t. false≢true (sym e ∙ h.0 m i t)) in
        ap₂ (λ a b. a ++ l ∷ b) (none_pass ls off) (all_stay ls off)
  ] refl

  pub filter_both : (xs ys : List ActionList) → filter C (xs ++ ys) ≡ filter C xs ++ filter C ys
  filter_both [] ys = refl
  filter_both (l ∷ xs) ys = elim (C l) as (λ b. cond b (l ∷ filter C (xs ++ ys)) (filter C (xs ++ ys)) ≡ cond b (l ∷ filter C xs) (filter C xs) ++ filter C ys) [ true ↦ ap (λ z. l ∷ z) (filter_both xs ys) | false ↦ filter_both xs ys ]

  pub passes_in : (m : ActionList) (ls : List ActionList) → In m ls → C m ≡ true → In m (filter C ls)
  passes_in m [] i h = absurd i
  passes_in m (l ∷ ls) (inl e) h = subst (λ b. In m (cond b (l ∷ filter C ls) (filter C ls))) (sym (subst (λ z. C z ≡ true) (sym e) h)) (inl e)
  passes_in m (l ∷ ls) (inr i) h = elim (C l) as (λ b. In m (cond b (l ∷ filter C ls) (filter C ls))) [ true ↦ inr (passes_in m ls i h) | false ↦ passes_in m ls i h ]

-- ---- the last of some lists

pub last_low : (base : ℕ) (xs : List ActionList) (rest : List ℕ) → ((n : ℕ) → In n (uptos xs ++ rest) → base < n) → Rising (uptos xs ++ rest) → (n : ℕ) → In n rest → last_upto base xs < n
last_low base [] rest low rising n i = low n i
last_low base (l ∷ xs) rest low rising n i = last_low l.upto xs rest rising.0 rising.1 n i

pub last_up : (base : ℕ) (xs : List ActionList) (rest : List ℕ) → ((n : ℕ) → In n (uptos xs ++ rest) → base < n) → Rising (uptos xs ++ rest) → (base ≤ last_upto base xs) × ((n : ℕ) → In n (uptos xs) → n ≤ last_upto base xs)
last_up base [] rest low rising = (omega arith, λ n i. absurd i)
last_up base (l ∷ xs) rest low rising =
    let ih = last_up l.upto xs rest rising.0 rising.1 in
    (omega (arith, low l.upto (inl refl), ih.0), λ n i. ⊎_elim (λ e. omega (arith, e, ih.0)) (λ j. ih.1 n j) i)

pub last_from : (base : ℕ) (xs : List ActionList) → (last_upto base xs ≡ base) ⊎ In (last_upto base xs) (uptos xs)
last_from base [] = inl refl
last_from base (l ∷ xs) = ⊎_elim (λ e. inr (inl (sym e))) (λ i. inr (inr i)) (last_from l.upto xs)

pub of_uptos : (n : ℕ) (ls : List ActionList) → In n (uptos ls) → (l : ActionList) × In l ls × (l.upto ≡ n)
of_uptos n ls i = in_map (λ (l : ActionList). l.upto) n ls i

red_is : (j : ℕ) (o : Option Colour) → is_red j o ≡ true → o ≡ Some (red j)
red_is j None h = absurd (false≢true h)
red_is j (Some black) h = absurd (false≢true h)
red_is j (Some white) h = absurd (false≢true h)
red_is j (Some (red k)) h = ap (λ n. Some (red n)) (eqb-true k j h)

-- ---- one set

module _ (f : Facts) (numbering : List NumberedTransaction) (high : ℕ) (rows more : List Row) (r : Row) (there : In r rows) (ready : is_ready rows r ≡ true) (are : (q : Row) → In q rows → IsOf f numbering high q)
    (x base : ℕ) (ls : List ActionList) (js coming : List ℕ) (h : Line x base rows more ls js coming) where
  abbrev ns : List ℕ
  ns = closure rows r.number

  abbrev set : List Row
  set = rows_with (closure rows r.number) rows

  abbrev rest : List Row
  rest = rows_without (closure rows r.number) rows

  abbrev C : ActionList → Bool
  C = covers_any (rows_with (closure rows r.number) rows)

  abbrev left : List ActionList
  left = filter (λ l. not (covers_any (rows_with (closure rows r.number) rows) l)) ls

  abbrev gone : List ActionList
  gone = filter (covers_any (rows_with (closure rows r.number) rows)) ls

  pub drawn : (q t : Row) → In q rows → In t rows → has_number (closure rows r.number) q.number ≡ true → needs q t ≡ true → has_number (closure rows r.number) t.number ≡ true
  drawn q t iq is e d = all_in (λ t. needs q t ≡ true → has_number ns t.number ≡ true) rows t (all_in (λ q. has_number ns q.number ≡ true → AllByRecursion (λ t. needs q t ≡ true → has_number ns t.number ≡ true) rows) rows q (closure_least rows r there).closed iq e) is d

  of_set : (q : Row) → In q set → In q rows × (has_number ns q.number ≡ true)
  of_set q i = in_filter (λ q. has_number ns q.number) q rows i

  -- a red row needs each concerned row up to its list
  red_needs : (q t : Row) (j : ℕ) (c : Colour) → slice_get q.entries x ≡ Some (red j) → slice_get t.entries x ≡ Some c → is_concerned (Some c) ≡ true → t.number ≤ j → needs q t ≡ true
  red_needs q t j c e d k le = (draws_entries q t).1 (inl (x, record { mine = red j; its = c; mine_is = e; its_is = d; concerned = k; needed = le-leb t.number j le }))

  -- a list is covered where a row of the set is red with it
  pub covered_by : (l : ActionList) → l.view ≡ x → C l ≡ true → (q : Row) × In q rows × (has_number ns q.number ≡ true) × (slice_get q.entries x ≡ Some (red l.upto))
  covered_by l v e =
      let q = any_to (covers l) set e in
      let o = of_set q.0 q.1 in
      (q.0, o.0, o.1, subst (λ z. slice_get q.0.entries z ≡ Some (red l.upto)) v (red_is l.upto (slice_get q.0.entries l.view) q.2))

  covering : (l : ActionList) → l.view ≡ x → (q : Row) → In q rows → has_number ns q.number ≡ true → slice_get q.entries x ≡ Some (red l.upto) → C l ≡ true
  covering l v q i e d = any_from (covers l) set q (filter_in (λ q. has_number ns q.number) q rows i e) (subst (λ z. is_red l.upto (slice_get q.entries z) ≡ true) (sym v) (subst (λ o. is_red l.upto o ≡ true) (sym d) (eq-eqb l.upto l.upto refl)))

  in_all : (l : ActionList) → In l (h.painted ++ h.waiting) → In l ls
  in_all l i = subst (λ z. In l z) (sym h.split) i

  own_painted : (l : ActionList) → In l h.painted → l.view ≡ x
  own_painted l i = h.own l (in_all l (in_left l h.painted h.waiting i))

  own_waiting : (l : ActionList) → In l h.waiting → l.view ≡ x
  own_waiting l i = h.own l (in_all l (in_right l h.painted h.waiting i))

  parted : Rising (uptos h.painted ++ (uptos h.waiting ++ coming))
  parted = subst Rising (ap (λ z. uptos z ++ coming) h.split ∙ (ap (λ z. z ++ coming) (uptos_append h.painted h.waiting) ∙ append_assoc (uptos h.painted) (uptos h.waiting) coming)) h.rising

  -- a list that waits isn't covered
  waits : (l : ActionList) → In l h.waiting → C l ≡ false
  waits l i = false_from_ne_true (C l) (λ e.
      let q = covered_by l (own_waiting l i) e in
      let lt = rising_across (uptos h.painted) (uptos h.waiting ++ coming) l.upto l.upto parted (h.back q.0 l.upto q.1 q.3) (in_left l.upto (uptos h.waiting) coming (in_uptos l h.waiting i)) in
      omega (arith, lt))

  -- with a list those before it are covered
  before : (l m : ActionList) → In l ls → In m ls → l.upto < m.upto → C m ≡ true → C l ≡ true
  before l m il im lt e =
      let q = covered_by m (h.own m im) e in
      let at = h.back q.0 m.upto q.1 q.3 in
      ⊎_elim
      (λ i.
      let t = h.reds l i in
      covering l (own_painted l i) t.0 t.1 (drawn q.0 t.0 q.1 t.1 q.2 (red_needs q.0 t.0 m.upto (red l.upto) q.3 t.3 refl (omega (arith, t.2, lt)))) t.3)
      (λ i. absurd (omega (arith, lt, rising_across (uptos h.painted) (uptos h.waiting ++ coming) m.upto l.upto parted at (in_left l.upto (uptos h.waiting) coming (in_uptos l h.waiting i)))))
      (in_append l h.painted h.waiting (subst (λ z. In l z) h.split il))

  in_order : (ms : List ActionList) → ((m : ActionList) → In m ms → In m ls) → Rising (uptos ms ++ coming) → FirstPass C ms
  in_order [] sub rising = tt
  in_order (l ∷ ms) sub rising = (
    λ m i e. before l m (sub l (inl refl)) (sub m (inr i)) (rising.0 m.upto (in_left m.upto (uptos ms) coming (in_uptos m ms i))) e,
    in_order ms (λ m i. sub m (inr i)) rising.1,
  )

  pub takes_first : filter C ls ++ filter (λ l. not (C l)) ls ≡ ls
  takes_first = first_pass C ls (in_order ls (λ m i. i) h.rising)

  -- the taken lists and those that are left, as numbers
  pub ordered : Rising (uptos gone ++ (uptos left ++ coming))
  ordered = subst Rising (ap (λ z. uptos z ++ coming) (sym takes_first) ∙ (ap (λ z. z ++ coming) (uptos_append gone left) ∙ append_assoc (uptos gone) (uptos left) coming)) h.rising

  pub lowest : (n : ℕ) → In n (uptos gone ++ (uptos left ++ coming)) → base < n
  lowest n i = h.low n (subst (λ z. In n z) (sym (ap (λ z. uptos z ++ coming) (sym takes_first) ∙ (ap (λ z. z ++ coming) (uptos_append gone left) ∙ append_assoc (uptos gone) (uptos left) coming))) i)

  stays_in : (q : Row) → In q rows → (has_number ns q.number ≡ true → ⊥) → In q rest
  stays_in q i off = filter_in (λ q. not (has_number ns q.number)) q rows i (ap not (false_from_ne_true (has_number ns q.number) off))

  pub line_left : Line x (last_upto base gone) rest more left js coming
  line_left = record {
    painted = filter (λ l. not (C l)) h.painted;
    waiting = h.waiting;
    split = ap (filter (λ l. not (C l))) h.split ∙ (filter_both (λ l. not (C l)) h.painted h.waiting ∙ ap (λ z. filter (λ l. not (C l)) h.painted ++ z) (all_stay C h.waiting waits));
    numbers = h.numbers;
    own = λ l i. h.own l (in_filter (λ l. not (C l)) l ls i).0;
    low = last_low base gone (uptos left ++ coming) lowest ordered;
    rising = rising_right (uptos gone) (uptos left ++ coming) ordered;
    reds = λ l i.
        let o = in_filter (λ l. not (C l)) l h.painted i in
        let q = h.reds l o.0 in
        (q.0, stays_in q.0 q.1 (λ e. both_ways (C l) (not-true (C l) o.1) (covering l (own_painted l o.0) q.0 q.1 e q.3)), q.2, q.3);
    whites = λ n i.
        let q = h.whites n i in
        ⊎_elim
        (λ k. (q.0, in_left q.0 rest more (stays_in q.0 k (λ e. unwhite q.0 k e q.3)), q.2, q.3))
        (λ k. (q.0, in_right q.0 rest more k, q.2, q.3))
        (in_append q.0 rows more q.1);
    back = λ q j i e.
        let o = in_filter (λ q. not (has_number ns q.number)) q rows i in
        let l = of_uptos j h.painted (h.back q j o.0 e) in
        subst (λ n. In n (uptos (filter (λ l. not (C l)) h.painted))) l.2
        (in_uptos l.0 (filter (λ l. not (C l)) h.painted)
        (passes_in (λ l. not (C l)) l.0 h.painted l.1 (ap not (false_from_ne_true (C l.0) (λ c.
        let t = covered_by l.0 (own_painted l.0 l.1) c in
        let low = ((are q o.0).reds x j e).0 in
        both_ways (has_number ns q.number) (not-true (has_number ns q.number) o.1) (drawn t.0 q t.1 o.0 t.2 (red_needs t.0 q l.0.upto (red j) t.3 e refl (omega (arith, low, l.2)))))))));
  }
    where
      unwhite : (q : Row) → In q rows → has_number ns q.number ≡ true → slice_get q.entries x ≡ Some white → ⊥
      unwhite q i n e =
          let both = and_from (has_number ns q.number) (is_waiting q) n (any_from is_white q.entries white (get_in x q.entries white e) refl) in
          both_ways (has_number ns q.number && is_waiting q) (not-true _ (all_true (λ q. not (has_number ns q.number && is_waiting q)) rows q ready i)) both

  -- the last of the taken lists is the last list of the set
  pub last_is : (sets : List (List Row)) → base ≡ last_list x sets → last_upto base gone ≡ last_list x (sets ++ set ∷ [])
  last_is sets e =
      let up = last_up base gone (uptos left ++ coming) lowest ordered in
      let all = sets ++ set ∷ [] in
      omega (arith, below up.0 up.1, above)
    where
      below : base ≤ last_upto base gone → ((n : ℕ) → In n (uptos gone) → n ≤ last_upto base gone) → last_list x (sets ++ set ∷ []) ≤ last_upto base gone
      below le each = ⊎_elim
          (λ lt.
          let q = last_there x (sets ++ set ∷ []) lt in
          ⊎_elim
          (λ i. omega (arith, up_to_last x sets q.0 (last_list x (sets ++ set ∷ [])) i q.2, e, le))
          (λ i.
          let o = of_set q.0 i in
          let l = of_uptos (last_list x (sets ++ set ∷ [])) h.painted (h.back q.0 (last_list x (sets ++ set ∷ [])) o.0 q.2) in
          let c = covering l.0 (own_painted l.0 l.1) q.0 o.0 o.1 (subst (λ n. slice_get q.0.entries x ≡ Some (red n)) (sym l.2) q.2) in
          omega (arith, each l.0.upto (in_uptos l.0 gone (passes_in C l.0 ls (in_all l.0 (in_left l.0 h.painted h.waiting l.1)) c)), l.2))
          (in_pushed sets set q.0 q.1))
          (λ ge. omega (arith, ge))
          (cases_lt 0 (last_list x (sets ++ set ∷ [])))

      above : last_upto base gone ≤ last_list x (sets ++ set ∷ [])
      above = ⊎_elim
          (λ same. ⊎_elim
          (λ lt. let q = last_there x sets lt in omega (arith, same, e, up_to_last x (sets ++ set ∷ []) q.0 (last_list x sets) (pushed_old sets set q.0 q.1) q.2))
          (λ ge. omega (arith, ge, same, e))
          (cases_lt 0 (last_list x sets)))
          (λ i.
          let l = of_uptos (last_upto base gone) gone i in
          let o = in_filter C l.0 ls l.1 in
          let q = covered_by l.0 (h.own l.0 o.0) o.1 in
          omega (arith, l.2, up_to_last x (sets ++ set ∷ []) q.0 l.0.upto (pushed_new sets set q.0 (filter_in (λ q. has_number ns q.number) q.0 rows q.1 q.2)) q.3))
          (last_from base gone)
