-- The marked rows are those that aren't ready, or those of a closure.
--
-- `ready_at` and `closure_at`: marks that spread from one row to all that it needs are its closure, and no marked row waits exactly where that row is ready. `first_ready_place`: marks that spread from the waiting rows to all that need them leave clear the rows that are ready.
--
-- The idea: what a spread has marked is the least set with the first marks that has, with each row, each row to which that one leads. The closure is the least closed set with its own row, so each of both sets is contained in the other. A row isn't ready exactly where its closure has a waiting row, so the rows that aren't ready are those that lead to a waiting one.
--
-- Four lemmas carry it: `marked_in_closure` (the marks are the closure), `closure_filters` (a closure's numbers are those of a filter of the rows, so in their order), `not_ready_back` (a row that needs one that isn't ready isn't ready) and `unready_marked` (a row is clear exactly where it is ready).
use Rattle.std.proofs.Common.{◌≡◌, ℕ, zero, suc, ◌+◌, ◌<◌, ◌≤◌, Bool, true, false, ◌&&◌, ◌||◌, List, [], ◌∷◌, ◌++◌, length, Result, Ok, Err, cond, eqb, ltb, Option, Some, None, refl, sym, ap, ap₂, subst, ◌∙◌, arith, inl, inr, ⊎_elim}
use Rattle.std.specs.Prelude.{slice_get, not, map, replicate, filter, position}
use Rattle.std.specs.List.{AllPairs, AllByRecursion, list_all, zip, find, position_or_len}
use Rattle.std.specs.Option.{option_map}
use Rattle.std.proofs.Math.ListN.{set, get_or, take, drop}
use Rattle.std.proofs.lemmas.Bool.{cases_eq, cases_lt, cases_order, cases_Bool, false≢true, eq-eqb, eqb-true, ne_eqb, ltb-true, lt-ltb, le-ltb, or_left, or_right, or_cases}
use Rattle.std.proofs.lemmas.Option.{slice_get_within, get_or_from_slice_get, slice_get_past}
use Rattle.std.proofs.lemmas.List.Folds.{find_at}
use Rattle.std.proofs.lemmas.List.{length-map, length-set, length-replicate, get_or-set_same, get_or-map}
use Rattle.std.proofs.lemmas.List.Kept.{AllPairs-from_increasing, AllPairs-filter}
use Rattle.std.proofs.lemmas.List.Sorted.{searched}
use Rattle.std.specs.List.Sorted.{IsStrictlyIncreasing, IsBinarySearchResult}
use Rattle.std.specs.Ordering.{nat_cmp}
use Rattle.std.specs.Result.{MatchResult, is_err}
use Rattle.std.proofs.Math.Seq.{take-append_seam}
use Rattle.whips_paint.proofs.Spreading.{set_cases}
use Rattle.whips_flow.specs.Painted.{Row, needs, has_number, closure, is_in_or_needed, with_needed, with_needed_again, is_waiting, is_ready}
use Rattle.whips_closure_laws.specs.Closure.{IsClosed, IsLeastClosed}
use Rattle.whips_closure_laws.proofs.Grown.{closure_least}
use Rattle.whips_lists.proofs.InList.{In, all_in, all_from}
use Rattle.whips_paint.specs.declared.marks.Mark.{Mark}
use Rattle.whips_paint.specs.declared.marks.Mark.TheVariants.{Clear, Found}
use Rattle.whips_paint.specs.declared.bounds.Side.{Side}
use Rattle.whips_paint.specs.declared.bounds.Side.TheVariants.{Needed, Needing}
use Rattle.whips_paint.specs.Marks.{is_clear, is_marked, first_mark, number_of_pair, is_marked_pair, is_fit_pair, IsSpread}

some_of : {A : Type 0} (a b : A) → Some a ≡ Some b → a ≡ b
some_of a b h = cc

-- ---- elements by place

in_from_get : (rows : List Row) (k : ℕ) (r : Row) → slice_get rows k ≡ Some r → In r rows
in_from_get [] k r h = absurd (cc)
in_from_get (q ∷ rows) zero r h = inl (some_of q r h)
in_from_get (q ∷ rows) (suc k) r h = inr (in_from_get rows k r h)

get_from_in : (rows : List Row) (r : Row) → In r rows → (k : ℕ) × (slice_get rows k ≡ Some r)
get_from_in [] r i = absurd i
get_from_in (q ∷ rows) r (inl e) = (0, ap (λ x. Some x) e)
get_from_in (q ∷ rows) r (inr i) = let m = get_from_in rows r i in (suc m.0, m.1)

-- rows with one number are one row
same_place : (rows : List Row) → AllPairs (λ r q. r.number < q.number) rows → (k l : ℕ) (r q : Row) → slice_get rows k ≡ Some r → slice_get rows l ≡ Some q → r.number ≡ q.number → k ≡ l
same_place rows order k l r q hr hq e = ⊎_elim (λ s. s) (λ ne. ⊎_elim (λ lt. absurd (below k l r q hr hq e lt)) (λ lt. absurd (below l k q r hq hr (sym e) lt)) ne) (cases_order k l)
  where
    below : (k l : ℕ) (r q : Row) → slice_get rows k ≡ Some r → slice_get rows l ≡ Some q → r.number ≡ q.number → k < l → ⊥
    below k l r q hr hq e lt =
        let h : (get_or rows k r).number < (get_or rows l r).number = order k l r lt (slice_get_within rows l q hq) in
        let a : (get_or rows k r).number ≡ r.number = ap (λ z. z.number) (get_or_from_slice_get rows k r r hr) in
        let b : (get_or rows l r).number ≡ q.number = ap (λ z. z.number) (get_or_from_slice_get rows l q r hq) in
        absurd (omega arith)

-- ---- readiness

all_false : {A : Type 0} (p : A → Bool) (xs : List A) → list_all p xs ≡ false → (x : A) × In x xs × (p x ≡ false)
all_false p [] h = absurd (false≢true (sym h))
all_false p (x ∷ xs) h = go (p x) refl h (all_false p xs)
  where
    go : (b : Bool) → p x ≡ b → (b && list_all p xs) ≡ false → (list_all p xs ≡ false → (y : _) × In y xs × (p y ≡ false)) → (y : _) × In y (x ∷ xs) × (p y ≡ false)
    go false e h more = (x, inl refl, e)
    go true e h more = let m = more h in (m.0, inr m.1, m.2)

false_all : {A : Type 0} (p : A → Bool) (xs : List A) (x : A) → In x xs → p x ≡ false → list_all p xs ≡ false
false_all p [] x i h = absurd i
false_all p (y ∷ ys) x (inl e) h = rw (subst (λ z. p z ≡ false) (sym e) h) refl
false_all p (y ∷ ys) x (inr i) h = go (p y) (false_all p ys x i h)
  where
    go : (b : Bool) → list_all p ys ≡ false → (b && list_all p ys) ≡ false
    go false h = refl
    go true h = h

both_false : (a b : Bool) → not (a && b) ≡ false → (a ≡ true) × (b ≡ true)
both_false true true h = (refl, refl)
both_false true false h = absurd (false≢true (sym h))
both_false false b h = absurd (false≢true (sym h))

module _ (rows : List Row) where
  -- a waiting row of the closure
  pub waiting_in : (r : Row) → is_ready rows r ≡ false → (w : Row) × In w rows × (has_number (closure rows r.number) w.number ≡ true) × (is_waiting w ≡ true)
  waiting_in r h =
      let m = all_false (λ q. not (has_number (closure rows r.number) q.number && is_waiting q)) rows h in
      let both = both_false (has_number (closure rows r.number) m.0.number) (is_waiting m.0) m.2 in
      (m.0, m.1, both.0, both.1)

  pub not_ready_from : (r w : Row) → In w rows → has_number (closure rows r.number) w.number ≡ true → is_waiting w ≡ true → is_ready rows r ≡ false
  not_ready_from r w iw h e = false_all (λ q. not (has_number (closure rows r.number) q.number && is_waiting q)) rows w iw (rw (h, e) refl)

  closed_needs : (numbers : List ℕ) → IsClosed rows numbers → (r q : Row) → In r rows → In q rows → has_number numbers r.number ≡ true → needs r q ≡ true → has_number numbers q.number ≡ true
  closed_needs numbers closed r q ir iq h n = all_in (λ q. needs r q ≡ true → has_number numbers q.number ≡ true) rows q (all_in (λ r. has_number numbers r.number ≡ true → AllByRecursion (λ q. needs r q ≡ true → has_number numbers q.number ≡ true) rows) rows r closed ir h) iq n

  -- a row that needs a row that isn't ready isn't ready
  not_ready_back : (r q : Row) → In r rows → In q rows → needs q r ≡ true → is_ready rows r ≡ false → is_ready rows q ≡ false
  not_ready_back r q ir iq n h =
      let m = waiting_in r h in
      let mine = closure_least rows r ir in
      let its = closure_least rows q iq in
      let r_in = closed_needs (closure rows q.number) its.closed q r iq ir its.own n in
      not_ready_from q m.0 m.1 (mine.least (closure rows q.number) r_in its.closed m.0.number m.2) m.3

  pub waiting_not_ready : (r : Row) → In r rows → is_waiting r ≡ true → is_ready rows r ≡ false
  waiting_not_ready r ir e = not_ready_from r r ir (closure_least rows r ir).own e

-- ---- the numbers of rows whose mark passes a test

abbrev numbers_where : (Mark → Bool) → List Row → List Mark → List ℕ
numbers_where p [] marks = []
numbers_where p (r ∷ rows) [] = []
numbers_where p (r ∷ rows) (m ∷ marks) = cond (p m) (r.number ∷ numbers_where p rows marks) (numbers_where p rows marks)

module _ (p : Mark → Bool) where
  where_from : (rows : List Row) (marks : List Mark) (k : ℕ) (r : Row) → length marks ≡ length rows → slice_get rows k ≡ Some r → p (get_or marks k Clear) ≡ true → has_number (numbers_where p rows marks) r.number ≡ true
  where_from [] marks k r size h e = absurd (cc)
  where_from (q ∷ rows) [] k r size h e = absurd (omega arith)
  where_from (q ∷ rows) (m ∷ marks) zero r size h e = rw e (or_left (eqb q.number r.number) (has_number (numbers_where p rows marks) r.number) (eq-eqb q.number r.number (ap (λ z. z.number) (some_of q r h))))
  where_from (q ∷ rows) (m ∷ marks) (suc k) r size h e = go (p m) (where_from rows marks k r (omega arith) h e)
    where
      go : (b : Bool) → has_number (numbers_where p rows marks) r.number ≡ true → has_number (cond b (q.number ∷ numbers_where p rows marks) (numbers_where p rows marks)) r.number ≡ true
      go true h = or_right (eqb q.number r.number) (has_number (numbers_where p rows marks) r.number) h
      go false h = h

  where_to : (rows : List Row) (marks : List Mark) (n : ℕ) → has_number (numbers_where p rows marks) n ≡ true → (k : ℕ) × (r : Row) × (slice_get rows k ≡ Some r) × (p (get_or marks k Clear) ≡ true) × (r.number ≡ n)
  where_to [] marks n h = absurd (false≢true h)
  where_to (q ∷ rows) [] n h = absurd (false≢true h)
  where_to (q ∷ rows) (m ∷ marks) n h = go (p m) refl h (where_to rows marks n)
    where
      next : (k : ℕ) × (r : Row) × (slice_get rows k ≡ Some r) × (p (get_or marks k Clear) ≡ true) × (r.number ≡ n) → (k : ℕ) × (r : Row) × (slice_get (q ∷ rows) k ≡ Some r) × (p (get_or (m ∷ marks) k Clear) ≡ true) × (r.number ≡ n)
      next f = (suc f.0, f.1, f.2, f.3, f.4)

      go : (b : Bool) → p m ≡ b → has_number (cond b (q.number ∷ numbers_where p rows marks) (numbers_where p rows marks)) n ≡ true → (has_number (numbers_where p rows marks) n ≡ true → (k : ℕ) × (r : Row) × (slice_get rows k ≡ Some r) × (p (get_or marks k Clear) ≡ true) × (r.number ≡ n)) → (k : ℕ) × (r : Row) × (slice_get (q ∷ rows) k ≡ Some r) × (p (get_or (m ∷ marks) k Clear) ≡ true) × (r.number ≡ n)
      go false e h more = next (more h)
      go true e h more = ⊎_elim (λ t. (0, q, refl, e, eqb-true q.number n t)) (λ t. next (more t)) (or_cases (eqb q.number n) (has_number (numbers_where p rows marks) n) h)

not_not : (b : Bool) → not b ≡ true → b ≡ false
not_not true h = absurd (false≢true h)
not_not false h = refl

clear_from : (marks : List Mark) (k : ℕ) → is_marked marks k ≡ false → is_clear (get_or marks k Clear) ≡ true
clear_from marks k h = go (is_clear (get_or marks k Clear)) h
  where
    go : (b : Bool) → not b ≡ false → b ≡ true
    go true h = refl
    go false h = absurd (false≢true (sym h))

unmarked_from : (marks : List Mark) (k : ℕ) → is_clear (get_or marks k Clear) ≡ true → is_marked marks k ≡ false
unmarked_from marks k h = ap not h

-- ---- the rows that aren't ready

module _ (rows : List Row) (order : AllPairs (λ r q. r.number < q.number) rows) (old marks : List Mark) (size : length old ≡ length rows) where
  abbrev Spread : Side → Type 0
  Spread side = IsSpread side rows old marks

  -- the numbers of the rows that don't lead to a marked one are closed
  clear_closed : Spread Needing → IsClosed rows (numbers_where is_clear rows marks)
  clear_closed s = all_from _ rows (λ r ir h. all_from _ rows (λ q iq n. go r q (get_from_in rows r ir) (get_from_in rows q iq) h n))
    where
      go : (r q : Row) → (k : ℕ) × (slice_get rows k ≡ Some r) → (l : ℕ) × (slice_get rows l ≡ Some q) → has_number (numbers_where is_clear rows marks) r.number ≡ true → needs r q ≡ true → has_number (numbers_where is_clear rows marks) q.number ≡ true
      go r q (k, hr) (l, hq) h n =
          let f = where_to is_clear rows marks r.number h in
          let here : is_clear (get_or marks k Clear) ≡ true = subst (λ j. is_clear (get_or marks j Clear) ≡ true) (same_place rows order f.0 k f.1 r f.2 hr f.4) f.3 in
          ⊎_elim
          (λ m. absurd (false≢true (sym (unmarked_from marks k here) ∙ s.full l k q r hq hr m n)))
          (λ m. where_from is_clear rows marks l q (s.size ∙ size) hq (clear_from marks l m))
          (cases_Bool (is_marked marks l))

  -- a row is marked exactly where it isn't ready, if the waiting rows were marked at first
  pub unready_marked : Spread Needing → ((k : ℕ) (r : Row) → slice_get rows k ≡ Some r → is_marked old k ≡ is_waiting r) → (k : ℕ) (r : Row) → slice_get rows k ≡ Some r → is_clear (get_or marks k Clear) ≡ is_ready rows r
  unready_marked s first k r hr = ⊎_elim
      (λ m. not_not (is_clear (get_or marks k Clear)) m ∙ sym (marked_not_ready m))
      (λ m. clear_from marks k m ∙ sym (clear_ready m))
      (cases_Bool (is_marked marks k))
    where
      marked_not_ready : is_marked marks k ≡ true → is_ready rows r ≡ false
      marked_not_ready m = not_not (is_ready rows r) (s.least (λ r. not (is_ready rows r))
          (λ i j a b ha hb na lead. ap not (not_ready_back rows a b (in_from_get rows i a ha) (in_from_get rows j b hb) lead (not_not (is_ready rows a) na)))
          (λ i a ha was. ap not (waiting_not_ready rows a (in_from_get rows i a ha) (sym (first i a ha) ∙ was)))
          k r hr m)

      clear_ready : is_marked marks k ≡ false → is_ready rows r ≡ true
      clear_ready m = ⊎_elim (λ h. h) (λ h. absurd (bad (waiting_in rows r h))) (cases_Bool (is_ready rows r))
        where
          bad : (w : Row) × In w rows × (has_number (closure rows r.number) w.number ≡ true) × (is_waiting w ≡ true) → ⊥
          bad (w, iw, h, e) =
              let g = get_from_in rows w iw in
              let own = where_from is_clear rows marks k r (s.size ∙ size) hr (clear_from marks k m) in
              let f = where_to is_clear rows marks w.number ((closure_least rows r (in_from_get rows k r hr)).least (numbers_where is_clear rows marks) own (clear_closed s) w.number h) in
              let clear : is_clear (get_or marks g.0 Clear) ≡ true = subst (λ j. is_clear (get_or marks j Clear) ≡ true) (same_place rows order f.0 g.0 f.1 w f.2 g.1 f.4) f.3 in
              absurd (false≢true (sym (unmarked_from marks g.0 clear) ∙ s.kept g.0 (first g.0 w g.1 ∙ e)))

-- the first clear mark stands at the first row that passes
pub first_same : (test : Row → Bool) (rows : List Row) (marks : List Mark) → length marks ≡ length rows → ((k : ℕ) (r : Row) → slice_get rows k ≡ Some r → is_clear (get_or marks k Clear) ≡ test r) → position is_clear marks ≡ position test rows
first_same test rows marks size h = rw (places rows marks size h, size) refl
  where
    places : (rows : List Row) (marks : List Mark) → length marks ≡ length rows → ((k : ℕ) (r : Row) → slice_get rows k ≡ Some r → is_clear (get_or marks k Clear) ≡ test r) → position_or_len is_clear marks ≡ position_or_len test rows
    places [] [] size h = refl
    places [] (m ∷ marks) size h = absurd (omega arith)
    places (r ∷ rows) [] size h = absurd (omega arith)
    places (r ∷ rows) (m ∷ marks) size h = rw (h 0 r refl, places rows marks (omega arith) (λ k q hq. h (suc k) q hq)) refl

pub found_from_position : (test : Row → Bool) (rows : List Row) (k : ℕ) → position test rows ≡ Some k → (k < length rows) × (slice_get rows k ≡ find test rows)
found_from_position test rows k h = go (ltb (position_or_len test rows) (length rows)) refl h
  where
    go : (b : Bool) → ltb (position_or_len test rows) (length rows) ≡ b → cond b (Some (position_or_len test rows)) None ≡ Some k → (k < length rows) × (slice_get rows k ≡ find test rows)
    go false e h = absurd (cc)
    go true e h = let same : position_or_len test rows ≡ k = cc in (subst (λ n. n < length rows) same (ltb-true (position_or_len test rows) (length rows) e), ap (slice_get rows) (sym same) ∙ sym (find_at test rows))

pub none_from_position : (test : Row → Bool) (rows : List Row) → position test rows ≡ None → find test rows ≡ None
none_from_position test rows h = go (ltb (position_or_len test rows) (length rows)) refl h
  where
    go : (b : Bool) → ltb (position_or_len test rows) (length rows) ≡ b → cond b (Some (position_or_len test rows)) None ≡ None → find test rows ≡ None
    go true e h = absurd (cc)
    go false e h = find_at test rows ∙ slice_get_past rows (position_or_len test rows) (⊎_elim (λ lt. absurd (false≢true (sym e ∙ lt-ltb (position_or_len test rows) (length rows) lt))) (λ ge. ge) (cases_lt (position_or_len test rows) (length rows)))

first_waiting : (rows : List Row) (k : ℕ) (r : Row) → slice_get rows k ≡ Some r → is_marked (map first_mark rows) k ≡ is_waiting r
first_waiting [] k r h = absurd (cc)
first_waiting (q ∷ rows) zero r h = go (is_waiting q) ∙ ap is_waiting (some_of q r h)
  where
    go : (b : Bool) → not (is_clear (cond b Found Clear)) ≡ b
    go true = refl
    go false = refl
first_waiting (q ∷ rows) (suc k) r h = first_waiting rows k r h

pub first_ready_place : (rows : List Row) (marks : List Mark) → AllPairs (λ r q. r.number < q.number) rows → IsSpread Needing rows (map first_mark rows) marks → position is_clear marks ≡ position (is_ready rows) rows
first_ready_place rows marks order s =
    let size : length (map first_mark rows) ≡ length rows = length-map rows first_mark in
    first_same (is_ready rows) rows marks (s.size ∙ size) (unready_marked rows order (map first_mark rows) marks size s (first_waiting rows))

-- ---- a closure

module _ (p : Row → Bool) where
  filter_from : (rows : List Row) (q : Row) → In q rows → p q ≡ true → has_number (map (λ r. r.number) (filter p rows)) q.number ≡ true
  filter_from [] q i h = absurd i
  filter_from (r ∷ rows) q (inl e) h = rw (subst (λ z. p z ≡ true) (sym e) h) (or_left (eqb r.number q.number) (has_number (map (λ r. r.number) (filter p rows)) q.number) (eq-eqb r.number q.number (ap (λ z. z.number) e)))
  filter_from (r ∷ rows) q (inr i) h = elim (p r) as (λ b. has_number (map (λ r. r.number) (cond b (r ∷ filter p rows) (filter p rows))) q.number ≡ true) [
    | true ↦ or_right (eqb r.number q.number) (has_number (map (λ r. r.number) (filter p rows)) q.number) (filter_from rows q i h)
    | false ↦ filter_from rows q i h
  ]

  filter_to : (rows : List Row) (n : ℕ) → has_number (map (λ r. r.number) (filter p rows)) n ≡ true → (k : ℕ) × (r : Row) × (slice_get rows k ≡ Some r) × (p r ≡ true) × (r.number ≡ n)
  filter_to [] n h = absurd (false≢true h)
  filter_to (q ∷ rows) n h = go (p q) refl h (filter_to rows n)
    where
      next : (k : ℕ) × (r : Row) × (slice_get rows k ≡ Some r) × (p r ≡ true) × (r.number ≡ n) → (k : ℕ) × (r : Row) × (slice_get (q ∷ rows) k ≡ Some r) × (p r ≡ true) × (r.number ≡ n)
      next f = (suc f.0, f.1, f.2, f.3, f.4)

      go : (b : Bool) → p q ≡ b → has_number (map (λ r. r.number) (cond b (q ∷ filter p rows) (filter p rows))) n ≡ true → (has_number (map (λ r. r.number) (filter p rows)) n ≡ true → (k : ℕ) × (r : Row) × (slice_get rows k ≡ Some r) × (p r ≡ true) × (r.number ≡ n)) → (k : ℕ) × (r : Row) × (slice_get (q ∷ rows) k ≡ Some r) × (p r ≡ true) × (r.number ≡ n)
      go false e h more = next (more h)
      go true e h more = ⊎_elim (λ t. (0, q, refl, e, eqb-true q.number n t)) (λ t. next (more t)) (or_cases (eqb q.number n) (has_number (map (λ r. r.number) (filter p rows)) n) h)

  -- the filter is known by the numbers that it keeps
  filter_known : (rows : List Row) → AllPairs (λ r q. r.number < q.number) rows → (k : ℕ) (r : Row) → slice_get rows k ≡ Some r → p r ≡ has_number (map (λ r. r.number) (filter p rows)) r.number
  filter_known rows order k r hr = ⊎_elim
      (λ h. h ∙ sym (filter_from rows r (in_from_get rows k r hr) h))
      (λ h. ⊎_elim
      (λ t. absurd (false≢true (sym h ∙ back (filter_to rows r.number t))))
      (λ f. h ∙ sym f)
      (cases_Bool (has_number (map (λ r. r.number) (filter p rows)) r.number)))
      (cases_Bool (p r))
    where
      back : (j : ℕ) × (q : Row) × (slice_get rows j ≡ Some q) × (p q ≡ true) × (q.number ≡ r.number) → p r ≡ true
      back (j, q, hq, e, n) = subst (λ z. p z ≡ true) (some_of q r (sym hq ∙ ap (slice_get rows) (same_place rows order j k q r hq hr n) ∙ hr)) e

-- with one turn at least, the closure is a filter of the rows
last_turn : (n : ℕ) (rows : List Row) (numbers : List ℕ) → (p : Row → Bool) × (with_needed_again (suc n) rows numbers ≡ map (λ q. q.number) (filter p rows))
last_turn zero rows numbers = (is_in_or_needed rows numbers, refl)
last_turn (suc n) rows numbers = last_turn n rows (with_needed rows numbers)

closure_filters : (rows : List Row) (i k : ℕ) (r : Row) → slice_get rows k ≡ Some r → (p : Row → Bool) × (closure rows i ≡ map (λ q. q.number) (filter p rows))
closure_filters [] i k r h = absurd (cc)
closure_filters (q ∷ rows) i k r h = last_turn (length rows) (q ∷ rows) (i ∷ [])

pairs_filter : (p : Row → Bool) (rows : List Row) (marks : List Mark) → length marks ≡ length rows → ((k : ℕ) (r : Row) → slice_get rows k ≡ Some r → is_marked marks k ≡ p r) → map number_of_pair (filter is_marked_pair (zip rows marks)) ≡ map (λ q. q.number) (filter p rows)
pairs_filter p [] marks size h = refl
pairs_filter p (r ∷ rows) [] size h = absurd (omega arith)
pairs_filter p (r ∷ rows) (m ∷ marks) size h = rw (h 0 r refl) (go (p r) (pairs_filter p rows marks (omega arith) (λ k q hq. h (suc k) q hq)))
  where
    go : (b : Bool) → map number_of_pair (filter is_marked_pair (zip rows marks)) ≡ map (λ q. q.number) (filter p rows) → map number_of_pair (cond b ((r, m) ∷ filter is_marked_pair (zip rows marks)) (filter is_marked_pair (zip rows marks))) ≡ map (λ q. q.number) (cond b (r ∷ filter p rows) (filter p rows))
    go true e = ap (λ ns. r.number ∷ ns) e
    go false e = e

-- no marked row waits
fits : (p : Row → Bool) (rows : List Row) (marks : List Mark) → length marks ≡ length rows → ((k : ℕ) (r : Row) → slice_get rows k ≡ Some r → is_marked marks k ≡ p r) → list_all is_fit_pair (zip rows marks) ≡ list_all (λ q. not (p q && is_waiting q)) rows
fits p [] marks size h = refl
fits p (r ∷ rows) [] size h = absurd (omega arith)
fits p (r ∷ rows) (m ∷ marks) size h = ap₂ (λ a b. a && b) (one m (p r) (is_waiting r) (h 0 r refl)) (fits p rows marks (omega arith) (λ k q hq. h (suc k) q hq))
  where
    one : (m : Mark) (a w : Bool) → not (is_clear m) ≡ a → (is_clear m || not w) ≡ not (a && w)
    one Clear true w e = absurd (false≢true e)
    one Clear false w e = refl
    one Found true w e = refl
    one Found false w e = absurd (false≢true (sym e))

module _ (rows : List Row) (order : AllPairs (λ r q. r.number < q.number) rows) (old marks : List Mark) (size : length old ≡ length rows) (at : ℕ) (row : Row) (here : slice_get rows at ≡ Some row) (s : IsSpread Needed rows old marks) where
  marked_closed : IsClosed rows (numbers_where (λ m. not (is_clear m)) rows marks)
  marked_closed = all_from _ rows (λ r ir h. all_from _ rows (λ q iq n. go r q (get_from_in rows r ir) (get_from_in rows q iq) h n))
    where
      go : (r q : Row) → (k : ℕ) × (slice_get rows k ≡ Some r) → (l : ℕ) × (slice_get rows l ≡ Some q) → has_number (numbers_where (λ m. not (is_clear m)) rows marks) r.number ≡ true → needs r q ≡ true → has_number (numbers_where (λ m. not (is_clear m)) rows marks) q.number ≡ true
      go r q (k, hr) (l, hq) h n =
          let f = where_to (λ m. not (is_clear m)) rows marks r.number h in
          let mine : is_marked marks k ≡ true = subst (λ j. is_marked marks j ≡ true) (same_place rows order f.0 k f.1 r f.2 hr f.4) f.3 in
          where_from (λ m. not (is_clear m)) rows marks l q (s.size ∙ size) hq (s.full k l r q hr hq mine n)

  -- a row is marked exactly where it is in the closure, if its own row alone was marked at first
  marked_in_closure : is_marked old at ≡ true → ((k : ℕ) → is_marked old k ≡ true → k ≡ at) → (k : ℕ) (r : Row) → slice_get rows k ≡ Some r → is_marked marks k ≡ has_number (closure rows row.number) r.number
  marked_in_closure first only k r hr = ⊎_elim
      (λ m. m ∙ sym (s.least (λ q. has_number (closure rows row.number) q.number)
      (λ i j a b ha hb na lead. closed_needs rows (closure rows row.number) mine.closed a b (in_from_get rows i a ha) (in_from_get rows j b hb) na lead)
      (λ i a ha was. let same : i ≡ at = only i was in subst (λ z. has_number (closure rows row.number) z.number ≡ true) (some_of row a (sym here ∙ ap (slice_get rows) (sym same) ∙ ha)) mine.own)
      k r hr m))
      (λ m. m ∙ sym (⊎_elim (λ h. absurd (bad m h)) (λ h. h) (cases_Bool (has_number (closure rows row.number) r.number))))
      (cases_Bool (is_marked marks k))
    where
      mine : IsLeastClosed rows row.number (closure rows row.number)
      mine = closure_least rows row (in_from_get rows at row here)

      bad : is_marked marks k ≡ false → has_number (closure rows row.number) r.number ≡ true → ⊥
      bad m h =
          let own = where_from (λ m. not (is_clear m)) rows marks at row (s.size ∙ size) here (s.kept at first) in
          let f = where_to (λ m. not (is_clear m)) rows marks r.number (mine.least (numbers_where (λ m. not (is_clear m)) rows marks) own marked_closed r.number h) in
          let marked : is_marked marks k ≡ true = subst (λ j. is_marked marks j ≡ true) (same_place rows order f.0 k f.1 r f.2 hr f.4) f.3 in
          false≢true (sym m ∙ marked)

  closure_marked : is_marked old at ≡ true → ((k : ℕ) → is_marked old k ≡ true → k ≡ at) → map number_of_pair (filter is_marked_pair (zip rows marks)) ≡ closure rows row.number
  closure_marked first only = go (closure_filters rows row.number at row here)
    where
      go : (p : Row → Bool) × (closure rows row.number ≡ map (λ q. q.number) (filter p rows)) → map number_of_pair (filter is_marked_pair (zip rows marks)) ≡ closure rows row.number
      go (p, e) = pairs_filter p rows marks (s.size ∙ size) (λ k r hr. marked_in_closure first only k r hr ∙ ap (λ ns. has_number ns r.number) e ∙ sym (filter_known p rows order k r hr)) ∙ sym e

  closure_fits : is_marked old at ≡ true → ((k : ℕ) → is_marked old k ≡ true → k ≡ at) → list_all is_fit_pair (zip rows marks) ≡ is_ready rows row
  closure_fits first only = fits (λ q. has_number (closure rows row.number) q.number) rows marks (s.size ∙ size) (marked_in_closure first only)

-- one mark in a clear list
none_marked : (n k : ℕ) → is_marked (replicate n Clear) k ≡ false
none_marked zero k = refl
none_marked (suc n) zero = refl
none_marked (suc n) (suc k) = none_marked n k

module _ (rows : List Row) (marks : List Mark) (at : ℕ) (row : Row) (order : AllPairs (λ r q. r.number < q.number) rows) (here : slice_get rows at ≡ Some row) (s : IsSpread Needed rows (set (replicate (length rows) Clear) at Found) marks) where
  blank : List Mark
  blank = replicate (length rows) Clear

  one_size : length (set (replicate (length rows) Clear) at Found) ≡ length rows
  one_size = length-set (replicate (length rows) Clear) at Found ∙ length-replicate (length rows) Clear

  at_within : at < length (replicate (length rows) Clear)
  at_within = let lt : at < length rows = slice_get_within rows at row here in rw (length-replicate (length rows) Clear) lt

  own : is_marked (set (replicate (length rows) Clear) at Found) at ≡ true
  own = ap (λ m. not (is_clear m)) (get_or-set_same (replicate (length rows) Clear) at Found Clear at_within)

  only : (k : ℕ) → is_marked (set (replicate (length rows) Clear) at Found) k ≡ true → k ≡ at
  only k m = ⊎_elim
      (λ (e, there). e)
      (λ (n, there). absurd (false≢true (sym (none_marked (length rows) k) ∙ sym (ap (λ x. not (is_clear x)) there) ∙ m)))
      (set_cases (replicate (length rows) Clear) at k Found at_within)

  pub closure_pairs : map number_of_pair (filter is_marked_pair (zip rows marks)) ≡ closure rows row.number
  closure_pairs = closure_marked rows order (set (replicate (length rows) Clear) at Found) marks one_size at row here s own only

  pub ready_pairs : list_all is_fit_pair (zip rows marks) ≡ is_ready rows row
  ready_pairs = closure_fits rows order (set (replicate (length rows) Clear) at Found) marks one_size at row here s own only

-- what a write through a slice leaves of its list
pub whole_slice : {A : Type 0} (n : ℕ) (xs ys : List A) → length xs ≡ n → take n (xs ++ drop (length xs) ys) ≡ xs
whole_slice n xs ys e = subst (λ k. take k (xs ++ drop (length xs) ys) ≡ xs) e (take-append_seam xs (drop (length xs) ys))

-- ---- a search for a number

rising_places : (xs : List ℕ) → IsStrictlyIncreasing xs → (i j : ℕ) → i ≤ j → j < length xs → get_or xs i 0 ≤ get_or xs j 0
rising_places xs h i j le lt = ⊎_elim
    (λ e. subst (λ k. get_or xs i 0 ≤ get_or xs k 0) e (omega arith))
    (λ ne. let below : get_or xs i 0 < get_or xs j 0 = AllPairs-from_increasing xs h i j 0 (omega arith) lt in omega arith)
    (cases_eq i j)

pub searched_lacks : (xs : List ℕ) (x : ℕ) (r : Result ℕ ℕ) → IsBinarySearchResult (λ y. nat_cmp y x) xs r → IsStrictlyIncreasing xs → is_err r ≡ not (has_number xs x)
searched_lacks xs x r h rising = go r (searched xs x r h (rising_places xs rising))
  where
    here : (ys : List ℕ) (i : ℕ) → i < length ys → get_or ys i 0 ≡ x → has_number ys x ≡ true
    here [] i lt e = absurd (omega arith)
    here (y ∷ ys) zero lt e = or_left (eqb y x) (has_number ys x) (eq-eqb y x e)
    here (y ∷ ys) (suc i) lt e = or_right (eqb y x) (has_number ys x) (here ys i (omega arith) e)

    nowhere : (ys : List ℕ) → ((k : ℕ) → k < length ys → get_or ys k 0 ≡ x → ⊥) → has_number ys x ≡ false
    nowhere [] h = refl
    nowhere (y ∷ ys) h = rw (ne_eqb y x (h 0 (omega arith)), nowhere ys (λ k lt. h (suc k) (omega arith))) refl

    go : (r : Result ℕ ℕ) → MatchResult r (λ i. (i < length xs) × (get_or xs i 0 ≡ x)) (λ i. (i ≤ length xs) × ((k : ℕ) → k < i → get_or xs k 0 < x) × ((k : ℕ) → i ≤ k → k < length xs → x < get_or xs k 0)) → is_err r ≡ not (has_number xs x)
    go (Ok i) m = rw (here xs i m.0 m.1) refl
    go (Err i) m = rw (nowhere xs (λ k lt e. ⊎_elim (λ l. let low : get_or xs k 0 < x = m.1 k l in absurd (omega arith)) (λ g. let high : x < get_or xs k 0 = m.2 k g lt in absurd (omega arith)) (cases_lt k i))) refl

-- the closure of the row at a place, as the marked rows give it
pub closure_at : (rows : List Row) (marks : List Mark) (at : ℕ) → AllPairs (λ r q. r.number < q.number) rows → at < length rows → IsSpread Needed rows (set (replicate (length rows) Clear) at Found) marks → option_map (λ r. closure rows r.number) (slice_get rows at) ≡ Some (map number_of_pair (filter is_marked_pair (zip rows marks)))
closure_at rows marks at order lt s = go (slice_get rows at) refl
  where
    go : (o : Option Row) → slice_get rows at ≡ o → option_map (λ r. closure rows r.number) o ≡ Some (map number_of_pair (filter is_marked_pair (zip rows marks)))
    go None e = absurd (there rows at lt e)
      where
        there : (rows : List Row) (at : ℕ) → at < length rows → slice_get rows at ≡ None → ⊥
        there [] at lt e = absurd (omega arith)
        there (r ∷ rows) zero lt e = absurd (cc)
        there (r ∷ rows) (suc at) lt e = there rows at (omega arith) e
    go (Some r) e = ap (λ ns. Some ns) (sym (closure_pairs rows marks at r order e s))

pub ready_at : (rows : List Row) (marks : List Mark) (at : ℕ) → AllPairs (λ r q. r.number < q.number) rows → at < length rows → IsSpread Needed rows (set (replicate (length rows) Clear) at Found) marks → option_map (is_ready rows) (slice_get rows at) ≡ Some (list_all is_fit_pair (zip rows marks))
ready_at rows marks at order lt s = go (slice_get rows at) refl
  where
    go : (o : Option Row) → slice_get rows at ≡ o → option_map (is_ready rows) o ≡ Some (list_all is_fit_pair (zip rows marks))
    go None e = absurd (there rows at lt e)
      where
        there : (rows : List Row) (at : ℕ) → at < length rows → slice_get rows at ≡ None → ⊥
        there [] at lt e = absurd (omega arith)
        there (r ∷ rows) zero lt e = absurd (cc)
        there (r ∷ rows) (suc at) lt e = there rows at (omega arith) e
    go (Some r) e = ap (λ b. Some b) (sym (ready_pairs rows marks at r order e s))

-- ---- the first row that doesn't wait

module _ (p q : Row → Bool) where
  later : (rows : List Row) → ((r : Row) → In r rows → p r ≡ false → q r ≡ false) → position_or_len p rows ≤ position_or_len q rows
  later [] h = omega arith
  later (r ∷ rows) h = elim (p r) as (λ b. p r ≡ b → cond (not b) (1 + position_or_len p rows) 0 ≤ cond (not (q r)) (1 + position_or_len q rows) 0) [
    | true ↦ λ e. omega arith
    | false ↦ λ e. rw (h r (inl refl) e) (omega (arith, later rows (λ x i. h x (inr i))))
  ] refl

  same_first : (rows : List Row) (r : Row) → ((r : Row) → In r rows → p r ≡ false → q r ≡ false) → slice_get rows (position_or_len p rows) ≡ Some r → q r ≡ true → position_or_len q rows ≡ position_or_len p rows
  same_first [] r h hr qr = refl
  same_first (x ∷ rows) r h hr qr = elim (p x) as (λ b. p x ≡ b → slice_get (x ∷ rows) (cond (not b) (1 + position_or_len p rows) 0) ≡ Some r → cond (not (q x)) (1 + position_or_len q rows) 0 ≡ cond (not b) (1 + position_or_len p rows) 0) [
    | true ↦ λ e g. rw (subst (λ z. q z ≡ true) (sym (some_of x r g)) qr) refl
    | false ↦ λ e g. let next : 1 + position_or_len p rows ≡ suc (position_or_len p rows) = omega arith in rw (h x (inl refl) e) (ap (λ n. 1 + n) (same_first rows r (λ y i. h y (inr i)) (subst (λ k. slice_get (x ∷ rows) k ≡ Some r) next g) qr))
  ] refl hr

  pub none_later : (rows : List Row) → ((r : Row) → In r rows → p r ≡ false → q r ≡ false) → position p rows ≡ None → position q rows ≡ None
  none_later rows h none = go (ltb (position_or_len p rows) (length rows)) refl none
    where
      go : (b : Bool) → ltb (position_or_len p rows) (length rows) ≡ b → cond b (Some (position_or_len p rows)) None ≡ None → position q rows ≡ None
      go true e n = absurd (cc)
      go false e n =
          let past : length rows ≤ position_or_len p rows = ⊎_elim (λ lt. absurd (false≢true (sym e ∙ lt-ltb (position_or_len p rows) (length rows) lt))) (λ ge. ge) (cases_lt (position_or_len p rows) (length rows)) in
          let up : position_or_len p rows ≤ position_or_len q rows = later rows h in
          ap (λ b. cond b (Some (position_or_len q rows)) None) (le-ltb (position_or_len q rows) (length rows) (omega arith))

  pub some_same : (rows : List Row) (k : ℕ) → ((r : Row) → In r rows → p r ≡ false → q r ≡ false) → position p rows ≡ Some k → option_map q (slice_get rows k) ≡ Some true → position q rows ≡ Some k
  some_same rows k h some passes = go (ltb (position_or_len p rows) (length rows)) refl some
    where
      at : (o : Option Row) → slice_get rows k ≡ o → option_map q o ≡ Some true → (r : Row) × (slice_get rows k ≡ Some r) × (q r ≡ true)
      at None e f = absurd (cc)
      at (Some r) e f = (r, e, some_true (q r) f)
        where
          some_true : (b : Bool) → Some b ≡ Some true → b ≡ true
          some_true b f = cc

      go : (b : Bool) → ltb (position_or_len p rows) (length rows) ≡ b → cond b (Some (position_or_len p rows)) None ≡ Some k → position q rows ≡ Some k
      go false e n = absurd (cc)
      go true e n =
          let here : position_or_len p rows ≡ k = cc in
          let f = at (slice_get rows k) refl passes in
          let same = same_first rows f.0 h (ap (slice_get rows) here ∙ f.1) f.2 in
          ap (λ n. cond (ltb n (length rows)) (Some n) None) same ∙ some

-- a row that waits isn't ready
pub waiting_first : (rows : List Row) (r : Row) → In r rows → not (is_waiting r) ≡ false → is_ready rows r ≡ false
waiting_first rows r i h = waiting_not_ready rows r i (go (is_waiting r) h)
  where
    go : (b : Bool) → not b ≡ false → b ≡ true
    go true h = refl
    go false h = absurd (false≢true (sym h))

-- the numbers of a closure rise
filtered_rising : (p : Row → Bool) (rows : List Row) → AllPairs (λ r q. r.number < q.number) rows → IsStrictlyIncreasing (map (λ q. q.number) (filter p rows))
filtered_rising p rows order k lt =
    let kept : List Row = filter p rows in
    let none : Row = record { number = 0; source = 0; place = 0; entries = [] } in
    let within : k + 1 < length kept = omega (arith, length-map kept (λ q. q.number)) in
    let said : (get_or kept k none).number < (get_or kept (k + 1) none).number = AllPairs-filter (λ r q. r.number < q.number) p rows order k (k + 1) none (omega arith) within in
    let first : get_or (map (λ q. q.number) kept) k 0 ≡ (get_or kept k none).number = get_or-map (λ q. q.number) kept k none 0 (omega arith) in
    let second : get_or (map (λ q. q.number) kept) (k + 1) 0 ≡ (get_or kept (k + 1) none).number = get_or-map (λ q. q.number) kept (k + 1) none 0 within in
    omega arith

pub closure_rising : (rows : List Row) (at : ℕ) (numbers : List ℕ) → AllPairs (λ r q. r.number < q.number) rows → option_map (λ r. closure rows r.number) (slice_get rows at) ≡ Some numbers → IsStrictlyIncreasing numbers
closure_rising rows at numbers order h = go (slice_get rows at) refl h
  where
    go : (o : Option Row) → slice_get rows at ≡ o → option_map (λ r. closure rows r.number) o ≡ Some numbers → IsStrictlyIncreasing numbers
    go None e h = absurd (cc)
    go (Some r) e h =
        let f = closure_filters rows r.number at r e in
        let same : map (λ q. q.number) (filter f.0 rows) ≡ numbers = cc (f.1, h) in
        subst IsStrictlyIncreasing same (filtered_rising f.0 rows order)
