-- The closure grows until it is closed.
--
-- `closure_least`: the closure of a row is the least closed set of numbers with the row's own (`IsLeastClosed`); `closures_least`: so it is
-- for each row of a table. `draws_entries`: a row needs another one exactly where its entry for some view needs the other, which concerns
-- that view, or where the other is an earlier row of the same source.
--
-- The idea: a turn adds the numbers of all rows that a row of the set needs. A set to which a turn adds none is closed, and each other turn
-- leaves fewer rows outside, so as many turns as there are rows are enough. A closed set that has all numbers before a turn has them after
-- it, so the closure is within each closed set with the row's number.
--
-- Four lemmas carry it: `grown_closed` (after so many turns the set is closed), `grown_within` (the turns stay within each closed set),
-- `came` (what a turn adds was needed) and `count_same` (where no more elements pass a wider test, the same pass).
use Rattle.std.proofs.Common.{◌≡◌, ℕ, zero, suc, ◌+◌, ◌≤◌, Bool, true, false, ◌&&◌, List, [], ◌∷◌, length, Some, cond, eqb, ltb, refl, sym, ap, subst, ◌∙◌, arith, ◌⊎◌, inl, inr, ⊎_elim}
use Rattle.std.specs.Prelude.{slice_get, map, filter}
use Rattle.std.specs.List.{list_any, AllByRecursion}
use Rattle.std.proofs.lemmas.Bool.{eqb-true, eq-eqb, ltb-true, lt-ltb, or_left, or_right, or_cases, and_from, and_parts, cases_lt, false≢true}
use Rattle.whips_lists.proofs.InList.{In, all_in, all_from, any_from, any_to}
use Rattle.whips_flow.specs.Painted.{Row, Colour, entry_needs, is_concerned, some_entry_needs, needs, has_number, is_in_or_needed, with_needed, with_needed_again, closure}
use Rattle.whips_closure_laws.specs.Closure.{IsClosed, IsLeastClosed, ClosureIsLeast, NeedsAreEntries}

module _ {A : Type 0} where
  abbrev pub count : (A → Bool) → List A → ℕ
  count p [] = 0
  count p (x ∷ xs) = cond (p x) 1 0 + count p xs

  count_up : (p q : A → Bool) (xs : List A) → ((x : A) → In x xs → p x ≡ true → q x ≡ true) → count p xs ≤ count q xs
  count_up p q [] h = omega arith
  count_up p q (x ∷ xs) h = elim (p x) as (λ b. p x ≡ b → cond b 1 0 + count p xs ≤ cond (q x) 1 0 + count q xs) [
    | true ↦ λ e. rw (h x (inl refl) e) (omega (arith, count_up p q xs (λ y i. h y (inr i))))
    | false ↦ λ e. omega (arith, count_up p q xs (λ y i. h y (inr i)))
  ] refl

  -- where each element that passes p passes q, and no more pass q, the same pass
  pub count_same : (p q : A → Bool) (xs : List A) → ((x : A) → In x xs → p x ≡ true → q x ≡ true) → count q xs ≤ count p xs → (x : A) → In x xs → q x ≡ true → p x ≡ true
  count_same p q [] up le x i h = absurd i
  count_same p q (y ∷ ys) up le x i h = go (p y) (q y) refl refl (up y (inl refl)) le (count_up p q ys (λ z j. up z (inr j))) (λ le. count_same p q ys (λ z j. up z (inr j)) le x) i
    where
      go : (a b : Bool) → p y ≡ a → q y ≡ b → (a ≡ true → b ≡ true) → cond b 1 0 + count q ys ≤ cond a 1 0 + count p ys → count p ys ≤ count q ys → (count q ys ≤ count p ys → In x ys → q x ≡ true → p x ≡ true) → In x (y ∷ ys) → p x ≡ true
      go true b pa qb up le low more (inl e) = subst (λ z. p z ≡ true) e pa
      go true true pa qb up le low more (inr i) = more (omega arith) i h
      go true false pa qb up le low more (inr i) = absurd (false≢true (up refl))
      go false true pa qb up le low more i = absurd (omega arith)
      go false false pa qb up le low more (inl e) = absurd (false≢true (sym qb ∙ subst (λ z. q z ≡ true) (sym e) h))
      go false false pa qb up le low more (inr i) = more (omega arith) i h

  pub count_all : (p : A → Bool) (xs : List A) → length xs ≤ count p xs → (x : A) → In x xs → p x ≡ true
  count_all p xs le x i = count_same p (λ _. true) xs (λ _ _ _. refl) (omega (arith, all xs, le)) x i refl
    where
      all : (ys : List A) → count (λ _. true) ys ≤ length ys
      all [] = omega arith
      all (y ∷ ys) = omega (arith, all ys)

-- ---- one turn

has_eq : (ns : List ℕ) (m n : ℕ) → m ≡ n → has_number ns m ≡ true → has_number ns n ≡ true
has_eq ns m n e h = subst (λ z. has_number ns z ≡ true) e h

module _ (p : Row → Bool) where
  numbers_from : (rows : List Row) (q : Row) → In q rows → p q ≡ true → has_number (map (λ r. r.number) (filter p rows)) q.number ≡ true
  numbers_from [] q i h = absurd i
  numbers_from (r ∷ rows) q (inl e) h = rw (subst (λ z. p z ≡ true) (sym e) h) (or_left (eqb r.number q.number) _ (eq-eqb r.number q.number (ap (λ z. z.number) e)))
  numbers_from (r ∷ rows) q (inr i) h = elim (p r) as (λ b. has_number (map (λ r. r.number) (cond b (r ∷ filter p rows) (filter p rows))) q.number ≡ true) [
    | true ↦ or_right (eqb r.number q.number) _ (numbers_from rows q i h)
    | false ↦ numbers_from rows q i h
  ]

  numbers_to : (rows : List Row) (n : ℕ) → has_number (map (λ r. r.number) (filter p rows)) n ≡ true → (q : Row) × In q rows × (p q ≡ true) × (q.number ≡ n)
  numbers_to [] n h = absurd (false≢true h)
  numbers_to (r ∷ rows) n h = go (p r) refl (numbers_to rows n) h
    where
      go : (b : Bool) → p r ≡ b → (has_number (map (λ r. r.number) (filter p rows)) n ≡ true → (q : Row) × In q rows × (p q ≡ true) × (q.number ≡ n)) → has_number (map (λ r. r.number) (cond b (r ∷ filter p rows) (filter p rows))) n ≡ true → (q : Row) × In q (r ∷ rows) × (p q ≡ true) × (q.number ≡ n)
      go false e more g = let m = more g in (m.0, inr m.1, m.2, m.3)
      go true e more g = pick (or_cases (eqb r.number n) (has_number (map (λ r. r.number) (filter p rows)) n) g)
        where
          pick : (eqb r.number n ≡ true) ⊎ (has_number (map (λ r. r.number) (filter p rows)) n ≡ true) → (q : Row) × In q (r ∷ rows) × (p q ≡ true) × (q.number ≡ n)
          pick (inl t) = (r, inl refl, e, eqb-true r.number n t)
          pick (inr t) = let m = more t in (m.0, inr m.1, m.2, m.3)

module _ (rows : List Row) where
  -- q is needed by a row of the numbers
  drawn : (ns : List ℕ) (r q : Row) → In r rows → In q rows → has_number ns r.number ≡ true → needs r q ≡ true → has_number (with_needed rows ns) q.number ≡ true
  drawn ns r q ir iq hr d = numbers_from (is_in_or_needed rows ns) rows q iq (or_right (has_number ns q.number) _ (any_from (λ r. has_number ns r.number && needs r q) rows r ir (and_from (has_number ns r.number) (needs r q) hr d)))

  stays : (ns : List ℕ) (q : Row) → In q rows → has_number ns q.number ≡ true → has_number (with_needed rows ns) q.number ≡ true
  stays ns q iq h = numbers_from (is_in_or_needed rows ns) rows q iq (or_left (has_number ns q.number) _ h)

  -- what a turn adds was needed
  came : (ns : List ℕ) (n : ℕ) → has_number (with_needed rows ns) n ≡ true → (has_number ns n ≡ true) ⊎ ((r q : Row) × In r rows × In q rows × (has_number ns r.number ≡ true) × (needs r q ≡ true) × (q.number ≡ n))
  came ns n h = go (numbers_to (is_in_or_needed rows ns) rows n h)
    where
      go : (q : Row) × In q rows × (is_in_or_needed rows ns q ≡ true) × (q.number ≡ n) → (has_number ns n ≡ true) ⊎ ((r q : Row) × In r rows × In q rows × (has_number ns r.number ≡ true) × (needs r q ≡ true) × (q.number ≡ n))
      go (q, iq, g, e) = pick (or_cases (has_number ns q.number) (list_any (λ r. has_number ns r.number && needs r q) rows) g)
        where
          pick : (has_number ns q.number ≡ true) ⊎ (list_any (λ r. has_number ns r.number && needs r q) rows ≡ true) → (has_number ns n ≡ true) ⊎ ((r q : Row) × In r rows × In q rows × (has_number ns r.number ≡ true) × (needs r q ≡ true) × (q.number ≡ n))
          pick (inl t) = inl (has_eq ns q.number n e t)
          pick (inr t) =
              let r = any_to (λ r. has_number ns r.number && needs r q) rows t in
              let both = and_parts (has_number ns r.0.number) (needs r.0 q) r.2 in
              inr (r.0, q, r.1, iq, both.0, both.1, e)

  -- ---- closed sets

  abbrev pub Closed : List ℕ → Type 0
  Closed ns = (r q : Row) → In r rows → In q rows → has_number ns r.number ≡ true → needs r q ≡ true → has_number ns q.number ≡ true

  closed_to : (ns : List ℕ) → Closed ns → IsClosed rows ns
  closed_to ns h = all_from _ rows (λ r ir hr. all_from _ rows (λ q iq d. h r q ir iq hr d))

  closed_from : (ns : List ℕ) → IsClosed rows ns → Closed ns
  closed_from ns h r q ir iq hr d = all_in (λ q. needs r q ≡ true → has_number ns q.number ≡ true) rows q (all_in (λ r. has_number ns r.number ≡ true → AllByRecursion (λ q. needs r q ≡ true → has_number ns q.number ≡ true) rows) rows r h ir hr) iq d

  -- a turn gives a closed set nothing new
  turn_within : (other ns : List ℕ) → Closed other → ((n : ℕ) → has_number ns n ≡ true → has_number other n ≡ true) → (n : ℕ) → has_number (with_needed rows ns) n ≡ true → has_number other n ≡ true
  turn_within other ns closed sub n h = go (came ns n h)
    where
      go : (has_number ns n ≡ true) ⊎ ((r q : Row) × In r rows × In q rows × (has_number ns r.number ≡ true) × (needs r q ≡ true) × (q.number ≡ n)) → has_number other n ≡ true
      go (inl t) = sub n t
      go (inr (r, q, ir, iq, hr, d, e)) = has_eq other q.number n e (closed r q ir iq (sub r.number hr) d)

  pub grown_within : (k : ℕ) (other ns : List ℕ) → Closed other → ((n : ℕ) → has_number ns n ≡ true → has_number other n ≡ true) → (n : ℕ) → has_number (with_needed_again k rows ns) n ≡ true → has_number other n ≡ true
  grown_within zero other ns closed sub n h = sub n h
  grown_within (suc k) other ns closed sub n h = grown_within k other (with_needed rows ns) closed (turn_within other ns closed sub) n h

  closed_turn : (ns : List ℕ) → Closed ns → Closed (with_needed rows ns)
  closed_turn ns closed r q ir iq hr d = stays ns q iq (closed r q ir iq (turn_within ns ns closed (λ n h. h) r.number hr) d)

  closed_turns : (k : ℕ) (ns : List ℕ) → Closed ns → Closed (with_needed_again k rows ns)
  closed_turns zero ns closed = closed
  closed_turns (suc k) ns closed = closed_turns k (with_needed rows ns) (closed_turn ns closed)

  abbrev pub inside : List ℕ → ℕ
  inside ns = count (λ q. has_number ns q.number) rows

  -- as many turns as there are rows are enough
  grown_closed : (k : ℕ) (ns : List ℕ) → length rows ≤ inside ns + k → Closed (with_needed_again k rows ns)
  grown_closed zero ns le = λ r q ir iq hr d. count_all (λ q. has_number ns q.number) rows (omega arith) q iq
  grown_closed (suc k) ns le = ⊎_elim
      (λ more. grown_closed k (with_needed rows ns) (omega arith))
      (λ same. closed_turns (suc k) ns (λ r q ir iq hr d. count_same (λ q. has_number ns q.number) (λ q. has_number (with_needed rows ns) q.number) rows (stays ns) same q iq (drawn ns r q ir iq hr d)))
      (cases_lt (inside ns) (inside (with_needed rows ns)))

  stays_turns : (k : ℕ) (ns : List ℕ) (q : Row) → In q rows → has_number ns q.number ≡ true → has_number (with_needed_again k rows ns) q.number ≡ true
  stays_turns zero ns q iq h = h
  stays_turns (suc k) ns q iq h = stays_turns k (with_needed rows ns) q iq (stays ns q iq h)

  -- numbers of rows stay numbers of rows
  present_turn : (ns : List ℕ) (n : ℕ) → has_number (with_needed rows ns) n ≡ true → has_number (map (λ r. r.number) rows) n ≡ true
  present_turn ns n h = go (numbers_to (is_in_or_needed rows ns) rows n h)
    where
      go : (q : Row) × In q rows × (is_in_or_needed rows ns q ≡ true) × (q.number ≡ n) → has_number (map (λ r. r.number) rows) n ≡ true
      go (q, iq, g, e) = any_from (λ m. eqb m n) (map (λ r. r.number) rows) q.number (in_map rows q iq) (eq-eqb q.number n e)
        where
          in_map : (rows : List Row) (q : Row) → In q rows → In q.number (map (λ r. r.number) rows)
          in_map [] q i = absurd i
          in_map (r ∷ rows) q (inl e) = inl (ap (λ z. z.number) e)
          in_map (r ∷ rows) q (inr i) = inr (in_map rows q i)

  present_turns : (k : ℕ) (ns : List ℕ) → ((n : ℕ) → has_number ns n ≡ true → has_number (map (λ r. r.number) rows) n ≡ true) → (n : ℕ) → has_number (with_needed_again k rows ns) n ≡ true → has_number (map (λ r. r.number) rows) n ≡ true
  present_turns zero ns sub n h = sub n h
  present_turns (suc k) ns sub n h = present_turns k (with_needed rows ns) (present_turn ns) n h

  has_one : (i n : ℕ) → has_number (i ∷ []) n ≡ true → i ≡ n
  has_one i n h = ⊎_elim (λ e. eqb-true i n e) (λ e. absurd (false≢true e)) (or_cases (eqb i n) false h)

  pub closure_least : (r : Row) → In r rows → IsLeastClosed rows r.number (closure rows r.number)
  closure_least r ir = record {
    own = stays_turns (length rows) (r.number ∷ []) r ir (or_left (eqb r.number r.number) false (eq-eqb r.number r.number refl));
    present = present_turns (length rows) (r.number ∷ []) (λ n h. subst (λ z. has_number (map (λ r. r.number) rows) z ≡ true) (has_one r.number n h) (here r ir));
    closed = closed_to (closure rows r.number) (grown_closed (length rows) (r.number ∷ []) (omega arith));
    least = λ other own closed. grown_within (length rows) other (r.number ∷ []) (closed_from other closed) (λ n h. has_eq other r.number n (has_one r.number n h) own);
  }
    where
      here : (q : Row) → In q rows → has_number (map (λ r. r.number) rows) q.number ≡ true
      here q iq = go rows q iq
        where
          go : (rs : List Row) (q : Row) → In q rs → has_number (map (λ r. r.number) rs) q.number ≡ true
          go [] q i = absurd i
          go (r ∷ rs) q (inl e) = or_left (eqb r.number q.number) _ (eq-eqb r.number q.number (ap (λ z. z.number) e))
          go (r ∷ rs) q (inr i) = or_right (eqb r.number q.number) _ (go rs q i)

pub closures_least : ClosureIsLeast
closures_least rows = all_from (λ r. IsLeastClosed rows r.number (closure rows r.number)) rows (closure_least rows)

-- ---- what a row needs

module _ (m n : ℕ) where
  entries_from : (cs ds : List Colour) (x : ℕ) (c d : Colour) → slice_get cs x ≡ Some c → slice_get ds x ≡ Some d → is_concerned (Some d) ≡ true → entry_needs m c n ≡ true → some_entry_needs m cs n ds ≡ true
  entries_from [] ds x c d hc hd k h = absurd (cc)
  entries_from (a ∷ cs) [] x c d hc hd k h = absurd (cc)
  entries_from (a ∷ cs) (b ∷ ds) zero c d hc hd k h = or_left (entry_needs m a n && is_concerned (Some b)) _ (and_from (entry_needs m a n) (is_concerned (Some b)) (rw (some a c hc) h) (rw (some b d hd) k))
    where
      some : (a c : Colour) → Some a ≡ Some c → a ≡ c
      some a c h = cc
  entries_from (a ∷ cs) (b ∷ ds) (suc x) c d hc hd k h = or_right (entry_needs m a n && is_concerned (Some b)) _ (entries_from cs ds x c d hc hd k h)

  pub record Found (cs ds : List Colour) : Type 0 where
    pub x : ℕ
    pub mine : Colour
    pub its : Colour
    pub mine_is : slice_get cs x ≡ Some mine
    pub its_is : slice_get ds x ≡ Some its
    pub concerned : is_concerned (Some its) ≡ true
    pub needed : entry_needs m mine n ≡ true

  entries_to : (cs ds : List Colour) → some_entry_needs m cs n ds ≡ true → Found cs ds
  entries_to [] ds h = absurd (false≢true h)
  entries_to (a ∷ cs) [] h = absurd (false≢true h)
  entries_to (a ∷ cs) (b ∷ ds) h = go (or_cases (entry_needs m a n && is_concerned (Some b)) (some_entry_needs m cs n ds) h) (entries_to cs ds)
    where
      go : (entry_needs m a n && is_concerned (Some b) ≡ true) ⊎ (some_entry_needs m cs n ds ≡ true) → (some_entry_needs m cs n ds ≡ true → Found cs ds) → Found (a ∷ cs) (b ∷ ds)
      go (inl e) more = let both = and_parts (entry_needs m a n) (is_concerned (Some b)) e in record { x = 0; mine = a; its = b; mine_is = refl; its_is = refl; concerned = both.1; needed = both.0 }
      go (inr e) more = let f = more e in record { x = suc f.x; mine = f.mine; its = f.its; mine_is = f.mine_is; its_is = f.its_is; concerned = f.concerned; needed = f.needed }

pub draws_entries : NeedsAreEntries
draws_entries r q = (
  λ h. ⊎_elim
      (λ e. let f = entries_to r.number q.number r.entries q.entries e in inl (f.x, record { mine = f.mine; its = f.its; mine_is = f.mine_is; its_is = f.its_is; concerned = f.concerned; needed = f.needed }))
      (λ e. let both = and_parts (eqb r.source q.source) (ltb q.number r.number) e in inr (eqb-true r.source q.source both.0, ltb-true q.number r.number both.1))
      (or_cases (some_entry_needs r.number r.entries q.number q.entries) (eqb r.source q.source && ltb q.number r.number) h),
  λ h. ⊎_elim
      (λ e. or_left (some_entry_needs r.number r.entries q.number q.entries) _ (entries_from r.number q.number r.entries q.entries e.0 e.1.mine e.1.its e.1.mine_is e.1.its_is e.1.concerned e.1.needed))
      (λ e. or_right (some_entry_needs r.number r.entries q.number q.entries) _ (and_from (eqb r.source q.source) (ltb q.number r.number) (eq-eqb r.source q.source e.0) (lt-ltb q.number r.number e.1)))
      h,
)
