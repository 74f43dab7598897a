-- Marks: what all marked rows lead to.
use Rattle.std.proofs.Common.{◌≡◌, ◌≢◌, ℕ, zero, suc, ◌+◌, ◌<◌, ◌≤◌, Bool, true, false, ◌||◌, List, [], ◌∷◌, length, cond, Some, refl, sym, ap, subst, ◌∙◌, arith, ◌⊎◌, inl, inr, ⊎_elim}
use Rattle.std.specs.Prelude.{slice_get, not}
use Rattle.std.specs.List.{AllPairs}
use Rattle.std.proofs.Math.ListN.{set, get_or}
use Rattle.std.proofs.lemmas.List.{get_or-set_same, get_or-set_other, length-set}
use Rattle.std.proofs.lemmas.Bool.{cases_eq, cases_lt, false≢true}
use Rattle.std.proofs.lemmas.Option.{slice_get_within, get_or_from_slice_get}
use Rattle.whips_flow.specs.Painted.{Row}
use Rattle.whips_paint.specs.declared.marks.Mark.{Mark}
use Rattle.whips_paint.specs.declared.marks.Mark.TheVariants.{Clear, Found}
use Rattle.whips_paint.specs.declared.bounds.Side.{Side}
use Rattle.whips_paint.specs.declared.bounds.Bound.{Bound}
use Rattle.whips_paint.specs.Bounds.{leads, draws, is_past, IsNoted}
use Rattle.whips_paint.proofs.Bounding.{past_undrawn}
use Rattle.whips_paint.specs.Marks.{is_clear, is_marked, IsKept, IsSpread, IsBounded, IsSpreading, clear_count, IsGrown, IsTold, IsSame}

abbrev pub mark_at : List Mark → ℕ → Mark
mark_at marks k = get_or marks k Clear

-- what a write at place p does to the mark at k
pub set_cases : (marks : List Mark) (p k : ℕ) (m : Mark) → p < length marks → ((k ≡ p) × (mark_at (set marks p m) k ≡ m)) ⊎ ((k ≢ p) × (mark_at (set marks p m) k ≡ mark_at marks k))
set_cases marks p k m below = ⊎_elim
    (λ e. inl (e, subst (λ j. mark_at (set marks p m) j ≡ m) (sym e) (get_or-set_same marks p m Clear below)))
    (λ n. inr (n, get_or-set_other marks p k m Clear n))
    (cases_eq k p)

pub one_row : (rows : List Row) (k p : ℕ) (r q : Row) → slice_get rows p ≡ Some r → slice_get rows k ≡ Some q → k ≡ p → q ≡ r
one_row rows k p r q hr hq e = some q r (sym hq ∙ ap (slice_get rows) e ∙ hr)
  where
    some : (a b : Row) → Some a ≡ Some b → a ≡ b
    some a b h = cc

set_marked : (marks : List Mark) (p k : ℕ) → p < length marks → is_marked marks k ≡ true → is_marked (set marks p Found) k ≡ true
set_marked marks p k below m = ⊎_elim
    (λ (e, at). ap (λ x. not (is_clear x)) at)
    (λ (n, at). ap (λ x. not (is_clear x)) at ∙ m)
    (set_cases marks p k Found below)

pub count_set : (marks : List Mark) (p : ℕ) (d : Mark) → p < length marks → is_clear (get_or marks p d) ≡ true → clear_count (set marks p Found) + 1 ≡ clear_count marks
count_set [] p d below h = absurd (omega arith)
count_set (m ∷ marks) zero d below h = rw h (omega arith)
count_set (m ∷ marks) (suc p) d below h = omega (arith, count_set marks p d (omega arith) h)

module _ (side : Side) (rows : List Row) where
  -- ---- the bounds of the first marks

  pub bounded_none : (marks : List Mark) → IsBounded side rows marks [] 0
  bounded_none marks = record {
    sound = λ q h. absurd (false≢true h);
    full = λ k r q lt. absurd (omega arith);
  }

  pub bounded_skip : (marks : List Mark) (bounds : List Bound) (p : ℕ) → IsBounded side rows marks bounds p → is_clear (mark_at marks p) ≡ true → IsBounded side rows marks bounds (p + 1)
  bounded_skip marks bounds p h clear = record {
    sound = h.sound;
    full = λ k r q lt hr m l. ⊎_elim
        (λ e. absurd (false≢true (sym (ap not (subst (λ j. is_clear (mark_at marks j) ≡ true) (sym e) clear)) ∙ m)))
        (λ n. h.full k r q (omega arith) hr m l)
        (cases_eq k p);
  }

  pub bounded_more : (marks : List Mark) (bounds new : List Bound) (p : ℕ) (r : Row) → IsBounded side rows marks bounds p → slice_get rows p ≡ Some r → is_clear (mark_at marks p) ≡ false → IsNoted side r bounds new → IsBounded side rows marks new (p + 1)
  bounded_more marks bounds new p r h here found note = record {
    sound = λ q d. ⊎_elim (h.sound q) (λ l. record { place = p; row = r; row_is = here; marked = ap not found; led = l }) (note.sound q d);
    full = λ k t q lt ht m l. ⊎_elim
        (λ e. note.full q (subst (λ z. leads side z q ≡ true) (one_row rows k p r t here ht e) l))
        (λ n. note.kept q (h.full k t q (omega arith) ht m l))
        (cases_eq k p);
  }

  -- ---- the marks

  pub spreading_none : (marks : List Mark) (bounds : List Bound) → IsBounded side rows marks bounds (length rows) → IsSpreading side rows marks marks bounds
  spreading_none marks bounds b = record { size = refl; kept = λ k h. h; least = λ test keeps seeds. seeds; bounded = b }

  -- one more row is marked
  module _ (old : List Mark) (bounds new : List Bound) (p : ℕ) (r : Row) (here : slice_get rows p ≡ Some r) (size : length old ≡ length rows) (clear : is_clear (mark_at old p) ≡ true) (drawn : draws side bounds r ≡ true) (note : IsNoted side r bounds new) where
    below : p < length old
    below = let within : p < length rows = slice_get_within rows p r here in omega arith

    one_more : (first : List Mark) → IsSpreading side rows first old bounds → IsSpreading side rows first (set old p Found) new
    one_more first h = record {
      size = length-set old p Found ∙ h.size;
      kept = λ k m. set_marked old p k below (h.kept k m);
      least = λ test keeps seeds k s hs m. ⊎_elim
          (λ (e, at). subst (λ z. test z ≡ true) (sym (one_row rows k p r s here hs e)) (own test keeps seeds))
          (λ (n, at). h.least test keeps seeds k s hs (sym (ap (λ x. not (is_clear x)) at) ∙ m))
          (set_cases old p k Found below);
      bounded = record {
        sound = λ q d. ⊎_elim
            (λ w. let l = h.bounded.sound q w in record { place = l.place; row = l.row; row_is = l.row_is; marked = set_marked old p l.place below l.marked; led = l.led })
            (λ l. record { place = p; row = r; row_is = here; marked = ap (λ x. not (is_clear x)) (get_or-set_same old p Found Clear below); led = l })
            (note.sound q d);
        full = λ k s q lt hs m l. ⊎_elim
            (λ (e, at). note.full q (subst (λ z. leads side z q ≡ true) (one_row rows k p r s here hs e) l))
            (λ (n, at). note.kept q (h.bounded.full k s q lt hs (sym (ap (λ x. not (is_clear x)) at) ∙ m) l))
            (set_cases old p k Found below);
      };
    }
      where
        own : (test : Row → Bool) → IsKept side rows test → ((k : ℕ) (r : Row) → slice_get rows k ≡ Some r → is_marked first k ≡ true → test r ≡ true) → test r ≡ true
        own test keeps seeds = let l = h.bounded.sound r drawn in keeps l.place p l.row r l.row_is here (h.least test keeps seeds l.place l.row l.row_is l.marked) l.led

    pub grown_one : IsGrown side rows old (set old p Found) bounds new
    grown_one = record {
      spreading = one_more;
      less = let one = count_set old p Clear below clear in omega arith;
    }

  pub grown_two : (old mid new : List Mark) (a b c : List Bound) → IsGrown side rows old mid a b → IsGrown side rows mid new b c → IsGrown side rows old new a c
  grown_two old mid new a b c g h = record {
    spreading = λ first s. h.spreading first (g.spreading first s);
    less = let x = g.less in let y = h.less in omega arith;
  }

  -- no bound leads to a clear row
  pub spreading_all : (first now : List Mark) (bounds : List Bound) → IsSpreading side rows first now bounds → ((k : ℕ) → IsTold side rows now bounds k) → IsSpread side rows first now
  spreading_all first now bounds h told = record {
    size = h.size;
    kept = h.kept;
    full = λ k l r q hr hq m led. told l q hq (h.bounded.full k r q (slice_get_within rows k r hr) hr m led);
    least = h.least;
  }

  -- ---- one sweep

  pub record Sweeping (old now : List Mark) (a b : List Bound) (turn : ℕ) (grew : Bool) : Type 0 where
    pub size : length now ≡ length old
    pub grown : grew ≡ true → IsGrown side rows old now a b
    pub same : grew ≡ false → IsSame old now a b
    pub told : grew ≡ false → (k : ℕ) → k < turn → IsTold side rows now b k

  pub sweeping_none : (old : List Mark) (a : List Bound) → Sweeping old old a a 0 false
  sweeping_none old a = record {
    size = refl;
    grown = λ h. absurd (false≢true h);
    same = λ h. record { marks = refl; bounds = refl };
    told = λ h k lt. absurd (omega arith);
  }

  pub sweeping_more : (old now next : List Mark) (a b c : List Bound) (turn : ℕ) (grew here : Bool) → Sweeping old now a b turn grew → turn < length rows → length next ≡ length now
      → (here ≡ true → IsGrown side rows now next b c) → (here ≡ false → IsSame now next b c) → (here ≡ false → IsTold side rows next c turn) → Sweeping old next a c (turn + 1) (grew || here)
  sweeping_more old now next a b c turn true true h lt size g s t = record {
    size = size ∙ h.size;
    grown = λ e. grown_two old now next a b c (h.grown refl) (g refl);
    same = λ e. absurd (false≢true (sym e));
    told = λ e. absurd (false≢true (sym e));
  }
  sweeping_more old now next a b c turn true false h lt size g s t = record {
    size = size ∙ h.size;
    grown = λ e. subst (λ z. IsGrown side rows old z a c) (sym (s refl).marks) (subst (λ z. IsGrown side rows old now a z) (sym (s refl).bounds) (h.grown refl));
    same = λ e. absurd (false≢true (sym e));
    told = λ e. absurd (false≢true (sym e));
  }
  sweeping_more old now next a b c turn false true h lt size g s t = record {
    size = size ∙ h.size;
    grown = λ e. subst (λ z. IsGrown side rows z next a c) (h.same refl).marks (subst (λ z. IsGrown side rows now next z c) (h.same refl).bounds (g refl));
    same = λ e. absurd (false≢true (sym e));
    told = λ e. absurd (false≢true (sym e));
  }
  sweeping_more old now next a b c turn false false h lt size g s t = record {
    size = size ∙ h.size;
    grown = λ e. absurd (false≢true e);
    same = λ e. record { marks = (s refl).marks ∙ (h.same refl).marks; bounds = (s refl).bounds ∙ (h.same refl).bounds };
    told = λ e k past. ⊎_elim
        (λ at. subst (IsTold side rows next c) (sym at) (t refl))
        (λ was. subst (λ z. IsTold side rows z c k) (sym (s refl).marks) (subst (λ z. IsTold side rows now z k) (sym (s refl).bounds) (h.told refl k was)))
        (⊎_elim inl (λ n. inr (omega arith)) (cases_eq k turn));
  }

  pub sweeping_all : (old now : List Mark) (a b : List Bound) (turn : ℕ) (grew : Bool) → Sweeping old now a b turn grew → length rows ≤ turn → grew ≡ false → (k : ℕ) → IsTold side rows now b k
  sweeping_all old now a b turn grew h all e k q hq = let within : k < length rows = slice_get_within rows k q hq in h.told e k (omega arith) q hq

  rising_from : AllPairs (λ r q. r.number < q.number) rows → (p k : ℕ) (r q : Row) → slice_get rows p ≡ Some r → slice_get rows k ≡ Some q → p ≤ k → r.number ≤ q.number
  rising_from order p k r q hr hq le = ⊎_elim
      (λ e. let same : r.number ≡ q.number = ap (λ z. z.number) (one_row rows p k q r hq hr e) in omega arith)
      (λ ne.
      let h : (get_or rows p r).number < (get_or rows k r).number = order p k r (omega arith) (slice_get_within rows k q hq) in
      let a : (get_or rows p r).number ≡ r.number = ap (λ z. z.number) (get_or_from_slice_get rows p r r hr) in
      let b : (get_or rows k r).number ≡ q.number = ap (λ z. z.number) (get_or_from_slice_get rows k q r hq) in
      omega arith)
      (cases_eq p k)

  -- no bound leads to a row from this one on
  pub sweeping_past : AllPairs (λ r q. r.number < q.number) rows → (old now : List Mark) (a b : List Bound) (turn : ℕ) (grew : Bool) (r : Row) → Sweeping old now a b turn grew → slice_get rows turn ≡ Some r → is_past side b r.number ≡ true → grew ≡ false → (k : ℕ) → IsTold side rows now b k
  sweeping_past order old now a b turn grew r h here past e k q hq drawn = ⊎_elim
      (λ lt. h.told e k lt q hq drawn)
      (λ ge. absurd (false≢true (sym (past_undrawn side b r.number q past (rising_from order turn k r q here hq ge)) ∙ drawn)))
      (cases_lt k turn)

  -- ---- all sweeps

  pub record Swept (first now : List Mark) (bounds : List Bound) (grew : Bool) : Type 0 where
    pub spreading : IsSpreading side rows first now bounds
    pub told : grew ≡ false → (k : ℕ) → IsTold side rows now bounds k

  pub swept_more : (first now next : List Mark) (b c : List Bound) (grew again : Bool) → Swept first now b grew → (again ≡ true → IsGrown side rows now next b c) → (again ≡ false → IsSame now next b c) → (again ≡ false → (k : ℕ) → IsTold side rows next c k) → Swept first next c again
  swept_more first now next b c grew true h g s t = record { spreading = (g refl).spreading first h.spreading; told = t }
  swept_more first now next b c grew false h g s t = record {
    spreading = subst (λ z. IsSpreading side rows first z c) (sym (s refl).marks) (subst (IsSpreading side rows first now) (sym (s refl).bounds) h.spreading);
    told = t;
  }

-- what is left to do before the last sweep
abbrev pub left_to_sweep : List Mark → Bool → ℕ
left_to_sweep marks grew = clear_count marks + cond grew 1 0

pub left_less : (side : Side) (rows : List Row) (now next : List Mark) (b c : List Bound) (again : Bool) → (again ≡ true → IsGrown side rows now next b c) → (again ≡ false → IsSame now next b c) → left_to_sweep next again < left_to_sweep now true
left_less side rows now next b c true g s = let less = (g refl).less in omega arith
left_less side rows now next b c false g s = subst (λ z. clear_count z + 0 < clear_count now + 1) (sym (s refl).marks) (omega arith)
