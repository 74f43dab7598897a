-- The elements of a list that pass a test: the first, their number, and each by its place among them.
use Rattle.std.proofs.Common.{◌≡◌, ℕ, zero, suc, ◌+◌, ◌<◌, ◌-◌, Bool, true, false, cond, List, [], ◌∷◌, ◌++◌, length, map, take, Some, None, refl, sym, ap, ap₂, ◌∙◌, arith, append_assoc, append-nil}
use Rattle.std.specs.Prelude.{find, filter, slice_get, slice_index_or}
use Rattle.std.proofs.lemmas.List.{map-append, length-append}
use Rattle.whips_lists.specs.Lists.{places_from}
use Rattle.whips_flow.specs.Facts.{Facts}
use Rattle.whips_flow.specs.Progress.{pipeline_events}
use Rattle.whips_core.specs.Groups.{group_events, events_of, answers_of, group_of, first_groups}
use Rattle.whips_core.specs.declared.order.EventKind.TheVariants as kind
use Rattle.whips_core.specs.declared.order.EventGroup.{EventGroup}
use Rattle.whips_core.proofs.Orders.{places_then, all_groups, groups_are, events_join}
use Rattle.whips_flow.specs.declared.event.Event.{Event}

module _ {A : Type 0} (test : A → Bool) where
  pub passing_join : (xs ys : List A) → filter test (xs ++ ys) ≡ filter test xs ++ filter test ys
  passing_join [] ys = refl
  passing_join (x ∷ xs) ys = by (test x) (passing_join xs ys)
    where
      by : (b : Bool) → filter test (xs ++ ys) ≡ filter test xs ++ filter test ys → cond b (x ∷ filter test (xs ++ ys)) (filter test (xs ++ ys)) ≡ cond b (x ∷ filter test xs) (filter test xs) ++ filter test ys
      by true e = ap (λ l. x ∷ l) e
      by false e = e

  pub passing_count : (xs ys : List A) → length (filter test (xs ++ ys)) ≡ length (filter test xs) + length (filter test ys)
  passing_count xs ys = ap length (passing_join xs ys) ∙ length-append (filter test xs) (filter test ys)

  pub first_behind : (xs ys : List A) → find test xs ≡ None → find test (xs ++ ys) ≡ find test ys
  first_behind [] ys h = refl
  first_behind (x ∷ xs) ys h = by (test x) (first_behind xs ys) h
    where
      by : (b : Bool) → (find test xs ≡ None → find test (xs ++ ys) ≡ find test ys) → cond b (Some x) (find test xs) ≡ None → cond b (Some x) (find test (xs ++ ys)) ≡ find test ys
      by true ih h = absurd (cc)
      by false ih h = ih h

  pub first_before : (xs ys : List A) (x : A) → find test xs ≡ Some x → find test (xs ++ ys) ≡ Some x
  first_before [] ys x h = absurd (cc)
  first_before (y ∷ xs) ys x h = by (test y) (first_before xs ys x) h
    where
      by : (b : Bool) → (find test xs ≡ Some x → find test (xs ++ ys) ≡ Some x) → cond b (Some y) (find test xs) ≡ Some x → cond b (Some y) (find test (xs ++ ys)) ≡ Some x
      by true ih h = h
      by false ih h = ih h

-- ---- a place in one of two lists

pub nth_before : {A : Type 0} (xs ys : List A) (k : ℕ) (x : A) → slice_get xs k ≡ Some x → slice_get (xs ++ ys) k ≡ Some x
nth_before [] ys k x h = absurd (cc)
nth_before (y ∷ xs) ys zero x h = h
nth_before (y ∷ xs) ys (suc k) x h = nth_before xs ys k x h

pub nth_behind : {A : Type 0} (xs ys : List A) (left k : ℕ) → left + length xs ≡ k → slice_get (xs ++ ys) k ≡ slice_get ys left
nth_behind [] ys left k h = let e : left ≡ k = omega (arith, h) in ap (slice_get ys) (sym e)
nth_behind (x ∷ xs) ys left zero h = absurd (omega (arith, h))
nth_behind (x ∷ xs) ys left (suc k) h = nth_behind xs ys left k (omega (arith, h))

-- ---- places

places_split : (k i m : ℕ) → places_from k (i + suc m) ≡ places_from k i ++ (k + i) ∷ places_from (suc (k + i)) m
places_split k zero m = let e : k ≡ k + 0 = omega arith in let n : 0 + suc m ≡ suc m = omega arith in ap (places_from k) n ∙ ap (λ j. j ∷ places_from (suc j) m) e
places_split k (suc i) m = let n : suc i + suc m ≡ suc (i + suc m) = omega arith in ap (places_from k) n ∙ (let e : suc k + i ≡ k + suc i = omega arith in ap (λ l. k ∷ l) (places_split (suc k) i m ∙ ap (λ j. places_from (suc k) i ++ j ∷ places_from (suc j) m) e))

module _ {A : Type 0} (test : A → Bool) (g : ℕ → A) where
  abbrev places : ℕ → List A
  places n = map g (places_from 0 n)

  then_one : (n : ℕ) → places (n + 1) ≡ places n ++ g n ∷ []
  then_one n = ap (map g) (places_then n) ∙ map-append g (places_from 0 n) (n ∷ [])

  -- those at all places are those before one, it, and those behind it
  split : (i n : ℕ) → i < n → (rest : List A) × (places n ≡ places i ++ g i ∷ rest)
  split i n lt =
      let m = n - suc i in
      let is : n ≡ i + suc m = omega (arith, lt) in
      let z : 0 + i ≡ i = omega arith in
      (map g (places_from (suc i) m), ap places is ∙ ap (map g) (places_split 0 i m) ∙ ap (λ j. map g (places_from 0 i ++ j ∷ places_from (suc j) m)) z ∙ map-append g (places_from 0 i) (i ∷ places_from (suc i) m))

  one_passes : (x : A) → test x ≡ true → filter test (x ∷ []) ≡ x ∷ []
  one_passes x h = ap (λ b. cond b (x ∷ []) []) h

  one_fails : (x : A) → test x ≡ false → filter test (x ∷ []) ≡ []
  one_fails x h = ap (λ b. cond b (x ∷ []) []) h

  pub counted_passing : (n : ℕ) → test (g n) ≡ true → length (filter test (places (n + 1))) ≡ suc (length (filter test (places n)))
  counted_passing n h =
      let e = ap (λ l. length (filter test l)) (then_one n) ∙ passing_count test (places n) (g n ∷ []) ∙ ap (λ l. length (filter test (places n)) + length l) (one_passes (g n) h) in
      omega (arith, e)

  pub counted_failing : (n : ℕ) → test (g n) ≡ false → length (filter test (places (n + 1))) ≡ length (filter test (places n))
  counted_failing n h =
      let e = ap (λ l. length (filter test l)) (then_one n) ∙ passing_count test (places n) (g n ∷ []) ∙ ap (λ l. length (filter test (places n)) + length l) (one_fails (g n) h) in
      omega (arith, e)

  pub none_more : (n : ℕ) → find test (places n) ≡ None → test (g n) ≡ false → find test (places (n + 1)) ≡ None
  none_more n none h = ap (find test) (then_one n) ∙ first_behind test (places n) (g n ∷ []) none ∙ ap (λ b. cond b (Some (g n)) None) h

  pub first_is : (i n : ℕ) → i < n → find test (places i) ≡ None → test (g i) ≡ true → find test (places n) ≡ Some (g i)
  first_is i n lt none h =
      let s = split i n lt in
      ap (find test) s.1 ∙ first_behind test (places i) (g i ∷ s.0) none ∙ ap (λ b. cond b (Some (g i)) (find test s.0)) h

  pub nth_is : (i n k : ℕ) → i < n → length (filter test (places i)) ≡ k → test (g i) ≡ true → slice_get (filter test (places n)) k ≡ Some (g i)
  nth_is i n k lt before h =
      let s = split i n lt in
      let passing : filter test (g i ∷ s.0) ≡ g i ∷ filter test s.0 = ap (λ b. cond b (g i ∷ filter test s.0) (filter test s.0)) h in
      ap (λ l. slice_get (filter test l) k) s.1
      ∙ ap (λ l. slice_get l k) (passing_join test (places i) (g i ∷ s.0))
      ∙ nth_behind (filter test (places i)) (filter test (g i ∷ s.0)) 0 k (omega (arith, before))
      ∙ ap (λ l. slice_get l 0) passing

-- ---- groups

-- one group more
groups_split : (gs : List EventGroup) (i : ℕ) (d : EventGroup) → i < length gs
    → (events_of (take (i + 1) gs) ≡ events_of (take i gs) ++ group_events (slice_index_or gs i d)) × (rest : List Event) × (events_of gs ≡ events_of (take i gs) ++ (group_events (slice_index_or gs i d) ++ rest))
groups_split [] i d lt = absurd (omega (arith, lt))
groups_split (g ∷ gs) zero d lt = let n : 0 + 1 ≡ 1 = omega arith in (ap (λ k. events_of (take k (g ∷ gs))) n ∙ append-nil (group_events g), events_of gs, refl)
groups_split (g ∷ gs) (suc i) d lt =
    let s = groups_split gs i d (omega (arith, lt)) in
    let l = slice_index_or gs i d in
    let n : suc i + 1 ≡ suc (i + 1) = omega arith in (
      ap (λ k. events_of (take k (g ∷ gs))) n ∙ ap (λ x. group_events g ++ x) s.0 ∙ sym (append_assoc (group_events g) (events_of (take i gs)) (group_events l)),
      s.1,
      ap (λ x. group_events g ++ x) s.2 ∙ sym (append_assoc (group_events g) (events_of (take i gs)) (group_events l ++ s.1)),
    )

module _ (test : Event → Bool) (gs : List EventGroup) (i : ℕ) (d : EventGroup) (lt : i < length gs) where
  abbrev here : List Event
  here = group_events (slice_index_or gs i d)

  pub none_in_more : find test (events_of (take i gs)) ≡ None → find test here ≡ None → find test (events_of (take (i + 1) gs)) ≡ None
  none_in_more none h = let s = groups_split gs i d lt in ap (find test) s.0 ∙ first_behind test (events_of (take i gs)) here none ∙ h

  pub first_in_all : (e : Event) → find test (events_of (take i gs)) ≡ None → find test here ≡ Some e → find test (events_of gs) ≡ Some e
  first_in_all e none h =
      let s = groups_split gs i d lt in
      ap (find test) s.2 ∙ first_behind test (events_of (take i gs)) (here ++ s.1) none ∙ first_before test here s.1 e h

  pub left_more : (place left behind : ℕ) → left + length (filter test (events_of (take i gs))) ≡ place → behind + length (filter test here) ≡ left → behind + length (filter test (events_of (take (i + 1) gs))) ≡ place
  left_more place left behind h e =
      let s = groups_split gs i d lt in
      let all = ap (λ l. length (filter test l)) s.0 ∙ passing_count test (events_of (take i gs)) here in
      omega (arith, h, e, all)

  pub nth_in_all : (place left : ℕ) (e : Event) → left + length (filter test (events_of (take i gs))) ≡ place → slice_get (filter test here) left ≡ Some e → slice_get (filter test (events_of gs)) place ≡ Some e
  nth_in_all place left e h is =
      let s = groups_split gs i d lt in
      let all : filter test (events_of gs) ≡ filter test (events_of (take i gs)) ++ (filter test here ++ filter test s.1) = ap (filter test) s.2 ∙ passing_join test (events_of (take i gs)) (here ++ s.1) ∙ ap (λ l. filter test (events_of (take i gs)) ++ l) (passing_join test here s.1) in
      ap (λ l. slice_get l place) all
      ∙ nth_behind (filter test (events_of (take i gs))) (filter test here ++ filter test s.1) left place h
      ∙ nth_before (filter test here) (filter test s.1) left e is

-- ---- numbers of events

module _ (test : Event → Bool) where
  abbrev number : List Event → ℕ
  number es = length (filter test es)

  pub counted_group : (g h : EventGroup) (n : ℕ) → n ≡ number (group_events g) → g ≡ h → n ≡ number (group_events h)
  counted_group g h n is same = is ∙ ap (λ g. number (group_events g)) same

  -- those of a group and of others
  pub counted_then : (g : EventGroup) (gs : List EventGroup) (n k : ℕ) → n ≡ number (group_events g) → k ≡ number (events_of gs) → n + k ≡ number (events_of (g ∷ gs))
  counted_then g gs n k h e = ap₂ (λ a b. a + b) h e ∙ sym (passing_count test (group_events g) (events_of gs))

  -- those of seven groups
  pub counted_seven : (g1 g2 g3 g4 g5 g6 g7 : EventGroup) (n1 n2 n3 n4 n5 n6 n7 : ℕ)
      → n1 ≡ number (group_events g1) → n2 ≡ number (group_events g2) → n3 ≡ number (group_events g3) → n4 ≡ number (group_events g4) → n5 ≡ number (group_events g5) → n6 ≡ number (group_events g6) → n7 ≡ number (group_events g7)
      → n1 + n2 + n3 + n4 + n5 + n6 + n7 ≡ number (events_of (g1 ∷ g2 ∷ g3 ∷ g4 ∷ g5 ∷ g6 ∷ g7 ∷ []))
  counted_seven g1 g2 g3 g4 g5 g6 g7 n1 n2 n3 n4 n5 n6 n7 h1 h2 h3 h4 h5 h6 h7 =
      let r7 = counted_then g7 [] n7 0 h7 refl in
      let r6 = counted_then g6 (g7 ∷ []) n6 (n7 + 0) h6 r7 in
      let r5 = counted_then g5 (g6 ∷ g7 ∷ []) n5 (n6 + (n7 + 0)) h5 r6 in
      let r4 = counted_then g4 (g5 ∷ g6 ∷ g7 ∷ []) n4 (n5 + (n6 + (n7 + 0))) h4 r5 in
      let r3 = counted_then g3 (g4 ∷ g5 ∷ g6 ∷ g7 ∷ []) n3 (n4 + (n5 + (n6 + (n7 + 0)))) h3 r4 in
      let r2 = counted_then g2 (g3 ∷ g4 ∷ g5 ∷ g6 ∷ g7 ∷ []) n2 (n3 + (n4 + (n5 + (n6 + (n7 + 0))))) h2 r3 in
      let r1 = counted_then g1 (g2 ∷ g3 ∷ g4 ∷ g5 ∷ g6 ∷ g7 ∷ []) n1 (n2 + (n3 + (n4 + (n5 + (n6 + (n7 + 0)))))) h1 r2 in
      omega (arith, r1)

  -- those of one source more
  pub counted_answers : (views y n k : ℕ) → n ≡ number (events_of (map (answers_of views) (places_from 0 y))) → k ≡ number (group_events (answers_of views y))
      → n + k ≡ number (events_of (map (answers_of views) (places_from 0 (y + 1))))
  counted_answers views y n k h e =
      let before = map (answers_of views) (places_from 0 y) in
      let one = answers_of views y in
      ap₂ (λ a b. a + b) h e ∙ sym (
      ap (λ l. number (events_of (map (answers_of views) l))) (places_then y)
      ∙ ap (λ gs. number (events_of gs)) (map-append (answers_of views) (places_from 0 y) (y ∷ []))
      ∙ ap number (events_join before (one ∷ []))
      ∙ ap (λ l. number (events_of before ++ l)) (append-nil (group_events one))
      ∙ passing_count test (events_of before) (group_events one)
      )

  -- those of all groups
  pub counted_all : (views sources a b d : ℕ) → a ≡ number (events_of (first_groups views sources)) → b ≡ number (events_of (map (answers_of views) (places_from 0 sources)))
      → d ≡ number (group_events (group_of kind.Commit sources)) → (f : Facts) → length f.slots ≡ views → length f.transactions ≡ sources → a + b + d ≡ number (pipeline_events f)
  counted_all views sources a b d ha hb hd f v s =
      let first = first_groups views sources in
      let answers = map (answers_of views) (places_from 0 sources) in
      let last = group_of kind.Commit sources in
      let joined : number (events_of (all_groups views sources)) ≡ number (events_of first) + number (events_of answers) + number (group_events last) =
      ap number (events_join (first ++ answers) (last ∷ []))
      ∙ ap (λ l. number (events_of (first ++ answers) ++ l)) (append-nil (group_events last))
      ∙ passing_count test (events_of (first ++ answers)) (group_events last)
      ∙ ap (λ n. n + number (group_events last)) (ap number (events_join first answers) ∙ passing_count test (events_of first) (events_of answers)) in
      ap₂ (λ m n. m + n) (ap₂ (λ m n. m + n) ha hb) hd ∙ sym joined ∙ ap₂ (λ m n. number (events_of (all_groups m n))) (sym v) (sym s) ∙ ap number (groups_are f)
