-- How many asks, answers and replies of a query are on their way.
--
-- `begun_once`, `next_once`: a message makes a manager ask at most once under each name; `all_asked_grow`: asks that are sent raise what is on its way by no more than their number; `asked_from`, `next_open`: each ask at a source was sent by an open query.
--
-- The idea: what is on its way is a sum over the sources and the managers, and an event changes one of them. So a sum after a change at one place is that before, with one term for another.
--
-- Three lemmas carry it: `sum_changed` (one element changes), `sum_grows` (one element grows by no more than c) and `total_append`.
use Rattle.std.proofs.Common.{◌≡◌, ◌⊎◌, inl, inr, ℕ, zero, suc, ◌+◌, ◌<◌, ◌≤◌, ◌==◌, ◌&&◌, Bool, true, false, cond, List, [], ◌∷◌, ◌++◌, length, map, Some, slice_get, refl, sym, ap, ap₂, subst, ◌∙◌, arith, eqb-true}
use Rattle.std.specs.Prelude.{slice_index_or}
use Rattle.std.proofs.lemmas.Bool.{and_parts, eqb-false, cases_lt}
use Rattle.whips_lists.proofs.ByPlace.{get_cases}
use Rattle.whips_lists.proofs.Options.{some_same}
use Rattle.whips_lists.proofs.Places.{places_next}
use Rattle.whips_lists.proofs.Members.{has_none, has_cases, has_first, has_later, has_right, has_either}
use Rattle.whips_lists.specs.Lists.{changed_at, map_with_place, sum_with_place, total, places_from}
use Rattle.whips_lists.specs.Members.{Has}
use Rattle.whips_model.specs.Tuples.{Codes, Columns}
use Rattle.whips_choices.specs.KeyedViews.{KeyedView}
use Rattle.whips_choices.specs.Partials.{Partial}
use Rattle.whips_states.specs.States.{Updates}
use Rattle.whips_states.specs.Net.{given_at}
use Rattle.whips_steps.specs.Steps.{asked_sources}
use Rattle.whips_managers.specs.Managers.{Query, ManagerState, is_named, has_next, moved_on, with_step, with_answer, with_reply_to, with_reply_behind}
use Rattle.whips_managers.specs.Messages.{AskData, ask_of, next_asks, asks_after}
use Rattle.whips_query.specs.declared.asks.Ask.{Ask}
use Rattle.whips_strobe.specs.Outs.{all_sent_by}
use Rattle.whips_ask_laws.specs.Begun.{begun_at, begun}
use Rattle.whips_contents.specs.Contents.{LoadedSource}
use Rattle.whips_contents.specs.Events.{with_ask_of, all_asked}
use Rattle.whips_stage_laws.specs.Fits.{has_name, asks_named, source_named}

-- ---- sums

module _ {A : Type 0} (w : A → ℕ) where
  pub total_append : (xs ys : List A) → total w (xs ++ ys) ≡ total w xs + total w ys
  total_append [] ys = omega arith
  total_append (x ∷ xs) ys = omega (arith, total_append xs ys)

  pub total_has : (x : A) (xs : List A) → Has x xs → w x ≤ total w xs
  total_has x [] h = absurd (has_none x h)
  total_has x (y ∷ xs) h = elim (has_cases x y xs h) [
    | inl e ↦ let same : w x ≡ w y = ap w e in omega (arith, same)
    | inr k ↦ omega (arith, total_has x xs k)
  ]

module _ {A : Type 0} (w : ℕ → A → ℕ) where
  pub sum_has : (k i : ℕ) (xs : List A) (x : A) → slice_get xs i ≡ Some x → w (k + i) x ≤ sum_with_place w k xs
  sum_has k i [] x e = absurd (cc)
  sum_has k zero (y ∷ xs) x e = let same : w (k + 0) x ≡ w k y = let z : k + 0 ≡ k = omega arith in ap₂ w z (sym (some_same y x e)) in omega (arith, same)
  sum_has k (suc i) (y ∷ xs) x e = let z : suc k + i ≡ k + suc i = omega arith in let same = ap (λ n. w n x) z in omega (arith, same, sum_has (suc k) i xs x e)

  module _ (g : A → A) where
    pub sum_changed : (k i : ℕ) (xs : List A) (x : A) → slice_get xs i ≡ Some x → sum_with_place w k (changed_at i g xs) + w (k + i) x ≡ sum_with_place w k xs + w (k + i) (g x)
    sum_changed k i [] x e = absurd (cc)
    sum_changed k zero (y ∷ xs) x e =
        let z : k + 0 ≡ k = omega arith in
        let a : w (k + 0) x ≡ w k y = ap₂ w z (sym (some_same y x e)) in
        let b : w (k + 0) (g x) ≡ w k (g y) = ap₂ w z (ap g (sym (some_same y x e))) in
        omega (arith, a, b)
    sum_changed k (suc i) (y ∷ xs) x e =
        let z : suc k + i ≡ k + suc i = omega arith in
        let a = ap (λ n. w n x) z in
        let b = ap (λ n. w n (g x)) z in
        omega (arith, a, b, sum_changed (suc k) i xs x e)

    pub sum_grows : (c k i : ℕ) (xs : List A) → ((n : ℕ) (x : A) → w n (g x) ≤ w n x + c) → sum_with_place w k (changed_at i g xs) ≤ sum_with_place w k xs + c
    sum_grows c k i [] h = omega arith
    sum_grows c k zero (x ∷ xs) h = omega (arith, h k x)
    sum_grows c k (suc i) (x ∷ xs) h = omega (arith, sum_grows c (suc k) i xs h)

    pub sum_same : (k i : ℕ) (xs : List A) → ((n : ℕ) (x : A) → slice_get xs i ≡ Some x → w n (g x) ≡ w n x) → sum_with_place w k (changed_at i g xs) ≡ sum_with_place w k xs
    sum_same k i [] h = refl
    sum_same k zero (x ∷ xs) h = ap (λ n. n + sum_with_place w (suc k) xs) (h k x refl)
    sum_same k (suc i) (x ∷ xs) h = ap (λ n. w k x + n) (sum_same (suc k) i xs h)

  pub sum_mapped : (g : ℕ → A → A) (k j : ℕ) (xs : List A) → ((n i : ℕ) (x : A) → w n (g i x) ≡ w n x) → sum_with_place w k (map_with_place g j xs) ≡ sum_with_place w k xs
  sum_mapped g k j [] h = refl
  sum_mapped g k j (x ∷ xs) h = ap₂ (λ a b. a + b) (h k j x) (sum_mapped g (suc k) (suc j) xs h)

-- ---- what stands at a place

module _ {A : Type 0} where
  pub get_is : (xs : List A) (i : ℕ) (x d : A) → slice_get xs i ≡ Some x → slice_index_or xs i d ≡ x
  get_is [] i x d e = absurd (cc)
  get_is (y ∷ xs) zero x d e = some_same y x e
  get_is (y ∷ xs) (suc i) x d e = get_is xs i x d e

  pub or_here : (g : A → A) (i : ℕ) (xs : List A) (d : A) → i < length xs → slice_index_or (changed_at i g xs) i d ≡ g (slice_index_or xs i d)
  or_here g i [] d lt = absurd (omega (arith, lt))
  or_here g zero (x ∷ xs) d lt = refl
  or_here g (suc i) (x ∷ xs) d lt = or_here g i xs d (omega (arith, lt))

  pub or_other : (g : A → A) (i j : ℕ) (xs : List A) (d : A) → (j ≡ i → ⊥) → slice_index_or (changed_at i g xs) j d ≡ slice_index_or xs j d
  or_other g i j [] d ne = refl
  or_other g zero zero (x ∷ xs) d ne = absurd (ne refl)
  or_other g zero (suc j) (x ∷ xs) d ne = refl
  or_other g (suc i) zero (x ∷ xs) d ne = refl
  or_other g (suc i) (suc j) (x ∷ xs) d ne = or_other g i j xs d (λ e. ne (ap suc e))

  pub or_past : (g : A → A) (i j : ℕ) (xs : List A) (d : A) → length xs ≤ i → slice_index_or (changed_at i g xs) j d ≡ slice_index_or xs j d
  or_past g i j [] d le = refl
  or_past g zero j (x ∷ xs) d le = absurd (omega (arith, le))
  or_past g (suc i) zero (x ∷ xs) d le = refl
  or_past g (suc i) (suc j) (x ∷ xs) d le = or_past g i j xs d (omega (arith, le))

pub eqb-no : (a b : ℕ) → (a ≡ b → ⊥) → (a == b) ≡ false
eqb-no a b ne = go (a == b) refl
  where
    go : (c : Bool) → (a == b) ≡ c → (a == b) ≡ false
    go true e = absurd (ne (eqb-true a b e))
    go false e = e

-- ---- asks that are put among those of a view

module _ (x : ℕ) (name : ℕ × ℕ) where
  one_asked : (n x0 : ℕ) (a : Ask) (z : LoadedSource) → source_named x name n (with_ask_of x0 a z) ≤ source_named x name n z + cond (x0 == x) (asks_named name a) 0
  one_asked n x0 a z = go (x0 == x) refl (cases_lt x0 (length z.asks))
    where
      same : (q : List Ask) → slice_index_or (changed_at x0 (λ q. q ++ a ∷ []) z.asks) x [] ≡ q → total (asks_named name) (slice_index_or (changed_at x0 (λ q. q ++ a ∷ []) z.asks) x []) ≡ total (asks_named name) q
      same q e = ap (total (asks_named name)) e

      go : (b : Bool) → (x0 == x) ≡ b → (x0 < length z.asks) ⊎ (length z.asks ≤ x0) → source_named x name n (with_ask_of x0 a z) ≤ source_named x name n z + cond b (asks_named name a) 0
      go true e (inl lt) =
          let is = same (slice_index_or z.asks x [] ++ a ∷ []) (subst (λ j. slice_index_or (changed_at x0 (λ q. q ++ a ∷ []) z.asks) j [] ≡ slice_index_or z.asks j [] ++ a ∷ []) (eqb-true x0 x e) (or_here (λ q. q ++ a ∷ []) x0 z.asks [] lt)) in
          omega (arith, is, total_append (asks_named name) (slice_index_or z.asks x []) (a ∷ []))
      go true e (inr le) = omega (arith, same (slice_index_or z.asks x []) (or_past (λ q. q ++ a ∷ []) x0 x z.asks [] le))
      go false e h = omega (arith, same (slice_index_or z.asks x []) (or_other (λ q. q ++ a ∷ []) x0 x z.asks [] (λ q. eqb-false x0 x e (sym q))))

  pub all_asked_grow : (x0 : ℕ) (sents : List (ℕ × Ask)) (ss : List LoadedSource) → sum_with_place (source_named x name) 0 (all_asked x0 ss sents) ≤ sum_with_place (source_named x name) 0 ss + cond (x0 == x) (total (λ (e : ℕ × Ask). asks_named name e.1) sents) 0
  all_asked_grow x0 [] ss = omega arith
  all_asked_grow x0 (e ∷ sents) ss =
      let ih = all_asked_grow x0 sents (changed_at e.0 (with_ask_of x0 e.1) ss) in
      let g = sum_grows (source_named x name) (with_ask_of x0 e.1) (cond (x0 == x) (asks_named name e.1) 0) 0 e.0 ss (λ n z. one_asked n x0 e.1 z) in
      let c : cond (x0 == x) (asks_named name e.1) 0 + cond (x0 == x) (total (λ (e : ℕ × Ask). asks_named name e.1) sents) 0 ≡ cond (x0 == x) (total (λ (e : ℕ × Ask). asks_named name e.1) (e ∷ sents)) 0 = elim (x0 == x) as (λ b. cond b (asks_named name e.1) 0 + cond b (total (λ (e : ℕ × Ask). asks_named name e.1) sents) 0 ≡ cond b (total (λ (e : ℕ × Ask). asks_named name e.1) (e ∷ sents)) 0) [ true ↦ omega arith | false ↦ omega arith ] in
      omega (arith, ih, g, c)

-- where a source's asks come from
pub asked_from : (x0 : ℕ) (sents : List (ℕ × Ask)) (ss : List LoadedSource) (y : ℕ) (z : LoadedSource) → slice_get (all_asked x0 ss sents) y ≡ Some z
    → (old : LoadedSource) × (slice_get ss y ≡ Some old) × (z.site ≡ old.site) × (z.messages ≡ old.messages)
    × ((x : ℕ) (asks : List Ask) (a : Ask) → slice_get z.asks x ≡ Some asks → Has a asks → ((before : List Ask) × (slice_get old.asks x ≡ Some before) × Has a before) ⊎ ((x ≡ x0) × Has (y, a) sents))
asked_from x0 [] ss y z h = (z, h, refl, refl, λ x asks a e i. inl (asks, e, i))
asked_from x0 (e ∷ sents) ss y z h = go (asked_from x0 sents (changed_at e.0 (with_ask_of x0 e.1) ss) y z h)
  where
    go : (old : LoadedSource) × (slice_get (changed_at e.0 (with_ask_of x0 e.1) ss) y ≡ Some old) × (z.site ≡ old.site) × (z.messages ≡ old.messages)
        × ((x : ℕ) (asks : List Ask) (a : Ask) → slice_get z.asks x ≡ Some asks → Has a asks → ((before : List Ask) × (slice_get old.asks x ≡ Some before) × Has a before) ⊎ ((x ≡ x0) × Has (y, a) sents))
        → (old : LoadedSource) × (slice_get ss y ≡ Some old) × (z.site ≡ old.site) × (z.messages ≡ old.messages)
        × ((x : ℕ) (asks : List Ask) (a : Ask) → slice_get z.asks x ≡ Some asks → Has a asks → ((before : List Ask) × (slice_get old.asks x ≡ Some before) × Has a before) ⊎ ((x ≡ x0) × Has (y, a) (e ∷ sents)))
    go (mid, there, site, messages, from) = elim (get_cases (with_ask_of x0 e.1) e.0 y ss mid there) [
      | inr other ↦ (mid, other.1, site, messages, λ x asks a at i. elim (from x asks a at i) [ inl k ↦ inl k | inr k ↦ inr (k.0, has_later (y, a) e sents k.1) ])
      | inl (same, (old, is, made)) ↦ (
        old,
        subst (λ n. slice_get ss n ≡ Some old) (sym same) is,
        site ∙ ap (λ (z : LoadedSource). z.site) (sym made),
        messages ∙ ap (λ (z : LoadedSource). z.messages) (sym made),
        λ x asks a at i. elim (from x asks a at i) [
          | inr k ↦ inr (k.0, has_later (y, a) e sents k.1)
          | inl (before, b, j) ↦ elim (get_cases (λ q. q ++ e.1 ∷ []) x0 x old.asks before (ap (λ (z : LoadedSource). slice_get z.asks x) made ∙ b)) [
            | inr o ↦ inl (before, o.1, j)
            | inl (at_x, (q, g, pushed)) ↦ elim (has_either a q (e.1 ∷ []) (subst (λ l. Has a l) (sym pushed) j)) [
              | inl k ↦ inl (q, subst (λ n. slice_get old.asks n ≡ Some q) (sym at_x) g, k)
              | inr k ↦ elim (has_cases a e.1 [] k) [
                | inl is_new ↦ inr (at_x, subst (λ p. Has p (e ∷ sents)) (λ i. (sym same i, sym is_new i)) (has_first e sents))
                | inr none ↦ absurd (has_none a none)
              ]
            ]
          ]
        ],
      )
    ]

-- ---- the asks of a manager that takes a message

module _ (v : KeyedView) (name : ℕ × ℕ) where
  sent_total : (x : ℕ) (asks : List AskData) → total (λ (e : ℕ × Ask). asks_named name e.1) (all_sent_by x asks) ≡ total (λ (a : AskData). cond (has_name name a.transaction a.origin) 1 0) asks
  sent_total x [] = refl
  sent_total x (a ∷ asks) = ap (λ n. cond (has_name name a.transaction a.origin) 1 0 + n) (sent_total x asks)

  -- of the queries that a transaction begins at most one has the name, and none where the transaction is another
  begun_few : (number : ℕ) (t : Updates) (parts : List ℕ) → total (λ (a : AskData). cond (has_name name a.transaction a.origin) 1 0) (map (ask_of v) (begun v number t parts)) ≤ total (λ part. cond (part == name.1) 1 0) parts
  begun_few number t [] = omega arith
  begun_few number t (part ∷ parts) = go (begun_few number t parts) (given_at v t part) (asked_sources v part)
    where
      one : cond ((number == name.0) && (part == name.1)) 1 0 ≤ cond (part == name.1) 1 0
      one = elim (number == name.0) as (λ b. cond (b && (part == name.1)) 1 0 ≤ cond (part == name.1) 1 0) [ true ↦ omega arith | false ↦ omega arith ]

      go : total (λ (a : AskData). cond (has_name name a.transaction a.origin) 1 0) (map (ask_of v) (begun v number t parts)) ≤ total (λ part. cond (part == name.1) 1 0) parts → (ts : List Codes) (ys : List ℕ)
          → total (λ (a : AskData). cond (has_name name a.transaction a.origin) 1 0) (map (ask_of v) (begun_at v number part ys ts ++ begun v number t parts)) ≤ total (λ part. cond (part == name.1) 1 0) (part ∷ parts)
      go ih [] ys = omega (arith, ih)
      go ih (u ∷ ts) [] = omega (arith, ih)
      go ih (u ∷ ts) (y ∷ ys) = omega (arith, ih, one)

  begun_none : (number : ℕ) (t : Updates) (parts : List ℕ) → (number ≡ name.0 → ⊥) → total (λ (a : AskData). cond (has_name name a.transaction a.origin) 1 0) (map (ask_of v) (begun v number t parts)) ≡ 0
  begun_none number t [] ne = refl
  begun_none number t (part ∷ parts) ne = go (begun_none number t parts ne) (given_at v t part) (asked_sources v part)
    where
      none : ◌≡◌ {A = ℕ} (cond ((number == name.0) && (part == name.1)) 1 0) 0
      none = ap {B = ℕ} (λ b. cond (b && (part == name.1)) 1 0) (eqb-no number name.0 ne)

      go : total (λ (a : AskData). cond (has_name name a.transaction a.origin) 1 0) (map (ask_of v) (begun v number t parts)) ≡ 0 → (ts : List Codes) (ys : List ℕ)
          → total (λ (a : AskData). cond (has_name name a.transaction a.origin) 1 0) (map (ask_of v) (begun_at v number part ys ts ++ begun v number t parts)) ≡ 0
      go ih [] ys = ih
      go ih (u ∷ ts) [] = ih
      go ih (u ∷ ts) (y ∷ ys) = omega (arith, ih, none)

  parts_once : (n o : ℕ) → (total (λ part. cond (part == o) 1 0) (places_from 0 n) ≤ 1) × (n ≤ o → total (λ part. cond (part == o) 1 0) (places_from 0 n) ≡ 0)
  parts_once zero o = (omega arith, λ le. refl)
  parts_once (suc n) o =
      let ih = parts_once n o in
      let push = total_append (λ part. cond (part == o) 1 0) (places_from 0 n) (n ∷ []) in
      subst (λ l. (total (λ part. cond (part == o) 1 0) l ≤ 1) × (suc n ≤ o → total (λ part. cond (part == o) 1 0) l ≡ 0)) (sym (places_next n)) (elim (n == o) as (λ b. (n == o) ≡ b → (total (λ part. cond (part == o) 1 0) (places_from 0 n ++ n ∷ []) ≤ 1) × (suc n ≤ o → total (λ part. cond (part == o) 1 0) (places_from 0 n ++ n ∷ []) ≡ 0)) [
        | true ↦ λ e. let c = ap {B = ℕ} (λ b. cond b 1 0) e in let same = eqb-true n o e in (omega (arith, push, c, ih.1 (omega (arith, same))), λ le. absurd (omega (arith, le, same)))
        | false ↦ λ e. let c = ap {B = ℕ} (λ b. cond b 1 0) e in (omega (arith, push, c, ih.0), λ le. omega (arith, push, c, ih.1 (omega (arith, le))))
      ] refl)

  pub begun_once : (x number n : ℕ) (t : Updates) → total (λ (e : ℕ × Ask). asks_named name e.1) (all_sent_by x (map (ask_of v) (begun v number t (places_from 0 n)))) ≤ 1
  begun_once x number n t = omega (arith, sent_total x (map (ask_of v) (begun v number t (places_from 0 n))), begun_few number t (places_from 0 n), (parts_once n name.1).0)

  pub begun_other : (x number n : ℕ) (t : Updates) → (number ≡ name.0 → ⊥) → total (λ (e : ℕ × Ask). asks_named name e.1) (all_sent_by x (map (ask_of v) (begun v number t (places_from 0 n)))) ≡ 0
  begun_other x number n t ne = sent_total x (map (ask_of v) (begun v number t (places_from 0 n))) ∙ begun_none number t (places_from 0 n) ne

  -- after a reply at most one ask of the same name
  pub next_once : (x : ℕ) (queries : List Query) (transaction origin : ℕ) (partials : List Partial) → total (λ (e : ℕ × Ask). asks_named name e.1) (all_sent_by x (asks_after v queries transaction origin partials)) ≤ cond (has_name name transaction origin) 1 0
  next_once x [] transaction origin partials = omega arith
  next_once x (q ∷ queries) transaction origin partials = go (next_once x queries transaction origin partials) (is_named transaction origin q) refl
    where
      go : total (λ (e : ℕ × Ask). asks_named name e.1) (all_sent_by x (asks_after v queries transaction origin partials)) ≤ cond (has_name name transaction origin) 1 0 → (b : Bool) → is_named transaction origin q ≡ b
          → total (λ (e : ℕ × Ask). asks_named name e.1) (all_sent_by x (cond b (next_asks v q partials) (asks_after v queries transaction origin partials))) ≤ cond (has_name name transaction origin) 1 0
      go ih true e =
          let both = and_parts (q.transaction == transaction) (q.origin == origin) e in
          let same : ◌≡◌ {A = ℕ} (cond (has_name name q.transaction q.origin) 1 0) (cond (has_name name transaction origin) 1 0) = ap₂ {C = ℕ} (λ a b. cond (has_name name a b) 1 0) (eqb-true q.transaction transaction both.0) (eqb-true q.origin origin both.1) in
          elim (has_next v q) as (λ b. total (λ (e : ℕ × Ask). asks_named name e.1) (all_sent_by x (cond b (ask_of v (moved_on q partials) ∷ []) [])) ≤ cond (has_name name transaction origin) 1 0) [ true ↦ omega (arith, same) | false ↦ omega arith ]
      go ih false e = ih

-- what is asked after a reply, an open query asks
pub next_open : (v : KeyedView) (columns : Columns) (m : ManagerState) (transaction origin : ℕ) (partials : List Partial) (queries before : List Query) (a : AskData) → Has a (asks_after v queries transaction origin partials)
    → (p : Query) × Has p (with_reply_behind v columns m before queries transaction origin partials).queries × (a ≡ ask_of v p)
next_open v columns m transaction origin partials [] before a h = absurd (has_none a h)
next_open v columns m transaction origin partials (q ∷ queries) before a h = go (λ k. next_open v columns m transaction origin partials queries (before ++ q ∷ []) a k) (is_named transaction origin q) h
  where
    moved : (b : Bool) → Has a (cond b (ask_of v (moved_on q partials) ∷ []) []) → (p : Query) × Has p (cond b (with_step m before q partials queries) (with_answer v columns m before q partials queries)).queries × (a ≡ ask_of v p)
    moved true k = elim (has_cases a (ask_of v (moved_on q partials)) [] k) [
      | inl e ↦ (moved_on q partials, has_right (moved_on q partials) before (moved_on q partials ∷ queries) (has_first (moved_on q partials) queries), e)
      | inr none ↦ absurd (has_none a none)
    ]
    moved false k = absurd (has_none a k)

    go : (Has a (asks_after v queries transaction origin partials) → (p : Query) × Has p (with_reply_behind v columns m (before ++ q ∷ []) queries transaction origin partials).queries × (a ≡ ask_of v p)) → (b : Bool)
        → Has a (cond b (next_asks v q partials) (asks_after v queries transaction origin partials))
        → (p : Query) × Has p (cond b (with_reply_to v columns m before q partials queries) (with_reply_behind v columns m (before ++ q ∷ []) queries transaction origin partials)).queries × (a ≡ ask_of v p)
    go ih true k = moved (has_next v q) k
    go ih false k = ih k
