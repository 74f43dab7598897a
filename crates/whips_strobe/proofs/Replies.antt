-- What is asked, and what a reply makes of a manager.
--
-- `reply_moves` and `reply_ends`: with the query of the reply's name at a place, the query moved on there, or taken out there with its rows put, is the manager after the reply. `asks_at`: what is asked then is the next step of the query at that place. `open_at`: that query is open at the reply's step where it has this step.
--
-- The idea: the definitions walk along the queries to the first one with the name and keep those before it. Names rise along the queries, so the one that a search finds is the first and the only one, and both walks stop there.
--
-- Four lemmas carry it: `named_at` (the query at the place), `reply_behind` (the walk of a reply), `replied_at` (the query that a fitting reply is for) and `steps_bound` (no more steps than relations).
use Rattle.std.proofs.Common.{◌≡◌, ℕ, zero, suc, ◌+◌, ◌<◌, ◌≤◌, ◌==◌, ◌&&◌, ◌||◌, Bool, true, false, cond, Option, Some, None, List, [], ◌∷◌, ◌++◌, length, map, take, drop, fold, not, refl, sym, ap, ap₂, subst, ◌∙◌, arith, append_assoc, append-nil, add-one, eqb-true}
use Rattle.std.specs.Prelude.{slice_get, IfSome}
use Rattle.std.specs.Option.{option_map}
use Rattle.std.specs.List.{list_any, filter, AllByRecursion, remove}
use Rattle.std.specs.declared.cmp.Ordering.TheVariants.{Less, Equal, Greater}
use Rattle.std.specs.Ordering.{nat_cmp, match_ordering}
use Rattle.std.proofs.lemmas.List.{length-map}
use Rattle.std.proofs.lemmas.Bool.{lt-ltb, le-ltb}
use Rattle.whips_model.specs.Tuples.{Columns}
use Rattle.whips_choices.specs.KeyedViews.{KeyedView}
use Rattle.whips_choices.specs.Partials.{Partial}
use Rattle.whips_choices.proofs.Rows.{codes_tied}
use Rattle.whips_lists.specs.Lists.{changed_at, places_from}
use Rattle.whips_lists.proofs.Places.{length_places}
use Rattle.whips_steps.specs.Steps.{StepData, put_number, home, other_parts, steps, asked_sources, source_of_step, parts_of_source}
use Rattle.whips_steps.specs.Answers.{unstruck}
use Rattle.whips_query.specs.declared.asks.Ask.{Ask}
use Rattle.whips_managers.specs.Managers.{Query, ManagerState, is_named, has_next, moved_on, put_of, with_reply, with_reply_behind, with_reply_to, with_step, with_answer}
use Rattle.whips_managers.specs.Messages.{ask_of, asks_after, next_asks}
use Rattle.whips_open_queries.specs.Names.{name_codes, IsNamedBelow, AreInOrder, place_named}
use Rattle.whips_open_queries.proofs.Found.{named_is}
use Rattle.whips_strobe.specs.Outs.{sent_by, all_sent_by}

or_none : (b : Bool) → (b || false) ≡ b
or_none true = refl
or_none false = refl

-- ---- asks

pub sources_back : (v : KeyedView) (origin : ℕ) → map (λ (s : StepData). s.source) (steps v origin) ≡ asked_sources v origin
sources_back v origin = go (asked_sources v origin)
  where
    go : (l : List ℕ) → map (λ (s : StepData). s.source) (map (λ source. record { source = source; parts = parts_of_source v origin source }) l) ≡ l
    go [] = refl
    go (s ∷ l) = ap (λ z. s ∷ z) (go l)

pub ask_is : (number : ℕ) (v : KeyedView) (o : Option Query) (transaction origin step : ℕ) (partials : List Partial) (source : ℕ) → IfSome o (λ q. transaction ≡ q.transaction) → IfSome o (λ q. origin ≡ q.origin) → IfSome o (λ q. step ≡ q.step) → IfSome o (λ q. partials ≡ q.partials)
    → source ≡ source_of_step v origin step → IfSome o (λ q. (source, record { view = number; update = transaction; origin = origin; step = step; partials = partials }) ≡ sent_by number (ask_of v q))
ask_is number v None transaction origin step partials source a b c d e = tt
ask_is number v (Some q) transaction origin step partials source a b c d e = rw (e, a, b, c, d)

module _ {X : Type 0} where
  at_place : (xs : List X) (i : ℕ) (x : X) → slice_get xs i ≡ Some x → drop i xs ≡ x ∷ drop (suc i) xs
  at_place [] i x e = absurd (cc)
  at_place (y ∷ xs) zero x e = let same : y ≡ x = cc in ap (λ z. z ∷ xs) same
  at_place (y ∷ xs) (suc i) x e = at_place xs i x e

  some_at : (xs : List X) (i : ℕ) → i < length xs → (x : X) × (slice_get xs i ≡ Some x)
  some_at [] i lt = absurd (omega arith)
  some_at (y ∷ xs) zero lt = (y, refl)
  some_at (y ∷ xs) (suc i) lt = some_at xs i (omega arith)

pub asks_next : (number : ℕ) (v : KeyedView) (qs : List Query) (i : ℕ) (now new all : List (ℕ × Ask)) (sent : ℕ × Ask) → i < length qs → IfSome (slice_get qs i) (λ q. sent ≡ sent_by number (ask_of v q)) → new ≡ now ++ sent ∷ []
    → now ++ all_sent_by number (map (ask_of v) (drop i qs)) ≡ all → new ++ all_sent_by number (map (ask_of v) (drop (i + 1) qs)) ≡ all
asks_next number v qs i now new all sent lt is more so_far =
    let at = some_at qs i lt in
    let one : sent ≡ sent_by number (ask_of v at.0) = subst (λ o. IfSome o (λ q. sent ≡ sent_by number (ask_of v q))) at.1 is in
    rw add-one (
    ap (λ l. l ++ all_sent_by number (map (ask_of v) (drop (suc i) qs))) more
    ∙ append_assoc now (sent ∷ []) (all_sent_by number (map (ask_of v) (drop (suc i) qs)))
    ∙ ap (λ z. now ++ z ∷ all_sent_by number (map (ask_of v) (drop (suc i) qs))) one
    ∙ ap (λ l. now ++ all_sent_by number (map (ask_of v) l)) (sym (at_place qs i at.0 at.1))
    ∙ so_far
    )

-- ---- the query with a name

module _ (transaction origin : ℕ) where
  -- it is at its place
  pub named_at : (qs : List Query) (i : ℕ) → place_named transaction origin qs ≡ Some i → (q : Query) × (slice_get qs i ≡ Some q)
  named_at [] i e = absurd (cc)
  named_at (p ∷ qs) i e = go (λ j g. named_at qs j g) (is_named transaction origin p) (place_named transaction origin qs) refl e
    where
      go : ((j : ℕ) → place_named transaction origin qs ≡ Some j → (q : Query) × (slice_get qs j ≡ Some q)) → (b : Bool) (o : Option ℕ) → place_named transaction origin qs ≡ o → cond b (Some 0) (option_map (λ i. suc i) o) ≡ Some i
          → (q : Query) × (slice_get (p ∷ qs) i ≡ Some q)
      go ih true o f e = let zero_is : 0 ≡ i = cc in (p, subst (λ n. slice_get (p ∷ qs) n ≡ Some p) zero_is refl)
      go ih false None f e = absurd (cc)
      go ih false (Some j) f e = let next : suc j ≡ i = cc in let h = ih j f in (h.0, subst (λ n. slice_get (p ∷ qs) n ≡ Some h.0) next h.1)

  -- a manager after the reply to it
  module _ (v : KeyedView) (columns : Columns) (m : ManagerState) (ps : List Partial) where
    reply_behind : (before qs : List Query) (i : ℕ) (q : Query) → place_named transaction origin qs ≡ Some i → slice_get qs i ≡ Some q → with_reply_behind v columns m before qs transaction origin ps ≡ with_reply_to v columns m (before ++ take i qs) q ps (drop (suc i) qs)
    reply_behind before [] i q e at = absurd (cc)
    reply_behind before (p ∷ qs) i q e at = go (λ j g h. reply_behind (before ++ p ∷ []) qs j q g h) (is_named transaction origin p) (place_named transaction origin qs) refl e
      where
        go : ((j : ℕ) → place_named transaction origin qs ≡ Some j → slice_get qs j ≡ Some q → with_reply_behind v columns m (before ++ p ∷ []) qs transaction origin ps ≡ with_reply_to v columns m ((before ++ p ∷ []) ++ take j qs) q ps (drop (suc j) qs))
            → (b : Bool) (o : Option ℕ) → place_named transaction origin qs ≡ o → cond b (Some 0) (option_map (λ i. suc i) o) ≡ Some i
            → cond b (with_reply_to v columns m before p ps qs) (with_reply_behind v columns m (before ++ p ∷ []) qs transaction origin ps) ≡ with_reply_to v columns m (before ++ take i (p ∷ qs)) q ps (drop (suc i) (p ∷ qs))
        go ih true o f e =
            let zero_is : 0 ≡ i = cc in
            let here : slice_get (p ∷ qs) 0 ≡ Some q = subst (λ n. slice_get (p ∷ qs) n ≡ Some q) (sym zero_is) at in
            let same : p ≡ q = cc in
            ap₂ (λ b r. with_reply_to v columns m b r ps qs) (sym (append-nil before)) same ∙ ap (λ n. with_reply_to v columns m (before ++ take n (p ∷ qs)) q ps (drop (suc n) (p ∷ qs))) zero_is
        go ih false None f e = absurd (cc)
        go ih false (Some j) f e =
            let next : suc j ≡ i = cc in
            let there : slice_get qs j ≡ Some q = subst (λ n. slice_get (p ∷ qs) n ≡ Some q) (sym next) at in
            ih j f there ∙ ap (λ b. with_reply_to v columns m b q ps (drop (suc j) qs)) (append_assoc before (p ∷ []) (take j qs)) ∙ ap (λ n. with_reply_to v columns m (before ++ take n (p ∷ qs)) q ps (drop (suc n) (p ∷ qs))) next

    changed_parts : (qs : List Query) (i : ℕ) (q : Query) → slice_get qs i ≡ Some q → take i qs ++ moved_on q ps ∷ drop (suc i) qs ≡ changed_at i (λ q. moved_on q ps) qs
    changed_parts [] i q e = absurd (cc)
    changed_parts (p ∷ qs) zero q e = let same : q ≡ p = cc in ap (λ z. moved_on z ps ∷ qs) same
    changed_parts (p ∷ qs) (suc i) q e = ap (λ l. p ∷ l) (changed_parts qs i q e)

    pub reply_moves : (i : ℕ) (q : Query) → place_named transaction origin m.queries ≡ Some i → slice_get m.queries i ≡ Some q → has_next v q ≡ true
        → record m { queries = changed_at i (λ q. moved_on q ps) m.queries } ≡ with_reply v columns m transaction origin ps
    reply_moves i q e at next = sym (
        reply_behind [] m.queries i q e at ∙ ap (λ b. cond b (with_step m (take i m.queries) q ps (drop (suc i) m.queries)) (with_answer v columns m (take i m.queries) q ps (drop (suc i) m.queries))) next
        ∙ ap (λ (l : List Query). record m { queries = l }) (changed_parts m.queries i q at)
        )

    pub reply_ends : (i : ℕ) (q : Query) → place_named transaction origin m.queries ≡ Some i → slice_get m.queries i ≡ Some q → has_next v q ≡ false
        → record m { actions = m.actions ++ put_of v columns (unstruck v q.pending ps) ∷ []; queries = remove m.queries i } ≡ with_reply v columns m transaction origin ps
    reply_ends i q e at next = sym (
        reply_behind [] m.queries i q e at ∙ ap (λ b. cond b (with_step m (take i m.queries) q ps (drop (suc i) m.queries)) (with_answer v columns m (take i m.queries) q ps (drop (suc i) m.queries))) next
        )

    reply_none : (before qs : List Query) → place_named transaction origin qs ≡ None → with_reply_behind v columns m before qs transaction origin ps ≡ m
    reply_none before [] e = refl
    reply_none before (p ∷ qs) e = go (λ g. reply_none (before ++ p ∷ []) qs g) (is_named transaction origin p) (place_named transaction origin qs) refl e
      where
        go : (place_named transaction origin qs ≡ None → with_reply_behind v columns m (before ++ p ∷ []) qs transaction origin ps ≡ m) → (b : Bool) (o : Option ℕ) → place_named transaction origin qs ≡ o → cond b (Some 0) (option_map (λ i. suc i) o) ≡ None
            → cond b (with_reply_to v columns m before p ps qs) (with_reply_behind v columns m (before ++ p ∷ []) qs transaction origin ps) ≡ m
        go ih true o f e = absurd (cc)
        go ih false None f e = ih f
        go ih false (Some j) f e = absurd (cc)

    pub reply_lost : place_named transaction origin m.queries ≡ None → m ≡ with_reply v columns m transaction origin ps
    reply_lost e = sym (reply_none [] m.queries e)

  -- what is asked after the reply to it
  pub asks_at : (v : KeyedView) (ps : List Partial) (qs : List Query) (i : ℕ) (q : Query) → place_named transaction origin qs ≡ Some i → slice_get qs i ≡ Some q → asks_after v qs transaction origin ps ≡ next_asks v q ps
  asks_at v ps [] i q e at = absurd (cc)
  asks_at v ps (p ∷ qs) i q e at = go (λ j g h. asks_at v ps qs j q g h) (is_named transaction origin p) (place_named transaction origin qs) refl e
    where
      go : ((j : ℕ) → place_named transaction origin qs ≡ Some j → slice_get qs j ≡ Some q → asks_after v qs transaction origin ps ≡ next_asks v q ps)
          → (b : Bool) (o : Option ℕ) → place_named transaction origin qs ≡ o → cond b (Some 0) (option_map (λ i. suc i) o) ≡ Some i → cond b (next_asks v p ps) (asks_after v qs transaction origin ps) ≡ next_asks v q ps
      go ih true o f e =
          let zero_is : 0 ≡ i = cc in
          let here : slice_get (p ∷ qs) 0 ≡ Some q = subst (λ n. slice_get (p ∷ qs) n ≡ Some q) (sym zero_is) at in
          let same : p ≡ q = cc in
          ap (λ r. next_asks v r ps) same
      go ih false None f e = absurd (cc)
      go ih false (Some j) f e = let next : suc j ≡ i = cc in ih j f (subst (λ n. slice_get (p ∷ qs) n ≡ Some q) (sym next) at)

  pub asks_lost : (v : KeyedView) (ps : List Partial) (qs : List Query) → place_named transaction origin qs ≡ None → asks_after v qs transaction origin ps ≡ []
  asks_lost v ps [] e = refl
  asks_lost v ps (p ∷ qs) e = go (λ g. asks_lost v ps qs g) (is_named transaction origin p) (place_named transaction origin qs) refl e
    where
      go : (place_named transaction origin qs ≡ None → asks_after v qs transaction origin ps ≡ []) → (b : Bool) (o : Option ℕ) → place_named transaction origin qs ≡ o → cond b (Some 0) (option_map (λ i. suc i) o) ≡ None → cond b (next_asks v p ps) (asks_after v qs transaction origin ps) ≡ []
      go ih true o f e = absurd (cc)
      go ih false None f e = ih f
      go ih false (Some j) f e = absurd (cc)

  -- its step is what is asked
  module _ (step : ℕ) where
    abbrev at_step : Query → Bool
    at_step q = is_named transaction origin q && (q.step == step)

    none_named : (qs : List Query) → AllByRecursion (λ r. is_named transaction origin r ≡ false) qs → list_any at_step qs ≡ false
    none_named [] h = refl
    none_named (q ∷ qs) h = rw h.0 (none_named qs h.1)

    others_unnamed : (p : Query) (qs : List Query) → is_named transaction origin p ≡ true → AllByRecursion (λ r. IsNamedBelow (name_codes r) p) qs → AllByRecursion (λ r. is_named transaction origin r ≡ false) qs
    others_unnamed p [] e h = tt
    others_unnamed p (r ∷ qs) e h = (go (is_named transaction origin r) refl, others_unnamed p qs e h.1)
      where
        go : (b : Bool) → is_named transaction origin r ≡ b → b ≡ false
        go true f =
            let tied = codes_tied (name_codes p) (name_codes r) (named_is transaction origin p e ∙ sym (named_is transaction origin r f)) in
            let less = h.0 in
            absurd (cc)
        go false f = refl

    pub open_at : (qs : List Query) (i : ℕ) (q : Query) → AreInOrder qs → place_named transaction origin qs ≡ Some i → slice_get qs i ≡ Some q → list_any at_step qs ≡ (q.step == step)
    open_at [] i q h e at = absurd (cc)
    open_at (p ∷ qs) i q h e at = go (λ j g k. open_at qs j q h.1 g k) (is_named transaction origin p) refl (place_named transaction origin qs) refl e
      where
        go : ((j : ℕ) → place_named transaction origin qs ≡ Some j → slice_get qs j ≡ Some q → list_any at_step qs ≡ (q.step == step)) → (b : Bool) → is_named transaction origin p ≡ b → (o : Option ℕ) → place_named transaction origin qs ≡ o
            → cond b (Some 0) (option_map (λ i. suc i) o) ≡ Some i → list_any at_step (p ∷ qs) ≡ (q.step == step)
        go ih true n o f e =
            let zero_is : 0 ≡ i = cc in
            let here : slice_get (p ∷ qs) 0 ≡ Some q = subst (λ n. slice_get (p ∷ qs) n ≡ Some q) (sym zero_is) at in
            let same : p ≡ q = cc in
            ap₂ (λ b l. (b && (p.step == step)) || l) n (none_named qs (others_unnamed p qs n h.0)) ∙ or_none (p.step == step) ∙ ap (λ r. r.step == step) same
        go ih false n None f e = absurd (cc)
        go ih false n (Some j) f e = let next : suc j ≡ i = cc in rw n (ih j f (subst (λ n. slice_get (p ∷ qs) n ≡ Some q) (sym next) at))

    pub open_nowhere : (qs : List Query) → place_named transaction origin qs ≡ None → list_any at_step qs ≡ false
    open_nowhere [] e = refl
    open_nowhere (p ∷ qs) e = go (λ g. open_nowhere qs g) (is_named transaction origin p) refl (place_named transaction origin qs) refl e
      where
        go : (place_named transaction origin qs ≡ None → list_any at_step qs ≡ false) → (b : Bool) → is_named transaction origin p ≡ b → (o : Option ℕ) → place_named transaction origin qs ≡ o → cond b (Some 0) (option_map (λ i. suc i) o) ≡ None
            → list_any at_step (p ∷ qs) ≡ false
        go ih true n o f e = absurd (cc)
        go ih false n None f e = rw n (ih f)
        go ih false n (Some j) f e = absurd (cc)

-- ---- a query that moves on

pub length_changed : (f : Query → Query) (qs : List Query) (i : ℕ) → length (changed_at i f qs) ≡ length qs
length_changed f [] i = refl
length_changed f (q ∷ qs) zero = refl
length_changed f (q ∷ qs) (suc i) = let ih = length_changed f qs i in omega arith

pub changed_get : (f : Query → Query) (sent : ℕ × Ask) (number : ℕ) (v : KeyedView) (qs : List Query) (i : ℕ) → IfSome (slice_get (changed_at i f qs) i) (λ q. sent ≡ sent_by number (ask_of v q)) → IfSome (slice_get qs i) (λ q. sent ≡ sent_by number (ask_of v (f q)))
changed_get f sent number v [] i h = tt
changed_get f sent number v (q ∷ qs) zero h = h
changed_get f sent number v (q ∷ qs) (suc i) h = changed_get f sent number v qs i h

pub get_below : {X : Type 0} (xs : List X) (i : ℕ) (x : X) → slice_get xs i ≡ Some x → i < length xs
get_below [] i x e = absurd (cc)
get_below (y ∷ xs) zero x e = omega arith
get_below (y ∷ xs) (suc i) x e = let ih = get_below xs i x e in omega arith

pub all_get : {X : Type 0} (P : X → Type 0) (xs : List X) (i : ℕ) (x : X) → AllByRecursion P xs → slice_get xs i ≡ Some x → P x
all_get P [] i x h e = absurd (cc)
all_get P (y ∷ xs) zero x h e = let same : y ≡ x = cc in subst P same h.0
all_get P (y ∷ xs) (suc i) x h e = all_get P xs i x h.1 e

pub all_filter : {X : Type 0} (P : X → Type 0) (test : X → Bool) (xs : List X) → AllByRecursion P xs → AllByRecursion P (filter test xs)
all_filter P test [] h = tt
all_filter P test (x ∷ xs) h = elim (test x) as (λ b. AllByRecursion P (cond b (x ∷ filter test xs) (filter test xs))) [ true ↦ (h.0, all_filter P test xs h.1) | false ↦ all_filter P test xs h.1 ]

-- ---- how many steps there are

put_length : (s : ℕ) (rs : List ℕ) → length (put_number s rs) ≤ suc (length rs)
put_length s [] = omega arith
put_length s (r ∷ rs) = let ih = put_length s rs in elim (nat_cmp s r) as (λ o. length (match_ordering o (s ∷ r ∷ rs) (r ∷ rs) (r ∷ put_number s rs)) ≤ suc (suc (length rs))) [ Less ↦ omega arith | Equal ↦ omega arith | Greater ↦ omega arith ]

rising_length : (ss rs : List ℕ) → length (fold (λ rs s. put_number s rs) rs ss) ≤ length ss + length rs
rising_length [] rs = omega arith
rising_length (s ∷ ss) rs = let ih = rising_length ss (put_number s rs) in let one = put_length s rs in omega arith

filter_length : {X : Type 0} (test : X → Bool) (xs : List X) → length (filter test xs) ≤ length xs
filter_length test [] = omega arith
filter_length {X} test (x ∷ xs) = let ih = filter_length test xs in elim (test x) as (λ b. length {A = X} (cond b (x ∷ filter test xs) (filter test xs)) ≤ suc (length xs)) [ true ↦ omega arith | false ↦ omega arith ]

-- no more than the view's relations
pub steps_bound : (v : KeyedView) (origin : ℕ) → length (asked_sources v origin) ≤ length v.keys
unfolding asked_sources
steps_bound v origin =
    let a = rising_length (map (home v) (other_parts (length v.keys) origin)) [] in
    let b = length-map (other_parts (length v.keys) origin) (home v) in
    let c = filter_length (λ part. not (part == origin)) (places_from 0 (length v.keys)) in
    let d = length_places 0 (length v.keys) in
    omega arith

-- ---- the query that a reply is for

-- the query at a place, which has this name and is at this step
pub record IsRepliedAt (m : ManagerState) (transaction origin step i : ℕ) : Type 0 where
  pub query : Query
  pub at : slice_get m.queries i ≡ Some query
  pub place : place_named transaction origin m.queries ≡ Some i
  pub origin_is : query.origin ≡ origin
  pub step_is : query.step ≡ step

named_there : (transaction origin : ℕ) (qs : List Query) (i : ℕ) (q : Query) → place_named transaction origin qs ≡ Some i → slice_get qs i ≡ Some q → is_named transaction origin q ≡ true
named_there transaction origin [] i q e at = absurd (cc)
named_there transaction origin (p ∷ qs) i q e at = go (λ j g h. named_there transaction origin qs j q g h) (is_named transaction origin p) refl (place_named transaction origin qs) refl e
  where
    go : ((j : ℕ) → place_named transaction origin qs ≡ Some j → slice_get qs j ≡ Some q → is_named transaction origin q ≡ true) → (b : Bool) → is_named transaction origin p ≡ b → (o : Option ℕ) → place_named transaction origin qs ≡ o
        → cond b (Some 0) (option_map (λ i. suc i) o) ≡ Some i → is_named transaction origin q ≡ true
    go ih true n o f e =
        let zero_is : 0 ≡ i = cc in
        let here : slice_get (p ∷ qs) 0 ≡ Some q = subst (λ n. slice_get (p ∷ qs) n ≡ Some q) (sym zero_is) at in
        let same : p ≡ q = cc in
        ap (is_named transaction origin) (sym same) ∙ n
    go ih false n None f e = absurd (cc)
    go ih false n (Some j) f e = let next : suc j ≡ i = cc in ih j f (subst (λ n. slice_get (p ∷ qs) n ≡ Some q) (sym next) at)

pub replied_at : (m : ManagerState) (inside : List Query) (transaction origin step i : ℕ) → inside ≡ m.queries → Some i ≡ place_named transaction origin inside → AreInOrder inside → list_any (λ q. is_named transaction origin q && (q.step == step)) m.queries ≡ true
    → IsRepliedAt m transaction origin step i
replied_at m inside transaction origin step i same e order opened =
    let place : place_named transaction origin m.queries ≡ Some i = ap (place_named transaction origin) (sym same) ∙ sym e in
    let found = named_at transaction origin m.queries i place in
    let named = named_there transaction origin m.queries i found.0 place found.1 in
    let codes = named_is transaction origin found.0 named in
    let right : found.0.origin ≡ origin = cc in
    record {
      query = found.0;
      at = found.1;
      place = place;
      origin_is = right;
      step_is = eqb-true found.0.step step (sym (open_at transaction origin step m.queries i found.0 (subst AreInOrder same order) place found.1) ∙ opened);
    }

module _ (v : KeyedView) (m : ManagerState) (transaction origin step i : ℕ) (r : IsRepliedAt m transaction origin step i) where
  count_same : length (asked_sources v r.query.origin) ≡ length (asked_sources v origin)
  count_same = ap (λ o. length (asked_sources v o)) r.origin_is

  pub has_next_step : step < length (asked_sources v origin) → has_next v r.query ≡ true
  has_next_step lt = let is = r.step_is in let count = count_same in lt-ltb r.query.step (length (asked_sources v r.query.origin)) (omega arith)

  pub has_no_next : length (asked_sources v origin) ≤ step → has_next v r.query ≡ false
  has_no_next le = let is = r.step_is in let count = count_same in le-ltb r.query.step (length (asked_sources v r.query.origin)) (omega arith)
