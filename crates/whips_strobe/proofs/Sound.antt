-- What a manager does keeps its state sound.
--
-- `sound_transaction` and `sound_reply`: after a transaction that fits the view, and after a reply that fits the manager, the actions are the view's, no query is of a later transaction than the last one, and each query can be asked. `asks_sound` and `sound_asked`: so all that is asked then is about a step of the view, at its source.
--
-- The idea: a new query begins at its first step with seeds of its part, which are keyed and as wide as the part's relation. A query that moves on takes the choices of a reply that fits, and these are filled for the next step and differ in keys. Deletions change pending keys alone.
--
-- Four lemmas carry it: `given_widths` and `given_keyed` (what a transaction gives a part), `sound_given` (a query begins, or its rows are put) and `moved_sound` (a query moves on).
use Rattle.std.proofs.Common.{◌≡◌, ℕ, zero, suc, ◌+◌, ◌<◌, ◌≤◌, Bool, true, false, cond, Option, Some, None, List, [], ◌∷◌, length, map, drop, refl, sym, ap, subst, ◌∙◌, arith}
use Rattle.std.specs.Prelude.{slice_get, slice_index, IfSome}
use Rattle.std.specs.List.{AllByRecursion, flat_map, range_with_len}
use Rattle.std.proofs.lemmas.List.{length-map}
use Rattle.whips_model.specs.Tuples.{Codes, Columns, at_columns, IsKeyed}
use Rattle.whips_lists.specs.Members.{Has}
use Rattle.whips_lists.proofs.Members.{has_first, has_later, has_passed, all_has, all_from_has}
use Rattle.whips_model.proofs.Keyed.{keyed_filter}
use Rattle.whips_choices.specs.KeyedViews.{KeyedView, part_key}
use Rattle.whips_choices.specs.Partials.{Partial, seed}
use Rattle.whips_rel.specs.declared.update.Update.{Update}
use Rattle.whips_rel.specs.declared.update.Update.TheVariants.{Insert}
use Rattle.whips_states.specs.States.{Updates}
use Rattle.whips_lists.specs.Lists.{changed_at, places_from}
use Rattle.whips_states.specs.Concerns.{meets_part}
use Rattle.whips_states.specs.Net.{names, last_of_key, or_else, given_at, taken_at, taken, relation_at}
use Rattle.whips_trans_laws.proofs.Nets.{inserted_last}
use Rattle.whips_steps.specs.Steps.{asked_sources}
use Rattle.whips_steps.specs.Answers.{AllDifferInKey}
use Rattle.whips_lists.proofs.Places.{below_is}
use Rattle.whips_view.specs.ViewDefs.{View, keyed, row_columns}
use Rattle.whips_actions.specs.declared.action.Action.{Action}
use Rattle.whips_actions.specs.Lists.{IsActionOf, AreActionsOf}
use Rattle.whips_managers.specs.Managers.{Query, ManagerState, with_pending, with_deletion, with_deletions, with_given, with_put, with_query, with_all_given, with_transaction, put_or_asked, moved_on, has_next, with_reply, kept_where, list_where, without_list}
use Rattle.whips_steps.specs.Filled.{IsFilledBefore}
use Rattle.whips_view.specs.Widths.{widths_of}
use Rattle.whips_managers.specs.Messages.{CanAsk, AllCanAsk, HasWidth, HaveWidths, Fits, ask_of, asks_after}
use Rattle.whips_strobe.specs.Strobes.{IsStateOf}
use Rattle.whips_strobe.specs.Outs.{all_sent_by, list_by, IsSentAsk}
use Rattle.whips_actions.specs.declared.action.ActionList.{ActionList}
use Rattle.std.specs.Option.{option_map}
use Rattle.std.proofs.lemmas.Bool.{ltb-true}
use Rattle.whips_open_queries.specs.Names.{AreInOrder, place_named}
use Rattle.whips_strobe.proofs.Seeds.{seeds_filled, seeds_differ}
use Rattle.whips_strobe.proofs.Replies.{IsRepliedAt, replied_at, reply_lost, reply_moves, reply_ends, asks_at, asks_lost, all_get}
use Rattle.whips_lists.proofs.Alls.{all_append, all_more, all_remove}

module _ {X : Type 0} (P : X → Type 0) where
  all_drop : (xs : List X) (i : ℕ) → AllByRecursion P xs → AllByRecursion P (drop i xs)
  all_drop xs zero h = h
  all_drop [] (suc i) h = tt
  all_drop (x ∷ xs) (suc i) h = all_drop xs i h.1

  all_changed : (f : X → X) (xs : List X) (i : ℕ) → AllByRecursion P xs → IfSome (slice_get xs i) (λ x. P (f x)) → AllByRecursion P (changed_at i f xs)
  all_changed f [] i h g = tt
  all_changed f (x ∷ xs) zero h g = (g, h.1)
  all_changed f (x ∷ xs) (suc i) h g = (h.0, all_changed f xs i h.1 g)

module _ (view : View) where
  abbrev v : KeyedView
  v = keyed view

  width : length (keyed view).keys ≡ length view.bases
  width = length-map view.bases (λ (b : Columns). b.key)

  at_base : (part : ℕ) → part < length (keyed view).keys → part < length view.bases
  at_base part lt = let w = width in omega arith

  -- ---- a later number

  known_later : (low high : ℕ) (qs : List Query) → low ≤ high → AllByRecursion (λ q. q.transaction ≤ low) qs → AllByRecursion (λ q. q.transaction ≤ high) qs
  known_later low high [] le h = tt
  known_later low high (q ∷ qs) le h = (let first = h.0 in omega arith, known_later low high qs le h.1)

  sound_number : (m : ManagerState) (number : ℕ) → m.last ≤ number → IsStateOf view m → IsStateOf view (record m { last = number })
  sound_number m number le h = record { actions = h.actions; known = known_later m.last number m.queries le h.known; queries = h.queries }

  -- ---- deletions

  known_pending : (last part : ℕ) (k : Codes) (qs : List Query) → AllByRecursion (λ q. q.transaction ≤ last) qs → AllByRecursion (λ q. q.transaction ≤ last) (map (with_pending part k) qs)
  known_pending last part k [] h = tt
  known_pending last part k (q ∷ qs) h = (h.0, known_pending last part k qs h.1)

  queries_pending : (part : ℕ) (k : Codes) (qs : List Query) → AllCanAsk (keyed view) (widths_of view) qs → AllCanAsk (keyed view) (widths_of view) (map (with_pending part k) qs)
  queries_pending part k [] h = tt
  queries_pending part k (q ∷ qs) h = (let g = h.0 in record { origin = g.origin; low = g.low; high = g.high; filled = g.filled; differ = g.differ }, queries_pending part k qs h.1)

  sound_deleted : (keys : List (ℕ × Codes)) (m : ManagerState) → AllByRecursion (λ e. e.0 < length view.bases) keys → IsStateOf view m → IsStateOf view (with_deletions m keys)
  sound_deleted [] m within h = h
  sound_deleted (e ∷ keys) m within h = sound_deleted keys (with_deletion m e) within.1 (record {
    actions = all_more (IsActionOf view) m.actions _ h.actions within.0;
    known = known_pending m.last e.0 e.1 m.queries h.known;
    queries = queries_pending e.0 e.1 m.queries h.queries;
  })

  last_deleted : (keys : List (ℕ × Codes)) (m : ManagerState) → (with_deletions m keys).last ≡ m.last
  last_deleted [] m = refl
  last_deleted (e ∷ keys) m = last_deleted keys (with_deletion m e)

  own_part : (part n : ℕ) (xs : List Codes) → part < n → AllByRecursion (λ (e : ℕ × Codes). e.0 < n) (map (λ x. (part, x)) xs)
  own_part part n [] lt = tt
  own_part part n (x ∷ xs) lt = (lt, own_part part n xs lt)

  parts_within : (f : ℕ → List Codes) (n start k : ℕ) → start + k ≤ n → AllByRecursion (λ (e : ℕ × Codes). e.0 < n) (flat_map (λ part. map (λ x. (part, x)) (f part)) (range_with_len start k))
  parts_within f n start zero le = tt
  parts_within f n start (suc k) le = all_append (λ (e : ℕ × Codes). e.0 < n) (map (λ x. (start, x)) (f start)) _ (own_part start n (f start) (omega arith)) (parts_within f n (start + 1) k (omega arith))

  taken_within : (t : Updates) → AllByRecursion (λ e. e.0 < length view.bases) (taken (keyed view) t)
  taken_within t = parts_within (taken_at (keyed view) t) (length view.bases) 0 (length (keyed view).keys) (let w = width in omega arith)

  -- ---- insertions

  last_in : (r : ℕ) (key : List ℕ) (k : Codes) (t : Updates) (u : Update) → last_of_key r key k t ≡ Some u → Has u t
  last_in r key k [] u e = absurd (cc)
  last_in r key k (w ∷ t) u e = go (λ g. last_in r key k t u g) (last_of_key r key k t) refl (names r key k w) e
    where
      go : (last_of_key r key k t ≡ Some u → Has u t) → (o : Option Update) → last_of_key r key k t ≡ o → (b : Bool) → or_else o (cond b (Some w) None) ≡ Some u → Has u (w ∷ t)
      go ih (Some x) f b g = has_later u w t (ih (f ∙ g))
      go ih None f true g = let same : w ≡ u = cc in subst (λ z. Has z (w ∷ t)) same (has_first w t)
      go ih None f false g = absurd (cc)

  given_widths : (t : Updates) (part : ℕ) → part < length view.bases → HaveWidths (keyed view) (widths_of view) t → AllByRecursion (λ s. length s ≡ slice_index (widths_of view) part) (given_at (keyed view) t part)
  given_widths t part lt widths = all_from_has (λ s. length s ≡ slice_index (widths_of view) part) (given_at (keyed view) t part) (λ s h.
      let own = (has_passed (meets_part view.parts part) s _ h).0 in
      let last = ((inserted_last (relation_at (keyed view) part) (part_key (keyed view) part) t).1 s).0 own in
      let w = width in
      let below : part < length (keyed view).keys = omega arith in
      let there = last_in (relation_at (keyed view) part) (part_key (keyed view) part) (at_columns (part_key (keyed view) part) s) t _ last in
      all_has (HasWidth (keyed view) (widths_of view)) t widths (Insert (relation_at (keyed view) part) s) there part below refl)

  given_keyed : (t : Updates) (part : ℕ) → IsKeyed (part_key (keyed view) part) (given_at (keyed view) t part)
  given_keyed t part = keyed_filter (part_key (keyed view) part) (meets_part view.parts part) _ (inserted_last (relation_at (keyed view) part) (part_key (keyed view) part) t).0

  module _ (number part : ℕ) (lt : part < length view.bases) where
    within : part < length (keyed view).keys
    within = let w = width in omega arith

    sound_given : (ts : List Codes) (m : ManagerState) → AllByRecursion (λ s. length s ≡ slice_index (widths_of view) part) ts → IsKeyed (part_key (keyed view) part) ts → m.last ≤ number → IsStateOf view m
        → IsStateOf view (with_given (keyed view) (row_columns view) m number part ts) × ((with_given (keyed view) (row_columns view) m number part ts).last ≤ number)
    sound_given [] m widths in_order le h = (h, le)
    sound_given (t ∷ ts) m widths in_order le h = go (asked_sources (keyed view) part) refl
      where
        filled : AllByRecursion (IsFilledBefore (keyed view) (widths_of view) part 1) (map (seed (length (keyed view).keys) part) (t ∷ ts))
        filled = seeds_filled (keyed view) part within (widths_of view) (t ∷ ts) widths

        differ : AllDifferInKey (keyed view).keys (map (seed (length (keyed view).keys) part) (t ∷ ts))
        differ = seeds_differ (keyed view) part within (t ∷ ts) in_order

        go : (l : List ℕ) → asked_sources (keyed view) part ≡ l → IsStateOf view (put_or_asked l (with_put (keyed view) (row_columns view) m number part (t ∷ ts)) (with_query (keyed view) m number part (t ∷ ts)))
            × ((put_or_asked l (with_put (keyed view) (row_columns view) m number part (t ∷ ts)) (with_query (keyed view) m number part (t ∷ ts))).last ≤ number)
        go [] e = (
          record {
            actions = all_more (IsActionOf view) m.actions _ h.actions refl;
            known = known_later m.last number m.queries le h.known;
            queries = h.queries;
          },
          omega arith,
        )
        go (s ∷ l) e = (
          record {
            actions = h.actions;
            known = all_more (λ q. q.transaction ≤ number) m.queries _ (known_later m.last number m.queries le h.known) (omega arith);
            queries = all_more (CanAsk (keyed view) (widths_of view)) m.queries _ h.queries (record { origin = within; low = omega arith; high = let size = ap length e in omega arith; filled = filled; differ = differ });
          },
          omega arith,
        )

  sound_all_given : (number : ℕ) (t : Updates) (parts : List ℕ) (m : ManagerState) → HaveWidths (keyed view) (widths_of view) t → ((part : ℕ) → Has part parts → part < length view.bases) → m.last ≤ number → IsStateOf view m
      → IsStateOf view (with_all_given (keyed view) (row_columns view) m number (given_at (keyed view) t) parts)
  sound_all_given number t [] m widths lt le h = h
  sound_all_given number t (part ∷ parts) m widths lt le h =
      let here = lt part (has_first part parts) in
      let one = sound_given number part here (given_at (keyed view) t part) m (given_widths t part here widths) (given_keyed t part) le h in
      sound_all_given number t parts _ widths (λ p g. lt p (has_later p part parts g)) one.1 one.0

  -- ---- a transaction

  pub sound_transaction : (m : ManagerState) (number : ℕ) (t : Updates) → m.last < number → HaveWidths (keyed view) (widths_of view) t → IsStateOf view m → IsStateOf view (with_transaction (keyed view) (row_columns view) m number t)
  sound_transaction m number t lt widths h =
      let numbered = sound_number m number (omega arith) h in
      let deleted = sound_deleted (taken (keyed view) t) (record m { last = number }) (taken_within t) numbered in
      let last = last_deleted (taken (keyed view) t) (record m { last = number }) in
      let w = width in
      sound_all_given number t (places_from 0 (length (keyed view).keys)) (with_deletions (record m { last = number }) (taken (keyed view) t)) widths
      (λ part g. let b = below_is (length (keyed view).keys) part g in omega arith) (omega arith) deleted

  pub all_below : (m : ManagerState) (number : ℕ) → m.last < number → IsStateOf view m → AllByRecursion (λ q. q.transaction < number) m.queries
  all_below m number lt h = go m.queries h.known
    where
      go : (qs : List Query) → AllByRecursion (λ q. q.transaction ≤ m.last) qs → AllByRecursion (λ q. q.transaction < number) qs
      go [] g = tt
      go (q ∷ qs) g = (let first = g.0 in omega arith, go qs g.1)

  -- ---- the list

  pub sound_listed : (m : ManagerState) → IsStateOf view m → IsStateOf view (without_list m)
  sound_listed m h = record { actions = go m.queries; known = h.known; queries = h.queries }
    where
      go : (qs : List Query) → AreActionsOf view (kept_where qs m.actions)
      go [] = tt
      go (q ∷ qs) = h.actions

  -- ---- asks

  pub asks_sound : (number first : ℕ) (m : ManagerState) → IsStateOf view m → AllByRecursion (IsSentAsk view) (all_sent_by number (map (ask_of (keyed view)) (drop first m.queries)))
  asks_sound number first m h = go (drop first m.queries) (all_drop (CanAsk (keyed view) (widths_of view)) m.queries first h.queries)
    where
      go : (qs : List Query) → AllCanAsk (keyed view) (widths_of view) qs → AllByRecursion (IsSentAsk view) (all_sent_by number (map (ask_of (keyed view)) qs))
      go [] g = tt
      go (q ∷ qs) g = (let a = g.0 in record { ask = record { origin = at_base q.origin a.origin; first = a.low; last = a.high; filled = a.filled }; source = refl }, go qs g.1)

  -- ---- a reply

  module _ (m : ManagerState) (transaction origin step : ℕ) (ps : List Partial) (fits : Fits (keyed view) (widths_of view) m transaction origin step ps) (h : IsStateOf view m) where
    moved_sound : (i : ℕ) (r : IsRepliedAt m transaction origin step i) → has_next (keyed view) r.query ≡ true → CanAsk (keyed view) (widths_of view) (moved_on r.query ps)
    moved_sound i r next =
        let q = all_get (CanAsk (keyed view) (widths_of view)) m.queries i r.query h.queries r.at in
        record {
          origin = q.origin;
          low = omega arith;
          high = let lt = ltb-true r.query.step (length (asked_sources (keyed view) r.query.origin)) next in omega arith;
          filled = subst (λ n. AllByRecursion (IsFilledBefore (keyed view) (widths_of view) r.query.origin (n + 1)) ps) (sym r.step_is) (subst (λ o. AllByRecursion (IsFilledBefore (keyed view) (widths_of view) o (step + 1)) ps) (sym r.origin_is) fits.filled);
          differ = fits.differ;
        }

    after_reply : AreInOrder m.queries → (o : Option ℕ) → place_named transaction origin m.queries ≡ o → IsStateOf view (with_reply (keyed view) (row_columns view) m transaction origin ps)
    after_reply order None e = subst (IsStateOf view) (reply_lost transaction origin (keyed view) (row_columns view) m ps e) h
    after_reply order (Some i) e = go (has_next (keyed view) r.query) refl
      where
        r : IsRepliedAt m transaction origin step i
        r = replied_at m m.queries transaction origin step i refl (sym e) order fits.open_query

        go : (b : Bool) → has_next (keyed view) r.query ≡ b → IsStateOf view (with_reply (keyed view) (row_columns view) m transaction origin ps)
        go true next = subst (IsStateOf view) (reply_moves transaction origin (keyed view) (row_columns view) m ps i r.query r.place r.at next) (record {
          actions = h.actions;
          known = all_changed (λ q. q.transaction ≤ m.last) (λ q. moved_on q ps) m.queries i h.known (subst (λ o. IfSome o (λ (q : Query). q.transaction ≤ m.last)) (sym r.at) (all_get (λ q. q.transaction ≤ m.last) m.queries i r.query h.known r.at));
          queries = all_changed (CanAsk (keyed view) (widths_of view)) (λ q. moved_on q ps) m.queries i h.queries (subst (λ o. IfSome o (λ (q : Query). CanAsk (keyed view) (widths_of view) (moved_on q ps))) (sym r.at) (moved_sound i r next));
        })
        go false next = subst (IsStateOf view) (reply_ends transaction origin (keyed view) (row_columns view) m ps i r.query r.place r.at next) (record {
          actions = all_more (IsActionOf view) m.actions _ h.actions refl;
          known = all_remove (λ q. q.transaction ≤ m.last) m.queries i h.known;
          queries = all_remove (CanAsk (keyed view) (widths_of view)) m.queries i h.queries;
        })

    pub sound_reply : AreInOrder m.queries → IsStateOf view (with_reply (keyed view) (row_columns view) m transaction origin ps)
    sound_reply order = after_reply order (place_named transaction origin m.queries) refl

    asked_after : (number : ℕ) → AreInOrder m.queries → (o : Option ℕ) → place_named transaction origin m.queries ≡ o → AllByRecursion (IsSentAsk view) (all_sent_by number (asks_after (keyed view) m.queries transaction origin ps))
    asked_after number order None e = subst (λ l. AllByRecursion (IsSentAsk view) (all_sent_by number l)) (sym (asks_lost transaction origin (keyed view) ps m.queries e)) tt
    asked_after number order (Some i) e = subst (λ l. AllByRecursion (IsSentAsk view) (all_sent_by number l)) (sym (asks_at transaction origin (keyed view) ps m.queries i r.query r.place r.at)) (go (has_next (keyed view) r.query) refl)
      where
        r : IsRepliedAt m transaction origin step i
        r = replied_at m m.queries transaction origin step i refl (sym e) order fits.open_query

        go : (b : Bool) → has_next (keyed view) r.query ≡ b → AllByRecursion (IsSentAsk view) (all_sent_by number (cond b (ask_of (keyed view) (moved_on r.query ps) ∷ []) []))
        go true next = let a = moved_sound i r next in (record { ask = record { origin = at_base r.query.origin a.origin; first = a.low; last = a.high; filled = a.filled }; source = refl }, tt)
        go false next = tt

    pub sound_asked : (number : ℕ) → AreInOrder m.queries → AllByRecursion (IsSentAsk view) (all_sent_by number (asks_after (keyed view) m.queries transaction origin ps))
    sound_asked number order = asked_after number order (place_named transaction origin m.queries) refl

  pub list_sound : (number : ℕ) (m : ManagerState) → IsStateOf view m → IfSome (list_by number m) (λ (l : ActionList). AreActionsOf view l.actions)
  list_sound number m h = go m.queries
    where
      go : (qs : List Query) → IfSome (option_map (λ (actions : List Action). record { view = number; upto = m.last; actions = actions }) (list_where qs m.actions)) (λ (l : ActionList). AreActionsOf view l.actions)
      go [] = h.actions
      go (q ∷ qs) = tt
