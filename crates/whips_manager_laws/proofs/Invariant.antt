-- What keeps the invariant of a manager.
--
-- `unconcerned_core`, `deletion_core`, `insertion_core`, `answer_core`, `closing_core`: the four parts of the invariant that speak of one
-- query at a time (`Core`) are kept where tuples that don't meet the view come and go, by a deletion, an insertion and an answer, and where
-- a query with all its parts filled is closed. `deletion_stands`, `insertion_stands`: a deletion and an insertion keep the numbers of the
-- queries too, and so the whole invariant (`ManagerInvariant`).
--
-- The idea: each row of the view's value is made by the actions, or an open query will find it. A deletion takes out the rows with its key
-- and is noted as pending in each query, so no query finds such a row later. An insertion opens a query with the new tuples as seeds, which
-- will find each choice with one of them. An answer extends each partial choice by all tuples that fit, so the query finds what it would
-- have found before. A query that is closed puts the rows of its choices that no pending deletion takes out.
--
-- Four lemmas carry it: `drawn_from` (a choice is one of other tables), `changed_here` and `changed_off` (the tables once one of them
-- changed) and `mid_cases` (which queries there are once one changed).
use Rattle.std.proofs.Common.{◌≡◌, ◌≢◌, ◌⊎◌, inl, inr, ℕ, ◌<◌, ◌≤◌, not, Bool, true, false, cond, Option, Some, None, is_some, List, [], ◌∷◌, ◌++◌, length, map, get_or, set, replicate, refl, sym, ap, subst, ◌∙◌, arith, append-nil, eq-eqb, ne_eqb}
use Rattle.std.proofs.lemmas.Bool.{cases_eq}
use Rattle.std.proofs.lemmas.List.{get_or-set_same, get_or-set_other, length-set, length-replicate, map-append}
use Rattle.whips_model.specs.Tuples.{Codes, Columns, at_columns, has_key, row_at, put_row, without_key, IsKeyed}
use Rattle.whips_model.specs.Views.{Choice, meets, out_row, rows_of}
use Rattle.whips_model.proofs.Keyed.{keyed_put, keyed_filter}
use Rattle.whips_lists.specs.Members.{Has, AreDistinct}
use Rattle.whips_lists.proofs.Members.{has_first, has_later, has_none, has_cases, has_same, has_left, has_right, has_either, has_mapped, has_before, distinct_more}
use Rattle.whips_choices.specs.KeyedViews.{KeyedView, IsKeyedView, AreTables, IsChoiceOf}
use Rattle.whips_choices.specs.Edits.{put_missing, put_rows}
use Rattle.whips_choices.specs.Partials.{Partial, slot, meets_on, meets_at, seed}
use Rattle.whips_choices.proofs.Rows.{key_is, key_differs, without_only, without_keeps, missing_keeps, missing_only, missing_has, puts_only, puts_keep, puts_have, same_rows}
use Rattle.whips_choices.proofs.Values.{value_choice, value_row, value_in_order, one_row}
use Rattle.whips_choices.proofs.Parts.{slot_in_range, seed_width, seed_at, seed_other, seed_part, seed_below, part_meets, below_meets}
use Rattle.whips_trans_laws.proofs.ByKey.{puts_keyed}
use Rattle.whips_steps.specs.Steps.{asked_sources, step_parts, is_filled}
use Rattle.whips_steps.specs.Answers.{projected, unstruck}
use Rattle.whips_steps.proofs.Fills.{with_all, IsFilling, fill_all, found_all, differ_rows}
use Rattle.whips_steps.proofs.Whole.{found_is, in_found}
use Rattle.whips_steps.proofs.Stepping.{parts_distinct, parts_free, filled_next, filled_first}
use Rattle.whips_actions.specs.declared.action.Action.{Action}
use Rattle.whips_actions.specs.declared.action.Action.TheVariants.{KeyDelete, Put}
use Rattle.whips_actions.specs.Acts.{acted, applied}
use Rattle.whips_managers.specs.Managers.{Query, ManagerState, name_of, with_pending, with_deletion, new_query, with_query, put_of, moved_on}
use Rattle.whips_managers.specs.Invariants.{IsFoundBy, IsAwaited, IsPartialOf, IsSoundQuery, AreNumbered, ManagerInvariant}
use Rattle.whips_manager_laws.specs.Laws.{answer_to}

-- ---- lists with an element in the middle

module _ {X : Type 0} where
  pub mid_cases : (q x : X) (before after : List X) → Has q (before ++ x ∷ after) → (q ≡ x) ⊎ Has q (before ++ after)
  mid_cases q x before after h = elim (has_either q before (x ∷ after) h) [
    | inl g ↦ inr (has_left q before after g)
    | inr g ↦ elim (has_cases q x after g) [ inl e ↦ inl e | inr k ↦ inr (has_right q before after k) ]
  ]

  pub mid_has : (x : X) (before after : List X) → Has x (before ++ x ∷ after)
  mid_has x before after = has_right x before (x ∷ after) (has_first x after)

  pub mid_rest : (q x : X) (before after : List X) → Has q (before ++ after) → Has q (before ++ x ∷ after)
  mid_rest q x before after h = elim (has_either q before after h) [
    | inl g ↦ has_left q before (x ∷ after) g
    | inr g ↦ has_right q before (x ∷ after) (has_later q x after g)
  ]

  pub distinct_rest : (x : X) (before after : List X) → AreDistinct (before ++ x ∷ after) → AreDistinct (before ++ after)
  distinct_rest x [] after d = d.1
  distinct_rest x (y ∷ before) after d = (λ k. d.0 (mid_rest y x before after k), distinct_rest x before after d.1)

-- ---- actions

pub applied_more : (v : KeyedView) (actions : List Action) (a : Action) (rows : List Codes) → applied v (actions ++ a ∷ []) rows ≡ acted v (applied v actions rows) a
applied_more v [] a rows = refl
applied_more v (b ∷ actions) a rows = applied_more v actions a (acted v rows b)

keyed_missing : (cols : List ℕ) (new rows : List Codes) → IsKeyed cols rows → IsKeyed cols (put_missing cols new rows)
keyed_missing cols [] rows h = h
keyed_missing cols (r ∷ new) rows h = keyed_missing cols new _ (elim (is_some (row_at cols (at_columns cols r) rows)) as (λ b. IsKeyed cols (cond b rows (put_row cols r rows))) [ true ↦ h | false ↦ keyed_put cols r rows h ])

keyed_acted : (v : KeyedView) (a : Action) (rows : List Codes) → IsKeyed v.columns rows → IsKeyed v.columns (acted v rows a)
keyed_acted v (KeyDelete i k) rows h = keyed_filter v.columns (λ t. not (has_key (get_or v.places i []) k t)) rows h
keyed_acted v (Put new) rows h = keyed_missing v.columns new.rows rows h

pub keyed_applied : (v : KeyedView) (actions : List Action) (rows : List Codes) → IsKeyed v.columns rows → IsKeyed v.columns (applied v actions rows)
keyed_applied v [] rows h = h
keyed_applied v (a ∷ actions) rows h = keyed_applied v actions _ (keyed_acted v a rows h)

-- ---- tables that change at one part

module _ (v : KeyedView) (tables : List (List Codes)) (good : AreTables v tables) (i : ℕ) (lt : i < length v.keys) (new : List Codes) where
  pub changed_here : get_or (set tables i new) i [] ≡ new
  changed_here = get_or-set_same tables i new [] (omega (arith, good.parts))

  pub changed_off : (j : ℕ) → j ≢ i → get_or (set tables i new) j [] ≡ get_or tables j []
  changed_off j ne = get_or-set_other tables i j new [] ne

  pub changed_tables : IsKeyed (get_or v.keys i []) new → AreTables v (set tables i new)
  changed_tables h = record { parts = length-set tables i new ∙ good.parts; keyed = λ j below. keyed j below (cases_eq j i) }
    where
      keyed : (j : ℕ) → j < length v.keys → (j ≡ i) ⊎ (j ≢ i) → IsKeyed (get_or v.keys j []) (get_or (set tables i new) j [])
      keyed j below (inl e) = subst (λ z. IsKeyed (get_or v.keys z []) (get_or (set tables i new) z [])) (sym e) (subst (λ z. IsKeyed (get_or v.keys i []) z) (sym changed_here) h)
      keyed j below (inr ne) = subst (λ z. IsKeyed (get_or v.keys j []) z) (sym (changed_off j ne)) (good.keyed j below)

  -- what goes into the tables where it goes into the part
  pub into : ((t : Codes) → Has t (get_or tables i []) → Has t new) → (j : ℕ) (t : Codes) → Has t (get_or tables j []) → Has t (get_or (set tables i new) j [])
  into h j t k = elim (cases_eq j i) [
    | inl e ↦ subst (λ z. Has t (get_or (set tables i new) z [])) (sym e) (subst (λ z. Has t z) (sym changed_here) (h t (subst (λ z. Has t (get_or tables z [])) e k)))
    | inr ne ↦ subst (λ z. Has t z) (sym (changed_off j ne)) k
  ]

  pub out_of : ((t : Codes) → Has t new → Has t (get_or tables i [])) → (j : ℕ) (t : Codes) → Has t (get_or (set tables i new) j []) → Has t (get_or tables j [])
  out_of h j t k = elim (cases_eq j i) [
    | inl e ↦ subst (λ z. Has t (get_or tables z [])) (sym e) (h t (subst (λ z. Has t z) changed_here (subst (λ z. Has t (get_or (set tables i new) z [])) e k)))
    | inr ne ↦ subst (λ z. Has t z) (changed_off j ne) k
  ]

-- a choice is drawn from other tables where each of its tuples is in them
drawn_from : (v : KeyedView) (tables others : List (List Codes)) (c : Choice) → length tables ≡ length v.keys → length others ≡ length v.keys → IsChoiceOf tables c
    → ((j : ℕ) → j < length v.keys → Has (get_or c j []) (get_or tables j []) → Has (get_or c j []) (get_or others j [])) → IsChoiceOf others c
drawn_from v tables others c e f d h = record { width = d.width ∙ e ∙ sym f; at = λ j lt. h j (omega arith) (d.at j (omega arith)) }

-- ---- the four parts that speak of one query at a time

pub record Core (v : KeyedView) (tables : List (List Codes)) (rows : List Codes) (actions : List Action) (queries : List Query) : Type 0 where
  pub listed : (r : Codes) → Has r (applied v actions rows) → Has r (rows_of v.base tables)
  pub chosen : (q : Query) (p : Partial) (i : ℕ) (t : Codes) → Has q queries → Has p q.partials → slot p i ≡ Some t
      → Has t (get_or tables i []) ⊎ Has (i, at_columns (get_or v.keys i []) t) q.pending
  pub covered : (c : Choice) → IsChoiceOf tables c → meets v.base c ≡ true → Has (out_row v.base c) (applied v actions rows) ⊎ IsAwaited v queries c
  pub sound : (q : Query) → Has q queries → IsSoundQuery v q

pub core_of : (v : KeyedView) (tables : List (List Codes)) (rows : List Codes) (m : ManagerState) → ManagerInvariant v tables rows m → Core v tables rows m.actions m.queries
core_of v tables rows m s = record { listed = s.listed; chosen = s.chosen; covered = s.covered; sound = s.sound }

pub stands_of : (v : KeyedView) (tables : List (List Codes)) (rows : List Codes) (m : ManagerState) → Core v tables rows m.actions m.queries → AreNumbered v m → ManagerInvariant v tables rows m
stands_of v tables rows m s n = record { listed = s.listed; chosen = s.chosen; covered = s.covered; numbered = n; sound = s.sound }

module _ (v : KeyedView) (is : IsKeyedView v) where
  -- ---- tuples that don't meet the view come and go

  -- each tuple of a choice that meets the view meets it alone
  tuple_meets : (c : Choice) → length c ≡ length v.keys → meets v.base c ≡ true → (i : ℕ) → i < length v.keys → meets_at v.base (length v.keys) i (get_or c i []) ≡ true
  tuple_meets c w m i lt = part_meets v is c w (seed (length v.keys) i (get_or c i [])) (seed_part (length v.keys) i c w lt) m

  module _ (tables others : List (List Codes)) (good : AreTables v tables) (others_good : AreTables v others)
      (to : (i : ℕ) (t : Codes) → i < length v.keys → meets_at v.base (length v.keys) i t ≡ true → Has t (get_or tables i []) → Has t (get_or others i []))
      (back : (i : ℕ) (t : Codes) → i < length v.keys → meets_at v.base (length v.keys) i t ≡ true → Has t (get_or others i []) → Has t (get_or tables i [])) where
    to_drawn : (c : Choice) → IsChoiceOf tables c → meets v.base c ≡ true → IsChoiceOf others c
    to_drawn c d m = drawn_from v tables others c good.parts others_good.parts d (λ j lt h. to j (get_or c j []) lt (tuple_meets c (d.width ∙ good.parts) m j lt) h)

    back_drawn : (c : Choice) → IsChoiceOf others c → meets v.base c ≡ true → IsChoiceOf tables c
    back_drawn c d m = drawn_from v others tables c others_good.parts good.parts d (λ j lt h. back j (get_or c j []) lt (tuple_meets c (d.width ∙ others_good.parts) m j lt) h)

    pub unconcerned_core : (rows : List Codes) (actions : List Action) (queries : List Query) → Core v tables rows actions queries → Core v others rows actions queries
    unconcerned_core rows actions queries s = record {
      listed = λ r h. let a = value_choice v.base tables r (s.listed r h) in has_same (out_row v.base a.0) r (rows_of v.base others) (sym a.1.row) (value_row v.base others a.0 (to_drawn a.0 a.1.choice_of a.1.meets) a.1.meets);
      chosen = λ q p i t h k e. elim (s.chosen q p i t h k e) [ inl g ↦ inl (chosen p i t ((s.sound q h).each p k).width ((s.sound q h).each p k).meets e g) | inr g ↦ inr g ];
      covered = λ c d m. s.covered c (back_drawn c d m) m;
      sound = s.sound;
    }
      where
        chosen : (p : Partial) (i : ℕ) (t : Codes) → length p ≡ length v.keys → meets_on v.base p ≡ true → slot p i ≡ Some t → Has t (get_or tables i []) → Has t (get_or others i [])
        chosen p i t w m e g =
            let lt : i < length p = slot_in_range p i t e in
            let below : i < length v.keys = omega arith in
            to i t below (below_meets (seed (length v.keys) i t) p (seed_below (length v.keys) i t p below e) v.base m) g

    pub unconcerned_value : rows_of v.base tables ≡ rows_of v.base others
    unconcerned_value = same_rows v.columns (rows_of v.base tables) (rows_of v.base others) (value_in_order v is tables good) (value_in_order v is others others_good)
        (λ r h. let a = value_choice v.base tables r h in has_same (out_row v.base a.0) r (rows_of v.base others) (sym a.1.row) (value_row v.base others a.0 (to_drawn a.0 a.1.choice_of a.1.meets) a.1.meets))
        (λ r h. let a = value_choice v.base others r h in has_same (out_row v.base a.0) r (rows_of v.base tables) (sym a.1.row) (value_row v.base tables a.0 (back_drawn a.0 a.1.choice_of a.1.meets) a.1.meets))

  -- ---- a deletion

  module _ (tables : List (List Codes)) (good : AreTables v tables) (i : ℕ) (lt : i < length v.keys) (k : Codes) where
    abbrev pub less : List (List Codes)
    less = set tables i (without_key (get_or v.keys i []) k (get_or tables i []))

    pub narrower : (j : ℕ) (t : Codes) → Has t (get_or less j []) → Has t (get_or tables j [])
    narrower = out_of v tables good i lt _ (λ t h. (without_only (get_or v.keys i []) k t (get_or tables i []) h).0)

    -- a tuple with another key stays
    pub stays : (j : ℕ) (t : Codes) → (j ≡ i → at_columns (get_or v.keys i []) t ≢ k) → Has t (get_or tables j []) → Has t (get_or less j [])
    stays j t other h = elim (cases_eq j i) [
      | inl e ↦ subst (λ z. Has t (get_or less z [])) (sym e) (subst (λ z. Has t z) (sym (changed_here v tables good i lt _)) (without_keeps (get_or v.keys i []) k t (get_or tables i []) (subst (λ z. Has t (get_or tables z [])) e h) (other e)))
      | inr ne ↦ subst (λ z. Has t z) (sym (changed_off v tables good i lt _ j ne)) h
    ]

    gone : (t : Codes) → Has t (get_or less i []) → at_columns (get_or v.keys i []) t ≢ k
    gone t h = (without_only (get_or v.keys i []) k t (get_or tables i []) (subst (λ z. Has t z) (changed_here v tables good i lt _) h)).1

    pub less_good : AreTables v less
    less_good = changed_tables v tables good i lt _ (keyed_filter (get_or v.keys i []) (λ t. not (has_key (get_or v.keys i []) k t)) (get_or tables i []) (good.keyed i lt))

    module _ (P : Query → Type 0) (queries : List Query) where
      each_pending : ((q : Query) → Has q queries → P (with_pending i k q)) → (q : Query) → Has q (map (with_pending i k) queries) → P q
      each_pending h q g = let a = has_before (with_pending i k) q queries g in subst P (sym a.2) (h a.0 a.1)

    pub deletion_core : (rows : List Codes) (actions : List Action) (queries : List Query) → Core v tables rows actions queries → Core v less rows (actions ++ KeyDelete i k ∷ []) (map (with_pending i k) queries)
    deletion_core rows actions queries s = record {
      listed = λ r h. listed r (subst (λ z. Has r z) (applied_more v actions (KeyDelete i k) rows) h);
      chosen = λ q p j t h g e. each_pending (λ q. Has p q.partials → Has t (get_or less j []) ⊎ Has (j, at_columns (get_or v.keys j []) t) q.pending) queries
          (λ q h g. elim (s.chosen q p j t h g e) [ inl m ↦ chosen q j t m (cases_eq j i) | inr m ↦ inr (has_left _ q.pending _ m) ]) q h g;
      covered = λ c d m. elim (s.covered c (drawn_from v less tables c less_good.parts good.parts d (λ j below h. narrower j (get_or c j []) h)) m) [
        | inl h ↦ inl (subst (λ z. Has (out_row v.base c) z) (sym (applied_more v actions (KeyDelete i k) rows)) (without_keeps (get_or v.places i []) k (out_row v.base c) (applied v actions rows) h
            (λ same. other c d (sym (is.part_keys i c (d.width ∙ less_good.parts) lt) ∙ same))))
        | inr h ↦ inr (record { query = with_pending i k h.query; there = has_mapped (with_pending i k) h.query queries h.there; found = found c d h.query h.found })
      ];
      sound = each_pending (λ q. IsSoundQuery v q) queries (λ q h. let a = s.sound q h in record { each = λ p g. let b = a.each p g in record { width = b.width; seed = b.seed; seeded = b.seeded; at_origin = b.at_origin; filled = b.filled; meets = b.meets }; differ = a.differ });
    }
      where
        other : (c : Choice) → IsChoiceOf less c → at_columns (get_or v.keys i []) (get_or c i []) ≢ k
        other c d = gone (get_or c i []) (d.at i (omega (arith, less_good.parts)))

        listed : (r : Codes) → Has r (without_key (get_or v.places i []) k (applied v actions rows)) → Has r (rows_of v.base less)
        listed r h =
            let w = without_only (get_or v.places i []) k r (applied v actions rows) h in
            let a = value_choice v.base tables r (s.listed r w.0) in
            let keys = is.part_keys i a.0 (a.1.choice_of.width ∙ good.parts) lt in
            has_same (out_row v.base a.0) r (rows_of v.base less) (sym a.1.row) (value_row v.base less a.0
            (drawn_from v tables less a.0 good.parts less_good.parts a.1.choice_of (λ j below g. stays j (get_or a.0 j []) (λ e same. w.1 (ap (at_columns (get_or v.places i [])) a.1.row ∙ keys ∙ subst (λ z. at_columns (get_or v.keys i []) (get_or a.0 z []) ≡ k) e same)) g))
            a.1.meets)

        chosen : (q : Query) (j : ℕ) (t : Codes) → Has t (get_or tables j []) → (j ≡ i) ⊎ (j ≢ i) → Has t (get_or less j []) ⊎ Has (j, at_columns (get_or v.keys j []) t) (q.pending ++ (i, k) ∷ [])
        chosen q j t h (inr ne) = inl (stays j t (λ e. absurd (ne e)) h)
        chosen q j t h (inl e) = by_key (has_key (get_or v.keys i []) k t) refl
          where
            by_key : (b : Bool) → has_key (get_or v.keys i []) k t ≡ b → Has t (get_or less j []) ⊎ Has (j, at_columns (get_or v.keys j []) t) (q.pending ++ (i, k) ∷ [])
            by_key true same = inr (subst (λ (z : ℕ). Has (z, at_columns (get_or v.keys z []) t) (q.pending ++ (i, k) ∷ [])) (sym e)
                (subst (λ (z : Codes). Has (i, z) (q.pending ++ (i, k) ∷ [])) (sym (key_is (get_or v.keys i []) k t same)) (has_right (i, k) q.pending ((i, k) ∷ []) (has_first (i, k) []))))
            by_key false differs = inl (stays j t (λ _. key_differs (get_or v.keys i []) k t differs) h)

        found : (c : Choice) → IsChoiceOf less c → (q : Query) → IsFoundBy v c q → IsFoundBy v c (with_pending i k q)
        found c d q b = record {
          seed = b.seed;
          free = λ j below h. elim (has_either _ q.pending ((i, k) ∷ []) h) [
            | inl g ↦ b.free j below g
            | inr g ↦ elim (has_cases _ (i, k) [] g) [
              | inl e ↦ other c d (subst (λ z. at_columns (get_or v.keys z []) (get_or c z []) ≡ k) (ap (λ x. x.0) e) (ap (λ x. x.1) e))
              | inr m ↦ has_none _ m
            ]
          ];
          partial = b.partial;
          there = b.there;
          part_of = b.part_of;
        }

    names_pending : (queries : List Query) → map name_of (map (with_pending i k) queries) ≡ map name_of queries
    names_pending [] = refl
    names_pending (q ∷ queries) = ap (λ l. name_of q ∷ l) (names_pending queries)

    pub deletion_stands : (rows : List Codes) (m : ManagerState) → ManagerInvariant v tables rows m → ManagerInvariant v less rows (with_deletion m (i, k))
    deletion_stands rows m s = stands_of v less rows (with_deletion m (i, k)) (deletion_core rows m.actions m.queries (core_of v tables rows m s)) (record {
      distinct = subst (λ l. AreDistinct l) (sym (names_pending m.queries)) s.numbered.distinct;
      known = each_pending (λ q. q.transaction ≤ m.last) m.queries s.numbered.known;
      steps = each_pending (λ q. (1 ≤ q.step) × (q.step ≤ length (asked_sources v q.origin))) m.queries s.numbered.steps;
    })

  -- ---- an insertion

  module _ (tables : List (List Codes)) (good : AreTables v tables) (i : ℕ) (lt : i < length v.keys) (ts : List Codes)
      (rising : IsKeyed (get_or v.keys i []) ts)
      (new : (t : Codes) → Has t ts → (u : Codes) → Has u (get_or tables i []) → at_columns (get_or v.keys i []) t ≢ at_columns (get_or v.keys i []) u)
      (concern : (t : Codes) → Has t ts → meets_at v.base (length v.keys) i t ≡ true) where
    abbrev pub more : List (List Codes)
    more = set tables i (put_rows (get_or v.keys i []) ts (get_or tables i []))

    pub more_good : AreTables v more
    more_good = changed_tables v tables good i lt _ (puts_keyed (get_or v.keys i []) ts (get_or tables i []) (good.keyed i lt))

    pub wider : (j : ℕ) (t : Codes) → Has t (get_or tables j []) → Has t (get_or more j [])
    wider = into v tables good i lt _ (λ t h. puts_keep (get_or v.keys i []) t ts (get_or tables i []) (λ u g. new u g t h) h)

    pub come : (t : Codes) → Has t ts → Has t (get_or more i [])
    come t h = subst (λ z. Has t z) (sym (changed_here v tables good i lt _)) (puts_have (get_or v.keys i []) t ts (get_or tables i []) rising h)

    pub old_or_new : (t : Codes) → Has t (get_or more i []) → Has t ts ⊎ Has t (get_or tables i [])
    old_or_new t h = puts_only (get_or v.keys i []) t ts (get_or tables i []) (subst (λ z. Has t z) (changed_here v tables good i lt _) h)

    pub insertion_core : (number : ℕ) (rows : List Codes) (actions : List Action) (queries : List Query) → Core v tables rows actions queries → Core v more rows actions (queries ++ new_query v number i ts ∷ [])
    insertion_core number rows actions queries s = record {
      listed = λ r h. let a = value_choice v.base tables r (s.listed r h) in has_same (out_row v.base a.0) r (rows_of v.base more) (sym a.1.row)
          (value_row v.base more a.0 (drawn_from v tables more a.0 good.parts more_good.parts a.1.choice_of (λ j below g. wider j (get_or a.0 j []) g)) a.1.meets);
      chosen = λ q p j t h g e. elim (mid_cases q (new_query v number i ts) queries [] h) [
        | inl same ↦ inl (chosen p j t (has_before (seed (length v.keys) i) p ts (subst (λ z. Has p z.partials) same g)) e (cases_eq j i))
        | inr k ↦ elim (s.chosen q p j t (subst (λ z. Has q z) (append-nil queries) k) g e) [ inl m ↦ inl (wider j t m) | inr m ↦ inr m ]
      ];
      covered = λ c d m. elim (old_or_new (get_or c i []) (d.at i (omega (arith, more_good.parts)))) [
        | inl h ↦ inr (record {
          query = new_query v number i ts;
          there = mid_has (new_query v number i ts) queries [];
          found = record {
            seed = h;
            free = λ j below k. has_none _ k;
            partial = seed (length v.keys) i (get_or c i []);
            there = has_mapped (seed (length v.keys) i) (get_or c i []) ts h;
            part_of = seed_part (length v.keys) i c (d.width ∙ more_good.parts) lt;
          };
        })
        | inr h ↦ elim (s.covered c (drawn_from v more tables c more_good.parts good.parts d (λ j below g. older c h j g (cases_eq j i))) m) [
          | inl k ↦ inl k
          | inr k ↦ inr (record { query = k.query; there = has_left k.query queries _ k.there; found = k.found })
        ]
      ];
      sound = λ q h. elim (mid_cases q (new_query v number i ts) queries [] h) [
        | inl same ↦ subst (λ z. IsSoundQuery v z) (sym same) (record { each = λ p g. sound p (has_before (seed (length v.keys) i) p ts g); differ = differ_rows v.keys (replicate (length v.keys) None) i ts (let w : length {A = Option Codes} (replicate (length v.keys) None) ≡ length v.keys = length-replicate (length v.keys) None in omega arith) rising })
        | inr k ↦ s.sound q (subst (λ z. Has q z) (append-nil queries) k)
      ];
    }
      where
        older : (c : Choice) → Has (get_or c i []) (get_or tables i []) → (j : ℕ) → Has (get_or c j []) (get_or more j []) → (j ≡ i) ⊎ (j ≢ i) → Has (get_or c j []) (get_or tables j [])
        older c h j g (inl e) = subst (λ z. Has (get_or c z []) (get_or tables z [])) (sym e) h
        older c h j g (inr ne) = subst (λ z. Has (get_or c j []) z) (changed_off v tables good i lt _ j ne) g

        chosen : (p : Partial) (j : ℕ) (t : Codes) → (u : Codes) × Has u ts × (p ≡ seed (length v.keys) i u) → slot p j ≡ Some t → (j ≡ i) ⊎ (j ≢ i) → Has t (get_or more j [])
        chosen p j t b e (inl same) =
            let at : slot (seed (length v.keys) i b.0) i ≡ Some b.0 = seed_at (length v.keys) i b.0 lt in
            let here : slot (seed (length v.keys) i b.0) i ≡ Some t = subst (λ z. slot (seed (length v.keys) i b.0) z ≡ Some t) same (ap (λ z. slot z j) (sym b.2) ∙ e) in
            let equal : b.0 ≡ t = cc (at, here) in
            subst (λ z. Has t (get_or more z [])) (sym same) (has_same b.0 t _ equal (come b.0 b.1))
        chosen p j t b e (inr ne) =
            let none : slot (seed (length v.keys) i b.0) j ≡ None = seed_other (length v.keys) i j b.0 ne in
            let here : slot (seed (length v.keys) i b.0) j ≡ Some t = ap (λ z. slot z j) (sym b.2) ∙ e in
            absurd (cc (none, here))

        filled : (t : Codes) (j : ℕ) → (j ≡ i) ⊎ (j ≢ i) → is_some (slot (seed (length v.keys) i t) j) ≡ is_filled v i 1 j
        filled t j (inl e) = subst (λ z. is_some (slot (seed (length v.keys) i t) z) ≡ is_filled v i 1 z) (sym e) (ap is_some (seed_at (length v.keys) i t lt) ∙ sym (filled_first v i i ∙ eq-eqb i i refl))
        filled t j (inr ne) = ap is_some (seed_other (length v.keys) i j t ne) ∙ sym (filled_first v i j ∙ ne_eqb j i ne)

        sound : (p : Partial) → (u : Codes) × Has u ts × (p ≡ seed (length v.keys) i u) → IsPartialOf v (new_query v number i ts) p
        sound p b = subst (λ z. IsPartialOf v (new_query v number i ts) z) (sym b.2) (record {
          width = seed_width (length v.keys) i b.0;
          seed = b.0;
          seeded = b.1;
          at_origin = seed_at (length v.keys) i b.0 lt;
          filled = λ j below. filled b.0 j (cases_eq j i);
          meets = concern b.0 b.1;
        })

    pub insertion_stands : (number : ℕ) (rows : List Codes) (m : ManagerState) → m.last ≤ number → (Has (number, i) (map name_of m.queries) → ⊥) → 1 ≤ length (asked_sources v i) → ManagerInvariant v tables rows m → ManagerInvariant v more rows (with_query v m number i ts)
    insertion_stands number rows m later unnamed asked s = stands_of v more rows (with_query v m number i ts) (insertion_core number rows m.actions m.queries (core_of v tables rows m s)) (record {
      distinct = subst (λ l. AreDistinct l) (sym (map-append name_of m.queries (new_query v number i ts ∷ []))) (distinct_more (number, i) (map name_of m.queries) s.numbered.distinct unnamed);
      known = λ q h. elim (mid_cases q (new_query v number i ts) m.queries [] h) [
        | inl same ↦ let e = ap (λ z. z.transaction) same in omega arith
        | inr k ↦ let e = s.numbered.known q (subst (λ z. Has q z) (append-nil m.queries) k) in omega arith
      ];
      steps = λ q h. elim (mid_cases q (new_query v number i ts) m.queries [] h) [
        | inl same ↦ subst (λ z. (1 ≤ z.step) × (z.step ≤ length (asked_sources v z.origin))) (sym same) (omega arith, asked)
        | inr k ↦ s.numbered.steps q (subst (λ z. Has q z) (append-nil m.queries) k)
      ];
    })

  -- ---- an answer

  module _ (tables : List (List Codes)) (good : AreTables v tables) (rows : List Codes) (actions : List Action) (before after : List Query) (q : Query)
      (s : Core v tables rows actions (before ++ q ∷ after)) where
    here : Has q (before ++ q ∷ after)
    here = mid_has q before after

    filling : IsFilling v tables q.seeds q.origin q.pending (is_filled v q.origin q.step) q.partials
    filling = let a = s.sound q here in record {
      width = λ p h. (a.each p h).width;
      seed = λ p h. ((a.each p h).seed, (a.each p h).seeded, (a.each p h).at_origin);
      filled = λ p j h below. (a.each p h).filled j below;
      meets = λ p h. (a.each p h).meets;
      chosen = λ p j t h e. s.chosen q p j t here h e;
      differ = a.differ;
    }

    module _ (low : 1 ≤ q.step) (high : q.step ≤ length (asked_sources v q.origin)) where
      further : IsFilling v tables q.seeds q.origin q.pending (with_all (is_filled v q.origin q.step) (step_parts v q.origin q.step)) (answer_to v tables q)
      further = fill_all v tables q.seeds q.origin q.pending good (is_filled v q.origin q.step) (step_parts v q.origin q.step) q.partials (parts_distinct v q.origin q.step) (parts_free v q.origin q.step low high) filling

      pub answer_core : Core v tables rows actions (before ++ moved_on q (answer_to v tables q) ∷ after)
      answer_core = record {
        listed = s.listed;
        chosen = λ r p j t h g e. elim (mid_cases r (moved_on q (answer_to v tables q)) before after h) [
          | inl same ↦ elim (further.chosen p j t (subst (λ z. Has p z.partials) same g) e) [ inl m ↦ inl m | inr m ↦ inr (subst (λ z. Has (j, at_columns (get_or v.keys j []) t) z.pending) (sym same) m) ]
          | inr k ↦ s.chosen r p j t (mid_rest r q before after k) g e
        ];
        covered = λ c d m. elim (s.covered c d m) [
          | inl h ↦ inl h
          | inr h ↦ inr (elim (mid_cases h.query q before after h.there) [
            | inl same ↦ moved c d m (subst (λ z. IsFoundBy v c z) same h.found)
            | inr k ↦ record { query = h.query; there = mid_rest h.query (moved_on q (answer_to v tables q)) before after k; found = h.found }
          ])
        ];
        sound = λ r h. elim (mid_cases r (moved_on q (answer_to v tables q)) before after h) [
          | inl same ↦ subst (λ z. IsSoundQuery v z) (sym same) (record { each = sound; differ = further.differ })
          | inr k ↦ s.sound r (mid_rest r q before after k)
        ];
      }
        where
          moved : (c : Choice) → IsChoiceOf tables c → meets v.base c ≡ true → IsFoundBy v c q → IsAwaited v (before ++ moved_on q (answer_to v tables q) ∷ after) c
          moved c d m b =
              let f = found_all v is tables good.parts c d m (step_parts v q.origin q.step) q.partials (λ j h. (parts_free v q.origin q.step low high j h).0) (record { partial = b.partial; there = b.there; part = b.part_of }) in
              record { query = moved_on q (answer_to v tables q); there = mid_has (moved_on q (answer_to v tables q)) before after; found = record { seed = b.seed; free = b.free; partial = f.partial; there = f.there; part_of = f.part } }

          sound : (p : Partial) → Has p (answer_to v tables q) → IsPartialOf v (moved_on q (answer_to v tables q)) p
          sound p h = let a = further.seed p h in record {
            width = further.width p h;
            seed = a.0;
            seeded = a.1;
            at_origin = a.2;
            filled = λ j below. further.filled p j h below ∙ filled_next v q.origin q.step low high j below;
            meets = further.meets p h;
          }

    -- ---- a query all of whose parts are filled is closed

    module _ (columns : Columns) (full : (j : ℕ) → j < length v.keys → is_filled v q.origin q.step j ≡ true) where
      abbrev found : List Codes
      found = projected v (unstruck v q.pending q.partials)

      is_value : (r : Codes) → Has r found → Has r (rows_of v.base tables)
      is_value = found_is v is tables good q.seeds q.origin q.pending (is_filled v q.origin q.step) q.partials filling full

      pub closing_core : Core v tables rows (actions ++ put_of v columns (unstruck v q.pending q.partials) ∷ []) (before ++ after)
      closing_core = record {
        listed = λ r h. elim (missing_only v.columns r found (applied v actions rows) (subst (λ z. Has r z) (applied_more v actions (put_of v columns (unstruck v q.pending q.partials)) rows) h)) [ inl g ↦ is_value r g | inr g ↦ s.listed r g ];
        chosen = λ r p j t h g e. s.chosen r p j t (mid_rest r q before after h) g e;
        covered = λ c d m. elim (s.covered c d m) [
          | inl h ↦ inl (subst (λ z. Has (out_row v.base c) z) (sym (applied_more v actions (put_of v columns (unstruck v q.pending q.partials)) rows)) (missing_keeps v.columns (out_row v.base c) found (applied v actions rows) h))
          | inr h ↦ elim (mid_cases h.query q before after h.there) [
            | inl same ↦ inl (subst (λ z. Has (out_row v.base c) z) (sym (applied_more v actions (put_of v columns (unstruck v q.pending q.partials)) rows)) (put c (subst (λ z. IsFoundBy v c z) same h.found)))
            | inr k ↦ inr (record { query = h.query; there = k; found = h.found })
          ]
        ];
        sound = λ r h. s.sound r (mid_rest r q before after h);
      }
        where
          put : (c : Choice) → IsFoundBy v c q → Has (out_row v.base c) (put_missing v.columns found (applied v actions rows))
          put c b = missing_has v.columns (λ r. Has r (rows_of v.base tables)) (one_row v is tables good) found (applied v actions rows) is_value s.listed (out_row v.base c)
              (in_found v is tables good q.seeds q.origin q.pending (is_filled v q.origin q.step) q.partials filling full b.partial c b.there b.part_of b.free)
