-- The laws of a manager's invariant.
use Rattle.std.proofs.Common.{◌≡◌, inl, inr, ℕ, ◌+◌, ◌<◌, ◌≤◌, Bool, true, false, List, [], ◌∷◌, ◌++◌, length, map, get_or, set, refl, sym, ap, subst, ◌∙◌, arith, append-nil}
use Rattle.std.proofs.lemmas.List.{map-append}
use Rattle.std.proofs.lemmas.Bool.{cases_eq}
use Rattle.whips_model.specs.Tuples.{Codes, at_columns, put_row, without_key}
use Rattle.whips_model.specs.Views.{rows_of}
use Rattle.whips_lists.specs.Members.{Has, AreDistinct}
use Rattle.whips_model.proofs.Keyed.{keyed_put}
use Rattle.whips_lists.proofs.Members.{has_none, has_same}
use Rattle.whips_choices.specs.KeyedViews.{KeyedView, AreTables}
use Rattle.whips_choices.specs.Partials.{Partial, seed}
use Rattle.whips_choices.proofs.Rows.{put_only, put_keeps, same_row, same_rows}
use Rattle.whips_choices.proofs.Values.{value_choice, value_row, value_in_order}
use Rattle.whips_trans_laws.proofs.Alone.{meets_is}
use Rattle.whips_steps.specs.Steps.{asked_sources}
use Rattle.whips_steps.specs.Answers.{unstruck}
use Rattle.whips_steps.proofs.Stepping.{all_filled}
use Rattle.whips_actions.specs.Acts.{applied}
use Rattle.whips_managers.specs.Managers.{Query, ManagerState, name_of, new_query, with_put, put_of, moved_on, with_step, with_answer}
use Rattle.whips_managers.specs.Invariants.{Keeps}
use Rattle.whips_manager_laws.specs.Laws.{IsNewAt, Meets, Misses, with_tuples, answer_to, UnconcernedInsertion, UnconcernedDeletion, UnconcernedChange, Deletion, Insertions, PutInsertions, EarlierAnswer, LastAnswer, ListMakesValue, NewManager, LaterNumber}
use Rattle.whips_manager_laws.proofs.Invariant.{Core, core_of, stands_of, mid_cases, mid_has, mid_rest, distinct_rest, keyed_applied, into, changed_here, changed_off, changed_tables, unconcerned_core, deletion_stands, less_good, narrower, stays, insertion_core, insertion_stands, more_good, answer_core, closing_core}

-- ---- tuples that don't meet the view

pub change_unseen : UnconcernedChange
change_unseen v tables others rows m s good to back = record {
  view = s.view;
  good = good;
  invariant = stands_of v others rows m (unconcerned_core v s.view tables others s.good good
      (λ i t lt meets h. to i t lt (sym (meets_is v.base (length v.keys) i t lt) ∙ meets) h)
      (λ i t lt meets h. back i t lt (sym (meets_is v.base (length v.keys) i t lt) ∙ meets) h)
      rows m.actions m.queries (core_of v tables rows m s.invariant)) s.invariant.numbered;
}

misses : (b : Bool) → b ≡ true → b ≡ false → ⊥
misses b e f = absurd (cc (e, f))

module _ (v : KeyedView) (tables : List (List Codes)) (rows : List Codes) (m : ManagerState) (i : ℕ) (t : Codes) (s : Keeps v tables rows m) (lt : i < length v.keys) (miss : Misses v i t) where
  module _ (new : IsNewAt v tables i t) where
    abbrev grown : List (List Codes)
    grown = set tables i (put_row (get_or v.keys i []) t (get_or tables i []))

    grown_good : AreTables v grown
    grown_good = changed_tables v tables s.good i lt _ (keyed_put (get_or v.keys i []) t (get_or tables i []) (s.good.keyed i lt))

    -- what came is t alone, which misses
    grown_back : (j : ℕ) (u : Codes) → j < length v.keys → Meets v j u → Has u (get_or grown j []) → Has u (get_or tables j [])
    grown_back j u below meets h = elim (cases_eq j i) [
      | inl e ↦ elim (put_only (get_or v.keys i []) t u (get_or tables i []) (subst (λ z. Has u z) (changed_here v tables s.good i lt _) (subst (λ z. Has u (get_or grown z [])) e h))) [
        | inl same ↦ absurd (misses _ (subst (λ z. Meets v z t) e (subst (λ z. Meets v j z) same meets)) miss)
        | inr k ↦ subst (λ z. Has u (get_or tables z [])) (sym e) k
      ]
      | inr ne ↦ subst (λ z. Has u z) (changed_off v tables s.good i lt _ j ne) h
    ]

    pub insertion_missed : Keeps v grown rows m
    insertion_missed = change_unseen v tables grown rows m s grown_good
        (λ j u _ _ h. into v tables s.good i lt _ (λ w h. put_keeps (get_or v.keys i []) t w (get_or tables i []) (new w h) h) j u h)
        grown_back

  module _ (there : Has t (get_or tables i [])) where
    abbrev shrunk : List (List Codes)
    shrunk = set tables i (without_key (get_or v.keys i []) (at_columns (get_or v.keys i []) t) (get_or tables i []))

    shrunk_good : AreTables v shrunk
    shrunk_good = less_good v s.view tables s.good i lt (at_columns (get_or v.keys i []) t)

    -- what went is t alone, which misses
    shrunk_to : (j : ℕ) (u : Codes) → j < length v.keys → Meets v j u → Has u (get_or tables j []) → Has u (get_or shrunk j [])
    shrunk_to j u below meets h = stays v s.view tables s.good i lt (at_columns (get_or v.keys i []) t) j u (λ e same.
        let equal : u ≡ t = same_row (get_or v.keys i []) u t (get_or tables i []) (s.good.keyed i lt) (subst (λ z. Has u (get_or tables z [])) e h) there same in
        misses _ (subst (λ z. Meets v z t) e (subst (λ z. Meets v j z) equal meets)) miss) h

    pub deletion_missed : Keeps v shrunk rows m
    deletion_missed = change_unseen v tables shrunk rows m s shrunk_good shrunk_to
        (λ j u _ _ h. narrower v s.view tables s.good i lt (at_columns (get_or v.keys i []) t) j u h)

pub insertion_unseen : UnconcernedInsertion
insertion_unseen v tables rows m i t s lt new miss = insertion_missed v tables rows m i t s lt miss new

pub deletion_unseen : UnconcernedDeletion
deletion_unseen v tables rows m i t s lt there miss = deletion_missed v tables rows m i t s lt miss there

pub deletion : Deletion
deletion v tables rows m i k s lt = record { view = s.view; good = less_good v s.view tables s.good i lt k; invariant = deletion_stands v s.view tables s.good i lt k rows m s.invariant }

pub insertions : Insertions
insertions v tables rows m number i ts s a asked = record {
  view = s.view;
  good = more_good v s.view tables s.good i a.below ts a.rising a.new (λ t h. meets_is v.base (length v.keys) i t a.below ∙ a.meets t h);
  invariant = insertion_stands v s.view tables s.good i a.below ts a.rising a.new (λ t h. meets_is v.base (length v.keys) i t a.below ∙ a.meets t h) number rows m a.later a.unnamed asked s.invariant;
}

pub all_survive : (v : KeyedView) (ps : List Partial) → unstruck v [] ps ≡ ps
all_survive v [] = refl
all_survive v (p ∷ ps) = ap (λ l. p ∷ l) (all_survive v ps)

pub put_insertions : PutInsertions
put_insertions v columns tables rows m number i ts s a none = record {
  view = s.view;
  good = more_good v s.view tables s.good i a.below ts a.rising a.new (λ t h. meets_is v.base (length v.keys) i t a.below ∙ a.meets t h);
  invariant = stands_of v _ rows (with_put v columns m number i ts)
      (subst (λ ps. Core v (with_tuples v tables i ts) rows (m.actions ++ put_of v columns ps ∷ []) m.queries) (all_survive v (map (seed (length v.keys) i) ts))
      (subst (λ l. Core v (with_tuples v tables i ts) rows (m.actions ++ put_of v columns (unstruck v [] (map (seed (length v.keys) i) ts)) ∷ []) l) (append-nil m.queries)
      (closing_core v s.view _ (more_good v s.view tables s.good i a.below ts a.rising a.new (λ t h. meets_is v.base (length v.keys) i t a.below ∙ a.meets t h)) rows m.actions m.queries [] (new_query v number i ts)
      (insertion_core v s.view tables s.good i a.below ts a.rising a.new (λ t h. meets_is v.base (length v.keys) i t a.below ∙ a.meets t h) number rows m.actions m.queries (core_of v tables rows m s.invariant))
      columns (all_filled v i 1 (let e = ap length none in omega arith)))))
      (record { distinct = s.invariant.numbered.distinct; known = λ q h. let e = s.invariant.numbered.known q h in let l = a.later in omega arith; steps = s.invariant.numbered.steps });
}

names_moved : (before after : List Query) (q : Query) (ps : List Partial) → map name_of (before ++ q ∷ after) ≡ map name_of (before ++ moved_on q ps ∷ after)
names_moved before after q ps = map-append name_of before (q ∷ after) ∙ sym (map-append name_of before (moved_on q ps ∷ after))

pub earlier_answer : EarlierAnswer
earlier_answer v tables rows m before after q s e further = record {
  view = s.view;
  good = s.good;
  invariant = stands_of v tables rows (with_step m before q (answer_to v tables q) after)
      (answer_core v s.view tables s.good rows m.actions before after q (subst (λ l. Core v tables rows m.actions l) e (core_of v tables rows m s.invariant)) step.0 step.1)
      (record {
        distinct = subst (λ l. AreDistinct l) (names_moved before after q (answer_to v tables q)) (subst (λ l. AreDistinct (map name_of l)) e s.invariant.numbered.distinct);
        known = λ r h. elim (mid_cases r (moved_on q (answer_to v tables q)) before after h) [
          | inl same ↦ subst (λ z. z.transaction ≤ m.last) (sym same) (s.invariant.numbered.known q there)
          | inr k ↦ s.invariant.numbered.known r (rest r k)
        ];
        steps = λ r h. elim (mid_cases r (moved_on q (answer_to v tables q)) before after h) [
          | inl same ↦ subst (λ z. (1 ≤ z.step) × (z.step ≤ length (asked_sources v z.origin))) (sym same) (omega arith, omega arith)
          | inr k ↦ s.invariant.numbered.steps r (rest r k)
        ];
      });
}
  where
    there : Has q m.queries
    there = subst (λ l. Has q l) (sym e) (mid_has q before after)

    rest : (r : Query) → Has r (before ++ after) → Has r m.queries
    rest r k = subst (λ l. Has r l) (sym e) (mid_rest r q before after k)

    step : (1 ≤ q.step) × (q.step ≤ length (asked_sources v q.origin))
    step = s.invariant.numbered.steps q there

pub last_answer : LastAnswer
last_answer v columns tables rows m before after q s e last = record {
  view = s.view;
  good = s.good;
  invariant = stands_of v tables rows (with_answer v columns m before q (answer_to v tables q) after)
      (closing_core v s.view tables s.good rows m.actions before after (moved_on q (answer_to v tables q))
      (answer_core v s.view tables s.good rows m.actions before after q (subst (λ l. Core v tables rows m.actions l) e (core_of v tables rows m s.invariant)) step.0 step.1)
      columns (all_filled v q.origin (q.step + 1) (omega arith)))
      (record {
        distinct = subst (λ l. AreDistinct l) (sym (map-append name_of before after)) (distinct_rest (name_of q) (map name_of before) (map name_of after)
            (subst (λ l. AreDistinct l) (map-append name_of before (q ∷ after)) (subst (λ l. AreDistinct (map name_of l)) e s.invariant.numbered.distinct)));
        known = λ r k. s.invariant.numbered.known r (rest r k);
        steps = λ r k. s.invariant.numbered.steps r (rest r k);
      });
}
  where
    rest : (r : Query) → Has r (before ++ after) → Has r m.queries
    rest r k = subst (λ l. Has r l) (sym e) (mid_rest r q before after k)

    step : (1 ≤ q.step) × (q.step ≤ length (asked_sources v q.origin))
    step = s.invariant.numbered.steps q (subst (λ l. Has q l) (sym e) (mid_has q before after))

pub settles : ListMakesValue
settles v tables rows m s keyed none = same_rows v.columns (applied v m.actions rows) (rows_of v.base tables) (keyed_applied v m.actions rows keyed) (value_in_order v s.view tables s.good) s.invariant.listed from
  where
    from : (r : Codes) → Has r (rows_of v.base tables) → Has r (applied v m.actions rows)
    from r h =
        let a = value_choice v.base tables r h in
        elim (s.invariant.covered a.0 a.1.choice_of a.1.meets) [
          | inl g ↦ has_same _ r _ (sym a.1.row) g
          | inr g ↦ absurd (has_none g.query (subst (λ l. Has g.query l) none g.there))
        ]

pub begins : NewManager
begins v tables number is good = record {
  view = is;
  good = good;
  invariant = record {
    listed = λ r h. h;
    chosen = λ q p i t h g e. absurd (has_none q h);
    covered = λ c d m. inl (value_row v.base tables c d m);
    numbered = record { distinct = tt; known = λ q h. absurd (has_none q h); steps = λ q h. absurd (has_none q h) };
    sound = λ q h. absurd (has_none q h);
  };
}

pub renumbers : LaterNumber
renumbers v tables rows m number s later = record {
  view = s.view;
  good = s.good;
  invariant = stands_of v tables rows (record m { last = number }) (core_of v tables rows m s.invariant)
      (record { distinct = s.invariant.numbered.distinct; known = λ q h. let e = s.invariant.numbered.known q h in omega arith; steps = s.invariant.numbered.steps });
}
