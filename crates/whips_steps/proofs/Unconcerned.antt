-- A tuple that doesn't meet its part is in no answer, and an answer looks at the relations of its parts alone.
use Rattle.std.proofs.Common.{◌≡◌, ◌≢◌, ◌⊎◌, inl, inr, ℕ, zero, suc, ◌+◌, ◌<◌, ◌≤◌, ◌==◌, ◌&&◌, ◌||◌, not, Bool, true, false, cond, Some, List, [], ◌∷◌, ◌++◌, length, map, get_or, slice_get, slice_index, refl, sym, ap, ap₂, subst, ◌∙◌, arith, eq-eqb}
use Rattle.std.specs.List.{filter, list_any}
use Rattle.std.specs.Ordering.{match_ordering}
use Rattle.std.specs.declared.cmp.Ordering.{Ordering}
use Rattle.std.specs.declared.cmp.Ordering.TheVariants.{Less, Equal, Greater}
use Rattle.std.proofs.lemmas.Bool.{cases_eq}
use Rattle.std.proofs.lemmas.List.{length-set}
use Rattle.whips_model.specs.Tuples.{Codes, codes_cmp, at_columns, has_key, put_row, without_key}
use Rattle.whips_model.specs.Relation.{Table, rows_in, table_rows}
use Rattle.whips_model.specs.Views.{ViewData}
use Rattle.whips_lists.specs.Members.{Has}
use Rattle.whips_lists.proofs.Members.{has_first, has_later}
use Rattle.whips_choices.specs.Partials.{Partial, seed, meets_on, with_tuple, extended_at, extended}
use Rattle.whips_choices.proofs.Rows.{codes_equal, key_is, same_row, row_found, row_missing}
use Rattle.whips_choices.proofs.Parts.{slot_set_same, seed_below, below_meets, extended_from}
use Rattle.whips_rel.specs.declared.update.Update.{Update}
use Rattle.whips_rel.specs.declared.update.Update.TheVariants.{Insert, Delete}
use Rattle.whips_states.specs.States.{with_row, without_row, updated, IsValid, AreSoundTables}
use Rattle.whips_lists.specs.Lists.{changed_at}
use Rattle.whips_states.specs.Concerns.{meets_part, meets_from, concerns_update}
use Rattle.whips_states.proofs.Changed.{changed_same, changed_other, sound_at, update_sound}
use Rattle.whips_trans_laws.proofs.Alone.{meets_is}
use Rattle.whips_steps.specs.Answers.{tables_of, AreWide}
use Rattle.whips_steps.specs.Laws.{UnconcernedAnswer, AnswerAtParts}

-- ---- rows that gain or lose a tuple that doesn't pass

module _ {X : Type 0} (test : X → Bool) (f : Codes → X) (cols : List ℕ) where
  filter_put : (t : Codes) (rows : List Codes) → test (f t) ≡ false → ((u : Codes) → Has u rows → at_columns cols u ≢ at_columns cols t) → filter test (map f (put_row cols t rows)) ≡ filter test (map f rows)
  filter_put t [] miss new = ap (λ b. cond b (f t ∷ []) []) miss
  filter_put t (u ∷ rows) miss new = go (filter_put t rows miss (λ w h. new w (has_later w u rows h))) (codes_cmp (at_columns cols t) (at_columns cols u)) refl
    where
      go : filter test (map f (put_row cols t rows)) ≡ filter test (map f rows) → (o : Ordering) → codes_cmp (at_columns cols t) (at_columns cols u) ≡ o → filter test (map f (match_ordering o (t ∷ u ∷ rows) (t ∷ rows) (u ∷ put_row cols t rows))) ≡ filter test (map f (u ∷ rows))
      go ih Less e = ap (λ b. cond b (f t ∷ filter test (map f (u ∷ rows))) (filter test (map f (u ∷ rows)))) miss
      go ih Equal e = absurd (new u (has_first u rows) (sym (codes_equal (at_columns cols t) (at_columns cols u) e)))
      go ih Greater e = ap (λ l. cond (test (f u)) (f u ∷ l) l) ih

  filter_without : (k : Codes) (rows : List Codes) → ((u : Codes) → Has u rows → at_columns cols u ≡ k → test (f u) ≡ false) → filter test (map f (without_key cols k rows)) ≡ filter test (map f rows)
  filter_without k [] miss = refl
  filter_without k (u ∷ rows) miss = go (filter_without k rows (λ w h. miss w (has_later w u rows h))) (has_key cols k u) refl
    where
      go : filter test (map f (without_key cols k rows)) ≡ filter test (map f rows) → (b : Bool) → has_key cols k u ≡ b → filter test (map f (cond (not b) (u ∷ without_key cols k rows) (without_key cols k rows))) ≡ filter test (map f (u ∷ rows))
      go ih true e = ih ∙ ap (λ b. cond b (f u ∷ filter test (map f rows)) (filter test (map f rows))) (sym (miss u (has_first u rows) (key_is cols k u e)))
      go ih false e = ap (λ l. cond (test (f u)) (f u ∷ l) l) ih

-- ---- one part

pub wide_on : (n : ℕ) (view : ViewData) (part : ℕ) (rows : List Codes) (ps : List Partial) → AreWide n ps → AreWide n (extended_at view part rows ps)
wide_on n view part rows ps wide q h = let a = extended_from view part rows ps q h in ap length a.is ∙ length-set a.partial part (Some a.tuple) ∙ wide a.partial a.there

module _ (view : ViewData) (n part : ℕ) (lt : part < n) (t : Codes) (miss : meets_part view part t ≡ false) where
  missed : (p : Partial) → length p ≡ n → meets_on view (with_tuple p part t) ≡ false
  missed p w = go (meets_on view (with_tuple p part t)) refl
    where
      go : (b : Bool) → meets_on view (with_tuple p part t) ≡ b → b ≡ false
      go true e =
          let a = below_meets (seed n part t) (with_tuple p part t) (seed_below n part t (with_tuple p part t) lt (slot_set_same p part t (omega arith))) view e in
          let b = meets_is view n part t lt in
          absurd (cc (a, b, miss))
      go false e = refl

  at_put : (cols : List ℕ) (rows : List Codes) (ps : List Partial) → ((u : Codes) → Has u rows → at_columns cols u ≢ at_columns cols t) → AreWide n ps → extended_at view part (put_row cols t rows) ps ≡ extended_at view part rows ps
  at_put cols rows [] new wide = refl
  at_put cols rows (p ∷ ps) new wide = ap₂ (λ a b. a ++ b) (filter_put (meets_on view) (λ t. with_tuple p part t) cols t rows (missed p (wide p (has_first p ps))) new) (at_put cols rows ps new (λ q h. wide q (has_later q p ps h)))

  at_without : (cols : List ℕ) (rows : List Codes) (ps : List Partial) → ((u : Codes) → Has u rows → at_columns cols u ≡ at_columns cols t → u ≡ t) → AreWide n ps → extended_at view part (without_key cols (at_columns cols t) rows) ps ≡ extended_at view part rows ps
  at_without cols rows [] one wide = refl
  at_without cols rows (p ∷ ps) one wide = ap₂ (λ a b. a ++ b)
      (filter_without (meets_on view) (λ t. with_tuple p part t) cols (at_columns cols t) rows (λ u h e. ap (λ z. meets_on view (with_tuple p part z)) (one u h e) ∙ missed p (wide p (has_first p ps))))
      (at_without cols rows ps one (λ q h. wide q (has_later q p ps h)))

-- ---- all parts

or_false : (a b : Bool) → (a || b) ≡ false → (a ≡ false) × (b ≡ false)
or_false true b e = absurd (cc)
or_false false b e = (refl, e)

module _ (view : ViewData) (n r : ℕ) (t : Codes) (db others : List Table)
    (off : (s : ℕ) → s ≢ r → slice_get others s ≡ slice_get db s)
    (unseen : (part : ℕ) (ps : List Partial) → part < n → meets_part view part t ≡ false → AreWide n ps → extended_at view part (table_rows others r) ps ≡ extended_at view part (table_rows db r) ps) where
  part_same : (part : ℕ) (relations : List ℕ) → part + length relations ≤ n → meets_from view part relations r t ≡ false → (i : ℕ) (ps : List Partial) → AreWide n ps
      → extended_at view (part + i) (get_or (map (table_rows others) relations) i []) ps ≡ extended_at view (part + i) (get_or (map (table_rows db) relations) i []) ps
  part_same part [] low e i ps wide = refl
  part_same part (s ∷ relations) low e zero ps wide =
      let same : part ≡ part + 0 = omega arith in
      subst (λ z. extended_at view z (table_rows others s) ps ≡ extended_at view z (table_rows db s) ps) same (first (cases_eq s r) (or_false ((s == r) && meets_part view part t) (meets_from view (suc part) relations r t) e).0)
    where
      first : (s ≡ r) ⊎ (s ≢ r) → ((s == r) && meets_part view part t) ≡ false → extended_at view part (table_rows others s) ps ≡ extended_at view part (table_rows db s) ps
      first (inl same) e = subst (λ z. extended_at view part (table_rows others z) ps ≡ extended_at view part (table_rows db z) ps) (sym same) (unseen part ps (omega arith) (sym (ap (λ b. b && meets_part view part t) (eq-eqb s r same)) ∙ e) wide)
      first (inr ne) e = ap (λ o. extended_at view part (rows_in o) ps) (off s ne)
  part_same part (s ∷ relations) low e (suc i) ps wide =
      let same : suc part + i ≡ part + suc i = omega arith in
      subst (λ z. extended_at view z (get_or (map (table_rows others) relations) i []) ps ≡ extended_at view z (get_or (map (table_rows db) relations) i []) ps) same
      (part_same (suc part) relations (omega arith) (or_false ((s == r) && meets_part view part t) (meets_from view (suc part) relations r t) e).1 i ps wide)

-- one part after another
module _ (view : ViewData) (n : ℕ) (T U : List (List Codes)) (same : (i : ℕ) (ps : List Partial) → AreWide n ps → extended_at view i (get_or U i []) ps ≡ extended_at view i (get_or T i []) ps) where
  each : (parts : List ℕ) (ps : List Partial) → AreWide n ps → extended view U parts ps ≡ extended view T parts ps
  each [] ps wide = refl
  each (i ∷ parts) ps wide = ap (extended view U parts) (same i ps wide) ∙ each parts (extended_at view i (get_or T i []) ps) (wide_on n view i (get_or T i []) ps wide)

update_same : (view : ViewData) (db : List Table) (u : Update) → AreSoundTables db → IsValid db u → concerns_update view u ≡ false → (parts : List ℕ) (ps : List Partial) → AreWide (length view.relations) ps
    → extended view (tables_of view (updated db u)) parts ps ≡ extended view (tables_of view db) parts ps
update_same view db (Insert r t) sound v e = each view (length view.relations) (tables_of view db) (tables_of view (changed_at r (with_row t) db)) (λ i ps wide.
    let none : 0 + i ≡ i = omega arith in
    subst (λ z. extended_at view z (get_or (tables_of view (changed_at r (with_row t) db)) i []) ps ≡ extended_at view z (get_or (tables_of view db) i []) ps) none
    (part_same view (length view.relations) r t db (changed_at r (with_row t) db) (λ s ne. changed_other (with_row t) db r s ne)
    (λ part ps lt miss wide.
    ap (λ o. extended_at view part (rows_in o) ps) (changed_same (with_row t) db r v.table v.there)
    ∙ at_put view (length view.relations) part lt t miss v.table.columns.key v.table.rows ps (λ u h. row_missing v.table.columns.key (at_columns v.table.columns.key t) u v.table.rows v.valid.1 h) wide
    ∙ ap (λ o. extended_at view part (rows_in o) ps) (sym v.there))
    0 view.relations (omega arith) e i ps wide))
update_same view db (Delete r t) sound v e = each view (length view.relations) (tables_of view db) (tables_of view (changed_at r (without_row t) db)) (λ i ps wide.
    let none : 0 + i ≡ i = omega arith in
    subst (λ z. extended_at view z (get_or (tables_of view (changed_at r (without_row t) db)) i []) ps ≡ extended_at view z (get_or (tables_of view db) i []) ps) none
    (part_same view (length view.relations) r t db (changed_at r (without_row t) db) (λ s ne. changed_other (without_row t) db r s ne)
    (λ part ps lt miss wide.
    ap (λ o. extended_at view part (rows_in o) ps) (changed_same (without_row t) db r v.table v.there)
    ∙ at_without view (length view.relations) part lt t miss v.table.columns.key v.table.rows ps
    (λ u h same. same_row v.table.columns.key u t v.table.rows (sound_at db r v.table sound v.there).keyed h (row_found v.table.columns.key (at_columns v.table.columns.key t) t v.table.rows v.valid.1).0 same) wide
    ∙ ap (λ o. extended_at view part (rows_in o) ps) (sym v.there))
    0 view.relations (omega arith) e i ps wide))

pub same_answer : UnconcernedAnswer
same_answer view db [] parts ps sound v e wide = refl
same_answer view db (u ∷ t) parts ps sound v e wide =
    let both = or_false (concerns_update view u) (list_any (concerns_update view) t) e in
    same_answer view (updated db u) t parts ps (update_sound db u sound v.0) v.1 both.1 wide ∙ update_same view db u sound v.0 both.0 parts ps wide

-- ---- the relations of the asked parts

pub answer_is : AnswerAtParts
answer_is view db others [] ps same = refl
answer_is view db others (part ∷ parts) ps same =
    answer_is view db others parts (extended_at view part (get_or (tables_of view db) part []) ps) (λ i h. same i (has_later i part parts h))
    ∙ ap (λ l. extended view (tables_of view others) parts (extended_at view part l ps)) (at_part view.relations part (same part (has_first part parts)))
  where
    at_part : (relations : List ℕ) (i : ℕ) → table_rows db (slice_index relations i) ≡ table_rows others (slice_index relations i) → get_or (map (table_rows db) relations) i [] ≡ get_or (map (table_rows others) relations) i []
    at_part [] i e = refl
    at_part (r ∷ relations) zero e = e
    at_part (r ∷ relations) (suc i) e = at_part relations i e
