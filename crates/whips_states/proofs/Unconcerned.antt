-- A transaction that doesn't concern a view leaves the view's value as it was.
use Rattle.std.proofs.Common.{◌≡◌, ◌≢◌, ◌⊎◌, inl, inr, ℕ, suc, ◌+◌, ◌==◌, ◌&&◌, ◌||◌, Bool, true, false, cond, not, Some, None, List, [], ◌∷◌, ◌++◌, map, get_or, slice_get, refl, sym, ap, ap₂, subst, ◌∙◌, arith, eqb-true, eq-eqb}
use Rattle.std.specs.List.{filter, flat_map, list_all, list_any}
use Rattle.std.specs.Ordering.{match_ordering}
use Rattle.std.specs.declared.cmp.Ordering.{Ordering}
use Rattle.std.specs.declared.cmp.Ordering.TheVariants.{Less, Equal, Greater}
use Rattle.std.proofs.lemmas.Bool.{and_parts, and_from, cases_eq}
use Rattle.std.proofs.lemmas.List.Elements.{filter-append}
use Rattle.whips_model.specs.declared.ColRef.{ColRef}
use Rattle.whips_model.specs.declared.Cond.{Cond}
use Rattle.whips_lists.specs.Members.{Has}
use Rattle.whips_model.specs.Tuples.{Codes, codes_cmp, at_columns, has_key, row_at, put_row, without_key, IsKeyed}
use Rattle.whips_model.specs.Relation.{Table, rows_in, table_rows, value_of}
use Rattle.whips_model.specs.Views.{ViewData, Choice, compares, is_equal, holds, meets, out_row, choices}
use Rattle.whips_lists.proofs.Members.{has_first, has_later}
use Rattle.whips_choices.proofs.Parts.{all_weaker}
use Rattle.whips_choices.proofs.Rows.{same_row, row_found, key_is, key_has, codes_equal}
use Rattle.whips_rel.specs.declared.update.Update.{Update}
use Rattle.whips_rel.specs.declared.update.Update.TheVariants.{Insert, Delete}
use Rattle.whips_states.specs.States.{with_row, without_row, updated, IsValid, AreSoundTables}
use Rattle.whips_lists.specs.Lists.{changed_at}
use Rattle.whips_states.specs.Concerns.{meets_equality, meets_condition, meets_part, meets_from, concerns_update}
use Rattle.whips_states.specs.Laws.{UnconcernedKeeps}
use Rattle.whips_states.proofs.Changed.{changed_same, changed_other, sound_at, update_sound}

-- ---- each tuple of a choice that meets the view meets its part

module _ (c : Choice) (i : ℕ) where
  equality_each : (pair : ColRef × ColRef) → is_equal c pair ≡ true → meets_equality i (get_or c i []) pair ≡ true
  equality_each pair h = go ((pair.0.part == i) && (pair.1.part == i)) refl
    where
      go : (b : Bool) → ((pair.0.part == i) && (pair.1.part == i)) ≡ b → cond b (get_or (get_or c i []) pair.0.col 0 == get_or (get_or c i []) pair.1.col 0) true ≡ true
      go false e = refl
      go true e =
          let both = and_parts (pair.0.part == i) (pair.1.part == i) e in
          let left = eqb-true pair.0.part i both.0 in
          let right = eqb-true pair.1.part i both.1 in
          ap₂ (λ a b. get_or (get_or c a []) pair.0.col 0 == get_or (get_or c b []) pair.1.col 0) (sym left) (sym right) ∙ h

  condition_each : (d : Cond) → holds c d ≡ true → meets_condition i (get_or c i []) d ≡ true
  condition_each d h = go (d.at.part == i) refl
    where
      go : (b : Bool) → (d.at.part == i) ≡ b → cond b (compares d.cmp (get_or (get_or c i []) d.at.col 0) d.code) true ≡ true
      go false e = refl
      go true e = ap (λ a. compares d.cmp (get_or (get_or c a []) d.at.col 0) d.code) (sym (eqb-true d.at.part i e)) ∙ h

  pub part_met : (view : ViewData) → meets view c ≡ true → meets_part view i (get_or c i []) ≡ true
  part_met view h =
      let both = and_parts (list_all (is_equal c) view.equal) (list_all (holds c) view.conds) h in
      and_from (list_all (meets_equality i (get_or c i [])) view.equal) (list_all (meets_condition i (get_or c i [])) view.conds)
      (all_weaker (is_equal c) (meets_equality i (get_or c i [])) view.equal (λ pair _ k. equality_each pair k) both.0)
      (all_weaker (holds c) (meets_condition i (get_or c i [])) view.conds (λ d _ k. condition_each d k) both.1)

-- ---- only the tuples that meet their part matter

module _ (q : ℕ → Codes → Bool) where
  abbrev pub kept_from : ℕ → List (List Codes) → List (List Codes)
  kept_from part [] = []
  kept_from part (rows ∷ tables) = filter (q part) rows ∷ kept_from (suc part) tables

  abbrev pub Asks : (Choice → Bool) → ℕ → Type 0
  Asks p part = (c : Choice) (i : ℕ) → p c ≡ true → q (part + i) (get_or c i []) ≡ true

  filter_map : (p : Choice → Bool) (t : Codes) (cs : List Choice) → filter p (map (λ c. t ∷ c) cs) ≡ map (λ c. t ∷ c) (filter (λ c. p (t ∷ c)) cs)
  filter_map p t [] = refl
  filter_map p t (c ∷ cs) = elim (p (t ∷ c)) as (λ b. cond b ((t ∷ c) ∷ filter p (map (λ c. t ∷ c) cs)) (filter p (map (λ c. t ∷ c) cs)) ≡ map (λ c. t ∷ c) (cond b (c ∷ filter (λ c. p (t ∷ c)) cs) (filter (λ c. p (t ∷ c)) cs))) [
    | true ↦ ap (λ l. (t ∷ c) ∷ l) (filter_map p t cs)
    | false ↦ filter_map p t cs
  ]

  filter_none : (p : Choice → Bool) (t : Codes) (cs : List Choice) → ((c : Choice) → p (t ∷ c) ≡ false) → filter p (map (λ c. t ∷ c) cs) ≡ []
  filter_none p t [] h = refl
  filter_none p t (c ∷ cs) h = ap (λ b. cond b ((t ∷ c) ∷ filter p (map (λ c. t ∷ c) cs)) (filter p (map (λ c. t ∷ c) cs))) (h c) ∙ filter_none p t cs h

  pub kept_same : (part : ℕ) (p : Choice → Bool) (tables : List (List Codes)) → Asks p part → filter p (choices tables) ≡ filter p (choices (kept_from part tables))
  kept_same part p [] h = refl
  kept_same part p (rows ∷ tables) h = each rows (λ t a. kept_same (suc part) (λ c. p (t ∷ c)) tables a)
    where
      later : (t : Codes) → Asks (λ c. p (t ∷ c)) (suc part)
      later t c i e = let same : part + suc i ≡ suc part + i = omega arith in subst (λ z. q z (get_or c i []) ≡ true) same (h (t ∷ c) (suc i) e)

      fails : (t : Codes) → q part t ≡ false → (c : Choice) → p (t ∷ c) ≡ false
      fails t no_part c = go (p (t ∷ c)) refl
        where
          go : (b : Bool) → p (t ∷ c) ≡ b → b ≡ false
          go false e = refl
          go true e = let same : part + 0 ≡ part = omega arith in let k = subst (λ z. q z t ≡ true) same (h (t ∷ c) 0 e) in absurd (cc)

      each : (ts : List Codes) → ((t : Codes) → Asks (λ c. p (t ∷ c)) (suc part) → filter (λ c. p (t ∷ c)) (choices tables) ≡ filter (λ c. p (t ∷ c)) (choices (kept_from (suc part) tables)))
          → filter p (flat_map (λ t. map (λ c. t ∷ c) (choices tables)) ts) ≡ filter p (flat_map (λ t. map (λ c. t ∷ c) (choices (kept_from (suc part) tables))) (filter (q part) ts))
      each [] ih = refl
      each (t ∷ ts) ih = filter-append p (map (λ c. t ∷ c) (choices tables)) (flat_map (λ t. map (λ c. t ∷ c) (choices tables)) ts) ∙ go (q part t) refl (each ts ih)
        where
          go : (b : Bool) → q part t ≡ b → filter p (flat_map (λ t. map (λ c. t ∷ c) (choices tables)) ts) ≡ filter p (flat_map (λ t. map (λ c. t ∷ c) (choices (kept_from (suc part) tables))) (filter (q part) ts))
              → filter p (map (λ c. t ∷ c) (choices tables)) ++ filter p (flat_map (λ t. map (λ c. t ∷ c) (choices tables)) ts)
              ≡ filter p (flat_map (λ t. map (λ c. t ∷ c) (choices (kept_from (suc part) tables))) (cond b (t ∷ filter (q part) ts) (filter (q part) ts)))
          go true e rest =
              ap₂ (λ a b. a ++ b) (filter_map p t (choices tables) ∙ ap (λ l. map (λ c. t ∷ c) l) (ih t (later t)) ∙ sym (filter_map p t (choices (kept_from (suc part) tables)))) rest
              ∙ sym (filter-append p (map (λ c. t ∷ c) (choices (kept_from (suc part) tables))) (flat_map (λ t. map (λ c. t ∷ c) (choices (kept_from (suc part) tables))) (filter (q part) ts)))
          go false e rest = ap (λ l. l ++ filter p (flat_map (λ t. map (λ c. t ∷ c) (choices tables)) ts)) (filter_none p t (choices tables) (fails t e)) ∙ rest

-- the value depends on the tuples that meet their parts alone
pub value_kept : (view : ViewData) (tables others : List (List Codes)) → kept_from (meets_part view) 0 tables ≡ kept_from (meets_part view) 0 others → filter (meets view) (choices tables) ≡ filter (meets view) (choices others)
value_kept view tables others same =
    kept_same (meets_part view) 0 (meets view) tables asks ∙ ap (λ l. filter (meets view) (choices l)) same ∙ sym (kept_same (meets_part view) 0 (meets view) others asks)
  where
    asks : Asks (meets_part view) (meets view) 0
    asks c i e = let same : i ≡ 0 + i = omega arith in subst (λ z. meets_part view z (get_or c i []) ≡ true) same (part_met c i view e)

-- ---- rows that lose or gain a tuple that doesn't pass

module _ (q : Codes → Bool) (cols : List ℕ) (t : Codes) (fails : q t ≡ false) where
  put_unseen : (rows : List Codes) → row_at cols (at_columns cols t) rows ≡ None → filter q (put_row cols t rows) ≡ filter q rows
  put_unseen [] e = ap (λ b. cond b (t ∷ []) []) fails
  put_unseen (u ∷ rows) e = go (λ g. put_unseen rows g) (has_key cols (at_columns cols t) u) refl e
    where
      go : (row_at cols (at_columns cols t) rows ≡ None → filter q (put_row cols t rows) ≡ filter q rows) → (b : Bool) → has_key cols (at_columns cols t) u ≡ b → cond b (Some u) (row_at cols (at_columns cols t) rows) ≡ None → filter q (put_row cols t (u ∷ rows)) ≡ filter q (u ∷ rows)
      go ih true h g = absurd (cc)
      go ih false h g = by_order (codes_cmp (at_columns cols t) (at_columns cols u)) refl
        where
          by_order : (o : Ordering) → codes_cmp (at_columns cols t) (at_columns cols u) ≡ o → filter q (match_ordering o (t ∷ u ∷ rows) (t ∷ rows) (u ∷ put_row cols t rows)) ≡ filter q (u ∷ rows)
          by_order Less o = ap (λ b. cond b (t ∷ filter q (u ∷ rows)) (filter q (u ∷ rows))) fails
          by_order Equal o = let k = key_has cols (at_columns cols t) u (sym (codes_equal (at_columns cols t) (at_columns cols u) o)) in absurd (cc (k, h))
          by_order Greater o = ap (λ l. cond (q u) (u ∷ l) l) (ih g)

  without_unseen : (rows : List Codes) → ((u : Codes) → Has u rows → has_key cols (at_columns cols t) u ≡ true → q u ≡ false) → filter q (without_key cols (at_columns cols t) rows) ≡ filter q rows
  without_unseen [] h = refl
  without_unseen (u ∷ rows) h = go (has_key cols (at_columns cols t) u) refl (without_unseen rows (λ w k. h w (has_later w u rows k)))
    where
      go : (b : Bool) → has_key cols (at_columns cols t) u ≡ b → filter q (without_key cols (at_columns cols t) rows) ≡ filter q rows
          → filter q (cond (not b) (u ∷ without_key cols (at_columns cols t) rows) (without_key cols (at_columns cols t) rows)) ≡ filter q (u ∷ rows)
      go true e ih = ih ∙ sym (ap (λ b. cond b (u ∷ filter q rows) (filter q rows)) (h u (has_first u rows) e))
      go false e ih = ap (λ l. cond (q u) (u ∷ l) l) ih

  gone_unseen : (rows : List Codes) → IsKeyed cols rows → row_at cols (at_columns cols t) rows ≡ Some t → filter q (without_key cols (at_columns cols t) rows) ≡ filter q rows
  gone_unseen rows keyed e = without_unseen rows (λ u h k.
      let found = row_found cols (at_columns cols t) t rows e in
      let same : u ≡ t = same_row cols u t rows keyed h found.0 (key_is cols (at_columns cols t) u k) in
      ap q same ∙ fails)

-- ---- an update that doesn't concern the view

or_false : (a b : Bool) → (a || b) ≡ false → (a ≡ false) × (b ≡ false)
or_false true b e = absurd (cc)
or_false false b e = (refl, e)

module _ (view : ViewData) (r : ℕ) (t : Codes) (db others : List Table)
    (off : (s : ℕ) → s ≢ r → slice_get others s ≡ slice_get db s)
    (unseen : (part : ℕ) → meets_part view part t ≡ false → filter (meets_part view part) (table_rows others r) ≡ filter (meets_part view part) (table_rows db r)) where
  parts_kept : (part : ℕ) (relations : List ℕ) → meets_from view part relations r t ≡ false
      → kept_from (meets_part view) part (map (table_rows others) relations) ≡ kept_from (meets_part view) part (map (table_rows db) relations)
  parts_kept part [] e = refl
  parts_kept part (s ∷ relations) e =
      let both = or_false ((s == r) && meets_part view part t) (meets_from view (suc part) relations r t) e in
      ap₂ (λ a l. a ∷ l) (first (cases_eq s r) both.0) (parts_kept (suc part) relations both.1)
    where
      first : (s ≡ r) ⊎ (s ≢ r) → ((s == r) && meets_part view part t) ≡ false → filter (meets_part view part) (table_rows others s) ≡ filter (meets_part view part) (table_rows db s)
      first (inl same) e = subst (λ z. filter (meets_part view part) (table_rows others z) ≡ filter (meets_part view part) (table_rows db z)) (sym same) (unseen part (sym (ap (λ b. b && meets_part view part t) (eq-eqb s r same)) ∙ e))
      first (inr ne) e = ap (λ o. filter (meets_part view part) (rows_in o)) (off s ne)

  value_same : meets_from view 0 view.relations r t ≡ false → value_of view others ≡ value_of view db
  value_same e = ap (map (out_row view)) (value_kept view (map (table_rows others) view.relations) (map (table_rows db) view.relations) (parts_kept 0 view.relations e))

pub update_keeps : (view : ViewData) (db : List Table) (u : Update) → AreSoundTables db → IsValid db u → concerns_update view u ≡ false → value_of view (updated db u) ≡ value_of view db
update_keeps view db (Insert r t) sound v e = value_same view r t db (changed_at r (with_row t) db) (λ s ne. changed_other (with_row t) db r s ne)
    (λ part fails.
    ap (λ o. filter (meets_part view part) (rows_in o)) (changed_same (with_row t) db r v.table v.there)
    ∙ put_unseen (meets_part view part) v.table.columns.key t fails v.table.rows v.valid.1
    ∙ ap (λ o. filter (meets_part view part) (rows_in o)) (sym v.there))
    e
update_keeps view db (Delete r t) sound v e = value_same view r t db (changed_at r (without_row t) db) (λ s ne. changed_other (without_row t) db r s ne)
    (λ part fails.
    ap (λ o. filter (meets_part view part) (rows_in o)) (changed_same (without_row t) db r v.table v.there)
    ∙ gone_unseen (meets_part view part) v.table.columns.key t fails v.table.rows (sound_at db r v.table sound v.there).keyed v.valid.1
    ∙ ap (λ o. filter (meets_part view part) (rows_in o)) (sym v.there))
    e

pub transaction_keeps : UnconcernedKeeps
transaction_keeps view db [] sound v e = refl
transaction_keeps view db (u ∷ t) sound v e =
    let both = or_false (concerns_update view u) (list_any (concerns_update view) t) e in
    transaction_keeps view (updated db u) t (update_sound db u sound v.0) v.1 both.1 ∙ update_keeps view db u sound v.0 both.0
