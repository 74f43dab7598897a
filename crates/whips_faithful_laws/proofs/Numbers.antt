-- A view's value has no number above the greatest where its relations have none.
--
-- Each code of a row is that of a column of a relation, and the row's column has that column's kind (`each_within`).
use Rattle.std.proofs.Common.{◌≡◌, ℕ, zero, suc, ◌<◌, true, false, Bool, cond, Option, Some, None, is_some, List, [], ◌∷◌, length, map, get_or, slice_get, refl, sym, ap, subst, ◌∙◌, arith}
use Rattle.std.specs.Prelude.{◌&&◌, ◌==◌, nat_le, nat_lt, slice_index}
use Rattle.std.specs.List.{AllByRecursion, list_all}
use Rattle.std.specs.Option.{unwrap_or}
use Rattle.std.proofs.lemmas.Bool.{and_parts}
use Rattle.whips_model.specs.declared.Kind.{Kind}
use Rattle.whips_model.specs.declared.Kind.TheVariants.{Number, Text}
use Rattle.whips_model.specs.declared.ColRef.{ColRef}
use Rattle.whips_model.specs.Tuples.{Codes, Columns}
use Rattle.whips_model.specs.Relation.{Table, rows_in, table_rows, value_of}
use Rattle.whips_model.specs.Views.{Choice, code_at}
use Rattle.whips_lists.specs.Members.{Has}
use Rattle.whips_lists.proofs.Members.{all_has, all_from_has, has_first, has_later}
use Rattle.whips_choices.specs.KeyedViews.{IsChoiceOf}
use Rattle.whips_choices.proofs.Values.{value_choice}
use Rattle.whips_view.specs.ViewDefs.{View, kinds_in, kind_of, row_columns, columns_in, HasBases, IsWellFormed, is_within}
use Rattle.whips_setup.specs.declared.error.SetupErr.{SetupErr}
use Rattle.whips_setup.specs.declared.error.SetupErr.TheVariants.{Limit}
use Rattle.whips_setup.specs.Setups.{SetupData, columns_of}
use Rattle.whips_setup.specs.Limits.{has_numbers_within, is_schema, are_same_columns, are_initial, have_relations, are_sources_within, are_views_within, is_within_limits}
use Rattle.whips_setup.specs.Refusals.{IsSetup, slots_refusal}
use Rattle.whips_store.specs.Calls.{AreRowsWithin}

-- ---- the codes of a row

within_at : (kinds : List Kind) (t : Codes) (i : ℕ) → has_numbers_within kinds t ≡ true → slice_get kinds i ≡ Some Number → nat_le (slice_index t i) 999999999999 ≡ true
within_at [] t i h e = absurd (cc)
within_at (k ∷ kinds) [] i h e = refl
within_at (Number ∷ kinds) (code ∷ t) zero h e = (and_parts (nat_le code 999999999999) (has_numbers_within kinds t) h).0
within_at (Text ∷ kinds) (code ∷ t) zero h e = absurd (cc)
within_at (Number ∷ kinds) (code ∷ t) (suc i) h e = within_at kinds t i (and_parts (nat_le code 999999999999) (has_numbers_within kinds t) h).1 e
within_at (Text ∷ kinds) (code ∷ t) (suc i) h e = within_at kinds t i h e

out_within : (kind : ColRef → Kind) (code : ColRef → ℕ) (out : List ColRef) → ((at : ColRef) → Has at out → kind at ≡ Number → nat_le (code at) 999999999999 ≡ true) → has_numbers_within (map kind out) (map code out) ≡ true
out_within kind code [] h = refl
out_within kind code (at ∷ out) h = go (kind at) refl (out_within kind code out (λ a g. h a (has_later a at out g)))
  where
    go : (k : Kind) → kind at ≡ k → has_numbers_within (map kind out) (map code out) ≡ true → has_numbers_within (k ∷ map kind out) (code at ∷ map code out) ≡ true
    go Number e rest = ap (λ b. b && has_numbers_within (map kind out) (map code out)) (h at (has_first at out) e) ∙ rest
    go Text e rest = rest

number_there : (o : Option Kind) → is_some o ≡ true → unwrap_or o Number ≡ Number → o ≡ Some Number
number_there None h e = absurd (cc)
number_there (Some k) h e = ap Some e

-- ---- the relations

abbrev pub AreTablesWithin : List Table → Type 0
AreTablesWithin db = AllByRecursion (λ (t : Table). AreRowsWithin t.columns.kinds t.rows) db

table_within : (db : List Table) (r : ℕ) (table : Table) → AreTablesWithin db → slice_get db r ≡ Some table → AreRowsWithin table.columns.kinds table.rows
table_within [] r table h e = absurd (cc)
table_within (t ∷ db) zero table h e = let same : t ≡ table = cc in subst (λ (z : Table). AreRowsWithin z.columns.kinds z.rows) same h.0
table_within (t ∷ db) (suc r) table h e = table_within db r table h.1 e

module _ (db : List Table) (within : AreTablesWithin db) where
  relation_within : (r : ℕ) (columns : Columns) → columns_in (slice_get db r) ≡ Some columns → AreRowsWithin columns.kinds (table_rows db r)
  relation_within r columns e = go (slice_get db r) refl e
    where
      go : (o : Option Table) → slice_get db r ≡ o → columns_in o ≡ Some columns → AreRowsWithin columns.kinds (rows_in o)
      go None s g = absurd (cc)
      go (Some table) s g = let same : table.columns ≡ columns = cc in subst (λ (z : Columns). AreRowsWithin z.kinds table.rows) same (table_within db r table within s)

  part_within : (relations : List ℕ) (bases : List Columns) → map (λ r. columns_in (slice_get db r)) relations ≡ map (λ b. Some b) bases → (i : ℕ) (columns : Columns) → slice_get bases i ≡ Some columns
      → (i < length (map (table_rows db) relations)) × AreRowsWithin columns.kinds (get_or (map (table_rows db) relations) i [])
  part_within relations [] e i columns at = absurd (cc)
  part_within [] (b ∷ bases) e i columns at = absurd (cc)
  part_within (r ∷ relations) (b ∷ bases) e zero columns at =
      let first : columns_in (slice_get db r) ≡ Some b = cc in
      let same : b ≡ columns = cc in
      (omega arith, subst (λ (z : Columns). AreRowsWithin z.kinds (table_rows db r)) same (relation_within r b first))
  part_within (r ∷ relations) (b ∷ bases) e (suc i) columns at =
      let rest : map (λ r. columns_in (slice_get db r)) relations ≡ map (λ b. Some b) bases = cc in
      let more = part_within relations bases rest i columns at in (omega (arith, more.0), more.1)

  module _ (view : View) (well : IsWellFormed view) (has : HasBases view db) where
    each_within : (c : Choice) → IsChoiceOf (map (table_rows db) view.parts.relations) c → (at : ColRef) → Has at view.parts.out → unwrap_or (kind_of view.bases at) Number ≡ Number → nat_le (code_at c at) 999999999999 ≡ true
    each_within c choice at there number = go (slice_get view.bases at.part) refl (well.out at there) number
      where
        go : (o : Option Columns) → slice_get view.bases at.part ≡ o → is_some (slice_get (kinds_in o) at.col) ≡ true → unwrap_or (slice_get (kinds_in o) at.col) Number ≡ Number → nat_le (code_at c at) 999999999999 ≡ true
        go None s h e = absurd (cc)
        go (Some columns) s h e =
            let part = part_within view.parts.relations view.bases has at.part columns s in
            let row = all_has (λ t. has_numbers_within columns.kinds t ≡ true) (get_or (map (table_rows db) view.parts.relations) at.part []) part.1 (get_or c at.part []) (choice.at at.part part.0) in
            within_at columns.kinds (get_or c at.part []) at.col row (number_there (slice_get columns.kinds at.col) h e)

    pub value_within : AreRowsWithin (row_columns view).kinds (value_of view.parts db)
    value_within = all_from_has (λ t. has_numbers_within (row_columns view).kinds t ≡ true) (value_of view.parts db) (λ t h.
        let from = value_choice view.parts (map (table_rows db) view.parts.relations) t h in
        subst (λ z. has_numbers_within (row_columns view).kinds z ≡ true) (sym from.1.row)
        (out_within (λ at. unwrap_or (kind_of view.bases at) Number) (code_at from.0) view.parts.out (each_within from.0 from.1.choice_of)))

-- ---- a setup

passed : (b : Bool) (rest : Option SetupErr) (e : SetupErr) → cond b rest (Some e) ≡ None → b ≡ true
passed true rest e h = refl
passed false rest e h = absurd (cc)

all_pass : (kinds : List Kind) (rows : List Codes) → list_all (has_numbers_within kinds) rows ≡ true → AreRowsWithin kinds rows
all_pass kinds [] e = tt
all_pass kinds (t ∷ rows) e = let both = and_parts (has_numbers_within kinds t) (list_all (has_numbers_within kinds) rows) e in (both.0, all_pass kinds rows both.1)

initial_within : (schemas : List Columns) (db : List Table) → are_initial schemas db ≡ true → AreTablesWithin db
initial_within schemas [] e = tt
initial_within [] (t ∷ db) e = absurd (cc)
initial_within (schema ∷ schemas) (t ∷ db) e =
    let both = and_parts (is_schema schema && are_same_columns t.columns schema && nat_le (length t.rows) 4096 && list_all (has_numbers_within t.columns.kinds) t.rows) (are_initial schemas db) e in
    let own = and_parts (is_schema schema && are_same_columns t.columns schema && nat_le (length t.rows) 4096) (list_all (has_numbers_within t.columns.kinds) t.rows) both.0 in
    (all_pass t.columns.kinds t.rows own.1, initial_within schemas db both.1)

pub setup_within : (s : SetupData) → IsSetup s → AreTablesWithin s.initial
setup_within s h =
    let limits = passed (is_within_limits (columns_of s) s) (slots_refusal 0 s.initial s.views s.slots) Limit h.accepted in
    let sources = and_parts (are_sources_within s.sources s.homes (columns_of s) s.initial) (are_views_within s.homes s.initial s.views s.slots) limits in
    let initial = and_parts (is_within 1 8 s.sources && (length s.homes == length (columns_of s)) && list_all (λ home. nat_lt home s.sources) s.homes && have_relations s.sources s.homes) (are_initial (columns_of s) s.initial) sources.0 in
    initial_within (columns_of s) s.initial initial.1
