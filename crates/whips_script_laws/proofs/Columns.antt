-- The columns of a view's relations are there, of the kinds that they are read with.
use Rattle.std.proofs.Common.{◌≡◌, ℕ, zero, suc, ◌+◌, Bool, true, cond, is_some, List, [], ◌∷◌, ◌++◌, map, get_or, slice_get, Option, Some, None, Ok, refl, ap, ◌∙◌, arith}
use Rattle.std.specs.List.{AllByRecursion}
use Rattle.std.specs.Str.{bytes_eq}
use Rattle.serde_json.specs.Data.{Data}
use Rattle.whips_model.specs.declared.Kind.{Kind}
use Rattle.whips_model.specs.declared.ColRef.{ColRef}
use Rattle.whips_model.specs.Tuples.{Columns}
use Rattle.whips_view.specs.ViewDefs.{no_columns, kinds_in, kind_of}
use Rattle.whips_reading.specs.declared.place.Code.TheVariants.{Name}
use Rattle.whips_reading.specs.Json.{Text}
use Rattle.whips_reading.specs.Places.{Place}
use Rattle.whips_reading.specs.Names.{text_in}
use Rattle.whips_relation_reading.specs.Relations.{RelationForm}
use Rattle.whips_view_reading.specs.Columns.{ViewColumn, columns_from, columns_at, view_columns, column_of, column_named}
use Rattle.whips_script_laws.proofs.Parts.{bound, there_is}
use Rattle.whips_script_laws.proofs.Appended.{each_append, found}

-- the columns of a relation by number
abbrev pub base_at : List RelationForm → ℕ → Columns
base_at relations n = get_or (map (λ r. r.table.columns) relations) n no_columns

pub base_is : (relations : List RelationForm) (n : ℕ) (r : RelationForm) → slice_get relations n ≡ Some r → base_at relations n ≡ r.table.columns
base_is [] n r e = absurd (cc)
base_is (x ∷ relations) zero r e = let same : x ≡ r = cc in ap (λ (y : RelationForm). y.table.columns) same
base_is (x ∷ relations) (suc n) r e = base_is relations n r e

module _ (bases : List Columns) where
  -- the column is there, of this kind
  abbrev pub Fits : ViewColumn → Type 0
  Fits c = kind_of bases c.at ≡ Some c.kind

  named_fit : (relation : Text) (part col : ℕ) (names : List Text) (kinds : List Kind) (base : Columns) → slice_get bases part ≡ Some base → ((j : ℕ) → slice_get base.kinds (col + j) ≡ slice_get kinds j) → AllByRecursion Fits (columns_from relation part col names kinds)
  named_fit relation part col [] kinds base h k = tt
  named_fit relation part col (name ∷ names) [] base h k = tt
  named_fit relation part col (name ∷ names) (kind ∷ kinds) base h k =
      let first : col ≡ col + 0 = omega arith in (
        ap (λ o. slice_get (kinds_in o) col) h ∙ ap (slice_get base.kinds) first ∙ k 0,
        named_fit relation part (suc col) names kinds base h (λ j. let later : suc col + j ≡ col + suc j = omega arith in ap (slice_get base.kinds) later ∙ k (suc j)),
      )

  module _ (relations : List RelationForm) where
    pub view_fit : (part : ℕ) (numbers : List ℕ) → ((j : ℕ) → slice_get bases (part + j) ≡ slice_get (map (base_at relations) numbers) j) → AllByRecursion Fits (view_columns relations part numbers)
    view_fit part [] h = tt
    view_fit part (n ∷ numbers) h = each_append Fits (columns_at part (slice_get relations n)) (view_columns relations (suc part) numbers) (go (slice_get relations n) refl) (view_fit (suc part) numbers (λ j. let later : suc part + j ≡ part + suc j = omega arith in ap (slice_get bases) later ∙ h (suc j)))
      where
        go : (o : Option RelationForm) → slice_get relations n ≡ o → AllByRecursion Fits (columns_at part o)
        go None e = tt
        go (Some r) e =
            let first : part ≡ part + 0 = omega arith in
            named_fit r.name part 0 r.columns r.table.columns.kinds r.table.columns (ap (slice_get bases) first ∙ h 0 ∙ ap Some (base_is relations n r e)) (λ j. let same : 0 + j ≡ j = omega arith in ap (slice_get r.table.columns.kinds) same)

  -- a column that was read is there
  pub column_read : (columns : List ViewColumn) → AllByRecursion Fits columns → (place : Place) (d : Data) (c : ViewColumn) → column_named columns place d ≡ Ok c → Fits c
  column_read columns fit place d c e =
      let b = bound (text_in place d) _ c e in
      found Fits (λ x. bytes_eq x.name b.0) columns c fit (there_is (column_of columns b.0) Name place c b.2)
