-- The first reason, in a fixed order, why parts make no view.
use Rattle.std.specs.Prelude.{ℕ, suc, ◌&&◌, ◌==◌, nat_lt, Bool, true, false, cond, List, [], ◌∷◌, length, map, is_some, Option, Some, None}
use Rattle.std.specs.Option.{option_or}
use Rattle.std.specs.List.{list_all, list_any}
use Rattle.whips_model.specs.declared.Kind.{Kind}
use Rattle.whips_model.specs.declared.Kind.TheVariants.{Number, Text}
use Rattle.whips_model.specs.declared.ColRef.{ColRef}
use Rattle.whips_model.specs.declared.Cond.{Cond}
use Rattle.whips_model.specs.Tuples.{Columns}
use Rattle.whips_model.specs.Views.{ViewData}
use Rattle.whips_view.specs.declared.error.ViewErr.{ViewErr}
use Rattle.whips_view.specs.declared.error.ViewErr.TheVariants.{Limit, NoRelation, TwiceUsed, NoColumn, Kinds, KeyMissing}
use Rattle.whips_view.specs.ViewDefs.{View, view_of, kind_of, are_within}

-- A list has too few or too many elements, or the numbers of relations and of homes differ.
abbrev pub limit_refusal : ViewData → Option ViewErr
limit_refusal parts = cond (are_within parts) None (Some Limit)

-- The first relation that isn't among the first n.
abbrev pub relation_refusal : ℕ → List ℕ → Option ViewErr
relation_refusal n [] = None
relation_refusal n (r ∷ relations) = cond (nat_lt r n) (relation_refusal n relations) (Some (NoRelation r))

-- The first relation that comes again later.
abbrev pub twice_refusal : List ℕ → Option ViewErr
twice_refusal [] = None
twice_refusal (r ∷ relations) = cond (list_any (λ s. s == r) relations) (Some (TwiceUsed r)) (twice_refusal relations)

-- The first of these columns that isn't there.
abbrev pub column_refusal : List Columns → List ColRef → Option ViewErr
column_refusal bases [] = None
column_refusal bases (at ∷ columns) = cond (is_some (kind_of bases at)) (column_refusal bases columns) (Some (NoColumn at))

-- The columns of the equalities, the left one of each before its right one.
abbrev pub equality_columns : List (ColRef × ColRef) → List ColRef
equality_columns [] = []
equality_columns (pair ∷ equal) = pair.0 ∷ pair.1 ∷ equality_columns equal

abbrev pub is_same_kind : Kind → Kind → Bool
is_same_kind Number Number = true
is_same_kind Number Text = false
is_same_kind Text Number = false
is_same_kind Text Text = true

-- Whether a column has this kind.
abbrev pub has_kind : Option Kind → Kind → Bool
has_kind None kind = false
has_kind (Some own) kind = is_same_kind own kind

-- Whether two columns are of one kind.
abbrev pub have_one_kind : Option Kind → Option Kind → Bool
have_one_kind left None = false
have_one_kind left (Some kind) = has_kind left kind

abbrev pub joins_one_kind : List Columns → (ColRef × ColRef) → Bool
joins_one_kind bases pair = have_one_kind (kind_of bases pair.0) (kind_of bases pair.1)

abbrev pub tests_own_kind : List Columns → Cond → Bool
tests_own_kind bases c = has_kind (kind_of bases c.at) c.kind

-- An equality joins columns of two kinds, or a condition has a constant of another kind than its column.
abbrev pub kinds_refusal : View → Option ViewErr
kinds_refusal view = cond (list_all (joins_one_kind view.bases) view.parts.equal && list_all (tests_own_kind view.bases) view.parts.conds) None (Some Kinds)

abbrev pub is_column : ℕ → ℕ → ColRef → Bool
is_column part column at = (at.part == part) && (at.col == column)

-- The first of the key columns of this relation, at this part, that isn't among the out columns.
abbrev pub key_refusal_at : List ColRef → ℕ → ℕ → List ℕ → Option ViewErr
key_refusal_at out part relation [] = None
key_refusal_at out part relation (column ∷ key) = cond (list_any (is_column part column) out) (key_refusal_at out part relation key) (Some (KeyMissing relation column))

-- The first key column of the parts from this one on that isn't among the out columns.
abbrev pub key_refusal : List ColRef → ℕ → List ℕ → List Columns → Option ViewErr
key_refusal out part [] bases = None
key_refusal out part (relation ∷ relations) [] = None
key_refusal out part (relation ∷ relations) (base ∷ bases) = option_or (key_refusal_at out part relation base.key) (key_refusal out (suc part) relations bases)

-- The refusals over the columns, in this order: those of equalities, of conditions and of the rows, kinds that don't agree, and a missing key column.
abbrev pub refusal_in : View → Option ViewErr
refusal_in view =
    option_or (column_refusal view.bases (equality_columns view.parts.equal))
    (option_or (column_refusal view.bases (map (λ c. c.at) view.parts.conds))
    (option_or (column_refusal view.bases view.parts.out)
    (option_or (kinds_refusal view)
    (key_refusal view.parts.out 0 view.parts.relations view.bases))))

-- Why the parts make no view over relations of these columns: the first reason in this order, or none.
abbrev pub refusal_of : List Columns → ViewData → Option ViewErr
refusal_of schemas parts =
    option_or (limit_refusal parts)
    (option_or (relation_refusal (length schemas) parts.relations)
    (option_or (twice_refusal parts.relations)
    (refusal_in (view_of schemas parts))))
