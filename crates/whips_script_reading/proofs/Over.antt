-- Views over the relations that were read.
use Rattle.std.proofs.Common.{◌≡◌, ℕ, zero, suc, ◌<◌, Bool, true, false, List, [], ◌∷◌, length, map, slice_get, slice_index_or, Option, Some, None, Result, Ok, Err, refl, sym, ap, ap₂, subst, ◌∙◌, arith}
use Rattle.std.specs.Prelude.{nat_le, nat_lt, cond, is_none}
use Rattle.std.specs.Option.{option_or}
use Rattle.std.specs.Result.{IsErrAnd}
use Rattle.serde_json.specs.Data.{Data}
use Rattle.std.proofs.lemmas.Bool.{ltb-true}
use Rattle.std.proofs.lemmas.Bool.Decides.{nat_tests}
use Rattle.whips_model.specs.Tuples.{Codes, Columns}
use Rattle.whips_model.specs.Relation.{value_of}
use Rattle.whips_model.specs.Views.{ViewData}
use Rattle.whips_view.specs.declared.error.ViewErr.{ViewErr}
use Rattle.whips_view.specs.declared.error.ViewErr.TheVariants.{NoRelation}
use Rattle.whips_view.specs.ViewDefs.{View, view_of, columns_in, no_columns, HasBases}
use Rattle.whips_view.specs.Refusals.{refusal_of, limit_refusal, relation_refusal, twice_refusal, refusal_in}
use Rattle.whips_reading.specs.declared.place.Code.TheVariants.{Limit, Unbuilt}
use Rattle.whips_reading.specs.declared.place.Member.TheVariants as member
use Rattle.whips_reading.specs.declared.place.Code.{Code}
use Rattle.whips_reading.specs.Places.{Place, Refusal, in_member}
use Rattle.whips_reading.specs.declared.place.ReadErr.{ReadErr}
use Rattle.whips_reading.specs.declared.place.ReadErr.TheVariants.{Refused}
use Rattle.whips_reading.specs.Json.{Text}
use Rattle.whips_reading.specs.Reading.{Read, ◌>>=◌, ◌>>◌, refuse, check, Answers}
use Rattle.whips_relation_reading.specs.Relations.{RelationForm}
use Rattle.whips_view_reading.specs.Views.{Basis, ViewForm, view_in}
use Rattle.whips_script_reading.specs.Views.{Views, tables_of, schemas_of, view_over, slots_suffice, with_view, view_added}

-- ---- a view that isn't refused is over the relations

neither : {T : Type 0} (a b : Option T) → option_or a b ≡ None → (a ≡ None) × (b ≡ None)
neither None b h = (refl, h)
neither (Some x) b h = absurd (cc)

base_at : (relations : List RelationForm) (r : ℕ) → r < length (schemas_of relations) → columns_in (slice_get (tables_of relations) r) ≡ Some (slice_index_or (schemas_of relations) r no_columns)
base_at [] r h = absurd (omega (arith, h))
base_at (f ∷ fs) zero h = refl
base_at (f ∷ fs) (suc r) h = base_at fs r (omega (arith, h))

bases_are : (relations : List RelationForm) (rs : List ℕ) → relation_refusal (length (schemas_of relations)) rs ≡ None
    → map (λ r. columns_in (slice_get (tables_of relations) r)) rs ≡ map (λ b. Some b) (map (λ r. slice_index_or (schemas_of relations) r no_columns) rs)
bases_are relations [] h = refl
bases_are relations (r ∷ rs) h = go (nat_lt r (length (schemas_of relations))) refl h (bases_are relations rs)
  where
    go : (b : Bool) → nat_lt r (length (schemas_of relations)) ≡ b → cond b (relation_refusal (length (schemas_of relations)) rs) (Some (NoRelation r)) ≡ None
        → (relation_refusal (length (schemas_of relations)) rs ≡ None → map (λ r. columns_in (slice_get (tables_of relations) r)) rs ≡ map (λ b. Some b) (map (λ r. slice_index_or (schemas_of relations) r no_columns) rs))
        → map (λ r. columns_in (slice_get (tables_of relations) r)) (r ∷ rs) ≡ map (λ b. Some b) (map (λ r. slice_index_or (schemas_of relations) r no_columns) (r ∷ rs))
    go true is more rest = ap₂ {A = Option Columns} {B = List (Option Columns)} (λ c cs. c ∷ cs) (base_at relations r (ltb-true r (length (schemas_of relations)) is)) (rest more)
    go false is more rest = absurd (cc)

pub has_bases : (relations : List RelationForm) (parts : ViewData) → refusal_of (schemas_of relations) parts ≡ None → HasBases (view_of (schemas_of relations) parts) (tables_of relations)
has_bases relations parts h =
    let rest = neither (limit_refusal parts) (option_or (relation_refusal (length (schemas_of relations)) parts.relations) (option_or (twice_refusal parts.relations) (refusal_in (view_of (schemas_of relations) parts)))) h in
    let there = neither (relation_refusal (length (schemas_of relations)) parts.relations) (option_or (twice_refusal parts.relations) (refusal_in (view_of (schemas_of relations) parts))) rest.1 in
    bases_are relations parts.relations there.0

-- and so is a view that was made
pub over_bases : (relations : List RelationForm) (parts : ViewData) (place : Place) (view : View) → view_over relations parts place ≡ Ok view → HasBases view (tables_of relations)
over_bases relations parts place view h = go (refusal_of (schemas_of relations) parts) refl h
  where
    go : (o : Option ViewErr) → refusal_of (schemas_of relations) parts ≡ o → (check (is_none o) Unbuilt place >> Ok (view_of (schemas_of relations) parts)) ≡ Ok view → HasBases view (tables_of relations)
    go None is made = let same : view_of (schemas_of relations) parts ≡ view = cc in subst (λ v. HasBases v (tables_of relations)) same (has_bases relations parts is)
    go (Some e) is made = absurd (cc)

-- a view that is made over these columns
pub made_over : (relations : List RelationForm) (schemas : List Columns) (parts : ViewData) (place : Place) (view : View) → schemas ≡ schemas_of relations → (view ≡ view_of schemas parts) × (refusal_of schemas parts ≡ None)
    → view_over relations parts place ≡ Ok view
made_over relations schemas parts place view same made =
    ap (λ o. check (is_none o) Unbuilt place >> Ok (view_of (schemas_of relations) parts)) (ap (λ s. refusal_of s parts) (sym same) ∙ made.1)
    ∙ ap (λ v. Ok v) (sym (made.0 ∙ ap (λ s. view_of s parts) same))

-- ---- refusals

-- what is refused so is this refusal
pub same_refusal : {A : Type 0} {code : Code} {place : Place} {reading : Read A} {r : Refusal} → reading ≡ refuse code place → r ≡ record { code = code; place = place } → reading ≡ Err r
same_refusal is same = is ∙ ap (λ r. Err r) (sym same)

pub view_refused : (relations : List RelationForm) (parts : ViewData) (place : Place) (e : ViewErr) → refusal_of (schemas_of relations) parts ≡ Some e → view_over relations parts place ≡ refuse Unbuilt place
view_refused relations parts place e h = ap (λ o. check (is_none o) Unbuilt place >> Ok (view_of (schemas_of relations) parts)) h

above : (m n : ℕ) → n < m → nat_le m n ≡ false
above m n lt = grind (arith, nat_tests, lt)

pub slots_refused : (relations : List RelationForm) (view : View) (slots : ℕ) (place : Place) (rows : List Codes) → rows ≡ value_of view.parts (tables_of relations) → slots < length rows
    → slots_suffice relations view slots place ≡ refuse Limit (in_member place member.Slots)
slots_refused relations view slots place rows is many = ap (λ b. check b Limit (in_member place member.Slots)) (ap (λ l. nat_le (length l) slots) (sym is) ∙ above (length rows) slots many)

-- a refusal that is handed on
pub handed_on : {X A : Type 0} (see : X → A) (result : Result X ReadErr) (e : ReadErr) (reading : Read A) → IsErrAnd result (λ x. x ≡ e) → ((r : Refusal) → e ≡ Refused r → reading ≡ Err r) → Answers see result reading
handed_on see (Ok x) e reading h p = absurd h
handed_on see (Err x) e reading h p = λ r is. p r (sym h ∙ is)

after_view : Basis → Views → Place → ViewForm → View → Read Views
after_view basis views place form view = slots_suffice basis.relations view form.slots place >> Ok (with_view views form.name view form.slots)

after_form : Basis → Views → Place → ViewForm → Read Views
after_form basis views place form = view_over basis.relations form.parts place >>= after_view basis views place form

-- a view that is read and then refused
pub view_stops : (basis own : Basis) → own ≡ basis → (views : Views) (names : List Text) → names ≡ views.names → (place : Place) (d : Data) (form : ViewForm) (parts : ViewData) → parts ≡ form.parts → (r : Refusal) → view_in own names place d ≡ Ok form
    → view_over basis.relations parts place ≡ Err r → view_added basis views place d ≡ Err r
unfolding after_form after_view
view_stops basis own same views names are place d form parts its r read over =
    ap (λ f. f >>= after_form basis views place) (ap₂ (λ (b : Basis) (ns : List Text). view_in b ns place d) (sym same) (sym are) ∙ read) ∙ ap (λ v. v >>= after_view basis views place form) (ap (λ p. view_over basis.relations p place) (sym its) ∙ over)
