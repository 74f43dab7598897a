-- The choice of a view over relations, as it is read over the columns that were made for it.
use Rattle.std.proofs.Common.{◌≡◌, ℕ, List, Result, Ok, Err, sym, ap, subst, ◌∙◌}
use Rattle.std.specs.Result.{IsErrAnd}
use Rattle.serde_json.specs.Data.{Data}
use Rattle.whips_reading.specs.Json.{Text}
use Rattle.whips_reading.specs.declared.place.ReadErr.{ReadErr}
use Rattle.whips_reading.specs.declared.place.ReadErr.TheVariants.{Refused}
use Rattle.whips_reading.specs.Places.{Place, Refusal}
use Rattle.whips_reading.specs.Reading.{Read, ◌>>=◌, Answers}
use Rattle.whips_relation_reading.specs.Relations.{RelationForm}
use Rattle.whips_view_reading.specs.Columns.{ViewColumn, view_columns}
use Rattle.whips_view_reading.specs.Choices.{Choice, choice_in}
use Rattle.whips_view_reading.specs.Views.{Basis, with_keys, keyed_choice}

-- a refusal that is handed on
pub refused_on : {A : Type 0} (result : Result A ReadErr) (e : ReadErr) (reading : Read A) → IsErrAnd result (λ x. x ≡ e) → ((r : Refusal) → e ≡ Refused r → reading ≡ Err r) → Answers (λ a. a) result reading
refused_on (Ok a) e reading h p = absurd h
refused_on (Err x) e reading h p = λ r is. p r (sym h ∙ is)

module _ (basis : Basis) (relations : List RelationForm) (homes : List ℕ) (texts : List Text) (seen : record { relations = relations; homes = homes; texts = texts } ≡ basis) (numbers : List ℕ) (place : Place) (d : Data) (items columns : List ViewColumn) (made : items ≡ view_columns relations 0 numbers) (lent : columns ≡ items) where
  chosen : choice_in (view_columns basis.relations 0 numbers) basis.texts place d ≡ choice_in columns texts place d
  chosen = ap (λ (b : Basis). choice_in (view_columns b.relations 0 numbers) b.texts place d) (sym seen) ∙ ap (λ cs. choice_in cs texts place d) (sym made ∙ sym lent)

  -- where it is refused
  pub keyed_refused : (r : Refusal) → choice_in columns texts place d ≡ Err r → keyed_choice basis numbers place d ≡ Err r
  keyed_refused r e = ap (λ o. o >>= with_keys basis.relations numbers place) (chosen ∙ e)

  -- where it is read
  pub keyed_after : (choice : Choice) → choice_in columns texts place d ≡ Ok choice → (result : Result Choice ReadErr) → Answers (λ c. c) result (with_keys relations numbers place choice) → Answers (λ c. c) result (keyed_choice basis numbers place d)
  keyed_after choice e result answers = subst (λ reading. Answers (λ c. c) result reading) (sym (ap (λ o. o >>= with_keys basis.relations numbers place) (chosen ∙ e) ∙ ap (λ (b : Basis). with_keys b.relations numbers place choice) (sym seen))) answers
