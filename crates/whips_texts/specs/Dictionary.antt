-- The texts of a document: those that stand where a value may stand in its rows, its updates and its conditions.
use Rattle.std.specs.Prelude.{List, [], ◌∷◌, Option, Some, None, fold}
use Rattle.serde_json.specs.Data.{Data}
use Rattle.serde_json.specs.Find.{get, as_str}
use Rattle.whips_reading.specs.declared.place.Member.{Member}
use Rattle.whips_reading.specs.declared.place.Member.TheVariants as member
use Rattle.whips_reading.specs.Json.{Text}
use Rattle.whips_reading.specs.Places.{member_name}
use Rattle.whips_reading.specs.Reading.{elements_of}
use Rattle.whips_texts.specs.Texts.{with_text}

-- What each element of a list adds to the texts. What is no list adds nothing.
abbrev pub with_each_of : (List Text → Data → List Text) → List Text → Option (List Data) → List Text
with_each_of step texts None = texts
with_each_of step texts (Some ds) = fold step texts ds

abbrev pub with_each : (List Text → Data → List Text) → List Text → Data → List Text
with_each step texts d = with_each_of step texts (elements_of d)

-- What this member adds, where it is there.
abbrev pub with_found : (List Text → Data → List Text) → List Text → Option Data → List Text
with_found adding texts None = texts
with_found adding texts (Some d) = adding texts d

abbrev pub with_member : Member → (List Text → Data → List Text) → List Text → Data → List Text
with_member m adding texts d = with_found adding texts (get (member_name m) d)

-- The text that a value is.
abbrev pub with_text_of : List Text → Option Text → List Text
with_text_of texts None = texts
with_text_of texts (Some t) = with_text texts t

abbrev pub with_value : List Text → Data → List Text
with_value texts d = with_text_of texts (as_str d)

-- The texts of a list of values, of rows, and of relations.
abbrev pub with_values : List Text → Data → List Text
with_values = with_each with_value

abbrev pub with_rows : List Text → Data → List Text
with_rows = with_each with_values

abbrev pub with_relation : List Text → Data → List Text
with_relation = with_member member.Rows with_rows

abbrev pub with_relations : List Text → Data → List Text
with_relations = with_each with_relation

-- The texts of an update's values, which stand third.
abbrev pub with_update_of : List Text → Option (List Data) → List Text
with_update_of texts (Some (change ∷ name ∷ values ∷ [])) = with_values texts values
with_update_of texts ds = texts

abbrev pub with_update : List Text → Data → List Text
with_update texts d = with_update_of texts (elements_of d)

abbrev pub with_updates : List Text → Data → List Text
with_updates = with_each with_update

-- The texts of a transaction: an update, or a list of two of which the second is a list of updates.
abbrev pub with_transaction_of : List Text → Option (List Data) → List Text
with_transaction_of texts (Some (all ∷ updates ∷ [])) = with_updates texts updates
with_transaction_of texts (Some (change ∷ name ∷ values ∷ [])) = with_values texts values
with_transaction_of texts ds = texts

abbrev pub with_transaction : List Text → Data → List Text
with_transaction texts d = with_transaction_of texts (elements_of d)

abbrev pub with_transactions : List Text → Data → List Text
with_transactions = with_each with_transaction

-- The texts of a source's relations and transactions.
abbrev pub with_source_relations : List Text → Data → List Text
with_source_relations = with_member member.Relations with_relations

abbrev pub with_source_updates : List Text → Data → List Text
with_source_updates = with_member member.Updates with_transactions

abbrev pub with_source : List Text → Data → List Text
with_source texts d = with_source_updates (with_source_relations texts d) d

abbrev pub with_sources : List Text → Data → List Text
with_sources = with_each with_source

-- The text of a condition's constant, which stands third.
abbrev pub with_condition_of : List Text → Option (List Data) → List Text
with_condition_of texts (Some (column ∷ comparison ∷ value ∷ [])) = with_value texts value
with_condition_of texts ds = texts

abbrev pub with_condition : List Text → Data → List Text
with_condition texts d = with_condition_of texts (elements_of d)

abbrev pub with_conditions : List Text → Data → List Text
with_conditions = with_each with_condition

-- The texts of a view's conditions.
abbrev pub with_view : List Text → Data → List Text
with_view = with_member member.Where with_conditions

abbrev pub with_views : List Text → Data → List Text
with_views = with_each with_view

-- The texts of a document, in order, each once.
abbrev pub with_document_sources : List Text → Data → List Text
with_document_sources = with_member member.Sources with_sources

abbrev pub with_document_views : List Text → Data → List Text
with_document_views = with_member member.Views with_views

abbrev pub texts_of : Data → List Text
texts_of d = with_document_views (with_document_sources [] d) d
