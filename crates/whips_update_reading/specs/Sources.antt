-- The sources of a script.
use Rattle.std.specs.Prelude.{◌≡◌, ℕ, ◌-◌, ◌*◌, ◌≤◌, List, [], ◌∷◌, ◌++◌, map, drop, length, replicate, Ok}
use Rattle.serde_json.specs.Data.{Data}
use Rattle.whips_model.specs.Relation.{Table}
use Rattle.whips_rel.specs.declared.update.Update.{Update}
use Rattle.whips_reading.specs.declared.json.ObjectForm.TheVariants.{Source}
use Rattle.whips_reading.specs.declared.place.Member.TheVariants as member
use Rattle.whips_reading.specs.Json.{Text}
use Rattle.whips_reading.specs.Places.{Place}
use Rattle.whips_reading.specs.Reading.{Read, ◌>>=◌, ◌>>◌, object, within, within_or, elements, in_turn}
use Rattle.whips_reading.specs.Names.{fresh_name}
use Rattle.whips_relation_reading.specs.Relations.{RelationForm, relations_added}
use Rattle.whips_update_reading.specs.Updates.{Scope, Work, transactions_added}

-- Sources: their names; all their relations with their initial rows, each beside the number of its source; these relations after all transactions; and the transactions of each source.
pub record Sources : Type 0 where
  pub names : List Text
  pub homes : List ℕ
  pub relations : List RelationForm
  pub tables : List Table
  pub transactions : List (List (List Update))

abbrev pub no_sources : Sources
no_sources = record { names = []; homes = []; relations = []; tables = []; transactions = [] }

-- Each relation has its source and its state after the transactions, and each source has at most 4.
pub record AreSources (sources : Sources) : Type 0 where
  pub homes : length sources.homes ≡ length sources.relations
  pub tables : length sources.tables ≡ length sources.relations
  pub few : length sources.relations ≤ 4 * length sources.names

-- A source is an object, which has first a name that no source before it has,
abbrev pub new_source_name : List Text → Place → Data → Read Text
new_source_name taken place d = do
  object Source place d
  within member.Name (fresh_name taken) place d

-- What its updates are read with, once its relations stand behind those of the sources before it.
abbrev pub scope_of : List Text → Sources → List RelationForm → Scope
scope_of texts sources relations = record { texts = texts; relations = drop (length sources.relations) relations; first = length sources.relations }

-- The relations before its first update.
abbrev pub begun : Scope → List Table → Work
begun scope tables = record { tables = tables ++ map (λ r. r.table) scope.relations; made = []; transactions = [] }

-- then relations, and then perhaps updates, which are read before the next source.
abbrev pub source_work : Scope → List Table → Place → Data → Read Work
source_work scope tables place d = within_or (begun scope tables) member.Updates (transactions_added scope (begun scope tables)) place d

-- The relations that stand last are those of the next source.
abbrev pub with_homes : Sources → Sources
with_homes sources = record sources { homes = sources.homes ++ replicate (length sources.relations - length sources.homes) (length sources.names) }

-- The sources with this one, whose relations stand last.
abbrev pub with_source : Sources → Text → Work → Sources
with_source sources name work = record {
  names = sources.names ++ name ∷ [];
  homes = (with_homes sources).homes;
  relations = sources.relations;
  tables = work.tables;
  transactions = sources.transactions ++ work.transactions ∷ [];
}

abbrev pub source_added : List Text → Sources → Place → Data → Read Sources
source_added texts sources place d = do
  name ← new_source_name sources.names place d
  relations ← within member.Relations (relations_added texts sources.relations) place d
  work ← source_work (scope_of texts sources relations) sources.tables place d
  Ok (with_source (record sources { relations = relations }) name work)

-- 1 to 8 sources.
abbrev pub sources_in : List Text → Place → Data → Read Sources
sources_in texts place d = elements 1 8 place d >>= in_turn (source_added texts) place 0 no_sources
