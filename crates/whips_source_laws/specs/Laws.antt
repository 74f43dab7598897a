-- Laws: the sources of a script that were read, written canonically, are read again as the same, and their texts stay.
use Rattle.std.specs.Prelude.{◌≡◌, ℕ, List, [], Ok, slice_index_or}
use Rattle.serde_json.specs.Data.{Data}
use Rattle.whips_lists.specs.Lists.{map_with_place}
use Rattle.whips_facts.specs.Scripts.{Labels}
use Rattle.whips_reading.specs.Json.{Text}
use Rattle.whips_reading.specs.Places.{Place}
use Rattle.whips_texts.specs.Dictionary.{with_sources}
use Rattle.whips_update_reading.specs.Sources.{Sources, sources_in}
use Rattle.whips_script_writing.specs.Objects.{list_data}
use Rattle.whips_script_writing.specs.Relations.{relations_of, source_data}
use Rattle.whips_canonical_laws.specs.Known.{OfEach, KnowsSource}

-- Sources as JSON data: each with its own relations and its transactions.
abbrev pub source_at : Labels → Sources → (y : ℕ) → Text → Data
source_at l sources y name = source_data l sources.relations (relations_of y sources.homes sources.relations) name (slice_index_or sources.transactions y [])

abbrev pub sources_data : Labels → Sources → Data
sources_data l sources = list_data (map_with_place (source_at l sources) 0 sources.names)

abbrev pub SourcesAreRead : Type 0
SourcesAreRead = (l : Labels) (place : Place) (d : Data) (sources : Sources)
    → OfEach (KnowsSource l.texts) d → sources_in l.texts place d ≡ Ok sources → sources_in l.texts place (sources_data l sources) ≡ Ok sources

-- The data that the sources are written as has the texts of the data that they were read from.
abbrev pub TextsOfSourcesStay : Type 0
TextsOfSourcesStay = (l : Labels) (place : Place) (d : Data) (sources : Sources)
    → OfEach (KnowsSource l.texts) d → sources_in l.texts place d ≡ Ok sources → (texts : List Text) → with_sources texts (sources_data l sources) ≡ with_sources texts d
