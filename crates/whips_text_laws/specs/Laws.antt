-- Laws: the texts of a document are known, and the texts of its parts stay where these were read and are written.
use Rattle.std.specs.Prelude.{◌≡◌, List, slice_get, slice_index_or, Ok}
use Rattle.serde_json.specs.Data.{Data}
use Rattle.whips_lists.specs.Lists.{map_with_place}
use Rattle.whips_view.specs.ViewDefs.{View}
use Rattle.whips_facts.specs.Scripts.{Labels}
use Rattle.whips_reading.specs.Json.{Text}
use Rattle.whips_reading.specs.Places.{Place}
use Rattle.whips_texts.specs.Dictionary.{with_relation, with_view, with_views, texts_of}
use Rattle.whips_relation_reading.specs.Relations.{RelationForm, relation_in}
use Rattle.whips_view_reading.specs.Views.{Basis, ViewForm, view_in}
use Rattle.whips_script_reading.specs.Views.{Views, views_in}
use Rattle.whips_script_writing.specs.Objects.{list_data}
use Rattle.whips_script_writing.specs.Relations.{relation_data}
use Rattle.whips_script_writing.specs.Views.{view_data, view_in as data_of}
use Rattle.whips_canonical_laws.specs.Known.{OfEach, KnowsRelation, KnowsView, KnowsDocument}

-- Each text at a place of a value of a document is one of the document's texts: the text with its code is the text again.
abbrev pub TextsAreKnown : Type 0
TextsAreKnown = (d : Data) → KnowsDocument (texts_of d) d

-- A relation that was read, written with every member, adds the texts that it added.
abbrev pub RelationTextsStay : Type 0
RelationTextsStay = (l : Labels) (relations : List RelationForm) (place : Place) (d : Data) (r : RelationForm)
    → KnowsRelation l.texts d → relation_in l.texts relations place d ≡ Ok r → (texts : List Text) → with_relation texts (relation_data l r) ≡ with_relation texts d

-- So does a view,
abbrev pub ViewTextsStay : Type 0
ViewTextsStay = (l : Labels) (basis : Basis) → l.texts ≡ basis.texts → (taken : List Text) (place : Place) (d : Data) (v : ViewForm) (view : View)
    → KnowsView l.texts d → view.parts ≡ v.parts → view_in basis taken place d ≡ Ok v → (texts : List Text) → with_view texts (view_data l basis.relations v.name view v.slots) ≡ with_view texts d

-- and so do the views of a document.
abbrev pub ViewsTextsStay : Type 0
ViewsTextsStay = (l : Labels) (basis : Basis) → l.texts ≡ basis.texts → (place : Place) (d : Data) (views : Views)
    → OfEach (KnowsView l.texts) d → views_in basis place d ≡ Ok views → (texts : List Text)
    → with_views texts (list_data (map_with_place (λ x name. data_of l basis.relations name (slice_get views.views x) (slice_index_or views.slots x 0)) 0 views.names)) ≡ with_views texts d
