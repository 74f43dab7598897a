-- A document as it is written is plain, where it is read as the parts of a script.
--
-- Texts are plain as they are. The numbers of a document were read again, so they are small: those among the values of rows, updates and
-- conditions, slots, versions, and the numbers of a schedule. Members are written in the order of their bytes, which is computed. Lists and
-- objects of these are nested eight deep.
use Rattle.std.proofs.Common.{◌≡◌, ℕ, ◌==◌, ◌≤◌, Bool, true, false, List, [], ◌∷◌, Option, Some, None, Ok, refl, arith, slice_get, slice_index_or}
use Rattle.std.specs.Prelude.{if◌then◌else◌}
use Rattle.std.specs.List.{AllByRecursion}
use Rattle.serde_json.specs.Data.{Data, no_members, depth}
use Rattle.serde_json.specs.Read.{max_depth}
use Rattle.whips_lists.specs.Lists.{map_with_place}
use Rattle.whips_setup.specs.declared.plan.Plan.{Plan}
use Rattle.whips_view.specs.ViewDefs.{View}
use Rattle.whips_reading.specs.declared.json.ObjectForm.TheVariants.{Document}
use Rattle.whips_reading.specs.declared.place.Code.TheVariants.{Shape}
use Rattle.whips_reading.specs.declared.place.Member.{Member}
use Rattle.whips_reading.specs.declared.place.Member.TheVariants as member
use Rattle.whips_reading.specs.Json.{Text, is_object_of}
use Rattle.whips_reading.specs.Members.{is_member_of}
use Rattle.whips_reading.specs.Places.{Place, in_member}
use Rattle.whips_update_reading.specs.Sources.{Sources, no_sources, source_added, sources_in}
use Rattle.whips_view_reading.specs.Views.{Basis, view_in}
use Rattle.whips_plan_reading.specs.Events.{Names, names_with}
use Rattle.whips_plan_reading.specs.Sessions.{sessions_of}
use Rattle.whips_plan_reading.specs.Schedules.{schedule_of}
use Rattle.whips_plan_reading.specs.Plans.{plan_in}
use Rattle.whips_script_reading.specs.Views.{Views, no_views, view_added, views_in}
use Rattle.whips_script_reading.specs.Script.{NamedScript, default_versions, Parts, basis_of, views_of, sources_of, versions_in, parts_in}
use Rattle.whips_script_laws.proofs.Parts.{bound, tested}
use Rattle.whips_script_writing.specs.Objects.{number_data, list_data, text_list, members_data, object_data}
use Rattle.whips_script_writing.specs.Relations.{relations_of}
use Rattle.whips_script_writing.specs.Views.{view_in as view_written}
use Rattle.whips_script_writing.specs.Scripts.{schedule_data, source_at, view_at, document_data}
use Rattle.whips_canonical_laws.specs.Plain.{InOrder, IsPlain}
use Rattle.whips_plain_laws.proofs.Made.{IsPlainTo, deeper, each_with_place, texts_plain, object_plain}
use Rattle.whips_plain_laws.proofs.Read.{number_read_plain, of_list, IsPlainIfRead, elements_plain}
use Rattle.whips_plain_laws.proofs.Objects.{source_plain, view_plain, schedule_plain}

-- what the members of a document were read as
record AreRead (texts : List Text) (place : Place) (d : Data) : Type 0 where
  versions : ℕ
  sources : Sources
  views : Views
  names : Names
  plan : Plan
  versions_read : versions_in place d ≡ Ok versions
  sources_read : sources_of texts place d ≡ Ok sources
  views_read : views_of texts sources place d ≡ Ok views
  schedule_read : schedule_of names place d ≡ Ok plan

members_read : (texts : List Text) (place : Place) (d : Data) (parts : Parts) → parts_in texts place d ≡ Ok parts → AreRead texts place d
members_read texts place d parts e =
    let o = tested (is_object_of (is_member_of Document) d) Shape place _ parts e in
    let v = bound (versions_in place d) _ parts o.1 in
    let y = bound (sources_of texts place d) _ parts v.2 in
    let x = bound (views_of texts y.0 place d) _ parts y.2 in
    let p = bound (plan_in y.0.names x.0.names place d) _ parts x.2 in
    let n = bound (sessions_of place d) _ p.0 p.1 in
    let names = names_with y.0.names x.0.names n.0 in
    let c = bound (schedule_of names place d) _ p.0 n.2 in
    record { versions = v.0; sources = y.0; views = x.0; names = names; plan = c.0; versions_read = v.1; sources_read = y.1; views_read = x.1; schedule_read = c.1 }

module _ (s : NamedScript) (texts : List Text) (place : Place) where
  -- ---- sources and views

  abbrev sources_data : Data
  sources_data = list_data (map_with_place (source_at s) 0 s.labels.sources)

  abbrev views_data : Data
  views_data = list_data (map_with_place (view_at s) 0 s.labels.views)

  sources_plain : (at : Place) (sources : Sources) → sources_in texts at sources_data ≡ Ok sources → IsPlainTo 7 sources_data
  sources_plain at sources e =
      let is_plain = IsPlainIfRead 6 (source_added texts) in
      let each = each_with_place is_plain (source_at s) (λ y name. source_plain s.labels texts s.relations (relations_of y s.script.setup.homes s.relations) name (slice_index_or s.script.work y [])) 0 s.labels.sources in
      elements_plain 6 (source_added texts) 1 8 at no_sources sources sources_data (of_list is_plain (map_with_place (source_at s) 0 s.labels.sources) each) e

  one_view_plain : (basis : Basis) (name : Text) (slots : ℕ) (view : Option View) → IsPlainIfRead 3 (view_added basis) (view_written s.labels s.relations name view slots)
  one_view_plain basis name slots None before after at e = (tt, omega arith)
  one_view_plain basis name slots (Some view) before after at e =
      let b = bound (view_in basis before.names at (view_written s.labels s.relations name (Some view) slots)) _ after e in
      view_plain s.labels s.relations name view slots basis before.names at b.0 b.1

  views_plain : (basis : Basis) (at : Place) (views : Views) → views_in basis at views_data ≡ Ok views → IsPlainTo 4 views_data
  views_plain basis at views e =
      let is_plain = IsPlainIfRead 3 (view_added basis) in
      let each = each_with_place is_plain (view_at s) (λ x name. one_view_plain basis name (slice_index_or s.script.setup.slots x 0) (slice_get s.script.setup.views x)) 0 s.labels.views in
      elements_plain 3 (view_added basis) 1 8 at no_views views views_data (of_list is_plain (map_with_place (view_at s) 0 s.labels.views) each) e

  -- ---- the whole

  -- the members of a document, of which the last are these
  abbrev members : List (Member × Data) → List (Member × Data)
  members last = (member.Schedule, schedule_data s.labels s.plan) ∷ (member.Sessions, text_list s.labels.sessions) ∷ (member.Sources, sources_data) ∷ last

  members_plain : (last : List (Member × Data)) → InOrder no_members (members_data (members last)) → AllByRecursion (λ m. IsPlainTo 7 m.1) last → AreRead texts place (object_data (members last)) → IsPlainTo 8 (object_data (members last))
  members_plain last order are_last r =
      let is_schedule = deeper 2 7 (schedule_data s.labels s.plan) (omega arith) (schedule_plain s.labels s.plan r.plan r.names (in_member place member.Schedule) r.schedule_read) in
      let are_sources = sources_plain (in_member place member.Sources) r.sources r.sources_read in
      object_plain 7 (members last) order (is_schedule, (texts_plain 6 s.labels.sessions, (are_sources, are_last)))

  deep_views_plain : (sources : Sources) (views : Views) → views_in (basis_of texts sources) (in_member place member.Views) views_data ≡ Ok views → IsPlainTo 7 views_data
  deep_views_plain sources views e = deeper 4 7 views_data (omega arith) (views_plain (basis_of texts sources) (in_member place member.Views) views e)

  -- versions are written where they aren't the default
  abbrev last_members : Bool → List (Member × Data)
  last_members default = if default then (member.Views, views_data) ∷ [] else (member.Versions, number_data s.script.setup.versions) ∷ (member.Views, views_data) ∷ []

  whole_plain : (default : Bool) (parts : Parts) → parts_in texts place (object_data (members (last_members default))) ≡ Ok parts → IsPlainTo 8 (object_data (members (last_members default)))
  whole_plain true parts e =
      let r = members_read texts place (object_data (members (last_members true))) parts e in
      members_plain (last_members true) (refl, (refl, (refl, (refl, tt)))) (deep_views_plain r.sources r.views r.views_read, tt) r
  whole_plain false parts e =
      let r = members_read texts place (object_data (members (last_members false))) parts e in
      let are_versions = number_read_plain 7 2 4 (omega arith) (in_member place member.Versions) (number_data s.script.setup.versions) r.versions r.versions_read in
      members_plain (last_members false) (refl, (refl, (refl, (refl, (refl, tt))))) (are_versions, (deep_views_plain r.sources r.views r.views_read, tt)) r

pub document_plain : (s : NamedScript) (texts : List Text) (place : Place) (parts : Parts) → parts_in texts place (document_data s) ≡ Ok parts → IsPlain (document_data s) × (depth (document_data s) ≤ max_depth)
document_plain s texts place parts e = deeper 8 max_depth (document_data s) (omega arith) (whole_plain s texts place (s.script.setup.versions == default_versions) parts e)
