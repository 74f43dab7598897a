-- A script whose parts were read is never refused when it is made of them.
use Rattle.std.proofs.Common.{◌≡◌, ℕ, suc, ◌&&◌, nat_le, is_none, Bool, true, false, List, [], ◌∷◌, ◌++◌, length, None, Ok, refl, sym, ap, ap₂, subst, ◌∙◌}
use Rattle.serde_json.specs.Data.{Data}
use Rattle.whips_model.specs.Relation.{value_of}
use Rattle.whips_view.specs.ViewDefs.{View, view_of, is_within}
use Rattle.whips_view.specs.Refusals.{refusal_of}
use Rattle.whips_setup.specs.Setups.{SetupData}
use Rattle.whips_setup.specs.Refusals.{setup_refusal}
use Rattle.whips_setup.specs.Workloads.{work_refusal}
use Rattle.whips_reading.specs.declared.json.ObjectForm.TheVariants.{Document}
use Rattle.whips_reading.specs.declared.place.Code.{Code}
use Rattle.whips_reading.specs.declared.place.Code.TheVariants.{Limit, Unbuilt}
use Rattle.whips_reading.specs.declared.place.Member.TheVariants as member
use Rattle.whips_reading.specs.Json.{Text}
use Rattle.whips_reading.specs.Places.{Place, in_member}
use Rattle.whips_reading.specs.Reading.{Read, ◌>>=◌, ◌>>◌, check, object}
use Rattle.whips_update_reading.specs.Sources.{Sources, sources_in}
use Rattle.whips_view_reading.specs.Views.{Basis, ViewForm, view_in}
use Rattle.whips_plan_reading.specs.Plans.{plan_in}
use Rattle.whips_script_reading.specs.Views.{Views, no_views, tables_of, schemas_of, view_over, with_view, view_added, views_in}
use Rattle.whips_script_reading.specs.Script.{Parts, basis_of, versions_in, sources_of, views_of, setup_with, setup_in, work_is_valid, script_with, script_of_parts, parts_in}
use Rattle.whips_script_laws.specs.Laws.{IsViewOf, AreViewsOf}
use Rattle.whips_script_laws.proofs.Parts.{bound, followed, tested, list_read, member_read}
use Rattle.whips_script_laws.proofs.Appended.{one_longer}
use Rattle.whips_script_laws.proofs.Viewed.{made}
use Rattle.whips_script_laws.proofs.Made.{workload_made, setup_made}

-- what passes a test goes on
goes_on : {B : Type 0} (test : Bool) (code : Code) (place : Place) (next : Read B) → test ≡ true → (check test code place >> next) ≡ next
goes_on true code place next e = refl
goes_on false code place next e = absurd (cc)

pub view_accepted : (basis : Basis) (taken : List Text) (place : Place) (d : Data) (form : ViewForm) → view_in basis taken place d ≡ Ok form → view_over basis.relations form.parts place ≡ Ok (view_of (schemas_of basis.relations) form.parts)
view_accepted basis taken place d form e = goes_on (is_none (refusal_of (schemas_of basis.relations) form.parts)) Unbuilt place (Ok (view_of (schemas_of basis.relations) form.parts)) (ap is_none (made basis taken place d form e))

module _ (texts : List Text) (s : Sources) where
  more_views : (views : List View) (slots : List ℕ) (view : View) (n : ℕ) → AreViewsOf texts s views slots → IsViewOf texts s view n → AreViewsOf texts s (views ++ view ∷ []) (slots ++ n ∷ [])
  more_views [] [] view n h k = (k, tt)
  more_views [] (m ∷ slots) view n h k = absurd h
  more_views (v ∷ views) [] view n h k = absurd h
  more_views (v ∷ views) (m ∷ slots) view n h k = (h.0, more_views views slots view n h.1 k)

  abbrev AreSoFar : ℕ → Views → Type 0
  AreSoFar n views = (length views.views ≡ n) × AreViewsOf texts s views.views views.slots

  view_kept : (n : ℕ) (a b : Views) (place : Place) (d : Data) → AreSoFar n a → view_added (basis_of texts s) a place d ≡ Ok b → AreSoFar (suc n) b
  view_kept n a b place d h e =
      let form = bound (view_in (basis_of texts s) a.names place d) _ b e in
      let view = bound (view_over s.relations form.0.parts place) _ b form.2 in
      let enough = tested (nat_le (length (value_of view.0.parts (tables_of s.relations))) form.0.slots) Limit (in_member place member.Slots) _ b view.2 in
      let over = tested (is_none (refusal_of (schemas_of s.relations) form.0.parts)) Unbuilt place _ view.0 view.1 in
      let is : view_of (schemas_of s.relations) form.0.parts ≡ view.0 = cc in
      let same : with_view a form.0.name view.0 form.0.slots ≡ b = cc in
      let one : IsViewOf texts s view.0 form.0.slots = record { taken = a.names; place = place; value = d; form = form.0; was_read = form.1; view_is = sym is; slots_are = refl; suffice = enough.0 } in
      subst (AreSoFar (suc n)) same (one_longer a.views view.0 n h.0, more_views a.views a.slots view.0 form.0.slots h.1 one)

  views_read : (place : Place) (d : Data) (views : Views) → views_in (basis_of texts s) place d ≡ Ok views → (is_within 1 8 (length views.views) ≡ true) × AreViewsOf texts s views.views views.slots
  views_read place d views e =
      let r = list_read (view_added (basis_of texts s)) AreSoFar view_kept 1 8 place no_views views d (refl, tt) e in
      (ap (is_within 1 8) r.3.0 ∙ ap₂ (λ x y. x && y) r.1 r.2, r.3.1)

abbrev setup_made_of : Parts → SetupData
setup_made_of parts = record (setup_with parts.sources parts.views) { versions = parts.versions }

module _ (texts : List Text) (place : Place) where
  abbrev IsAccepted : Parts → Type 0
  IsAccepted parts = script_of_parts texts place parts ≡ Ok (script_with texts parts (setup_made_of parts))

  accepted : (parts : Parts) → setup_refusal (schemas_of parts.sources.relations) (setup_with parts.sources parts.views) ≡ None → work_refusal (setup_made_of parts) parts.sources.transactions ≡ None → IsAccepted parts
  accepted parts e f =
      let setup = goes_on (is_none (setup_refusal (schemas_of parts.sources.relations) (setup_with parts.sources parts.views))) Unbuilt place (Ok (setup_made_of parts)) (ap is_none e) in
      ap (λ o. o >>= λ setup. work_is_valid setup parts.sources.transactions place >> Ok (script_with texts parts setup)) setup
      ∙ goes_on (is_none (work_refusal (setup_made_of parts) parts.sources.transactions)) Unbuilt place (Ok (script_with texts parts (setup_made_of parts))) (ap is_none f)

  pub script_accepted : (d : Data) (parts : Parts) → parts_in texts place d ≡ Ok parts → IsAccepted parts
  script_accepted d parts e =
      let form = followed (object Document place d) _ parts e in
      let v = bound (versions_in place d) _ parts form.2 in
      let s = bound (sources_of texts place d) _ parts v.2 in
      let w = bound (views_of texts s.0 place d) _ parts s.2 in
      let p = bound (plan_in s.0.names w.0.names place d) _ parts w.2 in
      let sources = member_read member.Sources (sources_in texts) place d s.0 s.1 in
      let views = member_read member.Views (views_in (basis_of texts s.0)) place d w.0 w.1 in
      let are = views_read texts s.0 (in_member place member.Views) views.0 w.0 views.1 in
      let all : Parts = record { versions = v.0; sources = s.0; views = w.0; plan = p.0 } in
      let same : all ≡ parts = cc in
      let work = workload_made texts (in_member place member.Sources) sources.0 s.0 (setup_made_of all) sources.1 refl refl refl in
      let setup = setup_made texts (in_member place member.Sources) sources.0 s.0 w.0.views w.0.slots sources.1 are.0 are.1 in
      subst IsAccepted same (accepted all setup work)
