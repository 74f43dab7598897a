-- A document as it is written is read as the parts of the script that it was written of.
use Rattle.std.proofs.Common.{◌≡◌, ℕ, ◌==◌, Bool, true, false, List, [], ◌∷◌, Option, Some, None, Ok, refl, sym, ap, subst, ◌∙◌, eqb-true}
use Rattle.std.specs.Prelude.{⊤, if◌then◌else◌}
use Rattle.serde_json.specs.Data.{Data}
use Rattle.serde_json.specs.Find.{get}
use Rattle.whips_facts.specs.Scripts.{Labels}
use Rattle.whips_reading.specs.declared.json.ObjectForm.TheVariants.{Document}
use Rattle.whips_reading.specs.declared.place.Code.TheVariants.{Shape}
use Rattle.whips_reading.specs.declared.place.Member.{Member}
use Rattle.whips_reading.specs.declared.place.Member.TheVariants as member
use Rattle.whips_reading.specs.Places.{Place, member_name, in_member}
use Rattle.whips_reading.specs.Reading.{Read, ◌>>=◌, ◌>>◌, there, within, read_or, object, number_within}
use Rattle.whips_update_reading.specs.Sources.{Sources, sources_in}
use Rattle.whips_plan_reading.specs.Plans.{PlanForm, plan_in}
use Rattle.whips_script_reading.specs.Views.{Views, views_in}
use Rattle.whips_script_reading.specs.Script.{Parts, default_versions, basis_of, versions_in, sources_of, views_of, parts_in}
use Rattle.whips_script_laws.proofs.Parts.{bound, followed}
use Rattle.whips_script_writing.specs.Objects.{number_data, text_list, object_data}
use Rattle.whips_script_writing.specs.Scripts.{schedule_data}
use Rattle.whips_canonical_laws.specs.Known.{OfEach, KnowsSource, KnowsDocument}
use Rattle.whips_canonical_laws.proofs.Lists.{same_value}
use Rattle.whips_canonical_laws.proofs.Schedules.{number_written}
use Rattle.whips_canonical_scripts.specs.Laws.{views_data}
use Rattle.whips_canonical_scripts.proofs.Views.{views_again}
use Rattle.whips_canonical_scripts.proofs.Plans.{plan_again}

-- ---- a member that is there

pub there_read : {A : Type 0} (m : Member) (reading : Place → Data → Read A) (place : Place) (d e : Data) (a : A) → get (member_name m) d ≡ Some e → reading (in_member place m) e ≡ Ok a → within m reading place d ≡ Ok a
there_read m reading place d e a is read = ap (λ o. there o Shape (in_member place m) >>= reading (in_member place m)) is ∙ read

-- a member that was read is there
pub was_there : {A : Type 0} (m : Member) (reading : Place → Data → Read A) (place : Place) (d : Data) (a : A) → within m reading place d ≡ Ok a → (e : Data) × (get (member_name m) d ≡ Some e) × (reading (in_member place m) e ≡ Ok a)
was_there m reading place d a r = go (get (member_name m) d) refl r
  where
    go : (o : Option Data) → get (member_name m) d ≡ o → (there o Shape (in_member place m) >>= reading (in_member place m)) ≡ Ok a → (e : Data) × (get (member_name m) d ≡ Some e) × (reading (in_member place m) e ≡ Ok a)
    go None is f = absurd (cc)
    go (Some e) is f = (e, is, f)

-- ---- a document with these members

abbrev versions_written : Bool → ℕ → List (Member × Data) → List (Member × Data)
versions_written b n ms = if b then ms else (member.Versions, number_data n) ∷ ms

abbrev document_with : Bool → ℕ → (schedule sessions sources views : Data) → Data
document_with b n schedule sessions sources views = object_data (
    (member.Schedule, schedule)
    ∷ (member.Sessions, sessions)
    ∷ (member.Sources, sources)
    ∷ versions_written b n ((member.Views, views) ∷ []))

module _ (n : ℕ) (schedule sessions sources views : Data) where
  abbrev whole : Bool → Data
  whole b = document_with b n schedule sessions sources views

  is_document : (b : Bool) (place : Place) → object Document place (whole b) ≡ Ok tt
  is_document true place = refl
  is_document false place = refl

  pub has_schedule : (b : Bool) → get (member_name member.Schedule) (whole b) ≡ Some schedule
  has_schedule true = refl
  has_schedule false = refl

  pub has_sessions : (b : Bool) → get (member_name member.Sessions) (whole b) ≡ Some sessions
  has_sessions true = refl
  has_sessions false = refl

  pub has_sources : (b : Bool) → get (member_name member.Sources) (whole b) ≡ Some sources
  has_sources true = refl
  has_sources false = refl

  pub has_views : (b : Bool) → get (member_name member.Views) (whole b) ≡ Some views
  has_views true = refl
  has_views false = refl

-- a number of versions that was read, or left out
versions_read : (place : Place) (o : Option Data) (n : ℕ) → read_or default_versions (number_within 2 4 place) o ≡ Ok n → number_within 2 4 place (number_data n) ≡ Ok n
versions_read place None n e = let same : default_versions ≡ n = same_value _ _ e in subst (λ k. number_within 2 4 place (number_data k) ≡ Ok k) same refl
versions_read place (Some d) n e = ap (number_within 2 4 place) (number_written 2 4 place d n e) ∙ e

versions_again : (place : Place) (d : Data) (n : ℕ) (schedule sessions sources views : Data) → versions_in place d ≡ Ok n → versions_in place (document_with (n == default_versions) n schedule sessions sources views) ≡ Ok n
versions_again place d n schedule sessions sources views e = go (n == default_versions) (λ h. eqb-true n default_versions h)
  where
    go : (b : Bool) → (b ≡ true → n ≡ default_versions) → versions_in place (document_with b n schedule sessions sources views) ≡ Ok n
    go true is = ap (λ k. Ok k) (sym (is refl))
    go false is = versions_read (in_member place member.Versions) (get (member_name member.Versions) d) n e

module _ (l : Labels) (place : Place) (d : Data) (p : Parts) (known : KnowsDocument l.texts d)
    (sources_are : l.sources ≡ p.sources.names) (views_are : l.views ≡ p.views.names) (sessions_are : l.sessions ≡ p.plan.sessions)
    (sources_data : Data) (sources_again : (q : Place) (e : Data) → OfEach (KnowsSource l.texts) e → sources_in l.texts q e ≡ Ok p.sources → sources_in l.texts q sources_data ≡ Ok p.sources) where
  abbrev written : Data
  written = document_with (p.versions == default_versions) p.versions (schedule_data l p.plan.plan) (text_list p.plan.sessions) sources_data (views_data l p.sources.relations p.views)

  abbrev parts_with : ℕ → Sources → Views → PlanForm → Parts
  parts_with versions sources views plan = record { versions = versions; sources = sources; views = views; plan = plan }

  pub parts_again : parts_in l.texts place d ≡ Ok p → parts_in l.texts place written ≡ Ok p
  parts_again f =
      let o = followed (object Document place d) _ p f in
      let v = bound (versions_in place d) _ p o.2 in
      let s = bound (sources_of l.texts place d) _ p v.2 in
      let w = bound (views_of l.texts s.0 place d) _ p s.2 in
      let q = bound (plan_in s.0.names w.0.names place d) _ p w.2 in
      let same : parts_with v.0 s.0 w.0 q.0 ≡ p = same_value _ _ q.2 in
      let is_versions : v.0 ≡ p.versions = ap (λ (x : Parts). x.versions) same in
      let is_sources : s.0 ≡ p.sources = ap (λ (x : Parts). x.sources) same in
      let is_views : w.0 ≡ p.views = ap (λ (x : Parts). x.views) same in
      let is_plan : q.0 ≡ p.plan = ap (λ (x : Parts). x.plan) same in
      let b = p.versions == default_versions in
      let ds = schedule_data l p.plan.plan in
      let de = text_list p.plan.sessions in
      let dv = views_data l p.sources.relations p.views in
      let versions : versions_in place written ≡ Ok p.versions = versions_again place d p.versions ds de sources_data dv (v.1 ∙ ap (λ n. Ok n) is_versions) in
      let read_sources = was_there member.Sources (sources_in l.texts) place d p.sources (s.1 ∙ ap (λ x. Ok x) is_sources) in
      let sources : sources_of l.texts place written ≡ Ok p.sources = there_read member.Sources (sources_in l.texts) place written sources_data p.sources (has_sources p.versions ds de sources_data dv b) (sources_again (in_member place member.Sources) read_sources.0 (known.0 read_sources.0 read_sources.1) read_sources.2) in
      let read_views = was_there member.Views (views_in (basis_of l.texts p.sources)) place d p.views (ap (λ x. views_of l.texts x place d) (sym is_sources) ∙ w.1 ∙ ap (λ x. Ok x) is_views) in
      let views : views_of l.texts p.sources place written ≡ Ok p.views = there_read member.Views (views_in (basis_of l.texts p.sources)) place written dv p.views (has_views p.versions ds de sources_data dv b) (views_again l (basis_of l.texts p.sources) refl (in_member place member.Views) read_views.0 p.views (known.1 read_views.0 read_views.1) read_views.2) in
      let was_plan : plan_in l.sources l.views place d ≡ Ok p.plan = ap (λ x. plan_in x l.views place d) sources_are ∙ ap (λ x. plan_in p.sources.names x place d) views_are ∙ ap (λ (x : Sources). plan_in x.names p.views.names place d) (sym is_sources) ∙ ap (λ (x : Views). plan_in s.0.names x.names place d) (sym is_views) ∙ q.1 ∙ ap (λ x. Ok x) is_plan in
      let plan : plan_in p.sources.names p.views.names place written ≡ Ok p.plan = ap (λ x. plan_in x p.views.names place written) (sym sources_are) ∙ ap (λ x. plan_in l.sources x place written) (sym views_are)
      ∙ plan_again l place d written p.plan sessions_are (has_sessions p.versions ds de sources_data dv b) (has_schedule p.versions ds de sources_data dv b) was_plan in
      ap (λ (r : Read ⊤). r >> (versions_in place written >>= λ n. sources_of l.texts place written >>= λ x. views_of l.texts x place written >>= λ y. plan_in x.names y.names place written >>= λ z. Ok (parts_with n x y z))) (is_document p.versions ds de sources_data dv b place)
      ∙ ap (λ (r : Read ℕ). r >>= λ n. sources_of l.texts place written >>= λ x. views_of l.texts x place written >>= λ y. plan_in x.names y.names place written >>= λ z. Ok (parts_with n x y z)) versions
      ∙ ap (λ (r : Read Sources). r >>= λ x. views_of l.texts x place written >>= λ y. plan_in x.names y.names place written >>= λ z. Ok (parts_with p.versions x y z)) sources
      ∙ ap (λ (r : Read Views). r >>= λ y. plan_in p.sources.names y.names place written >>= λ z. Ok (parts_with p.versions p.sources y z)) views
      ∙ ap (λ (r : Read PlanForm). r >>= λ z. Ok (parts_with p.versions p.sources p.views z)) plan
