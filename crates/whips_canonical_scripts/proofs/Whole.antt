-- The canonical text of a script is read as the same script.
--
-- `script_again` is the law. The document that a script is written as is read as the same parts (`parts_again`), with the texts of the
-- document that it was read from, since these stay and are known; the parts make the script (`script_accepted`); and since the document is plain,
-- its compact text is read as it (`text_read`).
use Rattle.std.proofs.Common.{◌≡◌, ℕ, ◌==◌, true, List, [], Some, None, Ok, refl, sym, ap, subst, ◌∙◌}
use Rattle.std.specs.Prelude.{if◌then◌else◌}
use Rattle.std.specs.Str.{is_utf8}
use Rattle.serde_json.specs.Data.{Data}
use Rattle.serde_json.specs.Find.{get}
use Rattle.serde_json.specs.Read.{read}
use Rattle.whips_setup.specs.Setups.{SetupData}
use Rattle.whips_facts.specs.Scripts.{Labels}
use Rattle.whips_reading.specs.declared.json.ObjectForm.TheVariants.{Document}
use Rattle.whips_reading.specs.declared.place.Code.TheVariants.{Syntax}
use Rattle.whips_reading.specs.declared.place.Member.TheVariants as member
use Rattle.whips_reading.specs.Json.{Text}
use Rattle.whips_reading.specs.Places.{member_name, in_member}
use Rattle.whips_reading.specs.Reading.{◌>>=◌, there, object, document}
use Rattle.whips_texts.specs.Dictionary.{with_found, with_sources, with_views, texts_of}
use Rattle.whips_update_reading.specs.Sources.{sources_in}
use Rattle.whips_plan_reading.specs.Plans.{plan_in}
use Rattle.whips_script_reading.specs.Views.{views_in}
use Rattle.whips_script_reading.specs.Script.{NamedScript, Parts, basis_of, default_versions, versions_in, sources_of, views_of, setup_with, labels_of, script_with, script_of_parts, parts_in, script_in, script_of}
use Rattle.whips_script_laws.proofs.Parts.{bound, followed}
use Rattle.whips_script_laws.proofs.Scripted.{script_accepted}
use Rattle.whips_script_writing.specs.Objects.{text_list}
use Rattle.whips_script_writing.specs.Scripts.{schedule_data, document_data, canonical}
use Rattle.whips_canonical_laws.proofs.Lists.{same_value}
use Rattle.whips_canonical_laws.proofs.Printed.{text_read}
use Rattle.whips_source_laws.specs.Laws.{sources_data}
use Rattle.whips_source_laws.proofs.Sources.{sources_again, sources_texts_stay}
use Rattle.whips_text_laws.proofs.Known.{texts_known}
use Rattle.whips_text_laws.proofs.Relations.{relation_texts_stay}
use Rattle.whips_text_laws.proofs.Views.{views_texts_stay}
use Rattle.whips_plain_laws.proofs.Documents.{document_plain}
use Rattle.whips_canonical_scripts.specs.Laws.{views_data}
use Rattle.whips_canonical_scripts.proofs.Documents.{was_there, has_sources, has_views, parts_again}

-- the setup and the labels of a script of these parts
abbrev setup_of : Parts → SetupData
setup_of p = record (setup_with p.sources p.views) { versions = p.versions }

abbrev labels_with : List Text → Parts → Labels
labels_with texts p = labels_of p.sources.names p.views.names p.plan.sessions texts

abbrev made : List Text → Parts → NamedScript
made texts p = script_with texts p (setup_of p)

-- the texts of a document with these sources and views
texts_with : (d s v : Data) → get (member_name member.Sources) d ≡ Some s → get (member_name member.Views) d ≡ Some v → texts_of d ≡ with_views (with_sources [] s) v
texts_with d s v is_sources is_views =
    ap (λ o. with_found with_views (with_found with_sources [] (get (member_name member.Sources) d)) o) is_views
    ∙ ap (λ o. with_views (with_found with_sources [] o) v) is_sources

module _ (d : Data) (p : Parts) (e : parts_in (texts_of d) [] d ≡ Ok p) where
  abbrev texts : List Text
  texts = texts_of d

  abbrev l : Labels
  l = labels_with texts p

  abbrev s : NamedScript
  s = made texts p

  again : parts_in texts [] (document_data s) ≡ Ok p
  again = parts_again l [] d p (texts_known d) refl refl refl (sources_data l p.sources) (λ q x known f. sources_again l q x p.sources known f) e

  texts_stay : texts_of (document_data s) ≡ texts
  texts_stay =
      let known = texts_known d in
      let o = followed (object Document [] d) _ p e in
      let v = bound (versions_in [] d) _ p o.2 in
      let so = bound (sources_of texts [] d) _ p v.2 in
      let vi = bound (views_of texts so.0 [] d) _ p so.2 in
      let pl = bound (plan_in so.0.names vi.0.names [] d) _ p vi.2 in
      let same : (let x : Parts = record { versions = v.0; sources = so.0; views = vi.0; plan = pl.0 } in x) ≡ p = same_value _ _ pl.2 in
      let is_sources : so.0 ≡ p.sources = ap (λ (x : Parts). x.sources) same in
      let is_views : vi.0 ≡ p.views = ap (λ (x : Parts). x.views) same in
      let a = was_there member.Sources (sources_in texts) [] d p.sources (so.1 ∙ ap (λ x. Ok x) is_sources) in
      let b = was_there member.Views (views_in (basis_of texts p.sources)) [] d p.views (ap (λ x. views_of texts x [] d) (sym is_sources) ∙ vi.1 ∙ ap (λ x. Ok x) is_views) in
      let n = p.versions in
      let ds = schedule_data l p.plan.plan in
      let de = text_list p.plan.sessions in
      let dc = sources_data l p.sources in
      let dv = views_data l p.sources.relations p.views in
      texts_with (document_data s) dc dv (has_sources n ds de dc dv (n == default_versions)) (has_views n ds de dc dv (n == default_versions))
      ∙ ap (λ ts. with_views ts dv) (sources_texts_stay relation_texts_stay l (in_member [] member.Sources) a.0 p.sources (known.0 a.0 a.1) a.2 [])
      ∙ views_texts_stay l (basis_of texts p.sources) refl (in_member [] member.Views) b.0 p.views (known.1 b.0 b.1) b.2 (with_sources [] a.0)
      ∙ sym (texts_with d a.0 b.0 a.1 b.1)

  document_again : is_utf8 (canonical s) ≡ true → document (canonical s) ≡ Ok (document_data s)
  document_again utf8 =
      let plain = document_plain s texts [] p again in
      ap (λ b. there (if b then read (canonical s) else None) Syntax []) utf8 ∙ ap (λ o. there o Syntax []) (text_read (document_data s) plain.0 plain.1)

  made_again : is_utf8 (canonical s) ≡ true → script_of (canonical s) ≡ Ok s
  made_again utf8 =
      ap (λ r. r >>= script_in []) (document_again utf8)
      ∙ ap (λ ts. parts_in ts [] (document_data s) >>= script_of_parts ts []) texts_stay
      ∙ ap (λ r. r >>= script_of_parts texts []) again
      ∙ script_accepted texts [] d p e

pub script_again : (bytes : List ℕ) (s : NamedScript) → script_of bytes ≡ Ok s → is_utf8 (canonical s) ≡ true → script_of (canonical s) ≡ Ok s
script_again bytes s e =
    let d = bound (document bytes) (script_in []) s e in
    let p = bound (parts_in (texts_of d.0) [] d.0) (script_of_parts (texts_of d.0) []) s d.2 in
    let is : made (texts_of d.0) p.0 ≡ s = same_value _ _ (sym (script_accepted (texts_of d.0) [] d.0 p.0 p.1) ∙ p.2) in
    subst (λ x. is_utf8 (canonical x) ≡ true → script_of (canonical x) ≡ Ok x) is (made_again d.0 p.0 p.1)
