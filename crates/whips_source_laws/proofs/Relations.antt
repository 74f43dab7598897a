-- The relations of a source that were read, written canonically, are read again as the same.
use Rattle.std.proofs.Common.{◌≡◌, ℕ, suc, ◌+◌, List, [], ◌∷◌, ◌++◌, length, map, Ok, refl, sym, ap, ◌∙◌, append_assoc, append-nil}
use Rattle.std.specs.Prelude.{fold}
use Rattle.std.specs.List.{AllByRecursion}
use Rattle.std.proofs.lemmas.List.{length-map}
use Rattle.serde_json.specs.Data.{Data}
use Rattle.whips_facts.specs.Scripts.{Labels}
use Rattle.whips_reading.specs.Json.{Text}
use Rattle.whips_reading.specs.Places.{Place, in_element}
use Rattle.whips_reading.specs.Reading.{◌>>=◌, elements, in_turn}
use Rattle.whips_texts.specs.Dictionary.{with_relation, with_relations}
use Rattle.whips_relation_reading.specs.Relations.{RelationForm, relation_in, relation_added, relations_added}
use Rattle.whips_script_laws.proofs.Parts.{bound}
use Rattle.whips_script_writing.specs.Objects.{list_data}
use Rattle.whips_script_writing.specs.Relations.{relation_data}
use Rattle.whips_canonical_laws.specs.Known.{OfEach, KnowsRelation}
use Rattle.whips_canonical_laws.proofs.Lists.{same_value, listed_is, elements_listed}
use Rattle.whips_canonical_laws.proofs.Relations.{relation_again}
use Rattle.whips_text_laws.specs.Laws.{RelationTextsStay}
use Rattle.whips_source_laws.proofs.Lists.{elements_are, elements_again, each_texts}

module _ (l : Labels) (place : Place) where
  record InTurn (i : ℕ) (s t : List RelationForm) (ds : List Data) : Type 0 where
    new : List RelationForm
    are : t ≡ s ++ new
    count : length new ≡ length ds
    again : in_turn (relation_added l.texts) place i s (map (relation_data l) new) ≡ Ok t
    texts_stay : RelationTextsStay → (texts : List Text) → fold with_relation texts (map (relation_data l) new) ≡ fold with_relation texts ds

  all_in_turn : (i : ℕ) (s t : List RelationForm) (ds : List Data) → AllByRecursion (KnowsRelation l.texts) ds → in_turn (relation_added l.texts) place i s ds ≡ Ok t → InTurn i s t ds
  all_in_turn i s t [] known e = record { new = []; are = sym (same_value s t e) ∙ sym (append-nil s); count = refl; again = e; texts_stay = λ stays texts. refl }
  all_in_turn i s t (d ∷ ds) known e =
      let q = in_element place i in
      let b = bound (relation_added l.texts s q d) (λ u. in_turn (relation_added l.texts) place (i + 1) u ds) t e in
      let r = bound (relation_in l.texts s q d) (λ x. Ok (s ++ x ∷ [])) b.0 b.1 in
      let rest = all_in_turn (i + 1) b.0 t ds known.1 b.2 in
      let later = map (relation_data l) rest.new in
      record {
        new = r.0 ∷ rest.new;
        are = rest.are ∙ ap (λ x. x ++ rest.new) (sym (same_value _ _ r.2)) ∙ append_assoc s (r.0 ∷ []) rest.new;
        count = ap suc rest.count;
        again = ap (λ x. (x >>= λ y. Ok (s ++ y ∷ [])) >>= λ u. in_turn (relation_added l.texts) place (i + 1) u later) (relation_again l s q d r.0 known.0 r.1) ∙ ap (λ x. x >>= λ u. in_turn (relation_added l.texts) place (i + 1) u later) r.2 ∙ rest.again;
        texts_stay = λ stays texts. ap (λ ts. fold with_relation ts later) (stays l s q d r.0 known.0 r.1 texts) ∙ rest.texts_stay stays (with_relation texts d);
      }

  -- the relations that were read are read again of what they are written as
  pub record AreRelations (s t : List RelationForm) (d : Data) : Type 0 where
    pub new : List RelationForm
    pub are : t ≡ s ++ new
    pub again : relations_added l.texts s place (list_data (map (relation_data l) new)) ≡ Ok t
    pub texts_stay : RelationTextsStay → (texts : List Text) → with_relations texts (list_data (map (relation_data l) new)) ≡ with_relations texts d

  pub relations_again : (s t : List RelationForm) (d : Data) → OfEach (KnowsRelation l.texts) d → relations_added l.texts s place d ≡ Ok t → AreRelations s t d
  relations_again s t d known e =
      let b = bound (elements 1 4 place d) (in_turn (relation_added l.texts) place 0 s) t e in
      let is = listed_is place d b.0 (elements_listed 1 4 place d b.0 b.1) in
      let x = all_in_turn 0 s t b.0 (known b.0 is) b.2 in
      let es = map (relation_data l) x.new in
      record {
        new = x.new;
        are = x.are;
        again = ap (λ r. r >>= in_turn (relation_added l.texts) place 0 s) (elements_again 1 4 place place d b.0 es b.1 (length-map x.new (relation_data l) ∙ x.count)) ∙ x.again;
        texts_stay = λ stays texts. each_texts with_relation texts (list_data es) es (elements_are es) ∙ x.texts_stay stays texts ∙ sym (each_texts with_relation texts d b.0 is);
      }
