-- A view that was read, written with every member, is read as the same view.
use Rattle.std.proofs.Common.{◌≡◌, ℕ, true, List, [], ◌∷◌, map, Option, Some, None, Ok, refl, sym, ap, subst, ◌∙◌}
use Rattle.serde_json.specs.Data.{Data, string}
use Rattle.serde_json.specs.Find.{get}
use Rattle.whips_model.specs.declared.ColRef.{ColRef}
use Rattle.whips_model.specs.declared.Cond.{Cond}
use Rattle.whips_model.specs.Views.{ViewData}
use Rattle.whips_view.specs.ViewDefs.{View}
use Rattle.whips_facts.specs.Scripts.{Labels}
use Rattle.whips_reports.specs.Lines.{name_at}
use Rattle.whips_reading.specs.declared.place.Code.TheVariants.{Shape, Key}
use Rattle.whips_reading.specs.declared.place.Member.TheVariants as member
use Rattle.whips_reading.specs.declared.json.ObjectForm.TheVariants.{View as ViewObject}
use Rattle.whips_reading.specs.Json.{Text, is_object_of}
use Rattle.whips_reading.specs.Members.{is_member_of}
use Rattle.whips_reading.specs.Places.{Place, member_name, in_member}
use Rattle.whips_reading.specs.Reading.{Read, ◌>>=◌, ◌>>◌, check, within, within_or, read_or, number_within}
use Rattle.whips_reading.specs.Names.{fresh_name}
use Rattle.whips_relation_reading.specs.Relations.{RelationForm, relation_names}
use Rattle.whips_view_reading.specs.Columns.{view_columns}
use Rattle.whips_view_reading.specs.Choices.{equalities_in, conditions_in, out_in, Choice, choice_in}
use Rattle.whips_view_reading.specs.Views.{Basis, relations_in, are_keys_out, with_keys, keyed_choice, parts_with, ViewForm, default_slots, named_view, numbers_in, parts_in, view_in}
use Rattle.whips_script_laws.proofs.Parts.{bound, tested, member_read}
use Rattle.whips_script_writing.specs.Objects.{number_data, list_data, text_list}
use Rattle.whips_script_writing.specs.Views.{column_text, equality_data, condition_data, view_data}
use Rattle.whips_canonical_laws.specs.Known.{KnowsConditions, KnowsView}
use Rattle.whips_canonical_laws.proofs.Lists.{same_value}
use Rattle.whips_canonical_laws.proofs.Values.{fresh_written}
use Rattle.whips_canonical_laws.proofs.Schedules.{number_written}
use Rattle.whips_canonical_laws.proofs.Views.{view_relations_written, equalities_written, conditions_written, out_written}

-- a list that may be left out, and then is none
pub list_again : {X : Type 0} (reading : Data → Read (List X)) (data_of : X → Data) (xs : List X) (o : Option Data) → reading (list_data []) ≡ Ok [] → ((e : Data) → o ≡ Some e → reading e ≡ Ok xs → list_data (map data_of xs) ≡ e) → read_or [] reading o ≡ Ok xs → reading (list_data (map data_of xs)) ≡ Ok xs
list_again reading data_of xs None none written e = let same : [] ≡ xs = cc in subst (λ ys. reading (list_data (map data_of ys)) ≡ Ok ys) same none
list_again reading data_of xs (Some d) none written e = ap reading (written d refl e) ∙ e

-- a number that may be left out, and then is the default
slots_again : (place : Place) (n : ℕ) (o : Option Data) → read_or default_slots (number_within 1 4096 place) o ≡ Ok n → number_within 1 4096 place (number_data n) ≡ Ok n
slots_again place n None e = let same : default_slots ≡ n = cc in subst (λ k. number_within 1 4096 place (number_data k) ≡ Ok k) same refl
slots_again place n (Some d) e = ap (number_within 1 4096 place) (number_written 1 4096 place d n e) ∙ e

module _ (l : Labels) (basis : Basis) (texts_are : l.texts ≡ basis.texts) (taken : List Text) (place : Place) where
  abbrev choice_of : List (ColRef × ColRef) → List Cond → List ColRef → Choice
  choice_of equal conds out = record { equal = equal; conds = conds; out = out }

  abbrev form_of : Text → ViewData → ℕ → ViewForm
  form_of name parts slots = record { name = name; parts = parts; slots = slots }

  pub view_again : (d : Data) (v : ViewForm) (view : View) → KnowsView l.texts d → view.parts ≡ v.parts → view_in basis taken place d ≡ Ok v → view_in basis taken place (view_data l basis.relations v.name view v.slots) ≡ Ok v
  view_again d v view known parts_are e =
      let n = bound (named_view taken place d) _ v e in
      let o = tested (is_object_of (is_member_of ViewObject) d) Shape place _ n.0 n.1 in
      let name = member_read member.Name (fresh_name taken) place d n.0 o.1 in
      let p = bound (parts_in basis place d) _ v n.2 in
      let s = bound (within_or default_slots member.Slots (number_within 1 4096) place d) _ v p.2 in
      let is : form_of n.0 p.0 s.0 ≡ v = same_value _ _ s.2 in
      let ns = bound (numbers_in basis place d) _ p.0 p.1 in
      let numbers = member_read member.Relations (relations_in (relation_names basis.relations)) place d ns.0 ns.1 in
      let columns = view_columns basis.relations 0 ns.0 in
      let c = bound (keyed_choice basis ns.0 place d) _ p.0 ns.2 in
      let parts : parts_with basis ns.0 c.0 ≡ p.0 = same_value _ _ c.2 in
      let ch = bound (choice_in columns basis.texts place d) (with_keys basis.relations ns.0 place) c.0 c.1 in
      let keys = tested (are_keys_out ch.0.out basis.relations 0 ns.0) Key (in_member place member.Out) _ c.0 ch.2 in
      let same_choice : ch.0 ≡ c.0 = same_value _ _ keys.1 in
      let eq = bound (within_or [] member.Equal (equalities_in columns) place d) _ ch.0 ch.1 in
      let co = bound (within_or [] member.Where (conditions_in columns basis.texts) place d) _ ch.0 eq.2 in
      let ou = bound (within member.Out (out_in columns) place d) _ ch.0 co.2 in
      let choice : choice_of eq.0 co.0 ou.0 ≡ ch.0 = same_value _ _ ou.2 in
      let out = member_read member.Out (out_in columns) place d ou.0 ou.1 in
      let is_name : fresh_name taken (in_member place member.Name) (string n.0) ≡ Ok n.0 = ap (fresh_name taken (in_member place member.Name)) (fresh_written taken (in_member place member.Name) name.0 n.0 name.1) ∙ name.1 in
      let are_numbers : relations_in (relation_names basis.relations) (in_member place member.Relations) (text_list (map (name_at (relation_names basis.relations)) ns.0)) ≡ Ok ns.0 =
      ap (relations_in (relation_names basis.relations) (in_member place member.Relations)) (view_relations_written (relation_names basis.relations) (in_member place member.Relations) numbers.0 ns.0 numbers.1) ∙ numbers.1
      in
      let are_equal = list_again (equalities_in columns (in_member place member.Equal)) (equality_data basis.relations ns.0) eq.0 (get (member_name member.Equal) d) refl (λ x f g. equalities_written basis.relations ns.0 (in_member place member.Equal) x eq.0 g) eq.1 in
      let are_conds = list_again (conditions_in columns basis.texts (in_member place member.Where)) (condition_data l basis.relations ns.0) co.0 (get (member_name member.Where) d) refl
      (λ x f g. conditions_written basis.relations ns.0 l (in_member place member.Where) x co.0 (known x f) (ap (λ ts. conditions_in columns ts (in_member place member.Where) x) texts_are ∙ g)) co.1 in
      let are_out : out_in columns (in_member place member.Out) (text_list (map (column_text basis.relations ns.0) ou.0)) ≡ Ok ou.0 =
      ap (out_in columns (in_member place member.Out)) (out_written basis.relations ns.0 (in_member place member.Out) out.0 ou.0 out.1) ∙ out.1
      in
      let are_slots = slots_again (in_member place member.Slots) s.0 (get (member_name member.Slots) d) s.1 in
      let keyed : are_keys_out ou.0 basis.relations 0 ns.0 ≡ true = ap (λ (x : Choice). are_keys_out x.out basis.relations 0 ns.0) choice ∙ keys.0 in
      let all : ViewData = parts_with basis ns.0 (choice_of eq.0 co.0 ou.0) in
      let same : all ≡ p.0 = ap (parts_with basis ns.0) (choice ∙ same_choice) ∙ parts in
      let shown : view.parts ≡ all = parts_are ∙ ap (λ (x : ViewForm). x.parts) (sym is) ∙ sym same in
      let de = list_data (map (equality_data basis.relations ns.0) eq.0) in
      let dw = list_data (map (condition_data l basis.relations ns.0) co.0) in
      let dt = text_list (map (column_text basis.relations ns.0) ou.0) in
      let dr = text_list (map (name_at (relation_names basis.relations)) ns.0) in
      let pr = in_member place member.Relations in
      let pe = in_member place member.Equal in
      let pw = in_member place member.Where in
      let po = in_member place member.Out in
      let ps = in_member place member.Slots in
      let again : view_in basis taken place (view_data l basis.relations n.0 (record view { parts = all }) s.0) ≡ Ok (form_of n.0 all s.0) =
      ap (λ (x : Read Text). x >>= λ name. (relations_in (relation_names basis.relations) pr dr >>= λ numbers. ((equalities_in (view_columns basis.relations 0 numbers) pe de >>= λ equal. conditions_in (view_columns basis.relations 0 numbers) basis.texts pw dw >>= λ conds. out_in (view_columns basis.relations 0 numbers) po dt >>= λ out. Ok (choice_of equal conds out)) >>= with_keys basis.relations numbers place) >>= λ choice. Ok (parts_with basis numbers choice)) >>= λ parts. number_within 1 4096 ps (number_data s.0) >>= λ slots. Ok (form_of name parts slots)) is_name
      ∙ ap (λ (x : Read (List ℕ)). (x >>= λ numbers. ((equalities_in (view_columns basis.relations 0 numbers) pe de >>= λ equal. conditions_in (view_columns basis.relations 0 numbers) basis.texts pw dw >>= λ conds. out_in (view_columns basis.relations 0 numbers) po dt >>= λ out. Ok (choice_of equal conds out)) >>= with_keys basis.relations numbers place) >>= λ choice. Ok (parts_with basis numbers choice)) >>= λ parts. number_within 1 4096 ps (number_data s.0) >>= λ slots. Ok (form_of n.0 parts slots)) are_numbers
      ∙ ap (λ (x : Read (List (ColRef × ColRef))). ((x >>= λ equal. conditions_in columns basis.texts pw dw >>= λ conds. out_in columns po dt >>= λ out. Ok (choice_of equal conds out)) >>= with_keys basis.relations ns.0 place >>= λ choice. Ok (parts_with basis ns.0 choice)) >>= λ parts. number_within 1 4096 ps (number_data s.0) >>= λ slots. Ok (form_of n.0 parts slots)) are_equal
      ∙ ap (λ (x : Read (List Cond)). ((x >>= λ conds. out_in columns po dt >>= λ out. Ok (choice_of eq.0 conds out)) >>= with_keys basis.relations ns.0 place >>= λ choice. Ok (parts_with basis ns.0 choice)) >>= λ parts. number_within 1 4096 ps (number_data s.0) >>= λ slots. Ok (form_of n.0 parts slots)) are_conds
      ∙ ap (λ (x : Read (List ColRef)). ((x >>= λ out. Ok (choice_of eq.0 co.0 out)) >>= with_keys basis.relations ns.0 place >>= λ choice. Ok (parts_with basis ns.0 choice)) >>= λ parts. number_within 1 4096 ps (number_data s.0) >>= λ slots. Ok (form_of n.0 parts slots)) are_out
      ∙ ap (λ b. ((check b Key po >> Ok (choice_of eq.0 co.0 ou.0)) >>= λ choice. Ok (parts_with basis ns.0 choice)) >>= λ parts. number_within 1 4096 ps (number_data s.0) >>= λ slots. Ok (form_of n.0 parts slots)) keyed
      ∙ ap (λ (x : Read ℕ). x >>= λ slots. Ok (form_of n.0 all slots)) are_slots
      in
      let form : form_of n.0 all s.0 ≡ v = ap (λ x. form_of n.0 x s.0) same ∙ is in
      let shape : view_data l basis.relations n.0 view s.0 ≡ view_data l basis.relations n.0 (record view { parts = all }) s.0 = ap (λ x. view_data l basis.relations n.0 (record view { parts = x }) s.0) shown in
      let named : view_data l basis.relations v.name view v.slots ≡ view_data l basis.relations n.0 view s.0 = ap (λ (x : ViewForm). view_data l basis.relations x.name view x.slots) (sym is) in
      ap (view_in basis taken place) (named ∙ shape) ∙ again ∙ ap Ok form
