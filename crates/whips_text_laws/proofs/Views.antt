-- A view that was read, written with every member, has the same texts, and so have views.
--
-- `view_texts_stay` is the law of a view: its conditions are written as the data that they were read from (`conditions_stay`). `views_texts_stay` is
-- that of views: each stands at its place among those that were read (`views_made`).
use Rattle.std.proofs.Common.{◌≡◌, ℕ, suc, ◌+◌, List, [], ◌∷◌, ◌++◌, length, map, slice_get, slice_index_or, Option, Some, None, Ok, refl, sym, ap, ap₂, ◌∙◌, append_assoc, append-nil}
use Rattle.std.specs.Prelude.{fold, is_none}
use Rattle.std.specs.List.{AllByRecursion}
use Rattle.std.proofs.lemmas.Option.{get_or_from_slice_get}
use Rattle.serde_json.specs.Data.{Data}
use Rattle.serde_json.specs.Find.{get}
use Rattle.whips_lists.specs.Lists.{map_with_place}
use Rattle.whips_model.specs.declared.ColRef.{ColRef}
use Rattle.whips_model.specs.declared.Cond.{Cond}
use Rattle.whips_model.specs.Views.{ViewData}
use Rattle.whips_view.specs.ViewDefs.{View, view_of}
use Rattle.whips_view.specs.Refusals.{refusal_of}
use Rattle.whips_facts.specs.Scripts.{Labels}
use Rattle.whips_reading.specs.declared.place.Code.TheVariants.{Key, Unbuilt}
use Rattle.whips_reading.specs.declared.place.Member.TheVariants as member
use Rattle.whips_reading.specs.Json.{Text}
use Rattle.whips_reading.specs.Places.{Place, member_name, in_member, in_element}
use Rattle.whips_reading.specs.Reading.{elements, in_turn, within, within_or, read_or, number_within}
use Rattle.whips_texts.specs.Dictionary.{with_each_of, with_found, with_conditions, with_view, with_views}
use Rattle.whips_view_reading.specs.Columns.{view_columns}
use Rattle.whips_view_reading.specs.Choices.{equalities_in, conditions_in, out_in, Choice, choice_in}
use Rattle.whips_view_reading.specs.Views.{Basis, are_keys_out, with_keys, keyed_choice, parts_with, ViewForm, default_slots, named_view, numbers_in, parts_in, view_in}
use Rattle.whips_script_reading.specs.Views.{Views, no_views, schemas_of, view_over, slots_suffice, with_view as with_one, view_added, views_in}
use Rattle.whips_script_laws.proofs.Parts.{bound, followed, tested}
use Rattle.whips_script_laws.proofs.Appended.{one_longer}
use Rattle.whips_script_writing.specs.Objects.{list_data}
use Rattle.whips_script_writing.specs.Views.{condition_data, view_data, view_in as data_of}
use Rattle.whips_canonical_laws.specs.Known.{OfEach, KnowsView}
use Rattle.whips_canonical_laws.proofs.Lists.{listed_is, elements_listed, same_value}
use Rattle.whips_canonical_laws.proofs.Views.{conditions_written}
use Rattle.whips_text_laws.proofs.Relations.{elements_written}

-- what stands behind others
get_next : {X : Type 0} (xs : List X) (x : X) (ys : List X) → slice_get (xs ++ x ∷ ys) (length xs) ≡ Some x
get_next [] x ys = refl
get_next (y ∷ xs) x ys = get_next xs x ys

module _ (l : Labels) (basis : Basis) (texts_are : l.texts ≡ basis.texts) where
  -- ---- a view

  -- the texts of conditions that were read, or left out
  conditions_stay : (place : Place) (d : Data) (numbers : List ℕ) (conds : List Cond) → KnowsView l.texts d → (o : Option Data) → get (member_name member.Where) d ≡ o
      → read_or [] (conditions_in (view_columns basis.relations 0 numbers) basis.texts place) o ≡ Ok conds
      → (texts : List Text) → with_conditions texts (list_data (map (condition_data l basis.relations numbers) conds)) ≡ with_found with_conditions texts o
  conditions_stay place d numbers conds known None f e texts =
      let same : [] ≡ conds = same_value _ _ e in
      ap (λ cs. with_conditions texts (list_data (map (condition_data l basis.relations numbers) cs))) (sym same)
  conditions_stay place d numbers conds known (Some x) f e texts =
      let own = ap (λ ts. conditions_in (view_columns basis.relations 0 numbers) ts place x) texts_are ∙ e in
      ap (with_conditions texts) (conditions_written basis.relations numbers l place x conds (known x f) own)

  abbrev choice_of : List (ColRef × ColRef) → List Cond → List ColRef → Choice
  choice_of equal conds out = record { equal = equal; conds = conds; out = out }

  abbrev form_of : Text → ViewData → ℕ → ViewForm
  form_of name parts slots = record { name = name; parts = parts; slots = slots }

  pub view_texts_stay : (taken : List Text) (place : Place) (d : Data) (v : ViewForm) (view : View) → KnowsView l.texts d → view.parts ≡ v.parts → view_in basis taken place d ≡ Ok v
      → (texts : List Text) → with_view texts (view_data l basis.relations v.name view v.slots) ≡ with_view texts d
  view_texts_stay taken place d v view known parts_are e texts =
      let n = bound (named_view taken place d) _ v e in
      let p = bound (parts_in basis place d) _ v n.2 in
      let s = bound (within_or default_slots member.Slots (number_within 1 4096) place d) _ v p.2 in
      let is : form_of n.0 p.0 s.0 ≡ v = same_value _ _ s.2 in
      let ns = bound (numbers_in basis place d) _ p.0 p.1 in
      let columns = view_columns basis.relations 0 ns.0 in
      let c = bound (keyed_choice basis ns.0 place d) _ p.0 ns.2 in
      let parts : parts_with basis ns.0 c.0 ≡ p.0 = same_value _ _ c.2 in
      let ch = bound (choice_in columns basis.texts place d) (with_keys basis.relations ns.0 place) c.0 c.1 in
      let keys = tested (are_keys_out ch.0.out basis.relations 0 ns.0) Key (in_member place member.Out) _ c.0 ch.2 in
      let same_choice : ch.0 ≡ c.0 = same_value _ _ keys.1 in
      let eq = bound (within_or [] member.Equal (equalities_in columns) place d) _ ch.0 ch.1 in
      let co = bound (within_or [] member.Where (conditions_in columns basis.texts) place d) _ ch.0 eq.2 in
      let ou = bound (within member.Out (out_in columns) place d) _ ch.0 co.2 in
      let choice : choice_of eq.0 co.0 ou.0 ≡ ch.0 = same_value _ _ ou.2 in
      let shown : view.parts ≡ parts_with basis ns.0 (choice_of eq.0 co.0 ou.0) = parts_are ∙ ap (λ (x : ViewForm). x.parts) (sym is) ∙ sym (ap (parts_with basis ns.0) (choice ∙ same_choice) ∙ parts) in
      ap (λ (x : ViewData). with_conditions texts (list_data (map (condition_data l basis.relations x.relations) x.conds))) shown
      ∙ conditions_stay (in_member place member.Where) d ns.0 co.0 known (get (member_name member.Where) d) refl co.1 texts

  -- ---- views

  -- the data of the view x of these, with its name
  abbrev view_at : Views → ℕ → Text → Data
  view_at t x name = data_of l basis.relations name (slice_get t.views x) (slice_index_or t.slots x 0)

  -- what the views t have behind the n views s, where these add the texts that the data ds add
  record Behind (n : ℕ) (s t : Views) (ds : List Data) : Type 0 where
    names : List Text
    views : List View
    slots : List ℕ
    names_are : t.names ≡ s.names ++ names
    views_are : t.views ≡ s.views ++ views
    slots_are : t.slots ≡ s.slots ++ slots
    texts_stay : (texts : List Text) → fold with_view texts (map_with_place (view_at t) n names) ≡ fold with_view texts ds

  views_made : (place : Place) (i n : ℕ) (s t : Views) (ds : List Data) → AllByRecursion (KnowsView l.texts) ds → length s.views ≡ n → length s.slots ≡ n → in_turn (view_added basis) place i s ds ≡ Ok t → Behind n s t ds
  views_made place i n s t [] known many_views many_slots e =
      let same : s ≡ t = same_value _ _ e in
      record {
        names = [];
        views = [];
        slots = [];
        names_are = ap (λ (x : Views). x.names) (sym same) ∙ sym (append-nil s.names);
        views_are = ap (λ (x : Views). x.views) (sym same) ∙ sym (append-nil s.views);
        slots_are = ap (λ (x : Views). x.slots) (sym same) ∙ sym (append-nil s.slots);
        texts_stay = λ texts. refl;
      }
  views_made place i n s t (d ∷ ds) known many_views many_slots e =
      let q = in_element place i in
      let b = bound (view_added basis s q d) (λ u. in_turn (view_added basis) place (i + 1) u ds) t e in
      let f = bound (view_in basis s.names q d) _ b.0 b.1 in
      let w = bound (view_over basis.relations f.0.parts q) _ b.0 f.2 in
      let c = tested (is_none (refusal_of (schemas_of basis.relations) f.0.parts)) Unbuilt q _ w.0 w.1 in
      let view_is : view_of (schemas_of basis.relations) f.0.parts ≡ w.0 = same_value _ _ c.1 in
      let k = followed (slots_suffice basis.relations w.0 f.0.slots q) _ b.0 w.2 in
      let made : with_one s f.0.name w.0 f.0.slots ≡ b.0 = same_value _ _ k.2 in
      let more_views : length b.0.views ≡ suc n = ap (λ (x : Views). length x.views) (sym made) ∙ one_longer s.views w.0 n many_views in
      let more_slots : length b.0.slots ≡ suc n = ap (λ (x : Views). length x.slots) (sym made) ∙ one_longer s.slots f.0.slots n many_slots in
      let rest = views_made place (i + 1) (suc n) b.0 t ds known.1 more_views more_slots b.2 in
      let names_are = rest.names_are ∙ ap (λ (x : Views). x.names ++ rest.names) (sym made) ∙ append_assoc s.names (f.0.name ∷ []) rest.names in
      let views_are = rest.views_are ∙ ap (λ (x : Views). x.views ++ rest.views) (sym made) ∙ append_assoc s.views (w.0 ∷ []) rest.views in
      let slots_are = rest.slots_are ∙ ap (λ (x : Views). x.slots ++ rest.slots) (sym made) ∙ append_assoc s.slots (f.0.slots ∷ []) rest.slots in
      let view_there : slice_get t.views n ≡ Some w.0 = ap₂ (λ xs m. slice_get xs m) views_are (sym many_views) ∙ get_next s.views w.0 rest.views in
      let slots_there : slice_get t.slots n ≡ Some f.0.slots = ap₂ (λ xs m. slice_get xs m) slots_are (sym many_slots) ∙ get_next s.slots f.0.slots rest.slots in
      let written : view_at t n f.0.name ≡ view_data l basis.relations f.0.name w.0 f.0.slots = ap₂ (λ o m. data_of l basis.relations f.0.name o m) view_there (get_or_from_slice_get t.slots n f.0.slots 0 slots_there) in
      let parts_are : w.0.parts ≡ f.0.parts = ap (λ (x : View). x.parts) (sym view_is) in
      record {
        names = f.0.name ∷ rest.names;
        views = w.0 ∷ rest.views;
        slots = f.0.slots ∷ rest.slots;
        names_are = names_are;
        views_are = views_are;
        slots_are = slots_are;
        texts_stay = λ texts.
            ap (λ x. fold with_view x (map_with_place (view_at t) (suc n) rest.names)) (ap (with_view texts) written ∙ view_texts_stay s.names q d f.0 w.0 known.0 parts_are f.1 texts)
            ∙ rest.texts_stay (with_view texts d);
      }

  pub views_texts_stay : (place : Place) (d : Data) (views : Views) → OfEach (KnowsView l.texts) d → views_in basis place d ≡ Ok views
      → (texts : List Text) → with_views texts (list_data (map_with_place (λ x name. data_of l basis.relations name (slice_get views.views x) (slice_index_or views.slots x 0)) 0 views.names)) ≡ with_views texts d
  views_texts_stay place d views known e texts =
      let b = bound (elements 1 8 place d) (in_turn (view_added basis) place 0 no_views) views e in
      let ds = listed_is place d b.0 (elements_listed 1 8 place d b.0 b.1) in
      let made = views_made place 0 0 no_views views b.0 (known b.0 ds) refl refl b.2 in
      ap (λ xs. with_views texts (list_data (map_with_place (view_at views) 0 xs))) made.names_are
      ∙ ap (with_each_of with_view texts) (elements_written (map_with_place (view_at views) 0 made.names))
      ∙ made.texts_stay texts ∙ ap (with_each_of with_view texts) (sym ds)
