-- Views that were read, written with every member, are read again as the same.
use Rattle.std.proofs.Common.{◌≡◌, ℕ, suc, List, [], ◌∷◌, ◌++◌, length, map, slice_get, is_none, Some, Ok, refl, sym, ap, ap₂, ◌∙◌, append_assoc, append-nil, ◌+◌, arith}
use Rattle.std.specs.Prelude.{slice_index_or}
use Rattle.std.specs.List.{AllByRecursion}
use Rattle.std.proofs.lemmas.List.{length-append, length-map}
use Rattle.serde_json.specs.Data.{Data}
use Rattle.whips_lists.specs.Lists.{map_with_place}
use Rattle.whips_view.specs.ViewDefs.{View, view_of}
use Rattle.whips_view.specs.Refusals.{refusal_of}
use Rattle.whips_facts.specs.Scripts.{Labels}
use Rattle.whips_reading.specs.declared.place.Code.TheVariants.{Unbuilt}
use Rattle.whips_reading.specs.Json.{Text}
use Rattle.whips_reading.specs.Places.{Place, in_element}
use Rattle.whips_reading.specs.Reading.{Read, ◌>>=◌, ◌>>◌, elements, in_turn}
use Rattle.whips_relation_reading.specs.Relations.{RelationForm}
use Rattle.whips_view_reading.specs.Views.{Basis, ViewForm, view_in}
use Rattle.whips_script_reading.specs.Views.{Views, no_views, schemas_of, view_over, slots_suffice, with_view, view_added, views_in}
use Rattle.whips_script_laws.proofs.Parts.{bound, followed, tested}
use Rattle.whips_script_writing.specs.Objects.{list_data}
use Rattle.whips_script_writing.specs.Views.{view_data, view_in as written_view}
use Rattle.whips_canonical_laws.specs.Known.{OfEach, KnowsView}
use Rattle.whips_canonical_laws.proofs.Lists.{same_value, listed_is, elements_listed, elements_alike}
use Rattle.whips_canonical_laws.proofs.WholeViews.{view_again}
use Rattle.whips_canonical_scripts.specs.Laws.{views_data}

-- a view that is written, with its name and its slots
pub record Written : Type 0 where
  pub name : Text
  pub view : View
  pub slots : ℕ

abbrev names_of : List Written → List Text
names_of ws = map (λ (w : Written). w.name) ws

abbrev views_of : List Written → List View
views_of ws = map (λ (w : Written). w.view) ws

abbrev slots_of : List Written → List ℕ
slots_of ws = map (λ (w : Written). w.slots) ws

abbrev with_all : Views → List Written → Views
with_all s ws = record { names = s.names ++ names_of ws; views = s.views ++ views_of ws; slots = s.slots ++ slots_of ws }

same_views : (a b : List Text) (v w : List View) (m n : List ℕ) → a ≡ b → v ≡ w → m ≡ n → (let s : Views = record { names = a; views = v; slots = m } in s) ≡ (let s : Views = record { names = b; views = w; slots = n } in s)
same_views a b v w m n e f g =
    ap (λ x. let s : Views = record { names = x; views = v; slots = m } in s) e
    ∙ ap (λ x. let s : Views = record { names = b; views = x; slots = m } in s) f
    ∙ ap (λ x. let s : Views = record { names = b; views = w; slots = x } in s) g

with_none : (s : Views) → with_all s [] ≡ s
with_none s = same_views _ s.names _ s.views _ s.slots (append-nil s.names) (append-nil s.views) (append-nil s.slots)

with_more : (s : Views) (w : Written) (ws : List Written) → with_all (with_view s w.name w.view w.slots) ws ≡ with_all s (w ∷ ws)
with_more s w ws = same_views _ _ _ _ _ _ (append_assoc s.names (w.name ∷ []) (names_of ws)) (append_assoc s.views (w.view ∷ []) (views_of ws)) (append_assoc s.slots (w.slots ∷ []) (slots_of ws))

-- ---- what stands at the end of what is before it

get_behind : {A : Type 0} (xs : List A) (y : A) (ys : List A) (i : ℕ) → length xs ≡ i → slice_get (xs ++ y ∷ ys) i ≡ Some y
get_behind {A = A} xs y ys i n = ap (slice_get (xs ++ y ∷ ys)) (sym n) ∙ go xs
  where
    go : (zs : List A) → slice_get (zs ++ y ∷ ys) (length zs) ≡ Some y
    go [] = refl
    go (z ∷ zs) = go zs

index_behind : {A : Type 0} (xs : List A) (y : A) (ys : List A) (i : ℕ) (d : A) → length xs ≡ i → slice_index_or (xs ++ y ∷ ys) i d ≡ y
index_behind {A = A} xs y ys i d n = ap (λ k. slice_index_or (xs ++ y ∷ ys) k d) (sym n) ∙ go xs
  where
    go : (zs : List A) → slice_index_or (zs ++ y ∷ ys) (length zs) d ≡ y
    go [] = refl
    go (z ∷ zs) = go zs

one_more : {A : Type 0} (xs : List A) (y : A) (i : ℕ) → length xs ≡ i → length (xs ++ y ∷ []) ≡ suc i
one_more xs y i n = let e = length-append xs (y ∷ []) in omega (arith, e, n)

module _ (l : Labels) (relations : List RelationForm) where
  abbrev data_of : Written → Data
  data_of w = view_data l relations w.name w.view w.slots

  abbrev written_at : List View → List ℕ → ℕ → Text → Data
  written_at vs ns x name = written_view l relations name (slice_get vs x) (slice_index_or ns x 0)

  placed : (vs : List View) (ns : List ℕ) (ws : List Written) (i : ℕ) → length vs ≡ i → length ns ≡ i → map_with_place (written_at (vs ++ views_of ws) (ns ++ slots_of ws)) i (names_of ws) ≡ map data_of ws
  placed vs ns [] i a b = refl
  placed vs ns (w ∷ ws) i a b =
      let view = get_behind vs w.view (views_of ws) i a in
      let slots = index_behind ns w.slots (slots_of ws) i 0 b in
      let first : written_at (vs ++ w.view ∷ views_of ws) (ns ++ w.slots ∷ slots_of ws) i w.name ≡ data_of w = ap₂ (λ v n. written_view l relations w.name v n) view slots in
      let later = ap₂ (λ xs ys. map_with_place (written_at xs ys) (suc i) (names_of ws)) (sym (append_assoc vs (w.view ∷ []) (views_of ws))) (sym (append_assoc ns (w.slots ∷ []) (slots_of ws))) in
      ap₂ (λ x xs. x ∷ xs) first (later ∙ placed (vs ++ w.view ∷ []) (ns ++ w.slots ∷ []) ws (suc i) (one_more vs w.view i a) (one_more ns w.slots i b))

-- ---- all views

module _ (l : Labels) (basis : Basis) (texts_are : l.texts ≡ basis.texts) where
  abbrev rest_of : Views → Place → ViewForm → Read Views
  rest_of s place form = view_over basis.relations form.parts place >>= λ view. slots_suffice basis.relations view form.slots place >> Ok (with_view s form.name view form.slots)

  one_view : (s t : Views) (place : Place) (d : Data) → KnowsView l.texts d → view_added basis s place d ≡ Ok t
      → (w : Written) × (t ≡ with_view s w.name w.view w.slots) × (view_added basis s place (data_of l basis.relations w) ≡ Ok t)
  one_view s t place d known e =
      let form = bound (view_in basis s.names place d) (rest_of s place) t e in
      let view = bound (view_over basis.relations form.0.parts place) _ t form.2 in
      let over = tested (is_none (refusal_of (schemas_of basis.relations) form.0.parts)) Unbuilt place _ view.0 view.1 in
      let is : view_of (schemas_of basis.relations) form.0.parts ≡ view.0 = same_value _ _ over.1 in
      let enough = followed (slots_suffice basis.relations view.0 form.0.slots place) _ t view.2 in
      let same : with_view s form.0.name view.0 form.0.slots ≡ t = same_value _ _ enough.2 in
      let again = view_again l basis texts_are s.names place d form.0 view.0 known (ap (λ (v : View). v.parts) (sym is)) form.1 in
      let w : Written = record { name = form.0.name; view = view.0; slots = form.0.slots } in
      (w, sym same, ap (λ r. r >>= rest_of s place) again ∙ form.2)

  turned : (place : Place) (i : ℕ) (s t : Views) (ds : List Data) → AllByRecursion (KnowsView l.texts) ds → in_turn (view_added basis) place i s ds ≡ Ok t
      → (ws : List Written) × (t ≡ with_all s ws) × (length ws ≡ length ds) × (in_turn (view_added basis) place i s (map (data_of l basis.relations) ws) ≡ Ok t)
  turned place i s t [] known e = ([], sym (with_none s ∙ same_value _ _ e), refl, e)
  turned place i s t (d ∷ ds) known e =
      let b = bound (view_added basis s (in_element place i) d) (λ u. in_turn (view_added basis) place (i + 1) u ds) t e in
      let one = one_view s b.0 (in_element place i) d known.0 b.1 in
      let rest = turned place (i + 1) b.0 t ds known.1 b.2 in
      let all = rest.1 ∙ ap (λ u. with_all u rest.0) one.1 ∙ with_more s one.0 rest.0 in
      (one.0 ∷ rest.0, all, ap suc rest.2, ap (λ r. r >>= λ u. in_turn (view_added basis) place (i + 1) u (map (data_of l basis.relations) rest.0)) one.2 ∙ rest.3)

  pub views_again : (place : Place) (d : Data) (views : Views) → OfEach (KnowsView l.texts) d → views_in basis place d ≡ Ok views → views_in basis place (views_data l basis.relations views) ≡ Ok views
  views_again place d views known e =
      let b = bound (elements 1 8 place d) (in_turn (view_added basis) place 0 no_views) views e in
      let all = turned place 0 no_views views b.0 (known b.0 (listed_is place d b.0 (elements_listed 1 8 place d b.0 b.1))) b.2 in
      let es = map (data_of l basis.relations) all.0 in
      let list = elements_alike 1 8 place d b.0 es b.1 (length-map all.0 (data_of l basis.relations) ∙ all.2) in
      let shown : views_data l basis.relations views ≡ list_data es = ap (views_data l basis.relations) all.1 ∙ ap list_data (placed l basis.relations [] [] all.0 0 refl refl) in
      ap (views_in basis place) shown
      ∙ ap (λ r. r >>= in_turn (view_added basis) place 0 no_views) list
      ∙ all.3
