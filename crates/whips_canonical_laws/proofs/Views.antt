-- The relations, equalities, conditions and out columns of a view, and sessions.
use Rattle.std.proofs.Common.{◌≡◌, ℕ, suc, ◌+◌, ◌==◌, List, [], ◌∷◌, ◌++◌, map, slice_get, Option, Some, None, Ok, refl, sym, ap, ap₂, subst, ◌∙◌, arith}
use Rattle.std.specs.Prelude.{not, codes, ⊤}
use Rattle.std.specs.List.{AllByRecursion, list_any}
use Rattle.std.specs.Str.{bytes_eq}
use Rattle.std.proofs.lemmas.Slice.Eq.{bytes_eq-Decides}
use Rattle.serde_json.specs.Data.{Data, string}
use Rattle.whips_model.specs.declared.Kind.{Kind}
use Rattle.whips_model.specs.declared.ColRef.{ColRef}
use Rattle.whips_model.specs.declared.Cmp.{Cmp}
use Rattle.whips_model.specs.declared.Cmp.TheVariants.{Eq, Ne, Lt, Le, Gt, Ge}
use Rattle.whips_model.specs.declared.Cond.{Cond}
use Rattle.whips_view.specs.Refusals.{is_same_kind}
use Rattle.whips_facts.specs.Scripts.{Labels}
use Rattle.whips_reports.specs.Lines.{name_at, value_data}
use Rattle.whips_reading.specs.declared.place.Code.TheVariants.{Shape, Name, Value}
use Rattle.whips_reading.specs.Json.{Text}
use Rattle.whips_reading.specs.Places.{Place, in_element}
use Rattle.whips_reading.specs.Reading.{pair, triple, elements_of}
use Rattle.whips_reading.specs.Names.{text_in, fresh_name, named}
use Rattle.whips_texts.specs.Values.{value_in}
use Rattle.whips_relation_reading.specs.Relations.{RelationForm}
use Rattle.whips_view_reading.specs.Columns.{ViewColumn, qualified, columns_from, columns_at, view_columns, column_of, column_named}
use Rattle.whips_view_reading.specs.Choices.{equality_added, comparison_of, comparison_in, condition_added, out_added, equalities_in, conditions_in, out_in}
use Rattle.whips_view_reading.specs.Views.{relation_added, relations_in}
use Rattle.whips_plan_reading.specs.Sessions.{session_added, sessions_in}
use Rattle.whips_script_laws.proofs.Parts.{bound, tested, there_is}
use Rattle.whips_script_laws.proofs.Appended.{each_append, found}
use Rattle.whips_script_writing.specs.Objects.{list_data, text_list}
use Rattle.whips_script_writing.specs.Views.{comparison_text, column_text, equality_data, condition_data}
use Rattle.whips_canonical_laws.specs.Known.{Knows, KnowsThird, KnowsConditions}
use Rattle.whips_canonical_laws.proofs.Lists.{by_word, found_is, text_written, name_written, listed_is, listed_written, pair_written, triple_listed, list_made, all_plain}
use Rattle.whips_canonical_laws.proofs.Values.{value_written, fresh_written, string_each}

-- ---- relations and sessions

one_relation : (names : List Text) (s t : List ℕ) (place : Place) (d : Data) → ⊤ → relation_added names s place d ≡ Ok t → (n : ℕ) × (t ≡ s ++ n ∷ []) × (string (name_at names n) ≡ d)
one_relation names s t place d h e =
    let b = bound (named names place d) _ t e in
    let n = tested (not (list_any (λ k. k == b.0) s)) Name place _ t b.2 in
    let same : s ++ b.0 ∷ [] ≡ t = cc in
    (b.0, sym same, name_written names place d b.0 b.1)

pub view_relations_written : (names : List Text) (place : Place) (d : Data) (numbers : List ℕ) → relations_in names place d ≡ Ok numbers → text_list (map (name_at names) numbers) ≡ d
view_relations_written names place d numbers e = ap list_data (string_each names numbers) ∙ list_made (relation_added names) (λ c. string (name_at names c)) (λ _. ⊤) (one_relation names) 1 4 place d numbers (λ ds f. all_plain ds) e

one_session : (s t : List Text) (place : Place) (d : Data) → ⊤ → session_added s place d ≡ Ok t → (name : Text) × (t ≡ s ++ name ∷ []) × (string name ≡ d)
one_session s t place d h e =
    let b = bound (fresh_name s place d) _ t e in
    let n = tested (not (bytes_eq b.0 (codes "end"))) Name place _ t b.2 in
    let same : s ++ b.0 ∷ [] ≡ t = cc in
    (b.0, sym same, fresh_written s place d b.0 b.1)

pub sessions_written : (place : Place) (d : Data) (names : List Text) → sessions_in place d ≡ Ok names → text_list names ≡ d
sessions_written place d names e = list_made session_added string (λ _. ⊤) one_session 0 8 place d names (λ ds f. all_plain ds) e

-- ---- columns

comparison_is : (t : Text) (cmp : Cmp) → comparison_of t ≡ Some cmp → comparison_text cmp ≡ t
comparison_is t cmp e =
    let done = λ (word : Text) (made : Cmp) (same : t ≡ word) (is : Some made ≡ Some cmp) (text : comparison_text made ≡ word). let k : made ≡ cmp = cc in subst (λ x. comparison_text x ≡ t) k (text ∙ sym same) in
    by_word t (codes "=") _ _ (Some cmp) e (λ same f. done (codes "=") Eq same f refl)
    (λ e. by_word t (codes "!=") _ _ (Some cmp) e (λ same f. done (codes "!=") Ne same f refl)
    (λ e. by_word t (codes "<") _ _ (Some cmp) e (λ same f. done (codes "<") Lt same f refl)
    (λ e. by_word t (codes "<=") _ _ (Some cmp) e (λ same f. done (codes "<=") Le same f refl)
    (λ e. by_word t (codes ">") _ _ (Some cmp) e (λ same f. done (codes ">") Gt same f refl)
    (λ e. by_word t (codes ">=") _ _ (Some cmp) e (λ same f. done (codes ">=") Ge same f refl) (λ e. absurd (cc)))))))

comparison_written : (place : Place) (d : Data) (cmp : Cmp) → comparison_in place d ≡ Ok cmp → string (comparison_text cmp) ≡ d
comparison_written place d cmp e =
    let b = bound (text_in place d) _ cmp e in
    ap string (comparison_is b.0 cmp (there_is (comparison_of b.0) Shape place cmp b.2)) ∙ text_written place d b.0 b.1

three : (a b c x y z : Data) → a ≡ x → b ≡ y → c ≡ z → list_data (a ∷ b ∷ c ∷ []) ≡ list_data (x ∷ y ∷ z ∷ [])
three a b c x y z e f g = ap₂ (λ p q. list_data (p ∷ q ∷ c ∷ [])) e f ∙ ap (λ r. list_data (x ∷ y ∷ r ∷ [])) g

module _ (relations : List RelationForm) (numbers : List ℕ) where
  abbrev columns : List ViewColumn
  columns = view_columns relations 0 numbers

  abbrev HasText : ViewColumn → Type 0
  HasText c = column_text relations numbers c.at ≡ c.name

  module _ (r : RelationForm) (part n : ℕ) (number : slice_get numbers part ≡ Some n) (there : slice_get relations n ≡ Some r) where
    texts_from : (col : ℕ) (names : List Text) (kinds : List Kind) → ((j : ℕ) → name_at r.columns (col + j) ≡ name_at names j) → AllByRecursion HasText (columns_from r.name part col names kinds)
    texts_from col [] kinds h = tt
    texts_from col (name ∷ names) [] h = tt
    texts_from col (name ∷ names) (kind ∷ kinds) h =
        let first : col ≡ col + 0 = omega arith in (
          rw number (rw there (ap (qualified r.name) (ap (name_at r.columns) first ∙ h 0))),
          texts_from (suc col) names kinds (λ j. let later : suc col + j ≡ col + suc j = omega arith in ap (name_at r.columns) later ∙ h (suc j)),
        )

  all_texts : (part : ℕ) (rest : List ℕ) → ((j : ℕ) → slice_get numbers (part + j) ≡ slice_get rest j) → AllByRecursion HasText (view_columns relations part rest)
  all_texts part [] h = tt
  all_texts part (n ∷ rest) h =
      each_append HasText (columns_at part (slice_get relations n)) (view_columns relations (suc part) rest) (go (slice_get relations n) refl)
      (all_texts (suc part) rest (λ j. let later : suc part + j ≡ part + suc j = omega arith in ap (slice_get numbers) later ∙ h (suc j)))
    where
      go : (o : Option RelationForm) → slice_get relations n ≡ o → AllByRecursion HasText (columns_at part o)
      go None e = tt
      go (Some r) e =
          let first : part ≡ part + 0 = omega arith in
          texts_from r part n (ap (slice_get numbers) first ∙ h 0) e 0 r.columns r.table.columns.kinds (λ j. let same : 0 + j ≡ j = omega arith in ap (name_at r.columns) same)

  column_written : (place : Place) (d : Data) (c : ViewColumn) → column_named columns place d ≡ Ok c → string (column_text relations numbers c.at) ≡ d
  column_written place d c e =
      let b = bound (text_in place d) _ c e in
      let is = there_is (column_of columns b.0) Name place c b.2 in
      let texts = all_texts 0 numbers (λ j. let same : 0 + j ≡ j = omega arith in ap (slice_get numbers) same) in
      let name : c.name ≡ b.0 = (bytes_eq-Decides c.name b.0).0 (found_is (λ x. bytes_eq x.name b.0) columns c is) in
      ap string (found HasText (λ x. bytes_eq x.name b.0) columns c texts is ∙ name) ∙ text_written place d b.0 b.1

  -- ---- out columns, equalities and conditions

  one_out : (s t : List ColRef) (place : Place) (d : Data) → ⊤ → out_added columns s place d ≡ Ok t → (c : ColRef) × (t ≡ s ++ c ∷ []) × (string (column_text relations numbers c) ≡ d)
  one_out s t place d h e =
      let b = bound (column_named columns place d) _ t e in
      let same : s ++ b.0.at ∷ [] ≡ t = cc in
      (b.0.at, sym same, column_written place d b.0 b.1)

  string_texts : (out : List ColRef) → map string (map (column_text relations numbers) out) ≡ map (λ c. string (column_text relations numbers c)) out
  string_texts [] = refl
  string_texts (c ∷ out) = ap (λ xs. string (column_text relations numbers c) ∷ xs) (string_texts out)

  pub out_written : (place : Place) (d : Data) (out : List ColRef) → out_in columns place d ≡ Ok out → text_list (map (column_text relations numbers) out) ≡ d
  out_written place d out e = ap list_data (string_texts out) ∙ list_made (out_added columns) (λ c. string (column_text relations numbers c)) (λ _. ⊤) one_out 1 16 place d out (λ ds f. all_plain ds) e

  one_equality : (s t : List (ColRef × ColRef)) (place : Place) (d : Data) → ⊤ → equality_added columns s place d ≡ Ok t → (p : ColRef × ColRef) × (t ≡ s ++ p ∷ []) × (equality_data relations numbers p ≡ d)
  one_equality s t place d h e =
      let p = bound (pair place d) _ t e in
      let a = bound (column_named columns (in_element place 0) p.0.0) _ t p.2 in
      let b = bound (column_named columns (in_element place 1) p.0.1) _ t a.2 in
      let k = tested (is_same_kind a.0.kind b.0.kind) Value place _ t b.2 in
      let same : s ++ (a.0.at, b.0.at) ∷ [] ≡ t = cc in
      let left = column_written (in_element place 0) p.0.0 a.0 a.1 in
      let right = column_written (in_element place 1) p.0.1 b.0 b.1 in
      ((a.0.at, b.0.at), sym same, ap₂ (λ x y. list_data (x ∷ y ∷ [])) left right ∙ pair_written place d p.0.0 p.0.1 p.1)

  pub equalities_written : (place : Place) (d : Data) (equal : List (ColRef × ColRef)) → equalities_in columns place d ≡ Ok equal → list_data (map (equality_data relations numbers) equal) ≡ d
  equalities_written place d equal e = list_made (equality_added columns) (equality_data relations numbers) (λ _. ⊤) one_equality 0 16 place d equal (λ ds f. all_plain ds) e

  module _ (l : Labels) where
    one_condition : (s t : List Cond) (place : Place) (d : Data) → KnowsThird l.texts (elements_of d) → condition_added columns l.texts s place d ≡ Ok t → (c : Cond) × (t ≡ s ++ c ∷ []) × (condition_data l relations numbers c ≡ d)
    one_condition s t place d h e =
        let p = bound (triple place d) _ t e in
        let a = bound (column_named columns (in_element place 0) p.0.0) _ t p.2 in
        let m = bound (comparison_in (in_element place 1) p.0.1) _ t a.2 in
        let v = bound (value_in l.texts a.0.kind (in_element place 2) p.0.2) _ t m.2 in
        let cond_read : Cond = record { at = a.0.at; cmp = m.0; code = v.0; kind = a.0.kind } in
        let same : s ++ cond_read ∷ [] ≡ t = cc in
        let list = triple_listed place d p.0.0 p.0.1 p.0.2 p.1 in
        let known : Knows l.texts p.0.2 = subst (KnowsThird l.texts) (listed_is place d (p.0.0 ∷ p.0.1 ∷ p.0.2 ∷ []) list) h in
        let column = column_written (in_element place 0) p.0.0 a.0 a.1 in
        let word = comparison_written (in_element place 1) p.0.1 m.0 m.1 in
        let value = value_written l a.0.kind (in_element place 2) p.0.2 v.0 known v.1 in
        let each = three (string (column_text relations numbers a.0.at)) (string (comparison_text m.0)) (value_data l v.0 (Some a.0.kind)) p.0.0 p.0.1 p.0.2 column word value in
        (cond_read, sym same, each ∙ listed_written place d (p.0.0 ∷ p.0.1 ∷ p.0.2 ∷ []) list)

    pub conditions_written : (place : Place) (d : Data) (conds : List Cond) → KnowsConditions l.texts d → conditions_in columns l.texts place d ≡ Ok conds → list_data (map (condition_data l relations numbers) conds) ≡ d
    conditions_written place d conds h e = list_made (condition_added columns l.texts) (condition_data l relations numbers) (λ c. KnowsThird l.texts (elements_of c)) one_condition 0 16 place d conds h e
