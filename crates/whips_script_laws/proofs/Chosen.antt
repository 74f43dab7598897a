-- What the equalities, conditions and out columns of a view keep when they are read.
use Rattle.std.proofs.Common.{◌≡◌, ℕ, suc, ◌&&◌, nat_le, Bool, true, cond, is_some, List, [], ◌∷◌, ◌++◌, length, map, Some, None, Ok, refl, ap, ap₂, subst, ◌∙◌, inl, inr}
use Rattle.std.specs.List.{list_all, AllByRecursion}
use Rattle.serde_json.specs.Data.{Data}
use Rattle.whips_model.specs.declared.Kind.{Kind}
use Rattle.whips_model.specs.declared.Kind.TheVariants.{Number, Text as TextKind}
use Rattle.whips_model.specs.declared.ColRef.{ColRef}
use Rattle.whips_model.specs.declared.Cond.{Cond}
use Rattle.whips_model.specs.Tuples.{Columns}
use Rattle.whips_view.specs.ViewDefs.{kind_of}
use Rattle.whips_view.specs.declared.error.ViewErr.TheVariants.{NoColumn}
use Rattle.whips_view.specs.Refusals.{column_refusal, equality_columns, is_same_kind, has_kind, have_one_kind, joins_one_kind, tests_own_kind}
use Rattle.whips_reading.specs.declared.place.Code.TheVariants.{Value}
use Rattle.whips_reading.specs.declared.place.Member.TheVariants as member
use Rattle.whips_reading.specs.Json.{Text}
use Rattle.whips_reading.specs.Places.{Place, in_element}
use Rattle.whips_reading.specs.Reading.{pair, triple, within, within_or}
use Rattle.whips_texts.specs.Values.{value_in}
use Rattle.whips_view_reading.specs.Columns.{ViewColumn, column_named}
use Rattle.whips_view_reading.specs.Choices.{Choice, equality_added, comparison_in, condition_added, out_added, equalities_in, conditions_in, out_in, choice_in}
use Rattle.whips_script_laws.proofs.Parts.{bound, tested, list_read, member_read, member_or_read}
use Rattle.whips_script_laws.proofs.Appended.{test_passed, passes, one_longer, all_more}
use Rattle.whips_script_laws.proofs.Columns.{Fits, column_read}

same_kind : (k : Kind) → is_same_kind k k ≡ true
same_kind Number = refl
same_kind TextKind = refl

last_equality : (equal : List (ColRef × ColRef)) (p : ColRef × ColRef) → equality_columns (equal ++ p ∷ []) ≡ equality_columns equal ++ p.0 ∷ p.1 ∷ []
last_equality [] p = refl
last_equality (q ∷ equal) p = ap (λ l. q.0 ∷ q.1 ∷ l) (last_equality equal p)

last_condition : (conds : List Cond) (c : Cond) → map (λ (x : Cond). x.at) (conds ++ c ∷ []) ≡ map (λ (x : Cond). x.at) conds ++ c.at ∷ []
last_condition [] c = refl
last_condition (x ∷ conds) c = ap (λ l. x.at ∷ l) (last_condition conds c)

-- what a choice keeps
pub record IsChoice (bases : List Columns) (choice : Choice) : Type 0 where
  pub equal : nat_le (length choice.equal) 16 ≡ true
  pub conds : nat_le (length choice.conds) 16 ≡ true
  pub some_out : nat_le 1 (length choice.out) ≡ true
  pub out : nat_le (length choice.out) 16 ≡ true
  pub equal_there : column_refusal bases (equality_columns choice.equal) ≡ None
  pub conds_there : column_refusal bases (map (λ c. c.at) choice.conds) ≡ None
  pub out_there : column_refusal bases choice.out ≡ None
  pub join : list_all (joins_one_kind bases) choice.equal ≡ true
  pub test : list_all (tests_own_kind bases) choice.conds ≡ true

module _ (bases : List Columns) where
  both_there : (xs ys : List ColRef) → column_refusal bases xs ≡ None → column_refusal bases ys ≡ None → column_refusal bases (xs ++ ys) ≡ None
  both_there [] ys e f = f
  both_there (x ∷ xs) ys e f =
      let b = test_passed (is_some (kind_of bases x)) (NoColumn x) (column_refusal bases xs) e in
      passes (is_some (kind_of bases x)) (NoColumn x) (column_refusal bases (xs ++ ys)) b.0 (both_there xs ys b.1 f)

  one_there : (c : ViewColumn) → Fits bases c → column_refusal bases (c.at ∷ []) ≡ None
  one_there c fit = passes (is_some (kind_of bases c.at)) (NoColumn c.at) None (ap is_some fit) refl

  two_there : (a b : ViewColumn) → Fits bases a → Fits bases b → column_refusal bases (a.at ∷ b.at ∷ []) ≡ None
  two_there a b fit fits = passes (is_some (kind_of bases a.at)) (NoColumn a.at) (column_refusal bases (b.at ∷ [])) (ap is_some fit) (one_there b fits)

  joined : (a b : ViewColumn) → Fits bases a → Fits bases b → is_same_kind a.kind b.kind ≡ true → joins_one_kind bases (a.at, b.at) ≡ true
  joined a b fit fits same = ap₂ (λ o p. have_one_kind o p) fit fits ∙ same

  own_kind : (c : ViewColumn) → Fits bases c → has_kind (kind_of bases c.at) c.kind ≡ true
  own_kind c fit = ap (λ o. has_kind o c.kind) fit ∙ same_kind c.kind

  module _ (columns : List ViewColumn) (fit : AllByRecursion (Fits bases) columns) where
    abbrev Equal : ℕ → List (ColRef × ColRef) → Type 0
    Equal n equal = (length equal ≡ n) × (column_refusal bases (equality_columns equal) ≡ None) × (list_all (joins_one_kind bases) equal ≡ true)

    equality_kept : (n : ℕ) (s t : List (ColRef × ColRef)) (place : Place) (d : Data) → Equal n s → equality_added columns s place d ≡ Ok t → Equal (suc n) t
    equality_kept n s t place d h e =
        let p = bound (pair place d) _ t e in
        let a = bound (column_named columns (in_element place 0) p.0.0) _ t p.2 in
        let b = bound (column_named columns (in_element place 1) p.0.1) _ t a.2 in
        let k = tested (is_same_kind a.0.kind b.0.kind) Value place _ t b.2 in
        let left = column_read bases columns fit (in_element place 0) p.0.0 a.0 a.1 in
        let right = column_read bases columns fit (in_element place 1) p.0.1 b.0 b.1 in
        let same : s ++ (a.0.at, b.0.at) ∷ [] ≡ t = cc in
        subst (Equal (suc n)) same (
          one_longer s (a.0.at, b.0.at) n h.0,
          ap (column_refusal bases) (last_equality s (a.0.at, b.0.at)) ∙ both_there (equality_columns s) (a.0.at ∷ b.0.at ∷ []) h.1 (two_there a.0 b.0 left right),
          all_more (joins_one_kind bases) s (a.0.at, b.0.at) h.2 (joined a.0 b.0 left right k.0),
        )

    module _ (texts : List Text) where
      abbrev Tests : ℕ → List Cond → Type 0
      Tests n conds = (length conds ≡ n) × (column_refusal bases (map (λ c. c.at) conds) ≡ None) × (list_all (tests_own_kind bases) conds ≡ true)

      condition_kept : (n : ℕ) (s t : List Cond) (place : Place) (d : Data) → Tests n s → condition_added columns texts s place d ≡ Ok t → Tests (suc n) t
      condition_kept n s t place d h e =
          let p = bound (triple place d) _ t e in
          let c = bound (column_named columns (in_element place 0) p.0.0) _ t p.2 in
          let m = bound (comparison_in (in_element place 1) p.0.1) _ t c.2 in
          let v = bound (value_in texts c.0.kind (in_element place 2) p.0.2) _ t m.2 in
          let is = column_read bases columns fit (in_element place 0) p.0.0 c.0 c.1 in
          let cond_read : Cond = record { at = c.0.at; cmp = m.0; code = v.0; kind = c.0.kind } in
          let same : s ++ cond_read ∷ [] ≡ t = cc in
          subst (Tests (suc n)) same (
            one_longer s cond_read n h.0,
            ap (column_refusal bases) (last_condition s cond_read) ∙ both_there (map (λ x. x.at) s) (c.0.at ∷ []) h.1 (one_there c.0 is),
            all_more (tests_own_kind bases) s cond_read h.2 (own_kind c.0 is),
          )

    abbrev Out : ℕ → List ColRef → Type 0
    Out n out = (length out ≡ n) × (column_refusal bases out ≡ None)

    out_kept : (n : ℕ) (s t : List ColRef) (place : Place) (d : Data) → Out n s → out_added columns s place d ≡ Ok t → Out (suc n) t
    out_kept n s t place d h e =
        let c = bound (column_named columns place d) _ t e in
        let same : s ++ c.0.at ∷ [] ≡ t = cc in
        subst (Out (suc n)) same (one_longer s c.0.at n h.0, both_there s (c.0.at ∷ []) h.1 (one_there c.0 (column_read bases columns fit place d c.0 c.1)))

    abbrev SomeEqual : List (ColRef × ColRef) → Type 0
    SomeEqual equal = (nat_le (length equal) 16 ≡ true) × (column_refusal bases (equality_columns equal) ≡ None) × (list_all (joins_one_kind bases) equal ≡ true)

    equalities_read : (place : Place) (d : Data) (equal : List (ColRef × ColRef)) → equalities_in columns place d ≡ Ok equal → SomeEqual equal
    equalities_read place d equal e =
        let r = list_read (equality_added columns) Equal equality_kept 0 16 place [] equal d (refl, refl, refl) e in
        (ap (λ k. nat_le k 16) r.3.0 ∙ r.2, r.3.1, r.3.2)

    abbrev SomeTests : List Cond → Type 0
    SomeTests conds = (nat_le (length conds) 16 ≡ true) × (column_refusal bases (map (λ c. c.at) conds) ≡ None) × (list_all (tests_own_kind bases) conds ≡ true)

    conditions_read : (texts : List Text) (place : Place) (d : Data) (conds : List Cond) → conditions_in columns texts place d ≡ Ok conds → SomeTests conds
    conditions_read texts place d conds e =
        let r = list_read (condition_added columns texts) (Tests texts) (condition_kept texts) 0 16 place [] conds d (refl, refl, refl) e in
        (ap (λ k. nat_le k 16) r.3.0 ∙ r.2, r.3.1, r.3.2)

    abbrev SomeOut : List ColRef → Type 0
    SomeOut out = (nat_le 1 (length out) ≡ true) × (nat_le (length out) 16 ≡ true) × (column_refusal bases out ≡ None)

    out_read : (place : Place) (d : Data) (out : List ColRef) → out_in columns place d ≡ Ok out → SomeOut out
    out_read place d out e =
        let r = list_read (out_added columns) Out out_kept 1 16 place [] out d (refl, refl) e in
        (ap (λ k. nat_le 1 k) r.3.0 ∙ r.1, ap (λ k. nat_le k 16) r.3.0 ∙ r.2, r.3.1)

    pub choice_read : (texts : List Text) (place : Place) (d : Data) (choice : Choice) → choice_in columns texts place d ≡ Ok choice → IsChoice bases choice
    choice_read texts place d choice e =
        let a = bound (within_or [] member.Equal (equalities_in columns) place d) _ choice e in
        let b = bound (within_or [] member.Where (conditions_in columns texts) place d) _ choice a.2 in
        let c = bound (within member.Out (out_in columns) place d) _ choice b.2 in
        let out = member_read member.Out (out_in columns) place d c.0 c.1 in
        let equal : SomeEqual a.0 = elim (member_or_read member.Equal (equalities_in columns) place d a.0 [] a.1) [ inl none ↦ subst SomeEqual none (refl, refl, refl) | inr some ↦ equalities_read _ some.0 a.0 some.1 ] in
        let conds : SomeTests b.0 = elim (member_or_read member.Where (conditions_in columns texts) place d b.0 [] b.1) [ inl none ↦ subst SomeTests none (refl, refl, refl) | inr some ↦ conditions_read texts _ some.0 b.0 some.1 ] in
        let outs : SomeOut c.0 = out_read _ out.0 c.0 out.1 in
        let made : Choice = record { equal = a.0; conds = b.0; out = c.0 } in
        let same : made ≡ choice = cc in
        subst (IsChoice bases) same (record {
          equal = equal.0;
          conds = conds.0;
          some_out = outs.0;
          out = outs.1;
          equal_there = equal.1;
          conds_there = conds.1;
          out_there = outs.2;
          join = equal.2;
          test = conds.2;
        })
