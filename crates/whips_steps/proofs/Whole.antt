-- Partials of a query all of whose parts are filled: the rows that they give.
use Rattle.std.proofs.Common.{◌≡◌, inl, inr, ℕ, zero, suc, ◌<◌, not, Bool, true, false, Option, Some, None, is_some, List, [], ◌∷◌, length, map, get_or, refl, sym, ap, subst, ◌∙◌, arith}
use Rattle.std.specs.List.{list_any}
use Rattle.std.proofs.lemmas.List.{length-map, same_lists, get_or_default}
use Rattle.whips_model.specs.Tuples.{Codes, at_columns}
use Rattle.whips_model.specs.Views.{Choice, meets, out_row, rows_of}
use Rattle.whips_lists.specs.Members.{Has}
use Rattle.whips_choices.specs.KeyedViews.{KeyedView, IsKeyedView, AreTables, IsChoiceOf}
use Rattle.whips_choices.specs.Partials.{Partial, slot, IsPartOf}
use Rattle.whips_lists.proofs.Members.{has_none, has_same, has_passing, has_passed, has_mapped, has_before, any_from_has, none_from_has}
use Rattle.whips_choices.proofs.Rows.{key_is, key_has, puts_only, puts_all}
use Rattle.whips_choices.proofs.Values.{value_row, one_row}
use Rattle.whips_choices.proofs.Parts.{slot_in_range, below_meets, meets_whole, slot_all}
use Rattle.whips_steps.specs.Answers.{tuple_in, row_of, projected, is_key, has_key_at, unstruck}
use Rattle.whips_steps.specs.Laws.{IsSeededRow}
use Rattle.whips_steps.proofs.Fills.{IsFilling}

module _ (v : KeyedView) (is : IsKeyedView v) (tables : List (List Codes)) (good : AreTables v tables) (seeds : List Codes) (origin : ℕ) (pending : List (ℕ × Codes))
    (f : ℕ → Bool) (ps : List Partial) (filling : IsFilling v tables seeds origin pending f ps) (full : (j : ℕ) → j < length v.keys → f j ≡ true) where
  abbrev pub found : List Codes
  found = projected v (unstruck v pending ps)

  -- the choice of a partial that is filled
  choice_width : (p : Partial) → Has p ps → length (map tuple_in p) ≡ length v.keys
  choice_width p h = length-map p tuple_in ∙ filling.width p h

  tuple_there : (p : Partial) (j : ℕ) → Has p ps → j < length v.keys → slot p j ≡ Some (get_or (map tuple_in p) j [])
  tuple_there p j h below = at p j (filling.filled p j h below ∙ full j below)
    where
      at : (p : Partial) (j : ℕ) → is_some (slot p j) ≡ true → slot p j ≡ Some (get_or (map tuple_in p) j [])
      at [] j e = absurd (cc)
      at (None ∷ p) zero e = absurd (cc)
      at (Some t ∷ p) zero e = refl
      at (o ∷ p) (suc j) e = at p j e

  -- a partial with no pending key is a choice of the tables, and meets the view
  choice_is : (p : Partial) → Has p ps → list_any (has_key_at v p) pending ≡ false → IsChoiceOf tables (map tuple_in p)
  choice_is p h none = record {
    width = choice_width p h ∙ sym good.parts;
    at = λ j lt. let below : j < length v.keys = omega (arith, good.parts) in
        elim (filling.chosen p j (get_or (map tuple_in p) j []) h (tuple_there p j h below)) [ inl g ↦ g | inr g ↦ absurd (struck j below g) ];
  }
    where
      struck : (j : ℕ) → j < length v.keys → Has (j, at_columns (get_or v.keys j []) (get_or (map tuple_in p) j [])) pending → ⊥
      struck j below g =
          let e : has_key_at v p (j, at_columns (get_or v.keys j []) (get_or (map tuple_in p) j [])) ≡ true = ap (is_key (get_or v.keys j []) (at_columns (get_or v.keys j []) (get_or (map tuple_in p) j []))) (tuple_there p j h below) ∙ key_has (get_or v.keys j []) _ (get_or (map tuple_in p) j []) refl in
          let a = any_from_has (has_key_at v p) _ pending g e in
          absurd (cc (a, none))

  choice_meets : (p : Partial) → Has p ps → meets v.base (map tuple_in p) ≡ true
  choice_meets p h = meets_whole v is (map tuple_in p) (choice_width p h) (below_meets (map (λ t. Some t) (map tuple_in p)) p (record { same = same }) v.base (filling.meets p h))
    where
      same : (j : ℕ) (t : Codes) → slot (map (λ t. Some t) (map tuple_in p)) j ≡ Some t → slot p j ≡ Some t
      same j t e =
          let lt : j < length (map (λ t. Some t) (map tuple_in p)) = slot_in_range (map (λ t. Some t) (map tuple_in p)) j t e in
          let below : j < length (map tuple_in p) = omega (arith, length-map (map tuple_in p) (λ (t : Codes). Some t)) in
          tuple_there p j h (omega (arith, choice_width p h)) ∙ sym (slot_all (map tuple_in p) j below) ∙ e

  survivor : (p : Partial) → Has p (unstruck v pending ps) → Has p ps × (list_any (has_key_at v p) pending ≡ false)
  survivor p h = let g = has_passed (λ p. not (list_any (has_key_at v p) pending)) p ps h in (g.0, flip (list_any (has_key_at v p) pending) g.1)
    where
      flip : (b : Bool) → not b ≡ true → b ≡ false
      flip true e = absurd (cc)
      flip false e = refl

  -- each row of the answer is in the value, by a choice with a seed at the origin
  row_seeded : (r : Codes) → Has r (map (row_of v.base) (unstruck v pending ps)) → IsSeededRow v tables origin seeds r
  row_seeded r h =
      let a = has_before (row_of v.base) r (unstruck v pending ps) h in
      let b = survivor a.0 a.1 in
      let t = filling.seed a.0 b.0 in
      record {
        choice = map tuple_in a.0;
        is = record { choice_of = choice_is a.0 b.0 b.1; meets = choice_meets a.0 b.0; row = a.2 };
        seed = has_same t.0 _ seeds (same_tuple (slot a.0 origin) t.0 (get_or (map tuple_in a.0) origin []) t.2 (tuple_there a.0 origin b.0 (let lt : origin < length a.0 = slot_in_range a.0 origin t.0 t.2 in omega (arith, filling.width a.0 b.0)))) t.1;
      }
    where
      same_tuple : (o : Option Codes) (t u : Codes) → o ≡ Some t → o ≡ Some u → t ≡ u
      same_tuple o t u e g = cc (e, g)

  row_is : (r : Codes) → Has r (map (row_of v.base) (unstruck v pending ps)) → Has r (rows_of v.base tables)
  row_is r h = let a = row_seeded r h in has_same _ r (rows_of v.base tables) (sym a.is.row) (value_row v.base tables a.choice a.is.choice_of a.is.meets)

  pub found_seeded : (r : Codes) → Has r found → IsSeededRow v tables origin seeds r
  found_seeded r h = elim (puts_only v.columns r (map (row_of v.base) (unstruck v pending ps)) [] h) [ inl g ↦ row_seeded r g | inr g ↦ absurd (has_none r g) ]

  pub found_is : (r : Codes) → Has r found → Has r (rows_of v.base tables)
  found_is r h = let a = found_seeded r h in has_same _ r (rows_of v.base tables) (sym a.is.row) (value_row v.base tables a.choice a.is.choice_of a.is.meets)

  -- a partial that is part of a choice and filled is the whole choice
  same_choice : (p : Partial) (c : Choice) → Has p ps → IsPartOf p c → map tuple_in p ≡ c
  same_choice p c h part = same_lists (map tuple_in p) c (length-map p tuple_in ∙ part.width) (λ j d lt.
      let below : j < length v.keys = omega (arith, choice_width p h) in
      let e = sym (part.same j (get_or (map tuple_in p) j []) (tuple_there p j h below)) in
      get_or_default (map tuple_in p) j d [] lt ∙ e ∙ get_or_default c j [] d (omega (arith, part.width, length-map p tuple_in)))

  -- a partial of a choice no key of which is pending gives the choice's row
  pub in_found : (p : Partial) (c : Choice) → Has p ps → IsPartOf p c → ((j : ℕ) → j < length v.keys → Has (j, at_columns (get_or v.keys j []) (get_or c j [])) pending → ⊥) → Has (out_row v.base c) found
  in_found p c h part free =
      puts_all v.columns (λ r. Has r (rows_of v.base tables)) (one_row v is tables good) (map (row_of v.base) (unstruck v pending ps)) [] row_is (out_row v.base c)
      (has_same _ _ _ (ap (out_row v.base) (same_choice p c h part)) (has_mapped (row_of v.base) p _ (has_passing (λ p. not (list_any (has_key_at v p) pending)) p ps (ap not (none_from_has (has_key_at v p) pending (λ x g e. hit x g (slot p x.0) refl e))) h)))
    where
      hit : (x : ℕ × Codes) → Has x pending → (o : Option Codes) → slot p x.0 ≡ o → is_key (get_or v.keys x.0 []) x.1 o ≡ true → ⊥
      hit x g None same k = absurd (cc)
      hit x g (Some t) same k =
          let lt : x.0 < length p = slot_in_range p x.0 t same in
          let key : at_columns (get_or v.keys x.0 []) (get_or c x.0 []) ≡ x.1 = ap (at_columns (get_or v.keys x.0 [])) (part.same x.0 t same) ∙ key_is (get_or v.keys x.0 []) x.1 t k in
          free x.0 (omega (arith, filling.width p h)) (subst (λ (z : Codes). Has (x.0, z) pending) (sym key) g)
