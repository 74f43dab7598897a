-- Views over the relations of a setup.
use Rattle.std.proofs.Common.{◌≡◌, ℕ, suc, ◌+◌, ◌-◌, ◌≤◌, ◌&&◌, ◌==◌, nat_le, true, List, [], ◌∷◌, length, map, get_or, take, drop, slice_get, Option, Some, None, refl, sym, ap, ap₂, ◌∙◌, arith, eqb-true}
use Rattle.std.specs.List.{list_all, AllByRecursion}
use Rattle.std.proofs.lemmas.Bool.{and_parts}
use Rattle.std.proofs.lemmas.List.{at_drop_more, at_drop_all, take_all}
use Rattle.std.proofs.lemmas.Option.{slice_get_within, get_or_from_slice_get}
use Rattle.whips_model.specs.declared.Kind.{Kind}
use Rattle.whips_model.specs.declared.Kind.TheVariants.{Number, Text}
use Rattle.whips_model.specs.Tuples.{Columns}
use Rattle.whips_model.specs.Relation.{Table}
use Rattle.whips_view.specs.ViewDefs.{View, HasBases, columns_in}
use Rattle.whips_view.specs.Refusals.{is_same_kind}
use Rattle.whips_setup.specs.Limits.{are_same_kinds, are_same_places, are_same_columns, is_initial, are_initial, is_source, is_over, are_bases, has_bases, is_schema, has_numbers_within}

-- ---- a turn of the walk over a view's relations

module _ (at : List ℕ) (db : List Table) where
  pub bases_done : (homes : List ℕ) (bases : List Columns) (part : ℕ) → length bases ≤ part → are_bases at db [] homes (drop part bases) ≡ true
  bases_done homes bases part over = at_drop_all (are_bases at db [] homes) bases part over

  pub bases_more : (relations homes : List ℕ) (bases : List Columns) (part : ℕ) (base : Columns) → 1 ≤ length relations → 1 ≤ length homes → slice_get bases part ≡ Some base
      → are_bases at db relations homes (drop part bases) ≡ (is_source (get_or homes 0 0) (slice_get at (get_or relations 0 0)) && is_over base (slice_get db (get_or relations 0 0)) && are_bases at db (take (length relations - 1) (drop 1 relations)) (take (length homes - 1) (drop 1 homes)) (drop (part + 1) bases))
  bases_more [] homes bases part base some_r some_h there = absurd (omega arith)
  bases_more (r ∷ rs) [] bases part base some_r some_h there = absurd (omega arith)
  bases_more (r ∷ rs) (h ∷ hs) bases part base some_r some_h there =
      at_drop_more (are_bases at db (r ∷ rs) (h ∷ hs)) bases part base (slice_get_within bases part base there)
      ∙ ap (λ b. is_source h (slice_get at r) && is_over b (slice_get db r) && are_bases at db rs hs (drop (part + 1) bases)) (get_or_from_slice_get bases part base base there)
      ∙ ap₂ (λ xs ys. is_source h (slice_get at r) && is_over base (slice_get db r) && are_bases at db xs ys (drop (part + 1) bases)) (sym (take_all (suc (length rs) - 1) rs (omega arith))) (sym (take_all (suc (length hs) - 1) hs (omega arith)))

-- ---- equal schemas

same_kind : (k l : Kind) → is_same_kind k l ≡ true → k ≡ l
same_kind Number Number e = refl
same_kind Number Text e = absurd (cc)
same_kind Text Number e = absurd (cc)
same_kind Text Text e = refl

same_kinds : (ks ls : List Kind) → are_same_kinds ks ls ≡ true → ks ≡ ls
same_kinds [] [] e = refl
same_kinds [] (l ∷ ls) e = absurd (cc)
same_kinds (k ∷ ks) [] e = absurd (cc)
same_kinds (k ∷ ks) (l ∷ ls) e =
    let both = and_parts (is_same_kind k l) (are_same_kinds ks ls) e in
    ap₂ (λ x xs. x ∷ xs) (same_kind k l both.0) (same_kinds ks ls both.1)

same_places : (ps qs : List ℕ) → are_same_places ps qs ≡ true → ps ≡ qs
same_places [] [] e = refl
same_places [] (q ∷ qs) e = absurd (cc)
same_places (p ∷ ps) [] e = absurd (cc)
same_places (p ∷ ps) (q ∷ qs) e =
    let both = and_parts (p == q) (are_same_places ps qs) e in
    ap₂ (λ x xs. x ∷ xs) (eqb-true p q both.0) (same_places ps qs both.1)

pub same_columns : (a b : Columns) → are_same_columns a b ≡ true → a ≡ b
same_columns a b e =
    let both = and_parts (are_same_kinds a.kinds b.kinds) (are_same_places a.key b.key) e in
    ap₂ (λ ks ps. let c : Columns = record { kinds = ks; key = ps } in c) (same_kinds a.kinds b.kinds both.0) (same_places a.key b.key both.1)

over_is : (base : Columns) (table : Option Table) → is_over base table ≡ true → columns_in table ≡ Some base
over_is base None e = absurd (cc)
over_is base (Some table) e = ap Some (same_columns table.columns base e)

module _ (at : List ℕ) (db : List Table) where
  bases_are : (relations homes : List ℕ) (bases : List Columns) → are_bases at db relations homes bases ≡ true → map (λ r. columns_in (slice_get db r)) relations ≡ map (λ b. Some b) bases
  bases_are [] homes [] e = refl
  bases_are [] homes (b ∷ bs) e = absurd (cc)
  bases_are (r ∷ rs) [] bs e = absurd (cc)
  bases_are (r ∷ rs) (h ∷ hs) [] e = absurd (cc)
  bases_are (r ∷ rs) (h ∷ hs) (b ∷ bs) e =
      let outer = and_parts (is_source h (slice_get at r) && is_over b (slice_get db r)) (are_bases at db rs hs bs) e in
      let inner = and_parts (is_source h (slice_get at r)) (is_over b (slice_get db r)) outer.0 in
      ap₂ (λ x xs. x ∷ xs) (over_is b (slice_get db r) inner.1) (bases_are rs hs bs outer.1)

  -- the views are over the relations
  pub all_bases : (views : List View) → list_all (has_bases at db) views ≡ true → AllByRecursion (λ view. HasBases view db) views
  all_bases [] e = tt
  all_bases (v ∷ vs) e =
      let both = and_parts (has_bases at db v) (list_all (has_bases at db) vs) e in
      (bases_are v.parts.relations v.parts.homes v.bases both.0, all_bases vs both.1)

initial_over : (c : Columns) (t : Table) → is_initial c t ≡ true → are_same_columns t.columns c ≡ true
initial_over c t e =
    let a = and_parts (is_schema c && are_same_columns t.columns c && nat_le (length t.rows) 4096) (list_all (has_numbers_within t.columns.kinds) t.rows) e in
    let b = and_parts (is_schema c && are_same_columns t.columns c) (nat_le (length t.rows) 4096) a.0 in
    (and_parts (is_schema c) (are_same_columns t.columns c) b.0).1

-- the schemas are those of the relations
pub schemas_are : (schemas : List Columns) (tables : List Table) → are_initial schemas tables ≡ true → schemas ≡ map (λ (t : Table). t.columns) tables
schemas_are [] [] e = refl
schemas_are [] (t ∷ ts) e = absurd (cc)
schemas_are (c ∷ cs) [] e = absurd (cc)
schemas_are (c ∷ cs) (t ∷ ts) e =
    let both = and_parts (is_initial c t) (are_initial cs ts) e in
    ap₂ (λ x xs. x ∷ xs) (sym (same_columns t.columns c (initial_over c t both.0))) (schemas_are cs ts both.1)
