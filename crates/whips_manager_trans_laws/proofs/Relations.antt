-- The relations of a view before and after a valid transaction.
use Rattle.std.proofs.Common.{◌≡◌, inl, inr, ℕ, zero, suc, ◌+◌, ◌<◌, ◌≤◌, Option, Some, None, List, [], ◌∷◌, length, map, get_or, slice_get, refl, sym, ap, subst, ◌∙◌, arith}
use Rattle.std.specs.List.{range_with_len}
use Rattle.std.proofs.lemmas.Bool.{cases_eq}
use Rattle.std.proofs.lemmas.List.{length-map}
use Rattle.whips_lists.specs.Members.{Has}
use Rattle.whips_model.specs.Tuples.{Codes, Columns, IsKeyed}
use Rattle.whips_model.specs.Relation.{Table, rows_in, table_rows}
use Rattle.whips_lists.proofs.Members.{has_first, has_later, has_none, has_cases, has_same, has_mapped, has_before, has_joined, has_source}
use Rattle.whips_choices.specs.KeyedViews.{KeyedView, AreTables, part_key}
use Rattle.whips_states.specs.States.{Updates, applied, AreValid}
use Rattle.whips_states.specs.Net.{inserted, deleted, relation_at, by_part}
use Rattle.whips_states.proofs.Changed.{sound_at, tables_stay}
use Rattle.whips_trans_laws.proofs.Nets.{net_rows}
use Rattle.whips_steps.specs.Answers.{tables_of}
use Rattle.whips_view.specs.ViewDefs.{columns_in}
use Rattle.whips_manager_laws.proofs.Lawful.{begins}
use Rattle.whips_manager_trans_laws.specs.Laws.{AreRelationsOf, BasesAreRelations, RelationsStay, NewManagerKeeps}
use Rattle.whips_manager_trans_laws.proofs.Keys.{IsNet, net_is, left_rows}

-- ---- lists by part

range_is : (a n j : ℕ) → Has j (range_with_len a n) → j < a + n
range_is a zero j h = absurd (has_none j h)
range_is a (suc n) j h = elim (has_cases j a (range_with_len (a + 1) n) h) [ inl e ↦ omega arith | inr k ↦ let lt = range_is (a + 1) n j k in omega arith ]

range_has : (a n j : ℕ) → a ≤ j → j < a + n → Has j (range_with_len a n)
range_has a zero j low high = absurd (omega arith)
range_has a (suc n) j low high = elim (cases_eq j a) [
  | inl e ↦ has_same a j (range_with_len a (suc n)) (sym e) (has_first a (range_with_len (a + 1) n))
  | inr ne ↦ has_later j a (range_with_len (a + 1) n) (range_has (a + 1) n j (omega arith) (omega arith))
]

pub part_is : (n : ℕ) (f : ℕ → List Codes) (e : ℕ × Codes) → Has e (by_part n f) → (e.0 < n) × Has e.1 (f e.0)
part_is n f e h =
    let a = has_source (λ part. map (λ x. (part, x)) (f part)) e (range_with_len 0 n) h in
    let b = has_before (λ x. (a.0, x)) e (f a.0) a.2 in
    let first : e.0 ≡ a.0 = ap (λ z. z.0) b.2 in
    let second : e.1 ≡ b.0 = ap (λ z. z.1) b.2 in
    let lt = range_is 0 n a.0 a.1 in
    (omega arith, subst (λ z. Has e.1 (f z)) (sym first) (has_same b.0 e.1 (f a.0) (sym second) b.1))

pub part_has : (n : ℕ) (f : ℕ → List Codes) (i : ℕ) (k : Codes) → i < n → Has k (f i) → Has (i, k) (by_part n f)
part_has n f i k lt h = has_joined (λ part. map (λ x. (part, x)) (f part)) i (i, k) (range_with_len 0 n) (range_has 0 n i (omega arith) (omega arith)) (has_mapped (λ x. (i, x)) k (f i) h)

-- ---- the tables of the parts

at_part : (f : ℕ → List Codes) (relations : List ℕ) (i : ℕ) → i < length relations → get_or (map f relations) i [] ≡ f (get_or relations i 0)
at_part f [] i lt = absurd (omega arith)
at_part f (r ∷ relations) zero lt = refl
at_part f (r ∷ relations) (suc i) lt = at_part f relations i (omega arith)

module _ (v : KeyedView) (db : List Table) (rel : AreRelationsOf v db) where
  pub rows_are : (part : ℕ) → (lt : part < length v.keys) → get_or (tables_of v.base db) part [] ≡ (rel.each part lt).table.rows
  rows_are part lt = at_part (table_rows db) v.base.relations part (omega (arith, rel.parts)) ∙ ap rows_in (rel.each part lt).there

  pub tables_good : AreTables v (tables_of v.base db)
  tables_good = record {
    parts = length-map v.base.relations (table_rows db) ∙ rel.parts;
    keyed = λ part lt.
        let a = rel.each part lt in
        subst (λ l. IsKeyed (get_or v.keys part []) l) (sym (rows_are part lt)) (subst (λ z. IsKeyed z a.table.rows) a.key (sound_at db (relation_at v part) a.table rel.sound a.there).keyed);
  }

-- ---- after a transaction

module _ (v : KeyedView) (db : List Table) (t : Updates) (rel : AreRelationsOf v db) (valid : AreValid db t) where
  abbrev pub relations_after : AreRelationsOf v (applied db t)
  relations_after = record {
    sound = tables_stay db t rel.sound valid;
    parts = rel.parts;
    each = λ part lt.
        let a = rel.each part lt in
        record {
          table = record a.table { rows = left_rows db t (relation_at v part) a.table rel.sound valid a.there };
          there = net_rows db t (relation_at v part) a.table rel.sound valid a.there;
          key = a.key;
        };
  }

  pub net_at : (part : ℕ) → part < length v.keys
      → IsNet (part_key v part) (get_or (tables_of v.base db) part []) (get_or (tables_of v.base (applied db t)) part []) (inserted (relation_at v part) (part_key v part) t) (deleted (relation_at v part) (part_key v part) t)
  net_at part lt =
      let a = rel.each part lt in
      subst (λ l. IsNet (part_key v part) l (get_or (tables_of v.base (applied db t)) part []) (inserted (relation_at v part) (part_key v part) t) (deleted (relation_at v part) (part_key v part) t)) (sym (rows_are v db rel part lt))
      (subst (λ l. IsNet (part_key v part) a.table.rows l (inserted (relation_at v part) (part_key v part) t) (deleted (relation_at v part) (part_key v part) t)) (sym (rows_are v (applied db t) relations_after part lt))
      (subst (λ z. IsNet z a.table.rows (left_rows db t (relation_at v part) a.table rel.sound valid a.there) (inserted (relation_at v part) z t) (deleted (relation_at v part) z t)) a.key
      (net_is db t (relation_at v part) a.table rel.sound valid a.there)))

pub relations_stay : RelationsStay
relations_stay v db t rel valid = relations_after v db t rel valid

-- ---- relations with the columns that a view was made with

has_columns : (db : List Table) (r : ℕ) (columns : Columns) → columns_in (slice_get db r) ≡ Some columns → (table : Table) × (slice_get db r ≡ Some table) × (table.columns ≡ columns)
has_columns db r columns e = go (slice_get db r) refl e
  where
    go : (o : Option Table) → slice_get db r ≡ o → columns_in o ≡ Some columns → (table : Table) × (slice_get db r ≡ Some table) × (table.columns ≡ columns)
    go None s g = absurd (cc)
    go (Some table) s g = let same : table.columns ≡ columns = cc in (table, s, same)

bases_at : (db : List Table) (relations : List ℕ) (bases : List Columns) → map (λ r. columns_in (slice_get db r)) relations ≡ map (λ b. Some b) bases → (i : ℕ) → i < length (map (λ b. b.key) bases)
    → (table : Table) × (slice_get db (get_or relations i 0) ≡ Some table) × (table.columns.key ≡ get_or (map (λ b. b.key) bases) i [])
bases_at db relations [] e i lt = absurd (omega arith)
bases_at db [] (base ∷ bases) e i lt = absurd (cc)
bases_at db (r ∷ relations) (base ∷ bases) e zero lt =
    let first : columns_in (slice_get db r) ≡ Some base = cc in
    let a = has_columns db r base first in
    (a.0, a.1, ap (λ (z : Columns). z.key) a.2)
bases_at db (r ∷ relations) (base ∷ bases) e (suc i) lt =
    let rest : map (λ r. columns_in (slice_get db r)) relations ≡ map (λ b. Some b) bases = cc in
    bases_at db relations bases rest i (omega arith)

pub bases_are : BasesAreRelations
bases_are view db sound has = record {
  sound = sound;
  parts =
      sym (length-map view.parts.relations (λ r. columns_in (slice_get db r))) ∙ ap length has ∙ length-map view.bases (λ (b : Columns). Some b) ∙ sym (length-map view.bases (λ (b : Columns). b.key));
  each = λ part lt. let a = bases_at db view.parts.relations view.bases has part lt in record { table = a.0; there = a.1; key = a.2 };
}

-- ---- a new manager

pub begins_on : NewManagerKeeps
begins_on v db number is rel = begins v (tables_of v.base db) number is (tables_good v db rel)
