-- What was read at one place is read at each: updates, and transactions.
use Rattle.std.proofs.Common.{◌≡◌, Bool, true, false, codes, bytes_eq, List, [], ◌∷◌, length, nat_le, is_none, slice_get, Option, Ok, ap, ◌∙◌}
use Rattle.std.specs.Prelude.{ℕ, if◌then◌else◌}
use Rattle.serde_json.specs.Data.{Data}
use Rattle.serde_json.specs.Find.{as_str}
use Rattle.whips_model.specs.Tuples.{Codes, at_columns, row_at}
use Rattle.whips_model.specs.Relation.{Table}
use Rattle.whips_rel.specs.declared.update.Update.{Update}
use Rattle.whips_reading.specs.declared.place.Code.{Code}
use Rattle.whips_reading.specs.declared.place.Code.TheVariants.{Shape, Limit, Name, Present, Absent}
use Rattle.whips_reading.specs.Json.{Text, is_text}
use Rattle.whips_reading.specs.Places.{Place, in_element}
use Rattle.whips_reading.specs.Reading.{Read, ◌>>=◌, ◌>>◌, refuse, check, there, elements_of, listed, elements, triple_of, triple}
use Rattle.whips_reading.specs.Names.{place_of, text_in, named}
use Rattle.whips_relation_reading.specs.Rows.{values}
use Rattle.whips_relation_reading.specs.Relations.{relation_names}
use Rattle.whips_update_reading.specs.declared.target.Change.{Change}
use Rattle.whips_update_reading.specs.declared.target.Change.TheVariants.{Insertion, Deletion}
use Rattle.whips_update_reading.specs.declared.target.Target.{Target}
use Rattle.whips_update_reading.specs.Updates.{key_kinds, change_of, change_in, row_inserted, row_deleted, update_of, update_at, Scope, Work, target_in, update_from, update_added, updates_added, all_added, entry_from, entry_added}
use Rattle.whips_script_laws.proofs.Parts.{bound, tested, there_is}
use Rattle.whips_canonical_laws.proofs.Lists.{triple_listed}
use Rattle.whips_canonical_laws.proofs.Rows.{turned_elsewhere, values_elsewhere}

-- ---- one part after another

module _ {A B : Type 0} where
  -- both of two parts are read elsewhere, where each is
  bound_elsewhere : (here away : Read A) (next after : A → Read B) → ((a : A) → here ≡ Ok a → away ≡ Ok a) → ((a : A) (b : B) → next a ≡ Ok b → after a ≡ Ok b) → (b : B) → (here >>= next) ≡ Ok b → (away >>= after) ≡ Ok b
  bound_elsewhere here away next after one rest b e = let x = bound here next b e in ap (λ r. r >>= after) (one x.0 x.1) ∙ rest x.0 b x.2

tested_elsewhere : {B : Type 0} (test : Bool) (code : Code) (p q : Place) (next after : Read B) → ((b : B) → next ≡ Ok b → after ≡ Ok b) → (b : B) → (check test code p >> next) ≡ Ok b → (check test code q >> after) ≡ Ok b
tested_elsewhere test code p q next after rest b e = let x = tested test code p next b e in ap (λ t. check t code q >> after) x.0 ∙ rest b x.1

there_elsewhere : {A : Type 0} (o : Option A) (code : Code) (p q : Place) (a : A) → there o code p ≡ Ok a → there o code q ≡ Ok a
there_elsewhere o code p q a e = ap (λ x. there x code q) (there_is o code p a e)

-- ---- lists

pub listed_elsewhere : (p q : Place) (d : Data) (ds : List Data) → listed p d ≡ Ok ds → listed q d ≡ Ok ds
listed_elsewhere p q d ds e = there_elsewhere (elements_of d) Shape p q ds e

elements_elsewhere : (least most : ℕ) (p q : Place) (d : Data) (ds : List Data) → elements least most p d ≡ Ok ds → elements least most q d ≡ Ok ds
elements_elsewhere least most p q d ds e =
    bound_elsewhere (listed p d) (listed q d) _ _ (listed_elsewhere p q d)
    (λ xs ys f. tested_elsewhere (nat_le least (length xs)) Shape p q _ _ (λ zs g. tested_elsewhere (nat_le (length xs) most) Limit p q _ _ (λ ws h. h) zs g) ys f) ds e

triple_elsewhere : (p q : Place) (d : Data) (x : Data × Data × Data) → triple p d ≡ Ok x → triple q d ≡ Ok x
triple_elsewhere p q d x e = ap (λ r. r >>= triple_of q) (listed_elsewhere p q d (x.0 ∷ x.1 ∷ x.2 ∷ []) (triple_listed p d x.0 x.1 x.2 e))

-- ---- one update

abbrev change_by : (is_insert is_delete : Bool) → Place → Read Change
change_by is_insert is_delete place = if is_insert then Ok Insertion else (if is_delete then Ok Deletion else refuse Shape place)

word_elsewhere : (p q : Place) (t : Text) (c : Change) → change_of p t ≡ Ok c → change_of q t ≡ Ok c
word_elsewhere p q t c e = go (bytes_eq t (codes "insert")) (bytes_eq t (codes "delete")) e
  where
    go : (i d : Bool) → change_by i d p ≡ Ok c → change_by i d q ≡ Ok c
    go true d f = f
    go false true f = f
    go false false f = absurd (cc)

change_elsewhere : (p q : Place) (d : Data) (c : Change) → change_in p d ≡ Ok c → change_in q d ≡ Ok c
change_elsewhere p q d c e = bound_elsewhere (text_in p d) (text_in q d) (change_of p) (change_of q) (there_elsewhere (as_str d) Shape p q) (word_elsewhere p q) c e

named_elsewhere : (names : List Text) (p q : Place) (d : Data) (r : ℕ) → named names p d ≡ Ok r → named names q d ≡ Ok r
named_elsewhere names p q d r e = bound_elsewhere (text_in p d) (text_in q d) _ _ (there_elsewhere (as_str d) Shape p q) (λ t k f. there_elsewhere (place_of names t) Name p q k f) r e

inserted_elsewhere : (texts : List Text) (table : Table) (p q : Place) (d : Data) (t : Codes) → row_inserted texts table p d ≡ Ok t → row_inserted texts table q d ≡ Ok t
inserted_elsewhere texts table p q d t e =
    bound_elsewhere (values texts table.columns.kinds (in_element p 2) d) (values texts table.columns.kinds (in_element q 2) d) _ _ (values_elsewhere texts table.columns.kinds (in_element p 2) (in_element q 2) d)
    (λ v u f. tested_elsewhere (is_none (row_at table.columns.key (at_columns table.columns.key v) table.rows)) Present p q _ _ (λ w g. g) u f) t e

deleted_elsewhere : (texts : List Text) (table : Table) (p q : Place) (d : Data) (t : Codes) → row_deleted texts table p d ≡ Ok t → row_deleted texts table q d ≡ Ok t
deleted_elsewhere texts table p q d t e =
    let kinds = key_kinds table.columns.kinds table.columns.key in
    bound_elsewhere (values texts kinds (in_element p 2) d) (values texts kinds (in_element q 2) d) _ _ (values_elsewhere texts kinds (in_element p 2) (in_element q 2) d)
    (λ k u f. there_elsewhere (row_at table.columns.key k table.rows) Absent p q u f) t e

update_of_elsewhere : (texts : List Text) (table : Table) (r : ℕ) (change : Change) (p q : Place) (d : Data) (u : Update) → update_of texts table r change p d ≡ Ok u → update_of texts table r change q d ≡ Ok u
update_of_elsewhere texts table r Insertion p q d u e = bound_elsewhere (row_inserted texts table p d) (row_inserted texts table q d) _ _ (inserted_elsewhere texts table p q d) (λ t v f. f) u e
update_of_elsewhere texts table r Deletion p q d u e = bound_elsewhere (row_deleted texts table p d) (row_deleted texts table q d) _ _ (deleted_elsewhere texts table p q d) (λ t v f. f) u e

update_at_elsewhere : (texts : List Text) (tables : List Table) (r : ℕ) (change : Change) (p q : Place) (d : Data) (u : Update) → update_at texts tables r change p d ≡ Ok u → update_at texts tables r change q d ≡ Ok u
update_at_elsewhere texts tables r change p q d u e =
    bound_elsewhere (there (slice_get tables r) Name (in_element p 1)) (there (slice_get tables r) Name (in_element q 1)) _ _ (there_elsewhere (slice_get tables r) Name (in_element p 1) (in_element q 1))
    (λ table v f. update_of_elsewhere texts table r change p q d v f) u e

module _ (scope : Scope) where
  target_elsewhere : (p q : Place) (a b : Data) (x : Target) → target_in scope p a b ≡ Ok x → target_in scope q a b ≡ Ok x
  target_elsewhere p q a b x e =
      bound_elsewhere (change_in (in_element p 0) a) (change_in (in_element q 0) a) _ _ (change_elsewhere (in_element p 0) (in_element q 0) a)
      (λ c y f. bound_elsewhere (named (relation_names scope.relations) (in_element p 1) b) (named (relation_names scope.relations) (in_element q 1) b) _ _ (named_elsewhere (relation_names scope.relations) (in_element p 1) (in_element q 1) b) (λ r z g. g) y f) x e

  from_elsewhere : (s t : Work) (p q : Place) (x : Data × Data × Data) → update_from scope s p x ≡ Ok t → update_from scope s q x ≡ Ok t
  from_elsewhere s t p q x e =
      bound_elsewhere (target_in scope p x.0 x.1) (target_in scope q x.0 x.1) _ _ (target_elsewhere p q x.0 x.1)
      (λ y w f. bound_elsewhere (update_at scope.texts s.tables y.relation y.change p x.2) (update_at scope.texts s.tables y.relation y.change q x.2) _ _ (update_at_elsewhere scope.texts s.tables y.relation y.change p q x.2) (λ u z g. g) w f) t e

  pub update_elsewhere : (s t : Work) (p q : Place) (d : Data) → update_added scope s p d ≡ Ok t → update_added scope s q d ≡ Ok t
  update_elsewhere s t p q d e = bound_elsewhere (triple p d) (triple q d) (update_from scope s p) (update_from scope s q) (triple_elsewhere p q d) (λ x w f. from_elsewhere s w p q x f) t e

  -- ---- one transaction

  updates_elsewhere : (s t : Work) (p q : Place) (d : Data) → updates_added scope s p d ≡ Ok t → updates_added scope s q d ≡ Ok t
  updates_elsewhere s t p q d e =
      bound_elsewhere (elements 1 16 p d) (elements 1 16 q d) _ _ (elements_elsewhere 1 16 p q d)
      (λ ds w f. turned_elsewhere (update_added scope) update_elsewhere p q 0 0 s w ds f) t e

  all_elsewhere : (s t : Work) (p q : Place) (word list : Data) → all_added scope s p word list ≡ Ok t → all_added scope s q word list ≡ Ok t
  all_elsewhere s t p q word list e = tested_elsewhere (is_text (codes "all") word) Shape p q _ _ (λ w f. updates_elsewhere s w (in_element p 1) (in_element q 1) list f) t e

  entry_from_elsewhere : (s t : Work) (p q : Place) (d : Data) (ds : List Data) → entry_from scope s p d ds ≡ Ok t → entry_from scope s q d ds ≡ Ok t
  entry_from_elsewhere s t p q d [] e = update_elsewhere s t p q d e
  entry_from_elsewhere s t p q d (a ∷ []) e = update_elsewhere s t p q d e
  entry_from_elsewhere s t p q d (a ∷ b ∷ []) e = all_elsewhere s t p q a b e
  entry_from_elsewhere s t p q d (a ∷ b ∷ c ∷ ds) e = update_elsewhere s t p q d e

  pub entry_elsewhere : (s t : Work) (p q : Place) (d : Data) → entry_added scope s p d ≡ Ok t → entry_added scope s q d ≡ Ok t
  entry_elsewhere s t p q d e = bound_elsewhere (listed p d) (listed q d) (entry_from scope s p d) (entry_from scope s q d) (listed_elsewhere p q d) (λ ds w f. entry_from_elsewhere s w p q d ds f) t e
