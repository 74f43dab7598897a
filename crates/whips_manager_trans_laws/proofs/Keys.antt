-- What a valid transaction says of the rows of one relation, key by key.
use Rattle.std.proofs.Common.{◌≡◌, ◌⊎◌, inl, inr, ℕ, ◌==◌, ◌&&◌, Bool, true, false, cond, Option, Some, None, is_some, List, [], ◌∷◌, map, slice_get, refl, sym, ap, ap₂, subst, ◌∙◌, eqb-true}
use Rattle.std.specs.Option.{option_or}
use Rattle.std.proofs.lemmas.Bool.{and_parts}
use Rattle.whips_lists.specs.Members.{Has}
use Rattle.whips_model.specs.Tuples.{Codes, at_columns, has_key, row_at, without_key, IsKeyed}
use Rattle.whips_model.specs.Relation.{Table}
use Rattle.whips_lists.proofs.Members.{has_first, has_later, has_mapped, has_before}
use Rattle.whips_choices.specs.Edits.{put_rows}
use Rattle.whips_choices.proofs.Rows.{key_is, row_found, row_missing, puts_have}
use Rattle.whips_rel.specs.declared.update.Update.{Update}
use Rattle.whips_rel.specs.declared.update.Update.TheVariants.{Insert, Delete}
use Rattle.whips_states.specs.States.{Updates, updated, applied, IsValid, AreValid, AreSoundTables}
use Rattle.whips_states.specs.Net.{inserted, deleted, names, first_of_key, last_of_key, or_else}
use Rattle.whips_states.specs.Laws.{without_keys}
use Rattle.whips_states.proofs.Changed.{sound_at, update_sound, tables_stay}
use Rattle.whips_trans_laws.proofs.ByKey.{row_of_key, puts_row, keys_row}
use Rattle.whips_trans_laws.proofs.Nets.{old_of, net_rows, inserted_last, deleted_first}

module _ (r : ℕ) (cols : List ℕ) (k : Codes) where
  -- ---- one update

  none_left : (u : Update) → names r cols k u ≡ false → row_at cols k (inserted r cols (u ∷ [])) ≡ None
  none_left (Insert q s) e = elim (q == r) as (λ b. (b && has_key cols k s) ≡ false → row_at cols k (cond b (s ∷ []) []) ≡ None) [
    | true ↦ λ e. ap (λ b. cond b (Some s) None) e
    | false ↦ λ e. refl
  ] e
  none_left (Delete q s) e = elim (q == r) as (λ b. row_at cols k (cond b (without_key cols (at_columns cols s) []) []) ≡ None) [ true ↦ refl | false ↦ refl ]

  none_found : (u : Update) → names r cols k u ≡ false → row_at cols k (deleted r cols (u ∷ [])) ≡ None
  none_found (Insert q s) e = elim (q == r) as (λ b. row_at cols k (cond b (without_key cols (at_columns cols s) []) []) ≡ None) [ true ↦ refl | false ↦ refl ]
  none_found (Delete q s) e = elim (q == r) as (λ b. (b && has_key cols k s) ≡ false → row_at cols k (cond b (s ∷ []) []) ≡ None) [
    | true ↦ λ e. ap (λ b. cond b (Some s) None) e
    | false ↦ λ e. refl
  ] e

  -- ---- the first and the last update of a key

  pub first_named : (t : Updates) (x : Update) → first_of_key r cols k t ≡ Some x → names r cols k x ≡ true
  first_named [] x e = absurd (cc)
  first_named (u ∷ t) x e = go (λ g. first_named t x g) (names r cols k u) refl e
    where
      go : (first_of_key r cols k t ≡ Some x → names r cols k x ≡ true) → (b : Bool) → names r cols k u ≡ b → cond b (Some u) (first_of_key r cols k t) ≡ Some x → names r cols k x ≡ true
      go ih true n g = let same : u ≡ x = cc in subst (λ z. names r cols k z ≡ true) same n
      go ih false n g = ih g

  pub last_has_first : (t : Updates) (x : Update) → last_of_key r cols k t ≡ Some x → (y : Update) × (first_of_key r cols k t ≡ Some y)
  last_has_first [] x e = absurd (cc)
  last_has_first (u ∷ t) x e = go (λ y g. last_has_first t y g) (last_of_key r cols k t) refl (names r cols k u) e
    where
      go : ((y : Update) → last_of_key r cols k t ≡ Some y → (z : Update) × (first_of_key r cols k t ≡ Some z)) → (o : Option Update) → last_of_key r cols k t ≡ o → (b : Bool) → or_else o (cond b (Some u) None) ≡ Some x
          → (z : Update) × (cond b (Some u) (first_of_key r cols k t) ≡ Some z)
      go ih o l true g = (u, refl)
      go ih None l false g = absurd (cc)
      go ih (Some y) l false g = ih y l

  pub last_there : (t : Updates) (x : Update) → last_of_key r cols k t ≡ Some x → Has x t
  last_there [] x e = absurd (cc)
  last_there (u ∷ t) x e = go (λ g. last_there t x g) (last_of_key r cols k t) refl (names r cols k u) e
    where
      go : (last_of_key r cols k t ≡ Some x → Has x t) → (o : Option Update) → last_of_key r cols k t ≡ o → (b : Bool) → or_else o (cond b (Some u) None) ≡ Some x → Has x (u ∷ t)
      go ih None l true g = let same : u ≡ x = cc in subst (λ z. Has z (u ∷ t)) same (has_first u t)
      go ih None l false g = absurd (cc)
      go ih (Some y) l b g = has_later x u t (ih (l ∙ g))

-- the row of the key of an update that is valid, before it
old_row : (db : List Table) (r : ℕ) (table : Table) (k : Codes) (u : Update) → slice_get db r ≡ Some table → IsValid db u → names r table.columns.key k u ≡ true → row_at table.columns.key k table.rows ≡ old_of u
old_row db r table k (Insert q s) there v n =
    let parts = and_parts (q == r) (has_key table.columns.key k s) n in
    let found : slice_get db r ≡ Some v.table = subst (λ z. slice_get db z ≡ Some v.table) (eqb-true q r parts.0) v.there in
    let is : v.table ≡ table = cc in
    let row : row_at table.columns.key (at_columns table.columns.key s) table.rows ≡ None = subst (λ (z : Table). row_at z.columns.key (at_columns z.columns.key s) z.rows ≡ None) is v.valid.1 in
    subst (λ z. row_at table.columns.key z table.rows ≡ None) (key_is table.columns.key k s parts.1) row
old_row db r table k (Delete q s) there v n =
    let parts = and_parts (q == r) (has_key table.columns.key k s) n in
    let found : slice_get db r ≡ Some v.table = subst (λ z. slice_get db z ≡ Some v.table) (eqb-true q r parts.0) v.there in
    let is : v.table ≡ table = cc in
    let row : row_at table.columns.key (at_columns table.columns.key s) table.rows ≡ Some s = subst (λ (z : Table). row_at z.columns.key (at_columns z.columns.key s) z.rows ≡ Some s) is v.valid.1 in
    subst (λ z. row_at table.columns.key z table.rows ≡ Some s) (key_is table.columns.key k s parts.1) row

-- an update of another key leaves the key's row
module _ (r : ℕ) (cols : List ℕ) (rows : List Codes) (u : Update) where
  abbrev rest : List Codes
  rest = without_keys cols (map (at_columns cols) (deleted r cols (u ∷ []))) rows

  abbrev next_rows : List Codes
  next_rows = put_rows cols (inserted r cols (u ∷ [])) rest

  other_row : (k : Codes) → names r cols k u ≡ false → row_at cols k next_rows ≡ row_at cols k rows
  other_row k n =
      puts_row cols k (inserted r cols (u ∷ [])) rest (inserted_last r cols (u ∷ [])).0
      ∙ ap (λ o. option_or o (row_at cols k rest)) (none_left r cols k u n)
      ∙ keys_row cols k (deleted r cols (u ∷ [])) rows
      ∙ ap (λ o. cond (is_some o) None (row_at cols k rows)) (none_found r cols k u n)

-- the row of a key before a valid transaction is what its first update says
pub first_row_is : (db : List Table) (t : Updates) (r : ℕ) (table : Table) (k : Codes) (x : Update) → AreSoundTables db → AreValid db t → slice_get db r ≡ Some table → first_of_key r table.columns.key k t ≡ Some x
    → row_at table.columns.key k table.rows ≡ old_of x
first_row_is db [] r table k x sound valid there e = absurd (cc)
first_row_is db (u ∷ t) r table k x sound valid there e =
    go (λ g. first_row_is (updated db u) t r (record table { rows = next_rows r table.columns.key table.rows u }) k x (update_sound db u sound valid.0) valid.1 (net_rows db (u ∷ []) r table sound (valid.0, tt) there) g) (names r table.columns.key k u) refl e
  where
    go : (first_of_key r table.columns.key k t ≡ Some x → row_at table.columns.key k (next_rows r table.columns.key table.rows u) ≡ old_of x) → (b : Bool) → names r table.columns.key k u ≡ b
        → cond b (Some u) (first_of_key r table.columns.key k t) ≡ Some x → row_at table.columns.key k table.rows ≡ old_of x
    go ih true n g = let same : u ≡ x = cc in subst (λ z. row_at table.columns.key k table.rows ≡ old_of z) same (old_row db r table k u there valid.0 n)
    go ih false n g = sym (other_row r table.columns.key table.rows u k n) ∙ ih g

-- ---- the rows of one relation before and after

module _ (db : List Table) (t : Updates) (r : ℕ) (table : Table) (sound : AreSoundTables db) (valid : AreValid db t) (there : slice_get db r ≡ Some table) where
  abbrev pub cols_of : List ℕ
  cols_of = table.columns.key

  abbrev pub key_of : Codes → Codes
  key_of = at_columns cols_of

  abbrev pub ins : List Codes
  ins = inserted r cols_of t

  abbrev pub del : List Codes
  del = deleted r cols_of t

  abbrev pub left_rows : List Codes
  left_rows = put_rows cols_of ins (without_keys cols_of (map key_of del) table.rows)

  rows_keyed : IsKeyed cols_of table.rows
  rows_keyed = (sound_at db r table sound there).keyed

  row_after : (k : Codes) → row_at cols_of k left_rows ≡ option_or (row_at cols_of k ins) (cond (is_some (row_at cols_of k del)) None (row_at cols_of k table.rows))
  row_after k = puts_row cols_of k ins (without_keys cols_of (map key_of del) table.rows) (inserted_last r cols_of t).0 ∙ ap (option_or (row_at cols_of k ins)) (keys_row cols_of k del table.rows)

  -- a row whose key is among those deleted is the deleted tuple
  pub deleted_is : (u : Codes) → Has u table.rows → Has (key_of u) (map key_of del) → Has u del
  deleted_is u h g =
      let d = has_before key_of (key_of u) del g in
      let first = ((deleted_first r cols_of t).1 d.0).0 d.1 in
      let row = first_row_is db t r table (key_of d.0) (Delete r d.0) sound valid there first in
      let own = row_of_key cols_of u table.rows rows_keyed h in
      let same : row_at cols_of (key_of d.0) table.rows ≡ Some u = subst (λ z. row_at cols_of z table.rows ≡ Some u) d.2 own in
      let is : d.0 ≡ u = cc (row, same) in
      subst (λ z. Has z del) is d.1

  -- a row that has the key of an inserted tuple is deleted
  pub inserted_new : (s u : Codes) → Has s ins → Has u table.rows → key_of s ≡ key_of u → Has (key_of u) (map key_of del)
  inserted_new s u h g e =
      let last = ((inserted_last r cols_of t).1 s).0 h in
      let first = last_has_first r cols_of (key_of s) t (Insert r s) last in
      let row = first_row_is db t r table (key_of s) first.0 sound valid there first.1 in
      let own : row_at cols_of (key_of s) table.rows ≡ Some u = subst (λ z. row_at cols_of z table.rows ≡ Some u) (sym e) (row_of_key cols_of u table.rows rows_keyed g) in
      go first.0 first.1 (sym row ∙ own)
    where
      go : (x : Update) → first_of_key r cols_of (key_of s) t ≡ Some x → old_of x ≡ Some u → Has (key_of u) (map key_of del)
      go (Insert q d) f o = absurd (cc)
      go (Delete q d) f o =
          let same : d ≡ u = cc in
          let at : q ≡ r = eqb-true q r (and_parts (q == r) (has_key cols_of (key_of s) d) (first_named r cols_of (key_of s) t (Delete q d) f)).0 in
          let is : first_of_key r cols_of (key_of s) t ≡ Some (Delete r u) = f ∙ ap₂ (λ a b. Some (Delete a b)) at same in
          has_mapped key_of u del (((deleted_first r cols_of t).1 u).1 (subst (λ z. first_of_key r cols_of z t ≡ Some (Delete r u)) e is))

  pub in_left : (u : Codes) → Has u ins → Has u left_rows
  in_left u h = puts_have cols_of u ins (without_keys cols_of (map key_of del) table.rows) (inserted_last r cols_of t).0 h

  not_deleted : (k : Codes) → (Has k (map key_of del) → ⊥) → row_at cols_of k del ≡ None
  not_deleted k h = go (row_at cols_of k del) refl
    where
      go : (o : Option Codes) → row_at cols_of k del ≡ o → o ≡ None
      go None e = refl
      go (Some d) e = let f = row_found cols_of k d del e in absurd (h (subst (λ z. Has z (map key_of del)) f.1 (has_mapped key_of d del f.0)))

  pub stays_left : (u : Codes) → Has u table.rows → (Has (key_of u) (map key_of del) → ⊥) → Has u left_rows
  stays_left u h other = (row_found cols_of (key_of u) u left_rows (row_after (key_of u) ∙ go (row_at cols_of (key_of u) ins) refl)).0
    where
      go : (o : Option Codes) → row_at cols_of (key_of u) ins ≡ o → option_or o (cond (is_some (row_at cols_of (key_of u) del)) None (row_at cols_of (key_of u) table.rows)) ≡ Some u
      go None e = ap (λ o. cond (is_some o) None (row_at cols_of (key_of u) table.rows)) (not_deleted (key_of u) other) ∙ row_of_key cols_of u table.rows rows_keyed h
      go (Some s) e = let f = row_found cols_of (key_of u) s ins e in absurd (other (inserted_new s u f.0 h f.1))

  pub left_from : (u : Codes) → IsKeyed cols_of left_rows → Has u left_rows → Has u ins ⊎ (Has u table.rows × (Has (key_of u) (map key_of del) → ⊥))
  left_from u keyed h = go (row_at cols_of (key_of u) ins) refl (row_at cols_of (key_of u) del) refl (sym (row_after (key_of u)) ∙ row_of_key cols_of u left_rows keyed h)
    where
      go : (o : Option Codes) → row_at cols_of (key_of u) ins ≡ o → (p : Option Codes) → row_at cols_of (key_of u) del ≡ p → option_or o (cond (is_some p) None (row_at cols_of (key_of u) table.rows)) ≡ Some u
          → Has u ins ⊎ (Has u table.rows × (Has (key_of u) (map key_of del) → ⊥))
      go (Some s) e p f g = let same : s ≡ u = cc in inl (subst (λ z. Has z ins) same (row_found cols_of (key_of u) s ins e).0)
      go None e (Some d) f g = absurd (cc)
      go None e None f g = inr ((row_found cols_of (key_of u) u table.rows g).0, λ k. let d = has_before key_of (key_of u) del k in row_missing cols_of (key_of u) d.0 del f d.1 (sym d.2))

-- ---- what is used of them

-- the rows before and after, what comes and what goes, where these are the key columns
pub record IsNet (cols : List ℕ) (rows after ins del : List Codes) : Type 0 where
  pub rising : IsKeyed cols ins
  pub deleted_is : (u : Codes) → Has u rows → Has (at_columns cols u) (map (at_columns cols) del) → Has u del
  pub inserted_new : (s u : Codes) → Has s ins → Has u rows → at_columns cols s ≡ at_columns cols u → Has (at_columns cols u) (map (at_columns cols) del)
  pub comes : (u : Codes) → Has u ins → Has u after
  pub stays : (u : Codes) → Has u rows → (Has (at_columns cols u) (map (at_columns cols) del) → ⊥) → Has u after
  pub from : (u : Codes) → Has u after → Has u ins ⊎ (Has u rows × (Has (at_columns cols u) (map (at_columns cols) del) → ⊥))

pub net_is : (db : List Table) (t : Updates) (r : ℕ) (table : Table) (sound : AreSoundTables db) (valid : AreValid db t) (there : slice_get db r ≡ Some table)
    → IsNet table.columns.key table.rows (left_rows db t r table sound valid there) (inserted r table.columns.key t) (deleted r table.columns.key t)
net_is db t r table sound valid there = record {
  rising = (inserted_last r table.columns.key t).0;
  deleted_is = deleted_is db t r table sound valid there;
  inserted_new = inserted_new db t r table sound valid there;
  comes = in_left db t r table sound valid there;
  stays = stays_left db t r table sound valid there;
  from = λ u h. left_from db t r table sound valid there u (sound_at (applied db t) r (record table { rows = left_rows db t r table sound valid there }) (tables_stay db t sound valid) (net_rows db t r table sound valid there)).keyed h;
}
