-- What a transaction makes of a relation, key by key.
--
-- `net_rows`: after a valid transaction a relation has its rows without the keys of the deleted tuples, and then with the inserted ones
-- (`NetRows`). `inserted_last`, `deleted_first`: the inserted tuples are those whose key's last update is their insert, and the deleted
-- ones those whose key's first update is their delete. `others_miss`: an inserted tuple that a view isn't given, and a deleted one whose
-- key isn't taken from it, don't meet the view.
--
-- The idea: an update changes the row of one key alone. So the row of a key after a transaction is what its last update left, and the row
-- before is what its first update found, which is none for a valid insert. Rows in the order of their keys that have the same row for each
-- key are the same rows.
--
-- Five lemmas carry it: `left_row` and `found_row` (the row of a key after one update, and before it), `whole_row` (all updates of a key),
-- and `last_row` and `first_is` (the last of them, and the first).
use Rattle.std.proofs.Common.{◌≡◌, ◌≢◌, ◌⊎◌, inl, inr, ℕ, ◌==◌, ◌&&◌, Bool, true, false, cond, not, Option, Some, None, is_some, List, [], ◌∷◌, map, fold, slice_get, refl, sym, ap, ap₂, subst, ◌∙◌, eqb-true, eq-eqb}
use Rattle.std.specs.List.{filter}
use Rattle.std.specs.Option.{option_or}
use Rattle.std.proofs.lemmas.Bool.{and_parts, cases_eq, ne_eqb}
use Rattle.whips_lists.specs.Members.{Has}
use Rattle.whips_model.specs.Tuples.{Codes, at_columns, has_key, row_at, put_row, without_key, IsKeyed}
use Rattle.whips_model.specs.Relation.{Table}
use Rattle.whips_model.proofs.Keyed.{keyed_put, keyed_filter}
use Rattle.whips_lists.proofs.Members.{has_passing, has_mapped}
use Rattle.whips_choices.specs.KeyedViews.{part_key}
use Rattle.whips_choices.specs.Edits.{put_rows}
use Rattle.whips_choices.proofs.Rows.{key_is, row_found}
use Rattle.whips_rel.specs.declared.update.Update.{Update}
use Rattle.whips_rel.specs.declared.update.Update.TheVariants.{Insert, Delete}
use Rattle.whips_states.specs.States.{Updates, with_row, without_row, updated, applied, IsValid, AreValid}
use Rattle.whips_states.specs.Concerns.{meets_part}
use Rattle.whips_states.specs.Net.{left_by, found_by, inserted, deleted, names, first_of_key, last_of_key, or_else, relation_at}
use Rattle.whips_states.specs.Laws.{without_keys, NetRows, InsertedLast, DeletedFirst, OthersMiss}
use Rattle.whips_states.proofs.Changed.{changed_same, changed_other, sound_at, tables_stay}
use Rattle.whips_trans_laws.proofs.ByKey.{at_put, without_row as at_without, row_of_key, same_by_key, puts_row, keys_row, puts_keyed, keys_keyed}

-- the row of the key after an update of it, and before it
abbrev pub new_of : Update → Option Codes
new_of (Insert q t) = Some t
new_of (Delete q t) = None

abbrev pub old_of : Update → Option Codes
old_of (Insert q t) = None
old_of (Delete q t) = Some t

module _ (r : ℕ) (cols : List ℕ) where
  left_row : (k : Codes) (rows : List Codes) (u : Update) → row_at cols k (left_by r cols rows u) ≡ cond (names r cols k u) (new_of u) (row_at cols k rows)
  left_row k rows (Insert q t) = elim (q == r) as (λ b. row_at cols k (cond b (put_row cols t rows) rows) ≡ cond (b && has_key cols k t) (Some t) (row_at cols k rows)) [ true ↦ at_put cols k t rows | false ↦ refl ]
  left_row k rows (Delete q t) = elim (q == r) as (λ b. row_at cols k (cond b (without_key cols (at_columns cols t) rows) rows) ≡ cond (b && has_key cols k t) None (row_at cols k rows)) [ true ↦ at_without cols k t rows | false ↦ refl ]

  found_row : (k : Codes) (rows : List Codes) (u : Update) → row_at cols k (found_by r cols u rows) ≡ cond (names r cols k u) (old_of u) (row_at cols k rows)
  found_row k rows (Insert q t) = elim (q == r) as (λ b. row_at cols k (cond b (without_key cols (at_columns cols t) rows) rows) ≡ cond (b && has_key cols k t) None (row_at cols k rows)) [ true ↦ at_without cols k t rows | false ↦ refl ]
  found_row k rows (Delete q t) = elim (q == r) as (λ b. row_at cols k (cond b (put_row cols t rows) rows) ≡ cond (b && has_key cols k t) (Some t) (row_at cols k rows)) [ true ↦ at_put cols k t rows | false ↦ refl ]

  -- the row of a key, update by update
  abbrev pub next_row : Codes → Option Codes → Update → Option Codes
  next_row k o u = cond (names r cols k u) (new_of u) o

  abbrev pub first_row : Codes → Updates → Option Codes
  first_row k [] = None
  first_row k (u ∷ t) = cond (names r cols k u) (old_of u) (first_row k t)

  fold_row : (k : Codes) (rows : List Codes) (t : Updates) → row_at cols k (fold (left_by r cols) rows t) ≡ fold (next_row k) (row_at cols k rows) t
  fold_row k rows [] = refl
  fold_row k rows (u ∷ t) = fold_row k (left_by r cols rows u) t ∙ ap (λ o. fold (next_row k) o t) (left_row k rows u)

  deleted_row : (k : Codes) (t : Updates) → row_at cols k (deleted r cols t) ≡ first_row k t
  deleted_row k [] = refl
  deleted_row k (u ∷ t) = found_row k (deleted r cols t) u ∙ ap (cond (names r cols k u) (old_of u)) (deleted_row k t)

  left_keyed : (rows : List Codes) (u : Update) → IsKeyed cols rows → IsKeyed cols (left_by r cols rows u)
  left_keyed rows (Insert q t) h = elim (q == r) as (λ b. IsKeyed cols (cond b (put_row cols t rows) rows)) [ true ↦ keyed_put cols t rows h | false ↦ h ]
  left_keyed rows (Delete q t) h = elim (q == r) as (λ b. IsKeyed cols (cond b (without_key cols (at_columns cols t) rows) rows)) [ true ↦ keyed_filter cols (λ s. not (has_key cols (at_columns cols t) s)) rows h | false ↦ h ]

  found_keyed : (rows : List Codes) (u : Update) → IsKeyed cols rows → IsKeyed cols (found_by r cols u rows)
  found_keyed rows (Insert q t) h = elim (q == r) as (λ b. IsKeyed cols (cond b (without_key cols (at_columns cols t) rows) rows)) [ true ↦ keyed_filter cols (λ s. not (has_key cols (at_columns cols t) s)) rows h | false ↦ h ]
  found_keyed rows (Delete q t) h = elim (q == r) as (λ b. IsKeyed cols (cond b (put_row cols t rows) rows)) [ true ↦ keyed_put cols t rows h | false ↦ h ]

  fold_keyed : (rows : List Codes) (t : Updates) → IsKeyed cols rows → IsKeyed cols (fold (left_by r cols) rows t)
  fold_keyed rows [] h = h
  fold_keyed rows (u ∷ t) h = fold_keyed (left_by r cols rows u) t (left_keyed rows u h)

  deleted_keyed : (t : Updates) → IsKeyed cols (deleted r cols t)
  deleted_keyed [] = tt
  deleted_keyed (u ∷ t) = found_keyed (deleted r cols t) u (deleted_keyed t)

  -- where the key's first update is an insert, there was no row of it
  abbrev pub Fits : Codes → Updates → Option Codes → Type 0
  Fits k t o = (q : ℕ) (s : Codes) → first_of_key r cols k t ≡ Some (Insert q s) → o ≡ None

  or_end : (a o : Option Codes) → o ≡ None → a ≡ option_or a o
  or_end None o e = sym e
  or_end (Some x) o e = refl

  whole_row : (k : Codes) (t : Updates) (o : Option Codes) → Fits k t o → fold (next_row k) o t ≡ option_or (fold (next_row k) None t) (cond (is_some (first_row k t)) None o)
  whole_row k [] o fits = refl
  whole_row k (u ∷ t) o fits = go (λ h. whole_row k t o h) (names r cols k u) refl
    where
      here : (u : Update) → (names r cols k u ≡ true) → Fits k (u ∷ t) o → fold (next_row k) (new_of u) t ≡ option_or (fold (next_row k) (new_of u) t) (cond (is_some (old_of u)) None o)
      here (Insert q s) e fits = or_end (fold (next_row k) (Some s) t) o (fits q s (ap (λ b. cond b (Some (Insert q s)) (first_of_key r cols k t)) e))
      here (Delete q s) e fits = or_end (fold (next_row k) None t) None refl

      go : (Fits k t o → fold (next_row k) o t ≡ option_or (fold (next_row k) None t) (cond (is_some (first_row k t)) None o)) → (b : Bool) → names r cols k u ≡ b
          → fold (next_row k) (cond b (new_of u) o) t ≡ option_or (fold (next_row k) (cond b (new_of u) None) t) (cond (is_some (cond b (old_of u) (first_row k t))) None o)
      go ih true e = here u e fits
      go ih false e = ih (λ q s h. fits q s (ap (λ b. cond b (Some u) (first_of_key r cols k t)) e ∙ h))

  -- ---- the first and the last update of a key

  abbrev pub outcome : Option Update → Option Codes → Option Codes
  outcome None o = o
  outcome (Some u) o = new_of u

  last_row : (k : Codes) (t : Updates) (o : Option Codes) → fold (next_row k) o t ≡ outcome (last_of_key r cols k t) o
  last_row k [] o = refl
  last_row k (u ∷ t) o = last_row k t (next_row k o u) ∙ go (last_of_key r cols k t) (names r cols k u)
    where
      go : (last : Option Update) (b : Bool) → outcome last (cond b (new_of u) o) ≡ outcome (or_else last (cond b (Some u) None)) o
      go None true = refl
      go None false = refl
      go (Some x) b = refl

  last_names : (k : Codes) (t : Updates) (u : Update) → last_of_key r cols k t ≡ Some u → names r cols k u ≡ true
  last_names k [] u e = absurd (cc)
  last_names k (x ∷ t) u e = go (λ h. last_names k t u h) (last_of_key r cols k t) (names r cols k x) refl refl e
    where
      go : (last_of_key r cols k t ≡ Some u → names r cols k u ≡ true) → (last : Option Update) (b : Bool) → last_of_key r cols k t ≡ last → names r cols k x ≡ b → or_else last (cond b (Some x) None) ≡ Some u → names r cols k u ≡ true
      go ih None true h g e = let same : x ≡ u = cc in subst (λ z. names r cols k z ≡ true) same g
      go ih None false h g e = absurd (cc)
      go ih (Some y) b h g e = ih (h ∙ e)

  abbrev pub before_of : Option Update → Option Codes
  before_of None = None
  before_of (Some u) = old_of u

  first_is : (k : Codes) (t : Updates) → first_row k t ≡ before_of (first_of_key r cols k t)
  first_is k [] = refl
  first_is k (u ∷ t) = elim (names r cols k u) as (λ b. cond b (old_of u) (first_row k t) ≡ before_of (cond b (Some u) (first_of_key r cols k t))) [ true ↦ refl | false ↦ first_is k t ]

  first_names : (k : Codes) (t : Updates) (u : Update) → first_of_key r cols k t ≡ Some u → names r cols k u ≡ true
  first_names k [] u e = absurd (cc)
  first_names k (x ∷ t) u e = go (λ h. first_names k t u h) (names r cols k x) refl e
    where
      go : (first_of_key r cols k t ≡ Some u → names r cols k u ≡ true) → (b : Bool) → names r cols k x ≡ b → cond b (Some x) (first_of_key r cols k t) ≡ Some u → names r cols k u ≡ true
      go ih true g e = let same : x ≡ u = cc in subst (λ z. names r cols k z ≡ true) same g
      go ih false g e = ih e

  relation_named : (q : ℕ) (k s : Codes) → ((q == r) && has_key cols k s) ≡ true → q ≡ r
  relation_named q k s e = eqb-true q r (and_parts (q == r) (has_key cols k s) e).0

pub inserted_last : InsertedLast
inserted_last r cols t = (fold_keyed r cols [] t tt, λ s. (there s, back s))
  where
    row : (k : Codes) → row_at cols k (inserted r cols t) ≡ outcome r cols (last_of_key r cols k t) None
    row k = fold_row r cols k [] t ∙ last_row r cols k t None

    there : (s : Codes) → Has s (inserted r cols t) → last_of_key r cols (at_columns cols s) t ≡ Some (Insert r s)
    there s h = go (last_of_key r cols (at_columns cols s) t) refl (sym (row (at_columns cols s)) ∙ row_of_key cols s (inserted r cols t) (fold_keyed r cols [] t tt) h)
      where
        go : (last : Option Update) → last_of_key r cols (at_columns cols s) t ≡ last → outcome r cols last None ≡ Some s → last ≡ Some (Insert r s)
        go None e g = absurd (cc)
        go (Some (Delete q x)) e g = absurd (cc)
        go (Some (Insert q x)) e g =
            let same : x ≡ s = cc in
            let is = relation_named r cols q (at_columns cols s) x (last_names r cols (at_columns cols s) t (Insert q x) e) in
            ap₂ (λ a b. Some (Insert a b)) is same

    back : (s : Codes) → last_of_key r cols (at_columns cols s) t ≡ Some (Insert r s) → Has s (inserted r cols t)
    back s e = (row_found cols (at_columns cols s) s (inserted r cols t) (row (at_columns cols s) ∙ ap (λ l. outcome r cols l None) e)).0

pub deleted_first : DeletedFirst
deleted_first r cols t = (deleted_keyed r cols t, λ s. (there s, back s))
  where
    row : (k : Codes) → row_at cols k (deleted r cols t) ≡ before_of r cols (first_of_key r cols k t)
    row k = deleted_row r cols k t ∙ first_is r cols k t

    there : (s : Codes) → Has s (deleted r cols t) → first_of_key r cols (at_columns cols s) t ≡ Some (Delete r s)
    there s h = go (first_of_key r cols (at_columns cols s) t) refl (sym (row (at_columns cols s)) ∙ row_of_key cols s (deleted r cols t) (deleted_keyed r cols t) h)
      where
        go : (first : Option Update) → first_of_key r cols (at_columns cols s) t ≡ first → before_of r cols first ≡ Some s → first ≡ Some (Delete r s)
        go None e g = absurd (cc)
        go (Some (Insert q x)) e g = absurd (cc)
        go (Some (Delete q x)) e g =
            let same : x ≡ s = cc in
            let is = relation_named r cols q (at_columns cols s) x (first_names r cols (at_columns cols s) t (Delete q x) e) in
            ap₂ (λ a b. Some (Delete a b)) is same

    back : (s : Codes) → first_of_key r cols (at_columns cols s) t ≡ Some (Delete r s) → Has s (deleted r cols t)
    back s e = (row_found cols (at_columns cols s) s (deleted r cols t) (row (at_columns cols s) ∙ ap (before_of r cols) e)).0

-- ---- one relation after a transaction

update_at : (db : List Table) (u : Update) (r : ℕ) (table : Table) → slice_get db r ≡ Some table → slice_get (updated db u) r ≡ Some (record table { rows = left_by r table.columns.key table.rows u })
update_at db (Insert q t) r table e = go (cases_eq q r)
  where
    go : (q ≡ r) ⊎ (q ≢ r) → slice_get (updated db (Insert q t)) r ≡ Some (record table { rows = left_by r table.columns.key table.rows (Insert q t) })
    go (inl same) = subst (λ z. slice_get (updated db (Insert z t)) r ≡ Some (with_row t table)) (sym same) (changed_same (with_row t) db r table e) ∙ ap (λ b. Some (record table { rows = cond b (put_row table.columns.key t table.rows) table.rows })) (sym (eq-eqb q r same))
    go (inr ne) = changed_other (with_row t) db q r (λ same. ne (sym same)) ∙ e ∙ ap (λ b. Some (record table { rows = cond b (put_row table.columns.key t table.rows) table.rows })) (sym (ne_eqb q r ne))
update_at db (Delete q t) r table e = go (cases_eq q r)
  where
    go : (q ≡ r) ⊎ (q ≢ r) → slice_get (updated db (Delete q t)) r ≡ Some (record table { rows = left_by r table.columns.key table.rows (Delete q t) })
    go (inl same) = subst (λ z. slice_get (updated db (Delete z t)) r ≡ Some (without_row t table)) (sym same) (changed_same (without_row t) db r table e) ∙ ap (λ b. Some (record table { rows = cond b (without_key table.columns.key (at_columns table.columns.key t) table.rows) table.rows })) (sym (eq-eqb q r same))
    go (inr ne) = changed_other (without_row t) db q r (λ same. ne (sym same)) ∙ e ∙ ap (λ b. Some (record table { rows = cond b (without_key table.columns.key (at_columns table.columns.key t) table.rows) table.rows })) (sym (ne_eqb q r ne))

all_at : (db : List Table) (t : Updates) (r : ℕ) (table : Table) → slice_get db r ≡ Some table → slice_get (applied db t) r ≡ Some (record table { rows = fold (left_by r table.columns.key) table.rows t })
all_at db [] r table e = e
all_at db (u ∷ t) r table e = all_at (updated db u) t r (record table { rows = left_by r table.columns.key table.rows u }) (update_at db u r table e)

first_fits : (db : List Table) (t : Updates) (r : ℕ) (table : Table) (k : Codes) → slice_get db r ≡ Some table → AreValid db t → Fits r table.columns.key k t (row_at table.columns.key k table.rows)
first_fits db [] r table k there valid q s e = absurd (cc)
first_fits db (u ∷ t) r table k there valid q s e = go (λ h. first_fits (updated db u) t r (record table { rows = left_by r table.columns.key table.rows u }) k (update_at db u r table there) valid.1 q s h) (names r table.columns.key k u) refl e
  where
    here : (u : Update) → IsValid db u → names r table.columns.key k u ≡ true → Some u ≡ Some (Insert q s) → row_at table.columns.key k table.rows ≡ None
    here (Delete p x) v n e = absurd (cc)
    here (Insert p x) v n e =
        let parts = and_parts (p == r) (has_key table.columns.key k x) n in
        let same = eqb-true p r parts.0 in
        let found : slice_get db r ≡ Some v.table = subst (λ z. slice_get db z ≡ Some v.table) same v.there in
        let is : v.table ≡ table = cc in
        let missing : row_at table.columns.key (at_columns table.columns.key x) table.rows ≡ None = subst (λ (z : Table). row_at z.columns.key (at_columns z.columns.key x) z.rows ≡ None) is v.valid.1 in
        subst (λ z. row_at table.columns.key z table.rows ≡ None) (key_is table.columns.key k x parts.1) missing

    go : (first_of_key r table.columns.key k t ≡ Some (Insert q s) → row_at table.columns.key k (left_by r table.columns.key table.rows u) ≡ None)
        → (b : Bool) → names r table.columns.key k u ≡ b → cond b (Some u) (first_of_key r table.columns.key k t) ≡ Some (Insert q s) → row_at table.columns.key k table.rows ≡ None
    go ih true n e = here u valid.0 n e
    go ih false n e = ap (λ b. cond b (new_of u) (row_at table.columns.key k table.rows)) (sym n) ∙ sym (left_row r table.columns.key k table.rows u) ∙ ih e

pub net_rows : NetRows
net_rows db t r table sound valid there =
    let after = all_at db t r table there in
    let cols = table.columns.key in
    let keyed = (sound_at (applied db t) r (record table { rows = fold (left_by r table.columns.key) table.rows t }) (tables_stay db t sound valid) after).keyed in
    let before = (sound_at db r table sound there).keyed in
    after ∙ ap (λ l. Some (record table { rows = l })) (same_by_key cols (fold (left_by r cols) table.rows t)
    (put_rows cols (inserted r cols t) (without_keys cols (map (at_columns cols) (deleted r cols t)) table.rows))
    keyed
    (puts_keyed cols (inserted r cols t) (without_keys cols (map (at_columns cols) (deleted r cols t)) table.rows) (keys_keyed cols (map (at_columns cols) (deleted r cols t)) table.rows before))
    (λ k.
    fold_row r cols k table.rows t
    ∙ whole_row r cols k t (row_at cols k table.rows) (first_fits db t r table k there valid)
    ∙ ap₂ (λ a b. option_or a (cond (is_some b) None (row_at cols k table.rows))) (sym (fold_row r cols k [] t)) (sym (deleted_row r cols k t))
    ∙ ap (option_or (row_at cols k (inserted r cols t))) (sym (keys_row cols k (deleted r cols t) table.rows))
    ∙ sym (puts_row cols k (inserted r cols t) (without_keys cols (map (at_columns cols) (deleted r cols t)) table.rows) (fold_keyed r cols [] t tt))))

pub others_miss : OthersMiss
others_miss v t part s = (
  λ h. go (meets_part v.base part s) refl (λ e. has_passing (meets_part v.base part) s (inserted (relation_at v part) (part_key v part) t) e h),
  λ h. go (meets_part v.base part s) refl (λ e. has_mapped (at_columns (part_key v part)) s (filter (meets_part v.base part) (deleted (relation_at v part) (part_key v part) t)) (has_passing (meets_part v.base part) s (deleted (relation_at v part) (part_key v part) t) e h)),
)
  where
    go : {P : Type 0} → (b : Bool) → meets_part v.base part s ≡ b → (meets_part v.base part s ≡ true → P) → P ⊎ (meets_part v.base part s ≡ false)
    go true e f = inl (f e)
    go false e f = inr e
