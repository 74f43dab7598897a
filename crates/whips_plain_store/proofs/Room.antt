-- Where there is a free slot for each key that no slot shows, a view has slots enough.
--
-- `has_room`: where the keys of the changes that no slot shows are no more than the free slots, the view has as many slots as it needs
-- (`slots_needed`); `has_room_by`: the same for columns and records that are equal to the view's. `wide_changes`: the rows that net changes
-- bring have the width of the view's rows.
--
-- The idea: each key that needs a slot has one: the slot that shows it or, where none does, the free slot at the key's place among the
-- unknown keys. No slot is for two keys: a slot shows one key alone, a free slot shows none, and the free slots are in rising order, so
-- each is among them once. So there are no more such keys than slots.
--
-- Four lemmas carry it: `slot_of` (each row's key has a slot), `one_for` (a slot is for one key), `roomy` (so there are no more keys than
-- slots) and `added` (a row whose key wasn't there before is among the changes).
use Rattle.std.proofs.Common.{◌≡◌, ◌≢◌, ◌⊎◌, inl, inr, ℕ, zero, suc, ◌+◌, ◌-◌, ◌/◌, ◌<◌, ◌≤◌, Bool, true, false, cond, List, [], ◌∷◌, ◌++◌, length, map, get_or, Option, Some, None, is_some, refl, sym, ap, subst, ◌∙◌, arith}
use Rattle.std.specs.Prelude.{reverse, is_none, ◌↔◌}
use Rattle.std.specs.List.{list_any, filter, filter_map, position, AllByRecursion}
use Rattle.std.specs.List.Sorted.{IsStrictlySortedBy}
use Rattle.std.specs.Ordering.{nat_cmp, is_eq}
use Rattle.std.specs.BTreeMap.{is_at}
use Rattle.std.specs.declared.cmp.Ordering.{Ordering}
use Rattle.std.specs.declared.cmp.Ordering.TheVariants.{Less}
use Rattle.std.proofs.lemmas.Bool.{cases_lt}
use Rattle.std.proofs.lemmas.List.{length-map}
use Rattle.std.proofs.lemmas.List.Folds.{list_any_at}
use Rattle.std.proofs.lemmas.List.Quantifiers.{position-Some}
use Rattle.whips_lists.specs.Lists.{places_from}
use Rattle.whips_lists.specs.Members.{Has}
use Rattle.whips_model.specs.Tuples.{Codes, Columns, codes_cmp, at_columns, has_key, row_at, IsKeyed}
use Rattle.whips_model.specs.Relation.{IsTable}
use Rattle.whips_model.proofs.Keyed.{all_at}
use Rattle.whips_lists.proofs.Members.{has_at, has_first, has_later, has_none, has_cases, has_either, has_left, has_right, has_mapped, has_before, has_passing, all_has, all_from_has}
use Rattle.whips_choices.proofs.Rows.{codes_tied, row_found}
use Rattle.whips_trans_laws.proofs.ByKey.{row_of_key}
use Rattle.whips_rel.specs.declared.update.Change.{Change}
use Rattle.whips_rel.specs.declared.update.Change.TheVariants.{Add}
use Rattle.whips_changes.specs.Changes.{union_rows, net_changes, change_at, change_of}
use Rattle.whips_net.specs.Made.{change_key}
use Rattle.whips_net.proofs.Merge.{puts}
use Rattle.whips_vnl.specs.Records.{seen_row, seen_after, visible}
use Rattle.whips_vnl.specs.declared.record.Vstep.{Vstep}
use Rattle.whips_store.specs.Versions.{versions_in_use, row_seen, shows_key, is_free, rows_shown_at}
use Rattle.whips_store.specs.Stores.{ViewState}
use Rattle.whips_store.specs.Calls.{AreNetChanges, slots_needed}
use Rattle.whips_store.specs.Sound.{HasSlotForKey, IsSoundView}
use Rattle.whips_store_laws.proofs.Lists.{has_found, found_from, has_unreversed, has_reversed, no_position}
use Rattle.whips_store_laws.proofs.Unions.{has_own_key, has_in_union, from_union, keyed_all, counted}
use Rattle.whips_store_laws.proofs.Slots.{row_of_seen}
use Rattle.whips_store_laws.proofs.Places.{row_slot, net_fact}
use Rattle.whips_store_laws.proofs.Views.{one_place}
use Rattle.whips_slot_index.specs.Indexes.{IndexData, is_among, slot_at, IsIndex, unknown_keys}
use Rattle.whips_plain_store.specs.Plain.{IsWide}
use Rattle.whips_slot_index.proofs.Shown.{at_own, shows, one_key, free_shows, now_in_use}

-- ---- places

place_of : {X : Type 0} (x d : X) (xs : List X) → Has x xs → (i : ℕ) × (i < length xs) × (get_or xs i d ≡ x)
place_of x d [] h = absurd (has_none x h)
place_of x d (y ∷ xs) h = elim (has_cases x y xs h) [
  | inl same ↦ (0, omega arith, sym same)
  | inr g ↦ let m = place_of x d xs g in (suc m.0, omega (arith, m.1), m.2)
]

not_below : (x y : ℕ) → nat_cmp x y ≡ Less → x ≢ y
not_below x y e same = let bad : false ≡ true = sym (ap is_eq e) ∙ ap (λ z. is_eq (nat_cmp x z)) (sym same) ∙ at_own x in absurd (cc)

-- places in rising order are apart
apart : (free : List ℕ) → IsStrictlySortedBy nat_cmp free → (i j : ℕ) → i < length free → j < length free → get_or free i 0 ≡ get_or free j 0 → i ≡ j
unfolding IsStrictlySortedBy
apart [] h i j li lj e = absurd (omega arith)
apart (x ∷ free) h zero zero li lj e = refl
apart (x ∷ free) h zero (suc j) li lj e = absurd (not_below x (get_or free j 0) (all_at (λ y. nat_cmp x y ≡ Less) free j 0 h.0 (omega arith)) e)
apart (x ∷ free) h (suc i) zero li lj e = absurd (not_below x (get_or free i 0) (all_at (λ y. nat_cmp x y ≡ Less) free i 0 h.0 (omega arith)) (sym e))
apart (x ∷ free) h (suc i) (suc j) li lj e = ap suc (apart free h.1 i j (omega arith) (omega arith) e)

among_at : (free : List ℕ) (i : ℕ) → i < length free → is_among free (get_or free i 0) ≡ true
among_at free i lt = list_any_at (is_at (nat_cmp (get_or free i 0))) free i 0 lt (at_own (get_or free i 0))

-- the places below m, each as codes
single : ℕ → Codes
single i = i ∷ []

singles : ℕ → ℕ → List Codes
singles a m = map single (places_from a m)

single_there : (m a i : ℕ) → a ≤ i → i < a + m → is_some (row_at (0 ∷ []) (single i) (singles a m)) ≡ true
unfolding single singles
single_there zero a i le lt = absurd (omega arith)
single_there (suc m) a i le lt = go (λ below. single_there m (suc a) i below (omega arith)) (has_key (0 ∷ []) (i ∷ []) (a ∷ [])) refl
  where
    go : (suc a ≤ i → is_some (row_at (0 ∷ []) (i ∷ []) (map (λ z. z ∷ []) (places_from (suc a) m))) ≡ true) → (b : Bool) → has_key (0 ∷ []) (i ∷ []) (a ∷ []) ≡ b
        → is_some (cond b (Some (a ∷ [])) (row_at (0 ∷ []) (i ∷ []) (map (λ z. z ∷ []) (places_from (suc a) m)))) ≡ true
    go more true e = refl
    go more false e = elim (cases_lt a i) [
      | inl below ↦ more (omega arith)
      | inr above ↦ let same : a ≡ i = omega arith in
          absurd (let bad : true ≡ false = sym (has_own_key (0 ∷ []) (a ∷ [])) ∙ subst (λ z. has_key (0 ∷ []) (z ∷ []) (a ∷ []) ≡ false) (sym same) e in cc)
    ]

singles_count : (a m : ℕ) → length (singles a m) ≡ m
unfolding singles
singles_count a m = length-map (places_from a m) single ∙ count m a
  where
    count : (m a : ℕ) → length (places_from a m) ≡ m
    count zero a = refl
    count (suc m) a = ap suc (count m (suc a))

-- ---- net changes

-- the row that a net change brings is one of those afterwards
pub changed_row : (cols : List ℕ) (before after : List Codes) (change : Change) (t : Codes) → Has change (net_changes cols before after) → seen_after change ≡ seen_row t → Has t after
changed_row cols before after change t h e =
    let f = found_from (change_at cols before after) (map (at_columns cols) (union_rows cols (after ∷ before ∷ []))) [] change h in
    let k = get_or (map (at_columns cols) (union_rows cols (after ∷ before ∷ []))) f.0 [] in
    let net = net_fact cols before after (get_or (map (at_columns cols) (union_rows cols (after ∷ before ∷ []))) f.0 []) (row_at cols (get_or (map (at_columns cols) (union_rows cols (after ∷ before ∷ []))) f.0 []) before) (row_at cols (get_or (map (at_columns cols) (union_rows cols (after ∷ before ∷ []))) f.0 []) after) change refl refl f.2 in
    (row_found cols (change_key cols change) t after (sym net.later ∙ ap row_seen e)).0

-- a row whose key isn't there before is added
added : (cols : List ℕ) (before after : List Codes) (t : Codes) → IsKeyed cols after → Has t after → row_at cols (at_columns cols t) before ≡ None → Has (at_columns cols t) (map (change_key cols) (net_changes cols before after))
added cols before after t keyed h none = go (row_at cols (at_columns cols t) (union_rows cols (after ∷ before ∷ []))) refl (has_in_union cols t after (after ∷ before ∷ []) [] (has_first after (before ∷ [])) h)
  where
    now : row_at cols (at_columns cols t) after ≡ Some t
    now = row_of_key cols t after keyed h

    go : (o : Option Codes) → row_at cols (at_columns cols t) (union_rows cols (after ∷ before ∷ [])) ≡ o → is_some (row_at cols (at_columns cols t) (union_rows cols (after ∷ before ∷ []))) ≡ true
        → Has (at_columns cols t) (map (change_key cols) (net_changes cols before after))
    go None e some = absurd (let bad : false ≡ true = sym (ap is_some e) ∙ some in cc)
    go (Some u) e some =
        let f = row_found cols (at_columns cols t) u (union_rows cols (after ∷ before ∷ [])) e in
        let key = subst (λ k. Has k (map (at_columns cols) (union_rows cols (after ∷ before ∷ [])))) f.1 (has_mapped (at_columns cols) u (union_rows cols (after ∷ before ∷ [])) f.0) in
        let place = place_of (at_columns cols t) [] (map (at_columns cols) (union_rows cols (after ∷ before ∷ []))) key in
        let add : change_at cols before after (at_columns cols t) ≡ Some (Add t) = ap (λ o. change_of (at_columns cols t) o (row_at cols (at_columns cols t) after)) none ∙ ap (λ o. change_of (at_columns cols t) None o) now in
        has_mapped (change_key cols) (Add t) (net_changes cols before after)
        (has_found (change_at cols before after) (map (at_columns cols) (union_rows cols (after ∷ before ∷ []))) place.0 [] (Add t) place.1 (ap (change_at cols before after) place.2 ∙ add))

-- ---- slots for all keys

module _ (cols : List ℕ) (records : List (List Vstep)) (index : IndexData) (after : List Codes) (keys : List Codes) (h : IsIndex cols records index)
    (one : HasSlotForKey cols index.versions index.committed records) (rising : IsStrictlySortedBy nat_cmp index.free)
    (enough : length (unknown_keys cols index.versions index.committed records keys) ≤ length index.free)
    (noted : (t : Codes) → Has t after → position (shows_key cols index.versions (versions_in_use index.versions index.committed) (at_columns cols t)) records ≡ None → Has (at_columns cols t) keys) where
  abbrev versions : List ℕ
  versions = versions_in_use index.versions index.committed

  abbrev unknown : List Codes
  unknown = unknown_keys cols index.versions index.committed records keys

  abbrev values : List (List Codes)
  values = reverse (map (λ w. rows_shown_at index.versions w records) versions ++ after ∷ [])

  abbrev rows : List Codes
  rows = union_rows cols values

  -- the slot for a key: the one that shows it, or for the key at a place among the unknown ones the free slot at the same place
  IsSlotFor : Codes → ℕ → Type 0
  IsSlotFor k s = (shows_key cols index.versions versions k (slot_at records s) ≡ true) ⊎ ((j : ℕ) × (j < length unknown) × (get_or unknown j [] ≡ k) × (get_or index.free j 0 ≡ s))

  record Slot (k : Codes) : Type 0 where
    pub slot : ℕ
    pub within : slot < length records
    pub is : IsSlotFor k slot

  slot_shown : (k : Codes) (s : ℕ) → s < length records → shows_key cols index.versions versions k (slot_at records s) ≡ true → Slot k
  unfolding IsSlotFor
  slot_shown k s lt e = record { slot = s; within = lt; is = inl e }

  free_at : (j : ℕ) → j < length unknown → (get_or index.free j 0 < length records) × (is_free index.versions index.committed (slot_at records (get_or index.free j 0)) ≡ true)
  free_at j lt = (h.free (get_or index.free j 0)).0 (among_at index.free j (omega arith))

  slot_new : (k : Codes) → Has k unknown → Slot k
  unfolding IsSlotFor
  slot_new k g =
      let p = place_of k [] unknown g in
      record { slot = get_or index.free p.0 0; within = (free_at p.0 p.1).0; is = inr (p.0, p.1, p.2, refl) }

  slot_after : (t : Codes) → Has t after → Slot (at_columns cols t)
  slot_after t g = go (position (shows_key cols index.versions versions (at_columns cols t)) records) refl
    where
      go : (o : Option ℕ) → position (shows_key cols index.versions versions (at_columns cols t)) records ≡ o → Slot (at_columns cols t)
      go None e = slot_new (at_columns cols t) (has_passing (λ k. is_none (position (shows_key cols index.versions versions k) records)) (at_columns cols t) keys (ap is_none e) (noted t g e))
      go (Some s) e = let p = position-Some (shows_key cols index.versions versions (at_columns cols t)) records s [] e in slot_shown (at_columns cols t) s p.0 p.1

  slot_of : (t : Codes) → Has t rows → Slot (at_columns cols t)
  slot_of t g =
      let found = row_of_key cols t rows (keyed_all cols values [] tt) g in
      elim (from_union cols (at_columns cols t) t values [] found) [
        | inl f ↦ by_value f.0 f.2 (has_either f.0 (map (λ w. rows_shown_at index.versions w records) versions) (after ∷ []) (has_unreversed f.0 (map (λ w. rows_shown_at index.versions w records) versions ++ after ∷ []) f.1))
        | inr none ↦ absurd (cc)
      ]
    where
      by_value : (ts : List Codes) → Has t ts → Has ts (map (λ w. rows_shown_at index.versions w records) versions) ⊎ Has ts (after ∷ []) → Slot (at_columns cols t)
      by_value ts k (inl g) =
          let m = has_before (λ w. rows_shown_at index.versions w records) ts versions g in
          let f = found_from (λ steps. row_seen (visible index.versions m.0 steps)) records [] t (subst (Has t) m.2 k) in
          slot_shown (at_columns cols t) f.0 f.1 (shows cols index.versions versions (at_columns cols t) t m.0 (slot_at records f.0) m.1 (row_of_seen (visible index.versions m.0 (slot_at records f.0)) t f.2) refl)
      by_value ts k (inr g) = elim (has_cases ts after [] g) [
        | inl same ↦ slot_after t (subst (Has t) same k)
        | inr none ↦ absurd (has_none ts none)
      ]

  -- a slot is for one key
  one_for : (k l : Codes) (s : ℕ) → s < length records → IsSlotFor k s → IsSlotFor l s → k ≡ l
  unfolding IsSlotFor
  one_for k l s lt (inl a) (inl b) = one_key cols index.versions index.committed records one s k l lt a b
  one_for k l s lt (inl a) (inr b) = absurd (free_shows cols index.versions index.committed k (slot_at records s) (subst (λ z. is_free index.versions index.committed (slot_at records z) ≡ true) b.3 (free_at b.0 b.1).1) a)
  one_for k l s lt (inr a) (inl b) = absurd (free_shows cols index.versions index.committed l (slot_at records s) (subst (λ z. is_free index.versions index.committed (slot_at records z) ≡ true) a.3 (free_at a.0 a.1).1) b)
  one_for k l s lt (inr a) (inr b) =
      let same : a.0 ≡ b.0 = apart index.free rising a.0 b.0 (omega (arith, a.1, enough)) (omega (arith, b.1, enough)) (a.3 ∙ sym b.3) in
      sym a.2 ∙ ap (λ j. get_or unknown j []) same ∙ b.2

  -- a place among the slots that is for the key of the row at a place
  abbrev Taken : ℕ → Codes → Type 0
  Taken i q = (s : ℕ) × (q ≡ s ∷ []) × (s < length records) × IsSlotFor (at_columns cols (get_or rows i [])) s

  each : (i : ℕ) → i < length rows → (q : Codes) × Taken i q × (is_some (row_at (0 ∷ []) q (singles 0 (length records))) ≡ true)
  unfolding single
  each i lt = let s = slot_of (get_or rows i []) (has_at rows i [] lt) in (s.slot ∷ [], (s.slot, refl, s.within, s.is), single_there (length records) 0 s.slot (omega arith) (omega (arith, s.within)))

  one_place_each : (i j : ℕ) (q : Codes) → i < length rows → j < length rows → Taken i q → Taken j q → i ≡ j
  one_place_each i j q li lj a b =
      let both : a.0 ∷ [] ≡ b.0 ∷ [] = sym a.1 ∙ b.1 in
      let same : a.0 ≡ b.0 = cc in
      let key = one_for (at_columns cols (get_or rows i [])) (at_columns cols (get_or rows j [])) a.0 a.2 a.3 (subst (IsSlotFor (at_columns cols (get_or rows j []))) (sym same) b.3) in
      one_place cols rows i j (at_columns cols (get_or rows i [])) (keyed_all cols values [] tt) li lj refl (sym key)

  pub roomy : length rows ≤ length records
  roomy = subst (λ m. length rows ≤ m) (singles_count 0 (length records)) (counted (0 ∷ []) Taken (length rows) (singles 0 (length records)) each one_place_each)

-- where each key that no slot shows has a free slot of its own, the view has slots enough
pub has_room : (n phase : ℕ) (v : ViewState) (columns : Columns) (after : List Codes) (changes : List Change) (keys : List Codes) (index : IndexData) → IsSoundView n phase v → IsTable columns after → columns ≡ v.columns → AreNetChanges v after changes
    → IsIndex v.columns.key v.records index → index.versions ≡ n → index.committed ≡ phase / 2 → keys ≡ map (change_key v.columns.key) changes → IsStrictlySortedBy nat_cmp index.free
    → length (unknown_keys v.columns.key index.versions index.committed v.records keys) ≤ length index.free → slots_needed n (phase / 2) v after ≤ length v.records
has_room n phase v columns after changes keys index h table same net ix en ec ek rising enough =
    subst (λ c. slots_needed n c v after ≤ length v.records) ec (subst (λ m. slots_needed m index.committed v after ≤ length v.records) en
    (roomy v.columns.key v.records index after keys ix (subst (λ m. HasSlotForKey v.columns.key m index.committed v.records) (sym en) (subst (λ c. HasSlotForKey v.columns.key n c v.records) (sym ec) h.keys)) rising enough noted))
  where
    cols : List ℕ
    cols = v.columns.key

    noted : (t : Codes) → Has t after → position (shows_key v.columns.key index.versions (versions_in_use index.versions index.committed) (at_columns v.columns.key t)) v.records ≡ None → Has (at_columns v.columns.key t) keys
    noted t g none = subst (Has (at_columns v.columns.key t)) (sym (ek ∙ ap (map (change_key v.columns.key)) net.net)) (added v.columns.key v.current after t (subst (λ (c : Columns). IsKeyed c.key after) same table.keyed) g (before (row_at v.columns.key (at_columns v.columns.key t) v.current) refl))
      where
        before : (o : Option Codes) → row_at v.columns.key (at_columns v.columns.key t) v.current ≡ o → row_at v.columns.key (at_columns v.columns.key t) v.current ≡ None
        before None e = e
        before (Some u) e =
            let shown : row_at v.columns.key (at_columns v.columns.key t) (puts v.columns.key [] (rows_shown_at index.versions index.committed v.records)) ≡ Some u = ap (λ m. row_at v.columns.key (at_columns v.columns.key t) (puts v.columns.key [] (rows_shown_at m index.committed v.records))) en ∙ ap (λ c. row_at v.columns.key (at_columns v.columns.key t) (puts v.columns.key [] (rows_shown_at n c v.records))) ec ∙ ap (row_at v.columns.key (at_columns v.columns.key t)) h.committed ∙ e in
            let f = row_slot v.columns.key index.versions index.committed v.records (at_columns v.columns.key t) u shown in
            let s = shows v.columns.key index.versions (versions_in_use index.versions index.committed) (at_columns v.columns.key t) u index.committed (slot_at v.records f.0) (now_in_use index.versions index.committed) f.2 f.3 in
            absurd (let bad : true ≡ false = sym s ∙ no_position (shows_key v.columns.key index.versions (versions_in_use index.versions index.committed) (at_columns v.columns.key t)) v.records none f.0 [] f.1 in cc)

-- the rows that net changes bring have the width of the view's rows
pub wide_changes : (v : ViewState) (columns : Columns) (after : List Codes) (changes : List Change) → AreNetChanges v after changes → IsTable columns after → columns ≡ v.columns → AllByRecursion (IsWide (length v.columns.kinds)) changes
wide_changes v columns after changes net table same = subst (λ l. AllByRecursion (IsWide (length v.columns.kinds)) l) (sym net.net) (all_from_has (IsWide (length v.columns.kinds)) (net_changes v.columns.key v.current after)
    (λ change h t e. all_has (λ t. length t ≡ length v.columns.kinds) after (subst (λ (c : Columns). AllByRecursion (λ t. length t ≡ length c.kinds) after) same table.widths) t (changed_row v.columns.key v.current after change t h e)))

-- the same, where the calls see columns and records that are equal to the view's
pub has_room_by : (n phase : ℕ) (v : ViewState) (columns : Columns) (after : List Codes) (changes : List Change) (keys lent : List Codes) (index : IndexData) (keyed built asked : Columns) (records others : List (List Vstep))
    → IsSoundView n phase v → IsTable columns after → columns ≡ v.columns → AreNetChanges v after changes → keyed ≡ v.columns → built ≡ v.columns → asked ≡ v.columns → records ≡ v.records → others ≡ v.records
    → IsIndex built.key records index → index.versions ≡ n → index.committed ≡ phase / 2 → keys ≡ map (change_key keyed.key) changes → lent ≡ keys → IsStrictlySortedBy nat_cmp index.free
    → length (unknown_keys asked.key index.versions index.committed others lent) ≤ length index.free → slots_needed n (phase / 2) v after ≤ length v.records
has_room_by n phase v columns after changes keys lent index keyed built asked records others h table same net ek eb ea er eo ix en ec keys_are lent_is rising enough = has_room n phase v columns after changes keys index h table same net
    (subst (λ (c : Columns). IsIndex c.key v.records index) eb (subst (λ l. IsIndex built.key l index) er ix)) en ec (keys_are ∙ ap (λ (c : Columns). map (change_key c.key) changes) ek) rising
    (subst (λ (c : Columns). length (unknown_keys c.key index.versions index.committed v.records keys) ≤ length index.free) ea (subst (λ l. length (unknown_keys asked.key index.versions index.committed l keys) ≤ length index.free) eo (subst (λ l. length (unknown_keys asked.key index.versions index.committed others l) ≤ length index.free) lent_is enough)))
