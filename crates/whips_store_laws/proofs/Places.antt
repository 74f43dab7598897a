-- Which slot a change is made in, and what holds of a view's slots meanwhile.
--
-- `chosen`: each net change has a slot (`slot_for`), which is that of its key and which it fits (`IsChosen`). `net_change`: what the first
-- of some net changes says of the rows before and after (`IsNetChange`). `shown_row`, `row_slot`: the row with a key at a version is what
-- one of the slots shows there. `key_needed`, `new_needed`: the keys that slots show, and those of the new rows, are among those that need
-- slots.
--
-- The idea: at the versions in use and at the next one each key has one slot and each slot one key (`HasSlotForKey`). So a slot that shows
-- a key is the key's slot, and the change fits what it shows. Where no slot shows the key there is a free one: were all taken, each would
-- have another key that needs a slot, and with the new key more slots would be needed than there are.
--
-- Four lemmas carry it: `slot_row` (the row with a key is what its slot shows), `chosen_shown` and `chosen_free` (a slot that shows the
-- key, and a free one) and `none_free` (there is a free slot for a new key).
use Rattle.std.proofs.Common.{◌≡◌, ◌≢◌, inl, inr, ℕ, suc, ◌-◌, ◌/◌, ◌<◌, ◌≤◌, Bool, true, false, cond, List, [], ◌∷◌, ◌++◌, length, map, get_or, Option, Some, None, is_some, refl, sym, ap, subst, ◌∙◌, arith}
use Rattle.std.specs.Prelude.{reverse, min, ◌&&◌}
use Rattle.std.specs.List.{position, list_all, AllByRecursion}
use Rattle.std.specs.Ordering.{is_eq}
use Rattle.std.proofs.lemmas.Bool.{cases_lt}
use Rattle.std.proofs.lemmas.List.Quantifiers.{position-Some}
use Rattle.whips_lists.specs.Members.{Has}
use Rattle.whips_model.specs.Tuples.{Codes, codes_cmp, at_columns, has_key, row_at, without_key, IsKeyed}
use Rattle.whips_lists.proofs.Members.{has_mapped, has_left, has_right, has_first}
use Rattle.whips_model.proofs.Keyed.{all_at}
use Rattle.whips_choices.proofs.Rows.{codes_tied, key_is, row_found}
use Rattle.whips_rel.specs.declared.update.Change.{Change}
use Rattle.whips_rel.specs.declared.update.Change.TheVariants.{Add, Replace, Remove}
use Rattle.whips_changes.specs.Changes.{union_rows, net_changes, change_at, change_of, need}
use Rattle.whips_net.specs.Made.{change_key}
use Rattle.whips_net.proofs.Merge.{puts}
use Rattle.whips_vnl.specs.Records.{Seen, seen_row, seen_nothing, seen_past, visible, seen_after, is_fitting}
use Rattle.whips_vnl.specs.declared.record.Vstep.{Vstep}
use Rattle.whips_store.specs.Versions.{versions_in_use, row_seen, is_row_of, is_nothing, shows_key, is_older, is_free, rows_shown_at}
use Rattle.whips_store.specs.Calls.{slot_for}
use Rattle.whips_store.specs.Sound.{IsSlot, IsReadable, HasSlotForKey, IsWritten}
use Rattle.whips_store_laws.proofs.Lists.{any_found, any_none, all_pass, one_fails, no_position, has_found, found_from, first_found, place_within, within_places, has_reversed}
use Rattle.whips_store_laws.proofs.Unions.{has_own_key, put_from, alone, has_in_union, fewer_without, other_stays, counted}
use Rattle.whips_store_laws.proofs.Slots.{not_past, older_below, below_same, seen_cases, nothing_seen, row_of_seen, same_seen}

abbrev pub at : List (List Vstep) → ℕ → List Vstep
at records i = get_or records i []

-- the versions in use are those from c - (n - 2) to c
pub in_use : (n c v : ℕ) → c - (n - 2) ≤ v → v ≤ c → Has v (versions_in_use n c)
in_use n c v low high = within_places (suc (min c (n - 2))) (c - (n - 2)) v low (omega arith)

pub used : (n c v : ℕ) → Has v (versions_in_use n c) → (c - (n - 2) ≤ v) × (v ≤ c)
used n c v h = let p = place_within (suc (min c (n - 2))) (c - (n - 2)) v h in (p.0, omega (arith, p.1))

pub row_shown : (cols : List ℕ) (k : Codes) (s : Seen) → is_row_of cols k s ≡ true → (t : Codes) × (s ≡ seen_row t) × (at_columns cols t ≡ k)
row_shown cols k (seen_row t) e = (t, refl, key_is cols k t e)
row_shown cols k seen_nothing e = absurd (cc)
row_shown cols k seen_past e = absurd (cc)

row_not_shown : (cols : List ℕ) (k t : Codes) (s : Seen) → is_row_of cols k s ≡ false → s ≡ seen_row t → at_columns cols t ≢ k
row_not_shown cols k t s e is same =
    let shown : has_key cols k t ≡ false = subst (λ z. is_row_of cols k z ≡ false) is e in
    let own : has_key cols k t ≡ true = subst (λ z. has_key cols z t ≡ true) same (has_own_key cols t) in
    absurd (cc)

-- what a change in net changes says of the rows before and after
pub record IsNetChange (cols : List ℕ) (before after : List Codes) (change : Change) : Type 0 where
  pub later : row_seen (seen_after change) ≡ row_at cols (change_key cols change) after
  pub differs : row_at cols (change_key cols change) before ≢ row_at cols (change_key cols change) after
  pub added : (t : Codes) → change ≡ Add t → row_at cols (change_key cols change) before ≡ None
  pub kept : is_fitting change seen_nothing ≡ false → is_some (row_at cols (change_key cols change) before) ≡ true

pub net_fact : (cols : List ℕ) (before after : List Codes) (k : Codes) (a b : Option Codes) (change : Change) → row_at cols k before ≡ a → row_at cols k after ≡ b → change_of k a b ≡ Some change → IsNetChange cols before after change
net_fact cols before after k None None change ea eb e = absurd (cc)
net_fact cols before after k None (Some t) change ea eb e =
    let is : Add t ≡ change = cc in
    let own : at_columns cols t ≡ k = (row_found cols k t after eb).1 in
    subst (IsNetChange cols before after) is (record {
      later = sym (ap (λ q. row_at cols q after) own ∙ eb);
      differs = λ h. let bad : None ≡ Some t = sym ea ∙ sym (ap (λ q. row_at cols q before) own) ∙ h ∙ ap (λ q. row_at cols q after) own ∙ eb in cc;
      added = λ u same. ap (λ q. row_at cols q before) own ∙ ea;
      kept = λ f. absurd (let bad : true ≡ false = f in cc);
    })
net_fact cols before after k (Some s) None change ea eb e =
    let is : Remove k ≡ change = cc in
    subst (IsNetChange cols before after) is (record {
      later = sym eb;
      differs = λ h. let bad : Some s ≡ None = sym ea ∙ h ∙ eb in cc;
      added = λ u same. absurd (cc);
      kept = λ f. ap is_some ea;
    })
net_fact cols before after k (Some s) (Some t) change ea eb e = go (is_eq (codes_cmp s t)) refl e
  where
    go : (b : Bool) → is_eq (codes_cmp s t) ≡ b → cond b None (Some (Replace t)) ≡ Some change → IsNetChange cols before after change
    go true f e = absurd (cc)
    go false f e =
        let is : Replace t ≡ change = cc in
        let own : at_columns cols t ≡ k = (row_found cols k t after eb).1 in
        subst (IsNetChange cols before after) is (record {
          later = sym (ap (λ q. row_at cols q after) own ∙ eb);
          differs = λ h.
              let both : Some s ≡ Some t = sym ea ∙ sym (ap (λ q. row_at cols q before) own) ∙ h ∙ ap (λ q. row_at cols q after) own ∙ eb in
              let same : s ≡ t = cc in
              let tied : is_eq (codes_cmp s t) ≡ true = ap is_eq (codes_tied s t same) in
              absurd (cc);
          added = λ u same. absurd (cc);
          kept = λ g. ap is_some (ap (λ q. row_at cols q before) own ∙ ea);
        })

pub net_change : (cols : List ℕ) (before after : List Codes) (change : Change) (others : List Change) → net_changes cols before after ≡ change ∷ others → IsNetChange cols before after change
net_change cols before after change others e =
    let f = first_found (change_at cols before after) (map (at_columns cols) (union_rows cols (after ∷ before ∷ []))) change others e in
    net_fact cols before after f.0 (row_at cols f.0 before) (row_at cols f.0 after) change refl refl f.2

-- ---- the rows that slots show

module _ (cols : List ℕ) (n c : ℕ) (records : List (List Vstep)) (keys : HasSlotForKey cols n c records) where
  pub shown_row : (i v : ℕ) (t : Codes) → i < length records → IsReadable n c v → visible n v (at records i) ≡ seen_row t → row_at cols (at_columns cols t) (puts cols [] (rows_shown_at n v records)) ≡ Some t
  shown_row i v t lt r e = alone cols t (rows_shown_at n v records)
      (has_found (λ steps. row_seen (visible n v steps)) records i [] t lt (ap row_seen e))
      (λ u h same.
      let f = found_from (λ steps. row_seen (visible n v steps)) records [] u h in
      let g : visible n v (at records f.0) ≡ seen_row u = row_of_seen (visible n v (at records f.0)) u f.2 in
      let place : f.0 ≡ i = (keys f.0 i v v u t f.1 lt r r g e).0 same in
      same_seen (visible n v (at records i)) u t (subst (λ j. visible n v (at records j) ≡ seen_row u) place g) e)

pub row_slot : (cols : List ℕ) (n v : ℕ) (records : List (List Vstep)) (k t : Codes) → row_at cols k (puts cols [] (rows_shown_at n v records)) ≡ Some t → (i : ℕ) × (i < length records) × (visible n v (at records i) ≡ seen_row t) × (at_columns cols t ≡ k)
row_slot cols n v records k t e = elim (put_from cols k t (rows_shown_at n v records) [] e) [
  | inl h ↦ let f = found_from (λ steps. row_seen (visible n v steps)) records [] t h.0 in (f.0, f.1, row_of_seen (visible n v (at records f.0)) t f.2, h.1)
  | inr g ↦ absurd (cc)
]

-- the slot of a key: at versions in use and the one after them it shows rows with that key alone, and no other slot shows one
pub record IsSlotOf (cols : List ℕ) (n c : ℕ) (records : List (List Vstep)) (k : Codes) (i : ℕ) : Type 0 where
  pub within : i < length records
  pub own : (v : ℕ) (t : Codes) → IsReadable n c v → visible n v (at records i) ≡ seen_row t → at_columns cols t ≡ k
  pub others : (j v : ℕ) (t : Codes) → j < length records → j ≢ i → IsReadable n c v → visible n v (at records j) ≡ seen_row t → at_columns cols t ≢ k

-- what holds of a view's slots while a change is made
pub record Slots (cols : List ℕ) (n c phase : ℕ) (records : List (List Vstep)) (new : List Codes) : Type 0 where
  pub two : 2 ≤ n
  pub half : phase / 2 ≡ c
  pub slots : AllByRecursion (IsSlot n phase) records
  pub keys : HasSlotForKey cols n c records
  pub written : AllByRecursion (λ steps. is_older c steps ≡ false → IsWritten cols n c new steps) records
  pub keyed : IsKeyed cols new
  pub room : need cols (map (λ v. rows_shown_at n v records) (versions_in_use n c) ++ new ∷ []) ≤ length records

module _ (cols : List ℕ) (n c phase : ℕ) (records : List (List Vstep)) (new : List Codes) (h : Slots cols n c phase records new) where
  slot_at : (i : ℕ) → i < length records → IsSlot n phase (at records i)
  slot_at i lt = all_at (IsSlot n phase) records i [] h.slots lt

  written_at : (i : ℕ) → i < length records → is_older c (at records i) ≡ false → IsWritten cols n c new (at records i)
  written_at i lt = all_at (λ steps. is_older c steps ≡ false → IsWritten cols n c new steps) records i [] h.written lt

  pub next_is_readable : IsReadable n c (suc c)
  next_is_readable = (omega arith, omega arith)

  -- the slot that shows the key at a version in use
  pub shown_slot : (k t : Codes) (i v : ℕ) → i < length records → IsReadable n c v → visible n v (at records i) ≡ seen_row t → at_columns cols t ≡ k → IsSlotOf cols n c records k i
  shown_slot k t i v lt r e own = record {
    within = lt;
    own = λ w u q f. (h.keys i i w v u t lt lt q r f e).1 refl ∙ own;
    others = λ j w u lj ne q f same. ne ((h.keys j i w v u t lj lt q r f e).0 (same ∙ sym own));
  }

  -- the first slot that passes shows_key
  pub key_slot : (k : Codes) (i : ℕ) → position (shows_key cols n (versions_in_use n c) k) records ≡ Some i → IsSlotOf cols n c records k i
  key_slot k i e =
      let p = position-Some (shows_key cols n (versions_in_use n c) k) records i [] e in
      let f = any_found (λ v. is_row_of cols k (visible n v (at records i))) (versions_in_use n c) p.1 in
      let r = row_shown cols k (visible n f.0 (at records i)) f.2 in
      let u = used n c f.0 f.1 in
      shown_slot k r.0 i f.0 p.0 (u.0, omega (arith, u.1)) r.1 r.2

  -- where no slot shows the key at a version in use
  pub not_in_use : (k : Codes) → position (shows_key cols n (versions_in_use n c) k) records ≡ None → (j v : ℕ) (t : Codes) → j < length records → c - (n - 2) ≤ v → v ≤ c → visible n v (at records j) ≡ seen_row t → at_columns cols t ≢ k
  not_in_use k e j v t lt low high seen =
      let none = any_none (λ v. is_row_of cols k (visible n v (at records j))) (versions_in_use n c) (no_position (shows_key cols n (versions_in_use n c) k) records e j [] lt) v (in_use n c v low high) in
      row_not_shown cols k t (visible n v (at records j)) none seen

  -- a slot that isn't free shows a row at such a version
  pub taken_shows : (i : ℕ) → i < length records → is_free n c (at records i) ≡ false → (v : ℕ) × (t : Codes) × IsReadable n c v × (visible n v (at records i) ≡ seen_row t)
  taken_shows i lt e = go (is_older c (at records i)) refl e
    where
      go : (b : Bool) → is_older c (at records i) ≡ b → (list_all (λ v. is_nothing (visible n v (at records i))) (versions_in_use n c) && b) ≡ false → (v : ℕ) × (t : Codes) × IsReadable n c v × (visible n v (at records i) ≡ seen_row t)
      go false f e = (written_at i lt f).shown
      go true f e =
          let fails = one_fails (λ v. is_nothing (visible n v (at records i))) (versions_in_use n c) (drop_true (list_all (λ v. is_nothing (visible n v (at records i))) (versions_in_use n c)) e) in
          let u = used n c fails.0 fails.1 in
          elim (seen_cases (visible n fails.0 (at records i)) (not_past n c fails.0 phase (at records i) h.two h.half (slot_at i lt) u.0)) [
            | inl nothing ↦ absurd (let bad : true ≡ false = subst (λ s. is_nothing s ≡ false) nothing fails.2 in cc)
            | inr row ↦ (fails.0, row.0, (u.0, omega (arith, u.1)), row.1)
          ]
        where
          drop_true : (b : Bool) → (b && true) ≡ false → b ≡ false
          drop_true true e = e
          drop_true false e = refl

  -- all rows whose keys need slots
  abbrev pub all_rows : List Codes
  all_rows = union_rows cols (reverse (map (λ v. rows_shown_at n v records) (versions_in_use n c) ++ new ∷ []))

  pub new_needed : (u : Codes) → Has u new → is_some (row_at cols (at_columns cols u) all_rows) ≡ true
  new_needed u g = has_in_union cols u new (reverse (map (λ v. rows_shown_at n v records) (versions_in_use n c) ++ new ∷ [])) []
      (has_reversed new (map (λ v. rows_shown_at n v records) (versions_in_use n c) ++ new ∷ []) (has_right new (map (λ v. rows_shown_at n v records) (versions_in_use n c)) (new ∷ []) (has_first new [])))
      g

  used_needed : (i w : ℕ) (t : Codes) → i < length records → c - (n - 2) ≤ w → w ≤ c → visible n w (at records i) ≡ seen_row t → is_some (row_at cols (at_columns cols t) all_rows) ≡ true
  used_needed i w t lt low high f = has_in_union cols t (rows_shown_at n w records) (reverse (map (λ v. rows_shown_at n v records) (versions_in_use n c) ++ new ∷ [])) []
      (has_reversed (rows_shown_at n w records) (map (λ v. rows_shown_at n v records) (versions_in_use n c) ++ new ∷ []) (has_left (rows_shown_at n w records) (map (λ v. rows_shown_at n v records) (versions_in_use n c)) (new ∷ []) (has_mapped (λ v. rows_shown_at n v records) w (versions_in_use n c) (in_use n c w low high))))
      (has_found (λ steps. row_seen (visible n w steps)) records i [] t lt (ap row_seen f))

  -- what a slot shows at such a version has its key among them
  pub key_needed : (i v : ℕ) (t : Codes) → i < length records → IsReadable n c v → visible n v (at records i) ≡ seen_row t → is_some (row_at cols (at_columns cols t) all_rows) ≡ true
  key_needed i v t lt r e = elim (cases_lt v (suc c)) [
    | inl below ↦ used_needed i v t lt r.0 (omega arith) e
    | inr last ↦ let top : v ≡ suc c = omega (arith, r.1) in at_next top (is_older c (at records i)) refl
  ]
    where
      at_next : v ≡ suc c → (b : Bool) → is_older c (at records i) ≡ b → is_some (row_at cols (at_columns cols t) all_rows) ≡ true
      at_next top true f = used_needed i c t lt (omega arith) (omega arith) (sym (below_same n c (at records i) (older_below c (at records i) f)) ∙ subst (λ w. visible n w (at records i) ≡ seen_row t) top e)
      at_next top false f =
          let found : row_at cols (at_columns cols t) new ≡ Some t = (written_at i lt f).rows v t r e ∙ ap row_seen (subst (λ w. visible n w (at records i) ≡ seen_row t) top e) in
          new_needed t (row_found cols (at_columns cols t) t new found).0

  -- where each slot is taken by another key there is no need for one more
  none_free : (k : Codes) → is_some (row_at cols k new) ≡ true → ((i v : ℕ) (t : Codes) → i < length records → IsReadable n c v → visible n v (at records i) ≡ seen_row t → at_columns cols t ≢ k)
      → position (is_free n c) records ≡ None → ⊥
  none_free k some other none =
      let fewer = fewer_without cols k all_rows (needs k some) in
      let fit = counted cols (λ i q. (v : ℕ) × (t : Codes) × IsReadable n c v × (visible n v (at records i) ≡ seen_row t) × (at_columns cols t ≡ q)) (length records) (without_key cols k all_rows)
      (λ i lt. let one = taken_shows i lt (no_position (is_free n c) records none i [] lt) in
      (at_columns cols one.1, (one.0, one.1, one.2, one.3, refl), other_stays cols (at_columns cols one.1) k all_rows (other i one.0 one.1 lt one.2 one.3) (key_needed i one.0 one.1 lt one.2 one.3)))
      (λ i j q li lj a b. (h.keys i j a.0 b.0 a.1 b.1 li lj a.2 b.2 a.3 b.3).0 (a.4 ∙ sym b.4)) in
      let room : length all_rows ≤ length records = h.room in
      absurd (omega arith)
    where
      needs : (k : Codes) → is_some (row_at cols k new) ≡ true → is_some (row_at cols k all_rows) ≡ true
      needs k some = go (row_at cols k new) refl some
        where
          go : (o : Option Codes) → row_at cols k new ≡ o → is_some o ≡ true → is_some (row_at cols k all_rows) ≡ true
          go None e some = absurd (cc)
          go (Some t) e some = let f = row_found cols k t new e in subst (λ q. is_some (row_at cols q all_rows) ≡ true) f.1 (new_needed t f.0)

  -- ---- the slot of a change

  -- the row with a key at such a version is what the key's slot shows
  pub slot_row : (k : Codes) (i v : ℕ) → IsSlotOf cols n c records k i → IsReadable n c v → row_at cols k (puts cols [] (rows_shown_at n v records)) ≡ row_seen (visible n v (at records i))
  slot_row k i v s r = elim (seen_cases (visible n v (at records i)) (not_past n c v phase (at records i) h.two h.half (slot_at i s.within) r.0)) [
    | inl nothing ↦ go (row_at cols k (puts cols [] (rows_shown_at n v records))) refl nothing ∙ sym (ap row_seen nothing)
    | inr row ↦ subst (λ q. row_at cols q (puts cols [] (rows_shown_at n v records)) ≡ row_seen (visible n v (at records i))) (s.own v row.0 r row.1) (shown_row cols n c records h.keys i v row.0 s.within r row.1 ∙ sym (ap row_seen row.1))
  ]
    where
      go : (o : Option Codes) → row_at cols k (puts cols [] (rows_shown_at n v records)) ≡ o → visible n v (at records i) ≡ seen_nothing → row_at cols k (puts cols [] (rows_shown_at n v records)) ≡ None
      go None e nothing = e
      go (Some t) e nothing =
          let f = row_slot cols n v records k t e in
          absurd (s.others f.0 v t f.1 (λ same. let bad : seen_nothing ≡ seen_row t = sym nothing ∙ subst (λ j. visible n v (at records j) ≡ seen_row t) same f.2 in cc) r f.2 f.3)

  -- a slot that the change fits
  pub record IsChosen (change : Change) (i : ℕ) : Type 0 where
    pub slot : IsSlotOf cols n c records (change_key cols change) i
    pub older : is_older c (at records i) ≡ true
    pub fits : is_fitting change (visible n c (at records i)) ≡ true

  abbrev pub next_rows : List Codes
  next_rows = puts cols [] (rows_shown_at n (suc c) records)

  chosen_shown : (change : Change) (i : ℕ) → IsNetChange cols next_rows new change → position (shows_key cols n (versions_in_use n c) (change_key cols change)) records ≡ Some i → IsChosen change i
  chosen_shown change i net e = record { slot = s; older = older (is_older c (at records i)) refl; fits = fits (is_older c (at records i)) refl }
    where
      s : IsSlotOf cols n c records (change_key cols change) i
      s = key_slot (change_key cols change) i e

      row : row_at cols (change_key cols change) next_rows ≡ row_seen (visible n (suc c) (at records i))
      row = slot_row (change_key cols change) i (suc c) s next_is_readable

      older : (b : Bool) → is_older c (at records i) ≡ b → is_older c (at records i) ≡ true
      older true f = f
      older false f =
          let w = written_at i s.within f in
          let own : at_columns cols w.shown.1 ≡ change_key cols change = s.own w.shown.0 w.shown.1 w.shown.2 w.shown.3 in
          absurd (net.differs (row ∙ sym (subst (λ q. row_at cols q new ≡ row_seen (visible n (suc c) (at records i))) own (w.rows w.shown.0 w.shown.1 w.shown.2 w.shown.3))))

      fits : (b : Bool) → is_older c (at records i) ≡ b → is_fitting change (visible n c (at records i)) ≡ true
      fits b f =
          let same = below_same n c (at records i) (older_below c (at records i) (older b f)) in
          elim (seen_cases (visible n c (at records i)) (not_past n c c phase (at records i) h.two h.half (slot_at i s.within) (omega arith))) [
            | inl nothing ↦ ap (is_fitting change) nothing ∙ of_nothing change net (row ∙ ap row_seen (same ∙ nothing))
            | inr shown ↦ ap (is_fitting change) shown.1 ∙ of_row change shown.0 net (row ∙ ap row_seen (same ∙ shown.1))
          ]
        where
          of_nothing : (change : Change) → IsNetChange cols next_rows new change → row_at cols (change_key cols change) next_rows ≡ None → is_fitting change seen_nothing ≡ true
          of_nothing (Add t) net e = refl
          of_nothing (Replace t) net e = absurd (let some : false ≡ true = sym (ap is_some e) ∙ net.kept refl in cc)
          of_nothing (Remove k) net e = absurd (let some : false ≡ true = sym (ap is_some e) ∙ net.kept refl in cc)

          of_row : (change : Change) (u : Codes) → IsNetChange cols next_rows new change → row_at cols (change_key cols change) next_rows ≡ Some u → is_fitting change (seen_row u) ≡ true
          of_row (Add t) u net e = absurd (let none : None ≡ Some u = sym (net.added t refl) ∙ e in cc)
          of_row (Replace t) u net e = refl
          of_row (Remove k) u net e = refl

  -- a key that no slot shows at a version in use has no row at the next one either
  missing : (change : Change) → IsNetChange cols next_rows new change → position (shows_key cols n (versions_in_use n c) (change_key cols change)) records ≡ None → row_at cols (change_key cols change) next_rows ≡ None
  missing change net none = go (row_at cols (change_key cols change) next_rows) refl
    where
      go : (o : Option Codes) → row_at cols (change_key cols change) next_rows ≡ o → row_at cols (change_key cols change) next_rows ≡ None
      go None e = e
      go (Some t) e =
          let f = row_slot cols n (suc c) records (change_key cols change) t e in
          absurd (by_age f.0 f.1 f.2 f.3 (is_older c (at records f.0)) refl)
        where
          by_age : (j : ℕ) → j < length records → visible n (suc c) (at records j) ≡ seen_row t → at_columns cols t ≡ change_key cols change → (b : Bool) → is_older c (at records j) ≡ b → ⊥
          by_age j lt seen own true g = not_in_use (change_key cols change) none j c t lt (omega arith) (omega arith) (sym (below_same n c (at records j) (older_below c (at records j) g)) ∙ seen) own
          by_age j lt seen own false g =
              let found = (written_at j lt g).rows (suc c) t next_is_readable seen ∙ ap row_seen seen in
              net.differs (e ∙ sym (subst (λ q. row_at cols q new ≡ Some t) own found))

  no_other : (change : Change) → IsNetChange cols next_rows new change → position (shows_key cols n (versions_in_use n c) (change_key cols change)) records ≡ None
      → (j v : ℕ) (t : Codes) → j < length records → IsReadable n c v → visible n v (at records j) ≡ seen_row t → at_columns cols t ≢ change_key cols change
  no_other change net none j v t lt r seen same = elim (cases_lt v (suc c)) [
    | inl below ↦ not_in_use (change_key cols change) none j v t lt r.0 (omega arith) seen same
    | inr last ↦
        let top : v ≡ suc c = omega (arith, r.1) in
        let found = shown_row cols n c records h.keys j (suc c) t lt next_is_readable (subst (λ w. visible n w (at records j) ≡ seen_row t) top seen) in
        let bad : None ≡ Some t = sym (missing change net none) ∙ subst (λ q. row_at cols q next_rows ≡ Some t) same found in
        absurd (cc)
  ]

  chosen_free : (change : Change) (i : ℕ) → IsNetChange cols next_rows new change → position (shows_key cols n (versions_in_use n c) (change_key cols change)) records ≡ None → position (is_free n c) records ≡ Some i → IsChosen change i
  chosen_free change i net none e = record {
    slot = record { within = p.0; own = own; others = others };
    older = older;
    fits = ap (is_fitting change) now_nothing ∙ of_nothing change net (missing change net none);
  }
    where
      p : (i < length records) × (is_free n c (at records i) ≡ true) × ((k : ℕ) → k < i → is_free n c (get_or records k []) ≡ false)
      p = position-Some (is_free n c) records i [] e

      both : (a b : Bool) → (a && b) ≡ true → (a ≡ true) × (b ≡ true)
      both true b e = (refl, e)
      both false b e = absurd (cc)

      parts : (list_all (λ v. is_nothing (visible n v (at records i))) (versions_in_use n c) ≡ true) × (is_older c (at records i) ≡ true)
      parts = both _ _ p.1

      older : is_older c (at records i) ≡ true
      older = parts.1

      nothing : (v : ℕ) → c - (n - 2) ≤ v → v ≤ c → visible n v (at records i) ≡ seen_nothing
      nothing v low high = nothing_seen (visible n v (at records i)) (all_pass (λ v. is_nothing (visible n v (at records i))) (versions_in_use n c) parts.0 v (in_use n c v low high))

      now_nothing : visible n c (at records i) ≡ seen_nothing
      now_nothing = nothing c (omega arith) (omega arith)

      all_nothing : (v : ℕ) → IsReadable n c v → visible n v (at records i) ≡ seen_nothing
      all_nothing v r = elim (cases_lt v (suc c)) [
        | inl below ↦ nothing v r.0 (omega arith)
        | inr last ↦ let top : suc c ≡ v = omega (arith, r.1) in subst (λ w. visible n w (at records i) ≡ seen_nothing) top (below_same n c (at records i) (older_below c (at records i) older) ∙ now_nothing)
      ]

      own : (v : ℕ) (t : Codes) → IsReadable n c v → visible n v (at records i) ≡ seen_row t → at_columns cols t ≡ change_key cols change
      own v t r seen = absurd (let bad : seen_nothing ≡ seen_row t = sym (all_nothing v r) ∙ seen in cc)

      others : (j v : ℕ) (t : Codes) → j < length records → j ≢ i → IsReadable n c v → visible n v (at records j) ≡ seen_row t → at_columns cols t ≢ change_key cols change
      others j v t lt ne r seen = no_other change net none j v t lt r seen

      of_nothing : (change : Change) → IsNetChange cols next_rows new change → row_at cols (change_key cols change) next_rows ≡ None → is_fitting change seen_nothing ≡ true
      of_nothing (Add t) net e = refl
      of_nothing (Replace t) net e = absurd (let some : false ≡ true = sym (ap is_some e) ∙ net.kept refl in cc)
      of_nothing (Remove k) net e = absurd (let some : false ≡ true = sym (ap is_some e) ∙ net.kept refl in cc)

  -- each net change has a slot that it fits
  pub chosen : (change : Change) → IsNetChange cols next_rows new change → (i : ℕ) × (slot_for n c cols (change_key cols change) records ≡ Some i) × IsChosen change i
  chosen change net = by_key (position (shows_key cols n (versions_in_use n c) (change_key cols change)) records) refl
    where
      place : Option ℕ → Option ℕ
      place o = elim o [ Some i ↦ Some i | None ↦ position (is_free n c) records ]

      comes : (change : Change) → IsNetChange cols next_rows new change → row_at cols (change_key cols change) next_rows ≡ None → is_some (row_at cols (change_key cols change) new) ≡ true
      comes (Add t) net e = ap is_some (sym net.later)
      comes (Replace t) net e = ap is_some (sym net.later)
      comes (Remove k) net e = absurd (let some : false ≡ true = sym (ap is_some e) ∙ net.kept refl in cc)

      free : position (shows_key cols n (versions_in_use n c) (change_key cols change)) records ≡ None → (o : Option ℕ) → position (is_free n c) records ≡ o → (i : ℕ) × (o ≡ Some i) × IsChosen change i
      free none None e = absurd (none_free (change_key cols change) (comes change net (missing change net none)) (λ j v t lt r seen. no_other change net none j v t lt r seen) e)
      free none (Some i) e = (i, refl, chosen_free change i net none e)

      by_key : (o : Option ℕ) → position (shows_key cols n (versions_in_use n c) (change_key cols change)) records ≡ o → (i : ℕ) × (slot_for n c cols (change_key cols change) records ≡ Some i) × IsChosen change i
      by_key None e = let f = free e (position (is_free n c) records) refl in (f.0, ap place e ∙ f.1, f.2)
      by_key (Some i) e = (i, ap place e, chosen_shown change i net e)
