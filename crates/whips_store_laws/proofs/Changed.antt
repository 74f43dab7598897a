-- A view's slots once a change is made.
--
-- The slot that is chosen for a change (`IsChosen`) gets a step of the next version. `slots_after`, `keys_after`, `written_after`: then
-- each slot is in order, each key has one slot and each slot one key (`HasSlotForKey`), and each slot that was written shows what the new
-- rows have (`IsWritten`). `rows_stay`, `need_stays`: the versions in use show the same rows, and as many slots are needed. `next_after`:
-- the next version shows its rows after the change.
--
-- The idea: one slot changes, and its new step is of the next version, so at the versions in use it shows what it showed. The slot is that
-- of the change's key or was free, so it shows this key alone, and no other slot shows it. Rows with other keys are shown by other slots,
-- which stay as they are.
--
-- Five lemmas carry it: `stays` and `shown_next` (what the slot shows at the versions in use and at the next one), `own` (its rows have the
-- change's key), and `changed_own` and `changed_other` (the rows after a change, key by key).
use Rattle.std.proofs.Common.{◌≡◌, ◌≢◌, ◌⊎◌, inl, inr, ℕ, zero, suc, ◌+◌, ◌-◌, ◌/◌, ◌<◌, ◌≤◌, Bool, true, false, cond, List, [], ◌∷◌, ◌++◌, length, map, Some, refl, sym, ap, subst, ◌∙◌, arith}
use Rattle.std.specs.Prelude.{set, ◌↔◌}
use Rattle.std.specs.List.{AllByRecursion}
use Rattle.std.specs.declared.cmp.Ordering.{Ordering}
use Rattle.std.specs.declared.cmp.Ordering.TheVariants.{Less, Equal, Greater}
use Rattle.std.proofs.lemmas.Bool.{cases_lt}
use Rattle.std.proofs.lemmas.List.{get_or-set_same, get_or-set_other, length-set}
use Rattle.whips_lists.specs.Members.{Has}
use Rattle.whips_model.specs.Tuples.{Codes, codes_cmp, at_columns, has_key, row_at}
use Rattle.whips_model.proofs.Keyed.{all_at}
use Rattle.whips_lists.proofs.Members.{has_first, has_later}
use Rattle.whips_choices.proofs.Rows.{codes_equal, codes_tied, key_is}
use Rattle.whips_trans_laws.proofs.ByKey.{at_put, same_by_key}
use Rattle.whips_rel.specs.declared.update.Change.{Change}
use Rattle.whips_rel.specs.declared.update.Change.TheVariants.{Add, Replace, Remove}
use Rattle.whips_changes.specs.Changes.{need}
use Rattle.whips_net.specs.Made.{change_key, changed_rows}
use Rattle.whips_net.proofs.Merge.{puts}
use Rattle.whips_net.proofs.Leads.{keyed_changed}
use Rattle.whips_vnl.specs.Records.{Seen, seen_row, seen_nothing, seen_past, visible, steps_after, seen_after, is_fitting}
use Rattle.whips_vnl.specs.declared.record.Vstep.{Vstep}
use Rattle.whips_store.specs.Versions.{versions_in_use, row_seen, is_older, rows_shown_at}
use Rattle.whips_store.specs.Sound.{IsSlot, IsReadable, HasSlotForKey, IsWritten}
use Rattle.whips_store_laws.proofs.Lists.{set_found, all_set, same_option}
use Rattle.whips_store_laws.proofs.Unions.{keyed_puts, has_own_key, own_gone, other_same}
use Rattle.whips_store_laws.proofs.Slots.{older_below, shown_after, slot_after, earlier_stays, row_of_seen}
use Rattle.whips_store_laws.proofs.Places.{at, used, shown_row, row_slot, Slots, IsChosen, next_is_readable}

pub same_place : (i j : ℕ) → (i ≡ j) ⊎ (i ≢ j)
same_place zero zero = inl refl
same_place zero (suc j) = inr (λ e. omega (arith, e))
same_place (suc i) zero = inr (λ e. omega (arith, e))
same_place (suc i) (suc j) = elim (same_place i j) [ inl e ↦ inl (ap suc e) | inr ne ↦ inr (λ e. ne (omega (arith, e))) ]

pub map_same : {A B : Type 0} (f g : A → B) (xs : List A) → ((x : A) → Has x xs → f x ≡ g x) → map f xs ≡ map g xs
map_same f g [] h = refl
map_same f g (x ∷ xs) h = ap (λ y. y ∷ map f xs) (h x (has_first x xs)) ∙ ap (λ l. g x ∷ l) (map_same f g xs (λ y k. h y (has_later y x xs k)))

own_key : (cols : List ℕ) (change : Change) (t : Codes) → seen_after change ≡ seen_row t → at_columns cols t ≡ change_key cols change
own_key cols (Add u) t e = let same : u ≡ t = cc in ap (at_columns cols) (sym same)
own_key cols (Replace u) t e = let same : u ≡ t = cc in ap (at_columns cols) (sym same)
own_key cols (Remove k) t e = absurd (cc)

same_codes : (j k : Codes) → (j ≡ k) ⊎ (j ≢ k)
same_codes j k = go (codes_cmp j k) refl
  where
    go : (o : Ordering) → codes_cmp j k ≡ o → (j ≡ k) ⊎ (j ≢ k)
    go Less e = inr (λ same. absurd (let bad : Less ≡ Equal = sym e ∙ codes_tied j k same in cc))
    go Equal e = inl (codes_equal j k e)
    go Greater e = inr (λ same. absurd (let bad : Greater ≡ Equal = sym e ∙ codes_tied j k same in cc))

-- what rows have after a change, by key
changed_own : (cols : List ℕ) (change : Change) (rows : List Codes) → row_at cols (change_key cols change) (changed_rows cols rows change) ≡ row_seen (seen_after change)
changed_own cols (Add t) rows = at_put cols (at_columns cols t) t rows ∙ ap (λ b. cond b (Some t) (row_at cols (at_columns cols t) rows)) (has_own_key cols t)
changed_own cols (Replace t) rows = at_put cols (at_columns cols t) t rows ∙ ap (λ b. cond b (Some t) (row_at cols (at_columns cols t) rows)) (has_own_key cols t)
changed_own cols (Remove k) rows = own_gone cols k rows

changed_other : (cols : List ℕ) (k : Codes) (change : Change) (rows : List Codes) → k ≢ change_key cols change → row_at cols k (changed_rows cols rows change) ≡ row_at cols k rows
changed_other cols k (Add t) rows ne = at_put cols k t rows ∙ go (has_key cols k t) refl
  where
    go : (b : Bool) → has_key cols k t ≡ b → cond b (Some t) (row_at cols k rows) ≡ row_at cols k rows
    go true e = absurd (ne (sym (key_is cols k t e)))
    go false e = refl
changed_other cols k (Replace t) rows ne = at_put cols k t rows ∙ go (has_key cols k t) refl
  where
    go : (b : Bool) → has_key cols k t ≡ b → cond b (Some t) (row_at cols k rows) ≡ row_at cols k rows
    go true e = absurd (ne (sym (key_is cols k t e)))
    go false e = refl
changed_other cols k (Remove j) rows ne = other_same cols k j rows ne

module _ (cols : List ℕ) (n c phase : ℕ) (records : List (List Vstep)) (new : List Codes) (h : Slots cols n c phase records new) (change : Change) (i : ℕ)
    (s : IsChosen cols n c phase records new h change i) (later : row_seen (seen_after change) ≡ row_at cols (change_key cols change) new) (active : suc c ≤ (phase + 1) / 2) where
  abbrev after : List Vstep
  after = steps_after n (suc c) change (at records i)

  abbrev pub changed_records : List (List Vstep)
  changed_records = set records i after

  slot : IsSlot n phase after
  slot = slot_after n c phase change (at records i) (all_at (IsSlot n phase) records i [] h.slots s.slot.within) (older_below c (at records i) s.older) active

  at_own : at changed_records i ≡ after
  at_own = get_or-set_same records i after [] s.slot.within

  at_other : (j : ℕ) → j ≢ i → at changed_records j ≡ at records j
  at_other j ne = get_or-set_other records i j after [] ne

  shown_next : visible n (suc c) after ≡ seen_after change
  shown_next = shown_after n c change (at records i) (omega (arith, h.two))

  stays : (v : ℕ) → c - (n - 2) ≤ v → v ≤ c → visible n v after ≡ visible n v (at records i)
  stays v low high = earlier_stays n c v phase change (at records i) h.two h.half slot low high

  -- a row that the changed slot shows has the change's key
  own : (v : ℕ) (t : Codes) → IsReadable n c v → visible n v after ≡ seen_row t → at_columns cols t ≡ change_key cols change
  own v t r e = elim (cases_lt v (suc c)) [
    | inl below ↦ s.slot.own v t r (sym (stays v r.0 (omega arith)) ∙ e)
    | inr last ↦ let top : v ≡ suc c = omega (arith, r.1) in own_key cols change t (sym shown_next ∙ subst (λ w. visible n w after ≡ seen_row t) top e)
  ]

  pub keys_after : HasSlotForKey cols n c changed_records
  keys_after a b v w t u la lb ra rb ea eb = by_place (same_place a i) (same_place b i)
    where
      in_range : (j : ℕ) → j < length changed_records → j < length records
      in_range j lt = subst (λ m. j < m) (length-set records i after) lt

      by_place : (a ≡ i) ⊎ (a ≢ i) → (b ≡ i) ⊎ (b ≢ i) → (at_columns cols t ≡ at_columns cols u) ↔ (a ≡ b)
      by_place (inl x) (inl y) =
          (λ same. x ∙ sym y, λ same. own v t ra (sym (ap (visible n v) (ap (at changed_records) x ∙ at_own)) ∙ ea) ∙ sym (own w u rb (sym (ap (visible n w) (ap (at changed_records) y ∙ at_own)) ∙ eb)))
      by_place (inl x) (inr y) =
          (λ same. absurd (s.slot.others b w u (in_range b lb) y rb (sym (ap (visible n w) (at_other b y)) ∙ eb) (sym same ∙ own v t ra (sym (ap (visible n v) (ap (at changed_records) x ∙ at_own)) ∙ ea))), λ same. absurd (y (sym same ∙ x)))
      by_place (inr x) (inl y) =
          (λ same. absurd (s.slot.others a v t (in_range a la) x ra (sym (ap (visible n v) (at_other a x)) ∙ ea) (same ∙ own w u rb (sym (ap (visible n w) (ap (at changed_records) y ∙ at_own)) ∙ eb))), λ same. absurd (x (same ∙ y)))
      by_place (inr x) (inr y) = h.keys a b v w t u (in_range a la) (in_range b lb) ra rb (sym (ap (visible n v) (at_other a x)) ∙ ea) (sym (ap (visible n w) (at_other b y)) ∙ eb)

  pub slots_after : AllByRecursion (IsSlot n phase) changed_records
  slots_after = all_set (IsSlot n phase) records i after h.slots slot

  written_own : IsWritten cols n c new after
  written_own = record {
    shown = shown change s.fits shown_next;
    rows = λ v t r e. ap (λ q. row_at cols q new) (own v t r e) ∙ sym later ∙ sym (ap row_seen shown_next);
  }
    where
      shown : (change : Change) → is_fitting change (visible n c (at records i)) ≡ true → visible n (suc c) after ≡ seen_after change → (v : ℕ) × (t : Codes) × IsReadable n c v × (visible n v after ≡ seen_row t)
      shown (Add t) f e = (suc c, t, next_is_readable cols n c phase records new h, e)
      shown (Replace t) f e = (suc c, t, next_is_readable cols n c phase records new h, e)
      shown (Remove k) f e = go (visible n c (at records i)) refl f
        where
          go : (o : Seen) → visible n c (at records i) ≡ o → is_fitting (Remove k) o ≡ true → (v : ℕ) × (t : Codes) × IsReadable n c v × (visible n v after ≡ seen_row t)
          go (seen_row t) e f = (c, t, (omega arith, omega arith), stays c (omega arith) (omega arith) ∙ e)
          go seen_nothing e f = absurd (cc)
          go seen_past e f = absurd (cc)

  pub written_after : AllByRecursion (λ steps. is_older c steps ≡ false → IsWritten cols n c new steps) changed_records
  written_after = all_set (λ steps. is_older c steps ≡ false → IsWritten cols n c new steps) records i after h.written (λ e. written_own)

  -- at a version in use the slots show the same rows
  pub rows_stay : (v : ℕ) → c - (n - 2) ≤ v → v ≤ c → rows_shown_at n v changed_records ≡ rows_shown_at n v records
  rows_stay v low high = set_found (λ steps. row_seen (visible n v steps)) records i after [] (ap row_seen (stays v low high))

  pub need_stays : need cols (map (λ v. rows_shown_at n v changed_records) (versions_in_use n c) ++ new ∷ []) ≡ need cols (map (λ v. rows_shown_at n v records) (versions_in_use n c) ++ new ∷ [])
  need_stays = ap (λ values. need cols (values ++ new ∷ [])) (map_same (λ v. rows_shown_at n v changed_records) (λ v. rows_shown_at n v records) (versions_in_use n c) (λ v k. let u = used n c v k in rows_stay v u.0 u.1))

  pub slots_stay : Slots cols n c phase changed_records new
  slots_stay = record {
    two = h.two;
    half = h.half;
    slots = slots_after;
    keys = keys_after;
    written = written_after;
    keyed = h.keyed;
    room = let r = h.room in omega (arith, need_stays, length-set records i after);
  }

  -- at the next version the slots show the rows after the change
  pub next_after : puts cols [] (rows_shown_at n (suc c) changed_records) ≡ changed_rows cols (puts cols [] (rows_shown_at n (suc c) records)) change
  next_after = same_by_key cols (puts cols [] (rows_shown_at n (suc c) changed_records)) (changed_rows cols (puts cols [] (rows_shown_at n (suc c) records)) change)
      (keyed_puts cols (rows_shown_at n (suc c) changed_records) [] tt) (keyed_changed cols (puts cols [] (rows_shown_at n (suc c) records)) change (keyed_puts cols (rows_shown_at n (suc c) records) [] tt))
      (λ k. same_option (row_at cols k (puts cols [] (rows_shown_at n (suc c) changed_records))) (row_at cols k (changed_rows cols (puts cols [] (rows_shown_at n (suc c) records)) change)) (there k) (back k))
    where
      there : (k t : Codes) → row_at cols k (puts cols [] (rows_shown_at n (suc c) changed_records)) ≡ Some t → row_at cols k (changed_rows cols (puts cols [] (rows_shown_at n (suc c) records)) change) ≡ Some t
      there k t e =
          let f = row_slot cols n (suc c) changed_records k t e in
          by_place f.0 f.1 f.2 f.3 (same_place f.0 i)
        where
          by_place : (j : ℕ) → j < length changed_records → visible n (suc c) (at changed_records j) ≡ seen_row t → at_columns cols t ≡ k → (j ≡ i) ⊎ (j ≢ i) → row_at cols k (changed_rows cols (puts cols [] (rows_shown_at n (suc c) records)) change) ≡ Some t
          by_place j lt seen is (inl x) =
              let made : seen_after change ≡ seen_row t = sym shown_next ∙ sym (ap (visible n (suc c)) (ap (at changed_records) x ∙ at_own)) ∙ seen in
              ap (λ q. row_at cols q (changed_rows cols (puts cols [] (rows_shown_at n (suc c) records)) change)) (sym is ∙ own_key cols change t made)
              ∙ changed_own cols change (puts cols [] (rows_shown_at n (suc c) records)) ∙ ap row_seen made
          by_place j lt seen is (inr x) =
              let old : visible n (suc c) (at records j) ≡ seen_row t = sym (ap (visible n (suc c)) (at_other j x)) ∙ seen in
              let inside : j < length records = subst (λ m. j < m) (length-set records i after) lt in
              let ne = s.slot.others j (suc c) t inside x (next_is_readable cols n c phase records new h) old in
              changed_other cols k change (puts cols [] (rows_shown_at n (suc c) records)) (λ same. ne (is ∙ same))
              ∙ subst (λ q. row_at cols q (puts cols [] (rows_shown_at n (suc c) records)) ≡ Some t) is (shown_row cols n c records h.keys j (suc c) t inside (next_is_readable cols n c phase records new h) old)

      back : (k t : Codes) → row_at cols k (changed_rows cols (puts cols [] (rows_shown_at n (suc c) records)) change) ≡ Some t → row_at cols k (puts cols [] (rows_shown_at n (suc c) changed_records)) ≡ Some t
      back k t e = by_key (same_codes k (change_key cols change))
        where
          by_key : (k ≡ change_key cols change) ⊎ (k ≢ change_key cols change) → row_at cols k (puts cols [] (rows_shown_at n (suc c) changed_records)) ≡ Some t
          by_key (inl same) =
              let made : row_seen (seen_after change) ≡ Some t = sym (changed_own cols change (puts cols [] (rows_shown_at n (suc c) records))) ∙ subst (λ q. row_at cols q (changed_rows cols (puts cols [] (rows_shown_at n (suc c) records)) change) ≡ Some t) same e in
              let seen : seen_after change ≡ seen_row t = row_of_seen (seen_after change) t made in
              let lt : i < length changed_records = subst (λ m. i < m) (sym (length-set records i after)) s.slot.within in
              subst (λ q. row_at cols q (puts cols [] (rows_shown_at n (suc c) changed_records)) ≡ Some t) (own_key cols change t seen ∙ sym same)
              (shown_row cols n c changed_records keys_after i (suc c) t lt (next_is_readable cols n c phase records new h) (ap (visible n (suc c)) at_own ∙ shown_next ∙ seen))
          by_key (inr ne) =
              let before : row_at cols k (puts cols [] (rows_shown_at n (suc c) records)) ≡ Some t = sym (changed_other cols k change (puts cols [] (rows_shown_at n (suc c) records)) ne) ∙ e in
              let f = row_slot cols n (suc c) records k t before in
              let x : f.0 ≢ i = λ same. ne (sym f.3 ∙ s.slot.own (suc c) t (next_is_readable cols n c phase records new h) (subst (λ j. visible n (suc c) (at records j) ≡ seen_row t) same f.2)) in
              let lt : f.0 < length changed_records = subst (λ m. f.0 < m) (sym (length-set records i after)) f.1 in
              subst (λ q. row_at cols q (puts cols [] (rows_shown_at n (suc c) changed_records)) ≡ Some t) f.3
              (shown_row cols n c changed_records keys_after f.0 (suc c) t lt (next_is_readable cols n c phase records new h) (ap (visible n (suc c)) (at_other f.0 x) ∙ f.2))
