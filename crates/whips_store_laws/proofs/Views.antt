-- The calls of a store keep each view sound.
--
-- `view_begun`, `view_changed`, `view_published`: a view that is sound (`IsSoundView`) is sound once a transaction has begun, once the
-- first change that is left was made, and once the transaction is published. `slot_fits`, `slot_found`: there is a slot for that change,
-- which it fits. `wide_seen`: a row that is seen has the width of the view's rows.
--
-- The idea: outside a transaction no step is newer than the committed version, so the next version shows the same rows, and a transaction
-- that begins has all its changes left. After a change the next version shows its rows with this change, and the versions in use show what
-- they showed. Once no change is left the next version shows the new rows. It then becomes the committed one, while each slot shows what it
-- showed.
--
-- Four lemmas carry it: `view_chosen` (the slot of the first change that is left), `next_same` (where no step is newer, the next version
-- shows the same rows), and `keys_published` and `needed_still` (keys and slots once the next version is the committed one).
use Rattle.std.proofs.Common.{◌≡◌, ◌⊎◌, inl, inr, ℕ, zero, suc, ◌+◌, ◌/◌, ◌%◌, ◌<◌, ◌≤◌, Bool, true, false, cond, leb, ltb, List, [], ◌∷◌, ◌++◌, length, map, get_or, take, Option, Some, None, is_some, refl, sym, ap, subst, ◌∙◌, arith}
use Rattle.std.specs.Prelude.{reverse, set}
use Rattle.std.specs.List.{cons_option, AllByRecursion}
use Rattle.std.specs.declared.cmp.Ordering.TheVariants.{Less, Equal}
use Rattle.std.proofs.lemmas.Bool.{cases_lt, le-leb}
use Rattle.std.proofs.lemmas.List.{length-set}
use Rattle.whips_lists.specs.Members.{Has}
use Rattle.whips_model.specs.Tuples.{Codes, codes_cmp, at_columns, row_at, IsKeyed}
use Rattle.whips_model.specs.Relation.{IsTable}
use Rattle.whips_model.proofs.Keyed.{all_at, keyed_at}
use Rattle.whips_lists.proofs.Members.{has_at, has_either, has_cases, has_none, has_before, all_has}
use Rattle.whips_choices.proofs.Rows.{codes_tied, row_found}
use Rattle.whips_trans_laws.proofs.ByKey.{row_of_key}
use Rattle.whips_rel.specs.declared.update.Change.{Change}
use Rattle.whips_rel.specs.declared.update.Change.TheVariants.{Add, Replace, Remove}
use Rattle.whips_changes.specs.Changes.{union_rows, net_changes}
use Rattle.whips_net.specs.Made.{change_key, all_changed_rows}
use Rattle.whips_net.proofs.Merge.{puts}
use Rattle.whips_net.proofs.Leads.{lead, go}
use Rattle.whips_vnl.specs.Records.{seen_row, seen_nothing, seen_past, seen_by, seen_of_row, visible, step_for, step_of, steps_after, seen_after, is_fitting, IsBelow, IsWithinPhase}
use Rattle.whips_vnl.specs.declared.record.Vstep.{Vstep}
use Rattle.whips_store.specs.Versions.{versions_in_use, row_seen, is_older, rows_shown_at}
use Rattle.whips_store.specs.Stores.{ViewState}
use Rattle.whips_store.specs.Calls.{AreNetChanges, slots_needed, slot_for, records_with, changed_view}
use Rattle.whips_store.specs.Sound.{IsSlot, IsReadable, HasSlotForKey, IsWritten, IsSoundView, StepsHaveWidth}
use Rattle.whips_store_laws.proofs.Lists.{found_from, has_unreversed, all_set}
use Rattle.whips_store_laws.proofs.Unions.{keyed_puts, keyed_all, from_union, counted}
use Rattle.whips_store_laws.proofs.Slots.{older_below, below_same, row_of_seen}
use Rattle.whips_store_laws.proofs.Places.{at, used, Slots, IsChosen, net_change, chosen, key_needed, new_needed}
use Rattle.whips_store_laws.proofs.Changed.{keys_after, slots_after, written_after, rows_stay, need_stays, next_after}

pub view_slots : (n phase : ℕ) (v : ViewState) → 2 ≤ n → IsSoundView n phase v → Slots v.columns.key n (phase / 2) phase v.records v.next
view_slots n phase v two h = record { two = two; half = refl; slots = h.records; keys = h.keys; written = h.written; keyed = h.new.keyed; room = h.room }

-- ---- a change is made

active_from : (n phase : ℕ) (v : ViewState) (change : Change) (others : List Change) → IsSoundView n phase v → v.left ≡ change ∷ others → phase % 2 ≡ 0 → ⊥
active_from n phase v change others h e even = let bad : [] ≡ change ∷ others = sym (h.quiet even) ∙ e in cc

pub next_version : (phase : ℕ) → (phase % 2 ≡ 0 → ⊥) → suc (phase / 2) ≤ (phase + 1) / 2
next_version phase odd = elim (cases_lt ((phase + 1) / 2) (suc (phase / 2))) [
  | inl below ↦ absurd (odd (omega arith))
  | inr above ↦ above
]

-- the slot of the first change that is left
pub view_chosen : (n phase : ℕ) (v : ViewState) (change : Change) (others : List Change) (two : 2 ≤ n) (h : IsSoundView n phase v) → v.left ≡ change ∷ others
    → (i : ℕ) × (slot_for n (phase / 2) v.columns.key (change_key v.columns.key change) v.records ≡ Some i) × IsChosen v.columns.key n (phase / 2) phase v.records v.next (view_slots n phase v two h) change i
view_chosen n phase v change others two h e = chosen v.columns.key n (phase / 2) phase v.records v.next (view_slots n phase v two h) change
    (net_change v.columns.key (puts v.columns.key [] (rows_shown_at n (suc (phase / 2)) v.records)) v.next change others (h.left ∙ e))

-- the rows of the steps have the width of the view's rows
wide_take : (width n : ℕ) (steps : List Vstep) → StepsHaveWidth width steps → StepsHaveWidth width (take n steps)
wide_take width zero steps h = tt
wide_take width (suc n) [] h = tt
wide_take width (suc n) (s ∷ steps) h = (h.0, wide_take width n steps h.1)

wide_after : (width n vn : ℕ) (change : Change) (steps : List Vstep) → ((t : Codes) → seen_after change ≡ seen_row t → length t ≡ width) → StepsHaveWidth width steps → StepsHaveWidth width (steps_after n vn change steps)
wide_after width n vn change steps w h = wide_take width n (step_of vn change ∷ steps) (made change w, h)
  where
    made : (change : Change) → ((t : Codes) → seen_after change ≡ seen_row t → length t ≡ width) → (t : Codes) → (step_of vn change).row ≡ Some t → length t ≡ width
    made (Add u) w t e = w t (let same : u ≡ t = cc in ap seen_row same)
    made (Replace u) w t e = w t (let same : u ≡ t = cc in ap seen_row same)
    made (Remove k) w t e = absurd (cc)

wide_change : (width : ℕ) (cols : List ℕ) (new : List Codes) (change : Change) → AllByRecursion (λ t. length t ≡ width) new → row_seen (seen_after change) ≡ row_at cols (change_key cols change) new → (t : Codes) → seen_after change ≡ seen_row t → length t ≡ width
wide_change width cols new change h later t e = all_has (λ t. length t ≡ width) new h t (row_found cols (change_key cols change) t new (sym later ∙ ap row_seen e)).0

pub view_changed : (n phase : ℕ) (v : ViewState) (change : Change) (others : List Change) → 2 ≤ n → IsSoundView n phase v → v.left ≡ change ∷ others → IsSoundView n phase (changed_view n (phase / 2) change others v)
view_changed n phase v change others two h e =
    let f = view_chosen n phase v change others two h e in
    subst (λ o. IsSoundView n phase (record v { records = records_with n (phase / 2) change o v.records; left = others })) (sym f.1) (made f.0 f.2)
  where
    slots : Slots v.columns.key n (phase / 2) phase v.records v.next
    slots = view_slots n phase v two h

    made : (i : ℕ) → IsChosen v.columns.key n (phase / 2) phase v.records v.next slots change i → IsSoundView n phase (record v { records = set v.records i (steps_after n (suc (phase / 2)) change (at v.records i)); left = others })
    made i s =
        let net = net_change v.columns.key (puts v.columns.key [] (rows_shown_at n (suc (phase / 2)) v.records)) v.next change others (h.left ∙ e) in
        let odd = active_from n phase v change others h e in
        let next = next_version phase odd in
        record {
          current = h.current;
          new = h.new;
          records = slots_after v.columns.key n (phase / 2) phase v.records v.next slots change i s net.later next;
          widths = all_set (StepsHaveWidth (length v.columns.kinds)) v.records i (steps_after n (suc (phase / 2)) change (at v.records i)) h.widths
              (wide_after (length v.columns.kinds) n (suc (phase / 2)) change (at v.records i) (wide_change (length v.columns.kinds) v.columns.key v.next change h.new.widths net.later) (all_at (StepsHaveWidth (length v.columns.kinds)) v.records i [] h.widths s.slot.within));
          keys = keys_after v.columns.key n (phase / 2) phase v.records v.next slots change i s net.later next;
          written = written_after v.columns.key n (phase / 2) phase v.records v.next slots change i s net.later next;
          committed = ap (λ rows. puts v.columns.key [] rows) (rows_stay v.columns.key n (phase / 2) phase v.records v.next slots change i s net.later next (phase / 2) (omega arith) (omega arith)) ∙ h.committed;
          left = ap (λ rows. net_changes v.columns.key rows v.next) (next_after v.columns.key n (phase / 2) phase v.records v.next slots change i s net.later next)
              ∙ go v.columns.key (puts v.columns.key [] (rows_shown_at n (suc (phase / 2)) v.records)) v.next change others (keyed_puts v.columns.key (rows_shown_at n (suc (phase / 2)) v.records) [] tt) h.new.keyed (h.left ∙ e);
          room = let r = h.room in omega (arith, need_stays v.columns.key n (phase / 2) phase v.records v.next slots change i s net.later next, length-set v.records i (steps_after n (suc (phase / 2)) change (at v.records i)));
          numbers = h.numbers;
          new_numbers = h.new_numbers;
          quiet = λ even. absurd (odd even);
        }

-- ---- where no step is newer

pub within_older : (phase c : ℕ) (steps : List Vstep) → IsWithinPhase phase steps → (phase + 1) / 2 ≤ c → is_older c steps ≡ true
within_older phase c [] h le = refl
within_older phase c (s ∷ steps) h le = let low : s.vn ≤ (phase + 1) / 2 = h 0 s (omega arith) in
    rw (le-leb s.vn c (omega arith)) (within_older phase c steps (λ k d lt. h (suc k) d (omega arith)) le)

all_mapped : {X : Type 0} (P Q : X → Type 0) (xs : List X) → ((x : X) → P x → Q x) → AllByRecursion P xs → AllByRecursion Q xs
all_mapped P Q [] f h = tt
all_mapped P Q (x ∷ xs) f h = (f x h.0, all_mapped P Q xs f h.1)

later_phase : (n phase later : ℕ) (records : List (List Vstep)) → phase ≤ later → AllByRecursion (IsSlot n phase) records → AllByRecursion (IsSlot n later) records
later_phase n phase later records le h = all_mapped (IsSlot n phase) (IsSlot n later) records
    (λ steps s. record { falling = s.falling; rows = s.rows; kept = s.kept; within = λ k d lt. let w : (get_or steps k d).vn ≤ (phase + 1) / 2 = s.within k d lt in omega arith }) h

pub none_written : (cols : List ℕ) (n phase c : ℕ) (new : List Codes) (records : List (List Vstep)) → (phase + 1) / 2 ≤ c → AllByRecursion (IsSlot n phase) records
    → AllByRecursion (λ steps. is_older c steps ≡ false → IsWritten cols n c new steps) records
none_written cols n phase c new records le h = all_mapped (IsSlot n phase) (λ steps. is_older c steps ≡ false → IsWritten cols n c new steps) records
    (λ steps s f. absurd (let t = within_older phase c steps s.within le in cc)) h

pub next_same : (n phase c : ℕ) (records : List (List Vstep)) → (phase + 1) / 2 ≤ c → AllByRecursion (IsSlot n phase) records → rows_shown_at n (suc c) records ≡ rows_shown_at n c records
next_same n phase c [] le h = refl
next_same n phase c (steps ∷ records) le h =
    ap (λ s. cons_option (row_seen s) (rows_shown_at n (suc c) records)) (below_same n c steps (older_below c steps (within_older phase c steps h.0.within le)))
    ∙ ap (λ l. cons_option (row_seen (visible n c steps)) l) (next_same n phase c records le h.1)

-- ---- a transaction begins

pub view_begun : (n phase : ℕ) (v : ViewState) (after : List Codes) (changes : List Change) → phase % 2 ≡ 0 → IsSoundView n phase v → IsTable v.columns after → AreNetChanges v after changes → slots_needed n (phase / 2) v after ≤ length v.records
    → IsSoundView n (suc phase) (record v { next = after; left = changes })
view_begun n phase v after changes even h table net room =
    let same : phase / 2 ≡ suc phase / 2 = omega arith in
    let low : (phase + 1) / 2 ≤ phase / 2 = omega arith in
    record {
      current = h.current;
      new = table;
      records = later_phase n phase (suc phase) v.records (omega arith) h.records;
      widths = h.widths;
      keys = subst (λ c. HasSlotForKey v.columns.key n c v.records) same h.keys;
      written = none_written v.columns.key n phase (suc phase / 2) after v.records (omega arith) h.records;
      committed = subst (λ c. puts v.columns.key [] (rows_shown_at n c v.records) ≡ v.current) same h.committed;
      left = subst (λ c. net_changes v.columns.key (puts v.columns.key [] (rows_shown_at n (suc c) v.records)) after ≡ changes) same
          (ap (λ rows. net_changes v.columns.key rows after) (ap (λ rows. puts v.columns.key [] rows) (next_same n phase (phase / 2) v.records low h.records) ∙ h.committed) ∙ sym net.net);
      room = subst (λ c. slots_needed n c v after ≤ length v.records) same room;
      numbers = h.numbers;
      new_numbers = net.numbers;
      quiet = λ e. absurd (omega arith);
    }

-- ---- a transaction ends

-- rows in the order of their keys have their keys at one place each
pub one_place : (cols : List ℕ) (rows : List Codes) (i j : ℕ) (k : Codes) → IsKeyed cols rows → i < length rows → j < length rows → at_columns cols (get_or rows i []) ≡ k → at_columns cols (get_or rows j []) ≡ k → i ≡ j
one_place cols rows i j k h li lj a b = elim (cases_lt i j) [
  | inl lt ↦ absurd (let before : codes_cmp (at_columns cols (get_or rows i [])) (at_columns cols (get_or rows j [])) ≡ Less = keyed_at cols rows i j [] h lt lj in
      let tied = codes_tied (at_columns cols (get_or rows i [])) (at_columns cols (get_or rows j [])) (a ∙ sym b) in
      let bad : Less ≡ Equal = sym before ∙ tied in cc)
  | inr ge ↦ elim (cases_lt j i) [
    | inl lt ↦ absurd (let before : codes_cmp (at_columns cols (get_or rows j [])) (at_columns cols (get_or rows i [])) ≡ Less = keyed_at cols rows j i [] h lt li in
        let tied = codes_tied (at_columns cols (get_or rows j [])) (at_columns cols (get_or rows i [])) (b ∙ sym a) in
        let bad : Less ≡ Equal = sym before ∙ tied in cc)
    | inr le ↦ omega arith
  ]
]

-- where all keys of some rows are among those of others, there aren't more
pub not_more : (cols : List ℕ) (rows others : List Codes) → IsKeyed cols rows → ((t : Codes) → Has t rows → is_some (row_at cols (at_columns cols t) others) ≡ true) → length rows ≤ length others
not_more cols rows others h among = counted cols (λ i k. at_columns cols (get_or rows i []) ≡ k) (length rows) others
    (λ i lt. (at_columns cols (get_or rows i []), refl, among (get_or rows i []) (has_at rows i [] lt)))
    (λ i j k li lj a b. one_place cols rows i j k h li lj a b)

module _ (n phase : ℕ) (v : ViewState) (two : 2 ≤ n) (odd : phase % 2 ≡ 1) (h : IsSoundView n phase v) where
  half : suc (phase / 2) ≡ suc phase / 2
  half = omega arith

  -- what was the next version is the committed one
  lower : (w : ℕ) → IsReadable n (suc (phase / 2)) w → (u : ℕ) × IsReadable n (phase / 2) u × ((i : ℕ) → i < length v.records → visible n w (at v.records i) ≡ visible n u (at v.records i))
  lower w r = elim (cases_lt w (suc (suc (phase / 2)))) [
    | inl below ↦ let low = r.0 in (w, (omega arith, omega arith), λ i lt. refl)
    | inr last ↦ let top : w ≡ suc (suc (phase / 2)) = omega (arith, r.1) in (
      suc (phase / 2),
      (omega arith, omega arith),
      λ i lt. ap (λ z. visible n z (at v.records i)) top ∙ below_same n (suc (phase / 2)) (at v.records i) (older_below (suc (phase / 2)) (at v.records i) (within_older phase (suc (phase / 2)) (at v.records i) (all_at (IsSlot n phase) v.records i [] h.records lt).within (omega arith))),
    )
  ]

  keys_published : HasSlotForKey v.columns.key n (suc (phase / 2)) v.records
  keys_published i j w u t s li lj rw ru e f =
      let a = lower w rw in
      let b = lower u ru in
      h.keys i j a.0 b.0 t s li lj a.1 b.1 (sym (a.2 i li) ∙ e) (sym (b.2 j lj) ∙ f)

  needed_still : slots_needed n (suc (phase / 2)) v v.next ≤ length v.records
  needed_still =
      let fewer = not_more v.columns.key
      (union_rows v.columns.key (reverse (map (λ w. rows_shown_at n w v.records) (versions_in_use n (suc (phase / 2))) ++ v.next ∷ [])))
      (union_rows v.columns.key (reverse (map (λ w. rows_shown_at n w v.records) (versions_in_use n (phase / 2)) ++ v.next ∷ [])))
      (keyed_all v.columns.key (reverse (map (λ w. rows_shown_at n w v.records) (versions_in_use n (suc (phase / 2))) ++ v.next ∷ [])) [] tt) among in
      let room : length (union_rows v.columns.key (reverse (map (λ w. rows_shown_at n w v.records) (versions_in_use n (phase / 2)) ++ v.next ∷ []))) ≤ length v.records = h.room in
      omega arith
    where
      slots : Slots v.columns.key n (phase / 2) phase v.records v.next
      slots = view_slots n phase v two h

      in_values : (t : Codes) (ts : List Codes) → Has t ts → Has ts (map (λ w. rows_shown_at n w v.records) (versions_in_use n (suc (phase / 2)))) ⊎ Has ts (v.next ∷ [])
          → is_some (row_at v.columns.key (at_columns v.columns.key t) (union_rows v.columns.key (reverse (map (λ w. rows_shown_at n w v.records) (versions_in_use n (phase / 2)) ++ v.next ∷ [])))) ≡ true
      in_values t ts k (inl g) =
          let m = has_before (λ w. rows_shown_at n w v.records) ts (versions_in_use n (suc (phase / 2))) g in
          let u = used n (suc (phase / 2)) m.0 m.1 in
          let f = found_from (λ steps. row_seen (visible n m.0 steps)) v.records [] t (subst (Has t) m.2 k) in
          let low = u.0 in
          let high = u.1 in
          key_needed v.columns.key n (phase / 2) phase v.records v.next slots f.0 m.0 t f.1 (omega arith, omega arith) (row_of_seen (visible n m.0 (at v.records f.0)) t f.2)
      in_values t ts k (inr g) = elim (has_cases ts v.next [] g) [
        | inl same ↦ new_needed v.columns.key n (phase / 2) phase v.records v.next slots t (subst (Has t) same k)
        | inr none ↦ absurd (has_none ts none)
      ]

      among : (t : Codes) → Has t (union_rows v.columns.key (reverse (map (λ w. rows_shown_at n w v.records) (versions_in_use n (suc (phase / 2))) ++ v.next ∷ [])))
          → is_some (row_at v.columns.key (at_columns v.columns.key t) (union_rows v.columns.key (reverse (map (λ w. rows_shown_at n w v.records) (versions_in_use n (phase / 2)) ++ v.next ∷ [])))) ≡ true
      among t k =
          let values = reverse (map (λ w. rows_shown_at n w v.records) (versions_in_use n (suc (phase / 2))) ++ v.next ∷ []) in
          let found = row_of_key v.columns.key t (union_rows v.columns.key values) (keyed_all v.columns.key values [] tt) k in
          elim (from_union v.columns.key (at_columns v.columns.key t) t values [] found) [
            | inl g ↦ in_values t g.0 g.2 (has_either g.0 (map (λ w. rows_shown_at n w v.records) (versions_in_use n (suc (phase / 2)))) (v.next ∷ []) (has_unreversed g.0 (map (λ w. rows_shown_at n w v.records) (versions_in_use n (suc (phase / 2))) ++ v.next ∷ []) g.1))
            | inr none ↦ absurd (cc)
          ]

  pub view_published : v.left ≡ [] → IsSoundView n (suc phase) (record v { current = v.next })
  view_published none =
      let whole : puts v.columns.key [] (rows_shown_at n (suc (phase / 2)) v.records) ≡ v.next =
      sym (ap (all_changed_rows v.columns.key (puts v.columns.key [] (rows_shown_at n (suc (phase / 2)) v.records))) (h.left ∙ none))
      ∙ lead v.columns.key (puts v.columns.key [] (rows_shown_at n (suc (phase / 2)) v.records)) v.next (keyed_puts v.columns.key (rows_shown_at n (suc (phase / 2)) v.records) [] tt) h.new.keyed in
      record {
        current = h.new;
        new = h.new;
        records = later_phase n phase (suc phase) v.records (omega arith) h.records;
        widths = h.widths;
        keys = subst (λ c. HasSlotForKey v.columns.key n c v.records) half keys_published;
        written = none_written v.columns.key n phase (suc phase / 2) v.next v.records (omega arith) h.records;
        committed = subst (λ c. puts v.columns.key [] (rows_shown_at n c v.records) ≡ v.next) half whole;
        left = subst (λ c. net_changes v.columns.key (puts v.columns.key [] (rows_shown_at n (suc c) v.records)) v.next ≡ v.left) half
            (ap (λ rows. net_changes v.columns.key (puts v.columns.key [] rows) v.next) (next_same n phase (suc (phase / 2)) v.records (omega arith) h.records) ∙ h.left);
        room = subst (λ c. slots_needed n c v v.next ≤ length v.records) half needed_still;
        numbers = h.new_numbers;
        new_numbers = h.new_numbers;
        quiet = λ e. none;
      }

-- what holds of the slot in which the first change that is left is made
pub slot_fits : (n phase : ℕ) (v : ViewState) (change : Change) (others : List Change) → 2 ≤ n → IsSoundView n phase v → v.left ≡ change ∷ others → (slot : ℕ) → slot_for n (phase / 2) v.columns.key (change_key v.columns.key change) v.records ≡ Some slot
    → (slot < length v.records) × (length (at v.records slot) ≤ n) × IsBelow (phase / 2 + 1) (at v.records slot) × (is_fitting change (visible n (phase / 2) (at v.records slot)) ≡ true)
slot_fits n phase v change others two h e slot is =
    let f = view_chosen n phase v change others two h e in
    let one : Some f.0 ≡ Some slot = sym f.1 ∙ is in
    let same : f.0 ≡ slot = cc in
    let next : suc (phase / 2) ≡ phase / 2 + 1 = omega arith in
    subst (λ i. (i < length v.records) × (length (at v.records i) ≤ n) × IsBelow (phase / 2 + 1) (at v.records i) × (is_fitting change (visible n (phase / 2) (at v.records i)) ≡ true)) same
    (f.2.slot.within, (all_at (IsSlot n phase) v.records f.0 [] h.records f.2.slot.within).kept, subst (λ c. IsBelow c (at v.records f.0)) next (older_below (phase / 2) (at v.records f.0) f.2.older), f.2.fits)

pub slot_found : (n phase : ℕ) (v : ViewState) (change : Change) (others : List Change) → 2 ≤ n → IsSoundView n phase v → v.left ≡ change ∷ others → slot_for n (phase / 2) v.columns.key (change_key v.columns.key change) v.records ≡ None → ⊥
slot_found n phase v change others two h e none =
    let f = view_chosen n phase v change others two h e in
    let bad : Some f.0 ≡ None = sym f.1 ∙ none in
    absurd (cc)

-- a row that is seen has the width of the view's rows
pub wide_seen : (width n v : ℕ) (steps : List Vstep) (t : Codes) → StepsHaveWidth width steps → visible n v steps ≡ seen_row t → length t ≡ width
wide_seen width n v steps t h e = go n (length steps) (step_for v steps) (λ s f. wide_step steps h s f) e
  where
    wide_step : (steps : List Vstep) → StepsHaveWidth width steps → (s : Vstep) → step_for v steps ≡ Some s → (t : Codes) → s.row ≡ Some t → length t ≡ width
    wide_step [] h s f = absurd (cc)
    wide_step (r ∷ steps) h s f = by_test (leb r.vn v) (λ g. wide_step steps h.1 s g) f
      where
        by_test : (b : Bool) → (step_for v steps ≡ Some s → (t : Codes) → s.row ≡ Some t → length t ≡ width) → cond b (Some r) (step_for v steps) ≡ Some s → (t : Codes) → s.row ≡ Some t → length t ≡ width
        by_test true more f = let same : r ≡ s = cc in subst (λ (s : Vstep). (t : Codes) → s.row ≡ Some t → length t ≡ width) same h.0
        by_test false more f = more f

    go : (n k : ℕ) (o : Option Vstep) → ((s : Vstep) → o ≡ Some s → (t : Codes) → s.row ≡ Some t → length t ≡ width) → seen_by n k o ≡ seen_row t → length t ≡ width
    go n k None w e = absurd (past (ltb k n) e)
      where
        past : (b : Bool) → cond b seen_nothing seen_past ≡ seen_row t → ⊥
        past true e = absurd (cc)
        past false e = absurd (cc)
    go n k (Some s) w e = by_row s.row refl e
      where
        by_row : (o : Option Codes) → s.row ≡ o → seen_of_row o ≡ seen_row t → length t ≡ width
        by_row None f e = absurd (cc)
        by_row (Some u) f e = w s refl t (f ∙ ap (λ x. Some x) (let same : u ≡ t = cc in same))
