-- A view's slots by their records.
use Rattle.std.proofs.Common.{◌≡◌, ◌≢◌, ℕ, zero, suc, ◌+◌, ◌-◌, ◌/◌, ◌<◌, ◌≤◌, Bool, true, false, List, [], ◌∷◌, ◌++◌, length, get_or, take, Option, Some, None, refl, sym, ap, subst, ◌∙◌, arith}
use Rattle.std.specs.Prelude.{reverse, set}
use Rattle.std.specs.List.{AllByRecursion}
use Rattle.std.specs.Option.{IfSome, ForSome}
use Rattle.std.proofs.lemmas.List.{reverse-append, length-set, get_or-set_same, take_all, take_more}
use Rattle.whips_model.proofs.Keyed.{all_at}
use Rattle.whips_model.specs.Tuples.{Codes, Columns, codes_cmp}
use Rattle.whips_choices.proofs.Rows.{codes_equal, codes_tied}
use Rattle.std.specs.Ordering.{is_eq}
use Rattle.std.specs.declared.cmp.Ordering.{Ordering}
use Rattle.std.specs.declared.cmp.Ordering.TheVariants.{Less, Equal, Greater}
use Rattle.whips_rel.specs.declared.update.Change.{Change}
use Rattle.whips_net.specs.Made.{change_key}
use Rattle.whips_vnl.specs.Records.{visible, steps_after, steps_or_none, is_fitting, IsBelow}
use Rattle.whips_vnl.specs.declared.record.Vstep.{Vstep}
use Rattle.whips_store.specs.Versions.{row_seen, is_older}
use Rattle.whips_store.specs.Stores.{ViewState}
use Rattle.whips_store.specs.First.{first_records, first_view}
use Rattle.whips_store.specs.Calls.{slot_for, records_with, changed_view}
use Rattle.whips_store.specs.Sound.{IsSlot, IsSoundView, StepsHaveWidth}
use Rattle.whips_store_laws.proofs.Slots.{row_of_seen, not_older_after, earlier_stays}
use Rattle.whips_store_laws.proofs.Places.{used}
use Rattle.whips_store_laws.proofs.Views.{wide_seen, slot_fits, slot_found, view_changed}
use Rattle.whips_slot_index.specs.Slots.{all_steps, AreKept}
use Rattle.whips_slot_index.specs.Indexes.{IndexData, IsIndex, IsTaken}
use Rattle.whips_slot_index.proofs.Built.{taken}
use Rattle.whips_plain_store.specs.Plain.{changed_first}
use Rattle.whips_slot_index.proofs.Found.{steps_at}

pub wide_row : (records : List (Option (List Vstep))) (i width n v : ℕ) (r : Option (List Vstep)) (t : Codes) → i < length records → r ≡ get_or records i r → StepsHaveWidth width (get_or (all_steps records) i [])
    → Some t ≡ row_seen (visible n v (steps_or_none r)) → length t ≡ width
wide_row records i width n v r t lt is wide seen =
    let steps : get_or (all_steps records) i [] ≡ steps_or_none r = steps_at records i r lt ∙ ap steps_or_none (sym is) in
    wide_seen width n v (steps_or_none r) t (subst (StepsHaveWidth width) steps wide) (row_of_seen (visible n v (steps_or_none r)) t (sym seen))

pub all_kept : (n phase : ℕ) (records : List (Option (List Vstep))) → AllByRecursion (IsSlot n phase) (all_steps records) → AreKept n records
all_kept n phase [] h = tt
all_kept n phase (r ∷ records) h = (h.0.kept, all_kept n phase records h.1)

pub first_left : (left others : List Change) (change : Change) → left ≡ others ++ change ∷ [] → reverse left ≡ change ∷ reverse others
first_left left others change e = ap reverse e ∙ reverse-append others (change ∷ [])

-- the last of the changes that are kept in reverse is the first one that is left
pub last_left : (left lent : List Change) (change : Change) → lent ≡ left → 0 < length lent → change ≡ get_or lent (length lent - 1) change → reverse left ≡ change ∷ reverse (take (length lent - 1) lent)
last_left left lent change same lt is =
    let count : length lent ≡ (length lent - 1) + 1 = omega (arith, lt) in
    first_left left (take (length lent - 1) lent) change
    (sym same ∙ sym (take_all (length lent) lent (omega arith)) ∙ ap (λ n. take n lent) count ∙ take_more lent (length lent - 1) change (omega (arith, lt)) ∙ ap (λ t. take (length lent - 1) lent ++ t ∷ []) (sym is))

pub change_made : (n c : ℕ) (v : ViewState) (change : Change) (others : List Change) (slot : ℕ) (records : List (List Vstep)) → v.left ≡ change ∷ others → slot_for n c v.columns.key (change_key v.columns.key change) v.records ≡ Some slot
    → records ≡ set v.records slot (steps_after n (c + 1) change (get_or v.records slot [])) → record v { records = records; left = others } ≡ changed_first n c v
change_made n c v change others slot records e is made =
    let next : c + 1 ≡ suc c = omega arith in
    let whole : records ≡ records_with n c change (slot_for n c v.columns.key (change_key v.columns.key change) v.records) v.records =
    made ∙ ap (λ vn. set v.records slot (steps_after n vn change (get_or v.records slot []))) next ∙ ap (λ o. records_with n c change o v.records) (sym is) in
    let view : record v { records = records; left = others } ≡ changed_view n c change others v = ap (λ (l : List (List Vstep)). record v { records = l; left = others }) whole in
    view ∙ sym (ap by_left e)
  where
    by_left : List Change → ViewState
    by_left left = elim left [
      | [] ↦ v
      | change ∷ others ↦ changed_view n c change others v
    ]

pub view_made : (columns : Columns) (rows lent : List Codes) (records : List (List Vstep)) (left : List Change) (spare : ℕ) → records ≡ first_records lent spare → lent ≡ rows → left ≡ []
    → record { columns = columns; records = records; current = rows; next = rows; left = reverse left } ≡ first_view columns rows spare
view_made columns rows lent records left spare e same none =
    let first : ViewState = first_view columns rows spare in
    ap (λ (l : List (List Vstep)). record first { records = l; left = reverse left }) (e ∙ ap (λ l. first_records l spare) same) ∙ ap (λ (l : List Change). record first { left = reverse l }) none

-- what is seen of a view by its fields
abbrev pub seen_view : Columns → List (Option (List Vstep)) → List Codes → List Codes → List Change → ViewState
seen_view columns records current next left = record { columns = columns; records = all_steps records; current = current; next = next; left = reverse left }

-- ---- the index after a change

module _ (n phase : ℕ) (v : ViewState) (change : Change) (others : List Change) (slot : ℕ) (two : 2 ≤ n) (h : IsSoundView n phase v) (first : v.left ≡ change ∷ others)
    (place : slot_for n (phase / 2) v.columns.key (change_key v.columns.key change) v.records ≡ Some slot) where
  there : slot < length v.records
  there = (slot_fits n phase v change others two h first slot place).0

  slot_stays : IsSlot n phase (steps_after n (suc (phase / 2)) change (get_or v.records slot []))
  slot_stays =
      let changed = view_changed n phase v change others two h first in
      let records = subst (λ o. AllByRecursion (IsSlot n phase) (records_with n (phase / 2) change o v.records)) place changed.records in
      subst (IsSlot n phase) (get_or-set_same v.records slot (steps_after n (suc (phase / 2)) change (get_or v.records slot [])) [] there)
      (all_at (IsSlot n phase) (set v.records slot (steps_after n (suc (phase / 2)) change (get_or v.records slot []))) slot [] records (omega (arith, there, length-set v.records slot (steps_after n (suc (phase / 2)) change (get_or v.records slot [])))))

  pub index_kept : (records : List (List Vstep)) (index result : Option IndexData) (new : IndexData) → records ≡ set v.records slot (steps_after n (phase / 2 + 1) change (get_or v.records slot [])) → ForSome index (IsIndex v.columns.key v.records)
      → IfSome result (λ new. (old : IndexData) × (index ≡ Some old) × IsTaken slot old new × (old.versions ≡ n) × (old.committed ≡ phase / 2)) → result ≡ Some new → IsIndex v.columns.key records new
  index_kept records index result new made known taking is =
      let t = subst (λ o. IfSome o (λ new. (old : IndexData) × (index ≡ Some old) × IsTaken slot old new × (old.versions ≡ n) × (old.committed ≡ phase / 2))) is taking in
      let next : phase / 2 + 1 ≡ suc (phase / 2) = omega arith in
      subst (λ l. IsIndex v.columns.key l new) (sym (made ∙ ap (λ vn. set v.records slot (steps_after n vn change (get_or v.records slot []))) next))
      (taken v.columns.key v.records slot (steps_after n (suc (phase / 2)) change (get_or v.records slot [])) t.0 new (known t.0 t.1) there
      (λ w used_then. same t.0 t.3 t.4 w (used t.0.versions t.0.committed w used_then))
      (subst (λ c. is_older c (steps_after n (suc (phase / 2)) change (get_or v.records slot [])) ≡ false) (sym t.4) (not_older_after n (phase / 2) change (get_or v.records slot []) (omega arith))) t.2)
    where
      same : (old : IndexData) → old.versions ≡ n → old.committed ≡ phase / 2 → (w : ℕ) → (old.committed - (old.versions - 2) ≤ w) × (w ≤ old.committed)
          → visible old.versions w (steps_after n (suc (phase / 2)) change (get_or v.records slot [])) ≡ visible old.versions w (get_or v.records slot [])
      same old en ec w u =
          let low : phase / 2 - (n - 2) ≤ w = omega (arith, u.0, en, ec) in
          let high : w ≤ phase / 2 = omega (arith, u.1, ec) in
          subst (λ m. visible m w (steps_after n (suc (phase / 2)) change (get_or v.records slot [])) ≡ visible m w (get_or v.records slot [])) (sym en)
          (earlier_stays n (phase / 2) w phase change (get_or v.records slot []) two refl slot_stays low high)

-- ---- keys

pub same_key : (a b : Codes) → (is_eq (codes_cmp a b) ≡ true → b ≡ a) × (b ≡ a → is_eq (codes_cmp a b) ≡ true)
same_key a b = (λ e. sym (codes_equal a b (eq_is (codes_cmp a b) e)), λ e. ap is_eq (codes_tied a b (sym e)))
  where
    eq_is : (o : Ordering) → is_eq o ≡ true → o ≡ Equal
    eq_is Less e = absurd (cc)
    eq_is Equal e = refl
    eq_is Greater e = absurd (cc)
