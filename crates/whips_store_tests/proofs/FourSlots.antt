-- What an index of the four slots may rely on from version 2 on.
use Rattle.std.proofs.Common.{◌≡◌, ℕ, zero, suc, ◌*◌, ◌<◌, ◌≤◌, Some, Option, List, [], ◌∷◌, length, get_or, refl, sym, ap, ◌∙◌, arith}
use Rattle.std.specs.List.{AllByRecursion}
use Rattle.std.proofs.lemmas.Bool.{le-leb}
use Rattle.whips_model.specs.Tuples.{Codes, Columns, at_columns}
use Rattle.whips_rel.specs.declared.update.Change.TheVariants.{Add, Replace, Remove}
use Rattle.whips_vnl.specs.Records.{seen_row, seen_nothing, visible, steps_after, IsBelow}
use Rattle.whips_vnl.specs.declared.record.Vstep.{Vstep}
use Rattle.whips_store.specs.Sound.{IsSlot, StepsHaveWidth, HasSlotForKey}
use Rattle.whips_store_laws.proofs.Slots.{slot_after}
use Rattle.whips_slot_index.specs.Slots.{all_steps, AreKept}
use Rattle.whips_fixtures.specs.Pairs.{pair_columns}
use Rattle.whips_store_tests.specs.Worked.{gone_row, replaced_row, four_slots}

two_codes : (a b : ℕ) (t : Codes) → Some (a ∷ b ∷ []) ≡ Some t → length t ≡ 2
two_codes a b t e = let same : a ∷ b ∷ [] ≡ t = cc in ap length (sym same)

pub widths : AllByRecursion (StepsHaveWidth 2) four_slots
widths = (((λ t e. absurd (cc)), ((λ t e. two_codes 1 5 t e), tt)), (((λ t e. two_codes 2 9 t e), ((λ t e. two_codes 2 5 t e), tt)), (tt, (tt, tt))))

-- ---- the slots

blank_slot : (phase : ℕ) → IsSlot 3 phase []
blank_slot phase = record {
  falling = λ i j d lt le. absurd (omega arith);
  rows = λ k d lt. absurd (omega arith);
  kept = omega arith;
  within = λ k d lt. absurd (omega arith);
}

below_one : IsBelow 1 []
below_one = λ k d lt. absurd (omega arith)

below_two : (s : Vstep) → s.vn ≡ 1 → IsBelow 2 (s ∷ [])
below_two s e zero d lt = omega arith
below_two s e (suc k) d lt = absurd (omega arith)

pub slots : (c : ℕ) → 2 ≤ c → AllByRecursion (IsSlot 3 (2 * c)) four_slots
slots c two =
    let one = slot_after 3 0 (2 * c) (Add (1 ∷ 5 ∷ [])) [] (blank_slot (2 * c)) below_one (omega arith) in
    let other = slot_after 3 0 (2 * c) (Add (2 ∷ 5 ∷ [])) [] (blank_slot (2 * c)) below_one (omega arith) in (
      slot_after 3 1 (2 * c) (Remove (1 ∷ [])) (steps_after 3 1 (Add (1 ∷ 5 ∷ [])) []) one (below_two _ refl) (omega arith),
      (
        slot_after 3 1 (2 * c) (Replace (2 ∷ 9 ∷ [])) (steps_after 3 1 (Add (2 ∷ 5 ∷ [])) []) other (below_two _ refl) (omega arith),
        (blank_slot (2 * c), (blank_slot (2 * c), tt)),
      ),
    )

-- ---- the keys

gone_key : (v : ℕ) (t : Codes) → visible 3 v gone_row ≡ seen_row t → at_columns (0 ∷ []) t ≡ 1 ∷ []
gone_key zero t e = absurd (cc)
gone_key (suc zero) t e = let same : 1 ∷ 5 ∷ [] ≡ t = cc in ap (at_columns (0 ∷ [])) (sym same)
gone_key (suc (suc v)) t e =
    let gone : visible 3 (suc (suc v)) gone_row ≡ seen_nothing = rw (le-leb 2 (suc (suc v)) (omega arith)) refl in
    let bad : seen_nothing ≡ seen_row t = sym gone ∙ e in absurd (cc)

replaced_key : (v : ℕ) (t : Codes) → visible 3 v replaced_row ≡ seen_row t → at_columns (0 ∷ []) t ≡ 2 ∷ []
replaced_key zero t e = absurd (cc)
replaced_key (suc zero) t e = let same : 2 ∷ 5 ∷ [] ≡ t = cc in ap (at_columns (0 ∷ [])) (sym same)
replaced_key (suc (suc v)) t e =
    let later : visible 3 (suc (suc v)) replaced_row ≡ seen_row (2 ∷ 9 ∷ []) = rw (le-leb 2 (suc (suc v)) (omega arith)) refl in
    let both : seen_row (2 ∷ 9 ∷ []) ≡ seen_row t = sym later ∙ e in
    let same : 2 ∷ 9 ∷ [] ≡ t = cc in ap (at_columns (0 ∷ [])) (sym same)

key_shown : (i v : ℕ) (t : Codes) → visible 3 v (get_or four_slots i []) ≡ seen_row t → at_columns (0 ∷ []) t ≡ suc i ∷ []
key_shown zero v t e = gone_key v t e
key_shown (suc zero) v t e = replaced_key v t e
key_shown (suc (suc zero)) v t e = absurd (cc)
key_shown (suc (suc (suc zero))) v t e = absurd (cc)
key_shown (suc (suc (suc (suc i)))) v t e = absurd (cc)

pub keys : (c : ℕ) → HasSlotForKey (0 ∷ []) 3 c four_slots
keys c = λ i j v w t u li lj rv rw f g.
    let a = key_shown i v t f in
    let b = key_shown j w u g in
    ((λ same. let heads : suc i ∷ [] ≡ suc j ∷ [] = sym a ∙ same ∙ b in cc), (λ same. a ∙ ap (λ k. suc k ∷ []) same ∙ sym b))

-- ---- the same of what is these slots

pub widths_of : (columns : Columns) (records : List (List Vstep)) → columns ≡ pair_columns → records ≡ four_slots → AllByRecursion (StepsHaveWidth (length columns.kinds)) records
widths_of columns records e f = rw (e, f) widths

pub slots_of : (n c : ℕ) (records : List (List Vstep)) → n ≡ 3 → 2 ≤ c → records ≡ four_slots → AllByRecursion (IsSlot n (2 * c)) records
slots_of n c records e two f = rw (e, f) (slots c two)

pub keys_of : (n c : ℕ) (columns : Columns) (records : List (List Vstep)) → n ≡ 3 → columns ≡ pair_columns → records ≡ four_slots → HasSlotForKey columns.key n c records
keys_of n c columns records e f g = rw (e, f, g) (keys c)

kept_from : (records : List (Option (List Vstep))) → AllByRecursion (λ (steps : List Vstep). length steps ≤ 3) (all_steps records) → AreKept 3 records
kept_from [] h = tt
kept_from (r ∷ records) h = (h.0, kept_from records h.1)

pub are_kept : (records : List (Option (List Vstep))) → all_steps records ≡ four_slots → AreKept 3 records
are_kept records e = kept_from records (rw e (omega arith, (omega arith, (omega arith, (omega arith, tt)))))
