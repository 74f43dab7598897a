-- What a slot's record shows, before and after a change.
use Rattle.std.proofs.Common.{◌≡◌, ◌≢◌, ◌⊎◌, inl, inr, ℕ, zero, suc, ◌+◌, ◌-◌, ◌*◌, ◌/◌, ◌<◌, ◌≤◌, true, false, not, leb, List, [], ◌∷◌, length, get_or, take, Some, is_some, refl, sym, ap, subst, ◌∙◌, arith}
use Rattle.std.specs.List.{All, AllPairs}
use Rattle.std.proofs.lemmas.Bool.{lt-leb, le-leb, leb-true, cases_lt}
use Rattle.std.proofs.lemmas.List.{get_or-take, length-take-le, take_all}
use Rattle.std.proofs.lemmas.List.Elements.{All-take}
use Rattle.whips_model.specs.Tuples.{Codes}
use Rattle.whips_lists.proofs.Members.{has_at}
use Rattle.whips_rel.specs.declared.update.Change.{Change}
use Rattle.whips_rel.specs.declared.update.Change.TheVariants.{Add, Replace, Remove}
use Rattle.whips_vnl.specs.Records.{Seen, seen_row, seen_nothing, seen_past, visible, step_of, steps_after, seen_after, is_removed, IsBelow}
use Rattle.whips_flow.specs.Staleness.{IsStale}
use Rattle.whips_vnl.specs.declared.record.Vstep.{Vstep}
use Rattle.whips_vnl.proofs.Kept.{live_kept, earlier_same}
use Rattle.whips_store.specs.Versions.{row_seen, is_nothing, is_older}
use Rattle.whips_store.specs.Sound.{IsSlot}
use Rattle.whips_store_laws.proofs.Lists.{all_pass}

-- ---- versions

-- a version in use while the one after c is written isn't stale
pub readable_lives : (n c v phase : ℕ) → 2 ≤ n → c - (n - 2) ≤ v → phase ≤ 2 * c + 1 → IsStale n v phase → ⊥
readable_lives n c v phase two le at stale = omega arith

pub half_even : (phase : ℕ) → phase ≤ 2 * (phase / 2) + 1
half_even phase = omega arith

-- in a slot no such version is past
pub not_past : (n c v phase : ℕ) (steps : List Vstep) → 2 ≤ n → phase / 2 ≡ c → IsSlot n phase steps → c - (n - 2) ≤ v → visible n v steps ≢ seen_past
not_past n c v phase steps two half slot le = live_kept n v phase steps (omega arith) slot.falling slot.within (λ stale. readable_lives n c v phase two le (omega arith) stale)

-- ---- records without a step of the next version

pub older_below : (c : ℕ) (steps : List Vstep) → is_older c steps ≡ true → IsBelow (suc c) steps
older_below c steps e k d lt = let h = leb-true (get_or steps k d).vn c (all_pass (λ s. leb s.vn c) steps e (get_or steps k d) (has_at steps k d lt)) in omega arith

pub below_same : (n c : ℕ) (steps : List Vstep) → IsBelow (suc c) steps → visible n (suc c) steps ≡ visible n c steps
below_same n c [] h = refl
below_same n c (s ∷ steps) h = let le : s.vn < suc c = h 0 s (omega arith) in
    rw (le-leb s.vn c (omega arith), le-leb s.vn (suc c) (omega arith)) refl

-- ---- after a change

version_of : (vn : ℕ) (change : Change) → (step_of vn change).vn ≡ vn
version_of vn (Add t) = refl
version_of vn (Replace t) = refl
version_of vn (Remove k) = refl

pub shown_after : (n c : ℕ) (change : Change) (steps : List Vstep) → 1 ≤ n → visible n (suc c) (steps_after n (suc c) change steps) ≡ seen_after change
shown_after zero c change steps le = absurd (omega arith)
shown_after (suc m) c (Add t) steps le = rw (le-leb (suc c) (suc c) (omega arith)) refl
shown_after (suc m) c (Replace t) steps le = rw (le-leb (suc c) (suc c) (omega arith)) refl
shown_after (suc m) c (Remove k) steps le = rw (le-leb (suc c) (suc c) (omega arith)) refl

pub not_older_after : (n c : ℕ) (change : Change) (steps : List Vstep) → 1 ≤ n → is_older c (steps_after n (suc c) change steps) ≡ false
not_older_after zero c change steps le = absurd (omega arith)
not_older_after (suc m) c (Add t) steps le = rw (lt-leb (suc c) c (omega arith)) refl
not_older_after (suc m) c (Replace t) steps le = rw (lt-leb (suc c) c (omega arith)) refl
not_older_after (suc m) c (Remove k) steps le = rw (lt-leb (suc c) c (omega arith)) refl

module _ (R : Vstep → Vstep → Type 0) where
  pub pairs_first : (s : Vstep) (steps : List Vstep) → AllPairs R steps → All (λ t. R s t) steps → AllPairs R (s ∷ steps)
  pairs_first s steps h g zero zero d lt le = absurd (omega arith)
  pairs_first s steps h g zero (suc j) d lt le = g j d (omega arith)
  pairs_first s steps h g (suc i) zero d lt le = absurd (omega arith)
  pairs_first s steps h g (suc i) (suc j) d lt le = h i j d (omega arith) (omega arith)

  pub pairs_take : (n : ℕ) (steps : List Vstep) → AllPairs R steps → AllPairs R (take n steps)
  pairs_take n steps h i j d lt le = elim (cases_lt n (length steps)) [
    | inl short ↦ let e : length (take n steps) ≡ n = length-take-le n steps (omega arith) in
        rw (get_or-take n steps i d (omega arith), get_or-take n steps j d (omega arith)) (h i j d lt (omega arith))
    | inr long ↦ subst (λ l. R (get_or l i d) (get_or l j d)) (sym (take_all n steps long)) (h i j d lt (subst (λ l. j < length l) (take_all n steps long) le))
  ]

all_first : (P : Vstep → Type 0) (s : Vstep) (steps : List Vstep) → P s → All P steps → All P (s ∷ steps)
all_first P s steps p h zero d lt = p
all_first P s steps p h (suc k) d lt = h k d (omega arith)

row_made : (vn : ℕ) (change : Change) → is_some (step_of vn change).row ≡ not (is_removed (step_of vn change).op)
row_made vn (Add t) = refl
row_made vn (Replace t) = refl
row_made vn (Remove k) = refl

pub slot_after : (n c phase : ℕ) (change : Change) (steps : List Vstep) → IsSlot n phase steps → IsBelow (suc c) steps → suc c ≤ (phase + 1) / 2 → IsSlot n phase (steps_after n (suc c) change steps)
slot_after n c phase change steps slot below le = record {
  falling = pairs_take (λ s older. older.vn < s.vn) n (step_of (suc c) change ∷ steps) (pairs_first (λ s older. older.vn < s.vn) (step_of (suc c) change) steps slot.falling (λ k d lt. let h : (get_or steps k d).vn < suc c = below k d lt in omega (arith, version_of (suc c) change)));
  rows = All-take (λ s. is_some s.row ≡ not (is_removed s.op)) n (step_of (suc c) change ∷ steps) (all_first (λ s. is_some s.row ≡ not (is_removed s.op)) (step_of (suc c) change) steps (row_made (suc c) change) slot.rows);
  kept = shorter n (step_of (suc c) change ∷ steps);
  within = All-take (λ s. s.vn ≤ (phase + 1) / 2) n (step_of (suc c) change ∷ steps) (all_first (λ s. s.vn ≤ (phase + 1) / 2) (step_of (suc c) change) steps (omega (arith, version_of (suc c) change)) slot.within);
}
  where
    shorter : (n : ℕ) (xs : List Vstep) → length (take n xs) ≤ n
    shorter n xs = elim (cases_lt n (length xs)) [
      | inl short ↦ let e : length (take n xs) ≡ n = length-take-le n xs (omega arith) in omega arith
      | inr long ↦ omega (arith, ap length (take_all n xs long))
    ]

-- at a version in use the slot shows what it showed before
pub earlier_stays : (n c v phase : ℕ) (change : Change) (steps : List Vstep) → 2 ≤ n → phase / 2 ≡ c → IsSlot n phase (steps_after n (suc c) change steps) → c - (n - 2) ≤ v → v ≤ c
    → visible n v (steps_after n (suc c) change steps) ≡ visible n v steps
earlier_stays n c v phase change steps two half slot low high = earlier_same n (suc c) v change steps (omega arith) (omega arith) (not_past n c v phase (steps_after n (suc c) change steps) two half slot low)

-- ---- what is seen

pub seen_cases : (s : Seen) → s ≢ seen_past → (s ≡ seen_nothing) ⊎ ((t : Codes) × (s ≡ seen_row t))
seen_cases (seen_row t) h = inr (t, refl)
seen_cases seen_nothing h = inl refl
seen_cases seen_past h = absurd (h refl)

pub nothing_seen : (s : Seen) → is_nothing s ≡ true → s ≡ seen_nothing
nothing_seen (seen_row t) e = absurd (cc)
nothing_seen seen_nothing e = refl
nothing_seen seen_past e = absurd (cc)

pub row_of_seen : (s : Seen) (t : Codes) → row_seen s ≡ Some t → s ≡ seen_row t
row_of_seen (seen_row u) t e = ap seen_row (let same : u ≡ t = cc in same)
row_of_seen seen_nothing t e = absurd (cc)
row_of_seen seen_past t e = absurd (cc)

pub same_seen : (s : Seen) (t u : Codes) → s ≡ seen_row t → s ≡ seen_row u → t ≡ u
same_seen s t u a b = let e : seen_row t ≡ seen_row u = sym a ∙ b in cc
