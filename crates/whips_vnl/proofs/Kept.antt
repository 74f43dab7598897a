-- Which versions a record keeps, and what it shows after a change.
use Rattle.std.proofs.Common.{◌≡◌, ◌≢◌, ℕ, zero, suc, ◌+◌, ◌-◌, ◌/◌, ◌<◌, ◌≤◌, Bool, true, false, cond, leb, ltb, List, [], ◌∷◌, length, take, Option, Some, None, refl, sym, ap, subst, ◌∙◌, arith, ⊎_elim}
use Rattle.std.specs.List.{All, AllPairs}
use Rattle.std.proofs.Math.ListN.{get_or}
use Rattle.std.proofs.lemmas.List.{take_all, length-take-le}
use Rattle.whips_model.specs.Tuples.{Codes}
use Rattle.std.proofs.lemmas.Bool.{lt-ltb, leb-false, lt-leb, le-ltb, cases_lt}
use Rattle.whips_rel.specs.declared.update.Change.{Change}
use Rattle.whips_rel.specs.declared.update.Change.TheVariants.{Add, Replace, Remove}
use Rattle.whips_vnl.specs.Records.{seen_nothing, seen_past, seen_of_row, seen_by, visible, step_for, step_of, steps_after, IsBelow, LiveVersionsAreKept}
use Rattle.whips_vnl.specs.declared.record.Vstep.{Vstep}

-- ---- versions that aren't past

abbrev Falling : List Vstep → Type 0
Falling steps = AllPairs (λ s older. older.vn < s.vn) steps

falling_tail : (s : Vstep) (steps : List Vstep) → Falling (s ∷ steps) → Falling steps
falling_tail s steps h i j d lt le = h (suc i) (suc j) d (omega arith) (omega arith)

-- the first of falling versions above v is as far above v as there are versions
first_above : (v : ℕ) (s : Vstep) (steps : List Vstep) → Falling (s ∷ steps) → All (λ t. v < t.vn) (s ∷ steps) → v + length (s ∷ steps) ≤ s.vn
first_above v s [] falling above = let h : v < s.vn = above 0 s (omega arith) in omega arith
first_above v s (t ∷ steps) falling above =
    let more = first_above v t steps (falling_tail s (t ∷ steps) falling) (λ k d lt. above (suc k) d (omega arith)) in
    let next : t.vn < s.vn = falling 0 1 s (omega arith) (omega arith) in
    omega arith

none_for : (v : ℕ) (steps : List Vstep) → step_for v steps ≡ None → All (λ s. v < s.vn) steps
none_for v [] h = λ k d lt. absurd (omega arith)
none_for v (s ∷ steps) h = go (leb s.vn v) refl h (none_for v steps)
  where
    each : v < s.vn → All (λ s. v < s.vn) steps → (k : ℕ) (d : Vstep) → k < length (s ∷ steps) → v < (get_or (s ∷ steps) k d).vn
    each first rest zero d lt = first
    each first rest (suc k) d lt = rest k d (omega arith)

    go : (b : Bool) → leb s.vn v ≡ b → cond b (Some s) (step_for v steps) ≡ None → (step_for v steps ≡ None → All (λ s. v < s.vn) steps) → All (λ s. v < s.vn) (s ∷ steps)
    go true e h more = absurd (cc)
    go false e h more = λ k d lt. each (leb-false s.vn v e) (more h) k d lt

-- past is seen only where no step serves and n steps are kept
row_not_past : (o : Option Codes) → seen_of_row o ≢ seen_past
row_not_past None h = cc
row_not_past (Some t) h = cc

past_from : (n v : ℕ) (steps : List Vstep) → visible n v steps ≡ seen_past → (step_for v steps ≡ None) × (n ≤ length steps)
past_from n v steps h = go (step_for v steps) refl h
  where
    go : (o : Option Vstep) → step_for v steps ≡ o → seen_by n (length steps) o ≡ seen_past → (step_for v steps ≡ None) × (n ≤ length steps)
    go (Some s) e h = absurd (row_not_past s.row h)
    go None e h = (e, ⊎_elim (λ lt. absurd (short (lt-ltb (length steps) n lt))) (λ ge. ge) (cases_lt (length steps) n))
      where
        short : ltb (length steps) n ≡ true → ⊥
        short t = let bad : cond true seen_nothing seen_past ≡ seen_past = subst (λ b. cond b seen_nothing seen_past ≡ seen_past) t h in cc

pub live_kept : LiveVersionsAreKept
live_kept n v phase [] some falling within live past = let f = past_from n v [] past in absurd (omega arith)
live_kept n v phase (s ∷ steps) some falling within live past =
    let f = past_from n v (s ∷ steps) past in
    let far = first_above v s steps falling (none_for v (s ∷ steps) f.0) in
    let newest : s.vn ≤ (phase + 1) / 2 = within 0 s (omega arith) in
    live (omega arith)

-- ---- after a change

-- a step that serves among the newest m serves among all
served_by_front : (v m : ℕ) (steps : List Vstep) (t : Vstep) → step_for v (take m steps) ≡ Some t → step_for v steps ≡ Some t
served_by_front v zero steps t h = absurd (cc)
served_by_front v (suc m) [] t h = absurd (cc)
served_by_front v (suc m) (s ∷ steps) t h = go (leb s.vn v) h (served_by_front v m steps t)
  where
    go : (b : Bool) → cond b (Some s) (step_for v (take m steps)) ≡ Some t → (step_for v (take m steps) ≡ Some t → step_for v steps ≡ Some t) → cond b (Some s) (step_for v steps) ≡ Some t
    go true h more = h
    go false h more = more h

-- below its version the new step serves nobody
new_serves_later : (v : ℕ) (s : Vstep) (steps : List Vstep) → v < s.vn → step_for v (s ∷ steps) ≡ step_for v steps
new_serves_later v s steps lt = rw (lt-leb s.vn v lt) refl

seen_earlier : (n v : ℕ) (s : Vstep) (steps : List Vstep) → 1 ≤ n → v < s.vn → visible n v (take n (s ∷ steps)) ≢ seen_past → visible n v (take n (s ∷ steps)) ≡ visible n v steps
seen_earlier zero v s steps some lt kept = absurd (omega arith)
seen_earlier (suc m) v s steps some lt kept =
    let skip = new_serves_later v s (take m steps) lt in
    ap (seen_by (suc m) (length (s ∷ take m steps))) skip
    ∙ go (step_for v (take m steps)) refl (λ h. kept (ap (seen_by (suc m) (length (s ∷ take m steps))) skip ∙ h))
  where
    go : (o : Option Vstep) → step_for v (take m steps) ≡ o → seen_by (suc m) (length (s ∷ take m steps)) (step_for v (take m steps)) ≢ seen_past → seen_by (suc m) (length (s ∷ take m steps)) (step_for v (take m steps)) ≡ visible (suc m) v steps
    go (Some t) e kept = ap (seen_by (suc m) (length (s ∷ take m steps))) e ∙ sym (ap (seen_by (suc m) (length steps)) (served_by_front v m steps t e))
    go None e kept = ⊎_elim
        (λ (short : length (take m steps) < m).
        let whole : take m steps ≡ steps = all short in
        let few : length steps < suc m = omega (arith, ap length whole) in
        ap (seen_by (suc m) (length (s ∷ take m steps))) e
        ∙ ap (λ b. cond b seen_nothing seen_past) (lt-ltb (length (s ∷ take m steps)) (suc m) (omega arith) ∙ sym (lt-ltb (length steps) (suc m) few))
        ∙ sym (ap (seen_by (suc m) (length steps)) (sym (ap (step_for v) whole) ∙ e)))
        (λ (full : m ≤ length (take m steps)).
        absurd (kept (ap (seen_by (suc m) (length (s ∷ take m steps))) e ∙ ap (λ b. cond b seen_nothing seen_past) (le-ltb (length (s ∷ take m steps)) (suc m) (omega arith)))))
        (cases_lt (length (take m steps)) m)
      where
        all : length (take m steps) < m → take m steps ≡ steps
        all short = take_all m steps (⊎_elim (λ h. let long : length (take m steps) ≡ m = length-take-le m steps (omega arith) in absurd (omega arith)) (λ h. h) (cases_lt m (length steps)))

version_made : (vn : ℕ) (change : Change) → (step_of vn change).vn ≡ vn
version_made vn (Add t) = refl
version_made vn (Replace t) = refl
version_made vn (Remove key) = refl

pub earlier_same : (n vn v : ℕ) (change : Change) (steps : List Vstep) → 1 ≤ n → v < vn → visible n v (steps_after n vn change steps) ≢ seen_past → visible n v (steps_after n vn change steps) ≡ visible n v steps
earlier_same n vn v change steps some lt kept = seen_earlier n v (step_of vn change) steps some (omega (arith, version_made vn change)) kept

-- just below the new version nothing is past
before_kept : (n vn : ℕ) (s : Vstep) (steps : List Vstep) → 2 ≤ n → 1 ≤ vn → s.vn ≡ vn → IsBelow vn steps → visible n (vn - 1) (take n (s ∷ steps)) ≢ seen_past
before_kept zero vn s steps two one e below h = omega arith
before_kept (suc zero) vn s steps two one e below h = omega arith
before_kept (suc (suc m)) vn s [] two one e below h = let f = past_from (suc (suc m)) (vn - 1) (s ∷ []) h in omega arith
before_kept (suc (suc m)) vn s (t ∷ steps) two one e below h =
    let f = past_from (suc (suc m)) (vn - 1) (s ∷ t ∷ take m steps) h in
    let above : (vn - 1) < t.vn = none_for (vn - 1) (s ∷ t ∷ take m steps) f.0 1 s (omega arith) in
    let under : t.vn < vn = below 0 s (omega arith) in
    omega arith

pub before_same : (n vn : ℕ) (change : Change) (steps : List Vstep) → 2 ≤ n → 1 ≤ vn → IsBelow vn steps → visible n (vn - 1) (steps_after n vn change steps) ≡ visible n (vn - 1) steps
before_same n vn change steps two one below = earlier_same n vn (vn - 1) change steps (omega arith) (omega arith) (before_kept n vn (step_of vn change) steps two one (version_made vn change) below)

pub steps_joined : (n vn : ℕ) (change : Change) (now kept steps : List Vstep) (s : Vstep) → now ≡ take n (s ∷ kept) → s ≡ step_of vn change → kept ≡ steps → now ≡ steps_after n vn change steps
steps_joined n vn change now kept steps s whole made older = whole ∙ ap (λ t. take n (t ∷ kept)) made ∙ ap (λ ts. take n (step_of vn change ∷ ts)) older
