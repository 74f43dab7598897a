-- The entries of a row, and the colours that they stand for.
use Rattle.std.proofs.Common.{◌≡◌, ℕ, zero, suc, ◌+◌, ◌<◌, ◌≤◌, Bool, true, false, ◌||◌, List, [], ◌∷◌, ◌++◌, length, cond, eqb, refl, sym, ap, subst, ◌∙◌, arith}
use Rattle.std.specs.Prelude.{map}
use Rattle.std.specs.List.{list_any}
use Rattle.std.proofs.Math.ListN.{set, get_or, take, replicate}
use Rattle.std.proofs.lemmas.List.{map-set, take_more}
use Rattle.std.proofs.lemmas.Bool.{eq-eqb, eqb-true, or_left, or_right, false≢true}
use Rattle.std.proofs.lemmas.List.Folds.{list_any-append}
use Rattle.whips_lists.specs.Lists.{changed_at, places_from}
use Rattle.whips_flow.specs.Painted.{Colour, black, white, red, is_white, reddened_entry, has_number}
use Rattle.whips_paint.specs.Table.{new_entries}
use Rattle.whips_paint.specs.Entries.{entry_colour}
use Rattle.whips_paint.specs.declared.entry.Entry.{Entry}
use Rattle.whips_paint.specs.declared.entry.Entry.TheVariants.{Black, White, Red}

pub list_any-map : {A B : Type 0} (p : B → Bool) (f : A → B) (xs : List A) → list_any p (map f xs) ≡ list_any (λ x. p (f x)) xs
list_any-map p f [] = refl
list_any-map p f (x ∷ xs) = ap (λ b. p (f x) || b) (list_any-map p f xs)

-- ---- painting

-- an entry that isn't white stays as it was
not_white_stays : (j : ℕ) (e : Entry) → is_white (entry_colour e) ≡ false → entry_colour e ≡ reddened_entry j (entry_colour e)
not_white_stays j Black h = refl
not_white_stays j White h = absurd (false≢true (sym h))
not_white_stays j (Red k) h = refl

white_reddens : (j : ℕ) (e : Entry) → is_white (entry_colour e) ≡ true → red j ≡ reddened_entry j (entry_colour e)
white_reddens j Black h = absurd (false≢true h)
white_reddens j White h = refl
white_reddens j (Red k) h = absurd (false≢true h)

pub reddened_stays : (j i : ℕ) (xs : List Entry) (d : Entry) → is_white (entry_colour (get_or xs i d)) ≡ false → map entry_colour xs ≡ changed_at i (reddened_entry j) (map entry_colour xs)
reddened_stays j i [] d n = refl
reddened_stays j zero (x ∷ xs) d n = ap (λ c. c ∷ map entry_colour xs) (not_white_stays j x n)
reddened_stays j (suc i) (x ∷ xs) d n = ap (λ cs. entry_colour x ∷ cs) (reddened_stays j i xs d n)

pub reddened_past : (j i : ℕ) (xs : List Entry) → length xs ≤ i → map entry_colour xs ≡ changed_at i (reddened_entry j) (map entry_colour xs)
reddened_past j i [] h = refl
reddened_past j zero (x ∷ xs) h = absurd (omega arith)
reddened_past j (suc i) (x ∷ xs) h = ap (λ cs. entry_colour x ∷ cs) (reddened_past j i xs (omega arith))

pub reddened_set : (j i : ℕ) (xs : List Entry) (d : Entry) → i < length xs → is_white (entry_colour (get_or xs i d)) ≡ true → map entry_colour (set xs i (Red j)) ≡ changed_at i (reddened_entry j) (map entry_colour xs)
reddened_set j i [] d below w = absurd (omega arith)
reddened_set j zero (x ∷ xs) d below w = ap (λ c. c ∷ map entry_colour xs) (white_reddens j x w)
reddened_set j (suc i) (x ∷ xs) d below w = ap (λ cs. entry_colour x ∷ cs) (reddened_set j i xs d (omega arith) w)

-- ---- a new row

pub new_entries_none : (n : ℕ) → map entry_colour (replicate n Black) ≡ new_entries n []
new_entries_none n = go 0 n
  where
    go : (k n : ℕ) → map entry_colour (replicate n Black) ≡ map (λ x. cond (has_number [] x) white black) (places_from k n)
    go k zero = refl
    go k (suc n) = ap (λ cs. black ∷ cs) (go (suc k) n)

abbrev pub colour_at : List ℕ → ℕ → Colour
colour_at ks x = cond (has_number ks x) white black

has_push : (ks : List ℕ) (z x : ℕ) → has_number (ks ++ z ∷ []) x ≡ (has_number ks x || (eqb z x || false))
has_push ks z x = list_any-append (λ m. eqb m x) ks (z ∷ [])

push_here : (ks : List ℕ) (z : ℕ) → white ≡ colour_at (ks ++ z ∷ []) z
push_here ks z = rw (has_push ks z z, or_right (has_number ks z) (eqb z z || false) (or_left (eqb z z) false (eq-eqb z z refl))) refl

push_else : (ks : List ℕ) (z x : ℕ) → (z ≡ x → ⊥) → colour_at ks x ≡ colour_at (ks ++ z ∷ []) x
push_else ks z x h = rw (has_push ks z x) (go (eqb z x) refl (has_number ks x))
  where
    go : (b : Bool) → eqb z x ≡ b → (a : Bool) → cond a white black ≡ cond (a || (eqb z x || false)) white black
    go true e a = absurd (h (eqb-true z x e))
    go false e true = refl
    go false e false = rw e refl

after_stays : (ks : List ℕ) (z k n : ℕ) → z < k → map (colour_at ks) (places_from k n) ≡ map (colour_at (ks ++ z ∷ [])) (places_from k n)
after_stays ks z k zero h = refl
after_stays ks z k (suc n) h = rw (push_else ks z k (λ e. absurd (omega arith)), after_stays ks z (suc k) n (omega arith)) refl

pub new_entries_set : (ks : List ℕ) (z k n i : ℕ) → z ≡ k + i → i < n → set (map (colour_at ks) (places_from k n)) i white ≡ map (colour_at (ks ++ z ∷ [])) (places_from k n)
new_entries_set ks z k zero i e h = absurd (omega arith)
new_entries_set ks z k (suc n) zero e h = let same : z ≡ k = omega arith in subst (λ y. white ∷ map (colour_at ks) (places_from (suc k) n) ≡ colour_at (ks ++ z ∷ []) y ∷ map (colour_at (ks ++ z ∷ [])) (places_from (suc k) n)) same (rw (← push_here ks z, ← after_stays ks z (suc k) n (omega arith)) refl)
new_entries_set ks z k (suc n) (suc i) e h = rw (push_else ks z k (λ q. absurd (omega arith))) (ap (λ cs. colour_at (ks ++ z ∷ []) k ∷ cs) (new_entries_set ks z (suc k) n i (omega arith) (omega arith)))

-- one concerned view more
pub new_entries_more : (es : List Entry) (n : ℕ) (ks : List ℕ) (i : ℕ) → map entry_colour es ≡ new_entries n (take i ks) → i < length ks → get_or ks i 0 < n → map entry_colour (set es (get_or ks i 0) White) ≡ new_entries n (take (i + 1) ks)
new_entries_more es n ks i h below within =
    map-set entry_colour es (get_or ks i 0) White
    ∙ ap (λ cs. set cs (get_or ks i 0) white) h
    ∙ new_entries_set (take i ks) (get_or ks i 0) 0 n (get_or ks i 0) (omega arith) within
    ∙ ap (new_entries n) (sym (take_more ks i 0 below))
