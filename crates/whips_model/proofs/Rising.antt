-- The choices of tuples come in the order of their joined keys.
use Rattle.std.proofs.Common.{◌≡◌, ℕ, suc, Bool, true, false, cond, List, [], ◌∷◌, ◌++◌, length, map, refl, sym, ap, ◌∙◌, arith}
use Rattle.std.specs.List.{filter, flat_map, AllByRecursion}
use Rattle.std.specs.Ordering.{nat_cmp, ordering_then}
use Rattle.std.specs.declared.cmp.Ordering.TheVariants.{Less, Equal, Greater}
use Rattle.std.proofs.lemmas.Cmp.{nat_cmp_total, tied_itself}
use Rattle.whips_model.specs.Tuples.{Codes, codes_cmp, at_columns, IsBefore, IsKeyed}
use Rattle.whips_model.specs.Views.{ViewData, Choice, meets, out_row, choices}
use Rattle.whips_model.specs.Keys.{joined_key, AreKeyed, HasKeysAt, ValueIsKeyed}
use Rattle.whips_lists.proofs.Alls.{all_append}

-- lists of one length decide, where they differ
first_less : (a b c d : Codes) → length a ≡ length b → codes_cmp a b ≡ Less → codes_cmp (a ++ c) (b ++ d) ≡ Less
first_less [] [] c d e l = absurd (cc)
first_less [] (y ∷ b) c d e l = absurd (omega arith)
first_less (x ∷ a) [] c d e l = absurd (omega arith)
first_less (x ∷ a) (y ∷ b) c d e l = elim (nat_cmp x y) as (λ o. ordering_then o (codes_cmp a b) ≡ Less → ordering_then o (codes_cmp (a ++ c) (b ++ d)) ≡ Less) [
  | Less ↦ λ h. h
  | Equal ↦ λ h. first_less a b c d (omega arith) h
  | Greater ↦ λ h. h
] l

then_same : (a c d : Codes) → codes_cmp (a ++ c) (a ++ d) ≡ codes_cmp c d
then_same [] c d = refl
then_same (x ∷ a) c d = rw (tied_itself nat_cmp_total x) (then_same a c d)

module _ (keys : List (List ℕ)) where
  -- the key of one choice is below that of another
  abbrev pub Below : Choice → Choice → Type 0
  Below c d = codes_cmp (joined_key keys c) (joined_key keys d) ≡ Less

  abbrev pub Rises : List Choice → Type 0
  Rises [] = Unit {0}
  Rises (c ∷ cs) = AllByRecursion (Below c) cs × Rises cs

module _ {X : Type 0} (P : X → Type 0) where
  all_map : {Y : Type 0} (f : Y → X) (ys : List Y) → AllByRecursion (λ y. P (f y)) ys → AllByRecursion P (map f ys)
  all_map f [] h = tt
  all_map f (y ∷ ys) h = (h.0, all_map f ys h.1)

  all_every : ((x : X) → P x) → (xs : List X) → AllByRecursion P xs
  all_every h [] = tt
  all_every h (x ∷ xs) = (h x, all_every h xs)

  all_filter : (p : X → Bool) (xs : List X) → AllByRecursion P xs → AllByRecursion P (filter p xs)
  all_filter p [] h = tt
  all_filter p (x ∷ xs) h = elim (p x) as (λ b. AllByRecursion P (cond b (x ∷ filter p xs) (filter p xs))) [ true ↦ (h.0, all_filter p xs h.1) | false ↦ all_filter p xs h.1 ]

rises_append : (keys : List (List ℕ)) (cs ds : List Choice) → Rises keys cs → Rises keys ds → AllByRecursion (λ c. AllByRecursion (Below keys c) ds) cs → Rises keys (cs ++ ds)
rises_append keys [] ds h g b = g
rises_append keys (c ∷ cs) ds h g b = (all_append (Below keys c) cs ds h.0 b.0, rises_append keys cs ds h.1 g b.1)

-- the same tuple before each
rises_after : (k : List ℕ) (keys : List (List ℕ)) (t : Codes) (cs : List Choice) → Rises keys cs → Rises (k ∷ keys) (map (λ c. t ∷ c) cs)
rises_after k keys t [] h = tt
rises_after k keys t (c ∷ cs) h = (below cs h.0, rises_after k keys t cs h.1)
  where
    below : (ds : List Choice) → AllByRecursion (Below keys c) ds → AllByRecursion (Below (k ∷ keys) (t ∷ c)) (map (λ d. t ∷ d) ds)
    below [] g = tt
    below (d ∷ ds) g = (then_same (at_columns k t) (joined_key keys c) (joined_key keys d) ∙ g.0, below ds g.1)

width : (k : List ℕ) (t : Codes) → length (at_columns k t) ≡ length k
width [] t = refl
width (c ∷ k) t = ap suc (width k t)

-- a tuple with a lower key before a choice, and tuples with higher keys before any
below_later : (k : List ℕ) (keys : List (List ℕ)) (t : Codes) (c : Choice) (rows : List Codes) (cs : List Choice) → AllByRecursion (IsBefore k t) rows → AllByRecursion (Below (k ∷ keys) (t ∷ c)) (flat_map (λ u. map (λ d. u ∷ d) cs) rows)
below_later k keys t c [] cs h = tt
below_later k keys t c (u ∷ rows) cs h = all_append _ _ _ (all_map _ (λ d. u ∷ d) cs (all_every _ (λ d. first_less (at_columns k t) (at_columns k u) (joined_key keys c) (joined_key keys d) (width k t ∙ sym (width k u)) h.0) cs)) (below_later k keys t c rows cs h.1)

rises_rows : (k : List ℕ) (keys : List (List ℕ)) (rows : List Codes) (cs : List Choice) → IsKeyed k rows → Rises keys cs → Rises (k ∷ keys) (flat_map (λ t. map (λ c. t ∷ c) cs) rows)
rises_rows k keys [] cs h g = tt
rises_rows k keys (t ∷ rows) cs h g = rises_append (k ∷ keys) (map (λ c. t ∷ c) cs) _ (rises_after k keys t cs g) (rises_rows k keys rows cs h.1 g)
    (all_map _ (λ c. t ∷ c) cs (all_every _ (λ c. below_later k keys t c rows cs h.0) cs))

choices_rise : (keys : List (List ℕ)) (tables : List (List Codes)) → length tables ≡ length keys → AreKeyed keys tables → Rises keys (choices tables)
choices_rise [] [] e h = (tt, tt)
choices_rise [] (rows ∷ tables) e h = absurd (omega arith)
choices_rise (k ∷ keys) [] e h = absurd (omega arith)
choices_rise (k ∷ keys) (rows ∷ tables) e h = rises_rows k keys rows (choices tables) h.0 (choices_rise keys tables (omega arith) h.1)

rises_filter : (keys : List (List ℕ)) (p : Choice → Bool) (cs : List Choice) → Rises keys cs → Rises keys (filter p cs)
rises_filter keys p [] h = tt
rises_filter keys p (c ∷ cs) h = elim (p c) as (λ b. Rises keys (cond b (c ∷ filter p cs) (filter p cs))) [ true ↦ (all_filter (Below keys c) p cs h.0, rises_filter keys p cs h.1) | false ↦ rises_filter keys p cs h.1 ]

-- each choice has a tuple of each table
abbrev pub AreWhole : List (List ℕ) → List Choice → Type 0
AreWhole keys cs = AllByRecursion (λ c. length c ≡ length keys) cs

whole_rows : (k : List ℕ) (keys : List (List ℕ)) (rows : List Codes) (cs : List Choice) → AreWhole keys cs → AreWhole (k ∷ keys) (flat_map (λ t. map (λ c. t ∷ c) cs) rows)
whole_rows k keys [] cs h = tt
whole_rows k keys (t ∷ rows) cs h = all_append _ _ _ (one cs h) (whole_rows k keys rows cs h)
  where
    one : (cs : List Choice) → AreWhole keys cs → AreWhole (k ∷ keys) (map (λ c. t ∷ c) cs)
    one [] h = tt
    one (c ∷ cs) h = (ap suc h.0, one cs h.1)

choices_whole : (keys : List (List ℕ)) (tables : List (List Codes)) → length tables ≡ length keys → AreWhole keys (choices tables)
choices_whole [] [] e = (refl, tt)
choices_whole [] (rows ∷ tables) e = absurd (omega arith)
choices_whole (k ∷ keys) [] e = absurd (omega arith)
choices_whole (k ∷ keys) (rows ∷ tables) e = whole_rows k keys rows (choices tables) (choices_whole keys tables (omega arith))

module _ (view : ViewData) (keys : List (List ℕ)) (cols : List ℕ) (at : HasKeysAt view keys cols) where
  before_rows : (c : Choice) (cs : List Choice) → length c ≡ length keys → AreWhole keys cs → AllByRecursion (Below keys c) cs → AllByRecursion (IsBefore cols (out_row view c)) (map (out_row view) cs)
  before_rows c [] w ws h = tt
  before_rows c (d ∷ cs) w ws h = (rw (at c w, at d ws.0) h.0, before_rows c cs w ws.1 h.1)

  keyed_rows : (cs : List Choice) → AreWhole keys cs → Rises keys cs → IsKeyed cols (map (out_row view) cs)
  keyed_rows [] ws h = tt
  keyed_rows (c ∷ cs) ws h = (before_rows c cs ws.0 ws.1 h.0, keyed_rows cs ws.1 h.1)

pub value_keyed : ValueIsKeyed
value_keyed view keys cols tables e keyed at = keyed_rows view keys cols at (filter (meets view) (choices tables))
    (all_filter (λ c. length c ≡ length keys) (meets view) (choices tables) (choices_whole keys tables e))
    (rises_filter keys (meets view) (choices tables) (choices_rise keys tables e keyed))
