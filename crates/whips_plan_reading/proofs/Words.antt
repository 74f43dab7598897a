-- The words of a text, as they are split off at the first blank.
-- Theorem: where a text has no blank it is its one word, and else its words are what stands before the first blank, and the words of what stands behind.
-- Idea: std has both, the first of them for a list no element of which passes.
use Rattle.std.proofs.Common.{◌≡◌, ◌<◌, List, [], ◌∷◌, length, None, refl, sym, ap, ◌∙◌, arith}
use Rattle.std.specs.Prelude.{◌==◌}
use Rattle.std.specs.List.{position_or_len, before_first, after_first}
use Rattle.std.proofs.lemmas.List.Sums.{fails_before_first}
use Rattle.std.proofs.lemmas.List.Splits.{slice_split_first, slice_split_none, length-slice_split}
use Rattle.whips_reading.specs.Json.{Text}
use Rattle.whips_plan_reading.specs.Events.{Names, words_of, event_of}

-- no blank
pub one_word : (t : Text) → position_or_len (λ b. b == 32) t ≡ length t → words_of t ≡ t ∷ []
one_word t e = slice_split_none (λ b. b == 32) t (λ k d h.
    let before : k < position_or_len (λ b. b == 32) t = omega (arith, e) in fails_before_first (λ b. b == 32) t k d before)

-- the first word, and the others
pub first_word : (t word rest : Text) → word ≡ before_first (λ b. b == 32) t → rest ≡ after_first (λ b. b == 32) t → position_or_len (λ b. b == 32) t < length t → words_of t ≡ word ∷ words_of rest
first_word t word rest first others h = slice_split_first (λ b. b == 32) t 0 h ∙ ap (λ w. w ∷ words_of (after_first (λ b. b == 32) t)) (sym first) ∙ ap (λ r. word ∷ words_of r) (sym others)

-- four words and more are no event
of_four : (names : Names) (a b c : Text) (ws : List Text) → 0 < length ws → event_of names (a ∷ b ∷ c ∷ ws) ≡ None
of_four names a b c [] h = absurd (omega arith)
of_four names a b c (w ∷ ws) h = refl

pub too_many : (names : Names) (a b c t : Text) → event_of names (a ∷ b ∷ c ∷ words_of t) ≡ None
too_many names a b c t = of_four names a b c (words_of t) (omega (arith, length-slice_split (λ b. b == 32) t))
