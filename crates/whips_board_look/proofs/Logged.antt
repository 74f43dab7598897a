-- The loads in a log as they are made.
use Rattle.std.proofs.Common.{◌≡◌, ℕ, suc, ◌+◌, ◌<◌, List, [], ◌∷◌, ◌++◌, length, take, set, refl, sym, ap, ap₂, ◌∙◌, arith, append_assoc}
use Rattle.std.proofs.lemmas.List.{take_more_set, length-take}
use Rattle.whips_board.specs.declared.view.Entry.{Entry}
use Rattle.whips_board.specs.declared.view.Entry.TheVariants.{Loaded, Learnt}
use Rattle.whips_store.specs.Reads.{Log}
use Rattle.whips_slot_words.specs.Loads.{loads_of, words_at}

-- one load more
pub loads_push : (log : List Entry) (place word : ℕ) → loads_of (log ++ Loaded place word ∷ []) ≡ loads_of log ++ (place, word) ∷ []
loads_push [] place word = refl
loads_push (Loaded p w ∷ log) place word = ap (λ l. (p, w) ∷ l) (loads_push log place word)
loads_push (Learnt note ∷ log) place word = loads_push log place word

words_push : (place : ℕ → ℕ) (j word : ℕ) (words : List ℕ) → words_at place j (words ++ word ∷ []) ≡ words_at place j words ++ (place (j + length words), word) ∷ []
words_push place j word [] = let e : j + 0 ≡ j = omega arith in ap (λ k. (place k, word) ∷ []) (sym e)
words_push place j word (w ∷ words) =
    let e : suc j + length words ≡ j + suc (length words) = omega arith in
    ap (λ l. (place j, w) ∷ l) (words_push place (suc j) word words ∙ ap (λ k. words_at place (suc j) words ++ (place k, word) ∷ []) e)

-- places that are the same number by number
pub words_along : (place other : ℕ → ℕ) → ((k : ℕ) → place k ≡ other k) → (j : ℕ) (words : List ℕ) → words_at place j words ≡ words_at other j words
words_along place other same j [] = refl
words_along place other same j (w ∷ words) = ap₂ (λ k l. (k, w) ∷ l) (same j) (words_along place other same (suc j) words)

-- one word more is loaded
pub load_more : (place : ℕ → ℕ) (k at word : ℕ) (words : List ℕ) (start : Log) (log after : List Entry) → k < length words → at ≡ place k
    → loads_of log ≡ start ++ words_at place 0 (take k words) → after ≡ log ++ Loaded at word ∷ [] → loads_of after ≡ start ++ words_at place 0 (take (k + 1) (set words k word))
load_more place k at word words start log after lt here so_far step =
    let count : 0 + length (take k words) ≡ k = omega (arith, length-take {A = ℕ} k words, lt) in
    ap loads_of step ∙ loads_push log at word ∙ ap₂ (λ l p. l ++ (p, word) ∷ []) so_far here
    ∙ append_assoc start (words_at place 0 (take k words)) ((place k, word) ∷ [])
    ∙ ap (λ l. start ++ l) (ap (λ j. words_at place 0 (take k words) ++ (place j, word) ∷ []) (sym count) ∙ sym (words_push place 0 word (take k words)) ∙ ap (words_at place 0) (sym (take_more_set words k word lt)))
