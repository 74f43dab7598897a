-- Histories that grow, and the logs that they explain.
use Rattle.std.proofs.Common.{◌≡◌, ℕ, zero, suc, ◌+◌, ◌-◌, ◌<◌, ◌≤◌, max, List, [], ◌∷◌, ◌++◌, length, take, set, get_or, map, refl, sym, ap, ◌∙◌, subst, arith, length-append, append_assoc}
use Rattle.std.specs.Prelude.{All, Contains, slice_index}
use Rattle.std.proofs.lemmas.List.{take-append-le, take_more, length-map}
use Rattle.std.proofs.Math.Seq.{take-length, take-append-add}
use Rattle.std.proofs.Math.ListN.{length-set, get_or-map}
use mathlib.Core.List.{IsPrefix}
use Rattle.whips_board.specs.declared.view.Entry.{Entry}
use Rattle.whips_board.specs.declared.view.Entry.TheVariants.{Loaded, Learnt}
use Rattle.whips_board.specs.History.{words_after, IsLawful, ExplainsFrom, Explains, IsWordAfterNote}

pub words_after-push : (words : List ℕ) (history : List (ℕ × ℕ)) (x : ℕ × ℕ) → words_after words (history ++ x ∷ []) ≡ set (words_after words history) x.0 x.1
words_after-push words [] x = refl
words_after-push words (y ∷ history) x = words_after-push (set words y.0 y.1) history x

pub length-words_after : (words : List ℕ) (history : List (ℕ × ℕ)) → length (words_after words history) ≡ length words
length-words_after words [] = refl
length-words_after words (x ∷ history) = length-words_after (set words x.0 x.1) history ∙ length-set words x.0 x.1

pub IsLawful-push : (allows : List ℕ → ℕ → ℕ → Type 0) (words : List ℕ) (history : List (ℕ × ℕ)) (x : ℕ × ℕ) → IsLawful allows words history → allows (words_after words history) x.0 x.1 → IsLawful allows words (history ++ x ∷ [])
IsLawful-push allows words [] x lawful allowed = (allowed, tt)
IsLawful-push allows words (y ∷ history) x lawful allowed = (lawful.0, IsLawful-push allows (set words y.0 y.1) history x lawful.1 allowed)

pub IsPrefix-push : (note history : List (ℕ × ℕ)) (x : ℕ × ℕ) → IsPrefix note history → IsPrefix note (history ++ x ∷ [])
IsPrefix-push note history x is = (is.0 ++ x ∷ [], sym (append_assoc note is.0 (x ∷ [])) ∙ ap (λ h. h ++ x ∷ []) is.1)

pub length-IsPrefix : (note history : List (ℕ × ℕ)) → IsPrefix note history → length note ≤ length history
length-IsPrefix note history is = omega (arith, length-append note is.0, ap length is.1)

-- a longer history explains what a shorter one does
pub ExplainsFrom-push : (first : List ℕ) (history : List (ℕ × ℕ)) (x : ℕ × ℕ) (seen : ℕ) (log : List Entry) → ExplainsFrom first history seen log → ExplainsFrom first (history ++ x ∷ []) seen log
ExplainsFrom-push first history x seen [] e = omega (arith, length-append history (x ∷ []), e)
ExplainsFrom-push first history x seen (Loaded i w ∷ log) e =
    (e.0, e.1, omega (arith, length-append history (x ∷ []), e.2), rw (take-append-le e.0 history (x ∷ []) e.2) e.3, ExplainsFrom-push first history x e.0 log e.4)
ExplainsFrom-push first history x seen (Learnt note ∷ log) e = (IsPrefix-push note history x e.0, ExplainsFrom-push first history x (max seen (length note)) log e.1)

-- a word that is loaded now is the one after the whole history
pub ExplainsFrom-load : (first : List ℕ) (history : List (ℕ × ℕ)) (i w seen : ℕ) (log : List Entry) → slice_index (words_after first history) i ≡ w → ExplainsFrom first history seen log → ExplainsFrom first history seen (log ++ Loaded i w ∷ [])
ExplainsFrom-load first history i w seen [] is e = (length history, e, omega arith, rw take-length is, omega arith)
ExplainsFrom-load first history i w seen (Loaded j v ∷ log) is e = (e.0, e.1, e.2, e.3, ExplainsFrom-load first history i w e.0 log is e.4)
ExplainsFrom-load first history i w seen (Learnt note ∷ log) is e = (e.0, ExplainsFrom-load first history i w (max seen (length note)) log is e.1)

-- a note of this history may be learnt
pub ExplainsFrom-learn : (first : List ℕ) (history note : List (ℕ × ℕ)) (seen : ℕ) (log : List Entry) → IsPrefix note history → ExplainsFrom first history seen log → ExplainsFrom first history seen (log ++ Learnt note ∷ [])
ExplainsFrom-learn first history note seen [] is e = (is, omega (arith, length-IsPrefix note history is, e))
ExplainsFrom-learn first history note seen (Loaded j v ∷ log) is e = (e.0, e.1, e.2, e.3, ExplainsFrom-learn first history note e.0 log is e.4)
ExplainsFrom-learn first history note seen (Learnt other ∷ log) is e = (e.0, ExplainsFrom-learn first history note (max seen (length other)) log is e.1)

pub All-Explains-push : (first : List ℕ) (history : List (ℕ × ℕ)) (x : ℕ × ℕ) (logs : List (List Entry)) → All (Explains first history) logs → All (Explains first (history ++ x ∷ [])) logs
All-Explains-push first history x logs all k d below = ExplainsFrom-push first history x 0 _ (all k d below)

-- ---- what a load after a note saw

IsPrefix-take : (note history : List (ℕ × ℕ)) (count : ℕ) → IsPrefix note history → length note ≤ count → IsPrefix note (take count history)
IsPrefix-take note history count is long =
    let more : ℕ = count - length note in
    let sum : length note + more ≡ count = omega arith in
    subst (λ n. IsPrefix note (take n history)) sum
    (take more is.0, subst (λ h. note ++ take more is.0 ≡ take (length note + more) h) is.1 (sym (take-append-add note is.0 more)))

IsLawful-take : (allows : List ℕ → ℕ → ℕ → Type 0) (words : List ℕ) (history : List (ℕ × ℕ)) (count : ℕ) → IsLawful allows words history → IsLawful allows words (take count history)
IsLawful-take allows words history zero lawful = tt
IsLawful-take allows words [] (suc count) lawful = tt
IsLawful-take allows words (x ∷ history) (suc count) lawful = (lawful.0, IsLawful-take allows (set words x.0 x.1) history count lawful.1)

-- the last load of a log saw at least what was seen before
last_load : (first : List ℕ) (history : List (ℕ × ℕ)) (i w seen : ℕ) (log : List Entry) → ExplainsFrom first history seen (log ++ Loaded i w ∷ [])
    → (count : ℕ) × (seen ≤ count) × (slice_index (words_after first (take count history)) i ≡ w)
last_load first history i w seen [] e = (e.0, e.1, e.3)
last_load first history i w seen (Loaded j v ∷ log) e =
    let r = last_load first history i w e.0 log e.4 in (r.0, omega (arith, e.1, r.1), r.2)
last_load first history i w seen (Learnt note ∷ log) e =
    let r = last_load first history i w (max seen (length note)) log e.1 in (r.0, omega (arith, r.1), r.2)

-- and at least a note that was learnt before
note_load : (first : List ℕ) (history note : List (ℕ × ℕ)) (i w seen : ℕ) (log : List Entry) (k : ℕ) → k < length log → get_or log k (Learnt note) ≡ Learnt note → ExplainsFrom first history seen (log ++ Loaded i w ∷ [])
    → IsPrefix note history × ((count : ℕ) × (length note ≤ count) × (slice_index (words_after first (take count history)) i ≡ w))
note_load first history note i w seen [] k below is e = absurd (omega arith)
note_load first history note i w seen (Loaded j v ∷ log) zero below is e = cc
note_load first history note i w seen (Learnt other ∷ log) zero below is e =
    let same : other ≡ note = cc in
    let r = last_load first history i w (max seen (length other)) log e.1 in
    (subst (λ n. IsPrefix n history) same e.0, (r.0, subst (λ (n : List (ℕ × ℕ)). length n ≤ r.0) same (omega (arith, r.1)), r.2))
note_load first history note i w seen (Loaded j v ∷ log) (suc k) below is e = note_load first history note i w e.0 log k (omega arith) is e.4
note_load first history note i w seen (Learnt other ∷ log) (suc k) below is e = note_load first history note i w (max seen (length other)) log k (omega arith) is e.1

-- a load is the word after some lawful history that begins with a note learnt before
pub load_after_note : (allows : List ℕ → ℕ → ℕ → Type 0) (first : List ℕ) (history note : List (ℕ × ℕ)) (i w : ℕ) (log : List Entry) → IsLawful allows first history → Explains first history (log ++ Loaded i w ∷ []) → Contains log (Learnt note)
    → IsWordAfterNote allows first note i w
load_after_note allows first history note i w log lawful e has =
    let r = note_load first history note i w 0 log has.0 has.1 has.2 e in
    (take r.1.0 history, IsPrefix-take note history r.1.0 r.0 r.1.1, IsLawful-take allows first history r.1.0 lawful, sym r.1.2)

-- ---- the words one by one

pub take-words : (words : List ℕ) (i n : ℕ) → i < length words → n ≡ slice_index words i → take (i + 1) words ≡ take i words ++ n ∷ []
take-words words i n below is = take_more words i 0 below ∙ ap (λ m. take i words ++ m ∷ []) (sym is)

pub All-of_map : {X Y : Type 0} (P : Y → Type 0) (f : X → Y) (xs : List X) → All P (map f xs) → All (λ x. P (f x)) xs
All-of_map P f xs all k d below = subst P (get_or-map f xs k d) (all k (f d) (rw length-map below))
