-- Words behind blanks.
use Rattle.std.proofs.Common.{◌≡◌, ℕ, ◌+◌, ◌<◌, min, List, [], ◌∷◌, ◌++◌, length, take, map, get_or, refl, ap, sym, ◌∙◌, append_assoc, append-nil, codes}
use Rattle.std.proofs.lemmas.Grind.{flat_map-append}
use Rattle.std.proofs.lemmas.List.{map-append}
use Rattle.std.specs.Prelude.{decimal}
use Rattle.std.specs.List.{zip}
use Rattle.whips_facts.specs.Scripts.{Bytes}
use Rattle.whips_reports.specs.Lines.{words, counts_words}
use Rattle.whips_report.specs.Texts.{spaced}
use Rattle.whips_report.proofs.Pairs.{pairs_more, pairs_all}

-- words are the first one and the others behind blanks
pub words_spaced : (w : Bytes) (ws : List Bytes) → words (w ∷ ws) ≡ w ++ spaced ws
words_spaced w [] = sym (append-nil w)
words_spaced w (v ∷ ws) = ap (λ l. w ++ 32 ∷ l) (words_spaced v ws)

-- what stands before the first word stands before all of them
pub words_behind : (before w : Bytes) (ws : List Bytes) → before ++ words (w ∷ ws) ≡ (before ++ w) ++ spaced ws
words_behind before w ws = ap (λ l. before ++ l) (words_spaced w ws) ∙ sym (append_assoc before w (spaced ws))

pub spaced_join : (ws more : List Bytes) → spaced (ws ++ more) ≡ spaced ws ++ spaced more
spaced_join ws more = flat_map-append (λ w. 32 ∷ w) ws more

counts_are_pairs : (names : List Bytes) (counts : List ℕ) → counts_words names counts ≡ map (λ p. p.0 ++ 61 ∷ decimal p.1) (zip names counts)
counts_are_pairs [] counts = refl
counts_are_pairs (n ∷ names) [] = refl
counts_are_pairs (n ∷ names) (c ∷ counts) = ap (λ l. (n ++ 61 ∷ decimal c) ∷ l) (counts_are_pairs names counts)

-- one name more with its count
pub counts_more : (names : List Bytes) (counts : List ℕ) (i n : ℕ) (name : Bytes) (count : ℕ) (start before after : Bytes) → n ≡ i + 1 → (i < length names) × (i < length counts) × ((d : Bytes) → name ≡ get_or names i d) × ((e : ℕ) → count ≡ get_or counts i e)
    → before ≡ start ++ spaced (counts_words (take i names) (take i counts)) → after ≡ before ++ 32 ∷ (name ++ 61 ∷ decimal count) → after ≡ start ++ spaced (counts_words (take n names) (take n counts))
counts_more names counts i n name count start before after next turn so_far step =
    let word = name ++ 61 ∷ decimal count in
    let pairs : zip (take n names) (take n counts) ≡ zip (take i names) (take i counts) ++ (name, count) ∷ [] = rw (turn.2 name, turn.3 count) (pairs_more names counts i n name count next turn.0 turn.1) in
    let more : counts_words (take n names) (take n counts) ≡ counts_words (take i names) (take i counts) ++ word ∷ [] =
    rw (counts_are_pairs (take n names) (take n counts), counts_are_pairs (take i names) (take i counts), pairs) (map-append (λ p. p.0 ++ 61 ∷ decimal p.1) _ _) in
    let words_so_far = counts_words (take i names) (take i counts) in
    rw (step, so_far, more, spaced_join) (append_assoc start (spaced words_so_far) (32 ∷ word) ∙ ap (λ l. start ++ (spaced words_so_far ++ l)) (sym (append-nil (32 ∷ word))))

pub counts_all : (names : List Bytes) (counts : List ℕ) (n : ℕ) → n ≡ min (length names) (length counts) → counts_words (take n names) (take n counts) ≡ counts_words names counts
counts_all names counts n end = rw (counts_are_pairs (take n names) (take n counts), pairs_all names counts n end) (sym (counts_are_pairs names counts))

-- a version's words, its counts behind blanks
pub version_words : (before n : Bytes) (cut rows : List Bytes) → before ++ words (codes "version" ∷ n ∷ codes "cut" ∷ (cut ++ codes "rows" ∷ rows)) ≡ (((before ++ (codes "version " ++ (n ++ codes " cut"))) ++ spaced cut) ++ codes " rows") ++ spaced rows
version_words before n cut rows =
    let all : List Bytes = n ∷ codes "cut" ∷ (cut ++ codes "rows" ∷ rows) in
    let parts : spaced all ≡ (32 ∷ n) ++ (codes " cut" ++ (spaced cut ++ (codes " rows" ++ spaced rows))) = ap (λ l. (32 ∷ n) ++ (codes " cut" ++ l)) (spaced_join cut (codes "rows" ∷ rows)) in
    let whole : words (codes "version" ∷ all) ≡ codes "version" ++ ((32 ∷ n) ++ (codes " cut" ++ (spaced cut ++ (codes " rows" ++ spaced rows)))) = words_spaced (codes "version") all ∙ ap (λ l. codes "version" ++ l) parts in
    rw whole (simp append_assoc)
