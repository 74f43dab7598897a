-- The lines of a summary, as they are put behind one another.
use Rattle.std.proofs.Common.{◌≡◌, ℕ, List, [], ◌∷◌, ◌++◌, append_assoc, append-nil, sym, ap, ◌∙◌, codes}
use Rattle.std.specs.Prelude.{decimal}
use Rattle.whips_facts.specs.Scripts.{Bytes, Labels}
use Rattle.whips_reports.specs.Lines.{words, counts_words, text_of}
use Rattle.whips_reports.specs.Summary.{Counts, counted_lines}
use Rattle.whips_report.specs.Texts.{spaced}
use Rattle.whips_report.proofs.Spaced.{words_spaced}

pub updates_words : (before size versions : Bytes) (rows : List Bytes) → before ++ words (codes "updates" ∷ size ∷ codes "versions" ∷ versions ∷ codes "rows" ∷ rows)
    ≡ (before ++ (codes "updates " ++ (size ++ (codes " versions " ++ (versions ++ codes " rows"))))) ++ spaced rows
updates_words before size versions rows =
    let all : List Bytes = size ∷ codes "versions" ∷ versions ∷ codes "rows" ∷ rows in
    rw (words_spaced (codes "updates") all) (simp append_assoc)

lines_joined : (before first second third last : Bytes) → before ++ text_of (first ∷ second ∷ third ∷ (codes "final" ++ last) ∷ [])
    ≡ ((((((before ++ (first ++ 10 ∷ [])) ++ second) ++ 10 ∷ []) ++ third) ++ (10 ∷ codes "final")) ++ last) ++ 10 ∷ []
lines_joined before first second third last = simp (append_assoc, append-nil)

pub summary_text : (before : Bytes) (start size : ℕ) (l : Labels) (c : Counts) → before ++ text_of (counted_lines start size l c)
    ≡ ((((((before ++ (codes "make " ++ (decimal start ++ (32 ∷ (decimal size ++ 10 ∷ [])))))
    ++ words (codes "updates" ∷ decimal size ∷ codes "versions" ∷ decimal c.versions ∷ codes "rows" ∷ counts_words l.views c.rows)) ++ 10 ∷ [])
    ++ words (codes "reads" ∷ decimal c.reads ∷ codes "more" ∷ decimal c.more ∷ codes "expired" ∷ decimal c.expired ∷ [])) ++ (10 ∷ codes "final"))
    ++ spaced (counts_words l.sources c.transactions)) ++ 10 ∷ []
summary_text before start size l c =
    let second = words (codes "updates" ∷ decimal size ∷ codes "versions" ∷ decimal c.versions ∷ codes "rows" ∷ counts_words l.views c.rows) in
    let third = words (codes "reads" ∷ decimal c.reads ∷ codes "more" ∷ decimal c.more ∷ codes "expired" ∷ decimal c.expired ∷ []) in
    let last = spaced (counts_words l.sources c.transactions) in
    let made = words (codes "make" ∷ decimal start ∷ decimal size ∷ []) in
    let first : made ++ 10 ∷ [] ≡ codes "make " ++ (decimal start ++ (32 ∷ (decimal size ++ 10 ∷ []))) = simp append_assoc in
    ap (λ line. before ++ text_of (made ∷ second ∷ third ∷ line ∷ [])) (words_spaced (codes "final") (counts_words l.sources c.transactions))
    ∙ lines_joined before made second third last
    ∙ ap (λ t. ((((((before ++ t) ++ second) ++ 10 ∷ []) ++ third) ++ (10 ∷ codes "final")) ++ last) ++ 10 ∷ []) first
