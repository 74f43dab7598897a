-- The version of a session is one whose cut was printed before.
use Rattle.std.proofs.Common.{◌≡◌, ℕ, ◌<◌, true, false, List, [], ◌∷◌, ◌++◌, length, Option, Some, cond, eqb, refl, sym, ap, subst, ◌∙◌, arith, append_assoc}
use Rattle.std.proofs.lemmas.List.{append-nil, length-append}
use Rattle.whips_runs.specs.Records.{RunRecord, version, skip, opened, more, read, expired, full, final, final_rows}
use Rattle.whips_lists.proofs.Options.{some_same}
use Rattle.whips_headline_laws.specs.Headline.{cut_on, printed_cuts, version_after, version_of, records_of, EachAfter, IsNumbered}
use Rattle.whips_headline_laws.specs.HeadlineLaws.{SessionsHaveCuts}
use Rattle.whips_headline_laws.proofs.Told.{printed_push, version_push}

module _ (session : ℕ) where
  abbrev HasCut : List RunRecord → Type 0
  HasCut before = (v : ℕ) → version_of session before ≡ Some v → v < length (printed_cuts before)

  -- the session opens at the last version, or has the version that it had
  one_more : (n v : ℕ) (o : Option ℕ) (r : RunRecord) (before : List RunRecord) → n ≡ length (printed_cuts before) → IsNumbered before r → ((u : ℕ) → o ≡ Some u → u < n) → version_after session o r ≡ Some v → v < n
  one_more n v o (version number cut counts) before e h g q = g v q
  one_more n v o (skip k event) before e h g q = g v q
  one_more n v o (opened s u phase) before e h g q = elim (eqb s session) as (λ b. cond b (Some u) o ≡ Some v → v < n) [
    | true ↦ λ k. omega (arith, some_same u v k, h.0, h.1, e)
    | false ↦ λ k. g v k
  ] q
  one_more n v o (more s x u phase slots) before e h g q = g v q
  one_more n v o (read s x u phase) before e h g q = g v q
  one_more n v o (expired s x u phase) before e h g q = g v q
  one_more n v o (full shortage) before e h g q = g v q
  one_more n v o (final counts) before e h g q = g v q
  one_more n v o (final_rows x) before e h g q = g v q

  along : (records : List RunRecord) → EachAfter IsNumbered records → (rest before after : List RunRecord) → records ≡ before ++ (rest ++ after) → HasCut before → HasCut (before ++ rest)
  along records h [] before after e g = subst HasCut (sym (append-nil before)) g
  along records h (r ∷ rest) before after e g =
      let step : HasCut (before ++ r ∷ []) = λ v q. omega (
        arith,
        one_more (length (printed_cuts before)) v (version_of session before) r before refl (h before (rest ++ after) r e) g (sym (version_push session before r) ∙ q),
        ap length (printed_push before r),
        length-append (printed_cuts before) (cut_on r),
      ) in
      subst HasCut (append_assoc before (r ∷ []) rest) (along records h rest (before ++ r ∷ []) after (e ∙ sym (append_assoc before (r ∷ []) (rest ++ after))) step)

pub have_cuts : SessionsHaveCuts
have_cuts s report h before after session v e q = along session (records_of report) h.numbers before [] after e (λ u k. absurd (cc)) v q
