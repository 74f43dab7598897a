-- As long as a session isn't opened anew, all that it reads is of one cut.
use Rattle.std.proofs.Common.{◌≡◌, ℕ, zero, suc, List, [], ◌∷◌, ◌++◌, Option, Some, None, cond, eqb, length, refl, sym, ap, ◌∙◌, arith, append_assoc}
use Rattle.std.specs.Prelude.{slice_get, slice_index_or}
use Rattle.std.specs.Option.{option_and_then, unwrap_or}
use Rattle.std.proofs.lemmas.Bool.{eqb-true, false_from_ne_true}
use Rattle.std.specs.List.{AllByRecursion}
use Rattle.std.proofs.lemmas.List.{length-map}
use Rattle.std.proofs.lemmas.List.Sums.{fold-append}
use Rattle.whips_runs.specs.Records.{RunRecord, version, skip, opened, more, read, expired, full, final, final_rows}
use Rattle.whips_facts.specs.Scripts.{Script, value_at, no_view}
use Rattle.whips_reports.specs.Reported.{Reported}
use Rattle.whips_lists.proofs.Options.{of_some_is}
use Rattle.whips_headline_laws.specs.Headline.{printed_cuts, version_after, version_of, records_of, EachAfter, ReadsItsCut, whole_cut, IsPrefix}
use Rattle.whips_headline_laws.specs.HeadlineLaws.{IsNotOpened, ReadsAt, SessionsReadOneCut}
use Rattle.whips_headline_laws.proofs.Meets.{index_front, records_append, printed_append}

-- a record that doesn't open the session leaves its version
same_version : (session : ℕ) (o : Option ℕ) (r : RunRecord) → ((v phase : ℕ) → r ≡ opened session v phase → ⊥) → version_after session o r ≡ o
same_version session o (version number cut counts) ne = refl
same_version session o (skip k e) ne = refl
same_version session o (opened s v phase) ne = ap (λ b. cond b (Some v) o) (false_from_ne_true (eqb s session) (λ t. ne v phase (ap (λ z. opened z v phase) (eqb-true s session t))))
same_version session o (more s x v phase slots) ne = refl
same_version session o (read s x v phase) ne = refl
same_version session o (expired s x v phase) ne = refl
same_version session o (full shortage) ne = refl
same_version session o (final counts) ne = refl
same_version session o (final_rows x) ne = refl

version_push : (session : ℕ) (before : List Reported) (line : Reported) → version_of session (records_of (before ++ line ∷ [])) ≡ version_after session (version_of session (records_of before)) line.entry
version_push session before line = ap (version_of session) (records_append before (line ∷ [])) ∙ fold-append (version_after session) None (records_of before) (line.entry ∷ [])

module _ (s : Script) (report : List Reported) (reads : EachAfter (ReadsItsCut s) report) (session : ℕ) (o : Option ℕ) where
  abbrev cut : List ℕ
  cut = slice_index_or (printed_cuts (records_of report)) (unwrap_or o 0) (whole_cut s)

  same_cut : (before after : List Reported) → report ≡ before ++ after → version_of session (records_of before) ≡ o → (c : List ℕ) → option_and_then (slice_get (printed_cuts (records_of before))) (version_of session (records_of before)) ≡ Some c → cut ≡ c
  same_cut before after e same c at =
      let v = of_some_is (version_of session (records_of before)) (slice_get (printed_cuts (records_of before))) c at in
      ap (λ z. slice_index_or (printed_cuts (records_of report)) (unwrap_or z 0) (whole_cut s)) (sym same ∙ v.1)
      ∙ (ap (λ z. slice_index_or z v.0 (whole_cut s)) (ap (λ z. printed_cuts (records_of z)) e ∙ (ap printed_cuts (records_append before after) ∙ printed_append (records_of before) (records_of after)))
      ∙ index_front (printed_cuts (records_of before)) (printed_cuts (records_of after)) v.0 c (whole_cut s) v.2)

  reads_at : (during before after : List Reported) → report ≡ before ++ (during ++ after) → version_of session (records_of before) ≡ o → IsNotOpened session during → ReadsAt s session cut during
  reads_at [] before after e same ne = tt
  reads_at (line ∷ during) before after e same ne = (
    λ x v phase is.
        let r = reads before (during ++ after) line e session x v phase is in
        r.4 ∙ (ap (λ z. value_at s r.0.view z) (sym (same_cut before (line ∷ (during ++ after)) e same r.1 r.3))
        ∙ ap (λ z. value_at s (unwrap_or (option_and_then (λ y. Some y.view) z) no_view) cut) (sym r.2)),
    reads_at during (before ++ line ∷ []) after (e ∙ sym (append_assoc before (line ∷ []) (during ++ after))) (version_push session before line ∙ (same_version session (version_of session (records_of before)) line.entry ne.0 ∙ same)) ne.1,
  )

index_or : {A : Type 0} (P : A → Type 0) (xs : List A) (i : ℕ) (d : A) → AllByRecursion P xs → P d → P (slice_index_or xs i d)
index_or P [] i d h u = u
index_or P (x ∷ xs) zero d h u = h.0
index_or P (x ∷ xs) (suc i) d h u = index_or P xs i d h.1 u

whole_prefix : (s : Script) → IsPrefix s (whole_cut s)
whole_prefix s = (length-map s.work (λ ts. length ts), λ y. omega arith)

pub one_cut : SessionsReadOneCut
one_cut s report h before during after session e ne =
    let o = version_of session (records_of before) in
    (cut s report h.reads session o, index_or (IsPrefix s) (printed_cuts (records_of report)) (unwrap_or o 0) (whole_cut s) h.prefixes (whole_prefix s), reads_at s report h.reads session o during before after e refl ne)
