-- What a sink of lines was told, as what its output has taken of the report.
use Rattle.std.proofs.Common.{◌≡◌, ℕ, ◌<◌, ◌≤◌, Bool, List, length, length-append, take, Result, Ok, Err, refl, sym, ap, subst, ◌∙◌, arith}
use Rattle.std.specs.Prelude.{IfOk, IfErr, OnOk}
use Rattle.std.specs.Result.{IsErrAnd}
use Rattle.std.proofs.KnownBytes.{Appends-nil}
use Rattle.whips_states.specs.States.{Updates}
use Rattle.whips_setup.specs.Setups.{SetupData}
use Rattle.whips_relation_reading.specs.Relations.{RelationForm}
use Rattle.whips_script_reading.specs.Script.{NamedScript, named_script}
use Rattle.whips_run.specs.Answer.{run_of_script, report_of}
use Rattle.std.specs.Io.KnownBytes.{Appends}
use Rattle.std.proofs.lemmas.List.{take-append-le, take_all}
use Rattle.whips_io.specs.Counts.{HasRisen}
use Rattle.whips_facts.specs.Scripts.{Script, Labels}
use Rattle.whips_setup.specs.declared.plan.Plan.{Plan}
use Rattle.whips_reports.specs.Reported.{Reported, reported, run_of}
use Rattle.whips_reports.specs.Lines.{report}
use Rattle.whips_report.specs.declared.sink.RecordErr.{RecordErr}
use Rattle.whips_report.specs.declared.sink.RecordErr.TheVariants.{NoMemory, Failed}
use Rattle.whips_report.specs.Told.{Output, IsWritten, IsPartWritten, records_text}
use Rattle.whips_report.specs.Laws.{records_join}
use Rattle.whips_world.specs.Runs.{IsFirstPart, scheduled}
use Rattle.whips_run.specs.Written.{fullness, HasWritten}

module _ (s : Script) (l : Labels) (plan : Plan) (old new : Output) where
  abbrev lines : List Reported
  lines = reported s (run_of s plan)

  pub whole_written : IsWritten l s.setup lines old new → Appends old.written new.written (report s l plan)
  whole_written h = h.text s refl

  -- a first part of the text of a report's first records is one of the report
  front : (n : ℕ) (part : List Reported) → IsFirstPart part lines → n ≤ length (records_text s l part) → take n (report s l plan) ≡ take n (records_text s l part)
  front n part p le = ap (take n) (ap (records_text s l) p.1 ∙ records_join s l part p.0) ∙ take-append-le n (records_text s l part) (records_text s l p.0) le

  long : (part : List Reported) → IsFirstPart part lines → length (records_text s l part) ≤ length (report s l plan)
  long part p = omega (arith, ap length (ap (records_text s l) p.1 ∙ records_join s l part p.0), length-append (records_text s l part) (records_text s l p.0))

  pub part_told : (part : List Reported) → IsFirstPart part lines → IsWritten l s.setup part old new → (n : ℕ) × Appends old.written new.written (take n (report s l plan))
  part_told part p h =
      let n = length (records_text s l part) in
      (n, subst (Appends old.written new.written) (sym (front n part p (omega arith) ∙ take_all n (records_text s l part) (omega arith))) (h.text s refl))

  pub part_failed : (part : List Reported) → IsFirstPart part lines → IsPartWritten l s.setup part old new
      → (n : ℕ) × (n < length (report s l plan)) × Appends old.written new.written (take n (report s l plan)) × HasRisen old.faults new.faults
  part_failed part p h =
      let t = h.part s refl in
      (t.0, omega (arith, t.1, long part p), subst (Appends old.written new.written) (sym (front t.0 part p (omega (arith, t.1)))) t.2, h.risen)

-- by how the call ended
pub by_end : {A Same Q R : Type 0} {P : A → Type 0} (f : A → Bool) (text : List ℕ) (full : Bool) (old new : Output) (r : Result A RecordErr) → IfOk r P → IfErr r (λ e. e ≡ NoMemory → Q) → IfErr r (λ e. e ≡ Failed → R)
    → ((a : A) → P a → Same × (f a ≡ full) × Appends old.written new.written text)
    → (Q → Same × ((n : ℕ) × Appends old.written new.written (take n text)))
    → (R → Same × ((n : ℕ) × (n < length text) × Appends old.written new.written (take n text) × HasRisen old.faults new.faults))
    → Same × HasWritten text full (fullness f r) old new
by_end f text full old new (Ok a) p q r here g h = let t = here a p in (t.0, (t.1, t.2))
by_end f text full old new (Err NoMemory) p q r here g h = g (q refl)
by_end f text full old new (Err Failed) p q r here g h = h (r refl)

-- where there was no memory before the run began
pub want_memory : {A : Type 0} (f : A → Bool) (text : List ℕ) (full : Bool) (r : Result A RecordErr) (old : Output) → IsErrAnd r (λ e. e ≡ NoMemory) → HasWritten text full (fullness f r) old old
want_memory f text full (Ok a) old h = absurd h
want_memory f text full (Err e) old h = subst (λ e. HasWritten text full (Err e) old old) (sym h) (0, Appends-nil old.written)

-- what is written of a setup and a workload is written of the script that they were taken from
pub named_written : (n : NamedScript) (setup : SetupData) (work : List (List Updates)) (labels l : Labels) (relations : List RelationForm) (plan given : Plan) (count : ℕ) (r : Result Bool RecordErr) (old new : Output) → n ≡ named_script setup work labels relations plan
    → l ≡ labels → given ≡ plan → count ≡ length labels.sessions
    → HasWritten (report (scheduled setup work count) l given) (run_of (scheduled setup work count) given).is_full r old new → HasWritten (report_of n) (run_of_script n).is_full r old new
named_written n setup work labels l relations plan given count r old new named is same counted h =
    subst (λ (z : NamedScript). HasWritten (report_of z) (run_of_script z).is_full r old new) (sym named)
    (subst (λ (z : Labels). HasWritten (report (scheduled setup work (length labels.sessions)) z plan) (run_of (scheduled setup work (length labels.sessions)) plan).is_full r old new) is
    (subst (λ plan. HasWritten (report (scheduled setup work (length labels.sessions)) l plan) (run_of (scheduled setup work (length labels.sessions)) plan).is_full r old new) same
    (subst (λ n. HasWritten (report (scheduled setup work n) l given) (run_of (scheduled setup work n) given).is_full r old new) counted h)))

pub on_ok : {A E P : Type 0} (r : Result A E) → P → OnOk r P
on_ok (Ok a) p = p
on_ok (Err e) p = tt

pub if_is_ok : {A E : Type 0} (r : Result A E) {P Q : A → Type 0} → IfOk r P → ((a : A) → P a → Q a) → IfOk r Q
if_is_ok (Ok a) h f = f a h
if_is_ok (Err e) h f = tt
