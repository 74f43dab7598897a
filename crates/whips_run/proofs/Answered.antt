-- The answer, where the script or the refusal is known, and how a call ends with it.
use Rattle.std.proofs.Common.{◌≡◌, ◌≢◌, ℕ, ◌<◌, List, length, take, Option, Ok, Err, sym, ap, subst, ◌∙◌, ◌⊎◌, ⊎_elim, arith}
use Rattle.std.specs.Io.KnownBytes.{Appends}
use Rattle.whips_facts.specs.Values.{IsValidScript}
use Rattle.whips_reading.specs.Places.{Refusal}
use Rattle.whips_script_reading.specs.Script.{NamedScript, script_of}
use Rattle.whips_headline_laws.proofs.Meets.{every_run}
use Rattle.whips_run.specs.Answer.{answer, answer_of, run_of_script, run_status, report_of, refusal_text, canonical_line, checked, checked_of}
use Rattle.whips_run.specs.Outcome.{MeetsHeadline}

pub script_answer : (bytes : List ℕ) (s : NamedScript) → script_of bytes ≡ Ok s → answer bytes ≡ (run_status (run_of_script s), report_of s)
unfolding answer
script_answer bytes s is = ap answer_of is

pub refusal_answer : (bytes : List ℕ) (r : Refusal) → script_of bytes ≡ Err r → answer bytes ≡ (3, refusal_text r)
unfolding answer
refusal_answer bytes r is = ap answer_of is

pub canonical_answer : (bytes : List ℕ) (s : NamedScript) → script_of bytes ≡ Ok s → checked bytes ≡ (0, canonical_line s)
unfolding checked
canonical_answer bytes s is = ap checked_of is

pub refusal_checked : (bytes : List ℕ) (r : Refusal) → script_of bytes ≡ Err r → checked bytes ≡ (3, refusal_text r)
unfolding checked
refusal_checked bytes r is = ap checked_of is

-- what holds of a status and a text holds of the answer that they are
module _ (answer : ℕ × List ℕ) (status : ℕ) (text : List ℕ) (is : answer ≡ (status, text)) (old new : Option (List ℕ)) where
  pub ends : (ended : ℕ) → (ended ≡ status) × Appends old new text → (ended ≡ answer.0) × Appends old new answer.1
  ends ended h = (h.0 ∙ sym (ap (λ a. a.0) is), (let P : List ℕ → Type 0 = λ t. Appends old new t in subst P (sym (ap (λ a. a.1) is)) h.1))

  pub stops : (n : ℕ) × Appends old new (take n text) → (n : ℕ) × Appends old new (take n answer.1)
  stops h = let P : List ℕ → Type 0 = λ t. Appends old new (take h.0 t) in (h.0, subst P (sym (ap (λ a. a.1) is)) h.1)

  pub fails : (Risen : Type 0) → (n : ℕ) × (n < length text) × Appends old new (take n text) × Risen → (n : ℕ) × (n < length answer.1) × Appends old new (take n answer.1) × Risen
  fails Risen h = let P : List ℕ → Type 0 = λ t. (n : ℕ) × (n < length t) × Appends old new (take n t) × Risen in subst P (sym (ap (λ a. a.1) is)) h

-- the report of a valid script meets the headline
pub meets : (bytes : List ℕ) (s : NamedScript) (old new : Option (List ℕ)) → script_of bytes ≡ Ok s → IsValidScript s.script → Appends old new (report_of s) → MeetsHeadline bytes old new
meets bytes s old new is valid written = record { named = s; is = is; written = written; headline = every_run s.script valid s.plan }

-- a status of a whole run is neither that of a fault nor that of want of memory
pub not_five : (status : ℕ) → (status ≡ 0) ⊎ (status ≡ 7) → status ≢ 5
not_five status h = λ e. ⊎_elim (λ z. absurd (omega (arith, z, e))) (λ s. absurd (omega (arith, s, e))) h

pub not_six : (status : ℕ) → (status ≡ 0) ⊎ (status ≡ 7) → status ≢ 6
not_six status h = λ e. ⊎_elim (λ z. absurd (omega (arith, z, e))) (λ s. absurd (omega (arith, s, e))) h
