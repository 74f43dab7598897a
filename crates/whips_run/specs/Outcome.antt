-- How a call of the program ends.
use Rattle.std.specs.Prelude.{◌≡◌, ◌⊎◌, ℕ, ◌≤◌, List, [], length, Option, Some, None, codes, Ok}
use Rattle.std.specs.Io.KnownBytes.{Appends, Consumes, IsAtEnd}
use Rattle.whips_io.specs.Bytes.{ConsumesExactly}
use Rattle.whips_io.specs.Counts.{HasRisen}
use Rattle.whips_reports.specs.Reported.{reported}
use Rattle.whips_store.specs.Stores.{StoreState}
use Rattle.whips_contents.specs.Contents.{LoadedSource}
use Rattle.whips_script_reading.specs.Script.{NamedScript, script_of}
use Rattle.whips_script_writing.specs.Scripts.{canonical}
use Rattle.whips_world.specs.Runs.{EndsWith}
use Rattle.whips_headline_laws.specs.Headline.{Headline}
use Rattle.whips_gen.specs.Made.{made_script, made_plan}
use Rattle.whips_run.specs.declared.commands.Command.{Command}
use Rattle.whips_run.specs.declared.commands.Command.TheVariants.{Run, Check, Make}
use Rattle.whips_run.specs.Answer.{line, run_of_script, report_of, answer, canonical_line, checked}
use Rattle.whips_run.specs.Made.{made_run, summary}

-- How a call ends, but for a failed write and for want of memory: the words are no command, a script is made of two
-- numbers, the source failed, the input is too long, or the input is read to its end, and is these bytes, which are run
-- or checked.
pub data Outcome : Type 0 where
  usage : Outcome
  made : (start size : ℕ) → Outcome
  read_fault : Outcome
  too_long : Outcome
  whole : List ℕ → Outcome
  whole_checked : List ℕ → Outcome

-- The status with which the call ends.
abbrev pub status_of : Outcome → ℕ
status_of usage = 2
status_of (made start size) = 0
status_of read_fault = 4
status_of too_long = 8
status_of (whole bytes) = (answer bytes).0
status_of (whole_checked bytes) = (checked bytes).0

-- The text that the call writes.
abbrev pub text_of : Outcome → List ℕ
text_of usage = line (codes "usage: whips run, check or make START SIZE")
text_of (made start size) = summary start size
text_of read_fault = line (codes "read fault")
text_of too_long = line (codes "too long")
text_of (whole bytes) = (answer bytes).1
text_of (whole_checked bytes) = (checked bytes).1

-- The command reads its whole input.
abbrev pub ReadsInput : Option Command → Type 0
ReadsInput command = (command ≡ Some Run) ⊎ (command ≡ Some Check)

-- With this command, a call ends so where it took the known bytes of its source from `old` to `new`, and the source's
-- count of faults from `faults` to `faults'`.
abbrev pub IsOutcome : Option Command → Option (List ℕ) → Option (List ℕ) → ℕ → ℕ → Outcome → Type 0
IsOutcome command old new faults faults' usage = (command ≡ None) × Consumes old new []
IsOutcome command old new faults faults' (made start size) = (command ≡ Some (Make start size)) × Consumes old new []
IsOutcome command old new faults faults' read_fault = ReadsInput command × HasRisen faults faults'
IsOutcome command old new faults faults' too_long = ReadsInput command × ConsumesExactly 16777217 old new
IsOutcome command old new faults faults' (whole bytes) = (command ≡ Some Run) × (length bytes ≤ 16777216) × Consumes old new bytes × IsAtEnd new
IsOutcome command old new faults faults' (whole_checked bytes) = (command ≡ Some Check) × (length bytes ≤ 16777216) × Consumes old new bytes × IsAtEnd new

-- The bytes are a script, and its run left these sources and this store.
pub record HasLeft (bytes : List ℕ) (sources : List LoadedSource) (store : StoreState) : Type 0 where
  pub named : NamedScript
  pub is : script_of bytes ≡ Ok named
  pub ended : EndsWith named.script named.plan sources store

-- The bytes are a script, what was written is its report, and that report meets the headline.
pub record MeetsHeadline (bytes : List ℕ) (old new : Option (List ℕ)) : Type 0 where
  pub named : NamedScript
  pub is : script_of bytes ≡ Ok named
  pub written : Appends old new (report_of named)
  pub headline : Headline named.script (reported named.script (run_of_script named))

-- What was written is the summary of a made run, and the report of that run would meet the headline.
pub record MadeMeetsHeadline (start size : ℕ) (old new : Option (List ℕ)) : Type 0 where
  pub written : Appends old new (summary start size)
  pub headline : Headline (made_script start size) (reported (made_script start size) (made_run start size))

-- The bytes are a script; what was written is its canonical text with a line feed; and that text is the same script.
pub record WritesCanonical (bytes : List ℕ) (old new : Option (List ℕ)) : Type 0 where
  pub named : NamedScript
  pub is : script_of bytes ≡ Ok named
  pub written : Appends old new (canonical_line named)
  pub again : script_of (canonical named) ≡ Ok named

-- With this command, and with the known bytes of its source from `left` to `left'`, a call writes what meets the
-- headline; or the canonical text, where the command only checks a script.
abbrev pub DoneMeetsHeadline : Option Command → (left left' written written' : Option (List ℕ)) → Type 0
DoneMeetsHeadline None left left' written written' = ⊥
DoneMeetsHeadline (Some Run) left left' written written' = (bytes : List ℕ) × Consumes left left' bytes × IsAtEnd left' × MeetsHeadline bytes written written'
DoneMeetsHeadline (Some Check) left left' written written' = (bytes : List ℕ) × Consumes left left' bytes × IsAtEnd left' × WritesCanonical bytes written written'
DoneMeetsHeadline (Some (Make start size)) left left' written written' = MadeMeetsHeadline start size written written'

-- With this command, its run left these sources and this store.
abbrev pub IsLeftBy : Option Command → (left left' : Option (List ℕ)) → List LoadedSource → StoreState → Type 0
IsLeftBy None left left' sources store = ⊥
IsLeftBy (Some Run) left left' sources store = (bytes : List ℕ) × Consumes left left' bytes × HasLeft bytes sources store
IsLeftBy (Some Check) left left' sources store = ⊥
IsLeftBy (Some (Make start size)) left left' sources store = EndsWith (made_script start size) (made_plan start size) sources store

-- With this command and this status, a run of a script is done.
abbrev pub HasRun : Option Command → ℕ → Type 0
HasRun (Some Check) status = ⊥
HasRun _ status = (status ≡ 0) ⊎ (status ≡ 7)
