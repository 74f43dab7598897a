-- What a sink of records was told.
use Rattle.std.specs.Prelude.{◌≡◌, ℕ, ◌≤◌, ◌<◌, List, ◌++◌, length, take, Option}
use Rattle.std.specs.List.{flat_map}
use Rattle.std.specs.Io.KnownBytes.{Appends}
use Rattle.whips_setup.specs.Setups.{SetupData}
use Rattle.whips_facts.specs.Scripts.{Script, Bytes, Labels}
use Rattle.whips_reports.specs.Reported.{Reported}
use Rattle.whips_reports.specs.Lines.{record_lines, text_of}
use Rattle.whips_io.specs.Counts.{HasRisen}

-- what holds of a sink before some records, of it after them, and of these
abbrev pub Telling : Type 0 → Type 1
Telling A = A → A → List Reported → Type 0

-- what is told in two parts is told
abbrev pub TellsOn : {A : Type 0} → Telling A → Type 0
TellsOn {A} told = (k l m : A) (rs ss : List Reported) → told k l rs → told l m ss → told k m (rs ++ ss)

-- what fails after a part that was told fails
abbrev pub FailsLater : {A : Type 0} → Telling A → Telling A → Type 0
FailsLater {A} told failed = (k l m : A) (rs ss : List Reported) → told k l rs → failed l m ss → failed k m (rs ++ ss)

-- the text of records of a script
abbrev pub records_text : Script → Labels → List Reported → Bytes
records_text s l rs = text_of (flat_map (record_lines s l) rs)

-- an output: the bytes that it has taken, where they are known, and its count of faults
pub record Output : Type 0 where
  pub written : Option Bytes
  pub faults : ℕ

abbrev pub output_at : {A : Type 0} → (written : A → Option Bytes) → (faults : A → ℕ) → A → Output
output_at written faults output = record { written = written output; faults = faults output }

-- an output took the whole text of the records, whatever script of the setup they are of
pub record IsWritten (labels : Labels) (setup : SetupData) (rs : List Reported) (old new : Output) : Type 0 where
  pub text : (s : Script) → s.setup ≡ setup → Appends old.written new.written (records_text s labels rs)
  pub faults : old.faults ≤ new.faults

-- an output failed, and took a part of that text from its front
pub record IsPartWritten (labels : Labels) (setup : SetupData) (rs : List Reported) (old new : Output) : Type 0 where
  pub part : (s : Script) → s.setup ≡ setup → (n : ℕ) × (n < length (records_text s labels rs)) × Appends old.written new.written (take n (records_text s labels rs))
  pub risen : HasRisen old.faults new.faults
