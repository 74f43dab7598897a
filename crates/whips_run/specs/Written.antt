-- What an output has taken of a report.
use Rattle.std.specs.Prelude.{◌≡◌, ℕ, ◌<◌, Bool, List, length, take, Result, Ok, Err}
use Rattle.std.specs.Io.KnownBytes.{Appends}
use Rattle.whips_io.specs.Counts.{HasRisen}
use Rattle.whips_report.specs.declared.sink.RecordErr.{RecordErr}
use Rattle.whips_report.specs.declared.sink.RecordErr.TheVariants.{NoMemory, Failed}
use Rattle.whips_report.specs.Told.{Output}

-- Whether the run is full, where it came to its end.
abbrev pub fullness : {A : Type 0} → (A → Bool) → Result A RecordErr → Result Bool RecordErr
fullness is_full (Ok ran) = Ok (is_full ran)
fullness is_full (Err e) = Err e

-- By how a run ended: the whole report, and whether the run is full; a first part of it; or one that isn't all of it, and the output's count of faults has risen.
abbrev pub HasWritten : List ℕ → Bool → Result Bool RecordErr → (old new : Output) → Type 0
HasWritten report is_full (Ok full) old new = (full ≡ is_full) × Appends old.written new.written report
HasWritten report is_full (Err NoMemory) old new = (n : ℕ) × Appends old.written new.written (take n report)
HasWritten report is_full (Err Failed) old new = (n : ℕ) × (n < length report) × Appends old.written new.written (take n report) × HasRisen old.faults new.faults
