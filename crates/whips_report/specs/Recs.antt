-- What a record as code reports.
use Rattle.std.specs.Prelude.{[]}
use Rattle.whips_runs.specs.Records.{RunRecord, version, skip, opened, more, read, expired, full, final, final_rows}
use Rattle.whips_reports.specs.Reported.{Reported}
use Rattle.whips_report.specs.declared.rec.Rec.{Rec}
use Rattle.whips_report.specs.declared.rec.Rec.TheVariants.{Version, Skip, Opened, More, Read, Expired, Full, Final, View}

-- a record that reports no rows
abbrev pub alone : RunRecord → Reported
alone entry = record { entry = entry; rows = [] }

abbrev pub reported_of : Rec → Reported
reported_of (Version number cut rows) = alone (version number cut.now rows.now)
reported_of (Skip at event) = alone (skip at event)
reported_of (Opened s v phase) = alone (opened s v phase)
reported_of (More s x v phase slots) = alone (more s x v phase slots)
reported_of (Read s x v phase rows) = record { entry = read s x v phase; rows = rows.now.rows }
reported_of (Expired s x v phase) = alone (expired s x v phase)
reported_of (Full view need slots) = alone (full (record { view = view; need = need; slots = slots }))
reported_of (Final counts) = alone (final counts.now)
reported_of (View x rows) = record { entry = final_rows x; rows = rows.now.rows }
