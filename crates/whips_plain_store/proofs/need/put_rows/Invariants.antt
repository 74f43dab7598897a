use Rattle.std.proofs.Common.{◌≡◌, take}
use Rattle.whips_plain_store.specs.Plain.{put_all}
use Rattle.whips_plain_store.proofs.need.put_rows.Given as goal

abbrev pub invariant-loop-row : goal.invariant-loop-row
invariant-loop-row l = l.rows ≡ record l.initial.rows { rows = put_all l.initial.rows.columns.key l.initial.rows.rows (take l.row-index l.news) }
