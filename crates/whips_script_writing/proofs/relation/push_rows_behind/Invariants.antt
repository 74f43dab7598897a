use Rattle.std.proofs.Common.{◌≡◌, ◌++◌, take, string_bytes}
use Rattle.whips_script_writing.specs.Objects.{behind_commas}
use Rattle.whips_script_writing.specs.Relations.{rows_data}
use Rattle.whips_script_writing.proofs.relation.push_rows_behind.Given as goal

abbrev pub invariant-loop-row : goal.invariant-loop-row
invariant-loop-row l = string_bytes l.out ≡ string_bytes l.initial.out ++ behind_commas (rows_data l.labels l.kinds (take l.row-index l.rows))
