use Rattle.std.proofs.Common.{◌≡◌, ◌++◌, take, string_bytes}
use Rattle.whips_rel.specs.Chunks.{joined}
use Rattle.whips_report.specs.Texts.{rows_text}
use Rattle.whips_report.proofs.rows.push_view_rows.Given as goal

abbrev pub invariant-loop-chunk : goal.invariant-loop-chunk
invariant-loop-chunk l = string_bytes l.text ≡ string_bytes l.initial.text ++ rows_text l.labels l.kinds (joined (take l.chunk-index l.chunk-items))
