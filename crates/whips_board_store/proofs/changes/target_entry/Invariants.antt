use Rattle.std.proofs.Common.{◌≡◌, length, map, take, slice_index}
use Rattle.std.specs.List.{range_with_len}
use Rattle.whips_slot_words.specs.Words.{header_place}
use Rattle.whips_slot_words.specs.StoreLaws.{shape_of}
use Rattle.whips_board_store.specs.Words.{words_now}
use Rattle.whips_board_store.proofs.changes.target_entry.Given as goal

abbrev pub invariant-loop-e : goal.invariant-loop-e
invariant-loop-e g l = record {
  count : length l.headers ≡ 4;
  headers : take l.e l.headers ≡ map (λ e. slice_index (words_now l.words) (header_place (shape_of l.setup) l.x l.i e)) (range_with_len 0 l.e);
}
