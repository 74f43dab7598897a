use Rattle.std.proofs.Common.{◌≡◌, ◌+◌, ◌*◌, ◌++◌, take}
use Rattle.whips_slot_words.specs.Loads.{loads_of, words_at}
use Rattle.whips_board_look.proofs.loads.load_words.Given as goal

abbrev pub invariant-loop-k : goal.invariant-loop-k
invariant-loop-k l = record {
  board : l.eye.board ≡ l.board;
  loaded : loads_of l.eye.log ≡ loads_of l.initial.eye.log ++ words_at (λ k. l.first + k * l.step) 0 (take l.k l.words);
}
