use Rattle.std.proofs.Common.{◌≡◌, ◌<◌, take, vec_len, vec_capacity}
use Rattle.std.specs.Prelude.{All}
use Rattle.whips_board.specs.History.{words_after, Explains}
use Rattle.whips_board.specs.Rule.{history_of, logs_of}
use Rattle.whips_board.proofs.closing.read_all.Given as goal

-- the words so far are those after the pen's history, which explains each log once one word was read
abbrev pub invariant-loop-i : goal.invariant-loop-i
invariant-loop-i g l = record {
  table : l.token.table_id ≡ l.fn.board.table;
  view : l.token.me ≡ l.fn.token.me;
  items : l.words.items ≡ take l.i (words_after l.fn.board.first (history_of l.fn.token.me.0));
  count : vec_len l.words ≡ l.i;
  capacity : vec_capacity l.words ≡ vec_capacity l.fn.words;
  explained : 0 < l.i → All (Explains l.fn.board.first (history_of l.fn.token.me.0)) (logs_of l.fn.token.me.0);
}
