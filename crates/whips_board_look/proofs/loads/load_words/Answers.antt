use Rattle.std.proofs.Common.{◌<◌, ◌+◌, ◌*◌, length, refl, ap, ◌∙◌, arith}
use Rattle.whips_slot_words.specs.Loads.{loads_of}
use Rattle.whips_board_look.proofs.Logged.{load_more}
use Rattle.whips_board_look.proofs.loads.load_words.Goals as goal

pub loop-k-preserved : goal.loop-k-preserved
loop-k-preserved c =
    let within : c.loop-k.k < length c.loop-k.words = omega arith in record {
      board = ap (λ e. e.board) c.load.ensures.logged ∙ c.loop-k.invariant.board;
      loaded = load_more (λ k. c.args.first + k * c.args.step) c.loop-k.k (c.args.first + c.loop-k.k * c.args.step) c.load.result c.loop-k.words (loads_of c.args.eye.now.log) c.loop-k.eye.log c.load.new.self.log within refl c.loop-k.invariant.loaded (ap (λ e. e.log) c.load.ensures.logged);
    }
