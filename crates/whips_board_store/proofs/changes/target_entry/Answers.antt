use Rattle.std.proofs.Common.{arith}
use Rattle.whips_slot_words.specs.Words.{header_place}
use Rattle.whips_slot_words.specs.StoreLaws.{shape_of}
use Rattle.whips_slots.proofs.Small.{setup_versions}
use Rattle.whips_board_store.specs.Words.{words_now}
use Rattle.whips_board_store.proofs.Changed.{headers_four, headers_more}
use Rattle.whips_board_store.proofs.changes.target_entry.Goals as goal

pub loop-e-preserved : goal.loop-e-preserved
loop-e-preserved g c =
    let most = (setup_versions c.args.setup.now c.sources-sound.ensures.sound).1 in
    let test = c.loop-e-test.true in
    let n = c.versions-n.ensures in
    record {
      count = headers_four c.loop-e.headers c.loop-e.e c.word.result c.loop-e.invariant.count;
      headers = headers_more (words_now c.args.words.now) c.loop-e.headers (header_place (shape_of c.args.setup.now) c.args.x c.args.i) c.loop-e.e c.word.result c.word_place.result c.loop-e.invariant.count (omega (arith, most, test, n)) c.loop-e.invariant.headers
          c.word.ensures c.word_place.ensures.place;
    }
