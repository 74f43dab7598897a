use Rattle.std.proofs.Common.{◌<◌, ◌+◌, ◌*◌, ◌++◌, refl, sym, ap, subst, ◌∙◌, arith}
use Rattle.whips_slot_words.specs.Words.{view_shape, column_place, IsSlotOf}
use Rattle.whips_slot_words.specs.Loads.{loads_of, words_at}
use Rattle.whips_slot_words.specs.StoreLaws.{shape_of}
use Rattle.whips_slots.proofs.Small.{board_small, in_setup}
use Rattle.whips_board_look.proofs.Logged.{words_along}
use Rattle.whips_board_look.proofs.Bases.{width_most, small, columns_within, column_step}
use Rattle.whips_board_look.proofs.look.BoardLook.load_row.Goals as goal

pub overflow_add-first : goal.overflow_add-first
overflow_add-first c =
    let few = board_small c.self.inside.setup.now c.sources-sound.ensures.sound in
    let within = c.word_place-first.ensures.within in
    omega (arith, few, within)

pub load_words-requires-clause-small : goal.load_words-requires-clause-small
load_words-requires-clause-small c = small c.self.inside.setup.now c.sources-sound.ensures.sound c.self.inside.board.now c.self.invariant.1

pub load_words-requires-clause-few : goal.load_words-requires-clause-few
load_words-requires-clause-few c =
    let s = c.self.inside.setup.now in
    let same = ap (λ l. l.setup) c.self.view_is in
    let slot = subst (λ s. IsSlotOf (shape_of s) c.args.x c.args.i) (sym same) c.requires.slot in
    let most = width_most s c.sources-sound.ensures.sound c.args.x (in_setup s c.sources-sound.ensures.sound c.args.x slot.view) in
    let width = ap (λ s. (view_shape (shape_of s) c.args.x).width) same in
    let count = c.requires.count in
    omega (arith, most, width, count)

pub load_words-requires-clause-places : goal.load_words-requires-clause-places
load_words-requires-clause-places c = λ k lt.
    let same = ap (λ l. l.setup) c.self.view_is in
    let slot = subst (λ s. IsSlotOf (shape_of s) c.args.x c.args.i) (sym same) c.requires.slot in
    let entry = subst (λ s. c.args.e < s.versions) (sym same) c.requires.entry in
    let width = ap (λ s. (view_shape (shape_of s) c.args.x).width) same in
    let count = c.requires.count in
    columns_within c.self.inside.setup.now c.sources-sound.ensures.sound c.self.inside.board.now c.self.invariant.1 c.args.x c.args.i c.args.e c.word_place-first.result (c.word_place-first.result + 1)
    slot entry c.word_place-first.ensures.place refl k (omega (arith, lt, count, width))

pub returns-clause-loaded : goal.returns-clause-loaded
returns-clause-loaded c =
    let s = c.self.inside.setup.now in
    let first = c.word_place-first.result in
    let words = c.load_words.new.words in
    c.load_words.ensures.loaded
    ∙ ap (λ l. loads_of c.self.inside.eye.log ++ l) (words_along (λ k. first + 1 + k * 1) (column_place (shape_of s) c.args.x c.args.i c.args.e)
    (column_step (shape_of s) c.args.x c.args.i c.args.e first c.word_place-first.ensures.place) 0 words)
    ∙ ap (λ l. loads_of l.log ++ words_at (column_place (shape_of l.setup) c.args.x c.args.i c.args.e) 0 words) c.self.view_is
