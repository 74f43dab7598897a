use Rattle.std.proofs.Common.{◌+◌, ◌*◌, ◌++◌, refl, sym, ap, subst, ◌∙◌, arith}
use Rattle.whips_slot_words.specs.Words.{header_place, IsSlotOf}
use Rattle.whips_slot_words.specs.Loads.{loads_of, words_at}
use Rattle.whips_slot_words.specs.StoreLaws.{shape_of}
use Rattle.whips_slots.proofs.Small.{in_setup}
use Rattle.whips_board_look.proofs.Logged.{words_along}
use Rattle.whips_board_look.proofs.Bases.{small, headers_within, header_step}
use Rattle.whips_board_look.proofs.look.BoardLook.load_headers.Goals as goal

pub view_width-step-requires : goal.view_width-step-requires
view_width-step-requires c =
    let slot = subst (λ s. IsSlotOf (shape_of s) c.args.x c.args.i) (sym (ap (λ l. l.setup) c.self.view_is)) c.requires.slot in
    in_setup c.self.inside.setup.now c.sources-sound.ensures.sound c.args.x slot.view

pub load_words-requires-clause-small : goal.load_words-requires-clause-small
load_words-requires-clause-small c = small c.self.inside.setup.now c.sources-sound.ensures.sound c.self.inside.board.now c.self.invariant.1

pub load_words-requires-clause-places : goal.load_words-requires-clause-places
load_words-requires-clause-places c = λ k lt.
    let same = ap (λ l. l.setup) c.self.view_is in
    let slot = subst (λ s. IsSlotOf (shape_of s) c.args.x c.args.i) (sym same) c.requires.slot in
    let versions = ap (λ s. s.versions) same in
    let count = c.requires.count in
    headers_within c.self.inside.setup.now c.sources-sound.ensures.sound c.self.inside.board.now c.self.invariant.1 c.args.x c.args.i c.word_place-first.result c.view_width-step.result (c.view_width-step.result + 1)
    slot c.word_place-first.ensures.place c.view_width-step.ensures.width refl k (omega (arith, lt, count, versions))

pub returns-clause-loaded : goal.returns-clause-loaded
returns-clause-loaded c =
    let s = c.self.inside.setup.now in
    let first = c.word_place-first.result in
    let step = c.view_width-step.result + 1 in
    let words = c.load_words.new.words in
    c.load_words.ensures.loaded
    ∙ ap (λ l. loads_of c.self.inside.eye.log ++ l) (words_along (λ k. first + k * step) (header_place (shape_of s) c.args.x c.args.i)
    (header_step (shape_of s) c.args.x c.args.i first c.view_width-step.result c.word_place-first.ensures.place c.view_width-step.ensures.width) 0 words)
    ∙ ap (λ l. loads_of l.log ++ words_at (header_place (shape_of l.setup) c.args.x c.args.i) 0 words) c.self.view_is
