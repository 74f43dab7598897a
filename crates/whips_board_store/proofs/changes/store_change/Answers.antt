use Rattle.std.proofs.Common.{◌≡◌, suc, ◌+◌, ◌*◌, ◌/◌, ap, ◌∙◌, arith}
use Rattle.whips_slot_words.specs.Words.{word_place, phase_of}
use Rattle.whips_slot_words.specs.Slots.{op_number}
use Rattle.whips_slot_words.specs.StoreLaws.{shape_of}
use Rattle.whips_board_store.specs.Words.{words_now}
use Rattle.whips_board_store.proofs.Changed.{row_lawful, header_allowed, change_whole}
use Rattle.whips_board_store.proofs.changes.store_change.Goals as goal

pub store_row-requires-clause-versions : goal.store_row-requires-clause-versions
store_row-requires-clause-versions g c =
    let e = ap (λ s. s.versions) c.requires.law in
    omega (arith, e, c.target_entry-entry.ensures.within)

pub store_row-requires-clause-lawful : goal.store_row-requires-clause-lawful
store_row-requires-clause-lawful g c =
    let shape = shape_of c.args.setup.now in
    let at = c.word_place-header.ensures.place ∙ ap (λ e. word_place shape c.args.x c.args.i e 0) c.target_entry-entry.ensures.entry in
    row_lawful shape c.args.x c.args.i c.args.change.now c.args.words.now c.word_place-header.result at c.row_brought.result.now c.requires.law c.row_brought.ensures c.requires.lawful

pub store-requires-clause-allowed : goal.store-requires-clause-allowed
store-requires-clause-allowed g c =
    let shape = shape_of c.args.setup.now in
    let at = c.word_place-header.ensures.place ∙ ap (λ e. word_place shape c.args.x c.args.i e 0) c.target_entry-entry.ensures.entry in
    let word = c.word.ensures in
    let number = c.operation.ensures.number in
    let is : 4 * (c.word.result / 2 + 1) + c.operation.result ≡ 4 * suc (phase_of (words_now c.args.words.now) / 2) + op_number c.args.change.now = omega (arith, word, number) in
    header_allowed shape c.args.x c.args.i c.args.change.now c.args.words.now c.word_place-header.result at c.row_brought.result.now (4 * (c.word.result / 2 + 1) + c.operation.result) c.store_row.new.words c.row_brought.ensures is c.store_row.ensures c.requires.law c.requires.lawful

pub returns : goal.returns
returns g c =
    let shape = shape_of c.args.setup.now in
    let at = c.word_place-header.ensures.place ∙ ap (λ e. word_place shape c.args.x c.args.i e 0) c.target_entry-entry.ensures.entry in
    let word = c.word.ensures in
    let number = c.operation.ensures.number in
    let is : 4 * (c.word.result / 2 + 1) + c.operation.result ≡ 4 * suc (phase_of (words_now c.args.words.now) / 2) + op_number c.args.change.now = omega (arith, word, number) in
    change_whole shape c.args.x c.args.i c.args.change.now c.args.words.now c.word_place-header.result at c.row_brought.result.now (4 * (c.word.result / 2 + 1) + c.operation.result) c.store_row.new.words c.row_brought.ensures is c.store_row.ensures c.store.new.self c.store.ensures
