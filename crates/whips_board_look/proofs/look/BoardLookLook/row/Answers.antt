use Rattle.std.proofs.Common.{◌++◌, length, refl, sym, ap, subst, ◌∙◌, arith}
use Rattle.whips_model.specs.Tuples.{Columns}
use Rattle.whips_vnl.specs.declared.record.Shown.TheVariants.{Nothing, Past}
use Rattle.whips_slot_words.specs.Words.{view_shape, column_place, IsSlotOf}
use Rattle.whips_slot_words.specs.Loads.{loads_of, words_at}
use Rattle.whips_slot_words.specs.StoreLaws.{shape_of}
use Rattle.whips_slots.proofs.Small.{in_setup}
use Rattle.whips_board_look.proofs.Rows.{row_answer, none_answer, taken_there}
use Rattle.whips_board_look.proofs.Bases.{slot_of, columns_count}
use Rattle.whips_board_look.proofs.look.BoardLookLook.row.Goals as goal

pub load_headers-requires-clause-slot : goal.load_headers-requires-clause-slot
load_headers-requires-clause-slot c = slot_of c.args.self.now.setup c.versions.ensures.sound c.args.x c.args.i c.requires.slot

pub returns-in-Nothing-clause-said : goal.returns-in-Nothing-clause-said
returns-in-Nothing-clause-said c =
    let hs = c.load_headers.new.headers in
    let count = c.load_headers.ensures.count in
    none_answer (c.args.self.now.setup, c.args.self.now.board) c.args.x c.args.i c.args.v hs (loads_of c.args.self.now.log) (loads_of c.load_headers.new.self.log) Nothing c.args.into.now c.args.into.now
    count (λ e. cc) c.in-Nothing.ensures c.load_headers.ensures.loaded refl

pub returns-in-Past-clause-said : goal.returns-in-Past-clause-said
returns-in-Past-clause-said c =
    let hs = c.load_headers.new.headers in
    let count = c.load_headers.ensures.count in
    none_answer (c.args.self.now.setup, c.args.self.now.board) c.args.x c.args.i c.args.v hs (loads_of c.args.self.now.log) (loads_of c.load_headers.new.self.log) Past c.args.into.now c.args.into.now
    count (λ e. cc) c.in-Past.ensures c.load_headers.ensures.loaded refl

pub load_row-requires-clause-slot : goal.load_row-requires-clause-slot
load_row-requires-clause-slot c =
    subst (λ s. IsSlotOf (shape_of s) c.args.x c.args.i) (sym (ap (λ l. l.setup) c.load_headers.ensures.base)) (slot_of c.args.self.now.setup c.versions.ensures.sound c.args.x c.args.i c.requires.slot)

pub load_row-requires-clause-entry : goal.load_row-requires-clause-entry
load_row-requires-clause-entry c =
    let hs = c.load_headers.new.headers in
    let count = c.load_headers.ensures.count in
    let there = taken_there c.args.v hs c.in-Row.ensures in
    let entry = c.taken.ensures in
    let same = ap (λ l. l.setup.versions) c.load_headers.ensures.base in
    omega (arith, count, there, entry, same)

pub put-requires-clause-width : goal.put-requires-clause-width
put-requires-clause-width c =
    let s = c.args.self.now.setup in
    let slot = slot_of s c.versions.ensures.sound c.args.x c.args.i c.requires.slot in
    let wide = c.load_row.ensures.count ∙ ap (λ l. (view_shape (shape_of l.setup) c.args.x).width) c.load_headers.ensures.base in
    let columns = ap (λ (k : Columns). length k.kinds) c.requires.columns ∙ columns_count s c.versions.ensures.sound c.args.x (in_setup s c.versions.ensures.sound c.args.x slot.view) in
    wide ∙ sym columns

pub returns-clause-said : goal.returns-clause-said
returns-clause-said c =
    let s = c.args.self.now.setup in
    let hs = c.load_headers.new.headers in
    let row = c.load_row.new.row in
    let count = c.load_headers.ensures.count in
    let wide = c.load_row.ensures.count ∙ ap (λ l. (view_shape (shape_of l.setup) c.args.x).width) c.load_headers.ensures.base in
    let second = c.load_row.ensures.loaded ∙ ap (λ l. loads_of c.load_headers.new.self.log ++ words_at (column_place (shape_of l.setup) c.args.x c.args.i c.taken.result) 0 row) c.load_headers.ensures.base in
    row_answer (s, c.args.self.now.board) c.args.x c.args.i c.args.v c.taken.result hs row (loads_of c.args.self.now.log) (loads_of c.load_headers.new.self.log) (loads_of c.load_row.new.self.log) c.args.into.now c.put.new.self
    count wide c.taken.ensures c.in-Row.ensures c.load_headers.ensures.loaded second c.put.ensures
