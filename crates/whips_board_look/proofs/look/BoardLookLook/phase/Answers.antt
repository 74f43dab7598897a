use Rattle.std.proofs.Common.{[], ◌∷◌, ◌++◌, ap, ◌∙◌}
use Rattle.whips_slot_words.specs.Loads.{loads_of}
use Rattle.whips_board_look.proofs.Logged.{loads_push}
use Rattle.whips_board_look.proofs.Rows.{phase_said}
use Rattle.whips_board_look.proofs.look.BoardLookLook.phase.Goals as goal

pub returns-clause-said : goal.returns-clause-said
returns-clause-said c =
    let before = ap (λ l. l.log) c.self.view_is in
    let loaded = ap (λ e. e.log) c.load.ensures.logged in
    phase_said (c.args.self.now.setup, c.args.self.now.board) (loads_of c.args.self.now.log) (loads_of c.load.new.self.log) c.load.result
    (ap loads_of loaded ∙ loads_push c.self.inside.eye.log 0 c.load.result ∙ ap (λ l. loads_of l ++ (0, c.load.result) ∷ []) before)
