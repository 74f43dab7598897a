use Rattle.std.proofs.Common.{ap, sym, ◌++◌, ◌∷◌, [], ◌∙◌}
use Rattle.whips_lists.proofs.Lists.{take_next}
use Rattle.whips_script_writing.proofs.source.homes_of.Goals as goal

pub loop-r-preserved : goal.loop-r-preserved
loop-r-preserved c = c.in_ok-push.ensures.items ∙ ap (λ l. l ++ c.home.result ∷ []) c.loop-r.invariant ∙ sym (take_next c.args.setup.now.homes c.loop-r.r c.home.result c.home.ensures)
