use Rattle.std.proofs.Common.{sym, ap, ◌∙◌}
use Rattle.std.specs.List.{list_any}
use Rattle.whips_flow.specs.Painted.{is_white, is_waiting}
use Rattle.whips_paint.specs.Entries.{entry_colour}
use Rattle.whips_paint.proofs.Entries.{list_any-map}
use Rattle.whips_paint.proofs.row.Row.is_waiting.Goals as goal

pub returns : goal.returns
returns c =
    c.has_white.ensures
    ∙ ap (list_any (λ e. is_white (entry_colour e))) c.deref.ensures.value
    ∙ sym (list_any-map is_white entry_colour c.self.inside.entries.items)
    ∙ ap is_waiting c.self.view_is
