use Rattle.std.proofs.Common.{◌∙◌}
use Rattle.std.proofs.lemmas.List.{length-map}
use Rattle.whips_lists.proofs.Lists.{length_map_at}
use Rattle.whips_facts.specs.Scripts.{SlottedView, slotted, slotted_views}
use Rattle.whips_facts.proofs.each_view_has_slots.Goals as goal

pub returns : goal.returns
returns c s = length-map (slotted_views s) (λ (v : SlottedView). v.slots) ∙ length_map_at (slotted s.setup.slots) 0 s.setup.views
