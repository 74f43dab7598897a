use Rattle.std.proofs.Common.{ap, sym, ◌∙◌, Some}
use Rattle.std.specs.Option.{option_map}
use Rattle.whips_reading.specs.Json.{list_of}
use Rattle.whips_reading.proofs.Documents.{list_of-items_of}
use Rattle.whips_reading.proofs.json.elements_of.Goals as goal

pub returns-in-Some : goal.returns-in-Some
returns-in-Some c = sym (rw c.as_slice.ensures.value (ap (option_map list_of) (sym c.in-Some.ensures) ∙ ap Some (list_of-items_of _)))
