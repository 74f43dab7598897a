use Rattle.std.proofs.Common.{[], length, ap, ◌∙◌}
use Rattle.std.proofs.lemmas.List.{length-map}
use Rattle.whips_lists.specs.Lists.{places_from}
use Rattle.whips_lists.proofs.Places.{length_places}
use Rattle.whips_flow.specs.State.{count_of_source}
use Rattle.whips_order.specs.Numbering.{Counts}
use Rattle.whips_view_tests.proofs.order.count_of_new.Goals as goal

pub count_told-requires : goal.count_told-requires
count_told-requires c =
    let n = c.args.setup.now.sources in
    record { sources = ap (λ (i : Counts). length i.places) c.in_ok-integrator.ensures ∙ length-map (places_from 0 n) (count_of_source []) ∙ length_places 0 n }
