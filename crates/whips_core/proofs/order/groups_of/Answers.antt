use Rattle.std.proofs.Common.{◌++◌, [], ◌∷◌, List, length, map, sym, ap, ap₂, ◌∙◌, arith}
use Rattle.std.proofs.lemmas.List.{length-append, length-map}
use Rattle.whips_lists.specs.Lists.{places_from}
use Rattle.whips_lists.proofs.Places.{length_places}
use Rattle.whips_core.specs.declared.order.EventGroup.{EventGroup}
use Rattle.whips_core.specs.declared.order.EventKind.TheVariants.{Commit}
use Rattle.whips_core.specs.Groups.{events_of, answers_of, group_of, first_groups}
use Rattle.whips_core.proofs.Orders.{all_groups, groups_are}
use Rattle.whips_core.proofs.order.groups_of.Goals as goal

pub returns-clause-events : goal.returns-clause-events
returns-clause-events c = λ f a b.
    let answers = map (answers_of c.args.views) (places_from 0 c.args.sources) in
    let items = c.in_ok-push.ensures.items ∙ ap₂ (λ (gs : List EventGroup) (g : EventGroup). gs ++ g ∷ []) (c.in_ok-push_answers.ensures ∙ ap (λ (gs : List EventGroup). gs ++ answers) c.in_ok-groups.ensures) c.group.ensures in
    ap events_of items ∙ ap₂ (λ v s. events_of (all_groups v s)) (sym a) (sym b) ∙ groups_are f

pub returns-clause-few : goal.returns-clause-few
returns-clause-few c =
    let answers = map (answers_of c.args.views) (places_from 0 c.args.sources) in
    let items = c.in_ok-push.ensures.items ∙ ap₂ (λ (gs : List EventGroup) (g : EventGroup). gs ++ g ∷ []) (c.in_ok-push_answers.ensures ∙ ap (λ (gs : List EventGroup). gs ++ answers) c.in_ok-groups.ensures) c.group.ensures in
    let all = ap length items ∙ length-append (first_groups c.args.views c.args.sources ++ answers) (group_of Commit c.args.sources ∷ []) in
    let some = length-append (first_groups c.args.views c.args.sources) answers in
    let many = length-map (places_from 0 c.args.sources) (answers_of c.args.views) ∙ length_places 0 c.args.sources in
    omega (arith, all, some, many, c.requires)
