-- The events of the pipeline in groups of one kind.
use Rattle.std.specs.Prelude.{ℕ, List, [], ◌∷◌, map}
use Rattle.std.specs.List.{flat_map}
use Rattle.whips_lists.specs.Lists.{places_from}
use Rattle.whips_flow.specs.declared.event.Event.{Event}
use Rattle.whips_flow.specs.declared.event.Event.TheVariants.{Commit, Answer, Integrate, Manage, Rel, Act, Begin, Change, Publish}
use Rattle.whips_core.specs.declared.order.EventKind.{EventKind}
use Rattle.whips_core.specs.declared.order.EventKind.TheVariants as kind
use Rattle.whips_core.specs.declared.order.EventGroup.{EventGroup}

-- The event of this kind at a place.
abbrev pub event_of : EventKind → ℕ → Event
event_of kind.Publish i = Publish
event_of kind.Change i = Change
event_of kind.Begin i = Begin
event_of kind.Act i = Act i
event_of kind.Rel i = Rel
event_of kind.Manage i = Manage i
event_of kind.Integrate i = Integrate i
event_of (kind.Answer y) i = Answer y i
event_of kind.Commit i = Commit i

-- The events of a group, one for each place.
abbrev pub group_events : EventGroup → List Event
group_events g = map (event_of g.kind) (places_from 0 g.count)

abbrev pub events_of : List EventGroup → List Event
events_of groups = flat_map group_events groups

-- The answers of source y to so many views.
abbrev pub answers_of : (views y : ℕ) → EventGroup
answers_of views y = record { kind = kind.Answer y; count = views }

-- The groups before the answers.
abbrev pub group_of : EventKind → ℕ → EventGroup
group_of k n = record { kind = k; count = n }

abbrev pub first_groups : (views sources : ℕ) → List EventGroup
first_groups views sources = group_of kind.Publish 1 ∷ group_of kind.Change 1 ∷ group_of kind.Begin 1 ∷ group_of kind.Act views ∷ group_of kind.Rel 1 ∷ group_of kind.Manage views ∷ group_of kind.Integrate sources ∷ []
