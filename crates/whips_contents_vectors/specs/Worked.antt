-- The events that drain the worked scripts, and what these find on the way.
use Rattle.std.specs.Prelude.{ℕ, List, [], ◌∷◌, ◌++◌, Some, None}
use Rattle.whips_flow.specs.State.{NumberedTransaction}
use Rattle.whips_flow.specs.declared.event.Event.{Event}
use Rattle.whips_flow.specs.declared.event.Event.TheVariants.{Commit, Answer, Integrate, Manage, Rel, Act, Begin, Change, Publish, SessionOpen, SessionScan, SessionFetch, SessionClose}
use Rattle.whips_model.specs.declared.Kind.TheVariants.{Number}
use Rattle.whips_model.specs.Tuples.{Codes}
use Rattle.whips_choices.specs.Partials.{Partial}
use Rattle.whips_actions.specs.declared.action.Action.{Action}
use Rattle.whips_actions.specs.declared.action.Action.TheVariants.{Put}
use Rattle.whips_actions.specs.declared.action.ActionList.{ActionList}
use Rattle.whips_query.specs.declared.asks.Ask.{Ask}
use Rattle.whips_query.specs.declared.asks.Reply.{Reply}
use Rattle.whips_vectors.specs.Scripts.{table2}
use Rattle.whips_vectors.specs.Races.{raced_plan, early_lists_plan, three_parts_plan, two_lives_plan, same_source_plan, other_source_plan}
use Rattle.whips_vectors.specs.Readers.{crowded_plan}

-- ---- events

-- a transaction is begun, its only change is made, and it is published
abbrev pub one_change : List Event
one_change = Begin ∷ Change ∷ Publish ∷ []

-- the query of the second insertion is answered, at the first source
abbrev pub raced_answered : List Event
raced_answered = raced_plan ++ Answer 0 0 ∷ Integrate 0 ∷ Manage 0 ∷ []

abbrev pub raced_drained : List Event
raced_drained = (raced_answered ++ Rel ∷ Rel ∷ Act 0 ∷ []) ++ one_change

abbrev pub early_lists_announced : List Event
early_lists_announced = early_lists_plan ++ Rel ∷ Rel ∷ []

abbrev pub early_lists_begun : List Event
early_lists_begun = early_lists_announced ++ Begin ∷ []

abbrev pub early_lists_first : List Event
early_lists_first = early_lists_announced ++ one_change

abbrev pub early_lists_drained : List Event
early_lists_drained = early_lists_first ++ one_change

-- the deletion and the insertion make no net change
abbrev pub three_parts_drained : List Event
three_parts_drained = three_parts_plan ++ Rel ∷ Rel ∷ Act 0 ∷ Begin ∷ Publish ∷ []

abbrev pub two_lives_answered : List Event
two_lives_answered = two_lives_plan ++ Answer 0 0 ∷ Integrate 0 ∷ Manage 0 ∷ []

abbrev pub two_lives_drained : List Event
two_lives_drained = (two_lives_answered ++ Rel ∷ Rel ∷ Rel ∷ Act 0 ∷ []) ++ one_change

-- the first view's manager asks, is answered, and its list comes
abbrev pub joined : List Event
joined = Manage 0 ∷ Answer 1 0 ∷ Integrate 1 ∷ Manage 0 ∷ Act 0 ∷ []

abbrev pub same_source_joined : List Event
same_source_joined = same_source_plan ++ joined

abbrev pub same_source_first : List Event
same_source_first = same_source_joined ++ one_change

abbrev pub same_source_drained : List Event
same_source_drained = same_source_first ++ one_change

abbrev pub other_source_drained : List Event
other_source_drained = ((other_source_plan ++ Change ∷ Publish ∷ []) ++ joined) ++ one_change

-- the one list covers an insertion and a deletion
abbrev pub crowded_ready : List Event
crowded_ready = crowded_plan ++ Answer 1 0 ∷ Integrate 1 ∷ Manage 0 ∷ Rel ∷ Rel ∷ Act 0 ∷ []

-- every event of two sources, one view and one session, and some of a source, a view and a session that aren't there
abbrev pub events : List Event
events = Commit 0 ∷ Commit 1 ∷ Commit 2 ∷ Answer 0 0 ∷ Answer 1 0 ∷ Answer 0 1 ∷ Integrate 0 ∷ Integrate 1 ∷ Integrate 2 ∷ Manage 0 ∷ Manage 1 ∷ Rel ∷ Act 0 ∷ Act 1 ∷ Begin ∷ Change ∷ Publish ∷ SessionOpen 0 ∷ SessionScan 0 0 ∷ SessionFetch 0 4 ∷ SessionClose 1 ∷ []

-- ---- what is sent

-- the first and the second part of a join of two, and both
abbrev pub first : Codes → Partial
first r = Some r ∷ None ∷ []

abbrev pub second : Codes → Partial
second s = None ∷ Some s ∷ []

abbrev pub both : Codes → Codes → Partial
both r s = Some r ∷ Some s ∷ []

-- the ask of view 0 for a query's step, and its reply
abbrev pub ask : (number origin step : ℕ) → List Partial → Ask
ask number origin step partials = record { view = 0; update = number; origin = origin; step = step; partials = partials }

abbrev pub reply : (number origin step : ℕ) → List Partial → Reply
reply number origin step partials = record { view = 0; update = number; origin = origin; step = step; partials = partials }

abbrev pub numbered : (number source place : ℕ) → NumberedTransaction
numbered number source place = record { number = number; source = source; place = place }

-- rows of a join of two, of a join of three, and of a copy are put
abbrev pub put : List Codes → Action
put rows = Put (record { columns = record { kinds = Number ∷ Number ∷ Number ∷ []; key = 0 ∷ 1 ∷ [] }; rows = rows })

abbrev pub put_of_three : List Codes → Action
put_of_three rows = Put (record { columns = record { kinds = Number ∷ Number ∷ Number ∷ Number ∷ []; key = 0 ∷ 1 ∷ 2 ∷ [] }; rows = rows })

abbrev pub put_copies : List Codes → Action
put_copies rows = Put (table2 rows)

abbrev pub list : (view upto : ℕ) → List Action → ActionList
list view upto actions = record { view = view; upto = upto; actions = actions }
