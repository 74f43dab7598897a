-- How the pipeline goes on: which events are enabled, the state after a list of events, and the drain.
use Rattle.std.specs.Prelude.{ℕ, zero, suc, ◌%◌, Bool, false, ◌&&◌, ◌==◌, not, nat_lt, List, ◌∷◌, ◌++◌, map, find, fold, slice_get, slice_index, Option, Some, None, is_some, if◌then◌else◌}
use Rattle.std.specs.List.{flat_map}
use Rattle.std.specs.Option.{option_and_then}
use Rattle.whips_lists.specs.Lists.{front}
use Rattle.whips_flow.specs.Facts.{Facts, Shortage, view_places, source_places}
use Rattle.whips_flow.specs.State.{Source, Pipeline, oldest_message, oldest_ask, oldest_manager_message, oldest_list, oldest_row_set, with_source, with_manager}
use Rattle.whips_flow.specs.Effects.{after_commit, after_answer, without_message, after_integrate, without_manager_message, after_message, with_list_if_answered, after_rel, after_act, next_cut, begin_shortage, after_begin, after_change, after_publish}
use Rattle.whips_flow.specs.declared.event.Event.{Event}
use Rattle.whips_flow.specs.declared.event.Event.TheVariants.{Commit, Answer, Integrate, Manage, Rel, Act, Begin, Change, Publish, SessionOpen, SessionScan, SessionFetch, SessionClose}

-- ---- one event

-- the source is there and committed fewer than n transactions
abbrev pub has_uncommitted : Option Source → ℕ → Bool
has_uncommitted None n = false
has_uncommitted (Some s) n = nat_lt s.commit_count n

-- an event that takes from a queue is enabled where the queue has an entry, and begin only between maintenance transactions; own
abbrev pub is_enabled : Facts → Pipeline → Event → Bool
is_enabled f p (Commit y) = has_uncommitted (slice_get p.sources y) (slice_index f.transactions y)
is_enabled f p (Answer y x) = is_some (oldest_ask p y x)
is_enabled f p (Integrate y) = is_some (oldest_message p y)
is_enabled f p (Manage x) = is_some (oldest_manager_message p x)
is_enabled f p Rel = is_some (front p.announcements)
is_enabled f p (Act x) = is_some (oldest_list p x)
is_enabled f p Begin = is_some (oldest_row_set p) && (p.writer.phase % 2 == 0)
is_enabled f p Change = nat_lt 0 p.writer.changes_left
is_enabled f p Publish = (p.writer.phase % 2 == 1) && (p.writer.changes_left == 0)
is_enabled f p (SessionOpen s) = false
is_enabled f p (SessionScan s x) = false
is_enabled f p (SessionFetch s n) = false
is_enabled f p (SessionClose s) = false

-- the state after an enabled event for which no view has too few slots; own
abbrev pub next : Facts → Pipeline → Event → Pipeline
next f p (Commit y) = with_source y after_commit p
next f p (Answer y x) = with_source y (after_answer x (oldest_ask p y x)) p
next f p (Integrate y) = after_integrate f y (oldest_message p y) (with_source y without_message p)
next f p (Manage x) = with_manager x with_list_if_answered (after_message f x (oldest_manager_message p x) (with_manager x without_manager_message p))
next f p Rel = after_rel (front p.announcements) p
next f p (Act x) = after_act x (oldest_list p x) p
next f p Begin = after_begin f (next_cut p) p
next f p Change = record p { writer = after_change p.writer }
next f p Publish = record p { writer = after_publish p.writer }
next f p (SessionOpen s) = p
next f p (SessionScan s x) = p
next f p (SessionFetch s n) = p
next f p (SessionClose s) = p

-- the view that has too few slots for the event, which only a begin needs; own
abbrev pub shortage_at : Facts → Pipeline → Event → Option Shortage
shortage_at f p Begin = begin_shortage f p
shortage_at f p _ = None

-- whether the event changes the pipeline
abbrev pub is_done : Facts → Pipeline → Event → Bool
is_done f p e = is_enabled f p e && not (is_some (shortage_at f p e))

-- an event that isn't enabled changes nothing, nor does a begin with too few slots; own
abbrev pub step : Facts → Pipeline → Event → Pipeline
step f p e = if is_done f p e then next f p e else p

-- the state after a list of events; own
abbrev pub after : Facts → Pipeline → List Event → Pipeline
after f p es = fold (step f) p es

-- ---- the drain

-- the events of the pipeline in the order in which the drain looks for one that is enabled, latest actor first; own
abbrev pub pipeline_events : Facts → List Event
pipeline_events f = (((((Publish ∷ Change ∷ Begin ∷ map Act (view_places f)) ++ Rel ∷ map Manage (view_places f)) ++ map Integrate (source_places f)) ++ flat_map (λ y. map (Answer y) (view_places f)) (source_places f)) ++ map Commit (source_places f))

abbrev pub first_enabled : Facts → Pipeline → Option Event
first_enabled f p = find (is_enabled f p) (pipeline_events f)

-- the first enabled event, unless it is a begin with too few slots
abbrev pub next_drain_event : Facts → Pipeline → Option Event
next_drain_event f p = option_and_then (λ e. if is_some (shortage_at f p e) then None else Some e) (first_enabled f p)

-- the state after the first enabled event again and again, at most n times; own
abbrev pub drain : ℕ → Facts → Pipeline → Pipeline
drain zero f p = p
drain (suc n) f p = elim (next_drain_event f p) [
  | None ↦ p
  | Some e ↦ drain n f (next f p e)
]
