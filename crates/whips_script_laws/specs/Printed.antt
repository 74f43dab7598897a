-- The events of a script, as they are read and as they are printed.
use Rattle.std.specs.Prelude.{◌≡◌, Some}
use Rattle.whips_flow.specs.declared.event.Event.{Event}
use Rattle.whips_facts.specs.Scripts.{Labels}
use Rattle.whips_reports.specs.Lines.{words, event_words}
use Rattle.whips_reading.specs.Json.{Text}
use Rattle.whips_plan_reading.specs.Events.{Names, names_with, event_in}

-- The names that events speak of.
abbrev pub names_in : Labels → Names
names_in l = names_with l.sources l.views l.sessions

-- A text is read as an event only where it is what is printed for it.
abbrev pub IsReadAsPrinted : Labels → Text → Event → Type 0
IsReadAsPrinted l t e = event_in (names_in l) t ≡ Some e → t ≡ words (event_words l e)
