use Rattle.std.proofs.Common.{string_bytes, map}
use Rattle.whips_script_writing.specs.Scripts.{event_data}
use Rattle.whips_script_writing.proofs.Listed.{on_ok, list_text}
use Rattle.whips_script_writing.proofs.schedule.push_some_events.Goals as goal

pub returns : goal.returns
returns c = on_ok c.push_plain-2.result c.push_plain-2.ensures (λ end. list_text (event_data c.args.labels.now c.args.first) (map (event_data c.args.labels.now) c.args.rest.now) (string_bytes c.args.out.now) (string_bytes c.push_plain.new.out) (string_bytes c.push_event.new.out) (string_bytes c.push_events_behind.new.out) (string_bytes c.push_plain-2.new.out) c.in_ok-push_plain.ensures c.in_ok-push_event.ensures c.in_ok-push_events_behind.ensures end)
