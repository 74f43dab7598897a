use Rattle.std.proofs.Common.{string_bytes, true, false, ◌∙◌, [], ◌∷◌}
use Rattle.serde_json.specs.Data.{member}
use Rattle.whips_lists.specs.Lists.{map_with_place}
use Rattle.whips_script_writing.specs.Objects.{list_data, text_list, members_data}
use Rattle.whips_script_writing.specs.Scripts.{schedule_data, source_at, view_at, with_versions}
use Rattle.whips_reading.specs.declared.place.Member.TheVariants as member_of
use Rattle.whips_reading.specs.Places.{member_name}
use Rattle.whips_script_writing.proofs.Listed.{on_ok, member_text, object_text}
use Rattle.whips_script_writing.proofs.script.push_script.Goals as goal

pub returns : goal.returns
returns c =
    let s = c.args.script.now in
    let schedule = schedule_data s.labels s.plan in
    let sessions = text_list s.labels.sessions in
    let sources = list_data (map_with_place (source_at s) 0 s.labels.sources) in
    let views = list_data (map_with_place (view_at s) 0 s.labels.views) in
    let last = members_data (with_versions s.script.setup.versions ((member_of.Views, views) ∷ [])) in
    on_ok c.push_versions_and_views.result c.push_versions_and_views.ensures (λ end. end
    ∙ member_text true (member_name member_of.Sources) sources last (string_bytes c.push_sessions.new.out) (string_bytes c.push_member-3.new.out) (string_bytes c.push_sources.new.out) c.in_ok-push_member-3.ensures c.in_ok-push_sources.ensures
    ∙ member_text true (member_name member_of.Sessions) sessions (member (member_name member_of.Sources) sources last) (string_bytes c.push_schedule.new.out) (string_bytes c.push_member-2.new.out) (string_bytes c.push_sessions.new.out) c.in_ok-push_member-2.ensures c.in_ok-push_sessions.ensures
    ∙ member_text false (member_name member_of.Schedule) schedule (member (member_name member_of.Sessions) sessions (member (member_name member_of.Sources) sources last)) (string_bytes c.push_plain.new.out) (string_bytes c.push_member.new.out) (string_bytes c.push_schedule.new.out) c.in_ok-push_member.ensures c.in_ok-push_schedule.ensures
    ∙ object_text (member (member_name member_of.Schedule) schedule (member (member_name member_of.Sessions) sessions (member (member_name member_of.Sources) sources last))) (string_bytes c.args.out.now) (string_bytes c.push_plain.new.out) c.in_ok-push_plain.ensures)
