use Rattle.std.proofs.Common.{sym, ap, ◌∙◌}
use Rattle.serde_json.specs.View.{view}
use Rattle.whips_reading.specs.Json.{all_names_in}
use Rattle.whips_reading.specs.Members.{is_member_of}
use Rattle.whips_reading.proofs.Documents.{all_names-members_of}
use Rattle.whips_reading.proofs.json.is_object_of.Goals as goal

pub returns-in-Some : goal.returns-in-Some
returns-in-Some c = c.has_only_members.ensures ∙ sym (all_names-members_of (is_member_of c.args.form) view c.in-Some.members.now.entries) ∙ ap (all_names_in (is_member_of c.args.form)) c.in-Some.ensures
