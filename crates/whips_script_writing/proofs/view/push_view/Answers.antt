use Rattle.std.proofs.Common.{string_bytes, map, true, false, ◌∙◌}
use Rattle.serde_json.specs.Data.{string, no_members, member}
use Rattle.whips_reports.specs.Lines.{name_at}
use Rattle.whips_relation_reading.specs.Relations.{relation_names}
use Rattle.whips_script_writing.specs.Objects.{number_data, list_data, text_list}
use Rattle.whips_script_writing.specs.Views.{column_text, equality_data, condition_data}
use Rattle.whips_reading.specs.declared.place.Member.TheVariants as member_of
use Rattle.whips_reading.specs.Places.{member_name}
use Rattle.whips_script_writing.proofs.Listed.{on_ok, member_text, object_text}
use Rattle.whips_script_writing.proofs.view.push_view.Goals as goal

pub returns : goal.returns
returns c =
    let l = c.args.labels.now in
    let relations = c.args.form.now.relations.now in
    let parts = c.args.form.now.view.now.parts in
    let equal = list_data (map (equality_data relations parts.relations) parts.equal) in
    let name = string c.args.form.now.name.now in
    let out = text_list (map (column_text relations parts.relations) parts.out) in
    let names = text_list (map (name_at (relation_names relations)) parts.relations) in
    let slots = number_data c.args.form.now.slots in
    let conds = list_data (map (condition_data l relations parts.relations) parts.conds) in
    on_ok c.push_plain-2.result c.push_plain-2.ensures (λ end. end
    ∙ member_text true (member_name member_of.Where) conds no_members (string_bytes c.push_number.new.out) (string_bytes c.push_member-6.new.out) (string_bytes c.push_conditions.new.out) c.in_ok-push_member-6.ensures c.in_ok-push_conditions.ensures
    ∙ member_text true (member_name member_of.Slots) slots (member (member_name member_of.Where) conds no_members) (string_bytes c.push_relations.new.out) (string_bytes c.push_member-5.new.out) (string_bytes c.push_number.new.out) c.in_ok-push_member-5.ensures c.in_ok-push_number.ensures
    ∙ member_text true (member_name member_of.Relations) names (member (member_name member_of.Slots) slots (member (member_name member_of.Where) conds no_members)) (string_bytes c.push_out.new.out) (string_bytes c.push_member-4.new.out) (string_bytes c.push_relations.new.out) c.in_ok-push_member-4.ensures c.in_ok-push_relations.ensures
    ∙ member_text true (member_name member_of.Out) out (member (member_name member_of.Relations) names (member (member_name member_of.Slots) slots (member (member_name member_of.Where) conds no_members))) (string_bytes c.push_quoted.new.out) (string_bytes c.push_member-3.new.out) (string_bytes c.push_out.new.out) c.in_ok-push_member-3.ensures c.in_ok-push_out.ensures
    ∙ member_text true (member_name member_of.Name) name (member (member_name member_of.Out) out (member (member_name member_of.Relations) names (member (member_name member_of.Slots) slots (member (member_name member_of.Where) conds no_members)))) (string_bytes c.push_equal.new.out) (string_bytes c.push_member-2.new.out) (string_bytes c.push_quoted.new.out) c.in_ok-push_member-2.ensures c.in_ok-push_quoted.ensures
    ∙ member_text false (member_name member_of.Equal) equal (member (member_name member_of.Name) name (member (member_name member_of.Out) out (member (member_name member_of.Relations) names (member (member_name member_of.Slots) slots (member (member_name member_of.Where) conds no_members))))) (string_bytes c.push_plain.new.out) (string_bytes c.push_member.new.out) (string_bytes c.push_equal.new.out) c.in_ok-push_member.ensures c.in_ok-push_equal.ensures
    ∙ object_text (member (member_name member_of.Equal) equal (member (member_name member_of.Name) name (member (member_name member_of.Out) out (member (member_name member_of.Relations) names (member (member_name member_of.Slots) slots (member (member_name member_of.Where) conds no_members)))))) (string_bytes c.args.out.now) (string_bytes c.push_plain.new.out) c.in_ok-push_plain.ensures)
