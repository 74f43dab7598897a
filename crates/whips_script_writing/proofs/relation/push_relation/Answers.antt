use Rattle.std.proofs.Common.{string_bytes, map, true, false, ◌∙◌}
use Rattle.serde_json.specs.Data.{string, no_members, member}
use Rattle.whips_reports.specs.Lines.{name_at}
use Rattle.whips_script_writing.specs.Objects.{list_data, text_list}
use Rattle.whips_script_writing.specs.Relations.{columns_data, rows_data}
use Rattle.whips_reading.specs.declared.place.Member.TheVariants as member_of
use Rattle.whips_reading.specs.Places.{member_name}
use Rattle.whips_script_writing.proofs.Listed.{on_ok, member_text, object_text}
use Rattle.whips_script_writing.proofs.relation.push_relation.Goals as goal

pub returns : goal.returns
returns c =
    let l = c.args.labels.now in
    let r = c.args.form.now in
    let columns = list_data (columns_data r.columns r.table.columns.kinds) in
    let key = text_list (map (name_at r.columns) r.table.columns.key) in
    let name = string r.name in
    let rows = list_data (rows_data l r.table.columns.kinds r.table.rows) in
    on_ok c.push_plain-2.result c.push_plain-2.ensures (λ end. end
    ∙ member_text true (member_name member_of.Rows) rows no_members (string_bytes c.push_name.new.out) (string_bytes c.push_member-4.new.out) (string_bytes c.push_initial.new.out) c.in_ok-push_member-4.ensures c.in_ok-push_initial.ensures
    ∙ member_text true (member_name member_of.Name) name (member (member_name member_of.Rows) rows no_members) (string_bytes c.push_key.new.out) (string_bytes c.push_member-3.new.out) (string_bytes c.push_name.new.out) c.in_ok-push_member-3.ensures c.in_ok-push_name.ensures
    ∙ member_text true (member_name member_of.Key) key (member (member_name member_of.Name) name (member (member_name member_of.Rows) rows no_members)) (string_bytes c.push_columns.new.out) (string_bytes c.push_member-2.new.out) (string_bytes c.push_key.new.out) c.in_ok-push_member-2.ensures c.in_ok-push_key.ensures
    ∙ member_text false (member_name member_of.Columns) columns (member (member_name member_of.Key) key (member (member_name member_of.Name) name (member (member_name member_of.Rows) rows no_members))) (string_bytes c.push_plain.new.out) (string_bytes c.push_member.new.out) (string_bytes c.push_columns.new.out) c.in_ok-push_member.ensures c.in_ok-push_columns.ensures
    ∙ object_text (member (member_name member_of.Columns) columns (member (member_name member_of.Key) key (member (member_name member_of.Name) name (member (member_name member_of.Rows) rows no_members)))) (string_bytes c.args.out.now) (string_bytes c.push_plain.new.out) c.in_ok-push_plain.ensures)
