use Rattle.std.proofs.Common.{string_bytes, map, true, false, ◌∙◌}
use Rattle.serde_json.specs.Data.{string, no_members, member}
use Rattle.whips_script_writing.specs.Objects.{list_data}
use Rattle.whips_script_writing.specs.Relations.{relation_data, relations_of, transaction_data}
use Rattle.whips_reading.specs.declared.place.Member.TheVariants as member_of
use Rattle.whips_reading.specs.Places.{member_name}
use Rattle.whips_script_writing.proofs.Listed.{on_ok, member_text, object_text}
use Rattle.whips_script_writing.proofs.source.push_source.Goals as goal

pub returns : goal.returns
returns c =
    let l = c.args.labels.now in
    let s = c.args.source.now in
    let name = string s.name.now in
    let relations = list_data (map (relation_data l) (relations_of c.args.y s.homes.now s.relations.now)) in
    let updates = list_data (map (transaction_data l s.relations.now) s.work.now) in
    on_ok c.push_plain-2.result c.push_plain-2.ensures (λ end. end
    ∙ member_text true (member_name member_of.Updates) updates no_members (string_bytes c.push_relations.new.out) (string_bytes c.push_member-3.new.out) (string_bytes c.push_transactions.new.out) c.in_ok-push_member-3.ensures c.in_ok-push_transactions.ensures
    ∙ member_text true (member_name member_of.Relations) relations (member (member_name member_of.Updates) updates no_members) (string_bytes c.push_quoted.new.out) (string_bytes c.push_member-2.new.out) (string_bytes c.push_relations.new.out) c.in_ok-push_member-2.ensures c.in_ok-push_relations.ensures
    ∙ member_text false (member_name member_of.Name) name (member (member_name member_of.Relations) relations (member (member_name member_of.Updates) updates no_members)) (string_bytes c.push_plain.new.out) (string_bytes c.push_member.new.out) (string_bytes c.push_quoted.new.out) c.in_ok-push_member.ensures c.in_ok-push_quoted.ensures
    ∙ object_text (member (member_name member_of.Name) name (member (member_name member_of.Relations) relations (member (member_name member_of.Updates) updates no_members))) (string_bytes c.args.out.now) (string_bytes c.push_plain.new.out) c.in_ok-push_plain.ensures)
