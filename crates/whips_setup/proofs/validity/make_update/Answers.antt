use Rattle.std.proofs.Common.{sym, ◌∙◌}
use Rattle.whips_setup.proofs.Valid.{insert_made, insert_refused, delete_made, delete_refused}
use Rattle.whips_setup.proofs.validity.make_update.Goals as goal

pub returns-in-Insert-clause-ok : goal.returns-in-Insert-clause-ok
returns-in-Insert-clause-ok c =
    insert_made c.args.homes.now c.args.at c.args.relations.now.items c.args.update.now c.relation-number.result c.in-Insert.field-0 c.in-Insert.tuple c.index_mut-relation.result.now c.insert_row.new.relation c.insert_row.result
    c.relation-number.ensures c.requires.homes (sym c.is_source.ensures ∙ c.if-not-is_source.false) c.index_mut-relation.ensures.value c.in-Insert.is c.insert_row.ensures.ok

pub returns-in-Insert-clause-refused : goal.returns-in-Insert-clause-refused
returns-in-Insert-clause-refused c =
    insert_refused c.args.homes.now c.args.at c.args.relations.now.items c.args.update.now c.relation-number.result c.in-Insert.field-0 c.in-Insert.tuple c.index_mut-relation.result.now c.insert_row.new.relation c.insert_row.result
    c.relation-number.ensures c.requires.homes (sym c.is_source.ensures ∙ c.if-not-is_source.false) c.index_mut-relation.ensures.value c.in-Insert.is c.insert_row.ensures.refused

pub returns-in-Delete-clause-ok : goal.returns-in-Delete-clause-ok
returns-in-Delete-clause-ok c =
    delete_made c.args.homes.now c.args.at c.args.relations.now.items c.args.update.now c.relation-number.result c.in-Delete.field-0 c.in-Delete.tuple c.index_mut-relation.result.now c.delete_row.new.relation c.delete_row.result
    c.relation-number.ensures c.requires.homes (sym c.is_source.ensures ∙ c.if-not-is_source.false) c.index_mut-relation.ensures.value c.in-Delete.is c.delete_row.ensures.ok

pub returns-in-Delete-clause-refused : goal.returns-in-Delete-clause-refused
returns-in-Delete-clause-refused c =
    delete_refused c.args.homes.now c.args.at c.args.relations.now.items c.args.update.now c.relation-number.result c.in-Delete.field-0 c.in-Delete.tuple c.index_mut-relation.result.now c.delete_row.new.relation c.delete_row.result
    c.relation-number.ensures c.requires.homes (sym c.is_source.ensures ∙ c.if-not-is_source.false) c.index_mut-relation.ensures.value c.in-Delete.is c.delete_row.ensures.refused
