use Rattle.whips_source.proofs.Making.{insert_made, delete_made}
use Rattle.whips_source.proofs.made.make_update.Goals as goal

pub returns-in-Insert : goal.returns-in-Insert
returns-in-Insert c =
    insert_made c.args.relations.now.items c.args.update.now c.relation.result c.in-Insert.field-0 c.in-Insert.tuple c.index_mut-relation.result.now c.insert_row.new.relation c.insert_row.result c.relation.ensures c.requires
    c.index_mut-relation.ensures.value c.in-Insert.is c.insert_row.ensures

pub returns-in-Delete : goal.returns-in-Delete
returns-in-Delete c =
    delete_made c.args.relations.now.items c.args.update.now c.relation.result c.in-Delete.field-0 c.in-Delete.tuple c.index_mut-relation.result.now c.delete_row.new.relation c.delete_row.result c.relation.ensures c.requires
    c.index_mut-relation.ensures.value c.in-Delete.is c.delete_row.ensures
