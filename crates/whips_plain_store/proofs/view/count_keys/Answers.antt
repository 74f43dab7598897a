use Rattle.std.proofs.Common.{◌∙◌}
use Rattle.whips_store.specs.Versions.{versions_in_use}
use Rattle.whips_plain_store.proofs.Puts.{keys_found}
use Rattle.whips_plain_store.proofs.view.count_keys.Goals as goal

pub returns : goal.returns
returns c = keys_found c.args.schema.now c.in_ok-copy.field-0 c.in_ok-rows.rows c.put_rows.new.rows c.put_versions.new.rows c.args.after.now.rows c.as_slice.result.now c.args.records.now.items c.deref.result.now c.args.n c.versions_used-first.result.0 c.versions_used-first.result.1 (versions_in_use c.args.n c.args.c) c.len.result c.in_ok-rows.ensures c.in_ok-copy.ensures c.in_ok-put_rows.ensures (c.as_slice.ensures ∙ c.in_ok-news.ensures) c.deref.ensures.value c.in_ok-put_versions.ensures c.versions_used-first.ensures.versions c.len.ensures
