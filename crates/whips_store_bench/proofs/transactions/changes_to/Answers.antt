-- The rows that come passed the test of their numbers, and the changes are net.
use Rattle.std.proofs.Common.{sym, ap, ◌∙◌}
use Rattle.std.specs.List.{list_all}
use Rattle.whips_store_bench.specs.Numbers.{brings_within}
use Rattle.whips_store_bench.proofs.Handed.{handed}
use Rattle.whips_store_bench.proofs.transactions.changes_to.Goals as goal

pub returns : goal.returns
returns g c =
    let state = g.S.Store.state c.args.store.now in
    let within = sym (ap (list_all brings_within) c.deref.ensures.value) ∙ sym c.are_changes_within.ensures ∙ c.if-not-are_changes_within.false in
    rw c.in_ok-one.ensures (handed state c.args.after c.args.changes.items c.phase-sound.ensures.sound c.schema-after.ensures.sound c.requires.one c.requires.columns within c.requires.net)
