use Rattle.std.proofs.Common.{refl}
use Rattle.whips_source.specs.Sites.{AreTransactionsOf}
use Rattle.whips_fixtures.specs.Pairs.{no_pairs}
use Rattle.whips_view_tests.specs.Worked.{pair_setup, one_insert}
use Rattle.whips_view_tests.proofs.source.source.Goals as goal

insert_valid : AreTransactionsOf pair_setup 1 one_insert
insert_valid = record { own = ((refl, tt), tt); valid = ((record { table = no_pairs; there = refl; valid = (refl, refl) }, tt), tt) }

pub new-requires : goal.new-requires
new-requires c = rw (c.requires, c.in_ok-insert.ensures) insert_valid
