use Rattle.std.proofs.Common.{refl, arith}
use Rattle.whips_store_tests.proofs.FourSlots.{widths_of, slots_of, keys_of}
use Rattle.whips_store_tests.proofs.index.built.Goals as goal

pub build-requires-clause-widths : goal.build-requires-clause-widths
build-requires-clause-widths c = widths_of _ _ c.requires.schema c.requires.records

pub build-requires-clause-slots : goal.build-requires-clause-slots
build-requires-clause-slots c = slots_of 3 2 _ refl (omega arith) c.requires.records

pub build-requires-clause-keys : goal.build-requires-clause-keys
build-requires-clause-keys c = keys_of 3 2 _ _ refl c.requires.schema c.requires.records
