use Rattle.std.proofs.Common.{◌≡◌, ap, ◌∙◌, arith}
use Rattle.whips_slot_index.specs.Indexes.{IndexData}
use Rattle.whips_store_tests.proofs.FourSlots.{widths_of, slots_of, keys_of}
use Rattle.whips_store_tests.proofs.index.advanced.Goals as goal

pub advance-requires-clause-widths : goal.advance-requires-clause-widths
advance-requires-clause-widths c = widths_of _ _ c.requires.schema c.requires.records

pub advance-requires-clause-slots : goal.advance-requires-clause-slots
advance-requires-clause-slots c =
    let three : c.reserve.new.self.versions ≡ 3 = ap (λ (i : IndexData). i.versions) c.reserve.ensures ∙ c.in_ok-index.ensures.versions in
    let two : c.reserve.new.self.committed ≡ 2 = ap (λ (i : IndexData). i.committed) c.reserve.ensures ∙ c.in_ok-index.ensures.committed in
    slots_of _ _ _ three (omega (arith, two)) c.requires.records

pub advance-requires-clause-keys : goal.advance-requires-clause-keys
advance-requires-clause-keys c = keys_of _ _ _ _ (ap (λ (i : IndexData). i.versions) c.reserve.ensures ∙ c.in_ok-index.ensures.versions) c.requires.schema c.requires.records
