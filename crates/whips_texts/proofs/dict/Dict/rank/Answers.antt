use Rattle.std.proofs.Common.{rules}
use Rattle.std.proofs.lemmas.Fn.{always_returns_same}
use Rattle.whips_texts.specs.Texts.{is_before}
use Rattle.whips_texts.proofs.Ranks.{parted, counted}
use Rattle.whips_texts.proofs.dict.Dict.rank.Goals as goal

pub returns-clause-rank : goal.returns-clause-rank
returns-clause-rank c =
    let point = c.partition_point.ensures.partitioned (λ u. is_before u c.args.text.now) (always_returns_same _ _ _ (λ a r g called. search rules)) (rw c.deref.ensures.value (parted c.args.text.now c.self.inside.texts.items c.self.invariant)) in
    rw (← c.self.view_is, ← c.deref.ensures.value) (counted (λ u. is_before u c.args.text.now) c.deref.result.now c.partition_point.result c.partition_point.ensures.bound point)
