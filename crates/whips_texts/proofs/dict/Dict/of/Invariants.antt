use Rattle.std.proofs.Common.{◌≡◌, map}
use Rattle.whips_texts.proofs.dict.Dict.of.Given as goal

abbrev pub invariant-loop-text : goal.invariant-loop-text
invariant-loop-text l = l.texts.items ≡ map (λ t. t.now) (map (λ t. t.now) l.yielded)
