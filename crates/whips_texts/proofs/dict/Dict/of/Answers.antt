use Rattle.std.proofs.Common.{rules, ◌≡◌, Bor, map, ap, sym, subst, ◌∙◌}
use Rattle.std.proofs.lemmas.Map.Iter.{iter_end}
use Rattle.whips_reading.specs.Json.{Text}
use Rattle.whips_texts.specs.Texts.{IsInOrder, text_cmp}
use Rattle.whips_texts.proofs.Keys.{sorted_seen}
use Rattle.whips_texts.proofs.dict.Dict.of.Goals as goal

pub invariant_of-result : goal.invariant_of-result
invariant_of-result c =
    let all : map (λ t. t.now) c.loop-text.yielded ≡ c.set.inside.texts.keys = search (rules, iter_end) in
    subst IsInOrder (sym (c.loop-text.invariant ∙ ap (map (λ (t : Bor Text). t.now)) all)) (sorted_seen {K = Bor Text} (λ t. t.now) text_cmp c.set.inside.texts.keys c.iter-text-items.ensures.ordered)

pub returns : goal.returns
returns c =
    let all : map (λ t. t.now) c.loop-text.yielded ≡ c.set.inside.texts.keys = search (rules, iter_end) in
    c.loop-text.invariant ∙ ap (map (λ (t : Bor Text). t.now)) all ∙ c.set.view_is
