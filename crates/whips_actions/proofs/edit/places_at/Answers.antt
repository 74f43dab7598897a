use Rattle.std.proofs.Common.{◌≡◌, ◌+◌, map, take, ap, ap₂, sym, ◌∙◌, arith}
use Rattle.std.proofs.lemmas.List.{take_all}
use Rattle.whips_choices.specs.Places.{place_of}
use Rattle.whips_actions.proofs.Edits.{places_is}
use Rattle.whips_actions.proofs.edit.places_at.Goals as goal

pub returns : goal.returns
returns c =
    let is = places_is c.args.view.now.parts.out c.args.view.now.bases 0 c.args.part c.base.result.now c.base.ensures in
    let plain : 0 + c.args.part ≡ c.args.part = omega arith in
    let all : take c.loop-column.column-index c.key-column-items.result.now ≡ c.base.result.now.key = take_all _ _ c.loop-column-test.false ∙ c.key-column-items.ensures in
    let out = c.out-out.ensures ∙ ap (λ z. z.out) c.parts.ensures.parts in
    c.loop-column.invariant ∙ ap₂ (λ o l. map (place_of o c.args.part) l) out all ∙ sym (is ∙ ap (λ n. map (place_of c.args.view.now.parts.out n) c.base.result.now.key) plain)
