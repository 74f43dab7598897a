use Rattle.std.specs.List.{AllByRecursion}
use Rattle.whips_view.specs.ViewDefs.{IsWellFormed}
use Rattle.std.proofs.Common.{◌≡◌, ◌++◌, true, None, ap₂, ◌∙◌}
use Rattle.whips_states.specs.States.{AreSoundTables}
use Rattle.whips_setup.specs.Setups.{view_values}
use Rattle.whips_setup.specs.Limits.{are_sources_within, are_views_within}
use Rattle.whips_setup.specs.Refusals.{slots_refusal}
use Rattle.whips_setup.proofs.Made.{made, over}
use Rattle.whips_setup.proofs.setup.Setup.make.Goals as goal

pub add_values-requires-clause-bases : goal.add_values-requires-clause-bases
add_values-requires-clause-bases c =
    let sources : are_sources_within c.args.sources c.args.homes.items c.args.schemas.items c.args.initial.items ≡ true = rw (← c.deref.ensures.value, ← c.deref-2.ensures.value, ← c.deref-3.ensures.value, ← c.are_sources_within.ensures) c.if-not-are_sources_within.false in
    let views : are_views_within c.args.homes.items c.args.initial.items c.args.views.items c.args.slots.items ≡ true = rw (← c.deref-4.ensures.value, ← c.deref-5.ensures.value, ← c.deref-6.ensures.value, ← c.deref-7.ensures.value, ← c.are_views_within.ensures.answer) c.if-not-are_views_within.false in
    rw (c.deref-8.ensures.value, c.of-initial.ensures) (over c.args.sources c.args.homes.items c.args.schemas.items c.args.initial.items sources c.args.views.items c.args.slots.items views)

pub invariant_of-result : goal.invariant_of-result
invariant_of-result c =
    let sources : are_sources_within c.args.sources c.args.homes.items c.args.schemas.items c.args.initial.items ≡ true = rw (← c.deref.ensures.value, ← c.deref-2.ensures.value, ← c.deref-3.ensures.value, ← c.are_sources_within.ensures) c.if-not-are_sources_within.false in
    let views : are_views_within c.args.homes.items c.args.initial.items c.args.views.items c.args.slots.items ≡ true = rw (← c.deref-4.ensures.value, ← c.deref-5.ensures.value, ← c.deref-6.ensures.value, ← c.deref-7.ensures.value, ← c.are_views_within.ensures.answer) c.if-not-are_views_within.false in
    let slots : slots_refusal 0 c.args.initial.items c.args.views.items c.args.slots.items ≡ None = rw (← c.of-initial.ensures, ← c.deref-8.ensures.value, ← c.deref-9.ensures.value) c.in_ok-add_values.ensures.ok.0 in
    let tables : AreSoundTables c.args.initial.items = rw (← c.of-initial.ensures, ← c.initial.view_is) c.initial.invariant in
    let well : AllByRecursion IsWellFormed c.args.views.items = rw (← c.deref-6.ensures.value) (c.are_views_within.ensures.sound c.if-not-are_views_within.false) in
    let values = c.in_ok-add_values.ensures.ok.1 ∙ ap₂ (λ l v. l ++ view_values c.of-initial.result v) c.new-values.ensures.items c.deref-8.ensures.value in
    (rw c.of-initial.ensures (made c.args.sources c.args.homes.items c.args.schemas.items c.args.initial.items sources c.args.views.items c.args.slots.items views slots tables well), values)
