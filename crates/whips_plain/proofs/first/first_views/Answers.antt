use Rattle.std.proofs.Common.{◌++◌, ◌∷◌, [], length, ◌≤◌, sym, ap, ap₂, subst, ◌∙◌, arith, rules}
use Rattle.std.specs.List.{AllByRecursion}
use Rattle.std.proofs.lemmas.List.{take_all}
use Rattle.whips_lists.proofs.Alls.{all_more}
use Rattle.whips_lists.proofs.ByPlace.{get_there}
use Rattle.whips_model.specs.Relation.{Table}
use Rattle.whips_store.specs.First.{view_at_first, views_at_first}
use Rattle.whips_plain.specs.Plain.{HasFewSlots}
use Rattle.whips_faithful_laws.proofs.First.{first_many}
use Rattle.whips_plain.proofs.Begins.{taken_more, first_at, setup_fits, first_made, first_slots_few}
use Rattle.whips_plain.proofs.first.first_views.Goals as goal

pub make-requires : goal.make-requires
make-requires c =
    let s = c.args.setup.now in
    let past = c.loop-x-test.true in
    let end = c.views-x-end.ensures in
    let there = get_there c.loop-x.x s.views (omega (arith, past, end)) in
    let is = c.in_ok-rows.ensures ∙ c.value.ensures there.0 there.1 in
    let fits = setup_fits s c.sources-sound.ensures.sound c.loop-x.x c.slots.result there.0 there.1 c.slots.ensures in
    subst (λ rows. length rows ≤ c.slots.result) (sym (ap (λ (t : Table). t.rows) is)) fits

pub loop-x-preserved : goal.loop-x-preserved
loop-x-preserved c =
    let s = c.args.setup.now in
    let past = c.loop-x-test.true in
    let end = c.views-x-end.ensures in
    let there = get_there c.loop-x.x s.views (omega (arith, past, end)) in
    let view = there.0 in
    let is = c.in_ok-rows.ensures ∙ c.value.ensures view there.1 in
    let made = first_made s.initial view c.in_ok-rows.rows c.slots.result c.in_ok-make.field-0 is c.in_ok-make.ensures.made in record {
      made = c.in_ok-push.ensures.items ∙ ap₂ (λ l v. l ++ v ∷ []) c.loop-x.invariant.made made ∙ sym (taken_more (views_at_first s.initial s.views s.slots) c.loop-x.x (view_at_first s.initial view c.slots.result) (first_at s.initial s.views s.slots c.loop-x.x c.slots.result view there.1 c.slots.ensures));
      slots = subst (AllByRecursion HasFewSlots) (sym c.in_ok-push.ensures.items) (all_more HasFewSlots c.loop-x.views.items c.in_ok-make.field-0 c.loop-x.invariant.slots (subst HasFewSlots (sym made) (first_slots_few s.initial view c.slots.result (setup_fits s c.sources-sound.ensures.sound c.loop-x.x c.slots.result view there.1 c.slots.ensures) (search rules))));
    }

pub returns-clause-made : goal.returns-clause-made
returns-clause-made c =
    let s = c.args.setup.now in
    let past = c.loop-x-test.false in
    let end = c.views-x-end.ensures in
    let many = first_many s.initial s.views s.slots c.sources-sound.ensures.sound.slots in
    c.loop-x.invariant.made ∙ take_all c.loop-x.x (views_at_first s.initial s.views s.slots) (omega (arith, past, end, many))
