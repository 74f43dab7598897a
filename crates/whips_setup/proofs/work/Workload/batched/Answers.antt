use Rattle.std.proofs.Common.{◌≡◌, ◌∙◌, true, refl, sym, length, map, None, List, Vec, Global, rules}
use Rattle.std.specs.List.{list_all}
use Rattle.std.proofs.lemmas.List.{length-map}
use Rattle.whips_rel.specs.declared.update.Trans.{Trans}
use Rattle.whips_states.specs.States.{Updates}
use Rattle.whips_setup.specs.Workloads.{is_list_within, lists_refusal}
use Rattle.whips_setup.proofs.Valid.{is_workload}
use Rattle.whips_setup.proofs.work.Workload.batched.Goals as goal

pub invariant_of-result : goal.invariant_of-result
invariant_of-result c =
    let work : List (List Updates) = map (λ (list : Vec Trans Global). list.items) c.args.work.items in
    let counted : c.len.result ≡ length c.args.work.items = search rules in
    let count : length work ≡ c.args.setup.now.sources = length-map c.args.work.items (λ (list : Vec Trans Global). list.items) ∙ sym counted ∙ c.if-len-sources.false ∙ c.sources.ensures.sources in
    let within : list_all (is_list_within c.args.setup.now.initial) work ≡ true = rw (← c.initial_rows.ensures, ← c.deref.ensures.value, ← c.are_lists_within.ensures) c.if-not-are_lists_within.false in
    let made : lists_refusal c.args.setup.now 0 work ≡ None = rw (← c.deref-2.ensures.value) c.in_ok-check_lists.ensures.ok in
    (c.args.setup.now, c.sources.ensures.sound, is_workload c.args.setup.now work count within made)

pub returns-clause-made : goal.returns-clause-made
returns-clause-made c =
    let work : List (List Updates) = map (λ (list : Vec Trans Global). list.items) c.args.work.items in
    let counted : c.len.result ≡ length c.args.work.items = search rules in
    let count : length work ≡ c.args.setup.now.sources = length-map c.args.work.items (λ (list : Vec Trans Global). list.items) ∙ sym counted ∙ c.if-len-sources.false ∙ c.sources.ensures.sources in
    let within : list_all (is_list_within c.args.setup.now.initial) work ≡ true = rw (← c.initial_rows.ensures, ← c.deref.ensures.value, ← c.are_lists_within.ensures) c.if-not-are_lists_within.false in
    let made : lists_refusal c.args.setup.now 0 work ≡ None = rw (← c.deref-2.ensures.value) c.in_ok-check_lists.ensures.ok in
    (refl, is_workload c.args.setup.now work count within made)
