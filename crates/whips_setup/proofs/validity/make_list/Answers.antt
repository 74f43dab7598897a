use Rattle.std.proofs.Common.{◌≡◌, ◌+◌, ◌∙◌, None, ap, sym, arith, add-one, rules, refl, length, drop}
use Rattle.whips_states.specs.States.{applied}
use Rattle.whips_setup.specs.Workloads.{is_transaction_within, transaction_refusal, list_refusal}
use Rattle.whips_setup.proofs.Valid.{lengths_kept, list_wide}
use Rattle.whips_setup.proofs.Turns.{all_later, list_more, widths_later}
use Rattle.whips_setup.proofs.validity.make_list.Goals as goal

pub loop-transaction-init : goal.loop-transaction-init
loop-transaction-init c = record {
  place = refl;
  homes = c.requires.homes;
  widths = list_wide c.args.relations.now.items c.args.list.now c.requires.items;
  items = c.requires.items;
  rest = refl;
}

pub loop-transaction-preserved : goal.loop-transaction-preserved
loop-transaction-preserved c =
    let homes = c.args.homes.now in
    let source = c.args.source in
    let before = c.loop-transaction.relations.items in
    let list = c.args.list.now in
    let i = c.loop-transaction.transaction-index in
    let place = c.loop-transaction.place in
    let t = c.transaction-item.result in
    let same : c.deref.result.now ≡ t = c.deref.ensures.value ∙ c.transaction.view_is in
    let made : transaction_refusal homes (record { source = source; place = place + 1; item = 1 }) before t ≡ None = rw (← same) c.in_ok-make_updates.ensures.ok.0 in
    let after : c.make_updates.new.relations.items ≡ applied before t = c.in_ok-make_updates.ensures.ok.1 ∙ ap (applied before) same in
    record {
      place = search rules;
      homes = c.loop-transaction.invariant.homes ∙ sym (lengths_kept before t) ∙ sym (ap length after);
      widths = rw after (widths_later homes source (place + 1) before list i t (omega arith) c.transaction-item.is c.loop-transaction.invariant.widths);
      items = all_later (is_transaction_within c.args.relations.now.items) list i t (omega arith) c.transaction-item.is c.loop-transaction.invariant.items;
      rest = rw after (ap (λ n. list_refusal homes source n (applied before t) (drop (i + 1) list)) (add-one (place + 1)) ∙ sym (list_more homes source (place + 1) before list i t (omega arith) c.transaction-item.is made) ∙ c.loop-transaction.invariant.rest);
    }
