use Rattle.std.proofs.Common.{◌-◌, ◌∙◌, ap, sym, arith, rules, length, take, drop}
use Rattle.whips_setup.specs.Workloads.{has_width}
use Rattle.whips_setup.proofs.Valid.{length_kept, widths_kept}
use Rattle.whips_setup.proofs.Turns.{all_rest}
use Rattle.whips_setup.proofs.validity.+make_updates.Goals as goal

pub make_updates-requires : goal.make_updates-requires
make_updates-requires t c =
    let made = c.in_ok-make_update-in-len1-up.ensures.ok.1 in (
      search rules,
      (
        c.requires.homes ∙ sym (length_kept c.args.relations.now.items c.update-item.result) ∙ sym (ap length made),
        (
          omega arith,
          rw (made, widths_kept c.args.relations.now.items c.update-item.result (take (length c.args.updates.now - 1) (drop 1 c.args.updates.now))) (all_rest (has_width c.args.relations.now.items) c.args.updates.now c.requires.widths),
        ),
      ),
    )
