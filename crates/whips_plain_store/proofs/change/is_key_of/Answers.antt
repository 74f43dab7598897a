use Rattle.std.proofs.Common.{◌≡◌, inl, inr, true, sym, ap, subst, ◌∙◌}
use Rattle.std.specs.Ordering.{is_eq}
use Rattle.whips_model.specs.Tuples.{at_columns}
use Rattle.whips_net.specs.Made.{change_key}
use Rattle.whips_plain_store.proofs.Steps.{same_key}
use Rattle.whips_plain_store.proofs.change.is_key_of.Goals as goal

pub returns-in-Add : goal.returns-in-Add
returns-in-Add c =
    let own : change_key c.args.schema.now.key c.args.change.now ≡ at_columns c.args.schema.now.key c.in-Add.row = elim c.in-Add.is [ inl add ↦ ap (change_key c.args.schema.now.key) add | inr replace ↦ ap (change_key c.args.schema.now.key) replace ] in
    let same = same_key (at_columns c.args.schema.now.key c.in-Add.row) c.args.key.now in
    let tells = c.is_eq.ensures ∙ ap is_eq c.compare_key.ensures in
    (λ h. same.0 (sym tells ∙ h) ∙ sym own, λ h. tells ∙ same.1 (h ∙ own))
