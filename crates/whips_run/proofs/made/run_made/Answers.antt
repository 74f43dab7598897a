use Rattle.std.proofs.Common.{rules, ◌≡◌, ℕ, [], ◌∷◌, length, ap, ap₂, subst, ◌∙◌}
use Rattle.whips_facts.specs.Scripts.{Script}
use Rattle.whips_facts.specs.Values.{IsValidScript}
use Rattle.whips_gen.specs.Shop.{shop_tables}
use Rattle.whips_gen.specs.Made.{updates_made, work_of}
use Rattle.whips_world.specs.Runs.{scheduled}
use Rattle.whips_core_laws.proofs.Valid.{valid_script}
use Rattle.whips_run.proofs.Counted.{told_summary, two_counts}
use Rattle.whips_run.proofs.made.run_made.Goals as goal

pub returns-clause-told : goal.returns-clause-told
returns-clause-told c =
    let us = updates_made c.args.size c.args.start shop_tables in
    let are : c.in_ok-setup.field-0.work ≡ work_of us = ap (λ (s : Script). s.work) c.in_ok-setup.ensures.script in
    let first : c.len.result ≡ length c.updates.result.now.items = search rules in
    let second : c.len-2.result ≡ length c.updates-2.result.now.items = search rules in
    let counts = ap₂ (λ (m n : ℕ). m ∷ n ∷ []) first second ∙ two_counts c.in_ok-setup.field-0.work us _ _ are c.updates.ensures.updates c.updates-2.ensures.updates in
    c.in_ok-text.ensures ∙ told_summary c.args.start c.args.size c.in_ok-setup.field-0.setup c.in_ok-setup.field-0.work c.in_ok-setup.field-0.plan c.in_ok-setup.ensures.script c.in_ok-setup.ensures.plan
    c.in_ok-made.made.tally (c.len.result ∷ c.len-2.result ∷ []) c.in_ok-made.ensures.counted counts

pub returns-clause-valid : goal.returns-clause-valid
returns-clause-valid c =
    subst IsValidScript c.in_ok-setup.ensures.script (valid_script (scheduled c.in_ok-setup.field-0.setup c.in_ok-setup.field-0.work 2) c.sources-sound.ensures.sound c.in_ok-setup.ensures.sound)
