use Rattle.std.proofs.Common.{◌≡◌, None, Some, sym, ap, ap₂, ◌∙◌, rules}
use Rattle.whips_setup.specs.Workloads.{work_refusal}
use Rattle.whips_gen.proofs.Sound.{accepted}
use Rattle.whips_gen.proofs.made.make.Goals as goal

pub unreachable-requires : goal.unreachable-requires
unreachable-requires c =
    let none = ap₂ (λ s w. work_refusal s w) c.in_ok-setup.ensures c.in_ok-work.ensures ∙ accepted c.args.start c.args.size c.requires in
    search (rules, none)
