use Rattle.std.proofs.Common.{◌≡◌, ◌≢◌, ℕ, ◌-◌, ◌<◌, List, sym, subst, arith}
use Rattle.whips_vnl.specs.declared.record.Vstep.{Vstep}
use Rattle.whips_vnl.specs.Records.{visible, leading_steps, steps_or_none, seen_past}
use Rattle.whips_vnl.proofs.Kept.{earlier_same, before_same, steps_joined}
use Rattle.whips_vnl.proofs.record.changed.Goals as goal

pub returns-clause-before : goal.returns-clause-before
returns-clause-before c =
    let steps : List Vstep = steps_or_none c.args.rec in
    let whole = steps_joined c.args.n c.args.vn c.args.change (leading_steps c.steps_kept.result) (leading_steps c.places_of.result) steps c.step_made.result c.steps_kept.ensures c.step_made.ensures c.places_of.ensures in
    subst (λ (now : List Vstep). visible c.args.n (c.args.vn - 1) now ≡ visible c.args.n (c.args.vn - 1) steps) (sym whole)
    (before_same c.args.n c.args.vn c.args.change steps c.requires.least c.requires.version c.requires.newer)

pub returns-clause-earlier : goal.returns-clause-earlier
returns-clause-earlier c =
    let steps : List Vstep = steps_or_none c.args.rec in
    let whole = steps_joined c.args.n c.args.vn c.args.change (leading_steps c.steps_kept.result) (leading_steps c.places_of.result) steps c.step_made.result c.steps_kept.ensures c.step_made.ensures c.places_of.ensures in
    subst (λ (now : List Vstep). (v : ℕ) → v < c.args.vn → visible c.args.n v now ≢ seen_past → visible c.args.n v now ≡ visible c.args.n v steps) (sym whole)
    (λ v lt kept. earlier_same c.args.n c.args.vn v c.args.change steps (omega arith) lt kept)
