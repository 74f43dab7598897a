-- A made run: its summary is that of its counts, and it meets the headline.
use Rattle.std.proofs.Common.{◌≡◌, ℕ, ◌<◌, ◌≤◌, List, [], ◌∷◌, length, map, Some, refl, sym, ap, ap₂, subst, ◌∙◌, arith}
use Rattle.std.specs.Prelude.{slice_get}
use Rattle.whips_rel.specs.declared.update.Update.{Update}
use Rattle.whips_states.specs.States.{Updates}
use Rattle.whips_setup.specs.Setups.{SetupData}
use Rattle.whips_setup.specs.Workloads.{IsWorkload}
use Rattle.whips_setup.specs.Refusals.{IsSetup}
use Rattle.whips_setup.specs.declared.plan.Plan.{Plan}
use Rattle.whips_facts.specs.Scripts.{Script}
use Rattle.whips_reports.specs.Reported.{reported, run_of}
use Rattle.whips_reports.specs.Lines.{text_of}
use Rattle.whips_reports.specs.Summary.{Counts, counts_of, counted_lines}
use Rattle.whips_tally.specs.Tallies.{Tally, no_tally, tally_after, counts_from}
use Rattle.whips_tally.proofs.Summaries.{summary_counted}
use Rattle.whips_gen.specs.Shop.{shop_labels}
use Rattle.whips_gen.specs.Made.{work_of, made_script, made_plan}
use Rattle.whips_gen.proofs.Full.{never_full}
use Rattle.whips_world.specs.Runs.{scheduled}
use Rattle.whips_run.specs.Made.{summary}

module _ (start size : ℕ) (setup : SetupData) (work : List (List Updates)) (plan : Plan) (made : scheduled setup work 2 ≡ made_script start size) (planned : plan ≡ made_plan start size) where
  pub told_summary : (tally : Tally) (transactions : List ℕ) → tally ≡ tally_after no_tally (reported (scheduled setup work 2) (run_of (scheduled setup work 2) plan)) → transactions ≡ map length work
      → text_of (counted_lines start size shop_labels (counts_from tally transactions)) ≡ summary start size
  told_summary tally transactions counted are =
      let s = made_script start size in
      let own : tally ≡ tally_after no_tally (reported s (run_of s (made_plan start size))) =
      counted ∙ ap₂ (λ (z : Script) (p : Plan). tally_after no_tally (reported z (run_of z p))) made planned in
      let all : transactions ≡ map length s.work = are ∙ ap (λ (z : Script). map length z.work) made in
      let same : counts_from tally transactions ≡ counts_of s (run_of s (made_plan start size)) = ap₂ counts_from own all ∙ summary_counted s (made_plan start size) (never_full start size (made_plan start size)) in
      ap (λ (c : Counts). text_of (counted_lines start size shop_labels c)) same

-- a workload of two lists
pub two_lists : (work : List (List Updates)) (us : List Update) → work ≡ work_of us → length work ≡ 2
two_lists work us are = ap length are

pub two_counts : (work : List (List Updates)) (us : List Update) (a b : List Updates) → work ≡ work_of us → slice_get work 0 ≡ Some a → slice_get work 1 ≡ Some b → length a ∷ length b ∷ [] ≡ map length work
two_counts work us a b are first second = go work are first second
  where
    go : (work : List (List Updates)) → work ≡ work_of us → slice_get work 0 ≡ Some a → slice_get work 1 ≡ Some b → length a ∷ length b ∷ [] ≡ map length work
    go [] are first second = absurd (cc)
    go (x ∷ []) are first second = absurd (cc)
    go (x ∷ y ∷ []) are first second = let e : x ≡ a = cc in let f : y ≡ b = cc in ap₂ (λ l m. length l ∷ length m ∷ []) (sym e) (sym f)
    go (x ∷ y ∷ z ∷ rest) are first second = absurd (omega (arith, ap length are))
