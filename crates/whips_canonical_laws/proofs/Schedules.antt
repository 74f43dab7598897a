-- Numbers, and schedules with a start and a number of steps.
use Rattle.std.proofs.Common.{◌≡◌, ℕ, nat_le, Ok, ap, subst, ◌∙◌}
use Rattle.std.specs.Prelude.{◌&&◌, option_and_then}
use Rattle.serde_json.specs.Data.{Data}
use Rattle.serde_json.specs.Find.{as_number, as_u64}
use Rattle.whips_setup.specs.declared.plan.Plan.TheVariants.{Picked}
use Rattle.whips_reading.specs.declared.place.Code.TheVariants.{Shape, Limit}
use Rattle.whips_reading.specs.declared.place.Member.TheVariants as member
use Rattle.whips_reading.specs.Json.{only}
use Rattle.whips_reading.specs.Places.{Place, in_member}
use Rattle.whips_reading.specs.Reading.{◌>>=◌, there, within, number_within}
use Rattle.whips_plan_reading.specs.Schedules.{picked_in}
use Rattle.whips_script_laws.proofs.Parts.{bound, there_is, member_read}
use Rattle.whips_script_writing.specs.Objects.{number_data}
use Rattle.whips_script_writing.specs.Scripts.{picked_data}
use Rattle.whips_canonical_laws.proofs.Values.{only_is, number_is}

pub number_written : (least most : ℕ) (place : Place) (d : Data) (n : ℕ) → number_within least most place d ≡ Ok n → number_data n ≡ d
number_written least most place d n e =
    let b = bound (there (as_number d) Shape place) _ n e in
    let whole = only_is (λ k. nat_le least k && nat_le k most) (as_u64 b.0) n (there_is (only (λ k. nat_le least k && nat_le k most) (as_u64 b.0)) Limit place n b.2) in
    number_is d n (ap (option_and_then as_u64) (there_is (as_number d) Shape place b.0 b.1) ∙ whole)

pub picked_read : (place : Place) (d : Data) (start steps : ℕ) → picked_in place d ≡ Ok (Picked start steps) → picked_in place (picked_data start steps) ≡ Ok (Picked start steps)
picked_read place d start steps e =
    let a = bound (within member.Start (number_within 0 4294967295) place d) _ (Picked start steps) e in
    let b = bound (within member.Steps (number_within 0 65536) place d) _ (Picked start steps) a.2 in
    let first = member_read member.Start (number_within 0 4294967295) place d a.0 a.1 in
    let second = member_read member.Steps (number_within 0 65536) place d b.0 b.1 in
    let starts : number_within 0 4294967295 (in_member place member.Start) (number_data a.0) ≡ Ok a.0 = ap (number_within 0 4294967295 (in_member place member.Start)) (number_written 0 4294967295 _ first.0 a.0 first.1) ∙ first.1 in
    let ends : number_within 0 65536 (in_member place member.Steps) (number_data b.0) ≡ Ok b.0 = ap (number_within 0 65536 (in_member place member.Steps)) (number_written 0 65536 _ second.0 b.0 second.1) ∙ second.1 in
    let again : picked_in place (picked_data a.0 b.0) ≡ Ok (Picked a.0 b.0) =
    ap (λ o. o >>= λ s. number_within 0 65536 (in_member place member.Steps) (number_data b.0) >>= λ t. Ok (Picked s t)) starts
    ∙ ap (λ o. o >>= λ t. Ok (Picked a.0 t)) ends
    in
    let is_start : a.0 ≡ start = cc in
    let is_steps : b.0 ≡ steps = cc in
    subst (λ n. picked_in place (picked_data start n) ≡ Ok (Picked start n)) is_steps (subst (λ n. picked_in place (picked_data n b.0) ≡ Ok (Picked n b.0)) is_start again)
