use Rattle.std.proofs.Common.{true, false, List, ℕ, get_or, sym, ap, ◌∙◌, arith}
use Rattle.std.specs.Prelude.{nat_le, ◌&&◌}
use Rattle.whips_plan_reading.proofs.Counts.{other_text, read_number, no_number, first_bounds}
use Rattle.whips_plan_reading.proofs.decimal.decimal_within.Goals as goal

pub returns-then-not-begins_number-clause-number : goal.returns-then-not-begins_number-clause-number
returns-then-not-begins_number-clause-number c =
    sym (other_text c.args.least c.args.most c.requires (omega arith) c.args.text.now (ap (λ (s : List ℕ). nat_le 49 (get_or s 0 0) && nat_le (get_or s 0 0) 57) (sym c.as_bytes.ensures.value) ∙ sym c.begins_number.ensures ∙ c.if-not-begins_number.true))

pub returns-then-number-most-clause-number : goal.returns-then-number-most-clause-number
returns-then-number-most-clause-number c =
    let begins = ap (λ (s : List ℕ). nat_le 49 (get_or s 0 0) && nat_le (get_or s 0 0) 57) (sym c.as_bytes.ensures.value) ∙ sym c.begins_number.ensures ∙ c.if-not-begins_number.false in
    sym (read_number c.args.least c.args.most c.requires (omega arith) c.args.text.now c.in-Ok.number (first_bounds c.args.text.now begins) c.if-least-number.true c.if-number-most.true c.in-Ok.ensures.value.0)

pub returns-in-Err-clause-number : goal.returns-in-Err-clause-number
returns-in-Err-clause-number c = sym (no_number c.args.least c.args.most c.requires (omega arith) c.args.text.now c.in-Err.ensures.value.0)
