-- The number that a text is.
-- Theorem: a text that begins with a digit from 1 to 9 is a number within bounds where `parse` reads one within them in it; a text that begins otherwise, or in which `parse` reads none within them, is none.
-- Idea: std says that such digits are the decimal text of their value, and that the decimal text of a number above 0 begins with such a digit.
use Rattle.std.proofs.Common.{◌≡◌, ℕ, zero, suc, ◌<◌, ◌≤◌, Bool, true, false, get_or, Some, None, Ok, Err, refl, sym, ap, ap₂, ◌∙◌, arith, subst}
use Rattle.std.specs.Prelude.{nat_le, decimal, ◌&&◌, if◌then◌else◌}
use Rattle.std.specs.Str.{bytes_eq}
use Rattle.std.specs.Str.Parse.{AllDigits, digits_value, ParsesUnsigned}
use Rattle.std.proofs.lemmas.Fmt.{parse-decimal, first_decimal, decimal_digit, decimal-digits_value, decimal_is_IsNumeral}
use Rattle.std.proofs.lemmas.Str.Parse.{IsNumeralModel, numerals_by_value, tells_digits, parse_plain, digit_at}
use Rattle.std.proofs.lemmas.Slice.Eq.{bytes_eq-Decides}
use Rattle.whips_reading.specs.Json.{Text}
use Rattle.whips_plan_reading.specs.Events.{decimal_within}

own : IsNumeralModel (AllDigits 10) (digits_value 10)
own = numerals_by_value (AllDigits 10) tells_digits

-- where the three tests pass, or do not
passed : (n : ℕ) (a b c : Bool) → a ≡ true → b ≡ true → c ≡ true → (if (a && b) && c then Some n else None) ≡ Some n
passed n a b c p q r = ap (λ t. if t then Some n else None) (ap₂ (λ x y. x && y) (ap₂ (λ x y. x && y) p q) r)

failed : (n : ℕ) (a b c : Bool) → (a ≡ true → b ≡ true → c ≡ true → ⊥) → (if (a && b) && c then Some n else None) ≡ None
failed n true true true h = absurd (h refl refl refl)
failed n true true false h = refl
failed n true false c h = refl
failed n false b c h = refl

module _ (least most : ℕ) (some : 1 ≤ least) (few : most < 4294967296) where
  -- a number in the range whose decimal text this is
  is_count : (t : Text) → least ≤ digits_value 10 t → digits_value 10 t ≤ most → decimal (digits_value 10 t) ≡ t → decimal_within least most t ≡ Some (digits_value 10 t)
  is_count t low high text =
      let n = digits_value 10 t in
      passed n (nat_le least n) (nat_le n most) (bytes_eq (decimal n) t) (grind arith) (grind arith) ((bytes_eq-Decides (decimal n) t).1 text)

  -- no number in the range has this decimal text
  no_count : (t : Text) → ((n : ℕ) → least ≤ n → n ≤ most → decimal n ≡ t → ⊥) → decimal_within least most t ≡ None
  no_count t h =
      let n = digits_value 10 t in
      failed n (nat_le least n) (nat_le n most) (bytes_eq (decimal n) t) (λ p q r. h n (grind arith) (grind arith) ((bytes_eq-Decides (decimal n) t).0 r))

  -- the first byte of the decimal text of a number above 0
  first_digit : (n : ℕ) → least ≤ n → n ≤ most → (49 ≤ get_or (decimal n) 0 0) × (get_or (decimal n) 0 0 ≤ 57)
  first_digit n low high =
      let numeral = decimal_is_IsNumeral n (omega arith) in
      let range = digit_at (decimal n) 0 numeral.0.1 numeral.0.0 in
      (omega (arith, first_decimal n (omega arith) (omega arith)), omega (arith, range))

  -- what begins otherwise
  pub other_text : (t : Text) → (nat_le 49 (get_or t 0 0) && nat_le (get_or t 0 0) 57) ≡ false → decimal_within least most t ≡ None
  other_text t e = no_count t (λ n low high text.
      let f = first_digit n low high in
      let g : (49 ≤ get_or t 0 0) × (get_or t 0 0 ≤ 57) = subst (λ s. (49 ≤ get_or s 0 0) × (get_or s 0 0 ≤ 57)) text f in
      grind (arith, g, e))

  -- what is read as a number within the bounds
  pub read_number : (t : Text) (n : ℕ) → 49 ≤ get_or t 0 0 → least ≤ n → n ≤ most → ParsesUnsigned {E = Unit {0}} 32 10 t (Ok n) → decimal_within least most t ≡ Some n
  read_number t n first low high read =
      let p = parse_plain own {E = Unit {0}} 32 t (Ok n) read (λ e. omega (arith, e)) in
      let text = decimal-digits_value own t p.0.0 p.0.1 (λ e. absurd (omega (arith, e))) (omega (arith, p.1)) in
      is_count t (omega (arith, p.1)) (omega (arith, p.1)) text ∙ ap Some (sym p.1)

  -- what is read as a number outside of them
  pub other_number : (t : Text) (n : ℕ) → 49 ≤ get_or t 0 0 → (least ≤ n → n ≤ most → ⊥) → ParsesUnsigned {E = Unit {0}} 32 10 t (Ok n) → decimal_within least most t ≡ None
  other_number t n first outside read =
      let p = parse_plain own {E = Unit {0}} 32 t (Ok n) read (λ e. omega (arith, e)) in
      let v = digits_value 10 t in
      failed v (nat_le least v) (nat_le v most) (bytes_eq (decimal v) t) (λ low high r. outside (grind (arith, p.1)) (grind (arith, p.1)))

  -- what isn't read as a number
  pub no_number : (t : Text) → ParsesUnsigned {E = Unit {0}} 32 10 t (Err tt) → decimal_within least most t ≡ None
  no_number t read = no_count t (λ m low high text.
      let q = parse-decimal {E = Unit {0}} 32 m t (Err tt) (omega arith) (omega arith) (sym text) read in cc)

-- what the test of the first byte says
pub first_bounds : (t : Text) → (nat_le 49 (get_or t 0 0) && nat_le (get_or t 0 0) 57) ≡ true → 49 ≤ get_or t 0 0
first_bounds t e = grind (arith, e)
