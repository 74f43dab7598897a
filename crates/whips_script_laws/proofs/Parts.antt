-- What follows where a part of a document was read.
use Rattle.std.proofs.Common.{◌≡◌, ◌⊎◌, inl, inr, ℕ, zero, suc, ◌+◌, Bool, true, false, nat_le, List, [], ◌∷◌, length, Option, Some, None, Ok, Err, refl, sym, subst, arith}
use Rattle.std.specs.Prelude.{⊤}
use Rattle.serde_json.specs.Data.{Data}
use Rattle.serde_json.specs.Find.{get}
use Rattle.whips_reading.specs.declared.place.Code.{Code}
use Rattle.whips_reading.specs.declared.place.Code.TheVariants.{Shape, Limit}
use Rattle.whips_reading.specs.declared.place.Member.{Member}
use Rattle.whips_reading.specs.Places.{Place, member_name, in_member, in_element}
use Rattle.whips_reading.specs.Reading.{Read, ◌>>=◌, ◌>>◌, check, there, required, within, read_or, within_or, listed, elements, in_turn}

module _ {A B : Type 0} where
  -- both of two parts were read
  pub bound : (r : Read A) (next : A → Read B) (b : B) → (r >>= next) ≡ Ok b → (a : A) × (r ≡ Ok a) × (next a ≡ Ok b)
  bound (Ok a) next b e = (a, refl, e)
  bound (Err r) next b e = absurd (cc)

  pub followed : (r : Read A) (next : Read B) (b : B) → (r >> next) ≡ Ok b → (a : A) × (r ≡ Ok a) × (next ≡ Ok b)
  followed (Ok a) next b e = (a, refl, e)
  followed (Err r) next b e = absurd (cc)

pub passed : (test : Bool) (code : Code) (place : Place) (t : ⊤) → check test code place ≡ Ok t → test ≡ true
passed true code place t e = refl
passed false code place t e = absurd (cc)

pub there_is : {A : Type 0} (o : Option A) (code : Code) (place : Place) (a : A) → there o code place ≡ Ok a → o ≡ Some a
there_is (Some x) code place a e = cc
there_is None code place a e = absurd (cc)

-- the test of a part was passed, and the rest was read
pub tested : {B : Type 0} (test : Bool) (code : Code) (place : Place) (next : Read B) (b : B) → (check test code place >> next) ≡ Ok b → (test ≡ true) × (next ≡ Ok b)
tested test code place next b e = let f = followed (check test code place) next b e in (passed test code place f.0 f.1, f.2)

-- ---- members

module _ {A : Type 0} (m : Member) (reading : Place → Data → Read A) (place : Place) (d : Data) (a : A) where
  pub member_read : within m reading place d ≡ Ok a → (e : Data) × (reading (in_member place m) e ≡ Ok a)
  member_read e = let b = bound (required m place d) (reading (in_member place m)) a e in (b.0, b.2)

  given_read : (default : A) (o : Option Data) → read_or default (reading (in_member place m)) o ≡ Ok a → (default ≡ a) ⊎ ((e : Data) × (reading (in_member place m) e ≡ Ok a))
  given_read default None e = inl (cc)
  given_read default (Some x) e = inr (x, e)

  pub member_or_read : (default : A) → within_or default m reading place d ≡ Ok a → (default ≡ a) ⊎ ((e : Data) × (reading (in_member place m) e ≡ Ok a))
  member_or_read default e = given_read default (get (member_name m) d) e

-- ---- lists

counted : (least most : ℕ) (place : Place) (d : Data) (ds : List Data) → elements least most place d ≡ Ok ds → (nat_le least (length ds) ≡ true) × (nat_le (length ds) most ≡ true)
counted least most place d ds e =
    let b = bound (listed place d) _ ds e in
    let low = tested (nat_le least (length b.0)) Shape place _ ds b.2 in
    let high = tested (nat_le (length b.0) most) Limit place _ ds low.1 in
    let same : b.0 ≡ ds = cc in
    (subst (λ (l : List Data). nat_le least (length l) ≡ true) same low.0, subst (λ (l : List Data). nat_le (length l) most ≡ true) same high.0)

-- what each step keeps, by how many were made, is kept by all
module _ {S : Type 0} (step : S → Place → Data → Read S) (I : ℕ → S → Type 0) (kept : (n : ℕ) (s t : S) (place : Place) (d : Data) → I n s → step s place d ≡ Ok t → I (suc n) t) where
  pub turned : (place : Place) (i n : ℕ) (s t : S) (ds : List Data) → I n s → in_turn step place i s ds ≡ Ok t → I (n + length ds) t
  turned place i n s t [] h e =
      let same : s ≡ t = cc in
      let none : n ≡ n + length {A = Data} [] = omega arith in
      subst (λ k. I k t) none (subst (I n) same h)
  turned place i n s t (d ∷ ds) h e =
      let b = bound (step s (in_element place i) d) (λ u. in_turn step place (i + 1) u ds) t e in
      let one : suc n + length ds ≡ n + length (d ∷ ds) = omega arith in
      subst (λ k. I k t) one (turned place (i + 1) (suc n) b.0 t ds (kept n s b.0 (in_element place i) d h b.1) b.2)

  pub list_read : (least most : ℕ) (place : Place) (s t : S) (d : Data) → I 0 s → (elements least most place d >>= in_turn step place 0 s) ≡ Ok t → (n : ℕ) × (nat_le least n ≡ true) × (nat_le n most ≡ true) × I n t
  list_read least most place s t d h e =
      let b = bound (elements least most place d) (in_turn step place 0 s) t e in
      let c = counted least most place d b.0 b.1 in
      let all : 0 + length b.0 ≡ length b.0 = omega arith in
      (length b.0, c.0, c.1, subst (λ k. I k t) all (turned place 0 0 s t b.0 h b.2))
