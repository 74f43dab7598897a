-- What the parts of a document are read as, or the refusal that comes first.
use Rattle.std.specs.Prelude.{◌≡◌, ℕ, ◌+◌, Bool, List, [], ◌∷◌, ◌++◌, length, nat_le, ◌&&◌, Option, Some, None, Result, Ok, Err, MatchResult, ⊤, if◌then◌else◌}
use Rattle.std.specs.Option.{option_map}
use Rattle.std.specs.Str.{is_utf8}
use Rattle.serde_json.specs.Data.{Data}
use Rattle.serde_json.specs.Read.{read}
use Rattle.serde_json.specs.Find.{get, as_array, as_number, as_u64}
use Rattle.whips_reading.specs.declared.json.ObjectForm.{ObjectForm}
use Rattle.whips_reading.specs.declared.place.Code.{Code}
use Rattle.whips_reading.specs.declared.place.Code.TheVariants.{Syntax, Shape, Limit}
use Rattle.whips_reading.specs.declared.place.Member.{Member}
use Rattle.whips_reading.specs.declared.place.ReadErr.{ReadErr}
use Rattle.whips_reading.specs.declared.place.ReadErr.TheVariants.{Refused}
use Rattle.whips_reading.specs.Json.{only, list_of, is_object_of}
use Rattle.whips_reading.specs.Members.{is_member_of}
use Rattle.whips_reading.specs.Places.{Place, Refusal, member_name, in_member, in_element}

infixl 30 ◌>>=◌
infixl 30 ◌>>◌
-- What a part is read as, or the refusal that comes first in it.
abbrev pub Read : Type 0 → Type 0
Read A = Result A Refusal

-- One part after another: the first refusal is the refusal of both.
abbrev pub ◌>>=◌ : {A B : Type 0} → Read A → (A → Read B) → Read B
◌>>=◌ (Ok a) next = next a
◌>>=◌ (Err r) next = Err r

abbrev pub ◌>>◌ : {A B : Type 0} → Read A → Read B → Read B
◌>>◌ (Ok a) next = next
◌>>◌ (Err r) next = Err r

-- The refusal of the part at this place.
abbrev pub refuse : {A : Type 0} → Code → Place → Read A
refuse code place = Err (record { code = code; place = place })

-- The part at this place is refused, unless the test holds.
abbrev pub check : Bool → Code → Place → Read ⊤
check test code place = if test then Ok tt else refuse code place

-- What there is. The part at this place is refused where there is nothing.
abbrev pub there : {A : Type 0} → Option A → Code → Place → Read A
there (Some a) code place = Ok a
there None code place = refuse code place

-- The member of the object at this place.
abbrev pub required : Member → Place → Data → Read Data
required m place d = there (get (member_name m) d) Shape (in_member place m)

-- What the member is read as.
abbrev pub within : {A : Type 0} → Member → (Place → Data → Read A) → Place → Data → Read A
within m reading place d = required m place d >>= reading (in_member place m)

-- What is read of what there may be, or the default.
abbrev pub read_or : {A : Type 0} → A → (Data → Read A) → Option Data → Read A
read_or default reading None = Ok default
read_or default reading (Some d) = reading d

-- What the member is read as, or the default where it is left out.
abbrev pub within_or : {A : Type 0} → A → Member → (Place → Data → Read A) → Place → Data → Read A
within_or default m reading place d = read_or default (reading (in_member place m)) (get (member_name m) d)

-- The document that the bytes are, as `serde_json` reads them.
abbrev pub document : List ℕ → Read Data
document bytes = there (if is_utf8 bytes then read bytes else None) Syntax []

-- The elements of what is a list.
abbrev pub elements_of : Data → Option (List Data)
elements_of d = option_map list_of (as_array d)

abbrev pub listed : Place → Data → Read (List Data)
listed place d = there (elements_of d) Shape place

-- The elements of a list that has `least` to `most` of them.
abbrev pub elements : ℕ → ℕ → Place → Data → Read (List Data)
elements least most place d = do
  ds ← listed place d
  check (nat_le least (length ds)) Shape place
  check (nat_le (length ds) most) Limit place
  Ok ds

-- The two elements of a list of two, and the three of a list of three.
abbrev pub pair_of : Place → List Data → Read (Data × Data)
pair_of place (a ∷ b ∷ []) = Ok (a, b)
pair_of place ds = refuse Shape place

abbrev pub pair : Place → Data → Read (Data × Data)
pair place d = listed place d >>= pair_of place

abbrev pub triple_of : Place → List Data → Read (Data × Data × Data)
triple_of place (a ∷ b ∷ c ∷ []) = Ok (a, b, c)
triple_of place ds = refuse Shape place

abbrev pub triple : Place → Data → Read (Data × Data × Data)
triple place d = listed place d >>= triple_of place

-- A number from `least` to `most`. One with a sign, a fraction or an exponent is none of these.
abbrev pub number_within : ℕ → ℕ → Place → Data → Read ℕ
number_within least most place d = do
  number ← there (as_number d) Shape place
  there (only (λ n. nat_le least n && nat_le n most) (as_u64 number)) Limit place

-- An object that has only members of this form.
abbrev pub object : ObjectForm → Place → Data → Read ⊤
object form place d = check (is_object_of (is_member_of form) d) Shape place

-- What each element in turn, from number i on, makes of what the ones before it made.
abbrev pub in_turn : {S : Type 0} → (S → Place → Data → Read S) → Place → ℕ → S → List Data → Read S
in_turn step place i s [] = Ok s
in_turn step place i s (d ∷ ds) = step s (in_element place i) d >>= λ t. in_turn step place (i + 1) t ds

-- The error refuses the part at this place so, or is want of memory.
abbrev pub Refuses : ReadErr → Code → Place → Type 0
Refuses e code place = (r : Refusal) → e ≡ Refused r → r ≡ record { code = code; place = place }

-- The answer of a function that reads, whose value is seen so: what the definition says, or want of memory.
abbrev pub Answers : {X A : Type 0} → (X → A) → Result X ReadErr → Read A → Type 0
Answers see result reading = MatchResult result (λ x. reading ≡ Ok (see x)) (λ e. (r : Refusal) → e ≡ Refused r → reading ≡ Err r)

-- The answer of a function that puts what it reads behind `before`.
abbrev pub AnswersBehind : {A : Type 0} → List A → List A → Result ⊤ ReadErr → Read (List A) → Type 0
AnswersBehind {A = A} before after result reading = MatchResult result (λ _. (made : List A) × (reading ≡ Ok made) × (after ≡ before ++ made)) (λ e. (r : Refusal) → e ≡ Refused r → reading ≡ Err r)
