-- Which texts of a document are known: the text with the code of each is the text again.
use Rattle.std.specs.Prelude.{◌≡◌, List, [], ◌∷◌, Option, Some, ⊤}
use Rattle.std.specs.List.{AllByRecursion}
use Rattle.serde_json.specs.Data.{Data}
use Rattle.serde_json.specs.Find.{get, as_str}
use Rattle.whips_reports.specs.Lines.{name_at}
use Rattle.whips_reading.specs.declared.place.Member.{Member}
use Rattle.whips_reading.specs.declared.place.Member.TheVariants as member
use Rattle.whips_reading.specs.Json.{Text}
use Rattle.whips_reading.specs.Places.{member_name}
use Rattle.whips_reading.specs.Reading.{elements_of}
use Rattle.whips_texts.specs.Texts.{rank}

-- It holds of each element, where the value is a list,
abbrev pub OfEach : (Data → Type 0) → Data → Type 0
OfEach P d = (ds : List Data) → elements_of d ≡ Some ds → AllByRecursion P ds

-- and of this member, where it is there.
abbrev pub OfMember : Member → (Data → Type 0) → Data → Type 0
OfMember m P d = (e : Data) → get (member_name m) d ≡ Some e → P e

-- Where the value is a text, the text with its code is the text again: it is one of these.
abbrev pub Knows : List Text → Data → Type 0
Knows texts d = (t : Text) → as_str d ≡ Some t → t ≡ name_at texts (rank texts t)

-- So it is of the elements of a list,
abbrev pub KnowsEach : List Text → Data → Type 0
KnowsEach texts = OfEach (Knows texts)

-- of each list of a list,
abbrev pub KnowsRows : List Text → Data → Type 0
KnowsRows texts = OfEach (KnowsEach texts)

-- of the rows of a relation, where it has any,
abbrev pub KnowsRelation : List Text → Data → Type 0
KnowsRelation texts = OfMember member.Rows (KnowsRows texts)

-- of the values of an update, which stand third,
abbrev pub KnowsValues : List Text → Option (List Data) → Type 0
KnowsValues texts (Some (change ∷ name ∷ values ∷ [])) = KnowsEach texts values
KnowsValues texts _ = Unit {0}

abbrev pub KnowsUpdate : List Text → Data → Type 0
KnowsUpdate texts d = KnowsValues texts (elements_of d)

-- of a transaction, an update or a list of two of which the second is a list of updates,
abbrev pub KnowsUpdates : List Text → Option (List Data) → Type 0
KnowsUpdates texts (Some (all ∷ updates ∷ [])) = OfEach (KnowsUpdate texts) updates
KnowsUpdates texts ds = KnowsValues texts ds

abbrev pub KnowsTransaction : List Text → Data → Type 0
KnowsTransaction texts d = KnowsUpdates texts (elements_of d)

-- of the relations and the transactions of a source,
abbrev pub KnowsSource : List Text → Data → Type 0
KnowsSource texts d = OfMember member.Relations (OfEach (KnowsRelation texts)) d × OfMember member.Updates (OfEach (KnowsTransaction texts)) d

-- of the constants of conditions, which stand third,
abbrev pub KnowsThird : List Text → Option (List Data) → Type 0
KnowsThird texts (Some (column ∷ comparison ∷ value ∷ [])) = Knows texts value
KnowsThird texts _ = Unit {0}

abbrev pub KnowsConditions : List Text → Data → Type 0
KnowsConditions texts = OfEach (λ c. KnowsThird texts (elements_of c))

abbrev pub KnowsView : List Text → Data → Type 0
KnowsView texts = OfMember member.Where (KnowsConditions texts)

-- and of a document.
abbrev pub KnowsDocument : List Text → Data → Type 0
KnowsDocument texts d = OfMember member.Sources (OfEach (KnowsSource texts)) d × OfMember member.Views (OfEach (KnowsView texts)) d
