-- The text of a list of which all but the first element stand behind commas, and the text of an object by its members.
use Rattle.std.proofs.Common.{◌≡◌, ℕ, Bool, true, false, List, [], ◌∷◌, ◌++◌, refl, sym, ap, ◌∙◌, append_assoc}
use Rattle.std.specs.Prelude.{Result, Ok, Err, OnOk}
use Rattle.json.specs.Print.{quoted}
use Rattle.serde_json.specs.Data.{Data, object, Members, member}
use Rattle.serde_json.specs.View.{items_of}
use Rattle.serde_json.specs.Written.{compact_text, comma_if, items_text, members_text}
use Rattle.whips_script_writing.specs.Objects.{list_data, behind_commas}

-- what follows where there is memory
pub on_ok : {T E P Q : Type 0} (r : Result T E) → OnOk r P → (P → Q) → OnOk r Q
on_ok (Ok x) p to = to p
on_ok (Err e) p to = tt

rest_text : (ds : List Data) → items_text true (items_of ds) ≡ behind_commas ds ++ 93 ∷ []
rest_text [] = refl
rest_text (d ∷ ds) = ap (λ t. 44 ∷ (compact_text d ++ t)) (rest_text ds) ∙ ap (λ t. 44 ∷ t) (sym (append_assoc (compact_text d) (behind_commas ds) (93 ∷ [])))

-- a list's text by its first element and the others
pub list_text : (d : Data) (ds : List Data) (old a b c new : List ℕ) → a ≡ old ++ 91 ∷ [] → b ≡ a ++ compact_text d → c ≡ b ++ behind_commas ds → new ≡ c ++ 93 ∷ [] → new ≡ old ++ compact_text (list_data (d ∷ ds))
list_text d ds old a b c new start first rest end = rw (end, rest, first, start, rest_text ds) (simp append_assoc)

-- an object's text by a member and those behind it
pub member_text : (later : Bool) (k : List ℕ) (d : Data) (ms : Members) (old a b : List ℕ) → a ≡ old ++ (comma_if later ++ (quoted k ++ 58 ∷ [])) → b ≡ a ++ compact_text d → b ++ members_text true ms ≡ old ++ members_text later (member k d ms)
member_text later k d ms old a b name value = rw (value, name) (simp append_assoc)

-- an object's text by its members
pub object_text : (ms : Members) (old a : List ℕ) → a ≡ old ++ 123 ∷ [] → a ++ members_text false ms ≡ old ++ compact_text (object ms)
object_text ms old a start = rw start (append_assoc old (123 ∷ []) (members_text false ms))
