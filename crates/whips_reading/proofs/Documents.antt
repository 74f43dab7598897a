-- Lists and objects of a JSON document.
use Rattle.std.proofs.Common.{◌≡◌, Bool, ◌&&◌, List, [], ◌∷◌, map, refl, ap, string_bytes, String}
use Rattle.std.specs.List.{list_all}
use Rattle.std.specs.declared.alloc.Global.{Global}
use Rattle.serde_json.specs.Data.{Data}
use Rattle.serde_json.specs.View.{items_of, members_of}
use Rattle.whips_reading.specs.Json.{Text, list_of, all_names}

pub list_of-items_of : (ds : List Data) → list_of (items_of ds) ≡ ds
list_of-items_of [] = refl
list_of-items_of (d ∷ ds) = ap (λ l. d ∷ l) (list_of-items_of ds)

-- the names of members seen as data
module _ {A : Type 0} (test : Text → Bool) (see : A → Data) where
  pub all_names-members_of : (ms : List (String Global × A)) → all_names test (members_of (map (λ m. (m.0, see m.1)) ms)) ≡ list_all (λ k. test (string_bytes k)) (map (λ m. m.0) ms)
  all_names-members_of [] = refl
  all_names-members_of (m ∷ ms) = ap (λ b. test (string_bytes m.0) && b) (all_names-members_of ms)
