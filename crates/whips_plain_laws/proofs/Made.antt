-- Plain data of a depth: texts, numbers, and lists and objects of such data.
use Rattle.std.proofs.Common.{ℕ, zero, suc, ◌^◌, ◌<◌, ◌≤◌, List, [], ◌∷◌, map, arith}
use Rattle.std.specs.List.{AllByRecursion}
use Rattle.std.proofs.Math.Nat.{max-le}
use Rattle.serde_json.specs.Data.{Data, string, no_members, depth, items_depth, members_depth}
use Rattle.serde_json.specs.View.{items_of}
use Rattle.whips_lists.specs.Lists.{map_with_place}
use Rattle.whips_reading.specs.declared.place.Member.{Member}
use Rattle.whips_reading.specs.Json.{Text}
use Rattle.whips_script_writing.specs.Objects.{number_data, list_data, text_list, members_data, object_data}
use Rattle.whips_canonical_laws.specs.Plain.{InOrder, IsPlain, ArePlain, ArePlainMembers}

-- Plain, and nested at most n deep.
abbrev pub IsPlainTo : ℕ → Data → Type 0
IsPlainTo n d = IsPlain d × (depth d ≤ n)

zero_least : (n : ℕ) → zero ≤ n
zero_least n = omega arith

one_more : (m n : ℕ) → m ≤ n → suc m ≤ suc n
one_more m n le = omega arith

pub deeper : (m n : ℕ) (d : Data) → m ≤ n → IsPlainTo m d → IsPlainTo n d
deeper m n d le h = (h.0, below (depth d) h.1)
  where
    below : (k : ℕ) → k ≤ m → k ≤ n
    below k low = omega arith

-- ---- texts and numbers

pub text_plain : (n : ℕ) (t : Text) → IsPlainTo n (string t)
text_plain n t = (tt, zero_least n)

pub number_plain : (n k : ℕ) → k < 2 ^ 64 → IsPlainTo n (number_data k)
number_plain n k small = (small, zero_least n)

-- ---- lists

items_plain : (n : ℕ) (ds : List Data) → AllByRecursion (IsPlainTo n) ds → ArePlain (items_of ds) × (items_depth (items_of ds) ≤ n)
items_plain n [] h = (tt, zero_least n)
items_plain n (d ∷ ds) h = let rest = items_plain n ds h.1 in ((h.0.0, rest.0), max-le h.0.1 rest.1)

pub list_plain : (n : ℕ) (ds : List Data) → AllByRecursion (IsPlainTo n) ds → IsPlainTo (suc n) (list_data ds)
list_plain n ds h = let items = items_plain n ds h in (items.0, one_more (items_depth (items_of ds)) n items.1)

module _ {X : Type 0} (P : Data → Type 0) where
  pub each_of : (f : X → Data) → ((x : X) → P (f x)) → (xs : List X) → AllByRecursion P (map f xs)
  each_of f h [] = tt
  each_of f h (x ∷ xs) = (h x, each_of f h xs)

  pub each_with_place : (f : ℕ → X → Data) → ((i : ℕ) (x : X) → P (f i x)) → (i : ℕ) (xs : List X) → AllByRecursion P (map_with_place f i xs)
  each_with_place f h i [] = tt
  each_with_place f h i (x ∷ xs) = (h i x, each_with_place f h (suc i) xs)

pub list_of_plain : {X : Type 0} (n : ℕ) (f : X → Data) → ((x : X) → IsPlainTo n (f x)) → (xs : List X) → IsPlainTo (suc n) (list_data (map f xs))
list_of_plain n f h xs = list_plain n (map f xs) (each_of (IsPlainTo n) f h xs)

pub texts_plain : (n : ℕ) (texts : List Text) → IsPlainTo (suc n) (text_list texts)
texts_plain n texts = list_of_plain n string (text_plain n) texts

-- ---- objects

members_plain : (n : ℕ) (ms : List (Member × Data)) → AllByRecursion (λ m. IsPlainTo n m.1) ms → ArePlainMembers (members_data ms) × (members_depth (members_data ms) ≤ n)
members_plain n [] h = (tt, zero_least n)
members_plain n ((m, d) ∷ ms) h = let rest = members_plain n ms h.1 in ((h.0.0, rest.0), max-le h.0.1 rest.1)

-- each member stands behind those before it, and is plain
pub object_plain : (n : ℕ) (ms : List (Member × Data)) → InOrder no_members (members_data ms) → AllByRecursion (λ m. IsPlainTo n m.1) ms → IsPlainTo (suc n) (object_data ms)
object_plain n ms order h = let members = members_plain n ms h in ((members.0, order), one_more (members_depth (members_data ms)) n members.1)
