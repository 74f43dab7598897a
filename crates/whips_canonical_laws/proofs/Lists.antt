-- Lists, texts and names that were read are the data that they were read from.
use Rattle.std.proofs.Common.{◌≡◌, ℕ, zero, suc, ◌+◌, Bool, true, false, nat_le, cond, List, [], ◌∷◌, ◌++◌, length, map, find, Option, Some, None, Ok, refl, sym, ap, ap₂, subst, ◌∙◌, append_assoc, append-nil}
use Rattle.std.specs.Prelude.{if◌then◌else◌, ⊤}
use Rattle.std.specs.List.{AllByRecursion}
use Rattle.std.specs.Option.{option_map}
use Rattle.std.specs.Str.{bytes_eq}
use Rattle.std.proofs.lemmas.Slice.Eq.{bytes_eq-Decides}
use Rattle.serde_json.specs.Data.{Data, null, boolean, number, string, array, object, Items, no_items, item}
use Rattle.serde_json.specs.Find.{as_str}
use Rattle.serde_json.specs.View.{items_of}
use Rattle.whips_reports.specs.Lines.{name_at}
use Rattle.whips_reading.specs.declared.place.Code.TheVariants.{Shape, Limit, Name}
use Rattle.whips_reading.specs.Json.{Text, list_of}
use Rattle.whips_reading.specs.Places.{Place, in_element}
use Rattle.whips_reading.specs.Reading.{Read, ◌>>=◌, ◌>>◌, check, elements_of, listed, elements, pair_of, triple_of, pair, triple, in_turn}
use Rattle.whips_reading.specs.Names.{place_of, text_in, named}
use Rattle.whips_script_laws.proofs.Parts.{bound, tested, there_is}
use Rattle.whips_script_writing.specs.Objects.{list_data}

-- ---- choices

pub choose : {K P A : Type 0} (b : Bool) (x y a : A) → (b ≡ true → K) → (if b then x else y) ≡ a → (K → x ≡ a → P) → (y ≡ a → P) → P
choose true x y a k h f g = f (k refl) h
choose false x y a k h f g = g h

pub by_word : {P A : Type 0} (w v : Text) (x y a : A) → (if bytes_eq w v then x else y) ≡ a → (w ≡ v → x ≡ a → P) → (y ≡ a → P) → P
by_word w v x y a = choose (bytes_eq w v) x y a ((bytes_eq-Decides w v).0)

map_some : {A B : Type 0} (f : A → B) (o : Option A) (b : B) → option_map f o ≡ Some b → (a : A) × (o ≡ Some a) × (f a ≡ b)
map_some f None b h = absurd (cc)
map_some f (Some a) b h = (a, refl, cc)

pub found_is : {X : Type 0} (p : X → Bool) (xs : List X) (x : X) → find p xs ≡ Some x → p x ≡ true
found_is p [] x e = absurd (cc)
found_is p (y ∷ xs) x e = go (λ f. found_is p xs x f) (p y) refl e
  where
    go : (find p xs ≡ Some x → p x ≡ true) → (b : Bool) → p y ≡ b → cond b (Some y) (find p xs) ≡ Some x → p x ≡ true
    go ih true h f = let same : y ≡ x = cc in subst (λ z. p z ≡ true) same h
    go ih false h f = ih f

-- ---- texts and names

pub text_is : (d : Data) (t : Text) → as_str d ≡ Some t → string t ≡ d
text_is null t e = absurd (cc)
text_is (boolean b) t e = absurd (cc)
text_is (number n) t e = absurd (cc)
text_is (string s) t e = let same : s ≡ t = cc in ap string (sym same)
text_is (array ds) t e = absurd (cc)
text_is (object ms) t e = absurd (cc)

pub text_written : (place : Place) (d : Data) (t : Text) → text_in place d ≡ Ok t → string t ≡ d
text_written place d t e = text_is d t (there_is (as_str d) Shape place t e)

pub name_there : (names : List Text) (t : Text) (i : ℕ) → place_of names t ≡ Some i → t ≡ name_at names i
name_there [] t i h = absurd (cc)
name_there (n ∷ names) t i h = by_word n t (Some 0) (option_map suc (place_of names t)) (Some i) h
    (λ is e. let first : zero ≡ i = cc in subst (λ k. t ≡ name_at (n ∷ names) k) first (sym is))
    (λ e. let m = map_some suc (place_of names t) i e in subst (λ k. t ≡ name_at (n ∷ names) k) m.2 (name_there names t m.0 m.1))

pub name_written : (names : List Text) (place : Place) (d : Data) (i : ℕ) → named names place d ≡ Ok i → string (name_at names i) ≡ d
name_written names place d i e =
    let b = bound (text_in place d) _ i e in
    ap string (sym (name_there names b.0 i (there_is (place_of names b.0) Name place i b.2))) ∙ text_written place d b.0 b.1

-- ---- lists

pub same_value : {A : Type 0} (x y : A) → (let r : Read A = Ok x in r) ≡ Ok y → x ≡ y
same_value x y e = cc

items_again : (ds : Items) → items_of (list_of ds) ≡ ds
items_again no_items = refl
items_again (item d ds) = ap (item d) (items_again ds)

elements_again : (d : Data) (ds : List Data) → elements_of d ≡ Some ds → list_data ds ≡ d
elements_again null ds e = absurd (cc)
elements_again (boolean b) ds e = absurd (cc)
elements_again (number n) ds e = absurd (cc)
elements_again (string s) ds e = absurd (cc)
elements_again (array items) ds e = let same : list_of items ≡ ds = cc in ap array (ap items_of (sym same) ∙ items_again items)
elements_again (object ms) ds e = absurd (cc)

pub listed_again : (ds : List Data) → list_of (items_of ds) ≡ ds
listed_again [] = refl
listed_again (d ∷ ds) = ap (λ xs. d ∷ xs) (listed_again ds)

pub listed_is : (place : Place) (d : Data) (ds : List Data) → listed place d ≡ Ok ds → elements_of d ≡ Some ds
listed_is place d ds e = there_is (elements_of d) Shape place ds e

pub listed_written : (place : Place) (d : Data) (ds : List Data) → listed place d ≡ Ok ds → list_data ds ≡ d
listed_written place d ds e = elements_again d ds (listed_is place d ds e)

pub elements_listed : (least most : ℕ) (place : Place) (d : Data) (ds : List Data) → elements least most place d ≡ Ok ds → listed place d ≡ Ok ds
elements_listed least most place d ds e =
    let b = bound (listed place d) _ ds e in
    let low = tested (nat_le least (length b.0)) Shape place _ ds b.2 in
    let high = tested (nat_le (length b.0) most) Limit place _ ds low.1 in
    let same : b.0 ≡ ds = cc in
    b.1 ∙ ap Ok same

-- a list of as many elements as one that was read
pub elements_alike : (least most : ℕ) (place : Place) (d : Data) (ds es : List Data) → elements least most place d ≡ Ok ds → length es ≡ length ds → elements least most place (list_data es) ≡ Ok es
elements_alike least most place d ds es e n =
    let b = bound (listed place d) _ ds e in
    let low = tested (nat_le least (length b.0)) Shape place _ ds b.2 in
    let high = tested (nat_le (length b.0) most) Limit place _ ds low.1 in
    let same : b.0 ≡ ds = same_value _ _ high.1 in
    let count : length b.0 ≡ length es = ap length same ∙ sym n in
    let enough : nat_le least (length es) ≡ true = ap (nat_le least) (sym count) ∙ low.0 in
    let few : nat_le (length es) most ≡ true = ap (λ k. nat_le k most) (sym count) ∙ high.0 in
    ap (λ xs. check (nat_le least (length xs)) Shape place >> (check (nat_le (length xs) most) Limit place >> Ok xs)) (listed_again es)
    ∙ ap (λ c. check c Shape place >> (check (nat_le (length es) most) Limit place >> Ok es)) enough
    ∙ ap (λ c. check c Limit place >> Ok es) few

-- what was read is one thing
one_value : {A : Type 0} (r : Read A) (x y : A) → r ≡ Ok x → r ≡ Ok y → x ≡ y
one_value r x y e f = cc

pub pair_written : (place : Place) (d a b : Data) → pair place d ≡ Ok (a, b) → list_data (a ∷ b ∷ []) ≡ d
pair_written place d a b e = let l = bound (listed place d) (pair_of place) (a, b) e in go l.0 l.1 l.2
  where
    go : (ds : List Data) → listed place d ≡ Ok ds → pair_of place ds ≡ Ok (a, b) → list_data (a ∷ b ∷ []) ≡ d
    go [] l f = absurd (cc)
    go (x ∷ []) l f = absurd (cc)
    go (x ∷ y ∷ []) l f =
        let same = one_value (pair_of place (x ∷ y ∷ [])) (x, y) (a, b) refl f in
        ap (λ (p : Data × Data). list_data (p.0 ∷ p.1 ∷ [])) (sym same) ∙ listed_written place d (x ∷ y ∷ []) l
    go (x ∷ y ∷ z ∷ ds) l f = absurd (cc)

pub triple_listed : (place : Place) (d a b c : Data) → triple place d ≡ Ok (a, b, c) → listed place d ≡ Ok (a ∷ b ∷ c ∷ [])
triple_listed place d a b c e = let l = bound (listed place d) (triple_of place) (a, b, c) e in l.1 ∙ ap Ok (go l.0 l.2)
  where
    go : (ds : List Data) → triple_of place ds ≡ Ok (a, b, c) → ds ≡ a ∷ b ∷ c ∷ []
    go [] f = absurd (cc)
    go (x ∷ []) f = absurd (cc)
    go (x ∷ y ∷ []) f = absurd (cc)
    go (x ∷ y ∷ z ∷ []) f = ap (λ (p : Data × Data × Data). p.0 ∷ p.1 ∷ p.2 ∷ []) (one_value (triple_of place (x ∷ y ∷ z ∷ [])) (x, y, z) (a, b, c) refl f)
    go (x ∷ y ∷ z ∷ w ∷ ds) f = absurd (cc)

-- where each element that is read is one more x, whose data it is, the data of all of them are the elements
module _ {X : Type 0} (step : List X → Place → Data → Read (List X)) (data_of : X → Data) (P : Data → Type 0) (one : (s t : List X) (place : Place) (d : Data) → P d → step s place d ≡ Ok t → (x : X) × (t ≡ s ++ x ∷ []) × (data_of x ≡ d)) where
  made : (place : Place) (i : ℕ) (s t : List X) (ds : List Data) → AllByRecursion P ds → in_turn step place i s ds ≡ Ok t → (xs : List X) × (t ≡ s ++ xs) × (map data_of xs ≡ ds)
  made place i s t [] h e = let same : s ≡ t = cc in ([], sym same ∙ sym (append-nil s), refl)
  made place i s t (d ∷ ds) h e =
      let b = bound (step s (in_element place i) d) (λ u. in_turn step place (i + 1) u ds) t e in
      let first = one s b.0 (in_element place i) d h.0 b.1 in
      let rest = made place (i + 1) b.0 t ds h.1 b.2 in
      (first.0 ∷ rest.0, rest.1 ∙ ap (λ l. l ++ rest.0) first.1 ∙ append_assoc s (first.0 ∷ []) rest.0, ap₂ (λ x xs. x ∷ xs) first.2 rest.2)

  pub list_made : (least most : ℕ) (place : Place) (d : Data) (t : List X) → ((ds : List Data) → elements_of d ≡ Some ds → AllByRecursion P ds) → (elements least most place d >>= in_turn step place 0 []) ≡ Ok t → list_data (map data_of t) ≡ d
  list_made least most place d t h e =
      let b = bound (elements least most place d) (in_turn step place 0 []) t e in
      let l = elements_listed least most place d b.0 b.1 in
      let m = made place 0 [] t b.0 (h b.0 (listed_is place d b.0 l)) b.2 in
      ap (λ xs. list_data (map data_of xs)) m.1 ∙ ap list_data m.2 ∙ listed_written place d b.0 l

-- where nothing is asked of the elements
pub all_plain : (ds : List Data) → AllByRecursion (λ _. ⊤) ds
all_plain [] = tt
all_plain (d ∷ ds) = (tt, all_plain ds)
