-- Lists of data, and their texts.
use Rattle.std.proofs.Common.{◌≡◌, ℕ, List, [], length, nat_le, Some, Ok, sym, ap, ◌∙◌}
use Rattle.std.specs.Prelude.{fold}
use Rattle.std.proofs.Math.Nat.{le_refl}
use Rattle.serde_json.specs.Data.{Data}
use Rattle.whips_reading.specs.declared.place.Code.TheVariants.{Shape, Limit}
use Rattle.whips_reading.specs.Json.{Text}
use Rattle.whips_reading.specs.Places.{Place}
use Rattle.whips_reading.specs.Reading.{◌>>=◌, ◌>>◌, check, there, elements_of, listed, elements}
use Rattle.whips_texts.specs.Dictionary.{with_each_of, with_each}
use Rattle.whips_script_laws.proofs.Parts.{bound, tested}
use Rattle.whips_script_writing.specs.Objects.{list_data}
use Rattle.whips_canonical_laws.proofs.Lists.{same_value, listed_is, elements_listed}
use Rattle.whips_canonical_laws.proofs.Rows.{elements_back}

-- the elements of a list are these
pub elements_are : (ds : List Data) → elements_of (list_data ds) ≡ Some ds
elements_are ds = listed_is [] (list_data ds) ds (elements_listed 0 (length ds) [] (list_data ds) ds (elements_back (length ds) [] ds (le_refl (length ds))))

-- a list of as many elements as one that was read is read as they are
pub elements_again : (least most : ℕ) (p q : Place) (d : Data) (ds es : List Data) → elements least most p d ≡ Ok ds → length es ≡ length ds → elements least most q (list_data es) ≡ Ok es
elements_again least most p q d ds es e count =
    let b = bound (listed p d) _ ds e in
    let low = tested (nat_le least (length b.0)) Shape p _ ds b.2 in
    let high = tested (nat_le (length b.0) most) Limit p _ ds low.1 in
    let many : length es ≡ length b.0 = count ∙ ap length (sym (same_value b.0 ds high.1)) in
    ap (λ o. there o Shape q >>= λ xs. check (nat_le least (length xs)) Shape q >> (check (nat_le (length xs) most) Limit q >> Ok xs)) (elements_are es)
    ∙ ap (λ c. check c Shape q >> (check (nat_le (length es) most) Limit q >> Ok es)) (ap (nat_le least) many ∙ low.0)
    ∙ ap (λ c. check c Limit q >> Ok es) (ap (λ n. nat_le n most) many ∙ high.0)

-- the texts of a list are those of its elements
pub each_texts : (step : List Text → Data → List Text) (texts : List Text) (d : Data) (ds : List Data) → elements_of d ≡ Some ds → with_each step texts d ≡ fold step texts ds
each_texts step texts d ds e = ap (with_each_of step texts) e
