-- A union of values only grows, and has a row for each change.
use Rattle.std.proofs.Common.{ℕ, suc, ◌≤◌, List, [], ◌∷◌, length, Option, Some, None, ap, arith}
use Rattle.std.specs.Prelude.{map, fold, reverse}
use Rattle.std.specs.List.{filter_map, cons_option}
use Rattle.std.specs.Ordering.{match_ordering}
use Rattle.std.specs.declared.cmp.Ordering.TheVariants.{Less, Equal, Greater}
use Rattle.std.proofs.lemmas.List.{length-map, reverse-append}
use Rattle.whips_model.specs.Tuples.{Codes, codes_cmp, at_columns, put_row}
use Rattle.whips_changes.specs.Changes.{union_rows, net_changes, change_at, ChangesWithinNeed}

put_grows : (columns : List ℕ) (t : Codes) (rows : List Codes) → length rows ≤ length (put_row columns t rows)
put_grows columns t [] = omega arith
put_grows columns t (u ∷ rows) = elim (codes_cmp (at_columns columns t) (at_columns columns u)) as (λ o. suc (length rows) ≤ length (match_ordering o (t ∷ u ∷ rows) (t ∷ rows) (u ∷ put_row columns t rows))) [
  | Less ↦ omega arith
  | Equal ↦ omega arith
  | Greater ↦ omega (arith, put_grows columns t rows)
]

module _ (columns : List ℕ) where
  puts_grow : (ts rows : List Codes) → length rows ≤ length (fold (λ rows t. put_row columns t rows) rows ts)
  puts_grow [] rows = omega arith
  puts_grow (t ∷ ts) rows = omega (arith, puts_grow ts (put_row columns t rows), put_grows columns t rows)

  unions_grow : (values : List (List Codes)) (rows : List Codes) → length rows ≤ length (fold (fold (λ rows t. put_row columns t rows)) rows values)
  unions_grow [] rows = omega arith
  unions_grow (ts ∷ values) rows = omega (arith, unions_grow values (fold (λ rows t. put_row columns t rows) rows ts), puts_grow ts rows)

filter_map_short : {A B : Type 0} (g : A → Option B) (xs : List A) → length (filter_map g xs) ≤ length xs
filter_map_short g [] = omega arith
filter_map_short g (x ∷ xs) = omega (arith, go (g x), filter_map_short g xs)
  where
    go : (o : Option _) → length (cons_option o (filter_map g xs)) ≤ suc (length (filter_map g xs))
    go None = omega arith
    go (Some y) = omega arith

net_short : (columns : List ℕ) (before after : List Codes) (older : List (List Codes)) → length (net_changes columns before after) ≤ length (union_rows columns (after ∷ before ∷ older))
net_short columns before after older =
    let u = union_rows columns (after ∷ before ∷ []) in
    omega (arith, filter_map_short (change_at columns before after) (map (at_columns columns) u), length-map u (at_columns columns), unions_grow columns older u)

pub within_need : ChangesWithinNeed
within_need columns older before after = omega (arith, net_short columns before after (reverse older), ap (λ values. length (union_rows columns values)) (reverse-append older (before ∷ after ∷ [])))
