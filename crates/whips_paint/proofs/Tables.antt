-- What each call keeps of a table.
use Rattle.std.proofs.Common.{◌≡◌, ℕ, zero, suc, ◌+◌, ◌<◌, ◌≤◌, Bool, true, false, List, [], ◌∷◌, ◌++◌, length, cond, Some, None, leb, refl, sym, ap, ◌∙◌, arith, take, drop}
use Rattle.std.specs.Prelude.{map, filter, slice_get, position}
use Rattle.std.specs.Option.{option_map}
use Rattle.std.proofs.lemmas.List.{length-map, take_more, take_all, drop_all, append-nil}
use Rattle.std.proofs.lemmas.List.Quantifiers.{all_pairs_push}
use Rattle.std.proofs.lemmas.List.Kept.{AllPairs-filter}
use Rattle.std.proofs.lemmas.List.Elements.{filter-append, All-push, All-filter, All-map}
use Rattle.std.proofs.Math.ListN.{get_or}
use Rattle.whips_lists.specs.Lists.{places_from, changed_at}
use Rattle.whips_flow.specs.Painted.{Row, with_row, painted_row, painted_rows, reddened_entry, closure, has_number, rows_with, rows_without, is_ready}
use Rattle.whips_paint.specs.Table.{ViewTable, with_rows, IsInOrder, placed_row, new_entries, ready_numbers, ready_rows, rows_left}
use Rattle.whips_paint.proofs.Entries.{colour_at}
use Rattle.whips_paint.proofs.Ready.{found_from_position, none_from_position}

length-places_from : (k n : ℕ) → length (places_from k n) ≡ n
length-places_from k zero = refl
length-places_from k (suc n) = omega (arith, length-places_from (suc k) n)

length-new_entries : (n : ℕ) (ks : List ℕ) → length (new_entries n ks) ≡ n
length-new_entries n ks = length-map (places_from 0 n) (colour_at ks) ∙ length-places_from 0 n

length-changed_at : {A : Type 0} (i : ℕ) (f : A → A) (xs : List A) → length (changed_at i f xs) ≡ length xs
length-changed_at i f [] = refl
length-changed_at zero f (x ∷ xs) = refl
length-changed_at (suc i) f (x ∷ xs) = omega (arith, length-changed_at i f xs)

-- ---- a new row

pub order_push : (t : ViewTable) (number source place : ℕ) (ks : List ℕ) → IsInOrder t → t.table.last_announced < number → IsInOrder (record { views = t.views; table = with_row (placed_row t.views number source place ks) t.table })
order_push t number source place ks h above = record {
  rising = all_pairs_push (λ r q. r.number < q.number) t.table.rows (placed_row t.views number source place ks) h.rising (λ k d lt. below k d lt);
  announced = All-push (λ r. r.number ≤ number) t.table.rows (placed_row t.views number source place ks) (λ k d lt. let low : (get_or t.table.rows k d).number < number = below k d lt in omega arith) (omega arith);
  wide = All-push (λ r. length r.entries ≡ t.views) t.table.rows (placed_row t.views number source place ks) h.wide (length-new_entries t.views ks);
}
  where
    below : (k : ℕ) (d : Row) → k < length t.table.rows → (get_or t.table.rows k d).number < number
    below k d lt = let said : (get_or t.table.rows k d).number ≤ t.table.last_announced = h.announced k d lt in omega arith

-- ---- painting

length-painted : (x j : ℕ) (r : Row) → length (painted_row x j r).entries ≡ length r.entries
length-painted x j r = go (leb r.number j)
  where
    go : (b : Bool) → length (cond b (changed_at x (reddened_entry j) r.entries) r.entries) ≡ length r.entries
    go true = length-changed_at x (reddened_entry j) r.entries
    go false = refl

get_or-mapped : (f : Row → Row) (rows : List Row) (k : ℕ) (d : Row) → k < length rows → get_or (map f rows) k d ≡ f (get_or rows k d)
get_or-mapped f [] k d lt = absurd (omega arith)
get_or-mapped f (r ∷ rows) zero d lt = refl
get_or-mapped f (r ∷ rows) (suc k) d lt = get_or-mapped f rows k d (omega arith)

pub order_paint : (t : ViewTable) (x j : ℕ) → IsInOrder t → IsInOrder (with_rows t (painted_rows x t.table.rows j))
order_paint t x j h = record {
  rising = λ k l d lt below.
      let within : l < length t.table.rows = omega (arith, length-map t.table.rows (painted_row x j)) in
      let first : (get_or (map (painted_row x j) t.table.rows) k d).number ≡ (get_or t.table.rows k d).number = ap (λ r. r.number) (get_or-mapped (painted_row x j) t.table.rows k d (omega arith)) in
      let second : (get_or (map (painted_row x j) t.table.rows) l d).number ≡ (get_or t.table.rows l d).number = ap (λ r. r.number) (get_or-mapped (painted_row x j) t.table.rows l d within) in
      let said : (get_or t.table.rows k d).number < (get_or t.table.rows l d).number = h.rising k l d lt within in
      omega arith;
  announced = All-map (λ r. r.number ≤ t.table.last_announced) (painted_row x j) t.table.rows h.announced;
  wide = All-map (λ r. length r.entries ≡ t.views) (painted_row x j) t.table.rows (λ k d lt. length-painted x j (get_or t.table.rows k d) ∙ h.wide k d lt);
}

-- ---- taking rows

pub order_filter : (t : ViewTable) (p : Row → Bool) → IsInOrder t → IsInOrder (with_rows t (filter p t.table.rows))
order_filter t p h = record {
  rising = AllPairs-filter (λ r q. r.number < q.number) p t.table.rows h.rising;
  announced = All-filter p (λ r. r.number ≤ t.table.last_announced) t.table.rows h.announced;
  wide = All-filter p (λ r. length r.entries ≡ t.views) t.table.rows h.wide;
}

pub none_ready : (rows : List Row) → position (is_ready rows) rows ≡ None → ready_numbers rows ≡ None
none_ready rows h = ap (option_map (λ r. closure rows r.number)) (none_from_position (is_ready rows) rows h)

pub some_ready : (rows : List Row) (k : ℕ) (numbers : List ℕ) → position (is_ready rows) rows ≡ Some k → option_map (λ r. closure rows r.number) (slice_get rows k) ≡ Some numbers → ready_numbers rows ≡ Some numbers
some_ready rows k numbers h e = ap (option_map (λ r. closure rows r.number)) (sym (found_from_position (is_ready rows) rows k h).1) ∙ e

-- all rows were painted
pub painted_whole : (x j : ℕ) (rows now : List Row) (i : ℕ) → now ≡ map (painted_row x j) (take i rows) ++ drop i rows → length rows ≤ i → now ≡ map (painted_row x j) rows
painted_whole x j rows now i h le = h ∙ ap (λ ys. map (painted_row x j) (take i rows) ++ ys) (drop_all i rows le) ∙ append-nil (map (painted_row x j) (take i rows)) ∙ ap (map (painted_row x j)) (take_all i rows le)

pub left_none : (rows : List Row) → ready_numbers rows ≡ None → rows_left (ready_numbers rows) rows ≡ rows
left_none rows h = ap (λ o. rows_left o rows) h

pub left_some : (rows : List Row) (numbers : List ℕ) → ready_numbers rows ≡ Some numbers → rows_left (ready_numbers rows) rows ≡ rows_without numbers rows
left_some rows numbers h = ap (λ o. rows_left o rows) h

-- one row more was looked at
pub rows_with_more : (numbers : List ℕ) (rows copies new : List Row) (i : ℕ) (r : Row) → i < length rows → r ≡ get_or rows i r → copies ≡ rows_with numbers (take i rows) → new ≡ copies ++ cond (has_number numbers r.number) (r ∷ []) [] → new ≡ rows_with numbers (take (i + 1) rows)
rows_with_more numbers rows copies new i r lt is was more =
    more ∙ ap (λ l. l ++ cond (has_number numbers r.number) (r ∷ []) []) was
    ∙ sym (filter-append (λ q. has_number numbers q.number) (take i rows) (r ∷ []))
    ∙ ap (λ q. rows_with numbers (take i rows ++ q ∷ [])) is
    ∙ ap (rows_with numbers) (sym (take_more rows i r lt))

pub ready_rows_none : (rows : List Row) → ready_numbers rows ≡ None → ready_rows rows ≡ None
ready_rows_none rows h = ap (option_map (λ ns. rows_with ns rows)) h

pub ready_rows_some : (rows : List Row) (numbers : List ℕ) → ready_numbers rows ≡ Some numbers → ready_rows rows ≡ Some (rows_with numbers rows)
ready_rows_some rows numbers h = ap (option_map (λ ns. rows_with ns rows)) h
