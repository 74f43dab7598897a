-- Lists of tuples in the order of their keys: what a search finds in them, and what edits leave.
use Rattle.std.proofs.Common.{◌≡◌, ℕ, zero, suc, ◌+◌, ◌<◌, ◌≤◌, Bool, true, false, List, [], ◌∷◌, length, get_or, take, drop, Some, None, Ok, Err, Result, IfOk, IfErr, cond, refl, sym, ap, subst, ◌∙◌, arith, not}
use Rattle.std.specs.List.{insert, remove, filter, AllByRecursion, AllWithin}
use Rattle.std.specs.List.Sorted.{IsSearchInRange, IsBinarySearchResult, IsNonDecreasingBy, IsSortedBy}
use Rattle.std.specs.Ordering.{ordering_index, ordering_reverse, is_lt, is_eq, match_ordering}
use Rattle.std.specs.declared.cmp.Ordering.{Ordering}
use Rattle.std.specs.declared.cmp.Ordering.TheVariants.{Less, Equal, Greater}
use Rattle.std.proofs.lemmas.Cmp.{nat_list_cmp_total}
use Rattle.std.proofs.lemmas.List.Sorted.{searchable_from_sorted}
use Rattle.whips_model.specs.Relation.{IsTable}
use Rattle.whips_model.specs.Tuples.{Columns, Codes, codes_cmp, at_columns, has_key, row_at, put_row, without_key, IsBefore, IsKeyed}
use Rattle.whips_model.specs.Search.{IsRowAt, IsGapFor, Finds, Misses}

-- ---- the order of keys

pub codes_reverse : (x y : Codes) → codes_cmp x y ≡ ordering_reverse (codes_cmp y x)
codes_reverse x y = nat_list_cmp_total.antisymm x y

pub codes_trans : (x y z : Codes) → codes_cmp x y ≡ Less → codes_cmp y z ≡ Less → codes_cmp x z ≡ Less
codes_trans x y z = nat_list_cmp_total.trans x y z

pub greater_from_less : (x y : Codes) → codes_cmp x y ≡ Less → codes_cmp y x ≡ Greater
greater_from_less x y e = codes_reverse y x ∙ ap ordering_reverse e

pub less_from_greater : (x y : Codes) → codes_cmp x y ≡ Greater → codes_cmp y x ≡ Less
less_from_greater x y e = codes_reverse y x ∙ ap ordering_reverse e

-- ---- lists

module _ {X : Type 0} (P : X → Type 0) where
  -- from each place to each element
  pub all_from_within : (xs : List X) → ((k : ℕ) (d : X) → k < length xs → P (get_or xs k d)) → AllByRecursion P xs
  all_from_within [] h = tt
  all_from_within (x ∷ xs) h = (h 0 x (omega arith), all_from_within xs (λ k d lt. h (suc k) d (omega arith)))

  pub all_at : (xs : List X) (k : ℕ) (d : X) → AllByRecursion P xs → k < length xs → P (get_or xs k d)
  all_at [] k d h lt = absurd (omega arith)
  all_at (x ∷ xs) zero d h lt = h.0
  all_at (x ∷ xs) (suc k) d h lt = all_at xs k d h.1 (omega arith)

module _ (cols : List ℕ) where
  abbrev pub key : Codes → Codes
  key = at_columns cols

  pub keyed_at : (rows : List Codes) (i j : ℕ) (d : Codes) → IsKeyed cols rows → i < j → j < length rows → IsBefore cols (get_or rows i d) (get_or rows j d)
  keyed_at [] i j d h lt in_range = absurd (omega arith)
  keyed_at (t ∷ rows) zero zero d h lt in_range = absurd (omega arith)
  keyed_at (t ∷ rows) zero (suc j) d h lt in_range = all_at (IsBefore cols t) rows j d h.0 (omega arith)
  keyed_at (t ∷ rows) (suc i) zero d h lt in_range = absurd (omega arith)
  keyed_at (t ∷ rows) (suc i) (suc j) d h lt in_range = keyed_at rows i j d h.1 (omega arith) (omega arith)

  sorted : (rows : List Codes) → IsKeyed cols rows → IsSortedBy (λ a b. is_lt (codes_cmp (at_columns cols a) (at_columns cols b))) rows
  sorted rows h k d low below = rw (greater_from_less _ _ (keyed_at rows k (k + 1) d h (omega arith) below)) refl

  -- the comparisons with k rise along the rows, as a binary search asks
  pub rises : (rows : List Codes) (k : Codes) → IsKeyed cols rows → IsNonDecreasingBy (λ t. ordering_index (codes_cmp (at_columns cols t) k)) rows
  rises rows k h = searchable_from_sorted nat_list_cmp_total (at_columns cols) rows k (sorted rows h)

  -- what a binary search by key answers
  pub searched : (rows : List Codes) (k : Codes) (r : Result ℕ ℕ) → IsKeyed cols rows → IsSearchInRange r (length rows) → IsBinarySearchResult (λ t. codes_cmp (at_columns cols t) k) rows r
      → IfOk r (IsRowAt cols rows k) × IfErr r (IsGapFor cols rows k)
  searched rows k (Ok i) h in_range same = (record { in_range = in_range; is_there = same [] }, tt)
  searched rows k (Err i) h in_range parted =
      let parts = parted (rises rows k h) in (
        tt,
        record {
          in_range = in_range;
          before = before_all rows i (λ t. codes_cmp (at_columns cols t) k ≡ Less) in_range parts.0;
          after = after_all rows i (λ t. codes_cmp (at_columns cols t) k ≡ Greater) parts.1;
        },
      )
    where
      before_all : (rows : List Codes) (i : ℕ) (P : Codes → Type 0) → i ≤ length rows → AllWithin P rows 0 i → AllByRecursion P (take i rows)
      before_all rows zero P le h = tt
      before_all [] (suc i) P le h = tt
      before_all (t ∷ rows) (suc i) P le h = (h 0 t (omega arith) (omega arith), before_all rows i P (omega arith) (λ k d low lt. h (suc k) d (omega arith) (omega arith)))

      after_all : (rows : List Codes) (i : ℕ) (P : Codes → Type 0) → AllWithin P rows i (length rows) → AllByRecursion P (drop i rows)
      after_all rows zero P h = all_from_within P rows (λ k d lt. h k d (omega arith) lt)
      after_all [] (suc i) P h = tt
      after_all (t ∷ rows) (suc i) P h = after_all rows i P (λ k d low lt. h (suc k) d (omega arith) (omega arith))

  -- ---- where no row has the key

  -- a row whose key is higher has not the key
  other_key : (k : Codes) (o : Ordering) (t : Codes) → codes_cmp (at_columns cols t) k ≡ o → is_eq o ≡ false → has_key cols k t ≡ false
  other_key k o t e ne = rw e ne

  none_above : (k : Codes) (rows : List Codes) → AllByRecursion (λ t. codes_cmp (at_columns cols t) k ≡ Greater) rows → row_at cols k rows ≡ None
  none_above k [] h = refl
  none_above k (t ∷ rows) h = rw h.0 (none_above k rows h.1)

  pub row_at_gap : (k : Codes) (rows : List Codes) (i : ℕ) → IsGapFor cols rows k i → row_at cols k rows ≡ None
  row_at_gap k rows zero gap = none_above k rows gap.after
  row_at_gap k [] (suc i) gap = refl
  row_at_gap k (t ∷ rows) (suc i) gap = rw gap.before.0 (row_at_gap k rows i (record { in_range = omega (arith, gap.in_range); before = gap.before.1; after = gap.after }))

  -- a new row in the gap for its key is put where it belongs
  pub insert_is_put : (t : Codes) (rows : List Codes) (i : ℕ) → IsGapFor cols rows (at_columns cols t) i → insert rows i t ≡ put_row cols t rows
  insert_is_put t [] zero gap = refl
  insert_is_put t (u ∷ rows) zero gap = rw (less_from_greater _ _ gap.after.0) refl
  insert_is_put t [] (suc i) gap = absurd (omega (arith, gap.in_range))
  insert_is_put t (u ∷ rows) (suc i) gap = rw (greater_from_less _ _ gap.before.0) (ap (λ l. u ∷ l) (insert_is_put t rows i (record { in_range = omega (arith, gap.in_range); before = gap.before.1; after = gap.after })))

  -- ---- a new row keeps the order

  all_put : (P : Codes → Type 0) (t : Codes) (rows : List Codes) → P t → AllByRecursion P rows → AllByRecursion P (put_row cols t rows)
  all_put P t [] p h = (p, tt)
  all_put P t (u ∷ rows) p h = elim (codes_cmp (at_columns cols t) (at_columns cols u)) as (λ o. AllByRecursion P (match_ordering o (t ∷ u ∷ rows) (t ∷ rows) (u ∷ put_row cols t rows))) [
    | Less ↦ (p, h)
    | Equal ↦ (p, h.1)
    | Greater ↦ (h.0, all_put P t rows p h.1)
  ]

  same_before : (t u : Codes) (rows : List Codes) → codes_cmp (at_columns cols t) (at_columns cols u) ≡ Equal → AllByRecursion (IsBefore cols u) rows → AllByRecursion (IsBefore cols t) rows
  same_before t u [] e h = tt
  same_before t u (v ∷ rows) e h = (nat_list_cmp_total.congr (key t) (key u) (key v) e ∙ h.0, same_before t u rows e h.1)

  less_before : (t u : Codes) (rows : List Codes) → IsBefore cols t u → AllByRecursion (IsBefore cols u) rows → AllByRecursion (IsBefore cols t) rows
  less_before t u [] e h = tt
  less_before t u (v ∷ rows) e h = (codes_trans (key t) (key u) (key v) e h.0, less_before t u rows e h.1)

  pub keyed_put : (t : Codes) (rows : List Codes) → IsKeyed cols rows → IsKeyed cols (put_row cols t rows)
  keyed_put t [] h = (tt, tt)
  keyed_put t (u ∷ rows) h = elim (codes_cmp (at_columns cols t) (at_columns cols u)) as (λ o. codes_cmp (at_columns cols t) (at_columns cols u) ≡ o → IsKeyed cols (match_ordering o (t ∷ u ∷ rows) (t ∷ rows) (u ∷ put_row cols t rows))) [
    | Less ↦ λ e. ((e, less_before t u rows e h.0), h)
    | Equal ↦ λ e. (same_before t u rows e h.0, h.1)
    | Greater ↦ λ e. (all_put (IsBefore cols u) t rows (less_from_greater (key t) (key u) e) h.0, keyed_put t rows h.1)
  ] refl

  -- ---- a row goes

  all_filter : (P : Codes → Type 0) (p : Codes → Bool) (rows : List Codes) → AllByRecursion P rows → AllByRecursion P (filter p rows)
  all_filter P p [] h = tt
  all_filter P p (t ∷ rows) h = elim (p t) as (λ b. AllByRecursion P (cond b (t ∷ filter p rows) (filter p rows))) [ true ↦ (h.0, all_filter P p rows h.1) | false ↦ all_filter P p rows h.1 ]

  pub keyed_filter : (p : Codes → Bool) (rows : List Codes) → IsKeyed cols rows → IsKeyed cols (filter p rows)
  keyed_filter p [] h = tt
  keyed_filter p (t ∷ rows) h = elim (p t) as (λ b. IsKeyed cols (cond b (t ∷ filter p rows) (filter p rows))) [ true ↦ (all_filter (IsBefore cols t) p rows h.0, keyed_filter p rows h.1) | false ↦ keyed_filter p rows h.1 ]

  -- rows above the key stay
  all_stay : (k : Codes) (rows : List Codes) → AllByRecursion (λ u. codes_cmp k (at_columns cols u) ≡ Less) rows → without_key cols k rows ≡ rows
  all_stay k [] h = refl
  all_stay k (u ∷ rows) h = rw (greater_from_less _ _ h.0) (ap (λ l. u ∷ l) (all_stay k rows h.1))

  above_key : (t k : Codes) (rows : List Codes) → codes_cmp (at_columns cols t) k ≡ Equal → AllByRecursion (IsBefore cols t) rows → AllByRecursion (λ u. codes_cmp k (at_columns cols u) ≡ Less) rows
  above_key t k [] e h = tt
  above_key t k (u ∷ rows) e h = (sym (nat_list_cmp_total.congr (key t) k (key u) e) ∙ h.0, above_key t k rows e h.1)

  -- the row found is the first with the key, and the only one
  found_less : (t u k : Codes) → IsBefore cols t u → codes_cmp (at_columns cols u) k ≡ Equal → codes_cmp (at_columns cols t) k ≡ Less
  found_less t u k b e = codes_reverse (key t) k ∙ ap ordering_reverse (sym (nat_list_cmp_total.congr (key u) k (key t) e) ∙ greater_from_less (key t) (key u) b)

  pub row_at_found : (k : Codes) (rows : List Codes) (i : ℕ) (d : Codes) → IsKeyed cols rows → IsRowAt cols rows k i → row_at cols k rows ≡ Some (get_or rows i d)
  row_at_found k [] i d h at = absurd (omega (arith, at.in_range))
  row_at_found k (t ∷ rows) zero d h at = rw at.is_there refl
  row_at_found k (t ∷ rows) (suc i) d h at =
      let before = all_at (IsBefore cols t) rows i [] h.0 (omega (arith, at.in_range)) in
      rw (found_less t _ k before at.is_there) (row_at_found k rows i d h.1 (record { in_range = omega (arith, at.in_range); is_there = at.is_there }))

  pub remove_is_without : (k : Codes) (rows : List Codes) (i : ℕ) → IsKeyed cols rows → IsRowAt cols rows k i → remove rows i ≡ without_key cols k rows
  remove_is_without k [] i h at = absurd (omega (arith, at.in_range))
  remove_is_without k (t ∷ rows) zero h at = rw at.is_there (sym (all_stay k rows (above_key t k rows at.is_there h.0)))
  remove_is_without k (t ∷ rows) (suc i) h at =
      let before = all_at (IsBefore cols t) rows i [] h.0 (omega (arith, at.in_range)) in
      rw (found_less t _ k before at.is_there) (ap (λ l. t ∷ l) (remove_is_without k rows i h.1 (record { in_range = omega (arith, at.in_range); is_there = at.is_there })))

  all_above : (k : Codes) (rows : List Codes) → AllByRecursion (λ t. codes_cmp (at_columns cols t) k ≡ Greater) rows → without_key cols k rows ≡ rows
  all_above k [] h = refl
  all_above k (t ∷ rows) h = rw h.0 (ap (λ l. t ∷ l) (all_above k rows h.1))

  pub without_gap : (k : Codes) (rows : List Codes) (i : ℕ) → IsGapFor cols rows k i → without_key cols k rows ≡ rows
  without_gap k rows zero gap = all_above k rows gap.after
  without_gap k [] (suc i) gap = refl
  without_gap k (t ∷ rows) (suc i) gap = rw gap.before.0 (ap (λ l. t ∷ l) (without_gap k rows i (record { in_range = omega (arith, gap.in_range); before = gap.before.1; after = gap.after })))

  -- all that a binary search by key gives
  pub finds_or_misses : (rows : List Codes) (k : Codes) (r : Result ℕ ℕ) → IsKeyed cols rows → IsSearchInRange r (length rows) → IsBinarySearchResult (λ t. codes_cmp (at_columns cols t) k) rows r
      → IfOk r (Finds cols rows k) × IfErr r (Misses cols rows k)
  finds_or_misses rows k (Ok i) h in_range by_key =
      let at = (searched rows k (Ok i) h in_range by_key).0 in
      (record { in_range = in_range; row = λ d. row_at_found k rows i d h at; removed = remove_is_without k rows i h at }, tt)
  finds_or_misses rows k (Err i) h in_range by_key =
      let gap = (searched rows k (Err i) h in_range by_key).1 in (
        tt,
        record {
          in_range = in_range;
          none = row_at_gap k rows i gap;
          same = without_gap k rows i gap;
          inserted = λ t e. insert_is_put t rows i (subst (λ q. IsGapFor cols rows q i) (sym e) gap);
        },
      )

module _ (P : Codes → Type 0) where
  pub widths_put : (cols : List ℕ) (t : Codes) (rows : List Codes) → P t → AllByRecursion P rows → AllByRecursion P (put_row cols t rows)
  widths_put cols t rows p h = all_put cols P t rows p h

  pub widths_filter : (p : Codes → Bool) (rows : List Codes) → AllByRecursion P rows → AllByRecursion P (filter p rows)
  widths_filter p rows h = all_filter [] P p rows h

-- the table stays one after an insert and after a delete
pub table_put : (c : Columns) (rows : List Codes) (t : Codes) → IsTable c rows → length t ≡ length c.kinds → IsTable c (put_row c.key t rows)
table_put c rows t h w = record { widths = widths_put (λ t. length t ≡ length c.kinds) c.key t rows w h.widths; keyed = keyed_put c.key t rows h.keyed }

pub table_without : (c : Columns) (rows : List Codes) (k : Codes) → IsTable c rows → IsTable c (without_key c.key k rows)
table_without c rows k h = record { widths = widths_filter (λ t. length t ≡ length c.kinds) (λ t. not (has_key c.key k t)) rows h.widths; keyed = keyed_filter c.key (λ t. not (has_key c.key k t)) rows h.keyed }
