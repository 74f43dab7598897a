-- What is in rows in the order of their keys, and after an edit of them.
--
-- `same_row`, `same_rows`: rows in the order of their keys have at most one row for each key, and two such lists with the same elements are
-- the same list. `without_only`, `without_keeps`, `put_has`, `put_only`, `put_keeps`: what is in rows after a key is deleted, or a row put.
-- `missing_has`, `missing_only`, `missing_keeps`, `puts_have`, `puts_only`, `puts_keep`: the same after many rows are put, where their keys
-- are missing, or one by one. `row_found`, `row_missing`: what a search by key finds.
--
-- The idea: an edit compares keys alone, and keys that tie are equal. So an edit changes nothing but the row with its own key, and each row
-- with another key is there afterwards exactly where it was there before. In the order of their keys each row is before all later ones, so
-- none is there twice, and the elements of a list determine it.
--
-- Four lemmas carry it: `codes_equal` and `codes_tied` (keys tie exactly where they are equal), `key_is` and `key_differs` (what the test
-- of a row's key says).
use Rattle.std.proofs.Common.{◌≡◌, ◌≢◌, ◌⊎◌, inl, inr, ℕ, Bool, true, false, cond, not, Option, Some, None, is_some, List, [], ◌∷◌, refl, sym, ap, ap₂, subst, ◌∙◌}
use Rattle.std.specs.List.{AllByRecursion}
use Rattle.std.specs.Ordering.{nat_cmp, is_eq, ordering_then, match_ordering}
use Rattle.std.specs.declared.cmp.Ordering.{Ordering}
use Rattle.std.specs.declared.cmp.Ordering.TheVariants.{Less, Equal, Greater}
use Rattle.std.proofs.lemmas.Cmp.{nat_list_cmp_total, ranked, tied_itself}
use Rattle.whips_model.specs.Tuples.{Codes, codes_cmp, at_columns, has_key, row_at, put_row, without_key, IsBefore, IsKeyed}
use Rattle.whips_lists.specs.Members.{Has}
use Rattle.whips_choices.specs.Edits.{put_missing, put_rows}
use Rattle.whips_lists.proofs.Members.{has_same, has_passing, has_passed, all_has, has_first, has_later}

-- ---- keys are equal as their order says

pub codes_equal : (a b : Codes) → codes_cmp a b ≡ Equal → a ≡ b
codes_equal [] [] e = refl
codes_equal [] (y ∷ b) e = absurd (cc)
codes_equal (x ∷ a) [] e = absurd (cc)
codes_equal (x ∷ a) (y ∷ b) e = go (λ h. codes_equal a b h) (nat_cmp x y) refl e
  where
    go : (codes_cmp a b ≡ Equal → a ≡ b) → (o : Ordering) → o ≡ nat_cmp x y → ordering_then o (codes_cmp a b) ≡ Equal → (x ∷ a) ≡ (y ∷ b)
    go ih Less o h = absurd (cc)
    go ih Equal o h = ap₂ (λ z l. z ∷ l) (ranked x y Equal o) (ih h)
    go ih Greater o h = absurd (cc)

pub codes_tied : (a b : Codes) → a ≡ b → codes_cmp a b ≡ Equal
codes_tied a b e = subst (λ c. codes_cmp a c ≡ Equal) e (tied_itself nat_list_cmp_total a)

module _ (cols : List ℕ) where
  pub key_is : (k t : Codes) → has_key cols k t ≡ true → at_columns cols t ≡ k
  key_is k t e = codes_equal (at_columns cols t) k (go (codes_cmp (at_columns cols t) k) e)
    where
      go : (o : Ordering) → is_eq o ≡ true → o ≡ Equal
      go Less h = absurd (cc)
      go Equal h = refl
      go Greater h = absurd (cc)

  pub key_has : (k t : Codes) → at_columns cols t ≡ k → has_key cols k t ≡ true
  key_has k t e = ap is_eq (codes_tied (at_columns cols t) k e)

  pub key_other : (k t : Codes) → at_columns cols t ≢ k → has_key cols k t ≡ false
  key_other k t ne = go (has_key cols k t) refl
    where
      go : (b : Bool) → has_key cols k t ≡ b → b ≡ false
      go true e = absurd (ne (key_is k t e))
      go false e = refl

  pub key_differs : (k t : Codes) → has_key cols k t ≡ false → at_columns cols t ≢ k
  key_differs k t e same = let h = key_has k t same in absurd (cc)

  -- ---- a key goes

  pub without_only : (k u : Codes) (rows : List Codes) → Has u (without_key cols k rows) → Has u rows × (at_columns cols u ≢ k)
  without_only k u rows h =
      let g = has_passed (λ t. not (has_key cols k t)) u rows h in
      (g.0, λ same. let e = key_has k u same in absurd (cc (g.1, ap not e)))

  pub without_keeps : (k u : Codes) (rows : List Codes) → Has u rows → at_columns cols u ≢ k → Has u (without_key cols k rows)
  without_keeps k u rows h ne = has_passing (λ t. not (has_key cols k t)) u rows (ap not (key_other k u ne)) h

  -- ---- a row is put

  pub put_has : (t : Codes) (rows : List Codes) → Has t (put_row cols t rows)
  unfolding Has
  put_has t [] = inl refl
  put_has t (u ∷ rows) = elim (codes_cmp (at_columns cols t) (at_columns cols u)) as (λ o. Has t (match_ordering o (t ∷ u ∷ rows) (t ∷ rows) (u ∷ put_row cols t rows))) [
    | Less ↦ inl refl
    | Equal ↦ inl refl
    | Greater ↦ inr (put_has t rows)
  ]

  pub put_only : (t u : Codes) (rows : List Codes) → Has u (put_row cols t rows) → (u ≡ t) ⊎ Has u rows
  unfolding Has
  put_only t u [] h = h
  put_only t u (w ∷ rows) h = go (λ g. put_only t u rows g) (codes_cmp (at_columns cols t) (at_columns cols w)) h
    where
      go : (Has u (put_row cols t rows) → (u ≡ t) ⊎ Has u rows) → (o : Ordering) → Has u (match_ordering o (t ∷ w ∷ rows) (t ∷ rows) (w ∷ put_row cols t rows)) → (u ≡ t) ⊎ ((u ≡ w) ⊎ Has u rows)
      go ih Less g = g
      go ih Equal (inl e) = inl e
      go ih Equal (inr g) = inr (inr g)
      go ih Greater (inl e) = inr (inl e)
      go ih Greater (inr g) = elim (ih g) [ inl e ↦ inl e | inr k ↦ inr (inr k) ]

  pub put_keeps : (t u : Codes) (rows : List Codes) → at_columns cols t ≢ at_columns cols u → Has u rows → Has u (put_row cols t rows)
  unfolding Has
  put_keeps t u [] ne h = absurd h
  put_keeps t u (w ∷ rows) ne h = go (λ g. put_keeps t u rows ne g) (codes_cmp (at_columns cols t) (at_columns cols w)) refl h
    where
      go : (Has u rows → Has u (put_row cols t rows)) → (o : Ordering) → codes_cmp (at_columns cols t) (at_columns cols w) ≡ o → (u ≡ w) ⊎ Has u rows → Has u (match_ordering o (t ∷ w ∷ rows) (t ∷ rows) (w ∷ put_row cols t rows))
      go ih Less e g = inr g
      go ih Equal e (inl same) = absurd (ne (codes_equal (at_columns cols t) (at_columns cols w) e ∙ ap (at_columns cols) (sym same)))
      go ih Equal e (inr g) = inr g
      go ih Greater e (inl same) = inl same
      go ih Greater e (inr g) = inr (ih g)

  -- ---- the row with a key

  pub row_found : (k s : Codes) (rows : List Codes) → row_at cols k rows ≡ Some s → Has s rows × (at_columns cols s ≡ k)
  unfolding Has
  row_found k s [] e = absurd (cc)
  row_found k s (u ∷ rows) e = go (λ g. row_found k s rows g) (has_key cols k u) refl e
    where
      go : (row_at cols k rows ≡ Some s → Has s rows × (at_columns cols s ≡ k)) → (b : Bool) → has_key cols k u ≡ b → cond b (Some u) (row_at cols k rows) ≡ Some s → ((s ≡ u) ⊎ Has s rows) × (at_columns cols s ≡ k)
      go ih true h g = let same : s ≡ u = cc in (inl same, ap (at_columns cols) same ∙ key_is k u h)
      go ih false h g = (inr (ih g).0, (ih g).1)

  pub row_missing : (k u : Codes) (rows : List Codes) → row_at cols k rows ≡ None → Has u rows → at_columns cols u ≢ k
  unfolding Has
  row_missing k u [] e h = absurd h
  row_missing k u (w ∷ rows) e h = go (λ g h. row_missing k u rows g h) (has_key cols k w) refl e h
    where
      go : (row_at cols k rows ≡ None → Has u rows → at_columns cols u ≢ k) → (b : Bool) → has_key cols k w ≡ b → cond b (Some w) (row_at cols k rows) ≡ None → (u ≡ w) ⊎ Has u rows → at_columns cols u ≢ k
      go ih true e g h = absurd (cc)
      go ih false e g (inl same) = λ is. key_differs k w e (ap (at_columns cols) (sym same) ∙ is)
      go ih false e g (inr h) = ih g h

  -- ---- rows in the order of their keys

  pub same_row : (r s : Codes) (rows : List Codes) → IsKeyed cols rows → Has r rows → Has s rows → at_columns cols r ≡ at_columns cols s → r ≡ s
  unfolding Has
  same_row r s [] keyed h g e = absurd h
  same_row r s (u ∷ rows) keyed (inl a) (inl b) e = a ∙ sym b
  same_row r s (u ∷ rows) keyed (inl a) (inr g) e = absurd (clash u s rows keyed.0 g (ap (at_columns cols) (sym a) ∙ e))
    where
      clash : (u s : Codes) (rows : List Codes) → AllByRecursion (IsBefore cols u) rows → Has s rows → at_columns cols u ≡ at_columns cols s → ⊥
      clash u s rows before g e = let b = all_has (IsBefore cols u) rows before s g in let c = codes_tied _ _ e in absurd (cc)
  same_row r s (u ∷ rows) keyed (inr h) (inl b) e = absurd (clash u r rows keyed.0 h (ap (at_columns cols) (sym b) ∙ sym e))
    where
      clash : (u s : Codes) (rows : List Codes) → AllByRecursion (IsBefore cols u) rows → Has s rows → at_columns cols u ≡ at_columns cols s → ⊥
      clash u s rows before g e = let b = all_has (IsBefore cols u) rows before s g in let c = codes_tied _ _ e in absurd (cc)
  same_row r s (u ∷ rows) keyed (inr h) (inr g) e = same_row r s rows keyed.1 h g e

  -- a row before all of these is none of them
  not_itself : (x : Codes) (rows : List Codes) → AllByRecursion (IsBefore cols x) rows → Has x rows → ⊥
  not_itself x rows before h = let b = all_has (IsBefore cols x) rows before x h in let c = tied_itself nat_list_cmp_total (at_columns cols x) in absurd (cc)

  -- lists in the order of their keys with the same elements are the same list
  pub same_rows : (xs ys : List Codes) → IsKeyed cols xs → IsKeyed cols ys → ((t : Codes) → Has t xs → Has t ys) → ((t : Codes) → Has t ys → Has t xs) → xs ≡ ys
  unfolding Has
  same_rows [] [] h g to from = refl
  same_rows [] (y ∷ ys) h g to from = absurd (from y (inl refl))
  same_rows (x ∷ xs) [] h g to from = absurd (to x (inl refl))
  same_rows (x ∷ xs) (y ∷ ys) h g to from = go (λ a b. same_rows xs ys h.1 g.1 a b) (to x (inl refl)) (from y (inl refl))
    where
      rest : (x y : Codes) (xs ys : List Codes) → AllByRecursion (IsBefore cols x) xs → x ≡ y → ((t : Codes) → Has t (x ∷ xs) → Has t (y ∷ ys)) → (t : Codes) → Has t xs → Has t ys
      rest x y xs ys h e to t m = elim (to t (inr m)) [ inl same ↦ absurd (not_itself x xs h (subst (λ z. Has z xs) (same ∙ sym e) m)) | inr k ↦ k ]

      go : (((t : Codes) → Has t xs → Has t ys) → ((t : Codes) → Has t ys → Has t xs) → xs ≡ ys) → (x ≡ y) ⊎ Has x ys → (y ≡ x) ⊎ Has y xs → (x ∷ xs) ≡ (y ∷ ys)
      go ih (inl e) m = ap₂ (λ z l. z ∷ l) e (ih (λ t k. rest x y xs ys h.0 e to t k) (λ t k. rest y x ys xs g.0 (sym e) from t k))
      go ih (inr k) (inl e) = ap₂ (λ z l. z ∷ l) (sym e) (ih (λ t k. rest x y xs ys h.0 (sym e) to t k) (λ t k. rest y x ys xs g.0 e from t k))
      go ih (inr k) (inr m) =
          let a = all_has (IsBefore cols x) xs h.0 y m in
          let b = all_has (IsBefore cols y) ys g.0 x k in
          absurd (crossed a b)
        where
          crossed : IsBefore cols x y → IsBefore cols y x → ⊥
          crossed a b = let c = nat_list_cmp_total.trans (at_columns cols x) (at_columns cols y) (at_columns cols x) a b in let d = tied_itself nat_list_cmp_total (at_columns cols x) in absurd (cc)

  -- ---- what Put makes of rows

  pub missing_keeps : (u : Codes) (new rows : List Codes) → Has u rows → Has u (put_missing cols new rows)
  missing_keeps u [] rows h = h
  missing_keeps u (r ∷ new) rows h = missing_keeps u new _ (go (row_at cols (at_columns cols r) rows) refl)
    where
      go : (o : Option Codes) → row_at cols (at_columns cols r) rows ≡ o → Has u (cond (is_some o) rows (put_row cols r rows))
      go None e = put_keeps r u rows (λ same. row_missing (at_columns cols r) u rows e h (sym same)) h
      go (Some s) e = h

  pub missing_only : (u : Codes) (new rows : List Codes) → Has u (put_missing cols new rows) → Has u new ⊎ Has u rows
  unfolding Has
  missing_only u [] rows h = inr h
  missing_only u (r ∷ new) rows h = elim (missing_only u new _ h) [
    | inl g ↦ inl (inr g)
    | inr g ↦ go (is_some (row_at cols (at_columns cols r) rows)) g
  ]
    where
      go : (b : Bool) → Has u (cond b rows (put_row cols r rows)) → ((u ≡ r) ⊎ Has u new) ⊎ Has u rows
      go true g = inr g
      go false g = elim (put_only r u rows g) [ inl e ↦ inl (inl e) | inr k ↦ inr k ]

  -- where a key stands for one row alone, each new row is there
  pub missing_has : (P : Codes → Type 0) → ((r s : Codes) → P r → P s → at_columns cols r ≡ at_columns cols s → r ≡ s)
      → (new rows : List Codes) → ((u : Codes) → Has u new → P u) → ((u : Codes) → Has u rows → P u) → (u : Codes) → Has u new → Has u (put_missing cols new rows)
  unfolding Has
  missing_has P one [] rows a b u h = absurd h
  missing_has P one (r ∷ new) rows a b u (inl e) = missing_keeps u new _ (go (row_at cols (at_columns cols r) rows) refl)
    where
      go : (o : Option Codes) → row_at cols (at_columns cols r) rows ≡ o → Has u (cond (is_some o) rows (put_row cols r rows))
      go None same = subst (λ z. Has z (put_row cols r rows)) (sym e) (put_has r rows)
      go (Some s) same =
          let found = row_found (at_columns cols r) s rows same in
          subst (λ z. Has z rows) (one s u (b s found.0) (subst P (sym e) (a r (inl refl))) (found.1 ∙ ap (at_columns cols) (sym e))) found.0
  missing_has P one (r ∷ new) rows a b u (inr h) = missing_has P one new _ (λ w k. a w (inr k)) (λ w k. step (is_some (row_at cols (at_columns cols r) rows)) w k) u h
    where
      step : (t : Bool) (w : Codes) → Has w (cond t rows (put_row cols r rows)) → P w
      step true w k = b w k
      step false w k = elim (put_only r w rows k) [ inl e ↦ subst P (sym e) (a r (inl refl)) | inr m ↦ b w m ]

  -- ---- rows put one by one

  pub puts_only : (u : Codes) (new rows : List Codes) → Has u (put_rows cols new rows) → Has u new ⊎ Has u rows
  unfolding Has
  puts_only u [] rows h = inr h
  puts_only u (r ∷ new) rows h = elim (puts_only u new _ h) [ inl g ↦ inl (inr g) | inr g ↦ elim (put_only r u rows g) [ inl e ↦ inl (inl e) | inr k ↦ inr k ] ]

  pub puts_keep : (u : Codes) (new rows : List Codes) → ((t : Codes) → Has t new → at_columns cols t ≢ at_columns cols u) → Has u rows → Has u (put_rows cols new rows)
  puts_keep u [] rows other h = h
  puts_keep u (r ∷ new) rows other h = puts_keep u new _ (λ t k. other t (has_later t r new k)) (put_keeps r u rows (other r (has_first r new)) h)

  pub puts_have : (u : Codes) (new rows : List Codes) → IsKeyed cols new → Has u new → Has u (put_rows cols new rows)
  unfolding Has
  puts_have u [] rows keyed h = absurd h
  puts_have u (r ∷ new) rows keyed (inl e) = puts_keep u new _ (λ t k same. not_itself_key t k (same ∙ ap (at_columns cols) e)) (subst (λ z. Has z (put_row cols r rows)) (sym e) (put_has r rows))
    where
      not_itself_key : (t : Codes) → Has t new → at_columns cols t ≡ at_columns cols r → ⊥
      not_itself_key t k same = let b = all_has (IsBefore cols r) new keyed.0 t k in let c = codes_tied (at_columns cols r) (at_columns cols t) (sym same) in absurd (cc)
  puts_have u (r ∷ new) rows keyed (inr h) = puts_have u new _ keyed.1 h

  -- where a key stands for one row alone
  put_stays : (t u : Codes) (rows : List Codes) → (at_columns cols t ≡ at_columns cols u → t ≡ u) → Has u rows → Has u (put_row cols t rows)
  put_stays t u rows one h = go (has_key cols (at_columns cols u) t) refl
    where
      go : (b : Bool) → has_key cols (at_columns cols u) t ≡ b → Has u (put_row cols t rows)
      go true e = has_same t u _ (one (key_is (at_columns cols u) t e)) (put_has t rows)
      go false e = put_keeps t u rows (key_differs (at_columns cols u) t e) h

  pub puts_stay : (u : Codes) (new rows : List Codes) → ((t : Codes) → Has t new → at_columns cols t ≡ at_columns cols u → t ≡ u) → Has u rows → Has u (put_rows cols new rows)
  puts_stay u [] rows one h = h
  puts_stay u (r ∷ new) rows one h = puts_stay u new _ (λ t k. one t (has_later t r new k)) (put_stays r u rows (one r (has_first r new)) h)

  pub puts_all : (P : Codes → Type 0) → ((r s : Codes) → P r → P s → at_columns cols r ≡ at_columns cols s → r ≡ s)
      → (new rows : List Codes) → ((u : Codes) → Has u new → P u) → (u : Codes) → Has u new → Has u (put_rows cols new rows)
  unfolding Has
  puts_all P one [] rows a u h = absurd h
  puts_all P one (r ∷ new) rows a u (inl e) = puts_stay u new _ (λ t k. one t u (a t (inr k)) (a u (inl e))) (has_same r u _ (sym e) (put_has r rows))
  puts_all P one (r ∷ new) rows a u (inr h) = puts_all P one new _ (λ w k. a w (inr k)) u h
