-- Which row has a key, after edits of rows.
use Rattle.std.proofs.Common.{◌≡◌, ℕ, Bool, true, false, cond, not, Option, Some, None, is_some, List, [], ◌∷◌, map, refl, sym, ap, subst, ◌∙◌}
use Rattle.std.specs.Option.{option_or}
use Rattle.std.specs.Ordering.{is_eq, match_ordering}
use Rattle.std.specs.declared.cmp.Ordering.{Ordering}
use Rattle.std.specs.declared.cmp.Ordering.TheVariants.{Less, Equal, Greater}
use Rattle.whips_lists.specs.Members.{Has}
use Rattle.whips_model.specs.Tuples.{Codes, codes_cmp, at_columns, has_key, row_at, put_row, without_key, IsBefore, IsKeyed}
use Rattle.whips_model.proofs.Keyed.{keyed_put, keyed_filter}
use Rattle.whips_lists.proofs.Members.{all_has}
use Rattle.whips_choices.specs.Edits.{put_rows}
use Rattle.whips_choices.proofs.Rows.{codes_equal, codes_tied, key_is, row_found, row_missing, same_row, same_rows}
use Rattle.whips_states.specs.Laws.{without_keys}

equal_from : (o : Ordering) → is_eq o ≡ true → o ≡ Equal
equal_from Less e = absurd (cc)
equal_from Equal e = refl
equal_from Greater e = absurd (cc)

module _ (cols : List ℕ) where
  abbrev key : Codes → Codes
  key = at_columns cols

  pub at_put : (k t : Codes) (rows : List Codes) → row_at cols k (put_row cols t rows) ≡ cond (has_key cols k t) (Some t) (row_at cols k rows)
  at_put k t [] = refl
  at_put k t (u ∷ rows) = go (at_put k t rows) (codes_cmp (at_columns cols t) (at_columns cols u)) refl
    where
      go : row_at cols k (put_row cols t rows) ≡ cond (has_key cols k t) (Some t) (row_at cols k rows) → (o : Ordering) → codes_cmp (at_columns cols t) (at_columns cols u) ≡ o
          → row_at cols k (match_ordering o (t ∷ u ∷ rows) (t ∷ rows) (u ∷ put_row cols t rows)) ≡ cond (has_key cols k t) (Some t) (row_at cols k (u ∷ rows))
      go ih Less e = refl
      go ih Equal e = skip (has_key cols k t) refl
        where
          skip : (b : Bool) → has_key cols k t ≡ b → cond b (Some t) (row_at cols k rows) ≡ cond b (Some t) (row_at cols k (u ∷ rows))
          skip true h = refl
          skip false h =
              let same = codes_equal (at_columns cols t) (at_columns cols u) e in
              let f : has_key cols k u ≡ false = ap (λ z. is_eq (codes_cmp z k)) (sym same) ∙ h in
              sym (ap (λ b. cond b (Some u) (row_at cols k rows)) f)
      go ih Greater e = both (has_key cols k u) refl
        where
          both : (b : Bool) → has_key cols k u ≡ b → cond b (Some u) (row_at cols k (put_row cols t rows)) ≡ cond (has_key cols k t) (Some t) (cond b (Some u) (row_at cols k rows))
          both true h =
              let f : has_key cols k t ≡ false = subst (λ z. is_eq (codes_cmp (at_columns cols t) z) ≡ false) (key_is cols k u h) (ap is_eq e) in
              sym (ap (λ b. cond b (Some t) (Some u)) f)
          both false h = ih

  at_without : (k j : Codes) (rows : List Codes) → row_at cols k (without_key cols j rows) ≡ cond (is_eq (codes_cmp j k)) None (row_at cols k rows)
  at_without k j [] = sym (elim (is_eq (codes_cmp j k)) as (λ b. cond {A = Option Codes} b None None ≡ None) [ true ↦ refl | false ↦ refl ])
  at_without k j (u ∷ rows) = go (at_without k j rows) (has_key cols j u) refl
    where
      go : row_at cols k (without_key cols j rows) ≡ cond (is_eq (codes_cmp j k)) None (row_at cols k rows) → (b : Bool) → has_key cols j u ≡ b
          → row_at cols k (cond (not b) (u ∷ without_key cols j rows) (without_key cols j rows)) ≡ cond (is_eq (codes_cmp j k)) None (row_at cols k (u ∷ rows))
      go ih true h = ih ∙ rest (is_eq (codes_cmp j k)) refl
        where
          rest : (c : Bool) → is_eq (codes_cmp j k) ≡ c → cond c None (row_at cols k rows) ≡ cond c None (row_at cols k (u ∷ rows))
          rest true e = refl
          rest false e = sym (ap (λ b. cond b (Some u) (row_at cols k rows)) (ap (λ z. is_eq (codes_cmp z k)) (key_is cols j u h) ∙ e))
      go ih false h = ap (λ l. cond (has_key cols k u) (Some u) l) ih ∙ rest (is_eq (codes_cmp j k)) refl
        where
          rest : (c : Bool) → is_eq (codes_cmp j k) ≡ c → cond (has_key cols k u) (Some u) (cond c None (row_at cols k rows)) ≡ cond c None (row_at cols k (u ∷ rows))
          rest true e =
              let f : has_key cols k u ≡ false = subst (λ z. has_key cols z u ≡ false) (codes_equal j k (equal_from (codes_cmp j k) e)) h in
              ap (λ b. cond b (Some u) None) f
          rest false e = refl

  -- ---- rows in the order of their keys

  pub row_of_key : (t : Codes) (rows : List Codes) → IsKeyed cols rows → Has t rows → row_at cols (at_columns cols t) rows ≡ Some t
  row_of_key t rows keyed h = go (row_at cols (at_columns cols t) rows) refl
    where
      go : (o : Option Codes) → row_at cols (at_columns cols t) rows ≡ o → o ≡ Some t
      go None e = absurd (row_missing cols (at_columns cols t) t rows e h refl)
      go (Some s) e = let found = row_found cols (at_columns cols t) s rows e in ap (λ z. Some z) (same_row cols s t rows keyed found.0 h found.1)

  pub same_by_key : (xs ys : List Codes) → IsKeyed cols xs → IsKeyed cols ys → ((k : Codes) → row_at cols k xs ≡ row_at cols k ys) → xs ≡ ys
  same_by_key xs ys h g same = same_rows cols xs ys h g
      (λ t k. (row_found cols (at_columns cols t) t ys (sym (same (at_columns cols t)) ∙ row_of_key t xs h k)).0)
      (λ t k. (row_found cols (at_columns cols t) t xs (same (at_columns cols t) ∙ row_of_key t ys g k)).0)

  none_later : (k r : Codes) (new : List Codes) → IsKeyed cols (r ∷ new) → has_key cols k r ≡ true → row_at cols k new ≡ None
  none_later k r new keyed h = go (row_at cols k new) refl
    where
      go : (o : Option Codes) → row_at cols k new ≡ o → o ≡ None
      go None e = refl
      go (Some s) e =
          let found = row_found cols k s new e in
          let before = all_has (IsBefore cols r) new keyed.0 s found.0 in
          let tied = codes_tied (at_columns cols r) (at_columns cols s) (key_is cols k r h ∙ sym found.1) in
          absurd (cc (before, tied))

  -- ---- several edits

  pub puts_row : (k : Codes) (new rows : List Codes) → IsKeyed cols new → row_at cols k (put_rows cols new rows) ≡ option_or (row_at cols k new) (row_at cols k rows)
  puts_row k [] rows keyed = refl
  puts_row k (r ∷ new) rows keyed = puts_row k new (put_row cols r rows) keyed.1 ∙ ap (option_or (row_at cols k new)) (at_put k r rows) ∙ go (has_key cols k r) refl
    where
      go : (b : Bool) → has_key cols k r ≡ b → option_or (row_at cols k new) (cond b (Some r) (row_at cols k rows)) ≡ option_or (cond b (Some r) (row_at cols k new)) (row_at cols k rows)
      go true e = ap (λ o. option_or o (Some r)) (none_later k r new keyed e)
      go false e = refl

  pub keys_row : (k : Codes) (ds rows : List Codes) → row_at cols k (without_keys cols (map (at_columns cols) ds) rows) ≡ cond (is_some (row_at cols k ds)) None (row_at cols k rows)
  keys_row k [] rows = refl
  keys_row k (d ∷ ds) rows = keys_row k ds (without_key cols (at_columns cols d) rows) ∙ ap (cond (is_some (row_at cols k ds)) None) (at_without k (at_columns cols d) rows) ∙ go (has_key cols k d) (is_some (row_at cols k ds)) refl
    where
      go : (b c : Bool) → is_some (row_at cols k ds) ≡ c → cond c None (cond b None (row_at cols k rows)) ≡ cond (is_some (cond b (Some d) (row_at cols k ds))) None (row_at cols k rows)
      go true true e = refl
      go true false e = refl
      go false c e = ap (λ z. cond z None (row_at cols k rows)) (sym e)

  pub without_row : (k t : Codes) (rows : List Codes) → row_at cols k (without_key cols (at_columns cols t) rows) ≡ cond (has_key cols k t) None (row_at cols k rows)
  without_row k t rows = at_without k (at_columns cols t) rows

  pub puts_keyed : (new rows : List Codes) → IsKeyed cols rows → IsKeyed cols (put_rows cols new rows)
  puts_keyed [] rows h = h
  puts_keyed (r ∷ new) rows h = puts_keyed new (put_row cols r rows) (keyed_put cols r rows h)

  pub keys_keyed : (ks rows : List Codes) → IsKeyed cols rows → IsKeyed cols (without_keys cols ks rows)
  keys_keyed [] rows h = h
  keys_keyed (k ∷ ks) rows h = keys_keyed ks (without_key cols k rows) (keyed_filter cols (λ t. not (has_key cols k t)) rows h)
