-- Rows that are put over others, and rows that have their own keys.
use Rattle.std.proofs.Common.{◌≡◌, ◌⊎◌, inl, inr, ℕ, ◌+◌, Bool, true, false, cond, List, [], ◌∷◌, ◌++◌, length, map, Option, Some, None, refl, sym, ap, subst, ◌∙◌, arith}
use Rattle.std.specs.Prelude.{fold, reverse}
use Rattle.std.specs.List.{AllByRecursion}
use Rattle.std.specs.Option.{option_or}
use Rattle.std.specs.Ordering.{is_eq, match_ordering}
use Rattle.std.specs.declared.cmp.Ordering.{Ordering}
use Rattle.std.specs.declared.cmp.Ordering.TheVariants.{Less, Equal, Greater}
use Rattle.std.proofs.lemmas.List.{reverse-append, map-append}
use Rattle.whips_model.specs.Tuples.{Codes, codes_cmp, at_columns, has_key, row_at, put_row, IsKeyed}
use Rattle.whips_model.proofs.Keyed.{greater_from_less, less_from_greater}
use Rattle.whips_choices.proofs.Rows.{key_is, row_found}
use Rattle.whips_trans_laws.proofs.ByKey.{at_put, row_of_key, same_by_key}
use Rattle.whips_changes.specs.Changes.{union_rows, need}
use Rattle.whips_net.proofs.Merge.{puts, puts_all}
use Rattle.whips_row_buf.specs.Buffers.{put_behind}
use Rattle.whips_row_buf.proofs.Order.{length_behind}
use Rattle.whips_store_laws.proofs.Lists.{has_unreversed}
use Rattle.whips_store_laws.proofs.Unions.{keyed_puts, put_from, alone, all_puts}
use Rattle.whips_faithful_laws.specs.Laws.{RowsAreExact}
use Rattle.whips_lists.specs.Members.{Has, AreDistinct}
use Rattle.whips_lists.proofs.Members.{has_first, has_later, has_none, has_cases, has_same, has_mapped}

reversed : {A B : Type 0} (f : A → B) (xs : List A) → reverse (map f xs) ≡ map f (reverse xs)
reversed f [] = refl
reversed f (x ∷ xs) = reverse-append (f x ∷ []) (map f xs) ∙ ap (λ l. l ++ f x ∷ []) (reversed f xs) ∙ sym (map-append f (reverse xs) (x ∷ [])) ∙ sym (ap (λ l. map f l) (reverse-append (x ∷ []) xs))

module _ (cols : List ℕ) where
  -- ---- rows over others

  -- the row with a key is the one that was put, or else the one before
  over : (k : Codes) (ts rows : List Codes) → row_at cols k (puts cols rows ts) ≡ option_or (row_at cols k (puts cols [] ts)) (row_at cols k rows)
  over k [] rows = refl
  over k (t ∷ ts) rows =
      over k ts (put_row cols t rows) ∙ ap (λ o. option_or (row_at cols k (puts cols [] ts)) o) (at_put cols k t rows)
      ∙ joined (row_at cols k (puts cols [] ts)) (has_key cols k t)
      ∙ sym (ap (λ o. option_or o (row_at cols k rows)) (over k ts (t ∷ [])))
    where
      joined : (put : Option Codes) (b : Bool) → option_or put (cond b (Some t) (row_at cols k rows)) ≡ option_or (option_or put (cond b (Some t) None)) (row_at cols k rows)
      joined None true = refl
      joined None false = refl
      joined (Some u) b = refl

  -- what is put once in the order of keys may be put in that order
  puts_again : (ts rows : List Codes) → IsKeyed cols rows → puts cols rows ts ≡ puts cols rows (puts cols [] ts)
  puts_again ts rows h = same_by_key cols (puts cols rows ts) (puts cols rows (puts cols [] ts)) (keyed_puts cols ts rows h) (keyed_puts cols (puts cols [] ts) rows h)
      (λ k. over k ts rows ∙ sym (over k (puts cols [] ts) rows ∙ ap (λ l. option_or (row_at cols k l) (row_at cols k rows)) (puts_all cols (puts cols [] ts) (keyed_puts cols ts [] tt))))

  unions_same : (f g : ℕ → List Codes) (ws : List ℕ) (rows : List Codes) → IsKeyed cols rows → ((w : ℕ) → Has w ws → puts cols [] (f w) ≡ g w) → all_puts cols rows (map f ws) ≡ all_puts cols rows (map g ws)
  unions_same f g [] rows h e = refl
  unions_same f g (w ∷ ws) rows h e =
      ap (λ r. all_puts cols r (map f ws)) (puts_again (f w) rows h ∙ ap (λ l. puts cols rows l) (e w (has_first w ws)))
      ∙ unions_same f g ws (puts cols rows (g w)) (keyed_puts cols (g w) rows h) (λ v k. e v (has_later v w ws k))

  -- values need as many slots as rows that are those values in the order of keys
  pub needs_same : (f g : ℕ → List Codes) (ws : List ℕ) (after : List Codes) → ((w : ℕ) → Has w ws → puts cols [] (f w) ≡ g w) → need cols (map f ws ++ after ∷ []) ≡ need cols (map g ws ++ after ∷ [])
  needs_same f g ws after e = ap length (turned f ∙ unions_same f g (reverse ws) (puts cols [] after) (keyed_puts cols after [] tt) (λ w k. e w (has_unreversed w ws k)) ∙ sym (turned g))
    where
      turned : (h : ℕ → List Codes) → union_rows cols (reverse (map h ws ++ after ∷ [])) ≡ all_puts cols (puts cols [] after) (map h (reverse ws))
      turned h = ap (λ l. union_rows cols l) (reverse-append (map h ws) (after ∷ []) ∙ ap (λ l. after ∷ l) (reversed h ws))

  -- ---- rows with their own keys

  behind_is_put : (t : Codes) (rows : List Codes) → row_at cols (at_columns cols t) rows ≡ None → put_behind cols t rows ≡ put_row cols t rows
  behind_is_put t [] e = refl
  behind_is_put t (u ∷ rows) e = go (codes_cmp (at_columns cols u) (at_columns cols t)) refl e (λ g. behind_is_put t rows g)
    where
      go : (o : Ordering) → codes_cmp (at_columns cols u) (at_columns cols t) ≡ o → cond (is_eq o) (Some u) (row_at cols (at_columns cols t) rows) ≡ None → (row_at cols (at_columns cols t) rows ≡ None → put_behind cols t rows ≡ put_row cols t rows)
          → match_ordering o (u ∷ put_behind cols t rows) (u ∷ put_behind cols t rows) (t ∷ u ∷ rows) ≡ match_ordering (codes_cmp (at_columns cols t) (at_columns cols u)) (t ∷ u ∷ rows) (t ∷ rows) (u ∷ put_row cols t rows)
      go Less f e more = ap (λ l. u ∷ l) (more e) ∙ sym (ap (λ o. match_ordering o (t ∷ u ∷ rows) (t ∷ rows) (u ∷ put_row cols t rows)) (greater_from_less (at_columns cols u) (at_columns cols t) f))
      go Equal f e more = absurd (let bad : Some u ≡ None = e in cc)
      go Greater f e more = sym (ap (λ o. match_ordering o (t ∷ u ∷ rows) (t ∷ rows) (u ∷ put_row cols t rows)) (less_from_greater (at_columns cols u) (at_columns cols t) f))

  abbrev AreNew : List Codes → List Codes → Type 0
  AreNew rows ts = AllByRecursion (λ t. row_at cols (at_columns cols t) rows ≡ None) ts

  pub none_yet : (ts : List Codes) → AreNew [] ts
  none_yet [] = tt
  none_yet (t ∷ ts) = (refl, none_yet ts)

  still_new : (t : Codes) (rows ts : List Codes) → (Has (at_columns cols t) (map (at_columns cols) ts) → ⊥) → AreNew rows ts → AreNew (put_row cols t rows) ts
  still_new t rows [] own new = tt
  still_new t rows (u ∷ us) own new = (
    at_put cols (at_columns cols u) t rows ∙ other (has_key cols (at_columns cols u) t) refl,
    still_new t rows us (λ k. own (has_later (at_columns cols t) (at_columns cols u) (map (at_columns cols) us) k)) new.1,
  )
    where
      other : (b : Bool) → has_key cols (at_columns cols u) t ≡ b → cond b (Some t) (row_at cols (at_columns cols u) rows) ≡ None
      other true e = absurd (own (has_same (at_columns cols u) (at_columns cols t) (map (at_columns cols) (u ∷ us)) (sym (key_is cols (at_columns cols u) t e)) (has_first (at_columns cols u) (map (at_columns cols) us))))
      other false e = new.0

  -- where none has the key of another it is the same to put rows over those with their keys and behind them
  pub behinds_are_puts : (ts rows : List Codes) → AreDistinct (map (at_columns cols) ts) → AreNew rows ts → fold (λ rows t. put_behind cols t rows) rows ts ≡ puts cols rows ts
  behinds_are_puts [] rows own new = refl
  behinds_are_puts (t ∷ ts) rows own new =
      ap (λ r. fold (λ rows t. put_behind cols t rows) r ts) (behind_is_put t rows new.0)
      ∙ behinds_are_puts ts (put_row cols t rows) own.1 (still_new t rows ts own.0 new.1)

  length_behinds : (ts rows : List Codes) → length (fold (λ rows t. put_behind cols t rows) rows ts) ≡ length rows + length ts
  length_behinds [] rows = omega arith
  length_behinds (t ∷ ts) rows = let more = length_behinds ts (put_behind cols t rows) in omega (arith, more, length_behind cols t rows)

  only : (t u : Codes) (rows : List Codes) → AreDistinct (map (at_columns cols) rows) → Has t rows → Has u rows → at_columns cols u ≡ at_columns cols t → u ≡ t
  only t u [] own h g same = absurd (has_none t h)
  only t u (r ∷ rows) own h g same = go (has_cases t r rows h) (has_cases u r rows g) (λ k j. only t u rows own.1 k j same)
    where
      go : (t ≡ r) ⊎ Has t rows → (u ≡ r) ⊎ Has u rows → (Has t rows → Has u rows → u ≡ t) → u ≡ t
      go (inl a) (inl b) more = b ∙ sym a
      go (inl a) (inr k) more = absurd (own.0 (has_same (at_columns cols u) (at_columns cols r) (map (at_columns cols) rows) (same ∙ ap (at_columns cols) a) (has_mapped (at_columns cols) u rows k)))
      go (inr k) (inl b) more = absurd (own.0 (has_same (at_columns cols t) (at_columns cols r) (map (at_columns cols) rows) (sym same ∙ ap (at_columns cols) b) (has_mapped (at_columns cols) t rows k)))
      go (inr k) (inr j) more = more k j

pub exact : RowsAreExact
exact cols values rows h = (λ t. (λ k. there t k, λ k. back t k), let many : length values ≡ 0 + length rows = sym (ap length (behinds_are_puts cols rows [] h.own (none_yet cols rows) ∙ h.ordered)) ∙ length_behinds cols rows [] in omega (arith, many))
  where
    there : (t : Codes) → Has t rows → Has t values
    there t k = subst (Has t) h.ordered (row_found cols (at_columns cols t) t (puts cols [] rows) (alone cols t rows k (λ u j same. only cols t u rows h.own k j same))).0

    back : (t : Codes) → Has t values → Has t rows
    back t k = elim (put_from cols (at_columns cols t) t rows [] (row_of_key cols t (puts cols [] rows) (keyed_puts cols rows [] tt) (subst (Has t) (sym h.ordered) k))) [
      | inl g ↦ g.0
      | inr e ↦ absurd (cc)
    ]
