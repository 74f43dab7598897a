-- Rows in the order of their keys that updates change, and lists by part.
use Rattle.std.proofs.Common.{◌≡◌, ℕ, zero, suc, ◌+◌, Bool, true, false, cond, List, [], ◌∷◌, ◌++◌, map, get_or, set, take, slice_get, Some, refl, sym, ap, subst, ◌∙◌, arith}
use Rattle.std.specs.List.{filter, flat_map, range_with_len}
use Rattle.std.specs.declared.cmp.Ordering.TheVariants.{Less}
use Rattle.std.proofs.lemmas.List.{map-append, append-nil}
use Rattle.std.proofs.lemmas.List.Elements.{filter-append}
use Rattle.std.proofs.lemmas.List.Concat.{flat_map-append}
use Rattle.whips_model.specs.Tuples.{Codes, codes_cmp, at_columns, put_row, IsBefore, IsKeyed}
use Rattle.whips_model.specs.Search.{IsRowAt}
use Rattle.whips_model.proofs.Keyed.{greater_from_less, all_at}
use Rattle.whips_choices.proofs.Rows.{codes_equal, codes_tied}
use Rattle.whips_states.specs.Net.{by_part}
use Rattle.whips_value.proofs.Walked.{take_next}

-- a tuple in the place of the row with its key
pub set_is_put : (cols : List ℕ) (t : Codes) (rows : List Codes) (i : ℕ) → IsKeyed cols rows → IsRowAt cols rows (at_columns cols t) i → set rows i t ≡ put_row cols t rows
set_is_put cols t [] i keyed at = absurd (omega (arith, at.in_range))
set_is_put cols t (u ∷ rows) zero keyed at =
    let same = codes_tied (at_columns cols t) (at_columns cols u) (sym (codes_equal (at_columns cols u) (at_columns cols t) at.is_there)) in
    rw same refl
set_is_put cols t (u ∷ rows) (suc i) keyed at =
    let before = all_at (IsBefore cols u) rows i [] keyed.0 (omega (arith, at.in_range)) in
    let less : codes_cmp (at_columns cols u) (at_columns cols t) ≡ Less = subst (λ z. codes_cmp (at_columns cols u) z ≡ Less) (codes_equal (at_columns cols (get_or rows i [])) (at_columns cols t) at.is_there) before in
    let greater = greater_from_less (at_columns cols u) (at_columns cols t) less in
    rw greater (ap (λ l. u ∷ l) (set_is_put cols t rows i keyed.1 (record { in_range = omega (arith, at.in_range); is_there = at.is_there })))

-- ---- lists by part

range_more : (a n : ℕ) → range_with_len a (suc n) ≡ range_with_len a n ++ (a + n) ∷ []
range_more a zero = let e : a ≡ a + 0 = omega arith in ap (λ z. z ∷ []) e
range_more a (suc n) = let e : a + 1 + n ≡ a + suc n = omega arith in ap (λ l. a ∷ l) (range_more (a + 1) n ∙ ap (λ z. range_with_len (a + 1) n ++ z ∷ []) e)

pub part_more : (n : ℕ) (f : ℕ → List Codes) → by_part (n + 1) f ≡ by_part n f ++ map (λ x. (n, x)) (f n)
part_more n f =
    let e : 0 + n ≡ n = omega arith in
    let f' : n + 1 ≡ suc n = omega arith in
    ap (λ z. by_part z f) f' ∙ ap (flat_map (λ part. map (λ x. (part, x)) (f part))) (range_more 0 n ∙ ap (λ z. range_with_len 0 n ++ z ∷ []) e)
    ∙ flat_map-append (λ part. map (λ x. (part, x)) (f part)) (range_with_len 0 n) (n ∷ [])
    ∙ ap (λ l. by_part n f ++ l) (append-nil (map (λ x. (n, x)) (f n)))

-- ---- a turn of the loops over rows

module _ {X Y : Type 0} (p : X → Bool) (g : X → Y) (xs : List X) (i : ℕ) (x : X) (there : slice_get xs i ≡ Some x) where
  pub passed_more : p x ≡ true → map g (filter p (take (i + 1) xs)) ≡ map g (filter p (take i xs)) ++ g x ∷ []
  passed_more e = rw (take_next xs i x there) (ap (map g) (filter-append p (take i xs) (x ∷ [])) ∙ map-append g (filter p (take i xs)) (filter p (x ∷ [])) ∙ ap (λ b. map g (filter p (take i xs)) ++ map g (cond b (x ∷ []) [])) e)

  pub passed_same : p x ≡ false → map g (filter p (take (i + 1) xs)) ≡ map g (filter p (take i xs))
  passed_same e = rw (take_next xs i x there) (ap (map g) (filter-append p (take i xs) (x ∷ [])) ∙ map-append g (filter p (take i xs)) (filter p (x ∷ [])) ∙ ap (λ b. map g (filter p (take i xs)) ++ map g (cond b (x ∷ []) [])) e ∙ append-nil (map g (filter p (take i xs))))
