-- Rows in the order of their keys, and where a row goes.
use Rattle.std.proofs.Common.{◌≡◌, ◌≢◌, ℕ, zero, suc, ◌+◌, ◌<◌, ◌≤◌, Bool, true, false, List, [], ◌∷◌, ◌++◌, length, get_or, refl, sym, ap, subst, ◌∙◌, arith, ◌⊎◌, inl, inr}
use Rattle.std.specs.Prelude.{Result, Ok, Err, IsOk, is_ok, if◌then◌else◌}
use Rattle.std.proofs.Common.{length-append}
use Rattle.std.specs.List.{insert, AllByRecursion}
use Rattle.std.specs.List.Sorted.{IsPartitionedBy, IsPartitionPoint}
use Rattle.std.specs.Ordering.{is_le, match_ordering}
use Rattle.std.specs.declared.cmp.Ordering.{Ordering}
use Rattle.std.specs.declared.cmp.Ordering.TheVariants.{Less, Equal, Greater}
use Rattle.std.proofs.lemmas.Cmp.{nat_list_cmp_total}
use Rattle.whips_model.specs.Tuples.{Codes, codes_cmp, at_columns}
use Rattle.whips_model.proofs.Keyed.{codes_trans, less_from_greater, greater_from_less, all_at}
use Rattle.whips_row_buf.specs.Buffers.{Buffer, IsBuffer, IsOrdered, put_behind}
use Rattle.whips_lists.proofs.Alls.{all_left}

cases_same : (i j : ℕ) → i ≤ j → (i ≡ j) ⊎ (i < j)
cases_same zero zero le = inl refl
cases_same zero (suc j) le = inr (omega arith)
cases_same (suc i) zero le = absurd (omega arith)
cases_same (suc i) (suc j) le = elim (cases_same i j (omega arith)) [ inl e ↦ inl (ap suc e) | inr lt ↦ inr (omega (arith, lt)) ]

module _ (cols : List ℕ) where
  -- the key of a isn't above that of b
  abbrev pub IsUpTo : Codes → Codes → Type 0
  IsUpTo a b = codes_cmp (at_columns cols a) (at_columns cols b) ≢ Greater

  abbrev pub passes : Codes → Codes → Bool
  passes t u = is_le (codes_cmp (at_columns cols u) (at_columns cols t))

  passed : (o : Ordering) → is_le o ≡ true → o ≢ Greater
  passed Less h e = cc
  passed Equal h e = cc
  passed Greater h e = cc

  passing : (o : Ordering) → o ≢ Greater → is_le o ≡ true
  passing Less h = refl
  passing Equal h = refl
  passing Greater h = absurd (h refl)

  up_to_trans : (a b c : Codes) → IsUpTo a b → IsUpTo b c → IsUpTo a c
  up_to_trans a b c h g e = go (codes_cmp (at_columns cols a) (at_columns cols b)) refl
    where
      c_below : codes_cmp (at_columns cols c) (at_columns cols a) ≡ Less
      c_below = less_from_greater (at_columns cols a) (at_columns cols c) e

      go : (o : Ordering) → codes_cmp (at_columns cols a) (at_columns cols b) ≡ o → ⊥
      go Less f = g (greater_from_less (at_columns cols c) (at_columns cols b) (codes_trans (at_columns cols c) (at_columns cols a) (at_columns cols b) c_below f))
      go Equal f = g (sym (nat_list_cmp_total.congr (at_columns cols a) (at_columns cols b) (at_columns cols c) f) ∙ e)
      go Greater f = h f

  ordered_at : (rows : List Codes) (i j : ℕ) (d : Codes) → IsOrdered cols rows → i < j → j < length rows → IsUpTo (get_or rows i d) (get_or rows j d)
  ordered_at [] i j d h lt le = absurd (omega arith)
  ordered_at (t ∷ rows) zero zero d h lt le = absurd (omega arith)
  ordered_at (t ∷ rows) zero (suc j) d h lt le = all_at (λ u. IsUpTo t u) rows j d h.0 (omega arith)
  ordered_at (t ∷ rows) (suc i) zero d h lt le = absurd (omega arith)
  ordered_at (t ∷ rows) (suc i) (suc j) d h lt le = ordered_at rows i j d h.1 (omega arith) (omega arith)

  pub parted : (t : Codes) (rows : List Codes) → IsOrdered cols rows → IsPartitionedBy (passes t) rows
  parted t rows h i j d le lt pass = elim (cases_same i j le) [
    | inl e ↦ subst (λ k. passes t (get_or rows k d) ≡ true) (sym e) pass
    | inr below ↦ passing _ (up_to_trans (get_or rows i d) (get_or rows j d) t (ordered_at rows i j d h below lt) (passed _ pass))
  ]

  pub inserted : (t : Codes) (rows : List Codes) (i : ℕ) → i ≤ length rows → IsPartitionPoint (λ u. passes t u ≡ true) (λ u. passes t u ≡ false) rows i → insert rows i t ≡ put_behind cols t rows
  inserted t [] zero le h = refl
  inserted t (u ∷ rows) zero le h = go (codes_cmp (at_columns cols u) (at_columns cols t)) refl
    where
      fails : is_le (codes_cmp (at_columns cols u) (at_columns cols t)) ≡ false
      fails = h.1 0 u (omega arith) (omega arith)

      go : (o : Ordering) → codes_cmp (at_columns cols u) (at_columns cols t) ≡ o → t ∷ u ∷ rows ≡ match_ordering o (u ∷ put_behind cols t rows) (u ∷ put_behind cols t rows) (t ∷ u ∷ rows)
      go Less e = absurd (let bad : is_le Less ≡ false = subst (λ o. is_le o ≡ false) e fails in cc)
      go Equal e = absurd (let bad : is_le Equal ≡ false = subst (λ o. is_le o ≡ false) e fails in cc)
      go Greater e = refl
  inserted t [] (suc i) le h = absurd (omega arith)
  inserted t (u ∷ rows) (suc i) le h = go (codes_cmp (at_columns cols u) (at_columns cols t)) refl (inserted t rows i (omega arith) (λ k d low lt. h.0 (suc k) d (omega arith) (omega arith), λ k d low lt. h.1 (suc k) d (omega arith) (omega arith)))
    where
      holds : is_le (codes_cmp (at_columns cols u) (at_columns cols t)) ≡ true
      holds = h.0 0 u (omega arith) (omega arith)

      go : (o : Ordering) → codes_cmp (at_columns cols u) (at_columns cols t) ≡ o → insert rows i t ≡ put_behind cols t rows → u ∷ insert rows i t ≡ match_ordering o (u ∷ put_behind cols t rows) (u ∷ put_behind cols t rows) (t ∷ u ∷ rows)
      go Less e ih = ap (λ l. u ∷ l) ih
      go Equal e ih = ap (λ l. u ∷ l) ih
      go Greater e ih = absurd (let bad : is_le Greater ≡ true = subst (λ o. is_le o ≡ true) e holds in cc)

  -- ---- a row that was put

  pub all_behind : (P : Codes → Type 0) (t : Codes) (rows : List Codes) → P t → AllByRecursion P rows → AllByRecursion P (put_behind cols t rows)
  all_behind P t [] p h = (p, tt)
  all_behind P t (u ∷ rows) p h = elim (codes_cmp (at_columns cols u) (at_columns cols t)) as (λ o. AllByRecursion P (match_ordering o (u ∷ put_behind cols t rows) (u ∷ put_behind cols t rows) (t ∷ u ∷ rows))) [
    | Less ↦ (h.0, all_behind P t rows p h.1)
    | Equal ↦ (h.0, all_behind P t rows p h.1)
    | Greater ↦ (p, h)
  ]

  pub length_behind : (t : Codes) (rows : List Codes) → length (put_behind cols t rows) ≡ suc (length rows)
  length_behind t [] = refl
  length_behind t (u ∷ rows) = elim (codes_cmp (at_columns cols u) (at_columns cols t)) as (λ o. length (match_ordering o (u ∷ put_behind cols t rows) (u ∷ put_behind cols t rows) (t ∷ u ∷ rows)) ≡ suc (suc (length rows))) [
    | Less ↦ ap suc (length_behind t rows)
    | Equal ↦ ap suc (length_behind t rows)
    | Greater ↦ refl
  ]

  later : (t u : Codes) (rows : List Codes) → IsUpTo t u → AllByRecursion (IsUpTo u) rows → AllByRecursion (IsUpTo t) rows
  later t u [] e h = tt
  later t u (v ∷ rows) e h = (up_to_trans t u v e h.0, later t u rows e h.1)

  pub ordered_behind : (t : Codes) (rows : List Codes) → IsOrdered cols rows → IsOrdered cols (put_behind cols t rows)
  ordered_behind t [] h = (tt, tt)
  ordered_behind t (u ∷ rows) h = elim (codes_cmp (at_columns cols u) (at_columns cols t)) as (λ o. codes_cmp (at_columns cols u) (at_columns cols t) ≡ o → IsOrdered cols (match_ordering o (u ∷ put_behind cols t rows) (u ∷ put_behind cols t rows) (t ∷ u ∷ rows))) [
    | Less ↦ λ e. (all_behind (IsUpTo u) t rows (λ g. absurd (let bad : Less ≡ Greater = sym e ∙ g in cc)) h.0, ordered_behind t rows h.1)
    | Equal ↦ λ e. (all_behind (IsUpTo u) t rows (λ g. absurd (let bad : Equal ≡ Greater = sym e ∙ g in cc)) h.0, ordered_behind t rows h.1)
    | Greater ↦ λ e. ((below e, later t u rows (below e) h.0), h)
  ] refl
    where
      below : codes_cmp (at_columns cols u) (at_columns cols t) ≡ Greater → IsUpTo t u
      below e g = absurd (let bad : Less ≡ Greater = sym (less_from_greater (at_columns cols u) (at_columns cols t) e) ∙ g in cc)

pub buffer_put : (b : Buffer) (t : Codes) → IsBuffer b → length b.rows < b.room → length t ≡ length b.columns.kinds → IsBuffer (record b { rows = put_behind b.columns.key t b.rows })
buffer_put b t h lt w = record {
  widths = all_behind b.columns.key (λ u. length u ≡ length b.columns.kinds) t b.rows w h.widths;
  ordered = ordered_behind b.columns.key t b.rows h.ordered;
  within = omega (arith, length_behind b.columns.key t b.rows);
}

first_if_ok : {A B : Type 0} {X : Type 0} (r : Result A B) (now x y : X) → IsOk r → now ≡ (if is_ok r then x else y) → now ≡ x
first_if_ok (Ok a) now x y ok e = e
first_if_ok (Err b) now x y ok e = absurd (cc)

-- the buffer's parts after a spare line took the codes and its place among the rows
pub parts_after_put : {A B : Type 0} (b : Buffer) (spare left now : List Codes) (line codes set : Codes) (at : ℕ) (r : Result A B)
    → IsBuffer b → length b.rows + length spare ≡ b.room → AllByRecursion (λ t. length t ≡ length b.columns.kinds) spare → length b.rows < b.room → length codes ≡ length b.columns.kinds
    → spare ≡ left ++ line ∷ [] → set ≡ codes → IsOk r → now ≡ (if is_ok r then insert b.rows at set else b.rows) → insert b.rows at codes ≡ put_behind b.columns.key codes b.rows
    → IsBuffer (record b { rows = now }) × (length now + length left ≡ b.room) × AllByRecursion (λ t. length t ≡ length b.columns.kinds) left
parts_after_put b spare left now line codes set at r h count widths room width popped is_set ok is place =
    let whole : now ≡ put_behind b.columns.key codes b.rows = first_if_ok r now (insert b.rows at set) b.rows ok is ∙ ap (λ l. insert b.rows at l) is_set ∙ place in
    let sound : IsBuffer (record b { rows = put_behind b.columns.key codes b.rows }) = buffer_put b codes h room width in
    let more = length_behind b.columns.key codes b.rows in
    let split : length spare ≡ suc (length left) = ap length popped ∙ omega (arith, length-append left (line ∷ [])) in
    let counted : length (put_behind b.columns.key codes b.rows) + length left ≡ b.room = omega arith in
    (subst (λ rows. IsBuffer (record b { rows = rows })) (sym whole) sound, subst (λ rows. length rows + length left ≡ b.room) (sym whole) counted, all_left (λ t. length t ≡ length b.columns.kinds) left (line ∷ []) (subst (AllByRecursion (λ t. length t ≡ length b.columns.kinds)) popped widths))
