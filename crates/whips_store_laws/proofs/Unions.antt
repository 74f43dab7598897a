-- Unions of rows by key.
use Rattle.std.proofs.Common.{◌≡◌, ◌≢◌, ◌⊎◌, inl, inr, ℕ, zero, suc, ◌<◌, ◌≤◌, Bool, true, false, cond, not, List, [], ◌∷◌, length, Option, Some, None, is_some, refl, sym, ap, subst, ◌∙◌, arith}
use Rattle.std.specs.Prelude.{fold}
use Rattle.std.specs.List.{filter}
use Rattle.whips_lists.specs.Members.{Has}
use Rattle.whips_model.specs.Tuples.{Codes, at_columns, has_key, row_at, put_row, without_key, IsKeyed}
use Rattle.whips_model.proofs.Keyed.{keyed_put}
use Rattle.whips_lists.proofs.Members.{has_first, has_later, has_none, has_cases}
use Rattle.whips_choices.proofs.Rows.{codes_tied, key_is}
use Rattle.whips_trans_laws.proofs.ByKey.{at_put}
use Rattle.whips_net.proofs.Merge.{puts}

module _ (cols : List ℕ) where
  pub has_own_key : (t : Codes) → has_key cols (at_columns cols t) t ≡ true
  has_own_key t = rw (codes_tied (at_columns cols t) (at_columns cols t) refl) refl

  pub keyed_puts : (ts rows : List Codes) → IsKeyed cols rows → IsKeyed cols (puts cols rows ts)
  keyed_puts [] rows h = h
  keyed_puts (t ∷ ts) rows h = keyed_puts ts (put_row cols t rows) (keyed_put cols t rows h)

  pub put_from : (k s : Codes) (ts rows : List Codes) → row_at cols k (puts cols rows ts) ≡ Some s → (Has s ts × (at_columns cols s ≡ k)) ⊎ (row_at cols k rows ≡ Some s)
  put_from k s [] rows e = inr e
  put_from k s (t ∷ ts) rows e = elim (put_from k s ts (put_row cols t rows) e) [
    | inl h ↦ inl (has_later s t ts h.0, h.1)
    | inr g ↦ go (has_key cols k t) refl (sym (at_put cols k t rows) ∙ g)
  ]
    where
      go : (b : Bool) → has_key cols k t ≡ b → cond b (Some t) (row_at cols k rows) ≡ Some s → (Has s (t ∷ ts) × (at_columns cols s ≡ k)) ⊎ (row_at cols k rows ≡ Some s)
      go true h g = let same : t ≡ s = cc in inl (subst (λ z. Has z (t ∷ ts)) same (has_first t ts), ap (at_columns cols) (sym same) ∙ key_is cols k t h)
      go false h g = inr g

  -- a key that is there stays
  pub keeps_key : (k : Codes) (ts rows : List Codes) → is_some (row_at cols k rows) ≡ true → is_some (row_at cols k (puts cols rows ts)) ≡ true
  keeps_key k [] rows h = h
  keeps_key k (t ∷ ts) rows h = keeps_key k ts (put_row cols t rows) (ap is_some (at_put cols k t rows) ∙ elim (has_key cols k t) as (λ b. is_some (cond b (Some t) (row_at cols k rows)) ≡ true) [ true ↦ refl | false ↦ h ])

  pub has_put : (t : Codes) (ts rows : List Codes) → Has t ts → is_some (row_at cols (at_columns cols t) (puts cols rows ts)) ≡ true
  has_put t [] rows h = absurd (has_none t h)
  has_put t (u ∷ ts) rows h = elim (has_cases t u ts h) [
    | inl same ↦ keeps_key (at_columns cols t) ts (put_row cols u rows) (ap is_some (at_put cols (at_columns cols t) u rows) ∙ ap (λ b. is_some (cond b (Some u) (row_at cols (at_columns cols t) rows))) (subst (λ z. has_key cols (at_columns cols t) z ≡ true) same (has_own_key t)))
    | inr g ↦ has_put t ts (put_row cols u rows) g
  ]

  -- a row whose key no other has
  pub alone : (t : Codes) (ts : List Codes) → Has t ts → ((u : Codes) → Has u ts → at_columns cols u ≡ at_columns cols t → u ≡ t) → row_at cols (at_columns cols t) (puts cols [] ts) ≡ Some t
  alone t ts h only = go (row_at cols (at_columns cols t) (puts cols [] ts)) refl
    where
      go : (o : Option Codes) → row_at cols (at_columns cols t) (puts cols [] ts) ≡ o → o ≡ Some t
      go None e = absurd (let some : false ≡ true = subst (λ (o : Option Codes). is_some o ≡ true) e (has_put t ts [] h) in cc)
      go (Some s) e = elim (put_from (at_columns cols t) s ts [] e) [
        | inl g ↦ ap (λ z. Some z) (only s g.0 g.1)
        | inr g ↦ absurd (cc)
      ]

  -- ---- of several values

  abbrev pub all_puts : List Codes → List (List Codes) → List Codes
  all_puts rows values = fold (fold (λ rows t. put_row cols t rows)) rows values

  all_keep : (k : Codes) (values : List (List Codes)) (rows : List Codes) → is_some (row_at cols k rows) ≡ true → is_some (row_at cols k (all_puts rows values)) ≡ true
  all_keep k [] rows h = h
  all_keep k (ts ∷ values) rows h = all_keep k values (puts cols rows ts) (keeps_key k ts rows h)

  pub has_in_union : (t : Codes) (ts : List Codes) (values : List (List Codes)) (rows : List Codes) → Has ts values → Has t ts → is_some (row_at cols (at_columns cols t) (all_puts rows values)) ≡ true
  has_in_union t ts [] rows h g = absurd (has_none ts h)
  has_in_union t ts (us ∷ values) rows h g = elim (has_cases ts us values h) [
    | inl same ↦ all_keep (at_columns cols t) values (puts cols rows us) (has_put t us rows (subst (Has t) same g))
    | inr f ↦ has_in_union t ts values (puts cols rows us) f g
  ]

  pub from_union : (k s : Codes) (values : List (List Codes)) (rows : List Codes) → row_at cols k (all_puts rows values) ≡ Some s → ((ts : List Codes) × Has ts values × Has s ts × (at_columns cols s ≡ k)) ⊎ (row_at cols k rows ≡ Some s)
  from_union k s [] rows e = inr e
  from_union k s (ts ∷ values) rows e = elim (from_union k s values (puts cols rows ts) e) [
    | inl h ↦ inl (h.0, has_later h.0 ts values h.1, h.2, h.3)
    | inr g ↦ elim (put_from k s ts rows g) [
      | inl h ↦ inl (ts, has_first ts values, h.0, h.1)
      | inr f ↦ inr f
    ]
  ]

  pub keyed_all : (values : List (List Codes)) (rows : List Codes) → IsKeyed cols rows → IsKeyed cols (all_puts rows values)
  keyed_all [] rows h = h
  keyed_all (ts ∷ values) rows h = keyed_all values (puts cols rows ts) (keyed_puts ts rows h)

  -- ---- how many keys there are

  fewer_kept : (p : Codes → Bool) (rows : List Codes) → length (filter p rows) ≤ length rows
  fewer_kept p [] = omega arith
  fewer_kept p (u ∷ rows) = elim (p u) as (λ b. length (cond b (u ∷ filter p rows) (filter p rows)) ≤ suc (length rows)) [ true ↦ omega (arith, fewer_kept p rows) | false ↦ omega (arith, fewer_kept p rows) ]

  pub fewer_without : (k : Codes) (rows : List Codes) → is_some (row_at cols k rows) ≡ true → suc (length (without_key cols k rows)) ≤ length rows
  fewer_without k [] e = absurd (cc)
  fewer_without k (u ∷ rows) e = go (has_key cols k u) refl e (λ g. fewer_without k rows g)
    where
      go : (b : Bool) → has_key cols k u ≡ b → is_some (cond b (Some u) (row_at cols k rows)) ≡ true → (is_some (row_at cols k rows) ≡ true → suc (length (without_key cols k rows)) ≤ length rows)
          → suc (length (cond (not b) (u ∷ without_key cols k rows) (without_key cols k rows))) ≤ suc (length rows)
      go true h g more = omega (arith, fewer_kept (λ t. not (has_key cols k t)) rows)
      go false h g more = omega (arith, more g)

  pub other_stays : (j k : Codes) (rows : List Codes) → j ≢ k → is_some (row_at cols j rows) ≡ true → is_some (row_at cols j (without_key cols k rows)) ≡ true
  other_stays j k [] ne e = e
  other_stays j k (u ∷ rows) ne e = go (has_key cols j u) (has_key cols k u) refl refl e (λ g. other_stays j k rows ne g)
    where
      go : (b c : Bool) → has_key cols j u ≡ b → has_key cols k u ≡ c → is_some (cond b (Some u) (row_at cols j rows)) ≡ true → (is_some (row_at cols j rows) ≡ true → is_some (row_at cols j (without_key cols k rows)) ≡ true)
          → is_some (row_at cols j (cond (not c) (u ∷ without_key cols k rows) (without_key cols k rows))) ≡ true
      go true true f g e more = absurd (ne (sym (key_is cols j u f) ∙ key_is cols k u g))
      go true false f g e more = ap (λ b. is_some (cond b (Some u) (row_at cols j (without_key cols k rows)))) f
      go false true f g e more = more e
      go false false f g e more = ap (λ b. is_some (cond b (Some u) (row_at cols j (without_key cols k rows)))) f ∙ more e

  -- m different keys that rows have are at most as many as the rows
  pub counted : (K : ℕ → Codes → Type 0) (m : ℕ) (rows : List Codes) → ((i : ℕ) → i < m → (k : Codes) × K i k × (is_some (row_at cols k rows) ≡ true)) → ((i j : ℕ) (k : Codes) → i < m → j < m → K i k → K j k → i ≡ j) → m ≤ length rows
  counted K zero rows each apart = omega arith
  counted K (suc m) rows each apart =
      let last = each m (omega arith) in
      let fewer = fewer_without last.0 rows last.2 in
      let rest = counted K m (without_key cols last.0 rows)
      (λ i lt. let one = each i (omega arith) in (one.0, one.1, other_stays one.0 last.0 rows (λ same. let e : i ≡ m = apart i m last.0 (omega arith) (omega arith) (subst (K i) same one.1) last.1 in absurd (omega arith)) one.2))
      (λ i j k li lj a b. apart i j k (omega arith) (omega arith) a b) in
      omega arith

  -- ---- rows without a key

  pub own_gone : (k : Codes) (rows : List Codes) → row_at cols k (without_key cols k rows) ≡ None
  own_gone k [] = refl
  own_gone k (u ∷ rows) = go (own_gone k rows) (has_key cols k u) refl
    where
      go : row_at cols k (without_key cols k rows) ≡ None → (b : Bool) → has_key cols k u ≡ b → row_at cols k (cond (not b) (u ∷ without_key cols k rows) (without_key cols k rows)) ≡ None
      go ih true e = ih
      go ih false e = ap (λ b. cond b (Some u) (row_at cols k (without_key cols k rows))) e ∙ ih

  pub other_same : (j k : Codes) (rows : List Codes) → j ≢ k → row_at cols j (without_key cols k rows) ≡ row_at cols j rows
  other_same j k [] ne = refl
  other_same j k (u ∷ rows) ne = go (other_same j k rows ne) (has_key cols k u) refl
    where
      go : row_at cols j (without_key cols k rows) ≡ row_at cols j rows → (b : Bool) → has_key cols k u ≡ b → row_at cols j (cond (not b) (u ∷ without_key cols k rows) (without_key cols k rows)) ≡ row_at cols j (u ∷ rows)
      go ih false e = ap (λ o. cond (has_key cols j u) (Some u) o) ih
      go ih true e = ih ∙ skip (has_key cols j u) refl
        where
          skip : (b : Bool) → has_key cols j u ≡ b → row_at cols j rows ≡ cond b (Some u) (row_at cols j rows)
          skip true f = absurd (ne (sym (key_is cols j u f) ∙ key_is cols k u e))
          skip false f = refl
