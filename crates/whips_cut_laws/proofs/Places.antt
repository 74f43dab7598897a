-- Lists by place, and cuts that rows raise.
use Rattle.std.proofs.Common.{◌≡◌, ℕ, zero, suc, ◌+◌, ◌<◌, ◌≤◌, max, Bool, true, false, not, List, [], ◌∷◌, ◌++◌, length, Some, cond, refl, sym, ap, subst, ◌∙◌, arith}
use Rattle.std.specs.Prelude.{slice_get, slice_index, filter}
use Rattle.whips_lists.specs.Lists.{changed_at}
use Rattle.whips_flow.specs.Painted.{Row}
use Rattle.whips_flow.specs.Cuts.{raised_cut, cut_after}
use Rattle.whips_lists.proofs.Options.{some_same}
use Rattle.whips_lists.proofs.Lists.{length_changed}

-- ---- a fact of each element and its place

abbrev pub EachAt : {A : Type 0} → (ℕ → A → Type 0) → ℕ → List A → Type 0
EachAt P k [] = Unit {0}
EachAt P k (x ∷ xs) = P k x × EachAt P (suc k) xs

module _ {A : Type 0} (P Q : ℕ → A → Type 0) where
  pub each_map : (k : ℕ) (xs : List A) → ((m : ℕ) (x : A) → k ≤ m → P m x → Q m x) → EachAt P k xs → EachAt Q k xs
  each_map k [] h e = tt
  each_map k (x ∷ xs) h e = (h k x (omega arith) e.0, each_map (suc k) xs (λ m x le. h m x (omega arith)) e.1)

  -- where one element changes
  pub each_changed : (g : A → A) (k i j : ℕ) (xs : List A) → j ≡ k + i → ((m : ℕ) (x : A) → (m ≡ j → ⊥) → P m x → Q m x) → ((x : A) → slice_get xs i ≡ Some x → P j x → Q j (g x)) → EachAt P k xs → EachAt Q k (changed_at i g xs)
  each_changed g k i j [] e other here h = tt
  each_changed g k zero j (x ∷ xs) e other here h =
      let jk : j ≡ k = omega arith in
      (subst (λ n. Q n (g x)) jk (here x refl (subst (λ n. P n x) (sym jk) h.0)), each_map (suc k) xs (λ m x le. other m x (λ q. absurd (omega (arith, q, jk)))) h.1)
  each_changed g k (suc i) j (x ∷ xs) e other here h = (other k x (λ q. absurd (omega (arith, q))) h.0, each_changed g (suc k) i j xs (omega arith) other here h.1)

module _ {A : Type 0} (P : ℕ → A → Type 0) where
  pub each_at : (k i j : ℕ) (xs : List A) (x : A) → j ≡ k + i → slice_get xs i ≡ Some x → EachAt P k xs → P j x
  each_at k i j [] x e h p = absurd (cc)
  each_at k zero j (y ∷ xs) x e h p =
      let jk : k ≡ j = omega arith in
      subst (λ n. P n x) jk (subst (λ z. P k z) (some_same y x h) p.0)
  each_at k (suc i) j (y ∷ xs) x e h p = each_at (suc k) i j xs x (omega arith) h p.1

-- a change that keeps the fact
pub each_kept : {A : Type 0} (P : ℕ → A → Type 0) (g : A → A) (i : ℕ) (xs : List A) → ((j : ℕ) (x : A) → P j x → P j (g x)) → (k : ℕ) → EachAt P k xs → EachAt P k (changed_at i g xs)
each_kept P g i [] h k e = tt
each_kept P g zero (x ∷ xs) h k e = (h k x e.0, e.1)
each_kept P g (suc i) (x ∷ xs) h k e = (e.0, each_kept P g i xs h (suc k) e.1)

-- ---- numbers at places

pub index_here : (g : ℕ → ℕ) (i : ℕ) (xs : List ℕ) → i < length xs → slice_index (changed_at i g xs) i ≡ g (slice_index xs i)
index_here g i [] lt = absurd (omega arith)
index_here g zero (x ∷ xs) lt = refl
index_here g (suc i) (x ∷ xs) lt = index_here g i xs (omega arith)

pub index_other : (g : ℕ → ℕ) (i j : ℕ) (xs : List ℕ) → (j ≡ i → ⊥) → slice_index (changed_at i g xs) j ≡ slice_index xs j
index_other g i j [] ne = refl
index_other g zero zero (x ∷ xs) ne = absurd (ne refl)
index_other g zero (suc j) (x ∷ xs) ne = refl
index_other g (suc i) zero (x ∷ xs) ne = refl
index_other g (suc i) (suc j) (x ∷ xs) ne = index_other g i j xs (λ e. ne (ap suc e))

pub index_up : (n i j : ℕ) (xs : List ℕ) → slice_index xs j ≤ slice_index (changed_at i (max n) xs) j
index_up n i j [] = omega arith
index_up n zero zero (x ∷ xs) = omega arith
index_up n zero (suc j) (x ∷ xs) = omega arith
index_up n (suc i) zero (x ∷ xs) = omega arith
index_up n (suc i) (suc j) (x ∷ xs) = index_up n i j xs

raised_swap : (a b i j : ℕ) (xs : List ℕ) → changed_at i (max a) (changed_at j (max b) xs) ≡ changed_at j (max b) (changed_at i (max a) xs)
raised_swap a b i j [] = refl
raised_swap a b zero zero (x ∷ xs) = let e : max a (max b x) ≡ max b (max a x) = omega arith in ap (λ z. z ∷ xs) e
raised_swap a b zero (suc j) (x ∷ xs) = refl
raised_swap a b (suc i) zero (x ∷ xs) = refl
raised_swap a b (suc i) (suc j) (x ∷ xs) = ap (λ z. x ∷ z) (raised_swap a b i j xs)

pub raised_comm : (cut : List ℕ) (r q : Row) → raised_cut (raised_cut cut q) r ≡ raised_cut (raised_cut cut r) q
raised_comm cut r q = raised_swap r.place q.place r.source q.source cut

pub raised_length : (cut : List ℕ) (r : Row) → length (raised_cut cut r) ≡ length cut
raised_length cut r = length_changed (max r.place) r.source cut

pub cut_after_append : (cut : List ℕ) (rows more : List Row) → cut_after cut (rows ++ more) ≡ cut_after (cut_after cut rows) more
cut_after_append cut [] more = refl
cut_after_append cut (r ∷ rows) more = cut_after_append (raised_cut cut r) rows more

pub cut_after_up : (cut : List ℕ) (rows : List Row) (y : ℕ) → slice_index cut y ≤ slice_index (cut_after cut rows) y
cut_after_up cut [] y = omega arith
cut_after_up cut (r ∷ rows) y = omega (arith, cut_after_up (raised_cut cut r) rows y, index_up r.place r.source y cut)

pub cut_after_length : (cut : List ℕ) (rows : List Row) → length (cut_after cut rows) ≡ length cut
cut_after_length cut [] = refl
cut_after_length cut (r ∷ rows) = cut_after_length (raised_cut cut r) rows ∙ raised_length cut r

-- a row may come later
pub cut_after_later : (cut : List ℕ) (q : Row) (rows more : List Row) → cut_after cut (rows ++ q ∷ more) ≡ cut_after (raised_cut cut q) (rows ++ more)
cut_after_later cut q [] more = refl
cut_after_later cut q (r ∷ rows) more = cut_after_later (raised_cut cut r) q rows more ∙ ap (λ c. cut_after c (rows ++ more)) (sym (raised_comm cut r q))

pub cut_after_split : (p : Row → Bool) (cut : List ℕ) (rows more : List Row) → cut_after cut (filter p rows ++ (filter (λ r. not (p r)) rows ++ more)) ≡ cut_after cut (rows ++ more)
cut_after_split p cut [] more = refl
cut_after_split p cut (q ∷ rows) more = elim (p q) as (λ b. cut_after cut (cond b (q ∷ filter p rows) (filter p rows) ++ (cond (not b) (q ∷ filter (λ r. not (p r)) rows) (filter (λ r. not (p r)) rows) ++ more)) ≡ cut_after (raised_cut cut q) (rows ++ more)) [
  | true ↦ cut_after_split p (raised_cut cut q) rows more
  | false ↦ cut_after_later cut q (filter p rows) (filter (λ r. not (p r)) rows ++ more) ∙ cut_after_split p (raised_cut cut q) rows more
]

-- ---- each row's place is above the cut that the rows before it leave

abbrev pub Climbs : List ℕ → List Row → Type 0
Climbs cut [] = Unit {0}
Climbs cut (r ∷ rows) = (r.source < length cut) × (slice_index cut r.source < r.place) × Climbs (raised_cut cut r) rows

pub climbs_append : (cut : List ℕ) (rows more : List Row) → Climbs cut rows → Climbs (cut_after cut rows) more → Climbs cut (rows ++ more)
climbs_append cut [] more h g = g
climbs_append cut (r ∷ rows) more h g = (h.0, h.1, climbs_append (raised_cut cut r) rows more h.2 g)

pub climbs_front : (cut : List ℕ) (rows more : List Row) → Climbs cut (rows ++ more) → Climbs cut rows
climbs_front cut [] more h = tt
climbs_front cut (r ∷ rows) more h = (h.0, h.1, climbs_front (raised_cut cut r) rows more h.2)

pub climbs_back : (cut : List ℕ) (rows more : List Row) → Climbs cut (rows ++ more) → Climbs (cut_after cut rows) more
climbs_back cut [] more h = h
climbs_back cut (r ∷ rows) more h = climbs_back (raised_cut cut r) rows more h.2

-- no row of the list is of this source
abbrev pub NoneOf : ℕ → List Row → Type 0
NoneOf y [] = Unit {0}
NoneOf y (r ∷ rows) = (r.source ≡ y → ⊥) × NoneOf y rows

climbs_later : (cut : List ℕ) (q : Row) (rows more : List Row) → NoneOf q.source rows → Climbs cut (q ∷ (rows ++ more)) → Climbs cut (rows ++ q ∷ more)
climbs_later cut q [] more none h = h
climbs_later cut q (r ∷ rows) more none h =
    let other = index_other (max q.place) q.source r.source cut none.0 in
    let mine = index_other (max r.place) r.source q.source cut (λ e. none.0 (sym e)) in (
      omega (arith, h.2.0, raised_length cut q),
      omega (arith, h.2.1, other),
      climbs_later (raised_cut cut r) q rows more none.1 (omega (arith, h.0, raised_length cut r), omega (arith, h.1, mine), subst (λ c. Climbs c (rows ++ more)) (raised_comm cut r q) h.2.2),
    )

-- ahead of the rows of a source that stay, none of this source goes
abbrev pub GoesFirst : (Row → Bool) → List Row → Type 0
GoesFirst p [] = Unit {0}
GoesFirst p (q ∷ rows) = (p q ≡ false → NoneOf q.source (filter p rows)) × GoesFirst p rows

pub climbs_split : (p : Row → Bool) (cut : List ℕ) (rows more : List Row) → GoesFirst p rows → Climbs cut (rows ++ more) → Climbs cut (filter p rows ++ (filter (λ r. not (p r)) rows ++ more))
climbs_split p cut [] more first h = h
climbs_split p cut (q ∷ rows) more first h = elim (p q) as (λ b. p q ≡ b → Climbs cut (cond b (q ∷ filter p rows) (filter p rows) ++ (cond (not b) (q ∷ filter (λ r. not (p r)) rows) (filter (λ r. not (p r)) rows) ++ more))) [
  | true ↦ λ e. (h.0, h.1, climbs_split p (raised_cut cut q) rows more first.1 h.2)
  | false ↦ λ e. climbs_later cut q (filter p rows) (filter (λ r. not (p r)) rows ++ more) (first.0 e) (h.0, h.1, climbs_split p (raised_cut cut q) rows more first.1 h.2)
] refl

-- ---- rows in the order of their numbers

abbrev pub AllAbove : ℕ → List Row → Type 0
AllAbove n [] = Unit {0}
AllAbove n (r ∷ rows) = (n < r.number) × AllAbove n rows

abbrev pub Rising : List Row → Type 0
Rising [] = Unit {0}
Rising (r ∷ rows) = AllAbove r.number rows × Rising rows
