-- The slots that are sought through an index.
use Rattle.std.proofs.Common.{◌≡◌, ℕ, zero, suc, ◌+◌, ◌<◌, ◌≤◌, Bool, true, false, cond, List, [], ◌∷◌, length, map, get_or, take, Option, Some, None, refl, sym, ap, subst, ◌∙◌, arith}
use Rattle.std.specs.Prelude.{◌↔◌}
use Rattle.std.specs.List.{filter, position, position_or_len}
use Rattle.std.proofs.lemmas.Bool.{lt-ltb}
use Rattle.std.proofs.lemmas.List.{length-map}
use Rattle.whips_rel.specs.declared.update.Change.{Change}
use Rattle.std.proofs.lemmas.List.Quantifiers.{position-Some}
use Rattle.std.proofs.lemmas.List.Sums.{position_or_len_is}
use Rattle.whips_model.specs.Tuples.{Codes}
use Rattle.whips_vnl.specs.declared.record.Vstep.{Vstep}
use Rattle.whips_store.specs.Versions.{versions_in_use, shows_key, is_free}
use Rattle.whips_slot_index.specs.Indexes.{IndexData, noted, is_among, slot_at, IsIndex}

module _ (p : List Vstep → Bool) (records : List (List Vstep)) where
  pub place_found : (i : ℕ) → i < length records → p (slot_at records i) ≡ true → ((k : ℕ) → k < i → p (slot_at records k) ≡ false) → Some i ≡ position p records
  place_found i lt e none =
      let place : position_or_len p records ≡ i = position_or_len_is p records i [] (omega arith) none (λ _. e) in
      sym (ap (λ b. cond b (Some (position_or_len p records)) None) (lt-ltb (position_or_len p records) (length records) (omega arith)) ∙ ap (λ i. Some i) place)

  pub no_place : ((i : ℕ) → i < length records → p (slot_at records i) ≡ true → ⊥) → None ≡ position p records
  no_place none = go (position p records) refl
    where
      go : (o : Option ℕ) → position p records ≡ o → None ≡ position p records
      go None e = sym e
      go (Some i) e = let f = position-Some p records i [] e in absurd (none i f.0 f.1)

not_true : (b : Bool) → (b ≡ true → ⊥) → b ≡ false
not_true true h = absurd (h refl)
not_true false h = refl

module _ (cols : List ℕ) (records : List (List Vstep)) (index : IndexData) (h : IsIndex cols records index) (k : Codes) where
  abbrev shown : List Vstep → Bool
  shown steps = shows_key cols index.versions (versions_in_use index.versions index.committed) k steps

  -- the noted slot shows the key
  pub known : (i : ℕ) → noted index k ≡ Some i → i < length records → shown (slot_at records i) ≡ true → Some i ≡ position shown records
  known i e lt s = place_found shown records i lt s (λ j below. not_true (shown (slot_at records j)) (λ f. let both : Some j ≡ Some i = sym (h.keys j k (omega arith) f) ∙ e in let same : j ≡ i = cc in absurd (omega arith)))

  -- no slot is noted
  pub not_noted : noted index k ≡ None → None ≡ position shown records
  not_noted e = no_place shown records (λ j lt f. let bad : Some j ≡ None = sym (h.keys j k lt f) ∙ e in absurd (cc))

  -- the noted slot doesn't show the key
  pub not_shown : (i : ℕ) → noted index k ≡ Some i → (i < length records → shown (slot_at records i) ≡ false) → None ≡ position shown records
  not_shown i e none = no_place shown records (λ j lt f.
      let both : Some j ≡ Some i = sym (h.keys j k lt f) ∙ e in
      let same : j ≡ i = cc in
      let bad : true ≡ false = sym f ∙ subst (λ z. z < length records → shown (slot_at records z) ≡ false) (sym same) none lt in
      absurd (cc))

module _ (n c : ℕ) (records : List (List Vstep)) (free : List ℕ) (h : (i : ℕ) → (is_among free i ≡ true) ↔ ((i < length records) × (is_free n c (slot_at records i) ≡ true))) where
  -- the least of the free slots
  pub first_free : (s : ℕ) → is_among free s ≡ true → ((i : ℕ) → is_among free i ≡ true → s ≤ i) → Some s ≡ position (is_free n c) records
  first_free s e least = let f = (h s).0 e in place_found (is_free n c) records s f.0 f.1 (λ i below. not_true (is_free n c (slot_at records i)) (λ g. let le = least i ((h i).1 (omega arith, g)) in absurd (omega arith)))

  pub none_free : ((i : ℕ) → is_among free i ≡ true → ⊥) → None ≡ position (is_free n c) records
  none_free none = no_place (is_free n c) records (λ i lt e. none i ((h i).1 (lt, e)))

-- ---- how many keys are unknown

pub one_more_key : (p : Codes → Bool) (keys : List Codes) (i count : ℕ) (key : Codes) (b : Bool) → count ≡ length (filter p (take i keys)) → i < length keys → key ≡ get_or keys i key → p key ≡ b → count + cond b 1 0 ≡ length (filter p (take (suc i) keys))
one_more_key p [] i count key b e lt is f = absurd (omega arith)
one_more_key p (k ∷ keys) zero count key b e lt is f = ap (λ z. z + cond b 1 0) e ∙ first b (sym (ap p is) ∙ f)
  where
    first : (b : Bool) → p k ≡ b → 0 + cond b 1 0 ≡ length (cond (p k) (k ∷ []) [])
    first true g = rw g (omega arith)
    first false g = rw g (omega arith)
one_more_key p (k ∷ keys) (suc i) count key b e lt is f = go (λ c g. one_more_key p keys i c key b g (omega arith) is f) (p k) refl e
  where
    go : ((c : ℕ) → c ≡ length (filter p (take i keys)) → c + cond b 1 0 ≡ length (filter p (take (suc i) keys))) → (x : Bool) → p k ≡ x → count ≡ length (cond (p k) (k ∷ filter p (take i keys)) (filter p (take i keys))) → count + cond b 1 0 ≡ length (cond (p k) (k ∷ filter p (take (suc i) keys)) (filter p (take (suc i) keys)))
    go more true g e =
        let c : count ≡ suc (length (filter p (take i keys))) = e ∙ rw g refl in
        let rest = more (length (filter p (take i keys))) refl in
        rw g (omega (arith, c, rest))
    go more false g e =
        let c : count ≡ length (filter p (take i keys)) = e ∙ rw g refl in
        rw g (more count c)

mapped_at : (f : Change → Codes) (changes : List Change) (keys : List Codes) (i : ℕ) (key : Codes) (change : Change) → keys ≡ map f changes → i < length changes → key ≡ get_or keys i key → change ≡ get_or changes i change → key ≡ f change
mapped_at f [] keys i key change e lt is at = absurd (omega arith)
mapped_at f (x ∷ changes) [] i key change e lt is at = absurd (cc)
mapped_at f (x ∷ changes) (k ∷ keys) zero key change e lt is at = let same : k ≡ f x = cc in is ∙ same ∙ ap f (sym at)
mapped_at f (x ∷ changes) (k ∷ keys) (suc i) key change e lt is at = let tail : keys ≡ map f changes = cc in mapped_at f changes keys i key change tail (omega arith) is at

pub one_more_change : (p : Codes → Bool) (f : Change → Codes) (changes : List Change) (keys : List Codes) (i count : ℕ) (key : Codes) (change : Change) (b : Bool) → keys ≡ map f changes → count ≡ length (filter p (take i keys)) → i < length changes
    → key ≡ get_or keys i key → change ≡ get_or changes i change → p (f change) ≡ b → count + cond b 1 0 ≡ length (filter p (take (i + 1) keys))
one_more_change p f changes keys i count key change b e count_is lt is at g =
    let long : length keys ≡ length changes = ap length e ∙ length-map changes f in
    let next : i + 1 ≡ suc i = omega arith in
    subst (λ j. count + cond b 1 0 ≡ length (filter p (take j keys))) (sym next) (one_more_key p keys i count key b count_is (omega arith) is (ap p (mapped_at f changes keys i key change e lt is at) ∙ g))

pub at_most : (p : Codes → Bool) (keys : List Codes) → length (filter p keys) ≤ length keys
at_most p [] = omega arith
at_most p (k ∷ keys) = elim (p k) as (λ b. length (cond b (k ∷ filter p keys) (filter p keys)) ≤ suc (length keys)) [ true ↦ omega (arith, at_most p keys) | false ↦ omega (arith, at_most p keys) ]
