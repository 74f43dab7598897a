-- An index that is built, one that goes on to the next version, and one after a change.
use Rattle.std.proofs.Common.{◌≡◌, ◌≢◌, ◌⊎◌, inl, inr, ℕ, suc, ◌*◌, ◌<◌, Bool, true, false, cond, List, [], ◌∷◌, length, refl, sym, ap, subst, ◌∙◌, arith}
use Rattle.std.specs.Prelude.{set}
use Rattle.std.specs.List.{AllByRecursion}
use Rattle.std.specs.Ordering.{nat_cmp}
use Rattle.std.specs.BTreeMap.{is_at}
use Rattle.std.proofs.lemmas.List.{length-set, get_or-set_same, get_or-set_other}
use Rattle.whips_lists.specs.Members.{Has}
use Rattle.whips_model.specs.Tuples.{Codes}
use Rattle.whips_lists.proofs.Members.{has_first, has_left, has_right}
use Rattle.whips_vnl.specs.Records.{visible}
use Rattle.whips_vnl.specs.declared.record.Vstep.{Vstep}
use Rattle.whips_store.specs.Versions.{versions_in_use, is_nothing, shows_key, is_older, is_free}
use Rattle.whips_store.specs.Sound.{IsSlot}
use Rattle.whips_store_laws.proofs.Slots.{older_below, below_same}
use Rattle.whips_store_laws.proofs.Changed.{same_place}
use Rattle.whips_slot_index.specs.Indexes.{IndexData, is_among, slot_at, IsSettled, IsIndex, AreVisited, IsTaken}
use Rattle.whips_slot_index.proofs.Shown.{at_own, at_is, shown_by, shows, shows_before, free_older, free_nothing, free_next, now_in_use}
use Rattle.whips_slot_index.proofs.Visits.{quiet_older}

-- ---- from nothing

pub built : (cols : List ℕ) (records : List (List Vstep)) (places : List ℕ) (empty index : IndexData) → empty.free ≡ [] → ((i : ℕ) → i < length records → Has i places) → AreVisited cols records places empty index → IsIndex cols records index
built cols records places empty index none all h = record {
  keys = λ i k lt e. h.keys i k lt (subst (λ x. shows_key cols x (versions_in_use x empty.committed) k (slot_at records i) ≡ true) h.versions (subst (λ y. shows_key cols index.versions (versions_in_use index.versions y) k (slot_at records i) ≡ true) h.committed e)) (inl (all i lt));
  free = λ i. (
    (λ e. elim (h.only i e) [
      | inl old ↦ absurd (let bad : false ≡ true = sym (ap (λ l. is_among l i) none) ∙ old in cc)
      | inr f ↦ (f.0, subst (λ y. is_free index.versions y (slot_at records i) ≡ true) (sym h.committed) (subst (λ x. is_free x empty.committed (slot_at records i) ≡ true) (sym h.versions) f.1))
    ]),
    (λ f. h.free i f.0 (all i f.0) (subst (λ x. is_free x empty.committed (slot_at records i) ≡ true) h.versions (subst (λ y. is_free index.versions y (slot_at records i) ≡ true) h.committed f.1))),
  );
  settled = λ i lt. elim (h.settled i lt (all i lt)) [
    | inl r ↦ inl r
    | inr s ↦ inr (subst (λ y. IsSettled index.versions y (slot_at records i)) (sym h.committed) (subst (λ x. IsSettled x empty.committed (slot_at records i)) (sym h.versions) s))
  ];
}

-- ---- the next version is committed

pub start_is : (old : IndexData) (committed : ℕ) (revisit : List ℕ) → committed ≡ suc old.committed → revisit ≡ [] → record old { committed = committed; revisit = revisit } ≡ record old { committed = suc old.committed; revisit = [] }
start_is old committed revisit e none = ap (λ w. record old { committed = w; revisit = revisit }) e ∙ ap (λ (l : List ℕ). record old { committed = suc old.committed; revisit = l }) none

module _ (cols : List ℕ) (records : List (List Vstep)) (old start new : IndexData) (next : start ≡ record old { committed = suc old.committed; revisit = [] })
    (slots : AllByRecursion (IsSlot old.versions (2 * suc old.committed)) records) (h : IsIndex cols records old) where
  abbrev n : ℕ
  n = old.versions

  abbrev c : ℕ
  c = old.committed

  same_next : (i : ℕ) → IsSettled n c (slot_at records i) → visible n (suc c) (slot_at records i) ≡ visible n c (slot_at records i)
  same_next i s = below_same n c (slot_at records i) (older_below c (slot_at records i) s.older)

  -- where a slot was settled, what holds at the next version held at the one before
  free_before : (i : ℕ) → IsSettled n c (slot_at records i) → is_free n (suc c) (slot_at records i) ≡ true → is_free n c (slot_at records i) ≡ true
  free_before i s e = s.free (sym (ap is_nothing (same_next i s)) ∙ free_nothing n (suc c) (suc c) (slot_at records i) e (now_in_use n (suc c)))

  settled_next : (i : ℕ) → i < length records → IsSettled n c (slot_at records i) → IsSettled n (suc c) (slot_at records i)
  settled_next i lt s = record {
    older = quiet_older n (suc c) records i slots lt;
    free = λ e. free_next n c (slot_at records i) (s.free (sym (ap is_nothing (same_next i s)) ∙ e));
  }

  visited_next : AreVisited cols records old.revisit (record old { committed = suc c; revisit = [] }) new → IsIndex cols records new
  visited_next f = record {
    keys = λ i k lt e.
        let shown : shows_key cols n (versions_in_use n (suc c)) k (slot_at records i) ≡ true = subst (λ x. shows_key cols x (versions_in_use x (suc c)) k (slot_at records i) ≡ true) f.versions (subst (λ y. shows_key cols new.versions (versions_in_use new.versions y) k (slot_at records i) ≡ true) f.committed e) in
        f.keys i k lt shown (elim (h.settled i lt) [
          | inl r ↦ inl r
          | inr s ↦ inr (h.keys i k lt (shows_before cols n c k (slot_at records i) s.older shown))
        ]);
    free = λ i. (
      (λ e. free_now i (elim (f.only i e) [
        | inl x ↦ let y = (h.free i).0 x in (y.0, free_next n c (slot_at records i) y.1)
        | inr y ↦ y
      ])),
      (λ e. elim (h.settled i e.0) [
        | inl r ↦ f.free i e.0 r (at_next i e.1)
        | inr s ↦ f.kept i ((h.free i).1 (e.0, free_before i s (at_next i e.1)))
      ]),
    );
    settled = λ i lt. now_settled i (elim (h.settled i lt) [
      | inl r ↦ f.settled i lt r
      | inr s ↦ inr (settled_next i lt s)
    ]);
  }
    where
      free_now : (i : ℕ) → (i < length records) × (is_free n (suc c) (slot_at records i) ≡ true) → (i < length records) × (is_free new.versions new.committed (slot_at records i) ≡ true)
      free_now i e = (e.0, subst (λ y. is_free new.versions y (slot_at records i) ≡ true) (sym f.committed) (subst (λ x. is_free x (suc c) (slot_at records i) ≡ true) (sym f.versions) e.1))

      at_next : (i : ℕ) → is_free new.versions new.committed (slot_at records i) ≡ true → is_free n (suc c) (slot_at records i) ≡ true
      at_next i e = subst (λ x. is_free x (suc c) (slot_at records i) ≡ true) f.versions (subst (λ y. is_free new.versions y (slot_at records i) ≡ true) f.committed e)

      now_settled : (i : ℕ) → Has i new.revisit ⊎ IsSettled n (suc c) (slot_at records i) → Has i new.revisit ⊎ IsSettled new.versions new.committed (slot_at records i)
      now_settled i (inl r) = inl r
      now_settled i (inr s) = inr (subst (λ y. IsSettled new.versions y (slot_at records i)) (sym f.committed) (subst (λ x. IsSettled x (suc c) (slot_at records i)) (sym f.versions) s))

  pub advanced : (places : List ℕ) → places ≡ old.revisit → AreVisited cols records places start new → IsIndex cols records new
  advanced places same f = visited_next (subst (λ x. AreVisited cols records old.revisit x new) next (subst (λ l. AreVisited cols records l start new) same f))

-- ---- a change

-- An index stays one when a change of the version after the committed one is made in a slot, which shows the same as before at the versions in use.
pub taken : (cols : List ℕ) (records : List (List Vstep)) (slot : ℕ) (steps : List Vstep) (old new : IndexData) → IsIndex cols records old → slot < length records
    → ((v : ℕ) → Has v (versions_in_use old.versions old.committed) → visible old.versions v steps ≡ visible old.versions v (slot_at records slot)) → is_older old.committed steps ≡ false
    → IsTaken slot old new → IsIndex cols (set records slot steps) new
taken cols records slot steps old new h within same newer t = subst (λ (x : IndexData). IsIndex cols (set records slot steps) x) (sym t.others) made
  where
    there : (i : ℕ) → i < length (set records slot steps) → i < length records
    there i lt = omega (arith, length-set records slot steps)

    own : slot_at (set records slot steps) slot ≡ steps
    own = get_or-set_same records slot steps [] within

    other : (i : ℕ) → i ≢ slot → slot_at (set records slot steps) i ≡ slot_at records i
    other i ne = get_or-set_other records slot i steps [] ne

    key_before : (i : ℕ) (k : Codes) → (i ≡ slot) ⊎ (i ≢ slot) → shows_key cols old.versions (versions_in_use old.versions old.committed) k (slot_at (set records slot steps) i) ≡ true → shows_key cols old.versions (versions_in_use old.versions old.committed) k (slot_at records i) ≡ true
    key_before i k (inr ne) e = subst (λ s. shows_key cols old.versions (versions_in_use old.versions old.committed) k s ≡ true) (other i ne) e
    key_before i k (inl is) e =
        let mine : shows_key cols old.versions (versions_in_use old.versions old.committed) k steps ≡ true = subst (λ s. shows_key cols old.versions (versions_in_use old.versions old.committed) k s ≡ true) own (subst (λ z. shows_key cols old.versions (versions_in_use old.versions old.committed) k (slot_at (set records slot steps) z) ≡ true) is e) in
        let f = shown_by cols old.versions (versions_in_use old.versions old.committed) k steps mine in
        subst (λ z. shows_key cols old.versions (versions_in_use old.versions old.committed) k (slot_at records z) ≡ true) (sym is) (shows cols old.versions (versions_in_use old.versions old.committed) k f.1 f.0 (slot_at records slot) f.2 (sym (same f.0 f.2) ∙ f.3) f.4)

    not_free : is_free old.versions old.committed (slot_at (set records slot steps) slot) ≡ true → ⊥
    not_free e = let bad : true ≡ false = sym (free_older old.versions old.committed steps (subst (λ s. is_free old.versions old.committed s ≡ true) own e)) ∙ newer in cc

    made : IsIndex cols (set records slot steps) (record old { free = new.free; revisit = new.revisit })
    made = record {
      keys = λ i k lt e. h.keys i k (there i lt) (key_before i k (same_place i slot) e);
      free = λ i. (
        (λ e. free_from i (is_at (nat_cmp slot) i) refl (sym (t.free i) ∙ e)),
        (λ e. t.free i ∙ free_to i (is_at (nat_cmp slot) i) refl e),
      );
      settled = λ i lt. settled i (same_place i slot) (there i lt);
    }
      where
        free_from : (i : ℕ) (b : Bool) → is_at (nat_cmp slot) i ≡ b → cond b false (is_among old.free i) ≡ true → (i < length (set records slot steps)) × (is_free old.versions old.committed (slot_at (set records slot steps) i) ≡ true)
        free_from i true f e = absurd (cc)
        free_from i false f e =
            let g = (h.free i).0 e in
            let ne : i ≢ slot = λ is. let bad : true ≡ false = sym (ap (is_at (nat_cmp slot)) is ∙ at_own slot) ∙ f in absurd (cc) in
            (omega (arith, g.0, length-set records slot steps), subst (λ s. is_free old.versions old.committed s ≡ true) (sym (other i ne)) g.1)

        free_to : (i : ℕ) (b : Bool) → is_at (nat_cmp slot) i ≡ b → (i < length (set records slot steps)) × (is_free old.versions old.committed (slot_at (set records slot steps) i) ≡ true) → cond b false (is_among old.free i) ≡ true
        free_to i true f e = absurd (not_free (subst (λ z. is_free old.versions old.committed (slot_at (set records slot steps) z) ≡ true) (at_is slot i f) e.1))
        free_to i false f e =
            let ne : i ≢ slot = λ is. let bad : true ≡ false = sym (ap (is_at (nat_cmp slot)) is ∙ at_own slot) ∙ f in absurd (cc) in
            (h.free i).1 (there i e.0, subst (λ s. is_free old.versions old.committed s ≡ true) (other i ne) e.1)

        settled : (i : ℕ) → (i ≡ slot) ⊎ (i ≢ slot) → i < length records → Has i new.revisit ⊎ IsSettled old.versions old.committed (slot_at (set records slot steps) i)
        settled i (inl is) lt = inl (subst (λ l. Has i l) (sym t.revisit) (has_right i old.revisit (slot ∷ []) (subst (λ z. Has z (slot ∷ [])) (sym is) (has_first slot []))))
        settled i (inr ne) lt = elim (h.settled i lt) [
          | inl r ↦ inl (subst (λ l. Has i l) (sym t.revisit) (has_left i old.revisit (slot ∷ []) r))
          | inr s ↦ inr (subst (IsSettled old.versions old.committed) (sym (other i ne)) s)
        ]
