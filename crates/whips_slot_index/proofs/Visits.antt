-- What an index has gained once slots were visited.
--
-- `visited_at`: once the key that a slot shows is noted, and the slot is put among the free ones or those to visit again where it belongs,
-- the slot is visited (`AreVisited`). `then_visited`, `none_visited`: visits of some slots and then of others are a visit of all, and where
-- no slot is visited nothing has to change. `record_at`, `wide_at`, `few_at`: the record of a slot that was read, and how many steps and
-- how wide rows it has.
--
-- The idea: at versions in use a slot shows one key alone, and a key is shown by one slot (`HasSlotForKey`). So a key that is noted anew is
-- noted with the slot that shows it, and what was noted of other slots stays. A slot that is free, or shows a row at the committed version,
-- is settled; each other one is to be visited again.
--
-- Three lemmas carry it: `visited` (one slot), `keys_of` (which slot is noted for each key) and `quiet_older` (between transactions no step
-- is newer than the committed version).
use Rattle.std.proofs.Common.{◌≡◌, ◌⊎◌, inl, inr, ℕ, ◌*◌, ◌<◌, ◌≤◌, Bool, true, false, cond, not, List, [], ◌∷◌, ◌++◌, length, get_or, Option, Some, None, refl, sym, ap, subst, ◌∙◌, arith}
use Rattle.std.specs.Prelude.{◌&&◌, ◌||◌, nat_eq}
use Rattle.std.specs.List.{AllByRecursion}
use Rattle.std.specs.Ordering.{nat_cmp}
use Rattle.std.specs.BTreeMap.{is_at}
use Rattle.std.specs.Map.{lookup}
use Rattle.std.proofs.lemmas.List.{length-map}
use lib.Pointwise.{pointwise, bytes_decides}
use Rattle.whips_lists.specs.Members.{Has}
use Rattle.whips_model.specs.Tuples.{Codes, at_columns}
use Rattle.whips_model.proofs.Keyed.{all_at}
use Rattle.whips_lists.proofs.Members.{has_first, has_none, has_cases, has_left, has_right, has_either}
use Rattle.whips_vnl.specs.Records.{visible, steps_or_none}
use Rattle.whips_vnl.specs.declared.record.Vstep.{Vstep}
use Rattle.whips_store.specs.Versions.{versions_in_use, is_nothing, shows_key, is_older, is_free}
use Rattle.whips_store.specs.Sound.{IsSlot, HasSlotForKey, StepsHaveWidth}
use Rattle.whips_store_laws.proofs.Views.{within_older}
use Rattle.whips_slot_index.specs.Slots.{all_steps, row_among}
use Rattle.whips_slot_index.specs.Indexes.{IndexData, noted, is_among, slot_at, IsSettled, AreVisited, IsKeyVisited, IsSlotVisited}
use Rattle.whips_slot_index.proofs.Found.{steps_at}
use Rattle.whips_slot_index.proofs.Shown.{at_own, at_is, shows, among_some, shows_none, one_slot, one_key}

has_one : (j i : ℕ) → Has j (i ∷ []) → j ≡ i
has_one j i h = elim (has_cases j i [] h) [ inl same ↦ same | inr none ↦ absurd (has_none j none) ]

pub quiet_older : (n c : ℕ) (records : List (List Vstep)) (i : ℕ) → AllByRecursion (IsSlot n (2 * c)) records → i < length records → is_older c (slot_at records i) ≡ true
quiet_older n c records i h lt = within_older (2 * c) c (slot_at records i) (all_at (IsSlot n (2 * c)) records i [] h lt).within (omega arith)

module _ (cols : List ℕ) (records : List (List Vstep)) (i : ℕ) (old mid new : IndexData)
    (slots : AllByRecursion (IsSlot old.versions (2 * old.committed)) records) (keys : HasSlotForKey cols old.versions old.committed records) (lt : i < length records) where
  abbrev here : List Vstep
  here = slot_at records i

  abbrev versions : List ℕ
  versions = versions_in_use old.versions old.committed

  others_of : (o : Option Codes) → IsKeyVisited cols o i old mid → mid ≡ record old { slots = mid.slots }
  others_of None h = h.others
  others_of (Some t) h = h.others

  keys_of : (o : Option Codes) → row_among old.versions here versions ≡ o → IsKeyVisited cols o i old mid
      → (j : ℕ) (k : Codes) → j < length records → shows_key cols old.versions versions k (slot_at records j) ≡ true → Has j (i ∷ []) ⊎ (noted old k ≡ Some j) → noted mid k ≡ Some j
  keys_of None none h j k lj e (inl own) = absurd (shows_none cols old.versions versions k here none (subst (λ z. shows_key cols old.versions versions k (slot_at records z) ≡ true) (has_one j i own) e))
  keys_of None none h j k lj e (inr known) = elim (h.keys k) [
    | inl same ↦ same ∙ known
    | inr mine ↦
        let place : Some j ≡ Some i = sym known ∙ mine in
        let same : j ≡ i = cc in
        absurd (shows_none cols old.versions versions k here none (subst (λ z. shows_key cols old.versions versions k (slot_at records z) ≡ true) same e))
  ]
  keys_of (Some t) some h j k lj e known = go (pointwise nat_eq (at_columns cols t) k) refl
    where
      mine : shows_key cols old.versions versions (at_columns cols t) here ≡ true
      mine = let f = among_some old.versions here versions t some in shows cols old.versions versions (at_columns cols t) t f.0 here f.1 f.2 refl

      go : (b : Bool) → pointwise nat_eq (at_columns cols t) k ≡ b → noted mid k ≡ Some j
      go true f =
          let same : at_columns cols t ≡ k = (bytes_decides (at_columns cols t) k).0 f in
          let place : i ≡ j = one_slot cols old.versions old.committed records keys i j k lt lj (subst (λ q. shows_key cols old.versions versions q here ≡ true) same mine) e in
          h.keys k ∙ ap (λ b. cond b (Some i) (noted old k)) f ∙ ap (λ z. Some z) place
      go false f = h.keys k ∙ ap (λ b. cond b (Some i) (noted old k)) f ∙ other known
        where
          other : Has j (i ∷ []) ⊎ (noted old k ≡ Some j) → noted old k ≡ Some j
          other (inr known) = known
          other (inl own) =
              let same : at_columns cols t ≡ k = one_key cols old.versions old.committed records keys i (at_columns cols t) k lt mine (subst (λ z. shows_key cols old.versions versions k (slot_at records z) ≡ true) (has_one j i own) e) in
              absurd (let bad : true ≡ false = sym ((bytes_decides (at_columns cols t) k).1 same) ∙ f in cc)

  pub visited : IsKeyVisited cols (row_among old.versions here versions) i old mid → IsSlotVisited here i mid new → AreVisited cols records (i ∷ []) old new
  visited h s = record {
    versions = ap (λ (x : IndexData). x.versions) s.others ∙ ap (λ (x : IndexData). x.versions) m;
    committed = ap (λ (x : IndexData). x.committed) s.others ∙ ap (λ (x : IndexData). x.committed) m;
    keys = λ j k lj e known. ap (λ (x : IndexData). lookup (pointwise nat_eq k) x.slots) s.others ∙ keys_of (row_among old.versions here versions) refl h j k lj e known;
    kept = λ j e. free j ∙ kept (is_free old.versions old.committed here && is_at (nat_cmp i) j) (is_among old.free j) e;
    free = λ j lj own e. free j ∙ come j (has_one j i own) e;
    only = λ j e. only j (is_free old.versions old.committed here) (is_at (nat_cmp i) j) refl refl (sym (free j) ∙ e);
    revisits = λ j e. subst (Has j) (sym revisit) (stays j (is_free old.versions old.committed here || not (is_nothing (visible old.versions old.committed here))) e);
    settled = λ j lj own. subst (λ z. Has z new.revisit ⊎ IsSettled old.versions old.committed (slot_at records z)) (sym (has_one j i own))
        (settled (is_free old.versions old.committed here) (is_nothing (visible old.versions old.committed here)) refl refl revisit);
  }
    where
      m : mid ≡ record old { slots = mid.slots }
      m = others_of (row_among old.versions here versions) h

      free : (j : ℕ) → is_among new.free j ≡ cond (is_free old.versions old.committed here && is_at (nat_cmp i) j) true (is_among old.free j)
      free j = s.free j ∙ ap (λ (x : IndexData). cond (is_free x.versions x.committed here && is_at (nat_cmp i) j) true (is_among x.free j)) m

      revisit : new.revisit ≡ cond (is_free old.versions old.committed here || not (is_nothing (visible old.versions old.committed here))) old.revisit (old.revisit ++ i ∷ [])
      revisit = s.revisit ∙ ap (λ (x : IndexData). cond (is_free x.versions x.committed here || not (is_nothing (visible x.versions x.committed here))) x.revisit (x.revisit ++ i ∷ [])) m

      kept : (a b : Bool) → b ≡ true → cond a true b ≡ true
      kept true b e = refl
      kept false b e = e

      come : (j : ℕ) → j ≡ i → is_free old.versions old.committed (slot_at records j) ≡ true → cond (is_free old.versions old.committed here && is_at (nat_cmp i) j) true (is_among old.free j) ≡ true
      come j same e =
          let a : is_free old.versions old.committed here ≡ true = subst (λ z. is_free old.versions old.committed (slot_at records z) ≡ true) same e in
          let b : is_at (nat_cmp i) j ≡ true = ap (is_at (nat_cmp i)) same ∙ at_own i in
          ap (λ x. cond (x && is_at (nat_cmp i) j) true (is_among old.free j)) a ∙ ap (λ x. cond x true (is_among old.free j)) b

      only : (j : ℕ) (a b : Bool) → is_free old.versions old.committed here ≡ a → is_at (nat_cmp i) j ≡ b → cond (a && b) true (is_among old.free j) ≡ true
          → (is_among old.free j ≡ true) ⊎ ((j < length records) × (is_free old.versions old.committed (slot_at records j) ≡ true))
      only j true true f g e =
          let same : i ≡ j = sym (at_is i j g) in
          inr (subst (λ z. (z < length records) × (is_free old.versions old.committed (slot_at records z) ≡ true)) same (lt, f))
      only j true false f g e = inl e
      only j false b f g e = inl e

      stays : (j : ℕ) (b : Bool) → Has j old.revisit → Has j (cond b old.revisit (old.revisit ++ i ∷ []))
      stays j true e = e
      stays j false e = has_left j old.revisit (i ∷ []) e

      settled : (a b : Bool) → is_free old.versions old.committed here ≡ a → is_nothing (visible old.versions old.committed here) ≡ b → new.revisit ≡ cond (a || not b) old.revisit (old.revisit ++ i ∷ [])
          → Has i new.revisit ⊎ IsSettled old.versions old.committed here
      settled true b f g e = inr (record { older = quiet_older old.versions old.committed records i slots lt; free = λ _. f })
      settled false true f g e = inl (subst (Has i) (sym e) (has_right i old.revisit (i ∷ []) (has_first i [])))
      settled false false f g e = inr (record { older = quiet_older old.versions old.committed records i slots lt; free = λ n. absurd (let bad : true ≡ false = sym n ∙ g in cc) })

pub same_versions : (cols : List ℕ) (o : Option Codes) (i : ℕ) (old mid : IndexData) → IsKeyVisited cols o i old mid → mid.versions ≡ old.versions
same_versions cols None i old mid h = ap (λ (x : IndexData). x.versions) h.others
same_versions cols (Some t) i old mid h = ap (λ (x : IndexData). x.versions) h.others

-- ---- the record of a slot

pub record_at : (records : List (Option (List Vstep))) (i : ℕ) (r : Option (List Vstep)) → i < length records → r ≡ get_or records i r → slot_at (all_steps records) i ≡ steps_or_none r
record_at records i r lt is = steps_at records i r lt ∙ ap steps_or_none (sym is)

pub wide_at : (width : ℕ) (records : List (Option (List Vstep))) (i : ℕ) (r : Option (List Vstep)) → i < length records → r ≡ get_or records i r → AllByRecursion (StepsHaveWidth width) (all_steps records) → StepsHaveWidth width (steps_or_none r)
wide_at width records i r lt is h = subst (StepsHaveWidth width) (record_at records i r lt is) (all_at (StepsHaveWidth width) (all_steps records) i [] h (omega (arith, length-map records steps_or_none)))

pub few_at : (n phase : ℕ) (records : List (Option (List Vstep))) (i : ℕ) (r : Option (List Vstep)) → i < length records → r ≡ get_or records i r → AllByRecursion (IsSlot n phase) (all_steps records) → length (steps_or_none r) ≤ n
few_at n phase records i r lt is h = subst (λ steps. length steps ≤ n) (record_at records i r lt is) (all_at (IsSlot n phase) (all_steps records) i [] h (omega (arith, length-map records steps_or_none))).kept

-- the visit of a slot by its record
pub visited_at : (cols : List ℕ) (records : List (Option (List Vstep))) (i : ℕ) (r s : Option (List Vstep)) (old mid new : IndexData)
    → AllByRecursion (IsSlot old.versions (2 * old.committed)) (all_steps records) → HasSlotForKey cols old.versions old.committed (all_steps records) → i < length records
    → r ≡ get_or records i r → s ≡ get_or records i s → IsKeyVisited cols (row_among old.versions (steps_or_none r) (versions_in_use old.versions old.committed)) i old mid → IsSlotVisited (steps_or_none s) i mid new
    → AreVisited cols (all_steps records) (i ∷ []) old new
visited_at cols records i r s old mid new slots keys lt ir is h g = visited cols (all_steps records) i old mid new slots keys (omega (arith, length-map records steps_or_none))
    (subst (λ steps. IsKeyVisited cols (row_among old.versions steps (versions_in_use old.versions old.committed)) i old mid) (sym (record_at records i r lt ir)) h)
    (subst (λ steps. IsSlotVisited steps i mid new) (sym (record_at records i s lt is)) g)

module _ (cols : List ℕ) (records : List (List Vstep)) where
  -- no slot visited, or one that isn't there
  pub none_visited : (places : List ℕ) (index : IndexData) → ((i : ℕ) → Has i places → i < length records → ⊥) → AreVisited cols records places index index
  none_visited places index none = record {
    versions = refl;
    committed = refl;
    keys = λ i k lt e known. elim known [ inl own ↦ absurd (none i own lt) | inr known ↦ known ];
    kept = λ i e. e;
    free = λ i lt own e. absurd (none i own lt);
    only = λ i e. inl e;
    revisits = λ i e. e;
    settled = λ i lt own. absurd (none i own lt);
  }

  pub no_place : (i : ℕ) → Has i [] → i < length records → ⊥
  no_place i h lt = has_none i h

  pub not_there : (place : ℕ) → length records ≤ place → (i : ℕ) → Has i (place ∷ []) → i < length records → ⊥
  not_there place le i h lt = let same = has_one i place h in absurd (omega arith)

  -- first the one places, and then the others
  pub then_visited : (places others : List ℕ) (a b c : IndexData) → AreVisited cols records places a b → AreVisited cols records others b c → AreVisited cols records (places ++ others) a c
  then_visited places others a b c first second = go b.versions b.committed first.versions first.committed first second.versions second.committed second.keys second.kept second.free second.only second.revisits second.settled
    where
      go : (v w : ℕ) → v ≡ a.versions → w ≡ a.committed → AreVisited cols records places a b → c.versions ≡ v → c.committed ≡ w
          → ((i : ℕ) (k : Codes) → i < length records → shows_key cols v (versions_in_use v w) k (slot_at records i) ≡ true → Has i others ⊎ (noted b k ≡ Some i) → noted c k ≡ Some i)
          → ((i : ℕ) → is_among b.free i ≡ true → is_among c.free i ≡ true)
          → ((i : ℕ) → i < length records → Has i others → is_free v w (slot_at records i) ≡ true → is_among c.free i ≡ true)
          → ((i : ℕ) → is_among c.free i ≡ true → (is_among b.free i ≡ true) ⊎ ((i < length records) × (is_free v w (slot_at records i) ≡ true)))
          → ((i : ℕ) → Has i b.revisit → Has i c.revisit)
          → ((i : ℕ) → i < length records → Has i others → Has i c.revisit ⊎ IsSettled v w (slot_at records i))
          → AreVisited cols records (places ++ others) a c
      go v w ev ew f cv cw keys kept free only revisits settled = record {
        versions = cv ∙ ev;
        committed = cw ∙ ew;
        keys = λ i k lt e known.
            let shown : shows_key cols v (versions_in_use v w) k (slot_at records i) ≡ true = subst (λ x. shows_key cols x (versions_in_use x w) k (slot_at records i) ≡ true) (sym ev) (subst (λ y. shows_key cols a.versions (versions_in_use a.versions y) k (slot_at records i) ≡ true) (sym ew) e) in
            elim known [
              | inl own ↦ elim (has_either i places others own) [
                | inl x ↦ keys i k lt shown (inr (f.keys i k lt e (inl x)))
                | inr y ↦ keys i k lt shown (inl y)
              ]
              | inr known ↦ keys i k lt shown (inr (f.keys i k lt e (inr known)))
            ];
        kept = λ i e. kept i (f.kept i e);
        free = λ i lt own e. elim (has_either i places others own) [
          | inl x ↦ kept i (f.free i lt x e)
          | inr y ↦ free i lt y (subst (λ x. is_free x w (slot_at records i) ≡ true) (sym ev) (subst (λ y. is_free a.versions y (slot_at records i) ≡ true) (sym ew) e))
        ];
        only = λ i e. elim (only i e) [
          | inl x ↦ f.only i x
          | inr y ↦ inr (y.0, subst (λ z. is_free a.versions z (slot_at records i) ≡ true) ew (subst (λ x. is_free x w (slot_at records i) ≡ true) ev y.1))
        ];
        revisits = λ i e. revisits i (f.revisits i e);
        settled = λ i lt own. elim (has_either i places others own) [
          | inl x ↦ elim (f.settled i lt x) [ inl r ↦ inl (revisits i r) | inr s ↦ inr s ]
          | inr y ↦ elim (settled i lt y) [
            | inl r ↦ inl r
            | inr s ↦ inr (subst (λ z. IsSettled a.versions z (slot_at records i)) ew (subst (λ x. IsSettled x w (slot_at records i)) ev s))
          ]
        ];
      }
