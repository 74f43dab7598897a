-- What slots show at the versions in use, and which are free.
use Rattle.std.proofs.Common.{◌≡◌, inl, inr, ℕ, suc, ◌-◌, ◌<◌, ◌≤◌, Bool, true, false, leb, ltb, eqb, List, [], ◌∷◌, length, Option, Some, None, refl, sym, ap, subst, ◌∙◌, arith}
use Rattle.std.specs.Prelude.{◌&&◌, ◌||◌}
use Rattle.std.specs.List.{list_any, list_all}
use Rattle.std.specs.Ordering.{nat_cmp, is_gt}
use Rattle.std.specs.BTreeMap.{is_at}
use Rattle.std.proofs.lemmas.Bool.{cases_lt, le-leb, leb-true, eq-eqb, eqb-true, ne_eqb, le-ltb}
use Rattle.whips_lists.specs.Members.{Has}
use Rattle.whips_model.specs.Tuples.{Codes, at_columns, has_key}
use Rattle.whips_lists.proofs.Members.{has_first, has_later, has_none, has_cases}
use Rattle.whips_vnl.specs.Records.{seen_row, seen_nothing, visible}
use Rattle.whips_vnl.specs.declared.record.Vstep.{Vstep}
use Rattle.whips_store.specs.Versions.{versions_in_use, row_seen, is_row_of, is_nothing, shows_key, is_older, is_free}
use Rattle.whips_store.specs.Sound.{IsReadable, HasSlotForKey, StepsHaveWidth}
use Rattle.whips_store_laws.proofs.Lists.{any_found, all_pass, passes_all}
use Rattle.whips_store_laws.proofs.Unions.{has_own_key}
use Rattle.whips_store_laws.proofs.Slots.{older_below, below_same, nothing_seen, row_of_seen}
use Rattle.whips_store_laws.proofs.Places.{row_shown, in_use, used}
use Rattle.whips_store_laws.proofs.Views.{wide_seen}
use Rattle.whips_slot_index.specs.Slots.{first_there, row_among, newest_row}
use Rattle.whips_slot_index.specs.Indexes.{slot_at}

pub any_has : {X : Type 0} (p : X → Bool) (xs : List X) (x : X) → Has x xs → p x ≡ true → list_any p xs ≡ true
any_has p [] x h e = absurd (has_none x h)
any_has p (y ∷ xs) x h e = go (λ g. any_has p xs x g e) (p y) refl
  where
    go : (Has x xs → list_any p xs ≡ true) → (b : Bool) → p y ≡ b → (b || list_any p xs) ≡ true
    go more true f = refl
    go more false f = elim (has_cases x y xs h) [
      | inl same ↦ absurd (let bad : true ≡ false = sym e ∙ ap p same ∙ f in cc)
      | inr g ↦ more g
    ]

-- ---- places

pub at_own : (i : ℕ) → is_at (nat_cmp i) i ≡ true
at_own i = rw (le-ltb i i (omega arith), eq-eqb i i refl) refl

pub at_is : (i j : ℕ) → is_at (nat_cmp i) j ≡ true → j ≡ i
at_is i j e = go (ltb i j) (eqb i j) refl refl e
  where
    go : (a b : Bool) → ltb i j ≡ a → eqb i j ≡ b → is_at (nat_cmp i) j ≡ true → j ≡ i
    go true b f g e = absurd (let bad : false ≡ true = sym (rw f refl) ∙ e in cc)
    go false false f g e = absurd (let bad : false ≡ true = sym (rw (f, g) refl) ∙ e in cc)
    go false true f g e = sym (eqb-true i j g)

pub not_above : (i j : ℕ) → is_gt (nat_cmp i j) ≡ false → i ≤ j
not_above i j e = elim (cases_lt j i) [
  | inl below ↦ absurd (let bad : true ≡ false = sym (rw (le-ltb i j (omega arith), ne_eqb i j (λ same. omega (arith, same))) refl) ∙ e in cc)
  | inr above ↦ above
]

pub some_there : (free : List ℕ) (i : ℕ) → list_any (is_at (nat_cmp i)) free ≡ true → 0 < length free
some_there [] i e = absurd (cc)
some_there (j ∷ free) i e = omega arith

-- ---- keys

-- the version and the row by which a slot shows a key
pub shown_by : (cols : List ℕ) (n : ℕ) (versions : List ℕ) (k : Codes) (steps : List Vstep) → shows_key cols n versions k steps ≡ true → (v : ℕ) × (t : Codes) × Has v versions × (visible n v steps ≡ seen_row t) × (at_columns cols t ≡ k)
shown_by cols n versions k steps e =
    let f = any_found (λ v. is_row_of cols k (visible n v steps)) versions e in
    let r = row_shown cols k (visible n f.0 steps) f.2 in
    (f.0, r.0, f.1, r.1, r.2)

pub shows : (cols : List ℕ) (n : ℕ) (versions : List ℕ) (k t : Codes) (v : ℕ) (steps : List Vstep) → Has v versions → visible n v steps ≡ seen_row t → at_columns cols t ≡ k → shows_key cols n versions k steps ≡ true
shows cols n versions k t v steps h e own = any_has (λ v. is_row_of cols k (visible n v steps)) versions v h (ap (is_row_of cols k) e ∙ subst (λ q. has_key cols q t ≡ true) own (has_own_key cols t))

pub among_some : (n : ℕ) (steps : List Vstep) (versions : List ℕ) (t : Codes) → row_among n steps versions ≡ Some t → (v : ℕ) × Has v versions × (visible n v steps ≡ seen_row t)
among_some n steps [] t e = absurd (cc)
among_some n steps (v ∷ versions) t e = go (λ g. among_some n steps versions t g) (row_seen (visible n v steps)) refl e
  where
    go : (row_among n steps versions ≡ Some t → (w : ℕ) × Has w versions × (visible n w steps ≡ seen_row t)) → (o : Option Codes) → row_seen (visible n v steps) ≡ o → first_there o (row_among n steps versions) ≡ Some t
        → (w : ℕ) × Has w (v ∷ versions) × (visible n w steps ≡ seen_row t)
    go more None f e = let m = more e in (m.0, has_later m.0 v versions m.1, m.2)
    go more (Some u) f e = (v, has_first v versions, row_of_seen (visible n v steps) t (f ∙ e))

pub among_none : (n : ℕ) (steps : List Vstep) (versions : List ℕ) → row_among n steps versions ≡ None → (v : ℕ) → Has v versions → row_seen (visible n v steps) ≡ None
among_none n steps [] e v h = absurd (has_none v h)
among_none n steps (w ∷ versions) e v h = go (λ f g. among_none n steps versions f v g) (row_seen (visible n w steps)) refl e
  where
    go : (row_among n steps versions ≡ None → Has v versions → row_seen (visible n v steps) ≡ None) → (o : Option Codes) → row_seen (visible n w steps) ≡ o → first_there o (row_among n steps versions) ≡ None → row_seen (visible n v steps) ≡ None
    go more None f e = elim (has_cases v w versions h) [
      | inl same ↦ ap (λ z. row_seen (visible n z steps)) same ∙ f
      | inr g ↦ more e g
    ]
    go more (Some u) f e = absurd (cc)

pub shows_none : (cols : List ℕ) (n : ℕ) (versions : List ℕ) (k : Codes) (steps : List Vstep) → row_among n steps versions ≡ None → shows_key cols n versions k steps ≡ true → ⊥
shows_none cols n versions k steps none e =
    let f = shown_by cols n versions k steps e in
    let bad : None ≡ Some f.1 = sym (among_none n steps versions none f.0 f.2) ∙ ap row_seen f.3 in
    cc

module _ (cols : List ℕ) (n c : ℕ) (records : List (List Vstep)) (keys : HasSlotForKey cols n c records) where
  readable : (v : ℕ) → Has v (versions_in_use n c) → IsReadable n c v
  readable v h = let u = used n c v h in (u.0, omega (arith, u.1))

  -- a key is shown by one slot
  pub one_slot : (i j : ℕ) (k : Codes) → i < length records → j < length records → shows_key cols n (versions_in_use n c) k (slot_at records i) ≡ true → shows_key cols n (versions_in_use n c) k (slot_at records j) ≡ true → i ≡ j
  one_slot i j k li lj a b =
      let f = shown_by cols n (versions_in_use n c) k (slot_at records i) a in
      let g = shown_by cols n (versions_in_use n c) k (slot_at records j) b in
      (keys i j f.0 g.0 f.1 g.1 li lj (readable f.0 f.2) (readable g.0 g.2) f.3 g.3).0 (f.4 ∙ sym g.4)

  -- a slot shows one key
  pub one_key : (i : ℕ) (k l : Codes) → i < length records → shows_key cols n (versions_in_use n c) k (slot_at records i) ≡ true → shows_key cols n (versions_in_use n c) l (slot_at records i) ≡ true → k ≡ l
  one_key i k l li a b =
      let f = shown_by cols n (versions_in_use n c) k (slot_at records i) a in
      let g = shown_by cols n (versions_in_use n c) l (slot_at records i) b in
      sym f.4 ∙ (keys i i f.0 g.0 f.1 g.1 li li (readable f.0 f.2) (readable g.0 g.2) f.3 g.3).1 refl ∙ g.4

-- ---- free slots

both : (a b : Bool) → (a && b) ≡ true → (a ≡ true) × (b ≡ true)
both true b e = (refl, e)
both false b e = absurd (cc)

pub free_older : (n c : ℕ) (steps : List Vstep) → is_free n c steps ≡ true → is_older c steps ≡ true
free_older n c steps e = (both (list_all (λ v. is_nothing (visible n v steps)) (versions_in_use n c)) (is_older c steps) e).1

pub free_nothing : (n c v : ℕ) (steps : List Vstep) → is_free n c steps ≡ true → Has v (versions_in_use n c) → is_nothing (visible n v steps) ≡ true
free_nothing n c v steps e h = all_pass (λ v. is_nothing (visible n v steps)) (versions_in_use n c) (both (list_all (λ v. is_nothing (visible n v steps)) (versions_in_use n c)) (is_older c steps) e).0 v h

pub free_shows : (cols : List ℕ) (n c : ℕ) (k : Codes) (steps : List Vstep) → is_free n c steps ≡ true → shows_key cols n (versions_in_use n c) k steps ≡ true → ⊥
free_shows cols n c k steps free e =
    let f = shown_by cols n (versions_in_use n c) k steps e in
    let bad : seen_nothing ≡ seen_row f.1 = sym (nothing_seen (visible n f.0 steps) (free_nothing n c f.0 steps free f.2)) ∙ f.3 in
    cc

pub now_in_use : (n c : ℕ) → Has c (versions_in_use n c)
now_in_use n c = in_use n c c (omega arith) (omega arith)

older_later : (c : ℕ) (steps : List Vstep) → is_older c steps ≡ true → is_older (suc c) steps ≡ true
older_later c steps e = passes_all (λ s. leb s.vn (suc c)) steps (λ s h. let le = leb-true s.vn c (all_pass (λ s. leb s.vn c) steps e s h) in le-leb s.vn (suc c) (omega arith))

-- a free slot stays free when a version is committed that has no change of it
pub free_next : (n c : ℕ) (steps : List Vstep) → is_free n c steps ≡ true → is_free n (suc c) steps ≡ true
free_next n c steps e = join (list_all (λ v. is_nothing (visible n v steps)) (versions_in_use n (suc c))) (is_older (suc c) steps)
    (passes_all (λ v. is_nothing (visible n v steps)) (versions_in_use n (suc c)) (λ v h. nothing v (used n (suc c) v h)))
    (older_later c steps (free_older n c steps e))
  where
    join : (a b : Bool) → a ≡ true → b ≡ true → (a && b) ≡ true
    join a b f g = rw (f, g) refl

    nothing : (v : ℕ) → (suc c - (n - 2) ≤ v) × (v ≤ suc c) → is_nothing (visible n v steps) ≡ true
    nothing v u = elim (cases_lt v (suc c)) [
      | inl below ↦ let low = u.0 in free_nothing n c v steps e (in_use n c v (omega arith) (omega arith))
      | inr last ↦ let top : v ≡ suc c = omega (arith, u.1) in
          ap (λ w. is_nothing (visible n w steps)) top ∙ ap is_nothing (below_same n c steps (older_below c steps (free_older n c steps e))) ∙ free_nothing n c c steps e (now_in_use n c)
    ]

-- where no change of the version after c was made, what is in use at that version was in use at c
pub shows_before : (cols : List ℕ) (n c : ℕ) (k : Codes) (steps : List Vstep) → is_older c steps ≡ true → shows_key cols n (versions_in_use n (suc c)) k steps ≡ true → shows_key cols n (versions_in_use n c) k steps ≡ true
shows_before cols n c k steps older e =
    let f = shown_by cols n (versions_in_use n (suc c)) k steps e in
    let u = used n (suc c) f.0 f.2 in
    elim (cases_lt f.0 (suc c)) [
      | inl below ↦ let low = u.0 in shows cols n (versions_in_use n c) k f.1 f.0 steps (in_use n c f.0 (omega arith) (omega arith)) f.3 f.4
      | inr last ↦ let top : f.0 ≡ suc c = omega (arith, u.1) in
          shows cols n (versions_in_use n c) k f.1 c steps (now_in_use n c) (sym (below_same n c steps (older_below c steps older)) ∙ subst (λ w. visible n w steps ≡ seen_row f.1) top f.3) f.4
    ]

-- ---- widths

pub wide_among : (width n : ℕ) (steps : List Vstep) (versions : List ℕ) (t : Codes) → StepsHaveWidth width steps → row_among n steps versions ≡ Some t → length t ≡ width
wide_among width n steps versions t h e = let f = among_some n steps versions t e in wide_seen width n f.0 steps t h f.2

pub wide_newest : (width : ℕ) (steps : List Vstep) (t : Codes) → StepsHaveWidth width steps → newest_row steps ≡ Some t → length t ≡ width
wide_newest width [] t h e = absurd (cc)
wide_newest width (s ∷ steps) t h e = go (λ g. wide_newest width steps t h.1 g) s.row refl e
  where
    go : (newest_row steps ≡ Some t → length t ≡ width) → (o : Option Codes) → s.row ≡ o → first_there o (newest_row steps) ≡ Some t → length t ≡ width
    go more None f e = more e
    go more (Some u) f e = h.0 t (f ∙ e)
