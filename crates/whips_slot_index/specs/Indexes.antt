-- An index of a view's slots by key, with the free ones.
use Rattle.std.specs.Prelude.{◌≡◌, ◌≢◌, ◌⊎◌, ◌↔◌, ℕ, ◌<◌, ◌&&◌, ◌||◌, not, cond, Bool, true, false, List, [], ◌∷◌, ◌++◌, length, Option, Some, None, is_none, slice_index_or, nat_eq}
use Rattle.std.specs.List.{list_any, filter, position}
use Rattle.std.specs.Ordering.{nat_cmp}
use Rattle.std.specs.BTreeMap.{is_at}
use Rattle.std.specs.Map.{lookup}
use lib.Pointwise.{pointwise}
use Rattle.whips_lists.specs.Members.{Has}
use Rattle.whips_model.specs.Tuples.{Codes, at_columns}
use Rattle.whips_vnl.specs.Records.{visible}
use Rattle.whips_vnl.specs.declared.record.Vstep.{Vstep}
use Rattle.whips_store.specs.Versions.{versions_in_use, is_nothing, shows_key, is_older, is_free}

-- An index for n versions while the version after the committed one is written: a slot for each key, the free slots in rising order, and the slots for which the next committed version may change something.
pub record IndexData : Type 0 where
  pub versions : ℕ
  pub committed : ℕ
  pub slots : List (Codes × ℕ)
  pub free : List ℕ
  pub revisit : List ℕ

-- the slot that is noted for the key
abbrev pub noted : IndexData → Codes → Option ℕ
noted index k = lookup (pointwise nat_eq k) index.slots

-- whether the slot is one of the free ones
abbrev pub is_among : List ℕ → ℕ → Bool
is_among free i = list_any (is_at (nat_cmp i)) free

abbrev pub slot_at : List (List Vstep) → ℕ → List Vstep
slot_at records i = slice_index_or records i []

-- Once the version after c is committed the record shows the same as at c, and is free exactly where it is free at c: no change of a version after c was made in it, and where it shows nothing at c it is free.
pub record IsSettled (n c : ℕ) (steps : List Vstep) : Type 0 where
  pub older : is_older c steps ≡ true
  pub free : is_nothing (visible n c steps) ≡ true → is_free n c steps ≡ true

-- Each slot that shows a row at a version in use is noted for the row's key; the free slots are those that are free; and each slot is to be visited again or is settled.
pub record IsIndex (columns : List ℕ) (records : List (List Vstep)) (index : IndexData) : Type 0 where
  pub keys : (i : ℕ) (k : Codes) → i < length records → shows_key columns index.versions (versions_in_use index.versions index.committed) k (slot_at records i) ≡ true → noted index k ≡ Some i
  pub free : (i : ℕ) → (is_among index.free i ≡ true) ↔ ((i < length records) × (is_free index.versions index.committed (slot_at records i) ≡ true))
  pub settled : (i : ℕ) → i < length records → Has i index.revisit ⊎ IsSettled index.versions index.committed (slot_at records i)

-- What an index has gained once these slots were visited: each of them is noted for the key that it shows, stands among the free ones where it is free, and is to be visited again or is settled; what was noted of other slots that show a key at a version in use stays.
pub record AreVisited (columns : List ℕ) (records : List (List Vstep)) (visited : List ℕ) (old new : IndexData) : Type 0 where
  pub versions : new.versions ≡ old.versions
  pub committed : new.committed ≡ old.committed
  pub keys : (i : ℕ) (k : Codes) → i < length records → shows_key columns old.versions (versions_in_use old.versions old.committed) k (slot_at records i) ≡ true → Has i visited ⊎ (noted old k ≡ Some i) → noted new k ≡ Some i
  pub kept : (i : ℕ) → is_among old.free i ≡ true → is_among new.free i ≡ true
  pub free : (i : ℕ) → i < length records → Has i visited → is_free old.versions old.committed (slot_at records i) ≡ true → is_among new.free i ≡ true
  pub only : (i : ℕ) → is_among new.free i ≡ true → (is_among old.free i ≡ true) ⊎ ((i < length records) × (is_free old.versions old.committed (slot_at records i) ≡ true))
  pub revisits : (i : ℕ) → Has i old.revisit → Has i new.revisit
  pub settled : (i : ℕ) → i < length records → Has i visited → Has i new.revisit ⊎ IsSettled old.versions old.committed (slot_at records i)

-- ---- one visit

-- The slot is noted for the key, and nothing else has changed.
pub record IsNotedAt (key : Codes) (i : ℕ) (old new : IndexData) : Type 0 where
  pub keys : (k : Codes) → noted new k ≡ cond (pointwise nat_eq key k) (Some i) (noted old k)
  pub others : new ≡ record old { slots = new.slots }

-- Only keys that were noted for the slot are noted no more, and nothing else has changed.
pub record ForgetsAt (i : ℕ) (old new : IndexData) : Type 0 where
  pub keys : (k : Codes) → (noted new k ≡ noted old k) ⊎ (noted old k ≡ Some i)
  pub others : new ≡ record old { slots = new.slots }

-- The slot isn't noted for the row's key.
abbrev pub IsForgotten : List ℕ → Option Codes → ℕ → IndexData → Type 0
IsForgotten columns None i index = Unit {0}
IsForgotten columns (Some t) i index = noted index (at_columns columns t) ≢ Some i

-- By the row that the slot shows at a version in use.
abbrev pub IsKeyVisited : List ℕ → Option Codes → ℕ → IndexData → IndexData → Type 0
IsKeyVisited columns None i old new = ForgetsAt i old new
IsKeyVisited columns (Some t) i old new = IsNotedAt (at_columns columns t) i old new

-- A free slot stands among the free ones; one that shows nothing at the committed version and isn't free is to be visited again; nothing else has changed.
pub record IsSlotVisited (steps : List Vstep) (i : ℕ) (old new : IndexData) : Type 0 where
  pub free : (j : ℕ) → is_among new.free j ≡ cond (is_free old.versions old.committed steps && is_at (nat_cmp i) j) true (is_among old.free j)
  pub revisit : new.revisit ≡ cond (is_free old.versions old.committed steps || not (is_nothing (visible old.versions old.committed steps))) old.revisit (old.revisit ++ i ∷ [])
  pub others : new ≡ record old { free = new.free; revisit = new.revisit }

-- ---- a change

-- The slot isn't among the free ones and is to be visited again, and nothing else has changed.
pub record IsTaken (i : ℕ) (old new : IndexData) : Type 0 where
  pub free : (j : ℕ) → is_among new.free j ≡ cond (is_at (nat_cmp i) j) false (is_among old.free j)
  pub revisit : new.revisit ≡ old.revisit ++ i ∷ []
  pub others : new ≡ record old { free = new.free; revisit = new.revisit }

-- the keys that no slot shows at a version in use
abbrev pub unknown_keys : List ℕ → ℕ → ℕ → List (List Vstep) → List Codes → List Codes
unknown_keys columns n c records keys = filter (λ k. is_none (position (shows_key columns n (versions_in_use n c) k) records)) keys
