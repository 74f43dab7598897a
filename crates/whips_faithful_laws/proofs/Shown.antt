-- What the slots of a sound view show, and what is read of them.
use Rattle.std.proofs.Common.{◌≡◌, ℕ, suc, ◌/◌, ◌<◌, List, [], ◌∷◌, length, map, refl, arith}
use Rattle.std.specs.Prelude.{fold}
use Rattle.std.specs.List.{cons_option}
use Rattle.whips_model.specs.Tuples.{Codes, at_columns}
use Rattle.whips_row_buf.specs.Buffers.{Buffer, put_behind}
use Rattle.whips_vnl.specs.Records.{Seen, seen_row, seen_nothing, seen_past, visible}
use Rattle.whips_vnl.specs.declared.record.Vstep.{Vstep}
use Rattle.whips_store.specs.Versions.{row_seen, rows_shown_at}
use Rattle.whips_store.specs.Stores.{ViewState, with_seen}
use Rattle.whips_store.specs.Sound.{IsReadable, HasSlotForKey, IsSoundView}
use Rattle.whips_store_laws.proofs.Lists.{found_from}
use Rattle.whips_store_laws.proofs.Slots.{row_of_seen}
use Rattle.whips_store_laws.proofs.Places.{at}
use Rattle.whips_faithful_laws.specs.Faithful.{AreRowsOf}
use Rattle.whips_lists.specs.Members.{AreDistinct}
use Rattle.whips_lists.proofs.Members.{has_before}

own_keys : (cols : List ℕ) (n v : ℕ) (records : List (List Vstep))
    → ((i j : ℕ) (t u : Codes) → i < length records → j < length records → visible n v (at records i) ≡ seen_row t → visible n v (at records j) ≡ seen_row u → at_columns cols t ≡ at_columns cols u → i ≡ j) → AreDistinct (map (at_columns cols) (rows_shown_at n v records))
own_keys cols n v [] h = tt
own_keys cols n v (steps ∷ records) h =
    go (visible n v steps) refl (own_keys cols n v records (λ i j t u li lj e f same. let k = h (suc i) (suc j) t u (omega arith) (omega arith) e f same in omega (arith, k)))
  where
    go : (s : Seen) → visible n v steps ≡ s → AreDistinct (map (at_columns cols) (rows_shown_at n v records)) → AreDistinct (map (at_columns cols) (cons_option (row_seen s) (rows_shown_at n v records)))
    go (seen_row t) e rest = (
      λ k.
          let u = has_before (at_columns cols) (at_columns cols t) (rows_shown_at n v records) k in
          let f = found_from (λ steps. row_seen (visible n v steps)) records [] u.0 u.1 in
          let one = h 0 (suc f.0) t u.0 (omega arith) (omega (arith, f.1)) e (row_of_seen (visible n v (at records f.0)) u.0 f.2) u.2 in
          omega (arith, one),
      rest,
    )
    go seen_nothing e rest = rest
    go seen_past e rest = rest

-- at a version in use or the next one the rows have their own keys
pub own_at : (cols : List ℕ) (n c v : ℕ) (records : List (List Vstep)) → HasSlotForKey cols n c records → IsReadable n c v → AreDistinct (map (at_columns cols) (rows_shown_at n v records))
own_at cols n c v records keys r = own_keys cols n v records (λ i j t u li lj e f same. (keys i j v v t u li lj r r e f).0 same)

-- a sound view shows its current rows at the committed version
pub shows_current : (n phase : ℕ) (v : ViewState) → IsSoundView n phase v → AreRowsOf v.columns.key v.current (rows_shown_at n (phase / 2) v.records)
shows_current n phase v h = record { own = own_at v.columns.key n (phase / 2) (phase / 2) v.records h.keys (omega arith, omega arith); ordered = h.committed }

-- all slots read one after another put their rows behind those that are there
pub all_read : (n v : ℕ) (records : List (List Vstep)) (b : Buffer)
    → fold (λ (b : Buffer) (s : Seen). with_seen s b) b (map (λ steps. visible n v steps) records) ≡ record b { rows = fold (λ rows t. put_behind b.columns.key t rows) b.rows (rows_shown_at n v records) }
all_read n v [] b = refl
all_read n v (steps ∷ records) b = go (visible n v steps) (λ c. all_read n v records c)
  where
    go : (s : Seen)
        → ((c : Buffer) → fold (λ (b : Buffer) (s : Seen). with_seen s b) c (map (λ steps. visible n v steps) records) ≡ record c { rows = fold (λ rows t. put_behind c.columns.key t rows) c.rows (rows_shown_at n v records) })
        → fold (λ (b : Buffer) (s : Seen). with_seen s b) (with_seen s b) (map (λ steps. visible n v steps) records) ≡ record b { rows = fold (λ rows t. put_behind b.columns.key t rows) b.rows (cons_option (row_seen s) (rows_shown_at n v records)) }
    go (seen_row t) more = more (record b { rows = put_behind b.columns.key t b.rows })
    go seen_nothing more = more b
    go seen_past more = more b
