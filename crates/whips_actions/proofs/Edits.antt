-- Turns of the loops that edit rows.
use Rattle.std.proofs.Common.{◌≡◌, ◌≢◌, inl, inr, ℕ, zero, suc, ◌+◌, ◌<◌, length, Bool, true, false, cond, not, Some, List, [], ◌∷◌, ◌++◌, map, get_or, take, refl, sym, ap, subst, ◌∙◌, arith, append-nil, add-one}
use Rattle.std.specs.Prelude.{slice_get}
use Rattle.std.specs.List.{filter, AllByRecursion}
use Rattle.whips_model.specs.declared.ColRef.{ColRef}
use Rattle.whips_model.specs.Tuples.{Codes, Columns, at_columns, has_key, without_key, IsKeyed}
use Rattle.whips_model.specs.Relation.{Table, IsTable}
use Rattle.whips_net.specs.Drafts.{DraftData, put_new}
use Rattle.whips_lists.specs.Members.{Has}
use Rattle.whips_model.proofs.Keyed.{all_at, keyed_filter, widths_filter}
use Rattle.whips_lists.proofs.Members.{has_first, has_later, has_mapped, has_before, has_passing, has_passed}
use Rattle.whips_choices.specs.Edits.{put_missing}
use Rattle.whips_choices.specs.Places.{place_of, key_places_from}
use Rattle.whips_choices.proofs.Rows.{without_only, without_keeps, same_row, same_rows}
use Rattle.whips_states.specs.Laws.{without_keys}
use Rattle.whips_trans_laws.proofs.ByKey.{keys_keyed}

-- one more row that comes where its key isn't there
pub missing_more : (cols : List ℕ) (new rows : List Codes) (i : ℕ) (x : Codes) → i < length new → x ≡ get_or new i x → put_missing cols (take (suc i) new) rows ≡ put_new cols x (put_missing cols (take i new) rows)
missing_more cols [] rows i x lt e = absurd (omega arith)
missing_more cols (y ∷ new) rows zero x lt e = ap (λ z. put_missing cols (z ∷ []) rows) (sym e)
missing_more cols (y ∷ new) rows (suc i) x lt e = missing_more cols new _ i x (omega arith) e

-- the places of a part's key columns
pub places_is : (out : List ColRef) (bases : List Columns) (p i : ℕ) (b : Columns) → slice_get bases i ≡ Some b → get_or (key_places_from out p (map (λ b. b.key) bases)) i [] ≡ map (place_of out (p + i)) b.key
places_is out [] p i b e = absurd (cc)
places_is out (c ∷ bases) p zero b e = let same : c ≡ b = cc in let plain : p ≡ p + 0 = omega arith in ap (λ z. map (place_of out p) z.key) same ∙ ap (λ n. map (place_of out n) b.key) plain
places_is out (c ∷ bases) p (suc i) b e = let more : suc p + i ≡ p + suc i = omega arith in places_is out bases (suc p) i b e ∙ ap (λ n. map (place_of out n) b.key) more

module _ (cols : List ℕ) where
  without_all_only : (t : Codes) (ks rows : List Codes) → Has t (without_keys cols ks rows) → Has t rows × ((k : Codes) → Has k ks → at_columns cols t ≢ k)
  unfolding Has
  without_all_only t [] rows h = (h, λ k g. absurd g)
  without_all_only t (k ∷ ks) rows h =
      let later = without_all_only t ks (without_key cols k rows) h in
      let first = without_only cols k t rows later.0 in
      (first.0, λ l g. elim g [ inl e ↦ λ same. first.1 (same ∙ e) | inr more ↦ later.1 l more ])

  without_all_keeps : (t : Codes) (ks rows : List Codes) → Has t rows → ((k : Codes) → Has k ks → at_columns cols t ≢ k) → Has t (without_keys cols ks rows)
  without_all_keeps t [] rows h other = h
  without_all_keeps t (k ∷ ks) rows h other = without_all_keeps t ks (without_key cols k rows) (without_keeps cols k t rows h (other k (has_first k ks))) (λ l g. other l (has_later l k ks g))

  -- without the keys of the rows that pass, the others are left
  pub others_left : (p : Codes → Bool) (rows : List Codes) → IsKeyed cols rows → without_keys cols (map (at_columns cols) (filter p rows)) rows ≡ filter (λ t. not (p t)) rows
  others_left p rows keyed = same_rows cols (without_keys cols keys rows) (filter (λ t. not (p t)) rows) (keys_keyed cols keys rows keyed) (keyed_filter cols (λ t. not (p t)) rows keyed) to from
    where
      keys : List Codes
      keys = map (at_columns cols) (filter p rows)

      to : (t : Codes) → Has t (without_keys cols keys rows) → Has t (filter (λ t. not (p t)) rows)
      to t h = go (p t) refl
        where
          left : Has t rows × ((k : Codes) → Has k keys → at_columns cols t ≢ k)
          left = without_all_only t keys rows h

          go : (b : Bool) → p t ≡ b → Has t (filter (λ t. not (p t)) rows)
          go true e = absurd (left.1 (at_columns cols t) (has_mapped (at_columns cols) t (filter p rows) (has_passing p t rows e left.0)) refl)
          go false e = has_passing (λ t. not (p t)) t rows (ap not e) left.0

      from : (t : Codes) → Has t (filter (λ t. not (p t)) rows) → Has t (without_keys cols keys rows)
      from t h = without_all_keeps t keys rows passed.0 other
        where
          passed : Has t rows × (not (p t) ≡ true)
          passed = has_passed (λ t. not (p t)) t rows h

          other : (k : Codes) → Has k keys → at_columns cols t ≢ k
          other k g same =
              let u = has_before (at_columns cols) k (filter p rows) g in
              let w = has_passed p u.0 rows u.1 in
              let one : t ≡ u.0 = same_row cols t u.0 rows keyed passed.0 w.0 (same ∙ u.2) in
              let e : p t ≡ true = ap p one ∙ w.1 in
              absurd (cc (e, passed.1))

-- a turn of the loop that puts rows
pub missing_turn : (before now after : DraftData) (new : List Codes) (i : ℕ) (x t : Codes) → i < length new → x ≡ get_or new i x → t ≡ x → now ≡ record before { after = put_missing before.columns.key (take i new) before.after }
    → after ≡ record now { after = put_new now.columns.key t now.after } → after ≡ record before { after = put_missing before.columns.key (take (i + 1) new) before.after }
missing_turn before now after new i x t lt at is so_far last =
    rw add-one (last ∙ ap (λ (r : DraftData). record r { after = put_new r.columns.key t r.after }) so_far
    ∙ ap (λ (z : Codes). record before { after = put_new before.columns.key z (put_missing before.columns.key (take i new) before.after) }) is
    ∙ ap (λ (l : List Codes). record before { after = l }) (sym (missing_more before.columns.key new before.after i x lt at)))

-- the rows that have a key go
pub key_gone : (before now after : DraftData) (places : List ℕ) (k : Codes) (keys : List Codes) → now ≡ before → IsKeyed before.columns.key before.after → keys ≡ map (at_columns before.columns.key) (filter (has_key places k) before.after)
    → after ≡ record now { after = without_keys now.columns.key keys now.after } → after ≡ record before { after = without_key places k before.after }
key_gone before now after places k keys same keyed are last =
    last ∙ ap (λ (r : DraftData). record r { after = without_keys r.columns.key keys r.after }) same ∙ ap (λ (l : List Codes). record before { after = without_keys before.columns.key l before.after }) are
    ∙ ap (λ (l : List Codes). record before { after = l }) (others_left before.columns.key (has_key places k) before.after keyed)

-- the rows that are found have the width
pub found_wide : (d : DraftData) (table : Table) (found rows : List Codes) (p : Codes → Bool) → table ≡ record { columns = d.columns; rows = d.after } → IsTable d.columns d.after → found ≡ filter p table.rows → rows ≡ found
    → AllByRecursion (λ t. length t ≡ length d.columns.kinds) rows
found_wide d table found rows p is sound same are =
    let wide = widths_filter (λ t. length t ≡ length d.columns.kinds) p d.after sound.widths in
    subst (AllByRecursion (λ t. length t ≡ length d.columns.kinds)) (sym (are ∙ same ∙ ap (λ (t : Table). filter p t.rows) is)) wide

-- the keys of the rows that were found are those of the rows with the key
pub keys_found : (before now : DraftData) (table : Table) (places asked k : List ℕ) (found rows : List Codes) → now ≡ before → table ≡ record { columns = now.columns; rows = now.after } → asked ≡ places
    → found ≡ filter (has_key asked k) table.rows → rows ≡ found → map (at_columns now.columns.key) rows ≡ map (at_columns before.columns.key) (filter (has_key places k) before.after)
keys_found before now table places asked k found rows same is asks finds are =
    let all : rows ≡ filter (has_key places k) now.after = are ∙ finds ∙ ap (λ (t : Table). filter (has_key asked k) t.rows) is ∙ ap (λ ps. filter (has_key ps k) now.after) asks in
    ap (map (at_columns now.columns.key)) all ∙ ap (λ (d : DraftData). map (at_columns d.columns.key) (filter (has_key places k) d.after)) same
