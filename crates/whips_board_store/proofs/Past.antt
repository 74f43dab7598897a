-- What a history tells once more is stored.
use Rattle.std.proofs.Common.{◌≡◌, ℕ, zero, suc, ◌+◌, ◌*◌, ◌/◌, ◌%◌, ◌<◌, eqb, cond, List, [], ◌∷◌, ◌++◌, length, map, get_or, set, refl, sym, ap, ap₂, subst, ◌∙◌, arith, append_assoc}
use Rattle.std.specs.List.{range_with_len}
use Rattle.whips_model.specs.Tuples.{Codes}
use Rattle.whips_model.proofs.Keyed.{all_at}
use Rattle.whips_rel.specs.declared.update.Change.{Change}
use Rattle.whips_changes.specs.Changes.{union_rows}
use Rattle.whips_board.specs.History.{words_after}
use Rattle.whips_store.specs.Stores.{ViewState, StoreState, no_view, view_in}
use Rattle.whips_store.specs.Sound.{IsSoundView, IsSoundStore}
use Rattle.whips_slot_words.specs.Words.{Shape, header_place, column_place, headers, target_of, phase_of}
use Rattle.whips_slot_words.specs.Loads.{words_at}
use Rattle.whips_slot_words.specs.Slots.{op_number, row_stored, change_stores}
use Rattle.whips_slot_words.specs.StoreLaws.{HoldsStore}
use Rattle.whips_slot_words.proofs.Kept.{picked}
use Rattle.whips_slot_laws.specs.Histories.{rows_picked}
use Rattle.whips_board_store.specs.Past.{values_shown, values_by, values_committed}

module _ (shape : Shape) (keys : ℕ → List ℕ) where
  pub committed_more : (words : List ℕ) (a b : List (ℕ × ℕ)) → values_committed shape keys words (a ++ b) ≡ values_committed shape keys words a ++ values_committed shape keys (words_after words a) b
  committed_more words [] b = refl
  committed_more words (s ∷ a) b =
      ap (λ l. values_by shape keys words s ++ l) (committed_more (set words s.0 s.1) a b)
      ∙ sym (append_assoc (values_by shape keys words s) (values_committed shape keys (set words s.0 s.1) a) (values_committed shape keys (words_after (set words s.0 s.1) a) b))

  -- a store of another word than the phase commits nothing
  other_words : (f : ℕ → ℕ) (k : ℕ) (row words : List ℕ) → values_committed shape keys words (words_at (λ j. suc (f j)) k row) ≡ []
  other_words f k [] words = refl
  other_words f k (r ∷ row) words = other_words f (suc k) row (set words (suc (f k)) r)

  pub change_commits_nothing : (words board : List ℕ) (x i : ℕ) (change : Change) → values_committed shape keys words (change_stores shape board x i change) ≡ []
  change_commits_nothing words board x i change =
      let t = target_of (headers shape board x i) in
      committed_more words (words_at (column_place shape x i t) 0 (row_stored change)) ((header_place shape x i t, 4 * suc (phase_of board / 2) + op_number change) ∷ [])
      ∙ ap (λ l. l ++ []) (other_words _ 0 (row_stored change) words)

  pub begin_commits_nothing : (words : List ℕ) (p : ℕ) → p % 2 ≡ 1 → values_committed shape keys words ((0, p) ∷ []) ≡ []
  begin_commits_nothing words p odd = ap (λ r. cond (eqb r 0) (values_shown shape keys (set words 0 p) (p / 2) ∷ []) [] ++ []) odd

  pub publish_commits : (words : List ℕ) (p : ℕ) → p % 2 ≡ 0 → values_committed shape keys words ((0, p) ∷ []) ≡ values_shown shape keys (set words 0 p) (p / 2) ∷ []
  publish_commits words p even = ap (λ r. cond (eqb r 0) (values_shown shape keys (set words 0 p) (p / 2) ∷ []) [] ++ []) even

-- ---- what is shown at the committed version

each_current : (f : ℕ → List Codes) (vs : List ViewState) (a : ℕ) → ((x : ℕ) → x < length vs → f (a + x) ≡ (get_or vs x no_view).current) → map f (range_with_len a (length vs)) ≡ map (λ (v : ViewState). v.current) vs
each_current f [] a is = refl
each_current f (v ∷ vs) a is =
    let here : a + 0 ≡ a = omega arith in
    ap₂ (λ t l. t ∷ l) (ap f (sym here) ∙ is 0 (omega arith))
    (each_current f vs (a + 1) (λ x lt. let further : (a + 1) + x ≡ a + suc x = omega arith in ap f further ∙ is (suc x) (omega (arith, lt))))

-- the words show the current rows at the committed version
pub shows_current : (shape : Shape) (keys : ℕ → List ℕ) (words : List ℕ) (s : StoreState) → HoldsStore shape words s → IsSoundStore s → ((x : ℕ) → x < length s.views → (view_in s x).columns.key ≡ keys x)
    → values_shown shape keys words (s.phase / 2) ≡ map (λ (v : ViewState). v.current) s.views
shows_current shape keys words s h sound same =
    ap (λ n. map (λ x. union_rows (keys x) (rows_picked shape words x (s.phase / 2) ∷ [])) (range_with_len 0 n)) (sym h.count)
    ∙ each_current (λ x. union_rows (keys x) (rows_picked shape words x (s.phase / 2) ∷ [])) s.views 0 (λ x lt. let at : 0 + x ≡ x = omega arith in ap (λ y. union_rows (keys y) (rows_picked shape words y (s.phase / 2) ∷ [])) at ∙ each x lt)
  where
    each : (x : ℕ) → x < length s.views → union_rows (keys x) (rows_picked shape words x (s.phase / 2) ∷ []) ≡ (view_in s x).current
    each x lt =
        ap (λ k. union_rows k (rows_picked shape words x (s.phase / 2) ∷ [])) (sym (same x lt))
        ∙ ap (λ rows. union_rows (view_in s x).columns.key (rows ∷ [])) (picked shape words s h x (s.phase / 2) lt)
        ∙ (all_at (IsSoundView s.versions s.phase) s.views x no_view sound.views lt).committed
