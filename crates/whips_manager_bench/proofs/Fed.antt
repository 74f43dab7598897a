-- What a manager of a view of pairs asks of a transaction, and the number that it has after it.
use Rattle.std.proofs.Common.{◌≡◌, ℕ, zero, suc, ◌<◌, List, [], ◌∷◌, length, map, refl, sym, subst, ◌∙◌, arith}
use Rattle.std.specs.Prelude.{slice_index}
use Rattle.std.proofs.lemmas.List.{length-map}
use Rattle.whips_model.specs.Tuples.{Codes, Columns}
use Rattle.whips_choices.specs.KeyedViews.{KeyedView}
use Rattle.whips_states.specs.States.{Updates}
use Rattle.whips_states.specs.Net.{given_at, taken}
use Rattle.whips_steps.specs.Steps.{asked_sources}
use Rattle.whips_lists.specs.Lists.{places_from}
use Rattle.whips_view.specs.ViewDefs.{View, keyed}
use Rattle.whips_managers.specs.Managers.{ManagerState, with_deletion, with_deletions, with_put, with_query, put_or_asked, with_given, with_all_given, with_transaction}
use Rattle.whips_view.specs.Widths.{widths_of}
use Rattle.whips_managers.specs.Messages.{HaveWidths}
use Rattle.whips_manager_bench.specs.Pairs.{pair_columns, IsOfPairs, ArePairs}

-- each of two relations of pairs has two columns
two_wide : (part : ℕ) → part < 2 → slice_index (map (λ (c : Columns). length c.kinds) (pair_columns ∷ pair_columns ∷ [])) part ≡ 2
two_wide zero lt = refl
two_wide (suc zero) lt = refl
two_wide (suc (suc n)) lt = absurd (omega arith)

each_wide : (bases : List Columns) → bases ≡ pair_columns ∷ pair_columns ∷ [] → (part : ℕ) → part < length bases → slice_index (map (λ (c : Columns). length c.kinds) bases) part ≡ 2
each_wide bases e = subst (λ (l : List Columns). (part : ℕ) → part < length l → slice_index (map (λ (c : Columns). length c.kinds) l) part ≡ 2) (sym e) two_wide

-- updates of pairs have the widths of a view of pairs
pub pairs_wide : (view : View) (t : Updates) → IsOfPairs view → ArePairs t → HaveWidths (keyed view) (widths_of view) t
pairs_wide view [] of are = tt
pairs_wide view (u ∷ t) of are = (
  λ part lt relation. are.0 ∙ sym (each_wide view.bases of part (let same = length-map view.bases (λ (b : Columns). b.key) in omega arith)),
  pairs_wide view t of are.1,
)

module _ (v : KeyedView) (columns : Columns) (number : ℕ) where
  last_deleted : (keys : List (ℕ × Codes)) (m : ManagerState) → (with_deletions m keys).last ≡ m.last
  last_deleted [] m = refl
  last_deleted (e ∷ keys) m = last_deleted keys (with_deletion m e)

  last_given : (part : ℕ) (ts : List Codes) (m : ManagerState) → m.last ≡ number → (with_given v columns m number part ts).last ≡ number
  last_given part [] m h = h
  last_given part (t ∷ ts) m h = go (asked_sources v part)
    where
      go : (l : List ℕ) → (put_or_asked l (with_put v columns m number part (t ∷ ts)) (with_query v m number part (t ∷ ts))).last ≡ number
      go [] = refl
      go (s ∷ l) = refl

  last_all_given : (given : ℕ → List Codes) (parts : List ℕ) (m : ManagerState) → m.last ≡ number → (with_all_given v columns m number given parts).last ≡ number
  last_all_given given [] m h = h
  last_all_given given (part ∷ parts) m h = last_all_given given parts (with_given v columns m number part (given part)) (last_given part (given part) m h)

  -- after a transaction the last number is its own
  pub last_taken : (m : ManagerState) (t : Updates) → (with_transaction v columns m number t).last ≡ number
  last_taken m t = last_all_given (given_at v t) (places_from 0 (length v.keys)) (with_deletions (record m { last = number }) (taken v t)) (last_deleted (taken v t) (record m { last = number }))
