-- A transaction begins with as many changes as the machine counts.
use Rattle.std.proofs.Common.{◌≡◌, ℕ, suc, ◌+◌, List, [], ◌∷◌, length, map, Some, slice_get, refl, ap, ap₂, ◌∙◌, arith}
use Rattle.std.specs.Prelude.{slice_index_or, sum}
use Rattle.std.specs.List.{sum_by}
use Rattle.whips_lists.specs.Lists.{map_with_place}
use Rattle.whips_changes.specs.Changes.{net_changes}
use Rattle.whips_view.specs.ViewDefs.{View, keyed}
use Rattle.whips_actions.specs.declared.action.ActionList.{ActionList}
use Rattle.whips_facts.specs.Scripts.{Script, value_at, slotted}
use Rattle.whips_facts.specs.ScriptFacts.{change_count}
use Rattle.whips_store.specs.Stores.{ViewState, no_view}
use Rattle.whips_store.specs.Calls.{views_with}
use Rattle.whips_contents.specs.Events.{rows_after, changes_of}
use Rattle.whips_contents.proofs.Changes.{sum_first}
use Rattle.whips_list_laws.specs.Merged.{ChangesAreCounted}

module _ (sc : Script) (slots before after : List ℕ) (lists : List ActionList) where
  counted : (k : ℕ) (views : List View) (vs : List ViewState) → length vs ≡ length views
      → ((i : ℕ) (view : View) → slice_get views i ≡ Some view → net_changes (slice_index_or vs i no_view).columns.key (slice_index_or vs i no_view).current (rows_after (k + i) view lists (slice_index_or vs i no_view).current) ≡ net_changes (keyed view).columns (value_at sc (keyed view) before) (value_at sc (keyed view) after))
      → sum_by (λ (v : ViewState). length v.left) (views_with vs (changes_of k views vs lists)) ≡ sum (map (change_count sc before after) (map_with_place (slotted slots) k views))
  counted k [] [] long h = refl
  counted k [] (v ∷ vs) long h = absurd (omega (arith, long))
  counted k (w ∷ views) [] long h = absurd (omega (arith, long))
  counted k (w ∷ views) (v ∷ vs) long h =
      let first = ap (λ n. net_changes v.columns.key v.current (rows_after n w lists v.current)) place ∙ h 0 w refl in
      let ih = counted (suc k) views vs (omega (arith, long)) (λ i view at. ap (λ n. net_changes (slice_index_or vs i no_view).columns.key (slice_index_or vs i no_view).current (rows_after n view lists (slice_index_or vs i no_view).current)) (next i) ∙ h (suc i) view at) in
      omega (
        arith,
        ih,
        ap length first,
        sum_first (λ (v : ViewState). length v.left) (record v { next = rows_after k w lists v.current; left = net_changes v.columns.key v.current (rows_after k w lists v.current) }) (views_with vs (changes_of (suc k) views vs lists)),
        sum_first (λ n. n) (change_count sc before after (slotted slots k w)) (map (change_count sc before after) (map_with_place (slotted slots) (suc k) views)),
      )
    where
      place : k ≡ k + 0
      place = omega arith

      next : (i : ℕ) → suc k + i ≡ k + suc i
      next i = omega arith

pub changes_are_counted : ChangesAreCounted
changes_are_counted s l t h = counted s s.setup.slots l.cut t.cut t.lists 0 s.setup.views l.store.views h.long (λ i view at.
    let z : 0 + i ≡ i = omega arith in
    ap (λ n. net_changes (slice_index_or l.store.views i no_view).columns.key (slice_index_or l.store.views i no_view).current (rows_after n view t.lists (slice_index_or l.store.views i no_view).current)) z
    ∙ (ap₂ (λ key rows. net_changes key rows (rows_after i view t.lists (slice_index_or l.store.views i no_view).current)) (h.columns i view at) (h.current i view at)
    ∙ ap (net_changes (keyed view).columns (value_at s (keyed view) l.cut)) (h.after i view at)))
