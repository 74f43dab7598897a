-- The rows of a view after the transactions that have begun are its value at their cut, and so the next transaction begins right.
--
-- `begins_right`: the oldest transaction has as many changes as the machine counts, and lacks slots where the machine says so; `leads`: its changes are net and lead to the views' values at its cut.
--
-- The idea: the rows once a transaction is committed are the view's value at its last list begun. The law on versions says that this is the value at the cut of the row sets up to there, which is the transaction's cut.
--
-- Two lemmas carry it: `next_value` (the rows once some first row sets are committed) and `target_is` (the cut of the transaction begun last is that of the row sets begun).
use Rattle.std.proofs.Common.{◌≡◌, ℕ, zero, suc, ◌%◌, ◌<◌, true, List, [], ◌∷◌, ◌++◌, length, take, Option, Some, None, ◌+◌, refl, sym, ap, ap₂, subst, ◌∙◌, arith, append_assoc}
use Rattle.std.specs.Prelude.{slice_get, slice_index_or, is_some}
use Rattle.std.specs.Option.{option_and_then, option_map}
use Rattle.std.specs.List.{AllByRecursion}
use Rattle.std.proofs.lemmas.List.{take-append-le, take_all, length-append}
use Rattle.whips_lists.specs.Lists.{front, without_front}
use Rattle.whips_lists.proofs.Options.{some_same}
use Rattle.whips_lists.proofs.Lists.{front_is}
use Rattle.whips_lists.proofs.ByPlace.{get_there, get_within}
use Rattle.whips_flow.specs.Painted.{Row}
use Rattle.whips_flow.specs.Cuts.{cut_after}
use Rattle.whips_flow.specs.State.{Pipeline, zero_cut}
use Rattle.whips_flow.specs.Effects.{cuts_in_use, next_cut}
use Rattle.whips_flow.specs.Progress.{shortage_at}
use Rattle.whips_flow.specs.declared.event.Event.TheVariants.{Begin}
use Rattle.whips_model.specs.Tuples.{Columns}
use Rattle.whips_model.specs.Relation.{IsTable, value_of}
use Rattle.whips_cut_laws.proofs.Lined.{joined}
use Rattle.whips_cut_laws.proofs.Places.{cut_after_append}
use Rattle.whips_view.specs.ViewDefs.{View, keyed, row_columns}
use Rattle.whips_actions.specs.declared.action.ActionList.{ActionList}
use Rattle.whips_setup.specs.Limits.{has_numbers_within}
use Rattle.whips_facts.specs.Scripts.{Script, SlottedView, value_at}
use Rattle.whips_facts.specs.ScriptFacts.{facts_of}
use Rattle.whips_facts.specs.Values.{IsValidScript, prefix_cut, last_list}
use Rattle.whips_merge.specs.declared.lists.Transaction.{Transaction}
use Rattle.whips_store.specs.Stores.{ViewState, no_view, view_in}
use Rattle.whips_store.specs.Calls.{AreNet, shortage}
use Rattle.whips_store_laws.specs.Laws.{AreTables}
use Rattle.whips_version_laws.proofs.Kept.{Kept}
use Rattle.whips_version_laws.proofs.Later.{joined_push}
use Rattle.whips_version_laws.proofs.Values.{kept_value}
use Rattle.whips_faithful_laws.specs.Faithful.{new_rows}
use Rattle.whips_writer_laws.specs.Needs.{AreViewsOf, full_of}
use Rattle.whips_writer_laws.specs.Writers.{GoesWith, LeadToCut}
use Rattle.whips_writer_laws.proofs.Writers.{begin_goes}
use Rattle.whips_contents.specs.Contents.{LoadedPipeline}
use Rattle.whips_contents.specs.Events.{rows_after, changes_of, changes_of_transaction, is_full_for, after_begin, begin_refusal}
use Rattle.whips_contents.specs.Tokens.{tokens}
use Rattle.whips_stage_laws.proofs.Setups.{view_there, slotted_long}
use Rattle.whips_stage_laws.specs.Fits.{FitsWork, value_after}
use Rattle.whips_token_laws.specs.Ties.{FitsMerge, BeginsRight}
use Rattle.whips_token_laws.proofs.Sets.{first_set}
use Rattle.whips_list_laws.specs.Merged.{begun_with, FitsMerged, IsStoreAt}
use Rattle.whips_list_laws.specs.States.{AreInOrder}
use Rattle.whips_list_laws.proofs.States.{relations_are, order_take}
use Rattle.whips_list_laws.proofs.Merged.{begun_next, begins}
use Rattle.whips_list_laws.proofs.Counted.{changes_are_counted}
use Rattle.whips_line_laws.proofs.Moves.{Moved, begun_number}

-- ---- small

same_front : {A : Type 0} (xs ys zs : List A) → xs ++ zs ≡ ys ++ zs → xs ≡ ys
same_front xs ys zs e =
    let a = length-append xs zs in
    let b = length-append ys zs in
    let n : length xs ≡ length ys = omega (arith, a, b, ap length e) in
    sym (take-append-le (length xs) xs zs (omega arith) ∙ take_all (length xs) xs (omega arith))
    ∙ (ap (take (length xs)) e ∙ (take-append-le (length xs) ys zs (omega (arith, n)) ∙ take_all (length xs) ys (omega (arith, n))))

begun_taken : (sets b rest : List (List Row)) → sets ≡ b ++ rest → take (length b) sets ≡ b
begun_taken sets b rest e = ap (take (length b)) e ∙ (take-append-le (length b) b rest (omega arith) ∙ take_all (length b) b (omega arith))

some_image : {A B : Type 0} (g : A → B) (o : Option A) → is_some (option_map g o) ≡ is_some o
some_image g None = refl
some_image g (Some a) = refl

views_at : (ws : List SlottedView) (vs : List ViewState) (x : ℕ) (w : SlottedView) → AreViewsOf ws vs → slice_get ws x ≡ Some w → (slice_index_or vs x no_view).columns.key ≡ w.view.columns
views_at [] vs x w h e = absurd (cc)
views_at (u ∷ ws) [] x w h e = absurd h
views_at (u ∷ ws) (v ∷ vs) zero w h e = h.0.0 ∙ ap (λ (z : SlottedView). z.view.columns) (some_same u w e)
views_at (u ∷ ws) (v ∷ vs) (suc x) w h e = views_at ws vs x w h.1 e

-- ---- changes

nets_are : (k : ℕ) (views : List View) (vs : List ViewState) (lists : List ActionList) → length vs ≡ length views
    → ((i : ℕ) (view : View) → slice_get views i ≡ Some view → AllByRecursion (λ t. has_numbers_within (slice_index_or vs i no_view).columns.kinds t ≡ true) (rows_after (k + i) view lists (slice_index_or vs i no_view).current))
    → ((i : ℕ) (view : View) → slice_get views i ≡ Some view → IsTable (slice_index_or vs i no_view).columns (rows_after (k + i) view lists (slice_index_or vs i no_view).current))
    → AreNet vs (changes_of k views vs lists) × AreTables (changes_of k views vs lists)
nets_are k [] [] lists long h g = (tt, tt)
nets_are k [] (v ∷ vs) lists long h g = absurd (omega (arith, long))
nets_are k (w ∷ views) [] lists long h g = absurd (omega (arith, long))
nets_are k (w ∷ views) (v ∷ vs) lists long h g =
    let place : k + 0 ≡ k = omega arith in
    let next : (i : ℕ) → k + suc i ≡ suc k + i = λ i. omega arith in
    let ih = nets_are (suc k) views vs lists (omega (arith, long))
    (λ i view e. subst (λ n. AllByRecursion (λ t. has_numbers_within (slice_index_or vs i no_view).columns.kinds t ≡ true) (rows_after n view lists (slice_index_or vs i no_view).current)) (next i) (h (suc i) view e))
    (λ i view e. subst (λ n. IsTable (slice_index_or vs i no_view).columns (rows_after n view lists (slice_index_or vs i no_view).current)) (next i) (g (suc i) view e)) in (
      ((refl, record { net = refl; numbers = subst (λ n. AllByRecursion (λ t. has_numbers_within v.columns.kinds t ≡ true) (rows_after n w lists v.current)) place (h 0 w refl) }), ih.0),
      (subst (λ n. IsTable v.columns (rows_after n w lists v.current)) place (g 0 w refl), ih.1),
    )

new_at : (k i : ℕ) (views : List View) (vs : List ViewState) (lists : List ActionList) (view : View) → slice_get views i ≡ Some view → i < length vs → new_rows (changes_of k views vs lists) i ≡ rows_after (k + i) view lists (slice_index_or vs i no_view).current
new_at k i [] vs lists view e lt = absurd (cc)
new_at k i (w ∷ views) [] lists view e lt = absurd (omega (arith, lt))
new_at k zero (w ∷ views) (v ∷ vs) lists view e lt = let place : k ≡ k + 0 = omega arith in ap₂ (λ n z. rows_after n z lists v.current) place (some_same w view e)
new_at k (suc i) (w ∷ views) (v ∷ vs) lists view e lt = let next : suc k + i ≡ k + suc i = omega arith in new_at (suc k) i views vs lists view e (omega (arith, lt)) ∙ ap (λ n. rows_after n view lists (slice_index_or vs i no_view).current) next

-- ---- values

module _ (s : Script) (fw : FitsWork s) (valid : IsValidScript s) (homes_long : length s.setup.homes ≡ length s.setup.initial) where
  -- the rows once all of these sets are committed
  pub next_value : (k : LoadedPipeline) (numbers : ℕ → ℕ) (sets b rest : List (List Row)) (x : ℕ) (view : View) → FitsMerged s numbers k → AreInOrder [] k.numbering → (p : Pipeline) → p.numbering ≡ k.numbering → Kept (facts_of s) p sets → sets ≡ b ++ rest → numbers x ≡ last_list x b → slice_get s.setup.views x ≡ Some view
      → (view_in k.store x).next ≡ value_at s (keyed view) (cut_after (zero_cut (facts_of s)) (joined b))
  next_value k numbers sets b rest x view h order p same kept parts number there =
      let m = get_there x k.managers (omega (arith, h.contents.managers_long, get_within x s.setup.views view there)) in
      let f = h.contents.managers x m.0 m.1 in
      let own : m.0.manager.view ≡ view = some_same m.0.manager.view view (sym f.view ∙ there) in
      let first : f.first_list ≡ last_list x (take (length b) sets) = sym f.counted ∙ (number ∙ ap (last_list x) (sym (begun_taken sets b rest parts))) in
      let value = kept_value s valid p sets x (length b) (cut_after (zero_cut (facts_of s)) (joined b)) kept (ap (λ z. cut_after (zero_cut (facts_of s)) (joined z)) (sym (begun_taken sets b rest parts))) (omega (arith, slotted_long s, get_within x s.setup.views view there)) in
      f.shown
      ∙ (ap₂ (λ v j. value_after s (keyed v) k.numbering j) own first
      ∙ (ap (value_of view.parts) (relations_are s fw (take (last_list x (take (length b) sets)) k.numbering) homes_long (order_take (last_list x (take (length b) sets)) k.numbering [] order))
      ∙ subst (λ ns. value_at s (keyed view) (prefix_cut s (record p { numbering = ns }) (last_list x (take (length b) sets))) ≡ value_at s (keyed view) (cut_after (zero_cut (facts_of s)) (joined b))) same
      (subst (λ v. value_at s v (prefix_cut s p (last_list x (take (length b) sets))) ≡ value_at s v (cut_after (zero_cut (facts_of s)) (joined b))) (view_there s x view there) value)))

  -- ---- the next transaction

  module _ (tables : (x : ℕ) (view : View) (cut : List ℕ) → slice_get s.setup.views x ≡ Some view → IsTable (row_columns view) (value_at s (keyed view) cut))
      (numbered : (x : ℕ) (view : View) (cut : List ℕ) → slice_get s.setup.views x ≡ Some view → AllByRecursion (λ t. has_numbers_within (row_columns view).kinds t ≡ true) (value_at s (keyed view) cut))
      (l : LoadedPipeline) (numbers : ℕ → ℕ) (sets : List (List Row)) (h : FitsMerged s numbers l) (order : AreInOrder [] l.numbering) (g : FitsMerge s.setup l)
      (kept : Kept (facts_of s) (tokens (length s.setup.views) l) sets) (moved : Moved (tokens (length s.setup.views) l) l.merge numbers sets)
      (columns : (x : ℕ) (view : View) → slice_get s.setup.views x ≡ Some view → (view_in l.store x).columns ≡ row_columns view)
      (goes : GoesWith s (tokens (length s.setup.views) l).writer l.store) where
    begun_same : kept.versioned.begun ≡ moved.begun
    begun_same = same_front kept.versioned.begun moved.begun l.merge.merge.row_sets (sym kept.versioned.sets_are ∙ moved.sets_are)

    pub target_is : l.target_cut ≡ cut_after (zero_cut (facts_of s)) (joined moved.begun)
    target_is = kept.versioned.target ∙ ap (λ z. cut_after (zero_cut (facts_of s)) (joined z)) begun_same

    pub next_is : (x : ℕ) (view : View) → slice_get s.setup.views x ≡ Some view → (view_in l.store x).next ≡ value_at s (keyed view) l.target_cut
    next_is x view there =
        next_value l numbers sets moved.begun l.merge.merge.row_sets x view h order (tokens (length s.setup.views) l) refl kept moved.sets_are (moved.numbers_are x (omega (arith, h.lists_long, get_within x s.setup.views view there))) there
        ∙ ap (value_at s (keyed view)) (sym target_is)

    module _ (t : Transaction) (first : front l.merge.transactions ≡ Some t) (even : l.store.phase % 2 ≡ 0) where
      set : (set : List Row) × (front l.merge.merge.row_sets ≡ Some set) × (t.cut ≡ cut_after l.target_cut set)
      set = let z = first_set s.setup l g t first in (z.0, z.1, z.2)

      sets_are : sets ≡ (moved.begun ++ set.0 ∷ []) ++ without_front l.merge.merge.row_sets
      sets_are = moved.sets_are ∙ (ap (λ z. moved.begun ++ z) (front_is l.merge.merge.row_sets set.0 set.1) ∙ sym (append_assoc moved.begun (set.0 ∷ []) (without_front l.merge.merge.row_sets)))

      cut_is : t.cut ≡ cut_after (zero_cut (facts_of s)) (joined (moved.begun ++ set.0 ∷ []))
      cut_is = set.2 ∙ (ap (λ c. cut_after c set.0) target_is ∙ (sym (cut_after_append (zero_cut (facts_of s)) (joined moved.begun) set.0) ∙ ap (cut_after (zero_cut (facts_of s))) (sym (joined_push moved.begun set.0))))

      after : (x : ℕ) (view : View) → slice_get s.setup.views x ≡ Some view → rows_after x view t.lists (view_in l.store x).current ≡ value_at s (keyed view) t.cut
      after x view there =
          let lt = get_within x s.setup.views view there in
          sym (begun_next 0 x x s.setup.views l.store.views t.lists view (omega arith) there (omega (arith, h.store_long, lt)))
          ∙ (next_value (after_begin s.setup (Some t) l) (begun_with (Some t) numbers) sets (moved.begun ++ set.0 ∷ []) (without_front l.merge.merge.row_sets) x view (begins s fw numbers l h (Some t) first even) order (tokens (length s.setup.views) l) refl kept sets_are
          (begun_number (facts_of s) (tokens (length s.setup.views) l) l.merge numbers sets moved t set.0 first set.1 x (omega (arith, h.lists_long, lt))) there
          ∙ ap (value_at s (keyed view)) (sym cut_is))

      store_is : IsStoreAt s l t
      store_is = record {
        long = h.store_long;
        columns = λ x view there. ap (λ (c : Columns). c.key) (columns x view there);
        current = λ x view there. h.level even x ∙ (next_is x view there ∙ ap (value_at s (keyed view)) (g.level even));
        after = after;
      }

      zero_plus : (n : ℕ) → 0 + n ≡ n
      zero_plus n = omega arith

      nets : AreNet l.store.views (changes_of_transaction s.setup l.store t) × AreTables (changes_of_transaction s.setup l.store t)
      nets = nets_are 0 s.setup.views l.store.views t.lists h.store_long
          (λ i view there. subst (λ n. AllByRecursion (λ u. has_numbers_within (view_in l.store i).columns.kinds u ≡ true) (rows_after n view t.lists (view_in l.store i).current)) (sym (zero_plus i))
          (subst (λ (c : Columns). AllByRecursion (λ u. has_numbers_within c.kinds u ≡ true) (rows_after i view t.lists (view_in l.store i).current)) (sym (columns i view there))
          (subst (λ rows. AllByRecursion (λ u. has_numbers_within (row_columns view).kinds u ≡ true) rows) (sym (after i view there)) (numbered i view t.cut there))))
          (λ i view there. subst (λ n. IsTable (view_in l.store i).columns (rows_after n view t.lists (view_in l.store i).current)) (sym (zero_plus i))
          (subst (λ c. IsTable c (rows_after i view t.lists (view_in l.store i).current)) (sym (columns i view there))
          (subst (λ rows. IsTable (row_columns view) rows) (sym (after i view there)) (tables i view t.cut there))))

      pub leads : LeadToCut s t.cut l.store (changes_of_transaction s.setup l.store t)
      leads = record {
        net = nets.0;
        tables = nets.1;
        rows = λ x lt.
            let view = get_there x s.setup.views (omega (arith, lt, h.store_long)) in
            new_at 0 x s.setup.views l.store.views t.lists view.0 view.1 lt
            ∙ (ap (λ n. rows_after n view.0 t.lists (view_in l.store x).current) (zero_plus x)
            ∙ (after x view.0 view.1 ∙ ap (λ v. value_at s v t.cut) (sym (view_there s x view.0 view.1))));
      }

      pub machine_cut : next_cut (tokens (length s.setup.views) l) ≡ Some t.cut
      machine_cut = ap (λ o. option_and_then (λ set. Some (cut_after l.cut set)) o) set.1 ∙ ap (λ z. Some z) (ap (λ c. cut_after c set.0) (sym (g.level even)) ∙ sym set.2)

      full : is_full_for s.setup l Begin ≡ is_some (shortage_at (facts_of s) (tokens (length s.setup.views) l) Begin)
      full =
          let both = begin_goes s (tokens (length s.setup.views) l).writer t.cut l.store (changes_of_transaction s.setup l.store t) goes (sym (ap (λ n. n % 2) (sym goes.phase)) ∙ even) leads in
          ap (λ o. is_some (option_and_then (λ t. shortage l.store (changes_of_transaction s.setup l.store t)) o)) first
          ∙ (ap is_some both.0
          ∙ (some_image full_of ((facts_of s).shortage (cuts_in_use (facts_of s) (tokens (length s.setup.views) l).writer ++ t.cut ∷ []))
          ∙ ap (λ o. is_some (option_and_then (λ cut. (facts_of s).shortage (cuts_in_use (facts_of s) (tokens (length s.setup.views) l).writer ++ cut ∷ [])) o)) (sym machine_cut)))

      -- the refusal names the machine's shortage
      pub refused : begin_refusal s.setup l ≡ option_map full_of (shortage_at (facts_of s) (tokens (length s.setup.views) l) Begin)
      refused =
          let both = begin_goes s (tokens (length s.setup.views) l).writer t.cut l.store (changes_of_transaction s.setup l.store t) goes (sym (ap (λ n. n % 2) (sym goes.phase)) ∙ even) leads in
          ap (λ o. option_and_then (λ t. shortage l.store (changes_of_transaction s.setup l.store t)) o) first
          ∙ (both.0 ∙ ap (λ o. option_map full_of (option_and_then (λ cut. (facts_of s).shortage (cuts_in_use (facts_of s) (tokens (length s.setup.views) l).writer ++ cut ∷ [])) o)) (sym machine_cut))

    pub begins_right : BeginsRight s l
    begins_right t first even = (changes_are_counted s l t (store_is t first even), full t first even)
