-- How the contents and the machine over numbers are tied.
use Rattle.std.specs.Prelude.{◌≡◌, ℕ, ◌<◌, ◌%◌, List, [], ◌∷◌, length, slice_get, is_some, Some}
use Rattle.whips_lists.specs.Lists.{front}
use Rattle.whips_flow.specs.Painted.{Row}
use Rattle.whips_flow.specs.Cuts.{cut_after}
use Rattle.whips_flow.specs.Progress.{shortage_at}
use Rattle.whips_flow.specs.declared.event.Event.TheVariants.{Begin}
use Rattle.whips_view.specs.ViewDefs.{View, keyed}
use Rattle.whips_setup.specs.Setups.{SetupData}
use Rattle.whips_steps.specs.Steps.{home}
use Rattle.whips_facts.specs.Scripts.{Script}
use Rattle.whips_facts.specs.ScriptFacts.{facts_of}
use Rattle.whips_merge.specs.declared.lists.Transaction.{Transaction}
use Rattle.whips_store.specs.Stores.{StoreState, changes_left}
use Rattle.whips_store.specs.Calls.{begun}
use Rattle.whips_contents.specs.Contents.{LoadedPipeline}
use Rattle.whips_contents.specs.Events.{changes_of_transaction, is_full_for}
use Rattle.whips_contents.specs.Tokens.{tokens}

-- The transactions that wait have the cuts of the row sets, one after another from this cut on, up to the cut of the merge.
abbrev pub SetsFit : List ℕ → List (List Row) → List Transaction → List ℕ → Type 0
SetsFit cut [] [] last = cut ≡ last
SetsFit cut [] (t ∷ ts) last = ⊥
SetsFit cut (set ∷ sets) [] last = ⊥
SetsFit cut (set ∷ sets) (t ∷ ts) last = (t.cut ≡ cut_after cut set) × SetsFit t.cut sets ts last

-- The merge has lists of each view, and its transactions are those of its row sets; the cut of the transaction that was begun last is the current one where none is active.
pub record FitsMerge (s : SetupData) (l : LoadedPipeline) : Type 0 where
  pub lists_long : length l.merge.lists ≡ length s.views
  pub sets : SetsFit l.target_cut l.merge.merge.row_sets l.merge.transactions l.merge.cut
  pub level : l.store.phase % 2 ≡ 0 → l.target_cut ≡ l.cut

-- Where the oldest transaction that waits can begin, it has as many changes as the views' values at the cuts differ by, and there are too few slots for it exactly where the machine says so.
abbrev pub BeginsRight : Script → LoadedPipeline → Type 0
BeginsRight s l = (t : Transaction) → front l.merge.transactions ≡ Some t → l.store.phase % 2 ≡ 0
    → (changes_left (begun (changes_of_transaction s.setup l.store t) l.store) ≡ (facts_of s).change_count l.cut t.cut) × (is_full_for s.setup l Begin ≡ is_some (shortage_at (facts_of s) (tokens (length s.setup.views) l) Begin))

-- There are transactions of each source, each relation of a view is at one of the sources, and the store is at version 0.
pub record FitsStart (s : Script) (store : StoreState) : Type 0 where
  pub sources : length s.work ≡ s.setup.sources
  pub phase : store.phase ≡ 0
  pub changes : changes_left store ≡ 0
  pub homes : (x part : ℕ) (view : View) → slice_get s.setup.views x ≡ Some view → part < length (keyed view).keys → home (keyed view) part < length s.work
