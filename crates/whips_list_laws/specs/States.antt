-- The relations of the contents as states at cuts.
use Rattle.std.specs.Prelude.{◌≡◌, ℕ, suc, List, [], ◌∷◌, ◌++◌, length, map, take, slice_get, Some}
use Rattle.whips_lists.specs.Lists.{places_from}
use Rattle.whips_flow.specs.State.{NumberedTransaction, count_of_source}
use Rattle.whips_flow.specs.declared.event.Event.{Event}
use Rattle.whips_model.specs.Tuples.{Codes}
use Rattle.whips_states.specs.States.{all_applied, state_at}
use Rattle.whips_view.specs.ViewDefs.{View, keyed}
use Rattle.whips_actions.specs.Acts.{applied as made}
use Rattle.whips_actions.specs.declared.action.ActionList.{ActionList}
use Rattle.whips_facts.specs.Scripts.{Script, value_at, view_at}
use Rattle.whips_facts.specs.Values.{prefix_cut}
use Rattle.whips_store.specs.Stores.{StoreState}
use Rattle.whips_contents.specs.Contents.{LoadedSource, LoadedManager, LoadedPipeline}
use Rattle.whips_contents.specs.Events.{loaded_with}
use Rattle.whips_contents.specs.Tokens.{tokens}
use Rattle.whips_stage_laws.specs.Fits.{AgreeAt, transactions_of, relations_after, FitsWork}

-- Behind those before, each transaction has the next number and its source's next place.
abbrev pub AreInOrder : List NumberedTransaction → List NumberedTransaction → Type 0
AreInOrder before [] = Unit {0}
AreInOrder before (k ∷ ks) = (k.number ≡ suc (length before)) × (k.place ≡ suc (count_of_source before k.source)) × AreInOrder (before ++ k ∷ []) ks

-- The cut of these numbered transactions.
abbrev pub cut_of : ℕ → List NumberedTransaction → List ℕ
cut_of sources ks = map (count_of_source ks) (places_from 0 sources)

-- The relations after numbered transactions in order are the state at their cut.
abbrev pub RelationsAreStates : Type 0
RelationsAreStates = (s : Script) (ks : List NumberedTransaction) → FitsWork s → length s.setup.homes ≡ length s.setup.initial → AreInOrder [] ks
    → relations_after s ks ≡ state_at s.setup.initial s.work (cut_of (length s.work) ks)

-- A source has its own relations as in the state at a cut that counts as many of its transactions as it has made.
abbrev pub SourcesStand : Type 0
SourcesStand = (s : Script) (store : StoreState) (es : List Event) → FitsWork s → length s.setup.homes ≡ length s.setup.initial
    → (y : ℕ) (z : LoadedSource) → slice_get (loaded_with s store es).sources y ≡ Some z → AgreeAt s.setup.homes y (all_applied s.setup.initial (take z.site.commits (transactions_of s y))) z.site.relations

-- The lists of a manager on their way, after every list of events: each takes the view's value after the first of the numbered transactions, as many as the number of the list before, to that after as many as its own number.
abbrev pub AreRight : Script → ℕ → (List Codes → ActionList → List Codes) → LoadedPipeline → ℕ → ℕ → List ActionList → Type 0
AreRight s n apply l x j [] = Unit {0}
AreRight s n apply l x j (a ∷ ls) = (apply (value_at s (view_at s x) (prefix_cut s (tokens n l) j)) a ≡ value_at s (view_at s x) (prefix_cut s (tokens n l) a.upto)) × AreRight s n apply l x a.upto ls

abbrev pub ListsAreRight : Type 0
ListsAreRight = (s : Script) (store : StoreState) (es : List Event) → FitsWork s → length s.setup.homes ≡ length s.setup.initial
    → (x : ℕ) (view : View) (m : LoadedManager) → slice_get s.setup.views x ≡ Some view → slice_get (loaded_with s store es).managers x ≡ Some m
    → (first : ℕ) × AreRight s (length s.setup.views) (λ rows a. made (keyed view) a.actions rows) (loaded_with s store es) x first m.lists
