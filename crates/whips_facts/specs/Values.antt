-- What the values of views during a run are, as statements on the definitions.
use Rattle.std.specs.Prelude.{◌≡◌, ℕ, ◌<◌, max, List, [], ◌∷◌, ◌++◌, length, take, drop, map, fold, slice_get, Option, Some, None}
use Rattle.std.specs.List.{AllByRecursion, flat_map}
use Rattle.whips_lists.specs.Members.{Has}
use Rattle.whips_model.specs.Tuples.{Codes}
use Rattle.whips_rel.specs.Updates.{relation_of}
use Rattle.whips_rel.specs.declared.update.Update.{Update}
use Rattle.whips_states.specs.States.{Updates, AreSoundTables, AreAllValid}
use Rattle.whips_choices.specs.KeyedViews.{IsKeyedView}
use Rattle.whips_lists.specs.Lists.{places_from}
use Rattle.whips_flow.specs.Facts.{Facts}
use Rattle.whips_flow.specs.Painted.{Row, Colour, black, white, red}
use Rattle.whips_flow.specs.State.{Pipeline, Manager, count_of_source, start, version_cuts}
use Rattle.whips_flow.specs.Progress.{step, after, first_enabled}
use Rattle.whips_flow.specs.declared.event.Event.{Event}
use Rattle.whips_steps.specs.Steps.{home}
use Rattle.whips_facts.specs.Scripts.{Script, slotted_views, value_at, view_at}
use Rattle.whips_facts.specs.ScriptFacts.{facts_of}

-- ---- valid scripts

-- some transaction of the source changes the relation
abbrev pub Changes : List Updates → ℕ → Type 0
Changes ts r = (t : Updates) × (u : Update) × Has t ts × Has u t × (relation_of u ≡ r)

-- each relation of each view is at a source of the script; own
abbrev pub AreAtSources : Script → Type 0
AreAtSources s = (x part : ℕ) → part < length (view_at s x).keys → home (view_at s x) part < length s.work

-- each relation has one row for a key, each source's transactions are valid one after another, no relation is changed by two sources, and each view's relations are at sources of the script and changed by these alone; own
pub record IsValidScript (s : Script) : Type 0 where
  pub tables : AreSoundTables s.setup.initial
  pub valid : AllByRecursion (AreAllValid s.setup.initial) s.work
  pub apart : (y z : ℕ) (ts us : List Updates) (r : ℕ) → slice_get s.work y ≡ Some ts → slice_get s.work z ≡ Some us → Changes ts r → Changes us r → y ≡ z
  pub views : AllByRecursion (λ v. IsKeyedView v.view) (slotted_views s)
  pub sources : AreAtSources s
  pub homes : (x i r z : ℕ) → slice_get (view_at s x).base.relations i ≡ Some r → slice_get (view_at s x).base.homes i ≡ Some z
      → (y : ℕ) (ts : List Updates) → slice_get s.work y ≡ Some ts → Changes ts r → y ≡ z

-- ---- numbering

-- the cut of the first i transactions that the integrator took; the painting algorithm 1997, in terms of cuts
abbrev pub prefix_cut : Script → Pipeline → ℕ → List ℕ
prefix_cut s p i = map (count_of_source (take i p.numbering)) (places_from 0 (length s.work))

-- ---- action lists

abbrev pub lists_in : Option Manager → List ℕ
lists_in None = []
lists_in (Some m) = m.lists

-- the lists that the event makes the manager of view x give: those that stand behind the ones on their way
abbrev pub given_lists : Facts → ℕ → Pipeline → Event → List ℕ
given_lists f x p e = drop (length (lists_in (slice_get p.managers x))) (lists_in (slice_get (step f p e).managers x))

-- the numbers of all lists that the manager of view x gives during the events, in order; Strobe 1996
abbrev pub list_numbers : Facts → ℕ → Pipeline → List Event → List ℕ
list_numbers f x p [] = []
list_numbers f x p (e ∷ es) = given_lists f x p e ++ list_numbers f x (step f p e) es

-- what applying an action list does to rows is right between two list numbers of view x, where it takes the view's value after the first of these numbered transactions to that after the second; Strobe 1996
abbrev pub IsRightList : Script → Pipeline → ℕ → (List Codes → List Codes) → ℕ → ℕ → Type 0
IsRightList s p x apply earlier later = apply (value_at s (view_at s x) (prefix_cut s p earlier)) ≡ value_at s (view_at s x) (prefix_cut s p later)

-- ---- the lists that a version has

-- the row sets that the event takes from the table
abbrev pub taken_sets : Facts → Pipeline → Event → List (List Row)
taken_sets f p e = drop (length p.merge.row_sets) (step f p e).merge.row_sets

-- all row sets that the events take from the table, in order: version v is the one after the first v of them
abbrev pub all_taken_sets : Facts → Pipeline → List Event → List (List Row)
all_taken_sets f p [] = []
all_taken_sets f p (e ∷ es) = taken_sets f p e ++ all_taken_sets f (step f p e) es

-- the number of the list that an entry is red with, or 0
abbrev pub list_of_entry : Option Colour → ℕ
list_of_entry None = 0
list_of_entry (Some black) = 0
list_of_entry (Some white) = 0
list_of_entry (Some (red j)) = j

-- the greatest list number of view x in these row sets, or 0
abbrev pub last_list : ℕ → List (List Row) → ℕ
last_list x sets = fold max 0 (map (λ r. list_of_entry (slice_get r.entries x)) (flat_map (λ set. set) sets))

-- a view at the cut of a version is the view at its last list in that version; own. Not proved yet: it goes with the managers' invariant
abbrev pub VersionIsValueAtLastList : Type 0
VersionIsValueAtLastList = (s : Script) → IsValidScript s → (es : List Event) (x v : ℕ) (cut : List ℕ)
    → slice_get (version_cuts (after (facts_of s) (start (facts_of s)) es)) v ≡ Some cut
    → value_at s (view_at s x) (prefix_cut s (after (facts_of s) (start (facts_of s)) es) (last_list x (take v (all_taken_sets (facts_of s) (start (facts_of s)) es)))) ≡ value_at s (view_at s x) cut

-- where nothing is left on its way, the value of each view at the last cut is that of all transactions; own. Proved in whips_value_laws
abbrev pub LastCutHasAll : Type 0
LastCutHasAll = (s : Script) → IsValidScript s → (es : List Event) (x : ℕ)
    → first_enabled (facts_of s) (after (facts_of s) (start (facts_of s)) es) ≡ None
    → value_at s (view_at s x) (after (facts_of s) (start (facts_of s)) es).writer.cut ≡ value_at s (view_at s x) (map length s.work)
