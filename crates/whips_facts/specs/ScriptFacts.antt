-- What the pipeline asks of a script.
use Rattle.std.specs.Prelude.{ℕ, suc, nat_lt, List, [], ◌∷◌, length, map, filter, sum, Option, Some, None, if◌then◌else◌}
use Rattle.whips_lists.specs.Lists.{places_from}
use Rattle.whips_choices.specs.KeyedViews.{KeyedView}
use Rattle.whips_flow.specs.Facts.{Facts, Shortage}
use Rattle.whips_states.specs.States.{Updates}
use Rattle.whips_states.specs.Net.{given_at}
use Rattle.whips_states.specs.Concerns.{concerns}
use Rattle.whips_steps.specs.Steps.{asked_sources}
use Rattle.whips_changes.specs.Changes.{net_changes, need}
use Rattle.whips_facts.specs.Scripts.{Script, SlottedView, slotted_views, value_at, view_at, transaction_at}

-- the parts at which a transaction gives the view new tuples; own, for Strobe's insertions
abbrev pub origins : KeyedView → Updates → List ℕ
origins view t = filter (λ part. nat_lt 0 (length (given_at view t part))) (places_from 0 (length view.base.relations))

-- how many net changes take a view from its value at one cut to that at another
abbrev pub change_count : Script → List ℕ → List ℕ → SlottedView → ℕ
change_count s before after v = length (net_changes v.view.columns (value_at s v.view before) (value_at s v.view after))

-- how many slots a view needs for its rows at all these cuts; own, after nVNL 1997, which keeps the versions of one row in one slot
abbrev pub slot_need : Script → List (List ℕ) → SlottedView → ℕ
slot_need s cuts v = need v.view.columns (map (value_at s v.view) cuts)

-- of these views, the first of which is view x, the first with fewer slots than it needs
abbrev pub first_shortage : Script → List (List ℕ) → ℕ → List SlottedView → Option Shortage
first_shortage s cuts x [] = None
first_shortage s cuts x (v ∷ views) =
    if nat_lt v.slots (slot_need s cuts v)
    then Some (record { view = x; need = slot_need s cuts v; slots = v.slots })
    else first_shortage s cuts (suc x) views

-- own
abbrev pub facts_of : Script → Facts
facts_of s = record {
  transactions = map length s.work;
  slots = map (λ v. v.slots) (slotted_views s);
  versions = s.setup.versions;
  sessions = s.sessions;
  concerns = λ y k x. concerns (view_at s x).base (transaction_at s y k);
  origins = λ y k x. origins (view_at s x) (transaction_at s y k);
  asked_sources = λ x o. asked_sources (view_at s x) o;
  change_count = λ before after. sum (map (change_count s before after) (slotted_views s));
  shortage = λ cuts. first_shortage s cuts 0 (slotted_views s);
  row_counts = λ cut. map (λ v. length (value_at s v.view cut)) (slotted_views s);
}
