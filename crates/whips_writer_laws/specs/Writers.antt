-- A store that goes with the writer of a run.
use Rattle.std.specs.Prelude.{◌≡◌, ◌⊎◌, ℕ, suc, ◌*◌, ◌/◌, ◌%◌, ◌<◌, ◌≤◌, true, false, List, [], ◌∷◌, ◌++◌, length, Some, None}
use Rattle.std.specs.Option.{option_map}
use Rattle.whips_flow.specs.Facts.{Facts}
use Rattle.whips_flow.specs.State.{Writer, new_writer, Pipeline}
use Rattle.whips_flow.specs.Effects.{cuts_in_use, after_change, after_publish, next_cut}
use Rattle.whips_flow.specs.Progress.{is_done, step, after}
use Rattle.whips_flow.specs.declared.event.Event.{Event}
use Rattle.whips_flow.specs.declared.event.Event.TheVariants.{Begin, Change, Publish}
use Rattle.whips_row_buf.specs.Buffers.{Buffer}
use Rattle.whips_setup.specs.Refusals.{IsSetup}
use Rattle.whips_facts.specs.Scripts.{Script, slotted_views, value_at, view_at}
use Rattle.whips_facts.specs.ScriptFacts.{facts_of}
use Rattle.whips_store.specs.Stores.{StoreState, ChangeLists, view_in, changes_left}
use Rattle.whips_store.specs.Calls.{AreNet, shortage, begun, changed_once, published}
use Rattle.whips_store.specs.First.{store_at_first}
use Rattle.whips_store.specs.Sound.{IsSoundStore}
use Rattle.whips_store_laws.specs.Laws.{AreTables}
use Rattle.whips_faithful_laws.specs.Faithful.{IsFaithful, new_rows}
use Rattle.whips_writer_laws.specs.Needs.{cut_of_version, values_at, AreViewsOf, full_of}
use Rattle.whips_faithful_laws.specs.Scans.{IsLater, Visit, slots_visited, seen_in_visits, with_all_seen, AreInTurn, store_at_last}
use Rattle.whips_flow.specs.Staleness.{IsStale}

-- A sound store with the script's views goes with a writer where it has the writer's phase and as many changes left, and is faithful to the views' values at the cuts of the writer's versions; own.
pub record GoesWith (script : Script) (w : Writer) (s : StoreState) : Type 0 where
  pub versions : s.versions ≡ script.setup.versions
  pub phase : s.phase ≡ w.phase
  pub cuts : length w.earlier_cuts ≡ w.phase / 2
  pub left : changes_left s ≡ w.changes_left
  pub views : AreViewsOf (slotted_views script) s.views
  pub sound : IsSoundStore s
  pub faithful : IsFaithful (values_at script (cut_of_version w)) s

-- ---- at the start

-- A store at version 0 of a script's setup goes with the writer at the start.
abbrev pub FirstGoesWith : Type 0
FirstGoesWith = (script : Script) → IsSetup script.setup → GoesWith script (new_writer (facts_of script)) (store_at_first script.setup)

-- ---- calls

-- the writer once it has begun a transaction that leads to this cut; own
abbrev pub begun_writer : Facts → List ℕ → Writer → Writer
begun_writer f cut w = record w { phase = suc w.phase; changes_left = f.change_count w.cut cut; target_cut = cut }

-- Net changes that lead to the values at a cut; own.
pub record LeadToCut (script : Script) (cut : List ℕ) (s : StoreState) (cs : ChangeLists) : Type 0 where
  pub net : AreNet s.views cs
  pub tables : AreTables cs
  pub rows : (x : ℕ) → x < length s.views → new_rows cs x ≡ value_at script (view_at script x) cut

-- Where the writer begins a transaction, the store is full exactly where the writer has a shortage, at the same view with the same numbers; where it isn't, the begun store goes with the begun writer.
abbrev pub BeginGoesWith : Type 0
BeginGoesWith = (script : Script) (w : Writer) (cut : List ℕ) (s : StoreState) (cs : ChangeLists) → GoesWith script w s → w.phase % 2 ≡ 0 → LeadToCut script cut s cs
    → (shortage s cs ≡ option_map full_of ((facts_of script).shortage (cuts_in_use (facts_of script) w ++ cut ∷ []))) × (shortage s cs ≡ None → GoesWith script (begun_writer (facts_of script) cut w) (begun cs s))

-- A store that goes with a writer does so after one of the changes that are left.
abbrev pub ChangeGoesWith : Type 0
ChangeGoesWith = (script : Script) (w : Writer) (s : StoreState) → GoesWith script w s → 0 < w.changes_left → GoesWith script (after_change w) (changed_once s)

-- A store that goes with a writer does so after its version is committed, once no change is left.
abbrev pub PublishGoesWith : Type 0
PublishGoesWith = (script : Script) (w : Writer) (s : StoreState) → GoesWith script w s → w.phase % 2 ≡ 1 → w.changes_left ≡ 0 → GoesWith script (after_publish w) (published s)

-- ---- a session

-- A session that scans a view while the store goes on reads the view's value at the cut of its version, where that isn't stale at the last visit.
abbrev pub SessionsReadCuts : Type 0
SessionsReadCuts = (script : Script) (w : Writer) (opened : StoreState) (x v : ℕ) (visits : List Visit) (b : Buffer) → 2 * v ≤ opened.phase → AreInTurn opened visits → GoesWith script w (store_at_last opened visits) → (IsStale script.setup.versions v w.phase → ⊥)
    → x < length opened.views → slots_visited visits ≡ length (view_in opened x).records → b.columns.key ≡ (view_in opened x).columns.key → b.rows ≡ []
    → with_all_seen (seen_in_visits x v 0 visits) b ≡ record b { rows = value_at script (view_at script x) (cut_of_version w v) }

-- ---- a run

-- what the event does to a store that goes with the pipeline's writer: the writer's own events are calls of the store, and the others leave it; own
abbrev pub IsMove : Script → Pipeline → Event → StoreState → StoreState → Type 0
IsMove script p Begin s t = (cut : List ℕ) × (cs : ChangeLists) × (next_cut p ≡ Some cut) × LeadToCut script cut s cs × (t ≡ begun cs s)
IsMove script p Change s t = t ≡ changed_once s
IsMove script p Publish s t = t ≡ published s
IsMove script p _ s t = t ≡ s

-- A store that goes with a pipeline's writer does so after each event that is done, and it is a later moment of the store.
abbrev pub EventsGoWith : Type 0
EventsGoWith = (script : Script) (p : Pipeline) (e : Event) (s t : StoreState) → GoesWith script p.writer s → is_done (facts_of script) p e ≡ true → IsMove script p e s t → GoesWith script (step (facts_of script) p e).writer t × IsLater s t

-- the stores during these events, one after each: an event that isn't done leaves the store
abbrev pub AreMoves : Script → Pipeline → List Event → StoreState → List StoreState → Type 0
AreMoves script p [] s [] = Unit {0}
AreMoves script p (e ∷ es) s (t ∷ ts) = (((is_done (facts_of script) p e ≡ true) × IsMove script p e s t) ⊎ ((is_done (facts_of script) p e ≡ false) × (t ≡ s))) × AreMoves script (step (facts_of script) p e) es t ts
AreMoves script p _ s _ = ⊥

-- the last of these stores, or this one where there are none
abbrev pub last_store : StoreState → List StoreState → StoreState
last_store s [] = s
last_store s (t ∷ ts) = last_store t ts

-- A store that goes with a pipeline's writer does so after a run, and is a later moment.
abbrev pub RunsGoWith : Type 0
RunsGoWith = (script : Script) (p : Pipeline) (es : List Event) (s : StoreState) (ts : List StoreState) → GoesWith script p.writer s → AreMoves script p es s ts
    → GoesWith script (after (facts_of script) p es).writer (last_store s ts) × IsLater s (last_store s ts)
