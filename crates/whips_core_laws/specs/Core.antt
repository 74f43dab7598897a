-- The theorem of the core: the pipeline with its contents against the machine over numbers and the views' values, after every list of events.
use Rattle.std.specs.Prelude.{◌≡◌, ℕ, true, List, ◌++◌, length, slice_get, is_some, Some}
use Rattle.std.specs.Option.{option_map}
use Rattle.whips_flow.specs.State.{Pipeline, start}
use Rattle.whips_flow.specs.Progress.{after, is_enabled, shortage_at}
use Rattle.whips_flow.specs.declared.event.Event.{Event}
use Rattle.whips_flow.specs.declared.event.Event.TheVariants.{Begin}
use Rattle.whips_view.specs.ViewDefs.{View, keyed}
use Rattle.whips_setup.specs.Refusals.{IsSetup}
use Rattle.whips_setup.specs.Workloads.{IsWorkload}
use Rattle.whips_facts.specs.Scripts.{Script, value_at}
use Rattle.whips_facts.specs.ScriptFacts.{facts_of}
use Rattle.whips_store.specs.Stores.{view_in}
use Rattle.whips_store.specs.First.{store_at_first}
use Rattle.whips_faithful_laws.specs.Scans.{IsLater}
use Rattle.whips_writer_laws.specs.Needs.{full_of}
use Rattle.whips_writer_laws.specs.Writers.{GoesWith}
use Rattle.whips_contents.specs.Contents.{LoadedPipeline}
use Rattle.whips_contents.specs.Events.{is_enabled_loaded, begin_refusal, is_full_for, loaded_with}
use Rattle.whips_contents.specs.Tokens.{tokens as tokens_of}
use Rattle.whips_contents_laws.specs.Fitting.{AreFitting}
use Rattle.whips_core_laws.specs.Calls.{CallsFit}

-- The pipeline of a script, with its store at version 0, after these events.
abbrev pub loaded_after : Script → List Event → LoadedPipeline
loaded_after s es = loaded_with s (store_at_first s.setup) es

-- What holds of the loaded pipeline and the machine's state after the same events.
pub record Carries (s : Script) (l : LoadedPipeline) (p : Pipeline) : Type 0 where
  -- the numbers of the pipeline are the machine's state; the same events are enabled, and the same ones full
  pub tokens : tokens_of (length s.setup.views) l ≡ p
  pub enabled : (e : Event) → is_enabled_loaded l e ≡ is_enabled (facts_of s) p e
  pub full : (e : Event) → is_enabled_loaded l e ≡ true → is_full_for s.setup l e ≡ is_some (shortage_at (facts_of s) p e)
  -- where a begin can be done, what the store refuses is the machine's shortage
  pub refused : is_enabled_loaded l Begin ≡ true → begin_refusal s.setup l ≡ option_map full_of (shortage_at (facts_of s) p Begin)
  -- each view's current rows are its value at the current cut, and those that are being written at the next one
  pub current : (x : ℕ) (view : View) → slice_get s.setup.views x ≡ Some view → (view_in l.store x).current ≡ value_at s (keyed view) l.cut
  pub next : (x : ℕ) (view : View) → slice_get s.setup.views x ≡ Some view → (view_in l.store x).next ≡ value_at s (keyed view) l.target_cut
  -- the store goes with the machine's writer: it is sound, and at each live version its slots show exactly the views' values at that version's cut
  pub store : GoesWith s p.writer l.store
  -- each open query can be asked, each reply on its way fits when it is taken, and each stage may be asked what the event asks of it
  pub fits : AreFitting l
  pub calls : CallsFit s.setup l

-- Of every valid script, after every list of events; own.
abbrev pub CoreCarries : Type 0
CoreCarries = (s : Script) → IsSetup s.setup → IsWorkload s.setup s.work
    → (es : List Event) → Carries s (loaded_after s es) (after (facts_of s) (start (facts_of s)) es)

-- The store after more events is a later moment of the store; own.
abbrev pub StoresGoOn : Type 0
StoresGoOn = (s : Script) → IsSetup s.setup → IsWorkload s.setup s.work → (es more : List Event) → IsLater (loaded_after s es).store (loaded_after s (es ++ more)).store
