-- That each open query can be asked, and that each reply fits when it is taken.
use Rattle.std.specs.Prelude.{◌≡◌, ℕ, List, slice_get, Some}
use Rattle.whips_lists.specs.Lists.{front}
use Rattle.whips_flow.specs.declared.event.Event.{Event}
use Rattle.whips_states.specs.States.{AreSoundTables}
use Rattle.whips_view.specs.ViewDefs.{View, keyed, HasBases}
use Rattle.whips_view.specs.Widths.{widths_of}
use Rattle.whips_facts.specs.Scripts.{transaction_at, Script}
use Rattle.whips_managers.specs.Messages.{AllCanAsk, HaveWidths, Fits}
use Rattle.whips_query.specs.declared.asks.Reply.{Reply}
use Rattle.whips_store.specs.Stores.{StoreState}
use Rattle.whips_contents.specs.Contents.{reply_to_ask, LoadedManager, LoadedPipeline}
use Rattle.whips_contents.specs.Events.{loaded_with}
use Rattle.whips_stage_laws.specs.Fits.{FitsWork, no_older, FitsContents}

-- The views are over the setup's relations, and the tuples of all transactions have the widths of the relations.
pub record FitsWidths (s : Script) : Type 0 where
  pub tables : AreSoundTables s.setup.initial
  pub bases : (x : ℕ) (view : View) → slice_get s.setup.views x ≡ Some view → HasBases view s.setup.initial
  pub widths : (x : ℕ) (view : View) → slice_get s.setup.views x ≡ Some view → (y k : ℕ) → HaveWidths (keyed view) (widths_of view) (transaction_at s y k)

-- Each open query of each manager can be asked.
abbrev pub QueriesCanAsk : LoadedPipeline → Type 0
QueriesCanAsk l = (x : ℕ) (m : LoadedManager) → slice_get l.managers x ≡ Some m → AllCanAsk (keyed m.manager.view) (widths_of m.manager.view) m.manager.state.queries

-- After every list of events each open query can be asked, and the reply that a manager takes next fits.
pub record AreFitting (l : LoadedPipeline) : Type 0 where
  pub queries : QueriesCanAsk l
  pub replies : (x : ℕ) (m : LoadedManager) (r : Reply) → slice_get l.managers x ≡ Some m → front m.messages ≡ Some (reply_to_ask r) → Fits (keyed m.manager.view) (widths_of m.manager.view) m.manager.state r.update r.origin r.step r.partials

abbrev pub MessagesAreFitting : Type 0
MessagesAreFitting = (s : Script) (store : StoreState) (es : List Event) → FitsWork s → FitsWidths s → AreFitting (loaded_with s store es)

-- The contents fit after every list of events.
abbrev pub ContentsFit : Type 0
ContentsFit = (s : Script) (store : StoreState) (es : List Event) → FitsWork s → FitsContents s no_older (loaded_with s store es)
