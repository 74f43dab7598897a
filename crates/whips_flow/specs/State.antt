-- The state of the pipeline, by actor. Queues are lists, oldest entry first.
use Rattle.std.specs.Prelude.{ℕ, ◌==◌, List, [], ◌∷◌, ◌++◌, length, filter, replicate, slice_get, Option}
use Rattle.std.specs.Option.{option_and_then}
use Rattle.whips_lists.specs.Lists.{changed_at, front}
use Rattle.whips_flow.specs.Facts.{Facts}
use Rattle.whips_flow.specs.Painted.{Row, PaintedTable}

-- ---- what is sent

-- the transaction of a source at its place there, and the number that the integrator gave it, both from 1; the painting algorithm 1997
pub record NumberedTransaction : Type 0 where
  pub number : ℕ
  pub source : ℕ
  pub place : ℕ

-- how many of the numbered transactions are of source y
abbrev pub count_of_source : List NumberedTransaction → ℕ → ℕ
count_of_source numbering y = length (filter (λ n. n.source == y) numbering)

-- a step, from 1, of the query that a view's manager began at the part `origin` for the transaction with this number; Strobe 1996, with origins of its own
pub record QueryStep : Type 0 where
  pub number : ℕ
  pub origin : ℕ
  pub step : ℕ

-- what a source sends to the integrator, in one queue: a transaction by its place, or an answer to the manager of a view; Strobe 1996
pub data SourceMessage : Type 0 where
  sent_transaction : (place : ℕ) → SourceMessage
  sent_answer : (view : ℕ) → QueryStep → SourceMessage

-- what the integrator sends to a manager, in one queue; Strobe 1996
pub data ManagerMessage : Type 0 where
  update : NumberedTransaction → ManagerMessage
  reply : QueryStep → ManagerMessage

-- ---- the actors

-- a source; Strobe 1996
pub record Source : Type 0 where
  -- how many of its transactions are committed
  pub commit_count : ℕ
  -- its messages on their way to the integrator
  pub messages : List SourceMessage
  -- for each view the asks on their way to it
  pub asks : List (List QueryStep)
  -- each answer that it gave, with the view, oldest first
  pub log : List (ℕ × QueryStep)

-- the manager of a view; Strobe 1996
pub record Manager : Type 0 where
  -- the messages on their way to it
  pub messages : List ManagerMessage
  -- the steps at which its unanswered queries are
  pub open_steps : List QueryStep
  -- the number of the last transaction that it took, or 0
  pub last_number : ℕ
  -- its action lists on their way to the merge; a list is named by the last transaction that it covers
  pub lists : List ℕ

-- the merge; the painting algorithm 1997
pub record Merge : Type 0 where
  pub table : PaintedTable
  -- for each view the lists that came before the rows that they cover
  pub waiting_lists : List (List ℕ)
  -- the row sets that wait for the writer: each is one transaction of the warehouse
  pub row_sets : List (List Row)

-- the writer; 2VNL 1997
pub record Writer : Type 0 where
  -- twice the current version, and 1 more while a maintenance transaction is active
  pub phase : ℕ
  -- how many changes of rows the active transaction has still to make
  pub changes_left : ℕ
  -- the cuts of the versions before the current one, oldest first, and of the current one
  pub earlier_cuts : List (List ℕ)
  pub cut : List ℕ
  -- the cut of the transaction that was begun last
  pub target_cut : List ℕ

-- the whole pipeline; own
pub record Pipeline : Type 0 where
  pub sources : List Source
  -- all transactions that the integrator took, in the order of their numbers
  pub numbering : List NumberedTransaction
  -- the manager of each view
  pub managers : List Manager
  -- the rows of concerned transactions on their way to the merge
  pub announcements : List Row
  pub merge : Merge
  pub writer : Writer

-- the cut of each version that was published, oldest first; own
abbrev pub version_cuts : Pipeline → List (List ℕ)
version_cuts p = p.writer.earlier_cuts ++ p.writer.cut ∷ []

-- ---- the start: all queues are empty, all numbers 0; own

abbrev pub new_source : Facts → Source
new_source f = record { commit_count = 0; messages = []; asks = replicate (length f.slots) []; log = [] }

abbrev pub new_manager : Manager
new_manager = record { messages = []; open_steps = []; last_number = 0; lists = [] }

abbrev pub new_table : PaintedTable
new_table = record { rows = []; last_announced = 0 }

abbrev pub new_merge : Facts → Merge
new_merge f = record { table = new_table; waiting_lists = replicate (length f.slots) []; row_sets = [] }

abbrev pub zero_cut : Facts → List ℕ
zero_cut f = replicate (length f.transactions) 0

abbrev pub new_writer : Facts → Writer
new_writer f = record { phase = 0; changes_left = 0; earlier_cuts = []; cut = zero_cut f; target_cut = zero_cut f }

abbrev pub start : Facts → Pipeline
start f = record {
  sources = replicate (length f.transactions) (new_source f);
  numbering = [];
  managers = replicate (length f.slots) new_manager;
  announcements = [];
  merge = new_merge f;
  writer = new_writer f;
}

-- ---- the oldest entry of each queue, where there is one

abbrev pub oldest_message : Pipeline → ℕ → Option SourceMessage
oldest_message p y = option_and_then (λ s. front s.messages) (slice_get p.sources y)

abbrev pub oldest_ask : Pipeline → ℕ → ℕ → Option QueryStep
oldest_ask p y x = option_and_then (λ s. option_and_then front (slice_get s.asks x)) (slice_get p.sources y)

abbrev pub oldest_manager_message : Pipeline → ℕ → Option ManagerMessage
oldest_manager_message p x = option_and_then (λ m. front m.messages) (slice_get p.managers x)

abbrev pub oldest_list : Pipeline → ℕ → Option ℕ
oldest_list p x = option_and_then (λ m. front m.lists) (slice_get p.managers x)

abbrev pub oldest_row_set : Pipeline → Option (List Row)
oldest_row_set p = front p.merge.row_sets

-- ---- a change of one actor

abbrev pub with_source : ℕ → (Source → Source) → Pipeline → Pipeline
with_source y g p = record p { sources = changed_at y g p.sources }

abbrev pub with_manager : ℕ → (Manager → Manager) → Pipeline → Pipeline
with_manager x g p = record p { managers = changed_at x g p.managers }
