-- A source as its callers see it, and what its calls do.
use Rattle.std.specs.Prelude.{◌≡◌, ℕ, suc, ◌+◌, ◌^◌, ◌<◌, ◌==◌, Bool, true, false, cond, List, [], ◌∷◌, ◌++◌, length, slice_get, Option, Some}
use Rattle.std.specs.Option.{option_map}
use Rattle.std.specs.List.{AllByRecursion}
use Rattle.whips_model.specs.Relation.{Table}
use Rattle.whips_rel.specs.Updates.{relation_of}
use Rattle.whips_states.specs.States.{Updates, applied, AreAllValid}
use Rattle.whips_steps.specs.Steps.{step_parts}
use Rattle.whips_steps.specs.Answers.{step_answer}
use Rattle.whips_view.specs.ViewDefs.{View, keyed}
use Rattle.whips_flow.specs.State.{QueryStep}
use Rattle.whips_setup.specs.Setups.{SetupData}
use Rattle.whips_query.specs.declared.asks.Ask.{Ask}
use Rattle.whips_query.specs.declared.asks.Reply.{Reply}

-- A source.
pub record SiteState : Type 0 where
  -- the views that it answers steps of, by number, and its own number; no call changes them
  pub views : List View
  pub source : ℕ
  -- all relations by number as they are now; those of other sources have no row
  pub relations : List Table
  -- how many transactions it has made, and those that it has still to make
  pub commits : ℕ
  pub left : List Updates
  -- each ask that it answered, with its view, oldest first
  pub log : List (ℕ × QueryStep)
  -- it had no memory for a transaction and does nothing more
  pub is_stopped : Bool

-- ---- the start

abbrev pub without_rows : Table → Table
without_rows table = record table { rows = [] }

-- The relations as one source has them, where the home of each is given: its own with their rows, the others with none.
abbrev pub own_tables : ℕ → List ℕ → List Table → List Table
own_tables source [] db = []
own_tables source (home ∷ homes) [] = []
own_tables source (home ∷ homes) (table ∷ db) = cond (home == source) table (without_rows table) ∷ own_tables source homes db

-- A source of the setup that has made none of its transactions.
abbrev pub new_site : SetupData → ℕ → List Updates → SiteState
new_site s source transactions = record { views = s.views; source = source; relations = own_tables source s.homes s.initial; commits = 0; left = transactions; log = []; is_stopped = false }

-- All updates are of relations of this source.
abbrev pub AreOf : List ℕ → ℕ → List Updates → Type 0
AreOf homes source transactions = AllByRecursion (AllByRecursion (λ u. slice_get homes (relation_of u) ≡ Some source)) transactions

-- The transactions may be those of this source of the setup: they are of its own relations, and valid in turn.
pub record AreTransactionsOf (s : SetupData) (source : ℕ) (transactions : List Updates) : Type 0 where
  pub own : AreOf s.homes source transactions
  pub valid : AreAllValid s.initial transactions

-- What a source keeps: unless it is stopped, the transactions that are left are valid in turn; and it can count them all.
pub record IsLive (s : SiteState) : Type 0 where
  pub valid : s.is_stopped ≡ false → AreAllValid s.relations s.left
  pub counted : s.commits + length s.left < 2 ^ 64

-- ---- a commit

-- The source after its next transaction, where one of these is left; Strobe 1996.
abbrev pub with_first_made : List Updates → SiteState → SiteState
with_first_made [] s = s
with_first_made (t ∷ left) s = record s { relations = applied s.relations t; commits = suc s.commits; left = left }

abbrev pub after_commit : SiteState → SiteState
after_commit s = with_first_made s.left s

-- A source that had no memory for a transaction: its views, its number and its log are as before, and it is stopped.
pub record IsStoppedAfter (old new : SiteState) : Type 0 where
  pub views : new.views ≡ old.views
  pub source : new.source ≡ old.source
  pub log : new.log ≡ old.log
  pub stopped : new.is_stopped ≡ true

-- ---- an answer

-- What a query's step finds on these relations, as a reply to the ask; Strobe 1996.
abbrev pub reply_on : List Table → Ask → View → Reply
reply_on db ask view = record { view = ask.view; update = ask.update; origin = ask.origin; step = ask.step; partials = step_answer view.parts db (step_parts (keyed view) ask.origin ask.step) ask.partials }

-- The source's reply to an ask: on its relations as they are now, by its view of the ask's number.
abbrev pub reply_of : SiteState → Ask → Option Reply
reply_of s ask = option_map (reply_on s.relations ask) (slice_get s.views ask.view)

abbrev pub log_entry : Ask → ℕ × QueryStep
log_entry ask = (ask.view, record { number = ask.update; origin = ask.origin; step = ask.step })

-- The source after it answered the ask.
abbrev pub after_answer : Ask → SiteState → SiteState
after_answer ask s = record s { log = s.log ++ log_entry ask ∷ [] }
