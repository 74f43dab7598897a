-- What the answers to a query's steps find, and what they depend on.
use Rattle.std.specs.Prelude.{◌≡◌, ◌↔◌, ℕ, ◌<◌, true, false, List, [], length, slice_index, slice_index_or}
use Rattle.std.specs.List.{AllByRecursion}
use Rattle.whips_model.specs.Tuples.{Codes}
use Rattle.whips_model.specs.Relation.{Table, table_rows}
use Rattle.whips_model.specs.Views.{ViewData, Choice}
use Rattle.whips_lists.specs.Members.{Has, AreDistinct}
use Rattle.whips_choices.specs.KeyedViews.{KeyedView, IsKeyedView, AreTables, IsRowOf}
use Rattle.whips_choices.specs.Partials.{Partial}
use Rattle.whips_states.specs.States.{Updates, applied, AreValid, AreSoundTables}
use Rattle.whips_states.specs.Concerns.{meets_part, concerns}
use Rattle.whips_steps.specs.Answers.{step_answer, whole_answer, projected, AreWide, IsWhole, AllDifferInKey}

-- The row is one of the view's value, and its tuple at the origin is a seed.
pub record IsSeededRow (v : KeyedView) (tables : List (List Codes)) (origin : ℕ) (seeds : List Codes) (r : Codes) : Type 0 where
  pub choice : Choice
  pub is : IsRowOf v.base tables r choice
  pub seed : Has (slice_index_or choice origin []) seeds

-- On one state the answers to all of an origin's steps, from distinct tuples of that state that meet the view, give exactly the rows of the view's value whose tuple at the origin is one of these.
abbrev pub StepsFind : Type 0
StepsFind = (v : KeyedView) (tables : List (List Codes)) (origin : ℕ) (seeds : List Codes) → IsKeyedView v → AreTables v tables → origin < length v.keys → AreDistinct seeds
    → ((t : Codes) → Has t seeds → Has t (slice_index_or tables origin [])) → ((t : Codes) → Has t seeds → meets_part v.base origin t ≡ true)
    → (r : Codes) → Has r (projected v (whole_answer v tables origin seeds)) ↔ IsSeededRow v tables origin seeds r

-- After the answers to all of an origin's steps, from such tuples, each partial choice is filled at each part, and no two have the same keys.
abbrev pub AnswersAreWhole : Type 0
AnswersAreWhole = (v : KeyedView) (tables : List (List Codes)) (origin : ℕ) (seeds : List Codes) → IsKeyedView v → AreTables v tables → origin < length v.keys → AreDistinct seeds
    → ((t : Codes) → Has t seeds → Has t (slice_index_or tables origin [])) → ((t : Codes) → Has t seeds → meets_part v.base origin t ≡ true)
    → AllByRecursion (IsWhole (length v.keys)) (whole_answer v tables origin seeds) × AllDifferInKey v.keys (whole_answer v tables origin seeds)

-- A valid transaction that doesn't concern the view leaves the answer to any step as it was.
abbrev pub UnconcernedAnswer : Type 0
UnconcernedAnswer = (view : ViewData) (db : List Table) (t : Updates) (parts : List ℕ) (ps : List Partial) → AreSoundTables db → AreValid db t → concerns view t ≡ false → AreWide (length view.relations) ps
    → step_answer view (applied db t) parts ps ≡ step_answer view db parts ps

-- An answer looks at the relations of the asked parts alone.
abbrev pub AnswerAtParts : Type 0
AnswerAtParts = (view : ViewData) (db others : List Table) (parts : List ℕ) (ps : List Partial)
    → ((part : ℕ) → Has part parts → table_rows db (slice_index view.relations part) ≡ table_rows others (slice_index view.relations part)) → step_answer view db parts ps ≡ step_answer view others parts ps
