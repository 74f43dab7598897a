-- What a manager asks, which replies fit, and which choices are whole.
use Rattle.std.specs.Prelude.{◌≡◌, ℕ, ◌-◌, ◌<◌, true, false, List, [], ◌∷◌, ◌++◌, length, map, Some, None, slice_get}
use Rattle.std.specs.List.{AllByRecursion}
use Rattle.whips_model.specs.Tuples.{Codes, Columns, IsKeyed}
use Rattle.whips_model.specs.Relation.{Table}
use Rattle.whips_lists.specs.Members.{Has, AreDistinct}
use Rattle.whips_choices.specs.KeyedViews.{KeyedView, part_key}
use Rattle.whips_choices.specs.Partials.{Partial, slot, seed}
use Rattle.whips_states.specs.States.{Updates, AreSoundTables}
use Rattle.whips_steps.specs.Steps.{asked_sources, steps, step_parts}
use Rattle.whips_steps.specs.Answers.{AllDifferInKey, IsWhole, step_answer, unstruck}
use Rattle.whips_view.specs.ViewDefs.{View, keyed, HasBases}
use Rattle.whips_managers.specs.Managers.{Query, ManagerState, name_of, is_named, with_transaction, with_reply_to, with_reply}
use Rattle.whips_view.specs.Widths.{widths_of}
use Rattle.whips_managers.specs.Messages.{ask_of, CanAsk, AllCanAsk, HaveWidths, Fits}
use Rattle.whips_ask_laws.specs.Asks.{AreSoundParts}

-- What a query that can be asked asks is one of the steps of its origin, at that step's source.
abbrev pub AskNamesStep : Type 0
AskNamesStep = (v : KeyedView) (widths : List ℕ) (q : Query) → CanAsk v widths q → slice_get (steps v q.origin) (q.step - 1) ≡ Some (record { source = (ask_of v q).source; parts = step_parts v q.origin q.step })

-- The ask can be answered: the step's parts are parts of the view, none stands twice, and each partial choice has a place for each part and none of these filled.
abbrev pub AskIsFree : Type 0
AskIsFree = (v : KeyedView) (widths : List ℕ) (q : Query) → CanAsk v widths q
    → AllByRecursion (λ part. part < length v.keys) (step_parts v q.origin q.step)
    × AreDistinct (step_parts v q.origin q.step)
    × AllByRecursion (λ p. length p ≡ length v.keys) q.partials
    × AllByRecursion (λ p. AllByRecursion (λ part. slot p part ≡ None) (step_parts v q.origin q.step)) q.partials

-- After a transaction whose tuples have their widths each open query can be asked.
abbrev pub TransactionAsks : Type 0
TransactionAsks = (v : KeyedView) (columns : Columns) (widths : List ℕ) (m : ManagerState) (number : ℕ) (t : Updates) → HaveWidths v widths t → AllCanAsk v widths m.queries
    → AllCanAsk v widths (with_transaction v columns m number t).queries

-- And so after a reply that fits.
abbrev pub ReplyAsks : Type 0
ReplyAsks = (v : KeyedView) (columns : Columns) (widths : List ℕ) (m : ManagerState) (transaction origin step : ℕ) (partials : List Partial) → AreDistinct (map name_of m.queries)
    → Fits v widths m transaction origin step partials → AllCanAsk v widths m.queries → AllCanAsk v widths (with_reply v columns m transaction origin partials).queries

-- The answer to an open query's ask fits, on whichever rows of their widths the source holds then.
abbrev pub AnswerFits : Type 0
AnswerFits = (v : KeyedView) (widths : List ℕ) (m : ManagerState) (db : List Table) (q : Query) → Has q m.queries → CanAsk v widths q → AreSoundParts v widths db (step_parts v q.origin q.step)
    → Fits v widths m q.transaction q.origin q.step (step_answer v.base db (step_parts v q.origin q.step) q.partials)

-- A reply that fits the last step has whole choices, any two of which differ in a key, and so has what is left of it once those with a pending key are struck.
abbrev pub LastIsWhole : Type 0
LastIsWhole = (v : KeyedView) (widths : List ℕ) (m : ManagerState) (transaction origin step : ℕ) (partials : List Partial) (pending : List (ℕ × Codes)) → Fits v widths m transaction origin step partials
    → step ≡ length (asked_sources v origin) → AllByRecursion (IsWhole (length v.keys)) (unstruck v pending partials) × AllDifferInKey v.keys (unstruck v pending partials)

-- Where there is nothing to ask, each tuple of a part alone is a whole choice, and any two of them, in the order of their keys, differ in a key.
abbrev pub SeedsAreWhole : Type 0
SeedsAreWhole = (v : KeyedView) (part : ℕ) (ts : List Codes) → part < length v.keys → asked_sources v part ≡ [] → IsKeyed (part_key v part) ts
    → AllByRecursion (IsWhole (length v.keys)) (map (seed (length v.keys) part) ts) × AllDifferInKey v.keys (map (seed (length v.keys) part) ts)

-- A reply goes to the first query with its name.
abbrev pub ReplyToFirst : Type 0
ReplyToFirst = (v : KeyedView) (columns : Columns) (m : ManagerState) (transaction origin : ℕ) (partials : List Partial) (before after : List Query) (q : Query) → m.queries ≡ before ++ q ∷ after
    → ((r : Query) → Has r before → is_named transaction origin r ≡ false) → is_named transaction origin q ≡ true → with_reply v columns m transaction origin partials ≡ with_reply_to v columns m before q partials after

-- Relations with the columns that a view was made with hold rows of these widths, in the order of their keys, at each part.
abbrev pub BasesAreSoundParts : Type 0
BasesAreSoundParts = (view : View) (db : List Table) (parts : List ℕ) → AreSoundTables db → HasBases view db → ((part : ℕ) → Has part parts → part < length view.bases)
    → AreSoundParts (keyed view) (widths_of view) db parts
