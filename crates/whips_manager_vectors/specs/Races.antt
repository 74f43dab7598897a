-- Worked messages to the manager of a join of R(a, b) at source 0 with S(c, b) at source 1, and of one with T(d, b) at source 2 besides.
use Rattle.std.specs.Prelude.{ℕ, List, [], ◌∷◌, Some, None}
use Rattle.whips_model.specs.Tuples.{Codes}
use Rattle.whips_choices.specs.KeyedViews.{KeyedView}
use Rattle.whips_choices.specs.Places.{keyed_view}
use Rattle.whips_choices.specs.Partials.{Partial}
use Rattle.whips_rel.specs.declared.update.Update.TheVariants.{Insert, Delete}
use Rattle.whips_vectors.specs.Scripts.{row2, at, single, join_of_two}
use Rattle.whips_manager_vectors.specs.Runs.{Message, transaction, reply}

abbrev pub first_keys : List (List ℕ)
first_keys = (0 ∷ []) ∷ (0 ∷ []) ∷ []

abbrev pub two : KeyedView
two = keyed_view join_of_two first_keys

abbrev pub three : KeyedView
three = keyed_view (record { relations = 0 ∷ 1 ∷ 2 ∷ []; homes = 0 ∷ 1 ∷ 2 ∷ []; equal = (at 0 1, at 1 1) ∷ (at 1 1, at 2 1) ∷ []; conds = []; out = at 0 0 ∷ at 1 0 ∷ at 2 0 ∷ at 0 1 ∷ [] }) ((0 ∷ []) ∷ (0 ∷ []) ∷ (0 ∷ []) ∷ [])

-- both tuples of the join
abbrev pub both : Codes → Codes → Partial
both r s = Some r ∷ Some s ∷ []

-- two insertions that find each other's tuple
abbrev pub raced : List Message
raced = transaction 1 (single (Insert 0 (row2 1 5))) ∷ transaction 2 (single (Insert 1 (row2 7 5))) ∷ reply 1 0 (both (row2 1 5) (row2 7 5) ∷ []) ∷ reply 2 1 (both (row2 1 5) (row2 7 5) ∷ []) ∷ []

-- an answer that was taken before the deletion of what it found
abbrev pub answered_before : List Message
answered_before = transaction 1 (single (Insert 0 (row2 1 5))) ∷ reply 1 0 (both (row2 1 5) (row2 7 5) ∷ []) ∷ transaction 2 (single (Delete 1 (row2 7 5))) ∷ []

-- an answer that was taken after the deletion of what it would have found
abbrev pub answered_after : List Message
answered_after = transaction 1 (single (Insert 0 (row2 1 5))) ∷ transaction 2 (single (Delete 1 (row2 7 5))) ∷ reply 1 0 [] ∷ []

-- a deletion while the second step is open
abbrev pub second_step : List Message
second_step = transaction 1 (single (Insert 0 (row2 1 5))) ∷ reply 1 0 ((Some (row2 1 5) ∷ Some (row2 7 5) ∷ None ∷ []) ∷ []) ∷ []

abbrev pub deleted_later : List Message
deleted_later = transaction 1 (single (Insert 0 (row2 1 5))) ∷ reply 1 0 ((Some (row2 1 5) ∷ Some (row2 7 5) ∷ None ∷ []) ∷ []) ∷ transaction 2 (single (Delete 1 (row2 7 5))) ∷ reply 1 0 ((Some (row2 1 5) ∷ Some (row2 7 5) ∷ Some (row2 9 5) ∷ []) ∷ []) ∷ []

-- a key that is deleted and inserted again with another code while a query is open, which finds the new tuple
abbrev pub two_lives : List Message
two_lives = transaction 1 (single (Insert 0 (row2 1 5))) ∷ transaction 2 (single (Delete 1 (row2 7 6))) ∷ transaction 3 (single (Insert 1 (row2 7 5))) ∷ reply 1 0 (both (row2 1 5) (row2 7 5) ∷ []) ∷ reply 3 1 (both (row2 1 5) (row2 7 5) ∷ []) ∷ []

-- a key that one transaction deletes and inserts again
abbrev pub replaced : List Message
replaced = transaction 1 (Delete 0 (row2 1 6) ∷ Insert 0 (row2 1 5) ∷ []) ∷ reply 1 0 (both (row2 1 5) (row2 7 5) ∷ []) ∷ []

-- a transaction of two updates while a query is open, whose answer has what the transaction inserts
abbrev pub raced_transaction : List Message
raced_transaction = transaction 1 (single (Insert 0 (row2 1 5))) ∷ transaction 2 (Delete 1 (row2 7 5) ∷ Insert 1 (row2 8 5) ∷ []) ∷ reply 1 0 (both (row2 1 5) (row2 8 5) ∷ []) ∷ reply 2 1 (both (row2 1 5) (row2 8 5) ∷ []) ∷ []

-- a reply with tuples that no source has
abbrev pub strange : List Message
strange = transaction 1 (single (Insert 0 (row2 1 5))) ∷ reply 1 0 (both (row2 1 5) (row2 77 5) ∷ both (row2 1 5) (row2 78 5) ∷ []) ∷ []
