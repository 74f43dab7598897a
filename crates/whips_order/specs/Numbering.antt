-- The order in which the integrator takes transactions, and what it hands on.
use Rattle.std.specs.Prelude.{ℕ, suc, Bool, false, List, [], ◌∷◌, ◌++◌, length, map, filter, slice_get, Option, Some, None}
use Rattle.whips_states.specs.States.{Updates}
use Rattle.whips_states.specs.Concerns.{concerns}
use Rattle.whips_view.specs.ViewDefs.{View}
use Rattle.whips_lists.specs.Lists.{places_from}
use Rattle.whips_flow.specs.State.{NumberedTransaction, count_of_source}
use Rattle.whips_order.specs.declared.message.Message.{Message}
use Rattle.whips_order.specs.declared.message.Message.TheVariants.{Update, Reply}
use Rattle.whips_order.specs.declared.message.Forward.{Forward}
use Rattle.whips_order.specs.declared.message.Forward.TheVariants.{Numbered, Reply as ReplyOn}

-- ---- the numbering: the transactions that the integrator has taken, each with its number, its source and its place there, in the order of their numbers

-- The source's next transaction in the numbering: its number is one more than there are transactions, and its place one more than there are of the source. The painting algorithm 1997, with places of this project's own.
abbrev pub next_of : List NumberedTransaction → ℕ → NumberedTransaction
next_of numbering y = record { number = suc (length numbering); source = y; place = suc (count_of_source numbering y) }

-- The numbering after a message of the source: a reply isn't numbered.
abbrev pub numbering_after : ℕ → Message → List NumberedTransaction → List NumberedTransaction
numbering_after y (Update t) numbering = numbering ++ next_of numbering y ∷ []
numbering_after y (Reply r) numbering = numbering

-- What an integrator keeps of the numbering: how many transactions it has, and how many of each source.
pub record Counts : Type 0 where
  pub total : ℕ
  pub places : List ℕ

-- The counts of a numbering of this many sources' transactions.
abbrev pub counts_of : ℕ → List NumberedTransaction → Counts
counts_of sources numbering = record { total = length numbering; places = map (count_of_source numbering) (places_from 0 sources) }

-- ---- what is handed on

abbrev pub is_concerned : Updates → Option View → Bool
is_concerned t None = false
is_concerned t (Some view) = concerns view.parts t

-- The numbers of the views that the transaction concerns, in order. Multiple View Consistency 1997.
abbrev pub concerned_views : List View → Updates → List ℕ
concerned_views views t = filter (λ x. is_concerned t (slice_get views x)) (places_from 0 (length views))

-- What the integrator hands on of a message: a transaction with its number, its place and the views that it concerns, and a reply as it is.
abbrev pub forward_of : List View → List NumberedTransaction → ℕ → Message → Forward
forward_of views numbering y (Update t) = Numbered (suc (length numbering)) (suc (count_of_source numbering y)) t (concerned_views views t)
forward_of views numbering y (Reply r) = ReplyOn r
