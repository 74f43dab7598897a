-- The messages of a manager, and the numbering, as the core keeps them.
use Rattle.std.specs.Prelude.{List, [], ◌∷◌, ◌++◌, ℕ}
use Rattle.whips_flow.specs.State.{NumberedTransaction}
use Rattle.whips_order.specs.declared.message.Forward.{Forward}
use Rattle.whips_order.specs.declared.message.Forward.TheVariants.{Numbered as ForwardNumbered, Reply as ForwardedReply}
use Rattle.whips_core.specs.declared.queues.Input.{Input}
use Rattle.whips_core.specs.declared.queues.Input.TheVariants.{Numbered, Answered}
use Rattle.whips_contents.specs.Contents.{ManagerInput, numbered_transaction, reply_to_ask}

-- The message as the pipeline with its contents has it.
abbrev pub input_of : Input → ManagerInput
input_of (Numbered n t) = numbered_transaction n t
input_of (Answered r) = reply_to_ask r

-- The numbering once what the integrator made of a message of source y is handed on.
abbrev pub numbered_by : ℕ → Forward → List NumberedTransaction → List NumberedTransaction
numbered_by y (ForwardNumbered number place t concerned) numbering = numbering ++ record { number = number; source = y; place = place } ∷ []
numbered_by y (ForwardedReply r) numbering = numbering
