-- Sources and sinks as contracts see them.
use Rattle.std.specs.Prelude.{ℕ, List, Option}

-- a source in memory: the bytes still to come, the most that one call gives, the numbers of the calls
-- that fail, and how many calls and faults there were
pub record SourceState : Type 0 where
  pub left : List ℕ
  pub max_piece : ℕ
  pub fails : List ℕ
  pub calls : ℕ
  pub faults : ℕ

-- a sink in memory: the bytes written so far, the most that one call takes, the numbers of the calls
-- that fail, and how many calls and faults there were
pub record SinkState : Type 0 where
  pub written : List ℕ
  pub max_piece : ℕ
  pub fails : List ℕ
  pub calls : ℕ
  pub faults : ℕ

-- an adapter of a stream: the bytes that the stream has left or holds, where they are known, and how
-- many calls and faults there were
pub record StreamState : Type 0 where
  pub known : Option (List ℕ)
  pub calls : ℕ
  pub faults : ℕ
