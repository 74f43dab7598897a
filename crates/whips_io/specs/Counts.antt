-- Counts that stop at the last value of 64 bits, and what a failure says of them.
use Rattle.std.specs.Prelude.{ℕ, ◌+◌, ◌-◌, ◌^◌, ◌≤◌, min, Result, OnErr}

-- the count after one more, which stops at its last value
abbrev pub next_count : ℕ → ℕ
next_count n = min (n + 1) (2 ^ 64 - 1)

-- a count is higher than it was, or stands at its last value
abbrev pub HasRisen : ℕ → ℕ → Type 0
HasRisen old new = next_count old ≤ new

-- a call's count of faults doesn't fall, and the call failed only where that count rose
pub record FailsByFault {T E : Type 0} (old new : ℕ) (result : Result T E) : Type 0 where
  pub kept : old ≤ new
  pub risen : OnErr result (HasRisen old new)
