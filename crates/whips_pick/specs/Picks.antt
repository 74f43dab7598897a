-- A linear congruential generator of 32 bits, of which the high bits are used.
use Rattle.std.specs.Prelude.{ℕ, ◌+◌, ◌*◌, ◌/◌, ◌%◌}

-- the state of the generator after one more pick
abbrev pub next_state : ℕ → ℕ
next_state state = (state * 1664525 + 1013904223) % 4294967296

-- the place below count that the high 16 bits of the new state pick
abbrev pub picked : ℕ → ℕ → ℕ
picked count state = (state / 65536) % count
