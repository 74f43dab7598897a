-- When the version at which a session began is too old to be read.
use Rattle.std.specs.Prelude.{ℕ, ◌+◌, ◌-◌, ◌*◌, ◌<◌, Bool, nat_lt}

-- the last phase at which version v can be read, with n versions kept: a phase is twice the committed version, and 1 more while maintenance is active; nVNL 1997
abbrev pub last_phase : (n v : ℕ) → ℕ
last_phase n v = 2 * v + 2 * (n - 1)

-- a session at version v is stale at a later phase, since a newer transaction may have overwritten what it reads; nVNL 1997
abbrev pub IsStale : (n v phase : ℕ) → Type 0
IsStale n v phase = last_phase n v < phase

-- the same as a test
abbrev pub is_stale : (n v phase : ℕ) → Bool
is_stale n v phase = nat_lt (last_phase n v) phase
