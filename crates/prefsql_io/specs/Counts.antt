-- Counts of faults, which never fall and stand still at `u64::MAX`. A count is of the calls of one
-- object that failed: what the object does inside a call, as trying an interrupted read again, is
-- part of that call. All definitions here are this project's own.
use Rattle.std.specs.Prelude.{ℕ, ◌+◌, ◌-◌, ◌^◌, ◌≤◌, ◌<◌, min}

-- the count after one more event
abbrev pub counted : ℕ → ℕ
counted n = min (n + 1) (2 ^ 64 - 1)

-- a count rose in a call, or stands at its last value after it
abbrev pub Rose : ℕ → ℕ → Type 0
Rose before now = counted before ≤ now

-- a count neither rose in a call nor stands at its last value after it
abbrev pub IsQuiet : ℕ → ℕ → Type 0
IsQuiet before now = now < counted before

-- a count of faults over a call: it does not fall, and the call failed only where it rose
pub record HasCause (before now : ℕ) (Failing : Type 0) : Type 0 where
  pub later : before ≤ now
  pub failed : Failing → Rose before now
