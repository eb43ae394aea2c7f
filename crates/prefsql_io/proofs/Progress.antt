-- How far a loop over a sink or a source has come.
use Rattle.std.proofs.Common.{◌≡◌, ℕ, ◌+◌, ◌≤◌, List, Option, length, take}
use Rattle.std.specs.Io.KnownBytes.{Appends, Consumes}

-- the first `at` bytes were appended, and the count of faults is as it was
pub record HasWritten (old new : Option (List ℕ)) (bytes : List ℕ) (at before now : ℕ) : Type 0 where
  pub within : at ≤ length bytes
  pub appended : Appends old new (take at bytes)
  pub kept : now ≡ before

-- these bytes were taken, at most one past the limit, and the count of faults is as it was
pub record HasRead (old new : Option (List ℕ)) (bytes : List ℕ) (limit before now : ℕ) : Type 0 where
  pub within : length bytes ≤ limit + 1
  pub taken : Consumes old new bytes
  pub kept : now ≡ before
