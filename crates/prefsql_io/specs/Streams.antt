-- What a write, and a run of reads or writes, do to known bytes. All definitions here are this
-- project's own.
use Rattle.std.specs.Prelude.{◌≡◌, ℕ, ◌+◌, ◌≤◌, ◌<◌, List, length, take, Option, Result, IfOk}
use Rattle.std.specs.Io.KnownBytes.{Appends, Consumes}

-- a write took from one byte to all of them
abbrev pub WritesSome : {E : Type 0} → Result ℕ E → List ℕ → Type 0
WritesSome r bytes = IfOk r (λ n. (1 ≤ n) × (n ≤ length bytes))

-- a front of the bytes was appended, and less than all of them
abbrev pub AppendsLess : Option (List ℕ) → Option (List ℕ) → List ℕ → Type 0
AppendsLess old new bytes = (n : ℕ) × (n < length bytes) × Appends old new (take n bytes)

-- a front of the known bytes was taken
abbrev pub TakesFront : Option (List ℕ) → Option (List ℕ) → Type 0
TakesFront old new = (bytes : List ℕ) × Consumes old new bytes

-- more than the limit was there, and the limit and one more were taken
abbrev pub TakesPast : Option (List ℕ) → Option (List ℕ) → ℕ → Type 0
TakesPast old new limit = (bytes : List ℕ) × (length bytes ≡ limit + 1) × Consumes old new bytes
