-- A part of a run's work: what it comes to by the words, the files and the script. All of it is
-- this project's own.
use Rattle.std.specs.Prelude.{◌≡◌, ⊤, Bool, true, Option, None, Some}
use Rattle.prefsql_session.specs.declared.fault.Fault.{Fault}

pub data Stage (T : Type 0) : Type 0 where
  -- what decides it is not told
  untold : Stage T
  -- it has no good end, but whether it has a fault or a path is not held is not told
  barred : Stage T
  -- the words are not accepted
  unaccepted : Stage T
  -- a path is not held, and the run ends there
  missing : Stage T
  -- the first fault with a code
  faulty : Fault → Stage T
  ready : T → Stage T

-- one part, and then another
abbrev pub and_then : {T U : Type 0} → Stage T → (T → Stage U) → Stage U
and_then untold next = untold
and_then barred next = barred
and_then unaccepted next = unaccepted
and_then missing next = missing
and_then (faulty fault) next = faulty fault
and_then (ready value) next = next value

-- a value, or this end where there is none
abbrev pub ready_or : {T : Type 0} → Stage T → Option T → Stage T
ready_or end None = end
ready_or end (Some value) = ready value

-- what is not told has no good end where something else bars it
abbrev pub barred_if : {T : Type 0} → Bool → Stage T → Stage T
barred_if true untold = barred
barred_if bars stage = stage

-- it comes to this value, where that is told
abbrev pub MayGive : {T : Type 0} → Stage T → T → Type 0
MayGive untold value = ⊤
MayGive (ready found) value = found ≡ value
MayGive end value = ⊥

-- it is refused for this fault, where that is told
abbrev pub MayHaveFault : {T : Type 0} → Stage T → Fault → Type 0
MayHaveFault untold fault = ⊤
MayHaveFault barred fault = ⊤
MayHaveFault (faulty first) fault = first ≡ fault
MayHaveFault end fault = ⊥

-- what it comes to is told
abbrev pub IsTold : {T : Type 0} → Stage T → Type 0
IsTold untold = ⊥
IsTold barred = ⊥
IsTold end = ⊤
