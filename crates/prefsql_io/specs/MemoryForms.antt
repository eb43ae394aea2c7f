-- What the forms in memory keep, and exactly what their calls do. All definitions here are this
-- project's own.
use Rattle.std.specs.Prelude.{◌≡◌, ◌↔◌, ◌⊎◌, ℕ, ◌-◌, ◌≤◌, min, List, [], ◌∷◌, length, Bool, true}
use Rattle.std.specs.Prelude.{Result, Err, Vec, is_err, IsErr, IsErrOf, IfOk, ◌≢◌, false, IsNone}
use Rattle.std.specs.Prelude.{IsTrue, if◌then◌else◌, ◌==◌}
use Rattle.std.specs.List.{list_any}
use Rattle.std.specs.declared.alloc.Global.{Global}
use Rattle.prefsql_io.specs.Counts.{counted}
use Rattle.prefsql_io.specs.Files.{Files, bytes_at}
use Rattle.prefsql_io.specs.declared.shelf.LoadError.{LoadError}
use Rattle.prefsql_io.specs.declared.shelf.LoadError.TheVariants.{Failed, Memory}

-- which calls fail, by their numbers from 1, how many calls were made, and how many of them failed
pub record CallState : Type 0 where
  pub failing : List ℕ
  pub made : ℕ
  pub faults : ℕ

-- no call yet
abbrev pub no_calls : List ℕ → CallState
no_calls failing = record { failing = failing; made = 0; faults = 0 }

-- the next call is listed
abbrev pub fails_next : CallState → Bool
fails_next calls = list_any (λ n. n == counted calls.made) calls.failing

-- after a call that went well, or failed
abbrev pub after_call : Bool → CallState → CallState
after_call failed calls = record calls {
  made = counted calls.made;
  faults = if failed then counted calls.faults else calls.faults;
}

-- a source in memory: the bytes that are left, and how many of them one read moves at most
pub record SourceState : Type 0 where
  pub left : List ℕ
  pub piece : ℕ
  pub calls : CallState

-- a read of a source in memory, into a buffer of this length
pub record MemoryReads {E : Type 0} (old new : SourceState) (room : ℕ)
    (result : Result ℕ E) : Type 0 where
  pub failed : IsErr result ↔ IsTrue (fails_next old.calls)
  pub count : IfOk result (λ n. n ≡ min (min old.piece (length old.left)) room)
  pub calls : new.calls ≡ after_call (is_err result) old.calls
  pub piece : new.piece ≡ old.piece

-- a sink in memory: the bytes that were written, how many fit, and how many one write moves at most
pub record SinkState : Type 0 where
  pub written : List ℕ
  pub room : ℕ
  pub piece : ℕ
  pub calls : CallState

-- a write of these bytes to a sink in memory
pub record MemoryWrites {E : Type 0} (old new : SinkState) (bytes : List ℕ)
    (result : Result ℕ E) : Type 0 where
  pub failed : IsErr result ↔ (IsTrue (fails_next old.calls) ⊎ (old.room ≤ length old.written))
  pub count : IfOk result (λ n. n
      ≡ min (min old.piece (length bytes)) (old.room - length old.written))
  pub calls : new.calls ≡ after_call (is_err result) old.calls
  pub room : new.room ≡ old.room
  pub piece : new.piece ≡ old.piece

-- a list without an item
abbrev pub is_nil : List ℕ → Bool
is_nil [] = true
is_nil (n ∷ ns) = false

-- a shelf in memory
pub record ShelfState : Type 0 where
  pub files : Files
  pub calls : CallState

-- which answer it was
abbrev pub is_failed : Result (Vec ℕ Global) LoadError → Bool
is_failed (Err Failed) = true
is_failed _ = false

abbrev pub is_memory : Result (Vec ℕ Global) LoadError → Bool
is_memory (Err Memory) = true
is_memory _ = false

-- a load from a shelf in memory; one that answers want of memory is not counted
pub record MemoryLoads (old new : ShelfState) (path : List ℕ)
    (result : Result (Vec ℕ Global) LoadError) : Type 0 where
  pub failed : IsErrOf result Failed ↔ ((result ≢ Err Memory)
      × (IsTrue (fails_next old.calls) ⊎ IsNone (bytes_at old.files path)))
  pub calls : new.calls ≡ (if is_memory result then old.calls
      else after_call (is_failed result) old.calls)
  pub files : new.files ≡ old.files
