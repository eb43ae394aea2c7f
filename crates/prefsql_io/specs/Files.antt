-- Files by their paths, and what a load gives of them. All definitions here are this project's own.
use Rattle.std.specs.Prelude.{◌≡◌, ◌≢◌, ℕ, ◌≤◌, ◌<◌, List, length, ⊤, Option, None, Some, Result}
use Rattle.std.specs.Prelude.{Ok, Err, Vec, Bool, true, false, IsSome}
use Rattle.std.specs.Option.{option_map}
use Rattle.std.specs.List.{find}
use Rattle.std.specs.Str.{bytes_eq}
use Rattle.std.specs.declared.alloc.Global.{Global}
use Rattle.prefsql_io.specs.declared.shelf.LoadError.{LoadError}
use Rattle.prefsql_io.specs.declared.shelf.LoadError.TheVariants.{Failed, TooLong, Memory}

-- a finite map from paths to bytes, as the list of its entries
abbrev pub Files : Type 0
Files = List (List ℕ × List ℕ)

-- the bytes of a path, where it is held
abbrev pub bytes_at : Files → List ℕ → Option (List ℕ)
bytes_at files path =
    option_map (λ (file : List ℕ × List ℕ). file.1) (find (λ file. bytes_eq file.0 path) files)

-- a file stands at its path, and all other paths hold what they held
pub record PutsFile (old new : Files) (path bytes : List ℕ) : Type 0 where
  pub put : bytes_at new path ≡ Some bytes
  pub others : (other : List ℕ) → other ≢ path → bytes_at new other ≡ bytes_at old other

-- what a load of a path answers, by the path's bytes: exactly these, or too long where they are
-- more than the limit, and only a refusal where the path is not held
abbrev pub LoadGives : Option (List ℕ) → ℕ → Result (Vec ℕ Global) LoadError → Type 0
LoadGives (Some bytes) limit (Ok loaded) = (loaded.items ≡ bytes) × (length bytes ≤ limit)
LoadGives (Some bytes) limit (Err TooLong) = limit < length bytes
LoadGives (Some bytes) limit (Err Failed) = ⊤
LoadGives (Some bytes) limit (Err Memory) = ⊤
LoadGives None limit (Ok loaded) = ⊥
LoadGives None limit (Err TooLong) = ⊥
LoadGives None limit (Err Failed) = ⊤
LoadGives None limit (Err Memory) = ⊤

-- the same of a shelf in memory, whose load fails exactly where the call is listed or the path is
-- not held
abbrev pub LoadsUnless : Bool → Option (List ℕ) → ℕ → Result (Vec ℕ Global) LoadError → Type 0
LoadsUnless true held limit result = result ≡ Err Failed
LoadsUnless false None limit result = result ≡ Err Failed
LoadsUnless false (Some bytes) limit (Ok loaded) = (loaded.items ≡ bytes) × (length bytes ≤ limit)
LoadsUnless false (Some bytes) limit (Err TooLong) = limit < length bytes
LoadsUnless false (Some bytes) limit (Err Failed) = ⊥
LoadsUnless false (Some bytes) limit (Err Memory) = ⊤

-- the same, where the files are told
abbrev pub LoadTells : Option Files → List ℕ → ℕ → Result (Vec ℕ Global) LoadError → Type 0
LoadTells None path limit result = ⊤
LoadTells (Some files) path limit result = LoadGives (bytes_at files path) limit result

-- a path that is told to be held
abbrev pub IsHeld : Option Files → List ℕ → Type 0
IsHeld None path = ⊥
IsHeld (Some files) path = IsSome (bytes_at files path)
