-- A reader of a table file, and the records that it has not given yet.
use Rattle.std.specs.Prelude.{◌≡◌, ◌+◌, ◌≤◌, ℕ, Bool, true, false, List, [], ◌∷◌, length, Option}
use Rattle.std.specs.Prelude.{Some, unwrap_or}
use Rattle.std.specs.Borrow.{Bor}
use Rattle.csv.specs.Machine.{ends_at_end}
use Rattle.csv.specs.Reading.{Ready, default_config, is_flexible, reader_config, reader_state}
use Rattle.csv.specs.Reading.{reader_trim, records_from, source_of}
use Rattle.csv.specs.declared.parser.State.{State}
use Rattle.csv.specs.declared.reader.Reader.{Reader}
use Rattle.csv.specs.declared.reader.Trim.TheVariants as trim

-- the bytes that are left, if they are known
abbrev pub bytes_left : Reader (Bor (List ℕ)) → Option (List ℕ)
bytes_left reader = source_of (λ (bytes : Bor (List ℕ)). Some bytes.now) reader

-- all records of these bytes from this state on
abbrev pub records_after : State → List ℕ → List (List (List ℕ))
records_after state bytes = records_from default_config (length bytes + 1) state bytes

abbrev pub records_left : Reader (Bor (List ℕ)) → List (List (List ℕ))
records_left reader = records_after (reader_state reader) (unwrap_or (bytes_left reader) [])

-- the reader takes records of any number of fields, else reads by the defaults of csv, and stands
-- between two records of known bytes
pub record IsBetween (reader : Reader (Bor (List ℕ))) : Type 0 where
  pub trim : reader_trim reader ≡ trim.None
  pub ready : Ready reader
  pub flexible : is_flexible reader ≡ true
  pub config : reader_config reader ≡ default_config
  pub state : ends_at_end (reader_state reader) ≡ false
  pub bytes : List ℕ
  pub source : bytes_left reader ≡ Some bytes

-- a record with these fields was left, or none was
abbrev pub ReadsNext : Reader (Bor (List ℕ)) → Reader (Bor (List ℕ)) → Bool → List (List ℕ) → Type 0
ReadsNext old new true fields = IsBetween new × (records_left old ≡ fields ∷ records_left new)
    × (1 ≤ length fields)
ReadsNext old new false fields = records_left old ≡ []
