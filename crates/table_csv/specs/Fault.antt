-- Faults of a table file, and what a body that reads it may answer. The codes are this project's
-- own.
use Rattle.std.specs.Prelude.{◌≡◌, ⊤, ℕ, Bool, true, false, List, [], ◌∷◌, map, Result, Ok, Err}
use Rattle.table_csv.specs.declared.fault.TableFault.{TableFault}
use Rattle.table_csv.specs.declared.fault.TableFault.TheVariants.{Bad, Memory}
use Rattle.table_csv.specs.declared.fault.TableSpot.{TableSpot}

-- the code of a fault that is there where the test is true
abbrev pub when : Bool → ℕ → List ℕ
when true code = code ∷ []
when false code = []

-- faults with these codes at one place: records and fields are numbered from 1, and field 0 is the
-- whole record
abbrev pub spots : ℕ → ℕ → List ℕ → List TableSpot
spots number place codes =
    map (λ code. record { code = code; at_record = number; at_field = place }) codes

-- the value where there is no fault, else the first fault
abbrev pub unless_faulty : {F T : Type 0} → List F → T → Result T F
unless_faulty [] value = Ok value
unless_faulty (first ∷ others) value = Err first

-- what may be answered for a value or a fault: that value or that fault, and want of memory in its
-- place
abbrev pub Gives : {T : Type 0} → Result T TableSpot → Result T TableFault → Type 0
Gives wanted (Ok value) = wanted ≡ Ok value
Gives wanted (Err (Bad spot)) = wanted ≡ Err spot
Gives wanted (Err Memory) = ⊤
