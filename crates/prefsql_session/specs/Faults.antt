-- The lines that name a refusal. They are this project's own.
use Rattle.std.specs.Prelude.{ℕ, List, ◌++◌, codes, decimal}
use Rattle.prefsql_lexer.specs.declared.fault.Spot.{Spot}
use Rattle.table_csv.specs.declared.fault.TableSpot.{TableSpot}
use Rattle.prefsql_session.specs.declared.fault.Fault.{Fault}
use Rattle.prefsql_session.specs.declared.fault.Fault.TheVariants.{Table, Script}

-- the line for words that are not accepted
abbrev pub usage_line : List ℕ
usage_line = codes "usage: prefsql COMMAND [--stats] [NAME=PATH ...] or prefsql bench N\n"

-- as `error E504 in table CARS record 3 field 1`
abbrev pub table_fault_line : List ℕ → TableSpot → List ℕ
table_fault_line name spot =
    codes "error E" ++ decimal spot.code ++ codes " in table " ++ name ++ codes " record "
    ++ decimal spot.at_record
    ++ codes " field " ++ decimal spot.at_field ++ codes "\n"

-- as `error E306 at byte 41`
abbrev pub script_fault_line : Spot → List ℕ
script_fault_line spot =
    codes "error E" ++ decimal spot.code ++ codes " at byte " ++ decimal spot.at ++ codes "\n"

-- the line that names a fault
abbrev pub fault_line : Fault → List ℕ
fault_line (Table name spot) = table_fault_line name spot
fault_line (Script spot) = script_fault_line spot
