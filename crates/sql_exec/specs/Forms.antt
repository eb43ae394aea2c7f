-- Forms of conditions and scalars that have several parts.
use Rattle.std.specs.Prelude.{◌≡◌, Bool, List}
use Rattle.prefsql_values.specs.declared.value.CompareOp.{CompareOp}
use Rattle.sql_exec.specs.declared.ready.ReadyCond.{ReadyCond, Between, Compare, OneOf}
use Rattle.sql_exec.specs.declared.ready.ReadyScalar.{ReadyScalar, Case}
use Rattle.sql_exec.specs.declared.ready.ReadyWhen.{ReadyWhen}

abbrev pub IsCompare : ReadyCond → Type 0
IsCompare cond =
    (op : CompareOp) × (a : ReadyScalar) × (b : ReadyScalar) × (cond ≡ Compare op a b)

abbrev pub IsBetween : ReadyCond → Type 0
IsBetween cond =
    (negate : Bool) × (a : ReadyScalar) × (low : ReadyScalar) × (high : ReadyScalar)
    × (cond ≡ Between negate a low high)

abbrev pub IsOneOf : ReadyCond → Type 0
IsOneOf cond =
    (negate : Bool) × (a : ReadyScalar) × (list : List ReadyScalar)
    × (cond ≡ OneOf negate a list)

abbrev pub IsCase : ReadyScalar → Type 0
IsCase scalar =
    (whens : List ReadyWhen) × (last : ReadyScalar) × (scalar ≡ Case whens last)
