-- Values, and how SQL compares them (ISO/IEC 9075:1992). The place of NULL in an order is this
-- project's own.
use Rattle.std.specs.Prelude.{Bool, true, false, cond, ◌||◌, Option, Some, None, List, map}
use Rattle.std.specs.Ordering.{int_cmp, int_eq}
use Rattle.std.specs.Str.{bytes_eq}
use Rattle.std.specs.declared.cmp.Ordering.{Ordering}
use Rattle.std.specs.declared.cmp.Ordering.TheVariants.{Less, Equal, Greater}
use Rattle.prefsql_values.specs.TextOrder.{text_order}
use Rattle.prefsql_values.specs.Truth.{both_true, any_true}
use Rattle.prefsql_values.specs.declared.truth.Truth.{Truth}
use Rattle.prefsql_values.specs.declared.truth.Truth.TheVariants as truth
use Rattle.prefsql_values.specs.declared.value.Value.{Value}
use Rattle.prefsql_values.specs.declared.value.Value.TheVariants.{Num, Str, Null}
use Rattle.prefsql_values.specs.declared.value.Cell.{Cell}
use Rattle.prefsql_values.specs.declared.value.Cell.TheVariants as cell
use Rattle.prefsql_values.specs.declared.value.CompareOp.{CompareOp}
use Rattle.prefsql_values.specs.declared.value.CompareOp.TheVariants.{Eq, Ne, Lt, Le, Gt, Ge}

-- the value whose text the cell borrows
abbrev pub value_of : Cell → Value
value_of (cell.Num n) = Num n
value_of (cell.Str s) = Str s.now
value_of cell.Null = Null

abbrev pub is_null : Value → Bool
is_null (Num n) = false
is_null (Str t) = false
is_null Null = true

-- whether the two values are equal, where NULL equals NULL
abbrev pub value_eq : Value → Value → Bool
value_eq (Num m) (Num n) = int_eq m n
value_eq (Num m) (Str t) = false
value_eq (Num m) Null = false
value_eq (Str s) (Num n) = false
value_eq (Str s) (Str t) = bytes_eq s t
value_eq (Str s) Null = false
value_eq Null (Num n) = false
value_eq Null (Str t) = false
value_eq Null Null = true

-- the order in which NULL is last: numbers by size, texts by their code points. A number is before
-- a text, so that any two values have an order
abbrev pub nulls_last : Value → Value → Ordering
nulls_last (Num a) (Num b) = int_cmp a b
nulls_last (Num a) (Str t) = Less
nulls_last (Num a) Null = Less
nulls_last (Str s) (Num b) = Greater
nulls_last (Str s) (Str t) = text_order s t
nulls_last (Str s) Null = Less
nulls_last Null (Num b) = Greater
nulls_last Null (Str t) = Greater
nulls_last Null Null = Equal

-- the order of two values, which a NULL has with none
abbrev pub value_order : Value → Value → Option Ordering
value_order a b = cond (is_null a || is_null b) None (Some (nulls_last a b))

-- whether the order is one that the operator speaks of
abbrev pub admits : CompareOp → Ordering → Bool
admits Eq Equal = true
admits Eq _ = false
admits Ne Equal = false
admits Ne _ = true
admits Lt Less = true
admits Lt _ = false
admits Le Greater = false
admits Le _ = true
admits Gt Greater = true
admits Gt _ = false
admits Ge Less = false
admits Ge _ = true

abbrev pub truth_of : Bool → Truth
truth_of true = truth.True
truth_of false = truth.False

abbrev pub decided : CompareOp → Option Ordering → Truth
decided op None = truth.Unknown
decided op (Some order) = truth_of (admits op order)

-- a comparison, which is Unknown exactly where one side is NULL
abbrev pub comparison : CompareOp → Value → Value → Truth
comparison op a b = decided op (value_order a b)

-- a >= low AND a <= high
abbrev pub between : Value → Value → Value → Truth
between a low high = both_true (comparison Ge a low) (comparison Le a high)

-- a = b OR a = c OR ..
abbrev pub one_of : Value → List Value → Truth
one_of a values = any_true (map (comparison Eq a) values)
