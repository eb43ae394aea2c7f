use Rattle.std.proofs.Common.{◌≡◌, get_or, take, true, arith, rules}
use Rattle.std.specs.Char.{is_ascii_digit}
use Rattle.std.specs.Str.Parse.{digits_value}
use Rattle.std.proofs.lemmas.List.{take_all}
use Rattle.table_csv.proofs.FieldLemmas.{all_digits_more, digits_value_more, digits_value_room, digits_value_small}
use Rattle.table_csv.proofs.field.value_of.Goals as goal

pub overflow_mul-value : goal.overflow_mul-value
overflow_mul-value c =
    let room = digits_value_room c.args.bytes.now c.loop-byte.byte-index c.loop-byte.invariant.1 c.requires.few c.loop-byte-test.true in
    omega (arith, room, c.loop-byte.invariant.0)

pub overflow_add-value : goal.overflow_add-value
overflow_add-value c =
    let room = digits_value_room c.args.bytes.now c.loop-byte.byte-index c.loop-byte.invariant.1 c.requires.few c.loop-byte-test.true in
    omega (arith, room, c.loop-byte.invariant.0, c.from.ensures, c.type_inv.bytes c.loop-byte.byte-index)

pub loop-byte-preserved : goal.loop-byte-preserved
loop-byte-preserved c =
    let digit : is_ascii_digit (get_or c.args.bytes.now c.loop-byte.byte-index 0) ≡ true = search rules in
    let more = digits_value_more c.args.bytes.now c.loop-byte.byte-index digit c.loop-byte-test.true in
    let value : c.loop-byte.value ≡ digits_value 10 (take c.loop-byte.byte-index c.args.bytes.now) = c.loop-byte.invariant.0 in (
      omega (arith, more, value, c.from.ensures),
      all_digits_more c.args.bytes.now c.loop-byte.byte-index c.loop-byte.invariant.1 digit c.loop-byte-test.true,
    )

pub returns-clause-small : goal.returns-clause-small
returns-clause-small c =
    let value : c.loop-byte.value ≡ digits_value 10 (take c.loop-byte.byte-index c.args.bytes.now) = c.loop-byte.invariant.0 in
    let whole = take_all c.loop-byte.byte-index c.args.bytes.now c.loop-byte-test.false in
    rw (value, whole) (digits_value_small c.args.bytes.now (rw whole at c.loop-byte.invariant.1) c.requires.few)
