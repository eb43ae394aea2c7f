use Rattle.std.proofs.Common.{◌++◌, arith, refl, subst, sym}
use Rattle.std.specs.List.{flat_map}
use Rattle.sql_tree.specs.declared.tree.SqlQuery.{out-SqlQuery}
use Rattle.sql_tree.specs.Fits.{cond_tables, filter_tables, from_tables, item_tables, otherwise_tables, scalar_tables, term_tables, when_tables}
use Rattle.sql_tree.proofs.TableTests.{Tells, ends, goes_on, stops, told-And, told-Between, told-Case, told-Compare, told-Derived, told-Exists, told-IsNull, told-Not, told-OneOf, told-Or, told-Sum, told-Table, told-from, told-held, told-item, told-missed, told-query, told-term, told-when}
use Rattle.sql_tree.proofs.fits.+fits.Goals as goal
use Rattle.sql_tree.proofs.fits.+fits.Goals.{cond_fits-then-scalar_fits-2, cond_fits-else-scalar_fits-2, query_fits-then-items_fit, query_fits-else-items_fit}

pub conds_fit-returns-then-not-cond_fits : goal.conds_fit-returns-then-not-cond_fits
conds_fit-returns-then-not-cond_fits t c =
    stops c.args.tables.now cond_tables c.args.conds.now c.loop-cond.cond-index c.cond-item.result c.cond_fits.result c.loop-cond-test.true c.cond-item.is c.loop-cond.invariant c.cond_fits.ensures c.if-not-cond_fits.true

pub conds_fit-loop-cond-preserved : goal.conds_fit-loop-cond-preserved
conds_fit-loop-cond-preserved t c =
    goes_on c.args.tables.now cond_tables c.args.conds.now c.loop-cond.cond-index c.cond-item.result c.cond_fits.result c.loop-cond-test.true c.cond-item.is c.loop-cond.invariant c.cond_fits.ensures c.if-not-cond_fits.false

pub conds_fit-returns : goal.conds_fit-returns
conds_fit-returns t c =
    ends c.args.tables.now cond_tables c.args.conds.now c.loop-cond.cond-index (omega (arith, c.loop-cond-test.false)) c.loop-cond.invariant

pub scalars_fit-returns-then-not-scalar_fits : goal.scalars_fit-returns-then-not-scalar_fits
scalars_fit-returns-then-not-scalar_fits t c =
    stops c.args.tables.now scalar_tables c.args.scalars.now c.loop-scalar.scalar-index c.scalar-item.result c.scalar_fits.result c.loop-scalar-test.true c.scalar-item.is c.loop-scalar.invariant c.scalar_fits.ensures c.if-not-scalar_fits.true

pub scalars_fit-loop-scalar-preserved : goal.scalars_fit-loop-scalar-preserved
scalars_fit-loop-scalar-preserved t c =
    goes_on c.args.tables.now scalar_tables c.args.scalars.now c.loop-scalar.scalar-index c.scalar-item.result c.scalar_fits.result c.loop-scalar-test.true c.scalar-item.is c.loop-scalar.invariant c.scalar_fits.ensures c.if-not-scalar_fits.false

pub scalars_fit-returns : goal.scalars_fit-returns
scalars_fit-returns t c =
    ends c.args.tables.now scalar_tables c.args.scalars.now c.loop-scalar.scalar-index (omega (arith, c.loop-scalar-test.false)) c.loop-scalar.invariant

pub terms_fit-returns-then-not-scalar_fits : goal.terms_fit-returns-then-not-scalar_fits
terms_fit-returns-then-not-scalar_fits t c =
    stops c.args.tables.now term_tables c.args.terms.now c.loop-term.term-index c.term-item.result c.scalar_fits.result c.loop-term-test.true c.term-item.is c.loop-term.invariant (told-term c.args.tables.now c.term-item.result c.scalar_fits.result c.scalar_fits.ensures) c.if-not-scalar_fits.true

pub terms_fit-loop-term-preserved : goal.terms_fit-loop-term-preserved
terms_fit-loop-term-preserved t c =
    goes_on c.args.tables.now term_tables c.args.terms.now c.loop-term.term-index c.term-item.result c.scalar_fits.result c.loop-term-test.true c.term-item.is c.loop-term.invariant (told-term c.args.tables.now c.term-item.result c.scalar_fits.result c.scalar_fits.ensures) c.if-not-scalar_fits.false

pub terms_fit-returns : goal.terms_fit-returns
terms_fit-returns t c =
    ends c.args.tables.now term_tables c.args.terms.now c.loop-term.term-index (omega (arith, c.loop-term-test.false)) c.loop-term.invariant

pub whens_fit-returns-then-not-when_fits : goal.whens_fit-returns-then-not-when_fits
whens_fit-returns-then-not-when_fits t c =
    stops c.args.tables.now when_tables c.args.whens.now c.loop-when.when-index c.when-item.result c.when_fits.result c.loop-when-test.true c.when-item.is c.loop-when.invariant c.when_fits.ensures c.if-not-when_fits.true

pub whens_fit-loop-when-preserved : goal.whens_fit-loop-when-preserved
whens_fit-loop-when-preserved t c =
    goes_on c.args.tables.now when_tables c.args.whens.now c.loop-when.when-index c.when-item.result c.when_fits.result c.loop-when-test.true c.when-item.is c.loop-when.invariant c.when_fits.ensures c.if-not-when_fits.false

pub whens_fit-returns : goal.whens_fit-returns
whens_fit-returns t c =
    ends c.args.tables.now when_tables c.args.whens.now c.loop-when.when-index (omega (arith, c.loop-when-test.false)) c.loop-when.invariant

pub items_fit-returns-then-not-scalar_fits : goal.items_fit-returns-then-not-scalar_fits
items_fit-returns-then-not-scalar_fits t c =
    stops c.args.tables.now item_tables c.args.items.now c.loop-item.item-index c.item-item.result c.scalar_fits.result c.loop-item-test.true c.item-item.is c.loop-item.invariant (told-item c.args.tables.now c.item-item.result c.scalar_fits.result c.scalar_fits.ensures) c.if-not-scalar_fits.true

pub items_fit-loop-item-preserved : goal.items_fit-loop-item-preserved
items_fit-loop-item-preserved t c =
    goes_on c.args.tables.now item_tables c.args.items.now c.loop-item.item-index c.item-item.result c.scalar_fits.result c.loop-item-test.true c.item-item.is c.loop-item.invariant (told-item c.args.tables.now c.item-item.result c.scalar_fits.result c.scalar_fits.ensures) c.if-not-scalar_fits.false

pub items_fit-returns : goal.items_fit-returns
items_fit-returns t c =
    ends c.args.tables.now item_tables c.args.items.now c.loop-item.item-index (omega (arith, c.loop-item-test.false)) c.loop-item.invariant

pub from_fits-returns-then-not-source_fits : goal.from_fits-returns-then-not-source_fits
from_fits-returns-then-not-source_fits t c =
    stops c.args.tables.now from_tables c.args.from.now c.loop-item.item-index c.item-item.result c.source_fits.result c.loop-item-test.true c.item-item.is c.loop-item.invariant (told-from c.args.tables.now c.item-item.result c.source_fits.result c.source_fits.ensures) c.if-not-source_fits.true

pub from_fits-loop-item-preserved : goal.from_fits-loop-item-preserved
from_fits-loop-item-preserved t c =
    goes_on c.args.tables.now from_tables c.args.from.now c.loop-item.item-index c.item-item.result c.source_fits.result c.loop-item-test.true c.item-item.is c.loop-item.invariant (told-from c.args.tables.now c.item-item.result c.source_fits.result c.source_fits.ensures) c.if-not-source_fits.false

pub from_fits-returns : goal.from_fits-returns
from_fits-returns t c =
    ends c.args.tables.now from_tables c.args.from.now c.loop-item.item-index (omega (arith, c.loop-item-test.false)) c.loop-item.invariant

pub cond_fits-returns-in-And : goal.cond_fits-returns-in-And
cond_fits-returns-in-And t c =
    told-And c.args.tables.now c.args.cond.now c.in-And.parts c.as_slice.result.now c.conds_fit.result c.in-And.is c.conds_fit.ensures c.as_slice.ensures

pub cond_fits-returns-in-Or : goal.cond_fits-returns-in-Or
cond_fits-returns-in-Or t c =
    told-Or c.args.tables.now c.args.cond.now c.in-Or.parts c.as_slice-in-Or.result.now c.conds_fit-in-Or.result c.in-Or.is c.conds_fit-in-Or.ensures c.as_slice-in-Or.ensures

pub cond_fits-returns-in-Not : goal.cond_fits-returns-in-Not
cond_fits-returns-in-Not t c =
    told-Not c.args.tables.now c.args.cond.now c.in-Not.part c.get.result.now c.cond_fits.result c.in-Not.is c.cond_fits.ensures c.get.ensures

pub cond_fits-returns-then-scalar_fits : goal.cond_fits-returns-then-scalar_fits
cond_fits-returns-then-scalar_fits t c =
    told-Compare c.args.tables.now c.args.cond.now c.in-Compare.field-0 c.in-Compare.left c.in-Compare.right c.scalar_fits-then-scalar_fits.result c.in-Compare.is
    (told-held c.args.tables.now (scalar_tables c.in-Compare.left) (scalar_tables c.in-Compare.right) c.scalar_fits.result c.scalar_fits-then-scalar_fits.result c.scalar_fits.ensures c.if-scalar_fits.true c.scalar_fits-then-scalar_fits.ensures)

pub cond_fits-returns-else-scalar_fits : goal.cond_fits-returns-else-scalar_fits
cond_fits-returns-else-scalar_fits t c =
    told-Compare c.args.tables.now c.args.cond.now c.in-Compare.field-0 c.in-Compare.left c.in-Compare.right c.scalar_fits.result c.in-Compare.is
    (told-missed c.args.tables.now (scalar_tables c.in-Compare.left) (scalar_tables c.in-Compare.right) c.scalar_fits.result c.scalar_fits.ensures c.if-scalar_fits.false)

pub cond_fits-returns-then-scalar_fits-3 : goal.cond_fits-returns-then-scalar_fits-3
cond_fits-returns-then-scalar_fits-3 t c =
    let front : Tells c.args.tables.now c.if-scalar_fits-2.value (scalar_tables c.in-Between.scalar ++ scalar_tables c.in-Between.low)
    = elim c.if-scalar_fits-2.branch [
      | cond_fits-then-scalar_fits-2 w ↦ subst (λ b. Tells c.args.tables.now b (scalar_tables c.in-Between.scalar ++ scalar_tables c.in-Between.low)) (sym w.value-is) (told-held c.args.tables.now (scalar_tables c.in-Between.scalar) (scalar_tables c.in-Between.low) c.scalar_fits-in-Between.result w.scalar_fits-then-scalar_fits-2.result c.scalar_fits-in-Between.ensures w.if-scalar_fits-2.true w.scalar_fits-then-scalar_fits-2.ensures)
      | cond_fits-else-scalar_fits-2 w ↦ subst (λ b. Tells c.args.tables.now b (scalar_tables c.in-Between.scalar ++ scalar_tables c.in-Between.low)) (sym w.value-is) (told-missed c.args.tables.now (scalar_tables c.in-Between.scalar) (scalar_tables c.in-Between.low) c.scalar_fits-in-Between.result c.scalar_fits-in-Between.ensures w.if-scalar_fits-2.false)
    ] in
    told-Between c.args.tables.now c.args.cond.now c.in-Between.field-0 c.in-Between.scalar c.in-Between.low c.in-Between.high c.scalar_fits-then-scalar_fits-3.result c.in-Between.is
    (told-held c.args.tables.now (scalar_tables c.in-Between.scalar ++ scalar_tables c.in-Between.low) (scalar_tables c.in-Between.high) c.if-scalar_fits-2.value c.scalar_fits-then-scalar_fits-3.result front c.if-scalar_fits-3.true c.scalar_fits-then-scalar_fits-3.ensures)

pub cond_fits-returns-else-scalar_fits-3 : goal.cond_fits-returns-else-scalar_fits-3
cond_fits-returns-else-scalar_fits-3 t c =
    let front : Tells c.args.tables.now c.if-scalar_fits-2.value (scalar_tables c.in-Between.scalar ++ scalar_tables c.in-Between.low)
    = elim c.if-scalar_fits-2.branch [
      | cond_fits-then-scalar_fits-2 w ↦ subst (λ b. Tells c.args.tables.now b (scalar_tables c.in-Between.scalar ++ scalar_tables c.in-Between.low)) (sym w.value-is) (told-held c.args.tables.now (scalar_tables c.in-Between.scalar) (scalar_tables c.in-Between.low) c.scalar_fits-in-Between.result w.scalar_fits-then-scalar_fits-2.result c.scalar_fits-in-Between.ensures w.if-scalar_fits-2.true w.scalar_fits-then-scalar_fits-2.ensures)
      | cond_fits-else-scalar_fits-2 w ↦ subst (λ b. Tells c.args.tables.now b (scalar_tables c.in-Between.scalar ++ scalar_tables c.in-Between.low)) (sym w.value-is) (told-missed c.args.tables.now (scalar_tables c.in-Between.scalar) (scalar_tables c.in-Between.low) c.scalar_fits-in-Between.result c.scalar_fits-in-Between.ensures w.if-scalar_fits-2.false)
    ] in
    told-Between c.args.tables.now c.args.cond.now c.in-Between.field-0 c.in-Between.scalar c.in-Between.low c.in-Between.high c.if-scalar_fits-2.value c.in-Between.is
    (told-missed c.args.tables.now (scalar_tables c.in-Between.scalar ++ scalar_tables c.in-Between.low) (scalar_tables c.in-Between.high) c.if-scalar_fits-2.value front c.if-scalar_fits-3.false)

pub cond_fits-returns-then-scalar_fits-4 : goal.cond_fits-returns-then-scalar_fits-4
cond_fits-returns-then-scalar_fits-4 t c =
    told-OneOf c.args.tables.now c.args.cond.now c.in-OneOf.field-0 c.in-OneOf.scalar c.in-OneOf.list c.as_slice-then-scalar_fits-4.result.now c.scalars_fit.result c.in-OneOf.is
    (told-held c.args.tables.now (scalar_tables c.in-OneOf.scalar) (flat_map scalar_tables c.as_slice-then-scalar_fits-4.result.now) c.scalar_fits-in-OneOf.result c.scalars_fit.result c.scalar_fits-in-OneOf.ensures c.if-scalar_fits-4.true c.scalars_fit.ensures)
    c.as_slice-then-scalar_fits-4.ensures

pub cond_fits-returns-else-scalar_fits-4 : goal.cond_fits-returns-else-scalar_fits-4
cond_fits-returns-else-scalar_fits-4 t c =
    told-OneOf c.args.tables.now c.args.cond.now c.in-OneOf.field-0 c.in-OneOf.scalar c.in-OneOf.list c.in-OneOf.list c.scalar_fits-in-OneOf.result c.in-OneOf.is
    (told-missed c.args.tables.now (scalar_tables c.in-OneOf.scalar) (flat_map scalar_tables c.in-OneOf.list) c.scalar_fits-in-OneOf.result c.scalar_fits-in-OneOf.ensures c.if-scalar_fits-4.false)
    refl

pub cond_fits-returns-in-IsNull : goal.cond_fits-returns-in-IsNull
cond_fits-returns-in-IsNull t c =
    told-IsNull c.args.tables.now c.args.cond.now c.in-IsNull.field-0 c.in-IsNull.scalar c.scalar_fits-in-IsNull.result c.in-IsNull.is c.scalar_fits-in-IsNull.ensures

pub cond_fits-returns-in-Exists : goal.cond_fits-returns-in-Exists
cond_fits-returns-in-Exists t c =
    told-Exists c.args.tables.now c.args.cond.now c.in-Exists.query c.get-in-Exists.result.now c.query_fits.result c.in-Exists.is c.query_fits.ensures c.get-in-Exists.ensures

pub scalar_fits-returns-in-Sum : goal.scalar_fits-returns-in-Sum
scalar_fits-returns-in-Sum t c =
    told-Sum c.args.tables.now c.args.scalar.now c.in-Sum.terms c.as_slice.result.now c.terms_fit.result c.in-Sum.is c.terms_fit.ensures c.as_slice.ensures

pub scalar_fits-returns-then-whens_fit : goal.scalar_fits-returns-then-whens_fit
scalar_fits-returns-then-whens_fit t c =
    told-Case c.args.tables.now c.args.scalar.now c.in-Case.whens c.in-Case.last c.as_slice-in-Case.result.now c.otherwise_fits.result c.in-Case.is
    (told-held c.args.tables.now (flat_map when_tables c.as_slice-in-Case.result.now) (otherwise_tables c.in-Case.last) c.whens_fit.result c.otherwise_fits.result c.whens_fit.ensures c.if-whens_fit.true c.otherwise_fits.ensures)
    c.as_slice-in-Case.ensures

pub scalar_fits-returns-else-whens_fit : goal.scalar_fits-returns-else-whens_fit
scalar_fits-returns-else-whens_fit t c =
    told-Case c.args.tables.now c.args.scalar.now c.in-Case.whens c.in-Case.last c.as_slice-in-Case.result.now c.whens_fit.result c.in-Case.is
    (told-missed c.args.tables.now (flat_map when_tables c.as_slice-in-Case.result.now) (otherwise_tables c.in-Case.last) c.whens_fit.result c.whens_fit.ensures c.if-whens_fit.false)
    c.as_slice-in-Case.ensures

pub source_fits-returns-in-Table : goal.source_fits-returns-in-Table
source_fits-returns-in-Table t c =
    told-Table c.args.tables.now c.args.source.now c.in-Table.table c.table_fits.result c.in-Table.is c.table_fits.ensures

pub source_fits-returns-in-Derived : goal.source_fits-returns-in-Derived
source_fits-returns-in-Derived t c =
    told-Derived c.args.tables.now c.args.source.now c.in-Derived.query c.get.result.now c.query_fits.result c.in-Derived.is c.query_fits.ensures c.get.ensures

pub when_fits-returns-then-cond_fits : goal.when_fits-returns-then-cond_fits
when_fits-returns-then-cond_fits t c =
    told-when c.args.tables.now c.args.when.now c.scalar_fits.result
    (told-held c.args.tables.now (cond_tables c.args.when.now.cond) (scalar_tables c.args.when.now.value) c.cond_fits.result c.scalar_fits.result c.cond_fits.ensures c.if-cond_fits.true c.scalar_fits.ensures)

pub when_fits-returns-else-cond_fits : goal.when_fits-returns-else-cond_fits
when_fits-returns-else-cond_fits t c =
    told-when c.args.tables.now c.args.when.now c.cond_fits.result
    (told-missed c.args.tables.now (cond_tables c.args.when.now.cond) (scalar_tables c.args.when.now.value) c.cond_fits.result c.cond_fits.ensures c.if-cond_fits.false)

pub query_fits-returns-then-from_fits : goal.query_fits-returns-then-from_fits
query_fits-returns-then-from_fits t c =
    let front : Tells c.args.tables.now c.if-items_fit.value (flat_map item_tables c.as_slice.result.now ++ flat_map from_tables (out-SqlQuery c.args.query.now).from)
    = elim c.if-items_fit.branch [
      | query_fits-then-items_fit w ↦ subst (λ b. Tells c.args.tables.now b (flat_map item_tables c.as_slice.result.now ++ flat_map from_tables (out-SqlQuery c.args.query.now).from)) (sym w.value-is) (told-held c.args.tables.now (flat_map item_tables c.as_slice.result.now) (flat_map from_tables (out-SqlQuery c.args.query.now).from) c.items_fit.result w.from_fits.result c.items_fit.ensures w.if-items_fit.true (subst (λ from. Tells c.args.tables.now w.from_fits.result (flat_map from_tables from)) w.as_slice-then-items_fit.ensures w.from_fits.ensures))
      | query_fits-else-items_fit w ↦ subst (λ b. Tells c.args.tables.now b (flat_map item_tables c.as_slice.result.now ++ flat_map from_tables (out-SqlQuery c.args.query.now).from)) (sym w.value-is) (told-missed c.args.tables.now (flat_map item_tables c.as_slice.result.now) (flat_map from_tables (out-SqlQuery c.args.query.now).from) c.items_fit.result c.items_fit.ensures w.if-items_fit.false)
    ] in
    told-query c.args.tables.now c.args.query.now c.as_slice.result.now (out-SqlQuery c.args.query.now).from c.filter_fits.result c.as_slice.ensures refl
    (told-held c.args.tables.now (flat_map item_tables c.as_slice.result.now ++ flat_map from_tables (out-SqlQuery c.args.query.now).from) (filter_tables (out-SqlQuery c.args.query.now).filter) c.if-items_fit.value c.filter_fits.result front c.if-from_fits.true c.filter_fits.ensures)

pub query_fits-returns-else-from_fits : goal.query_fits-returns-else-from_fits
query_fits-returns-else-from_fits t c =
    let front : Tells c.args.tables.now c.if-items_fit.value (flat_map item_tables c.as_slice.result.now ++ flat_map from_tables (out-SqlQuery c.args.query.now).from)
    = elim c.if-items_fit.branch [
      | query_fits-then-items_fit w ↦ subst (λ b. Tells c.args.tables.now b (flat_map item_tables c.as_slice.result.now ++ flat_map from_tables (out-SqlQuery c.args.query.now).from)) (sym w.value-is) (told-held c.args.tables.now (flat_map item_tables c.as_slice.result.now) (flat_map from_tables (out-SqlQuery c.args.query.now).from) c.items_fit.result w.from_fits.result c.items_fit.ensures w.if-items_fit.true (subst (λ from. Tells c.args.tables.now w.from_fits.result (flat_map from_tables from)) w.as_slice-then-items_fit.ensures w.from_fits.ensures))
      | query_fits-else-items_fit w ↦ subst (λ b. Tells c.args.tables.now b (flat_map item_tables c.as_slice.result.now ++ flat_map from_tables (out-SqlQuery c.args.query.now).from)) (sym w.value-is) (told-missed c.args.tables.now (flat_map item_tables c.as_slice.result.now) (flat_map from_tables (out-SqlQuery c.args.query.now).from) c.items_fit.result c.items_fit.ensures w.if-items_fit.false)
    ] in
    told-query c.args.tables.now c.args.query.now c.as_slice.result.now (out-SqlQuery c.args.query.now).from c.if-items_fit.value c.as_slice.ensures refl
    (told-missed c.args.tables.now (flat_map item_tables c.as_slice.result.now ++ flat_map from_tables (out-SqlQuery c.args.query.now).from) (filter_tables (out-SqlQuery c.args.query.now).filter) c.if-items_fit.value front c.if-from_fits.false)
