use Rattle.sql_exec.specs.Wrapping.{term_value, truth_in, value_in, when_value}
use Rattle.sql_exec.proofs.Reaches.{all_through, no_else, no_query, one_more, speaks_And, speaks_Between, speaks_Case, speaks_Chars, speaks_Column, speaks_Compare, speaks_Exists, speaks_IsNull, speaks_Not, speaks_Number, speaks_OneOf, speaks_Or, speaks_Sum, speaks_else, speaks_query, speaks_term, speaks_when}
use Rattle.sql_exec.proofs.reach.+reach.Goals as goal

pub cond_reach-returns-in-And : goal.cond_reach-returns-in-And
cond_reach-returns-in-And t c = λ tables. speaks_And tables c.args.depth c.args.cond.now c.in-And.parts c.as_slice.result.now c.conds_reach.result c.in-And.is c.as_slice.ensures (c.conds_reach.ensures tables)

pub cond_reach-returns-in-Or : goal.cond_reach-returns-in-Or
cond_reach-returns-in-Or t c = λ tables. speaks_Or tables c.args.depth c.args.cond.now c.in-Or.parts c.as_slice-in-Or.result.now c.conds_reach-in-Or.result c.in-Or.is c.as_slice-in-Or.ensures (c.conds_reach-in-Or.ensures tables)

pub cond_reach-returns-in-Not : goal.cond_reach-returns-in-Not
cond_reach-returns-in-Not t c = λ tables. speaks_Not tables c.args.depth c.args.cond.now c.in-Not.part c.get.result.now c.cond_reach.result c.in-Not.is c.get.ensures (c.cond_reach.ensures tables)

pub cond_reach-returns-in-Compare : goal.cond_reach-returns-in-Compare
cond_reach-returns-in-Compare t c = λ tables.
    speaks_Compare tables c.args.depth c.args.cond.now c.in-Compare.field-0 c.in-Compare.a c.in-Compare.b c.scalar_reach.result c.scalar_reach-in-Compare.result c.greater.result c.in-Compare.is
    c.greater.ensures.first c.greater.ensures.second (c.scalar_reach.ensures tables) (c.scalar_reach-in-Compare.ensures tables)

pub cond_reach-returns-in-Between : goal.cond_reach-returns-in-Between
cond_reach-returns-in-Between t c = λ tables.
    speaks_Between tables c.args.depth c.args.cond.now c.in-Between.field-0 c.in-Between.a c.in-Between.low c.in-Between.high
    c.scalar_reach-in-Between-3.result c.scalar_reach-in-Between.result c.scalar_reach-in-Between-2.result c.greater-bounds.result c.greater-in-Between.result c.in-Between.is
    c.greater-bounds.ensures.first c.greater-bounds.ensures.second c.greater-in-Between.ensures.first c.greater-in-Between.ensures.second
    (c.scalar_reach-in-Between-3.ensures tables) (c.scalar_reach-in-Between.ensures tables) (c.scalar_reach-in-Between-2.ensures tables)

pub cond_reach-returns-in-OneOf : goal.cond_reach-returns-in-OneOf
cond_reach-returns-in-OneOf t c = λ tables.
    speaks_OneOf tables c.args.depth c.args.cond.now c.in-OneOf.field-0 c.in-OneOf.a c.in-OneOf.list c.as_slice-in-OneOf.result.now c.scalar_reach-in-OneOf.result c.scalars_reach.result c.greater-in-OneOf.result
    c.in-OneOf.is c.as_slice-in-OneOf.ensures c.greater-in-OneOf.ensures.first c.greater-in-OneOf.ensures.second (c.scalar_reach-in-OneOf.ensures tables) (c.scalars_reach.ensures tables)

pub cond_reach-returns-in-IsNull : goal.cond_reach-returns-in-IsNull
cond_reach-returns-in-IsNull t c = λ tables. speaks_IsNull tables c.args.depth c.args.cond.now c.in-IsNull.field-0 c.in-IsNull.a c.scalar_reach-in-IsNull.result c.in-IsNull.is (c.scalar_reach-in-IsNull.ensures tables)

pub cond_reach-returns-in-Exists : goal.cond_reach-returns-in-Exists
cond_reach-returns-in-Exists t c = λ tables. speaks_Exists tables c.args.depth c.args.cond.now c.in-Exists.query c.get-in-Exists.result.now c.query_reach.result c.in-Exists.is c.get-in-Exists.ensures (c.query_reach.ensures tables)

pub conds_reach-loop-cond-preserved : goal.conds_reach-loop-cond-preserved
conds_reach-loop-cond-preserved t c = λ tables.
    one_more (truth_in tables) c.args.depth c.loop-cond.reach c.greater-reach.result c.cond_reach.result c.args.conds.now c.loop-cond.cond-index c.cond-item.result c.cond-item.result
    c.loop-cond-test.true c.cond-item.is c.greater-reach.ensures.first c.greater-reach.ensures.second (c.loop-cond.invariant tables) (c.cond_reach.ensures tables)

pub conds_reach-returns : goal.conds_reach-returns
conds_reach-returns t c = λ tables. all_through (truth_in tables) c.args.depth c.loop-cond.reach c.args.conds.now c.loop-cond.cond-index c.loop-cond-test.false (c.loop-cond.invariant tables)

pub scalars_reach-loop-scalar-preserved : goal.scalars_reach-loop-scalar-preserved
scalars_reach-loop-scalar-preserved t c = λ tables.
    one_more (value_in tables) c.args.depth c.loop-scalar.reach c.greater-reach.result c.scalar_reach.result c.args.scalars.now c.loop-scalar.scalar-index c.scalar-item.result c.scalar-item.result
    c.loop-scalar-test.true c.scalar-item.is c.greater-reach.ensures.first c.greater-reach.ensures.second (c.loop-scalar.invariant tables) (c.scalar_reach.ensures tables)

pub scalars_reach-returns : goal.scalars_reach-returns
scalars_reach-returns t c = λ tables. all_through (value_in tables) c.args.depth c.loop-scalar.reach c.args.scalars.now c.loop-scalar.scalar-index c.loop-scalar-test.false (c.loop-scalar.invariant tables)

pub terms_reach-loop-term-preserved : goal.terms_reach-loop-term-preserved
terms_reach-loop-term-preserved t c = λ tables.
    one_more (term_value tables) c.args.depth c.loop-term.reach c.greater-reach.result c.term_reach.result c.args.terms.now c.loop-term.term-index c.term-item.result c.term-item.result
    c.loop-term-test.true c.term-item.is c.greater-reach.ensures.first c.greater-reach.ensures.second (c.loop-term.invariant tables) (c.term_reach.ensures tables)

pub terms_reach-returns : goal.terms_reach-returns
terms_reach-returns t c = λ tables. all_through (term_value tables) c.args.depth c.loop-term.reach c.args.terms.now c.loop-term.term-index c.loop-term-test.false (c.loop-term.invariant tables)

pub whens_reach-loop-when-preserved : goal.whens_reach-loop-when-preserved
whens_reach-loop-when-preserved t c = λ tables.
    one_more (when_value tables) c.args.depth c.loop-when.reach c.greater-reach.result c.when_reach.result c.args.whens.now c.loop-when.when-index c.when-item.result c.when-item.result
    c.loop-when-test.true c.when-item.is c.greater-reach.ensures.first c.greater-reach.ensures.second (c.loop-when.invariant tables) (c.when_reach.ensures tables)

pub whens_reach-returns : goal.whens_reach-returns
whens_reach-returns t c = λ tables. all_through (when_value tables) c.args.depth c.loop-when.reach c.args.whens.now c.loop-when.when-index c.loop-when-test.false (c.loop-when.invariant tables)

pub query_reach-returns-in-Some : goal.query_reach-returns-in-Some
query_reach-returns-in-Some t c = λ tables.
    speaks_query tables c.args.depth c.args.query.now c.in-Some.cond c.saturating_add.result c.cond_reach.result c.ranges.depth.fits c.saturating_add.ensures c.in-Some.is (c.cond_reach.ensures tables)

pub query_reach-returns-in-None : goal.query_reach-returns-in-None
query_reach-returns-in-None t c = λ tables. no_query tables c.args.depth c.args.query.now 0 c.in-None.is

pub scalar_reach-returns-in-Column : goal.scalar_reach-returns-in-Column
scalar_reach-returns-in-Column t c = λ tables. speaks_Column tables c.args.depth c.args.scalar.now c.in-Column.place c.place_reach.result c.in-Column.is c.place_reach.ensures

pub scalar_reach-returns-in-Number : goal.scalar_reach-returns-in-Number
scalar_reach-returns-in-Number t c = λ tables. speaks_Number tables c.args.depth c.args.scalar.now c.in-Number.field-0 0 c.in-Number.is

pub scalar_reach-returns-in-Chars : goal.scalar_reach-returns-in-Chars
scalar_reach-returns-in-Chars t c = λ tables. speaks_Chars tables c.args.depth c.args.scalar.now c.in-Chars.field-0 0 c.in-Chars.is

pub scalar_reach-returns-in-Sum : goal.scalar_reach-returns-in-Sum
scalar_reach-returns-in-Sum t c = λ tables. speaks_Sum tables c.args.depth c.args.scalar.now c.in-Sum.terms c.as_slice.result.now c.terms_reach.result c.in-Sum.is c.as_slice.ensures (c.terms_reach.ensures tables)

pub scalar_reach-returns-in-Case : goal.scalar_reach-returns-in-Case
scalar_reach-returns-in-Case t c = λ tables.
    speaks_Case tables c.args.depth c.args.scalar.now c.in-Case.whens c.as_slice-in-Case.result.now c.in-Case.last c.whens_reach.result c.else_reach.result c.greater.result
    c.in-Case.is c.as_slice-in-Case.ensures c.greater.ensures.first c.greater.ensures.second (c.whens_reach.ensures tables) (c.else_reach.ensures tables)

pub else_reach-returns-in-Some : goal.else_reach-returns-in-Some
else_reach-returns-in-Some t c = λ tables. speaks_else tables c.args.depth c.args.last.now c.in-Some.scalar c.get.result.now c.scalar_reach.result c.in-Some.is c.get.ensures (c.scalar_reach.ensures tables)

pub else_reach-returns-in-None : goal.else_reach-returns-in-None
else_reach-returns-in-None t c = λ tables. no_else tables c.args.depth c.args.last.now 0 c.in-None.is

pub term_reach-returns : goal.term_reach-returns
term_reach-returns t c = λ tables. speaks_term tables c.args.depth c.args.term.now c.scalar_reach.result (c.scalar_reach.ensures tables)

pub when_reach-returns : goal.when_reach-returns
when_reach-returns t c = λ tables.
    speaks_when tables c.args.depth c.args.when.now c.cond_reach.result c.scalar_reach.result c.greater.result c.greater.ensures.first c.greater.ensures.second (c.cond_reach.ensures tables) (c.scalar_reach.ensures tables)
