use Rattle.std.proofs.Common.{◌∙◌, rules, sym, subst, All}
use Rattle.sql_tree.specs.declared.tree.SqlCond as sql
use Rattle.conditions.specs.declared.condition.Cond.TheViews.{the_lemmas}
use Rattle.conditions.specs.declared.condition.Cond.{Cond}
use Rattle.conditions.specs.Meaning.{scalars_of}
use Rattle.sql_rewriter.specs.Shown.{HasLiteral, column_shown, quality_shown}
use Rattle.sql_rewriter.proofs.CondShown.{literals-And, literals-Or, literals-Not, literals-Compare_left, literals-Compare_right, literals-Between_scalar, literals-Between_low, literals-Between_high, literals-OneOf_scalar, literals-OneOf_list, literals-IsNull, shown-Compare, shown-Between, shown-OneOf, shown-IsNull}
use Rattle.written_query_meaning.proofs.Sources.{split_scalars}
use Rattle.sql_rewriter.proofs.shown.+put.Goals as goal

pub put_cond-put_conds-requires : goal.put_cond-put_conds-requires
put_cond-put_conds-requires t c = (
  search (rules, the_lemmas),
  (c.requires.small, rw c.as_slice.ensures (literals-And c.args.cond.now c.in-And.parts c.in-And.is c.requires.literal)),
)

pub put_cond-put_conds-requires-in-Or : goal.put_cond-put_conds-requires-in-Or
put_cond-put_conds-requires-in-Or t c = (
  search (rules, the_lemmas),
  (c.requires.small, rw c.as_slice-in-Or.ensures (literals-Or c.args.cond.now c.in-Or.parts c.in-Or.is c.requires.literal)),
)

pub put_cond-put_cond-requires : goal.put_cond-put_cond-requires
put_cond-put_cond-requires t c = (
  search (rules, the_lemmas),
  (c.requires.small, rw c.get.ensures (literals-Not c.args.cond.now c.in-Not.part c.in-Not.is c.requires.literal)),
)

pub put_conds-put_cond-requires : goal.put_conds-put_cond-requires
put_conds-put_cond-requires t c = (
  search (rules, the_lemmas),
  (c.requires.small, subst (λ (cond : Cond). All HasLiteral (scalars_of cond)) (sym c.cond-item.is) (split_scalars HasLiteral c.args.conds.now c.requires.literal c.loop-cond.cond-index c.cond-item.result c.loop-cond-test.true)),
)

pub put_cond-put_scalar-requires-clause-literal : goal.put_cond-put_scalar-requires-clause-literal
put_cond-put_scalar-requires-clause-literal t c = literals-Compare_left c.args.cond.now c.in-Compare.op c.in-Compare.a c.in-Compare.b c.in-Compare.is c.requires.literal

pub put_cond-put_scalar-requires-in-Compare-clause-literal : goal.put_cond-put_scalar-requires-in-Compare-clause-literal
put_cond-put_scalar-requires-in-Compare-clause-literal t c = literals-Compare_right c.args.cond.now c.in-Compare.op c.in-Compare.a c.in-Compare.b c.in-Compare.is c.requires.literal

pub put_cond-put_scalar-requires-in-Between-clause-literal : goal.put_cond-put_scalar-requires-in-Between-clause-literal
put_cond-put_scalar-requires-in-Between-clause-literal t c = literals-Between_scalar c.args.cond.now c.in-Between.negate c.in-Between.a c.in-Between.low c.in-Between.high c.in-Between.is c.requires.literal

pub put_cond-put_scalar-requires-in-Between-2-clause-literal : goal.put_cond-put_scalar-requires-in-Between-2-clause-literal
put_cond-put_scalar-requires-in-Between-2-clause-literal t c = literals-Between_low c.args.cond.now c.in-Between.negate c.in-Between.a c.in-Between.low c.in-Between.high c.in-Between.is c.requires.literal

pub put_cond-put_scalar-requires-in-Between-3-clause-literal : goal.put_cond-put_scalar-requires-in-Between-3-clause-literal
put_cond-put_scalar-requires-in-Between-3-clause-literal t c = literals-Between_high c.args.cond.now c.in-Between.negate c.in-Between.a c.in-Between.low c.in-Between.high c.in-Between.is c.requires.literal

pub put_cond-put_scalar-requires-in-OneOf-clause-literal : goal.put_cond-put_scalar-requires-in-OneOf-clause-literal
put_cond-put_scalar-requires-in-OneOf-clause-literal t c = literals-OneOf_scalar c.args.cond.now c.in-OneOf.negate c.in-OneOf.a c.in-OneOf.list c.in-OneOf.is c.requires.literal

pub put_cond-put_scalars-requires-clause-literal : goal.put_cond-put_scalars-requires-clause-literal
put_cond-put_scalars-requires-clause-literal t c = rw c.as_slice-in-OneOf.ensures (literals-OneOf_list c.args.cond.now c.in-OneOf.negate c.in-OneOf.a c.in-OneOf.list c.in-OneOf.is c.requires.literal)

pub put_cond-put_scalar-requires-in-IsNull-clause-literal : goal.put_cond-put_scalar-requires-in-IsNull-clause-literal
put_cond-put_scalar-requires-in-IsNull-clause-literal t c = literals-IsNull c.args.cond.now c.in-IsNull.negate c.in-IsNull.a c.in-IsNull.is c.requires.literal

pub put_cond-returns-in_ok-b-in-Compare : goal.put_cond-returns-in_ok-b-in-Compare
put_cond-returns-in_ok-b-in-Compare t c =
    (λ j. sql.Compare c.in-Compare.op (c.in_ok-a-in-Compare.ensures j) (c.in_ok-b-in-Compare.ensures j))
    ∙ shown-Compare (column_shown c.args.shown.now) (quality_shown c.args.shown.now) c.args.cond.now c.in-Compare.op c.in-Compare.a c.in-Compare.b c.in-Compare.is

pub put_cond-returns-in_ok-high-in-Between : goal.put_cond-returns-in_ok-high-in-Between
put_cond-returns-in_ok-high-in-Between t c =
    (λ j. sql.Between c.in-Between.negate (c.in_ok-a-in-Between.ensures j) (c.in_ok-low-in-Between.ensures j) (c.in_ok-high-in-Between.ensures j))
    ∙ shown-Between (column_shown c.args.shown.now) (quality_shown c.args.shown.now) c.args.cond.now c.in-Between.negate c.in-Between.a c.in-Between.low c.in-Between.high c.in-Between.is

pub put_cond-returns-in_ok-list-in-OneOf : goal.put_cond-returns-in_ok-list-in-OneOf
put_cond-returns-in_ok-list-in-OneOf t c =
    let list = rw c.as_slice-in-OneOf.ensures at c.in_ok-list-in-OneOf.ensures in
    (λ j. sql.OneOf c.in-OneOf.negate (c.in_ok-a-in-OneOf.ensures j) (list j))
    ∙ shown-OneOf (column_shown c.args.shown.now) (quality_shown c.args.shown.now) c.args.cond.now c.in-OneOf.negate c.in-OneOf.a c.in-OneOf.list c.in-OneOf.is

pub put_cond-returns-in_ok-put_scalar-in-IsNull : goal.put_cond-returns-in_ok-put_scalar-in-IsNull
put_cond-returns-in_ok-put_scalar-in-IsNull t c =
    (λ j. sql.IsNull c.in-IsNull.negate (c.in_ok-put_scalar-in-IsNull.ensures j))
    ∙ shown-IsNull (column_shown c.args.shown.now) (quality_shown c.args.shown.now) c.args.cond.now c.in-IsNull.negate c.in-IsNull.a c.in-IsNull.is
