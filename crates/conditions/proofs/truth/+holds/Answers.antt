use Rattle.std.proofs.Common.{rules, sym, subst}
use Rattle.conditions.specs.declared.condition.Cond.TheViews.{the_lemmas}
use Rattle.conditions.specs.Fits.{CondFits}
use Rattle.conditions.proofs.CondReads.{fits-And, fits-Or, fits-Not, fits-Compare_left, fits-Compare_right, fits-Between_scalar, fits-Between_low, fits-Between_high, fits-OneOf_scalar, fits-OneOf_list, fits-IsNull, fits-Top, truth-Top}
use Rattle.prefsql_tables.specs.Sight.{sight}
use Rattle.conditions.proofs.truth.+holds.Goals as goal

pub all_hold-holds-requires : goal.all_hold-holds-requires
all_hold-holds-requires t c = (
  search (rules, the_lemmas),
  subst (CondFits c.args.tables.now c.args.from.now c.args.first c.args.combo.now.rows) (sym c.part-item.is) (c.requires c.loop-part.part-index c.part-item.result c.loop-part-test.true),
)

pub any_holds-holds-requires : goal.any_holds-holds-requires
any_holds-holds-requires t c = (
  search (rules, the_lemmas),
  subst (CondFits c.args.tables.now c.args.from.now c.args.first c.args.combo.now.rows) (sym c.part-item.is) (c.requires c.loop-part.part-index c.part-item.result c.loop-part-test.true),
)

pub holds-all_hold-requires : goal.holds-all_hold-requires
holds-all_hold-requires t c = (
  search (rules, the_lemmas),
  rw c.as_slice.ensures (fits-And c.args.tables.now c.args.from.now c.args.first c.args.combo.now.rows c.args.cond.now c.in-And.parts c.in-And.is c.requires),
)

pub holds-any_holds-requires : goal.holds-any_holds-requires
holds-any_holds-requires t c = (
  search (rules, the_lemmas),
  rw c.as_slice-in-Or.ensures (fits-Or c.args.tables.now c.args.from.now c.args.first c.args.combo.now.rows c.args.cond.now c.in-Or.parts c.in-Or.is c.requires),
)

pub holds-holds-requires : goal.holds-holds-requires
holds-holds-requires t c = (
  search (rules, the_lemmas),
  rw c.get.ensures (fits-Not c.args.tables.now c.args.from.now c.args.first c.args.combo.now.rows c.args.cond.now c.in-Not.part c.in-Not.is c.requires),
)

pub holds-scalar_cell-a-requires : goal.holds-scalar_cell-a-requires
holds-scalar_cell-a-requires t c = fits-Compare_left c.args.tables.now c.args.from.now c.args.first c.args.combo.now.rows c.args.cond.now c.in-Compare.op c.in-Compare.a c.in-Compare.b c.in-Compare.is c.requires

pub holds-scalar_cell-b-requires : goal.holds-scalar_cell-b-requires
holds-scalar_cell-b-requires t c = fits-Compare_right c.args.tables.now c.args.from.now c.args.first c.args.combo.now.rows c.args.cond.now c.in-Compare.op c.in-Compare.a c.in-Compare.b c.in-Compare.is c.requires

pub holds-scalar_cell-a-requires-in-Between : goal.holds-scalar_cell-a-requires-in-Between
holds-scalar_cell-a-requires-in-Between t c = fits-Between_scalar c.args.tables.now c.args.from.now c.args.first c.args.combo.now.rows c.args.cond.now c.in-Between.negate c.in-Between.a c.in-Between.low c.in-Between.high c.in-Between.is c.requires

pub holds-scalar_cell-low-requires : goal.holds-scalar_cell-low-requires
holds-scalar_cell-low-requires t c = fits-Between_low c.args.tables.now c.args.from.now c.args.first c.args.combo.now.rows c.args.cond.now c.in-Between.negate c.in-Between.a c.in-Between.low c.in-Between.high c.in-Between.is c.requires

pub holds-scalar_cell-high-requires : goal.holds-scalar_cell-high-requires
holds-scalar_cell-high-requires t c = fits-Between_high c.args.tables.now c.args.from.now c.args.first c.args.combo.now.rows c.args.cond.now c.in-Between.negate c.in-Between.a c.in-Between.low c.in-Between.high c.in-Between.is c.requires

pub holds-scalar_cell-a-requires-in-OneOf : goal.holds-scalar_cell-a-requires-in-OneOf
holds-scalar_cell-a-requires-in-OneOf t c = fits-OneOf_scalar c.args.tables.now c.args.from.now c.args.first c.args.combo.now.rows c.args.cond.now c.in-OneOf.negate c.in-OneOf.a c.in-OneOf.list c.in-OneOf.is c.requires

pub holds-is_one_of-found-requires : goal.holds-is_one_of-found-requires
holds-is_one_of-found-requires t c = rw c.as_slice-in-OneOf.ensures (fits-OneOf_list c.args.tables.now c.args.from.now c.args.first c.args.combo.now.rows c.args.cond.now c.in-OneOf.negate c.in-OneOf.a c.in-OneOf.list c.in-OneOf.is c.requires)

pub holds-scalar_cell-a-requires-in-IsNull : goal.holds-scalar_cell-a-requires-in-IsNull
holds-scalar_cell-a-requires-in-IsNull t c = fits-IsNull c.args.tables.now c.args.from.now c.args.first c.args.combo.now.rows c.args.cond.now c.in-IsNull.negate c.in-IsNull.a c.in-IsNull.is c.requires

pub holds-judged_cell-cell-requires : goal.holds-judged_cell-cell-requires
holds-judged_cell-cell-requires t c = fits-Top c.args.tables.now c.args.from.now c.args.first c.args.combo.now.rows c.args.cond.now c.in-Top.quality c.in-Top.is c.requires

pub holds-returns-in-Top : goal.holds-returns-in-Top
holds-returns-in-Top t c =
    let of_top = truth-Top (sight c.args.tables.now c.args.from.now c.args.first c.args.combo.now.rows) c.args.cond.now c.in-Top.quality c.in-Top.is in
    cc (of_top, c.judged_cell-cell.ensures.value, c.is_best.ensures.test, c.truth_of-in-Top.ensures)
