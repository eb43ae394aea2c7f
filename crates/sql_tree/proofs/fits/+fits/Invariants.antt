use Rattle.sql_tree.specs.Fits.{cond_tables, from_tables, item_tables, scalar_tables, term_tables, when_tables}
use Rattle.sql_tree.proofs.TableTests.{IsLeft}
use Rattle.sql_tree.proofs.fits.+fits.Given as goal

abbrev pub invariant-conds_fit-loop-cond : goal.invariant-conds_fit-loop-cond
invariant-conds_fit-loop-cond l = IsLeft l.tables cond_tables l.conds l.cond-index

abbrev pub invariant-scalars_fit-loop-scalar : goal.invariant-scalars_fit-loop-scalar
invariant-scalars_fit-loop-scalar l = IsLeft l.tables scalar_tables l.scalars l.scalar-index

abbrev pub invariant-terms_fit-loop-term : goal.invariant-terms_fit-loop-term
invariant-terms_fit-loop-term l = IsLeft l.tables term_tables l.terms l.term-index

abbrev pub invariant-whens_fit-loop-when : goal.invariant-whens_fit-loop-when
invariant-whens_fit-loop-when l = IsLeft l.tables when_tables l.whens l.when-index

abbrev pub invariant-items_fit-loop-item : goal.invariant-items_fit-loop-item
invariant-items_fit-loop-item l = IsLeft l.tables item_tables l.items l.item-index

abbrev pub invariant-from_fits-loop-item : goal.invariant-from_fits-loop-item
invariant-from_fits-loop-item l = IsLeft l.tables from_tables l.from l.item-index
