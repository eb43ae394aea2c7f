use Rattle.std.proofs.Common.{refl}
use Rattle.std.proofs.lemmas.Bool.{false≢true, eqb-true}
use Rattle.prefsql_tables.proofs.TableAtLemmas.{table_there, table_elsewhere, table_nowhere}
use Rattle.prefsql_tables.proofs.set.TableSet.has_table_at.Goals as goal

pub returns-then-place-index : goal.returns-then-place-index
returns-then-place-index c =
    table_there c.args.self.now c.args.name.now c.args.index c.args.schema.now.columns c.in-Some.place c.is_same.result
    c.in-Some.ensures.named.found
    c.if-place-index.true
    (rw c.schema.ensures at c.is_same.ensures)

pub returns-else-place-index : goal.returns-else-place-index
returns-else-place-index c = (
  λ yes. absurd (c.if-place-index.false (eqb-true c.in-Some.place c.args.index yes)),
  λ is. absurd (table_elsewhere c.args.self.now c.args.name.now c.args.index c.args.schema.now.columns c.keeps_limits.ensures c.in-Some.place c.in-Some.ensures.named.found c.if-place-index.false is),
)

pub returns-in-None : goal.returns-in-None
returns-in-None c = (
  λ yes. absurd (false≢true yes),
  λ is. absurd (table_nowhere c.args.self.now c.args.name.now c.args.index c.args.schema.now.columns (c.in-None.ensures.named.none.0 refl) is),
)
