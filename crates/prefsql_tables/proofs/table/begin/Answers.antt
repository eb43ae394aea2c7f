use Rattle.std.proofs.Common.{◌≡◌, ap, sym, ◌∙◌, arith, [], List}
use Rattle.std.specs.Vec.{vec_len}
use Rattle.std.proofs.lemmas.Bool.Decides.{nat_tests}
use Rattle.std.proofs.lemmas.List.{nil_from_length}
use Rattle.prefsql_tables.specs.CellsData.{CellsData}
use Rattle.prefsql_tables.specs.KeptTable.{values_in}
use Rattle.prefsql_tables.proofs.KeptLemmas.{none_domains, none_yet}
use Rattle.prefsql_tables.proofs.table.begin.Goals as goal

pub returns-clause-values : goal.returns-clause-values
returns-clause-values c =
    let is = c.if-not-is_empty.ensures in
    let zero : vec_len c.args.cells.now ≡ 0 = grind (arith, nat_tests) in
    let empty : c.args.cells.now.items ≡ [] = nil_from_length c.args.cells.now.items (sym c.args.cells.now.ok.0 ∙ zero) in
    λ column. ap (λ (cells : List CellsData). values_in cells column) c.in_ok-cells.ensures ∙ none_yet c.args.columns.now column ∙ ap (λ (cells : List CellsData). values_in cells column) (sym empty)

pub returns-clause-ok : goal.returns-clause-ok
returns-clause-ok c = rw c.in_ok-cells.ensures (none_domains c.args.columns.now)
