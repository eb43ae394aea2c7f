use Rattle.std.proofs.Common.{◌≡◌, List, get_or, sym, ap, ◌∙◌}
use Rattle.prefsql_values.specs.declared.value.Value.{Value}
use Rattle.prefsql_values.specs.declared.value.Value.TheVariants.{Null}
use Rattle.prefsql_tables.specs.CellsData.{CellsData}
use Rattle.prefsql_tables.specs.KeptTable.{cell_kept}
use Rattle.prefsql_tables.proofs.KeptLemmas.{cell_is, cell_there, values_are}
use Rattle.prefsql_tables.proofs.table.Table.cell.Goals as goal

pub index-requires : goal.index-requires
index-requires c =
    let is_there = cell_there c.self.inside.schema.columns c.self.inside.cells.items c.self.inside.row_count c.args.row c.args.column c.self.invariant
    (rw (← c.self.view_is) at c.requires.row) (rw (← c.self.view_is) at c.requires.column) in
    rw c.self.inside.cells.ok.0 is_there.in_cells

pub cell-requires : goal.cell-requires
cell-requires c =
    let is_there = cell_there c.self.inside.schema.columns c.self.inside.cells.items c.self.inside.row_count c.args.row c.args.column c.self.invariant
    (rw (← c.self.view_is) at c.requires.row) (rw (← c.self.view_is) at c.requires.column) in
    rw (ap (λ (x : CellsData). x.values) c.index.ensures ∙ values_are c.self.inside.cells.items c.args.column c.index.result.now is_there.in_cells) is_there.in_column

pub returns : goal.returns
returns c =
    let is_there = cell_there c.self.inside.schema.columns c.self.inside.cells.items c.self.inside.row_count c.args.row c.args.column c.self.invariant
    (rw (← c.self.view_is) at c.requires.row) (rw (← c.self.view_is) at c.requires.column) in
    let kept : get_or c.index.result.now.values c.args.row Null ≡ cell_kept c.self.inside.cells.items c.args.row c.args.column =
    ap (λ (x : CellsData). get_or x.values c.args.row Null) c.index.ensures ∙ ap (λ (xs : List Value). get_or xs c.args.row Null) (values_are c.self.inside.cells.items c.args.column c.index.result.now is_there.in_cells) in
    rw (← c.self.view_is)
    (c.cell.ensures ∙ kept ∙ sym (cell_is c.self.inside.schema.columns c.self.inside.cells.items c.self.inside.row_count c.args.row c.args.column is_there.early is_there.in_columns))
