use Rattle.std.proofs.Common.{List, w64, ap, ◌∙◌}
use Rattle.std.proofs.lemmas.Int.{to_z-of_z}
use Rattle.std.proofs.lemmas.Result.{on_ok_weaker, on_err_weaker}
use Rattle.prefsql_values.specs.declared.value.Domain.TheVariants.{Integer, Chars}
use Rattle.prefsql_values.specs.declared.value.Value.{Value}
use Rattle.prefsql_tables.specs.ColumnCells.{number_kept, text_kept}
use Rattle.prefsql_tables.proofs.CellsLemmas.{map-cut, map-put}
use Rattle.prefsql_tables.proofs.column_cells.ColumnCells.put.Goals as goal
use Rattle.prefsql_tables.proofs.column_cells.ColumnCells.put.Goals.{in-Numbers, in-Texts}

pub returns-clause-ok : goal.returns-clause-ok
returns-clause-ok c =
    rw (← c.self.view_is)
    (elim c.match-self.branch [
      | in-Numbers w ↦ rw (w.result-is, w.self-inside-is, w.in-Numbers.is)
          (on_ok_weaker w.put_behind.result (λ is. ap (λ (values : List Value). record { domain = Integer; values = values }) (map-put number_kept c.args.count _ _ _ c.args.value (ap number_kept (to_z-of_z w64 w.number_of.result (record { sfits = w.number_of.type_inv })) ∙ w.number_of.ensures) is)) w.put_behind.ensures.ok)
      | in-Texts w ↦ rw (w.result-is, w.self-inside-is, w.in-Texts.is)
          (on_ok_weaker w.put_behind-in-Texts.result (λ is. ap (λ (values : List Value). record { domain = Chars; values = values }) (map-put text_kept c.args.count _ _ w.text_of.result c.args.value w.text_of.ensures is)) w.put_behind-in-Texts.ensures.ok)
    ])

pub returns-clause-err : goal.returns-clause-err
returns-clause-err c =
    rw (← c.self.view_is)
    (elim c.match-self.branch [
      | in-Numbers w ↦ rw (w.result-is, w.self-inside-is, w.in-Numbers.is)
          (on_err_weaker w.put_behind.result (λ is. ap (λ (values : List Value). record { domain = Integer; values = values }) (map-cut number_kept c.args.count _ _ is)) w.put_behind.ensures.err)
      | in-Texts w ↦ rw (w.result-is, w.self-inside-is, w.in-Texts.is)
          (on_err_weaker w.put_behind-in-Texts.result (λ is. ap (λ (values : List Value). record { domain = Chars; values = values }) (map-cut text_kept c.args.count _ _ is)) w.put_behind-in-Texts.ensures.err)
    ])
