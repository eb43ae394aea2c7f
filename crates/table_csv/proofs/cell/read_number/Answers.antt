use Rattle.std.proofs.Common.{Ok, ℤ, ap, sym, rules, ◌∙◌}
use Rattle.prefsql_values.specs.declared.value.Value.TheVariants.{Num}
use Rattle.table_csv.proofs.CellLemmas.{number_good}
use Rattle.table_csv.proofs.cell.read_number.Goals as goal

pub returns-in-Ok : goal.returns-in-Ok
returns-in-Ok c =
    number_good c.args.field.now c.args.at_record c.args.at_field c.in-Ok.n (sym c.in-Ok.ensures) ∙ ap (λ (n : ℤ). Ok (Num n)) (search rules)
