use Rattle.std.proofs.Common.{ℕ, List, [], ◌∷◌, refl, subst, sym}
use Rattle.prefsql_values.specs.Limits.{IsName}
use Rattle.table_csv.proofs.SchemaLemmas.{name_valid}
use Rattle.prefsql_units.proofs.files.a_quoted_field_keeps_itself.Goals as goal

pub add_table-requires-clause-named : goal.add_table-requires-clause-named
add_table-requires-clause-named g c = subst (λ (name : List ℕ). IsName name) (sym c.in_ok-of.ensures) (name_valid (84 ∷ []) refl)
