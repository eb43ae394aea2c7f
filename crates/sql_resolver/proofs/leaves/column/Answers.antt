use Rattle.std.proofs.Common.{◌≡◌, ◌∙◌, Some, ap, sym}
use Rattle.sql_resolver.specs.NamesMeant.{places_of}
use Rattle.sql_resolver.specs.Scope.{names_in}
use Rattle.sql_resolver.specs.declared.meaning.Meaning.TheVariants.{One, Several}
use Rattle.sql_resolver.proofs.ColumnLaws.{ambiguous_column, known_column, unknown_column}
use Rattle.sql_resolver.proofs.leaves.column.Goals as goal

pub returns-in-None : goal.returns-in-None
returns-in-None c =
    let name = c.args.name.now in
    c.no_column.ensures
    ∙ unknown_column name c.args.levels.now (places_of name.first name.second 0 (names_in c.args.levels.now)) c.in_ok-part.part
    (c.in_ok-part.ensures ∙ c.column_part.ensures) (sym c.in-None.is ∙ c.in_ok-found.ensures)

pub returns-in-Some-One : goal.returns-in-Some-One
returns-in-Some-One c =
    let name = c.args.name.now in
    let found_one : c.in-Some-One.field-0 ≡ One c.in-Some-One.place = rw c.in-Some-One.is at c.in-Some-One.field-0-is in
    c.column_of.ensures
    ∙ known_column name c.args.levels.now (places_of name.first name.second 0 (names_in c.args.levels.now)) c.in_ok-part.part c.in-Some-One.place
    (c.in_ok-part.ensures ∙ c.column_part.ensures) (sym (c.in-Some-One.is ∙ ap Some found_one) ∙ c.in_ok-found.ensures)

pub returns-in-Some-Several : goal.returns-in-Some-Several
returns-in-Some-Several c =
    let name = c.args.name.now in
    let found_several : c.in-Some-Several.field-0 ≡ Several = rw c.in-Some-Several.is at c.in-Some-Several.field-0-is in
    c.no_column-in-Some-Several.ensures
    ∙ ambiguous_column name c.args.levels.now (places_of name.first name.second 0 (names_in c.args.levels.now)) c.in_ok-part.part
    (c.in_ok-part.ensures ∙ c.column_part.ensures) (sym (c.in-Some-Several.is ∙ ap Some found_several) ∙ c.in_ok-found.ensures)
