use Rattle.std.proofs.Common.{◌≡◌, ◌∙◌, Some, ap, sym}
use Rattle.sql_resolver.specs.declared.meaning.Meaning.TheVariants.{One, Several}
use Rattle.sql_resolver.proofs.ColumnLaws.{ambiguous_key, known_key, unknown_key}
use Rattle.sql_resolver.proofs.order.named_key.Goals as goal

pub returns-in-None : goal.returns-in-None
returns-in-None c = λ positions means. c.faulty.ensures ∙ unknown_key c.args.tree.now positions (sym c.in-None.is ∙ means)

pub returns-in-Some-One : goal.returns-in-Some-One
returns-in-Some-One c = λ positions means.
    let one : c.in-Some-One.field-0 ≡ One c.in-Some-One.column = rw c.in-Some-One.is at c.in-Some-One.field-0-is in
    known_key c.args.tree.now positions c.in-Some-One.column (sym (c.in-Some-One.is ∙ ap Some one) ∙ means)

pub returns-in-Some-Several : goal.returns-in-Some-Several
returns-in-Some-Several c = λ positions means.
    let several : c.in-Some-Several.field-0 ≡ Several = rw c.in-Some-Several.is at c.in-Some-Several.field-0-is in
    c.faulty-in-Some-Several.ensures ∙ ambiguous_key c.args.tree.now positions (sym (c.in-Some-Several.is ∙ ap Some several) ∙ means)
