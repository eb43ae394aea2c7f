use Rattle.std.proofs.Common.{◌∙◌, sym}
use Rattle.table_csv.proofs.FieldLemmas.{no_utf8, text_true}
use Rattle.table_csv.proofs.field.text_of.Goals as goal

pub returns-in_default : goal.returns-in_default
returns-in_default c = no_utf8 c.args.field.now c.in_default.ensures.cases.0

pub returns : goal.returns
returns c = (text_true c.args.field.now c.in-Ok.ensures.cases.1 (sym c.contains.ensures.value ∙ c.if-contains.false), c.in-Ok.ensures.cases.0)
