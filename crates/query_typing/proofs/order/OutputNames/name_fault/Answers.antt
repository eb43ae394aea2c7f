use Rattle.std.proofs.Common.{◌∙◌, sym}
use Rattle.query_typing.specs.Outputs.{names_in}
use Rattle.query_typing.proofs.NameLaws.{known_name, unknown_name}
use Rattle.query_typing.proofs.order.OutputNames.name_fault.Goals as goal

pub returns-in-None : goal.returns-in-None
returns-in-None c = unknown_name (names_in c.args.self.now.outputs.now) c.args.name.now c.args.at (sym c.in-None.ensures.place)

pub returns-in-Some : goal.returns-in-Some
returns-in-Some c = c.unless.ensures ∙ known_name (names_in c.args.self.now.outputs.now) c.args.name.now c.args.at c.in-Some.place (sym c.in-Some.ensures.place)
