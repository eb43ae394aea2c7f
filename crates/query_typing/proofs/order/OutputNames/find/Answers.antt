use Rattle.std.proofs.Common.{◌∙◌}
use Rattle.query_typing.proofs.NameLaws.{place_within}
use Rattle.query_typing.proofs.order.OutputNames.find.Goals as goal

pub returns-clause-place : goal.returns-clause-place
returns-clause-place c = c.find_name.ensures ∙ c.args.self.now.listed c.args.name.now

pub returns-clause-within : goal.returns-clause-within
returns-clause-within c = place_within c.find_name.result c.args.name.now c.args.self.now.outputs.now (c.find_name.ensures ∙ c.args.self.now.listed c.args.name.now)
