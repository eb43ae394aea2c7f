use Rattle.std.proofs.Common.{◌≡◌, ◌-◌}
use Rattle.query_grammar.specs.ReadStatements as statements
use Rattle.query_grammar.specs.Outcome.{outcome}
use Rattle.script_forms.specs.Counted.{counted, with_trees}
use Rattle.query_reader.proofs.parser.Parser.script.Given as goal

abbrev pub invariant-more : goal.invariant-more
invariant-more l = outcome l.self.depth (counted statements.statement_form 64) l.fn.tokens ≡ with_trees l.found (outcome l.self.depth (counted statements.statement_form (64 - l._turn)) l.tokens)
