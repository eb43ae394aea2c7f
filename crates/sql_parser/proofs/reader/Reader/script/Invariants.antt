use Rattle.std.proofs.Common.{◌≡◌, ◌-◌}
use Rattle.sql_parser.specs.ReadGrammar as read_grammar
use Rattle.sql_parser.specs.Outcome.{outcome}
use Rattle.script_forms.specs.Counted.{counted, with_trees}
use Rattle.sql_parser.proofs.reader.Reader.script.Given as goal

abbrev pub invariant-more : goal.invariant-more
invariant-more l = outcome l.self.depth (counted read_grammar.statement_form 64) l.fn.tokens ≡ with_trees l.found (outcome l.self.depth (counted read_grammar.statement_form (64 - l._turn)) l.tokens)
