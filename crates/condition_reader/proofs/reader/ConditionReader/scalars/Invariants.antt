use Rattle.std.proofs.Common.{◌≡◌, length}
use Rattle.grammar_forms.specs.Form.{many}
use Rattle.token_forms.specs.Forms as forms
use Rattle.query_grammar.specs.Scalars as scalars
use Rattle.token_forms.specs.Forms.{◌⨟>◌}
use Rattle.query_grammar.specs.Outcome.{outcome}
use Rattle.token_forms.specs.Reads.{with_front}
use Rattle.condition_reader.proofs.reader.ConditionReader.scalars.Given as goal

abbrev pub invariant-more : goal.invariant-more
invariant-more l = outcome l.self.depth (scalars.scalars l.self.qualities) l.fn.tokens ≡ with_front l.found (outcome l.self.depth (many (forms.comma ⨟> scalars.scalar l.self.qualities)) l.tokens)

abbrev pub decreases-more : goal.decreases-more
decreases-more l = length l.tokens
