use Rattle.std.proofs.Common.{◌≡◌, length}
use Rattle.grammar_forms.specs.Form.{many}
use Rattle.token_forms.specs.Forms as forms
use Rattle.query_grammar.specs.Sets as sets
use Rattle.token_forms.specs.Forms.{◌⨟>◌}
use Rattle.query_grammar.specs.Outcome.{outcome}
use Rattle.token_forms.specs.Reads.{with_front}
use Rattle.preference_reader.proofs.reader.PreferenceReader.sets.Given as goal

abbrev pub invariant-more : goal.invariant-more
invariant-more l = outcome l.self.depth (sets.sets) l.fn.tokens ≡ with_front l.found (outcome l.self.depth (many (forms.comma ⨟> sets.set)) l.tokens)

abbrev pub decreases-more : goal.decreases-more
decreases-more l = length l.tokens
