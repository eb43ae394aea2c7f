use Rattle.std.proofs.Common.{◌≡◌, ◌+◌, ◌*◌, length}
use Rattle.grammar_forms.specs.Form.{many}
use Rattle.prefsql_lexer.specs.declared.token.Keyword.TheVariants.{And, Cascade}
use Rattle.token_forms.specs.Forms as forms
use Rattle.query_grammar.specs.ReadPreferences as preferences
use Rattle.token_forms.specs.Forms.{◌⨟>◌}
use Rattle.query_grammar.specs.Outcome.{outcome}
use Rattle.token_forms.specs.Reads.{with_front}
use Rattle.preference_reader.proofs.reader.PreferenceReader.+preference.Given as goal

abbrev pub decreases-preference : goal.decreases-preference
decreases-preference l = 8 * l.self.depth + 6

abbrev pub decreases-cascade : goal.decreases-cascade
decreases-cascade l = 8 * l.self.depth + 5

abbrev pub decreases-pareto : goal.decreases-pareto
decreases-pareto l = 8 * l.self.depth + 4

abbrev pub decreases-primaries : goal.decreases-primaries
decreases-primaries l = 8 * l.self.depth + 3

abbrev pub decreases-primary : goal.decreases-primary
decreases-primary l = 8 * l.self.depth + 2

abbrev pub decreases-preference_in_parens : goal.decreases-preference_in_parens
decreases-preference_in_parens l = 8 * l.self.depth + 1

abbrev pub decreases-nested_preference : goal.decreases-nested_preference
decreases-nested_preference l = 8 * l.self.depth + 0

abbrev pub invariant-primaries-more : goal.invariant-primaries-more
invariant-primaries-more l = outcome l.self.depth preferences.primaries l.fn.tokens ≡ with_front l.found (outcome l.self.depth (many (forms.word_only And ⨟> preferences.primary)) l.tokens)

abbrev pub decreases-primaries-more : goal.decreases-primaries-more
decreases-primaries-more l = length l.tokens

abbrev pub invariant-cascade-more : goal.invariant-cascade-more
invariant-cascade-more l = outcome l.self.depth preferences.cascade l.fn.tokens ≡ with_front l.found (outcome l.self.depth (many (forms.word_only Cascade ⨟> preferences.pareto)) l.tokens)

abbrev pub decreases-cascade-more : goal.decreases-cascade-more
decreases-cascade-more l = length l.tokens
