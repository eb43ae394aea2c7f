use Rattle.std.proofs.Common.{◌≡◌, length}
use Rattle.query_grammar.specs.ReadPreferences as preferences
use Rattle.query_grammar.specs.Outcome.{outcome}
use Rattle.token_forms.specs.Reads.{with_items}
use Rattle.preference_reader.proofs.reader.PreferenceReader.sets_and_others.Given as goal

abbrev pub invariant-more : goal.invariant-more
invariant-more l = outcome l.self.depth preferences.sets_and_others l.fn.tokens ≡ with_items l.found (outcome l.self.depth preferences.more_layers l.tokens)

abbrev pub decreases-more : goal.decreases-more
decreases-more l = length l.tokens
