use Rattle.std.proofs.Common.{◌≡◌, length}
use Rattle.grammar_forms.specs.Form.{many}
use Rattle.token_forms.specs.Phrases.{from, from_items}
use Rattle.token_forms.specs.Forms.{comma, ◌⨟>◌}
use Rattle.token_forms.specs.Plain.{plain}
use Rattle.token_forms.specs.Reads.{with_front}
use Rattle.token_forms.proofs.cursor.Cursor.from_items.Given as goal

abbrev pub invariant-more : goal.invariant-more
invariant-more l = plain from_items l.fn.self ≡ with_front l.found (plain (many (comma ⨟> from)) l.self)

abbrev pub decreases-more : goal.decreases-more
decreases-more l = length l.self
