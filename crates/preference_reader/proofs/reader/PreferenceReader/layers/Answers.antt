use Rattle.preference_reader.proofs.Layers.{layers_by_sets}
use Rattle.preference_reader.proofs.reader.PreferenceReader.layers.Goals as goal

pub returns : goal.returns
returns c = layers_by_sets c.args.self.depth c.args.tokens.now c.eat_word.new.self _ c.in_ok-before.before c.in_ok-before.after _ c.if-eat_word.ensures.0 c.if-eat_word.ensures.1 c.in_ok-before.ensures c.or_none-after.ensures
