use Rattle.std.proofs.Common.{not, rules, lit<}
use Rattle.std.proofs.lemmas.Iterator.Consumers.{YieldsList-from_filter, map_from_collect}
use Rattle.std.proofs.lemmas.Iterator.Splits.{YieldsList-from_str_split}
use Rattle.table_csv.specs.Field.{is_empty}
use Rattle.table_csv.proofs.header.words_in.Goals as goal

pub returns : goal.returns
returns c =
    map_from_collect _ c.collect.ensures.ran
    (YieldsList-from_filter _ (λ word. not (is_empty word)) (YieldsList-from_str_split 32 c.args.field.now (lit< tt) (cc) (cc) (cc)) c.filter.ensures.closure (λ x b q k. search rules))
