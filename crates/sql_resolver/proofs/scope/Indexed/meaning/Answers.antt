use Rattle.std.proofs.Common.{◌∙◌, ap, option_map, sym}
use Rattle.sql_resolver.specs.Index.{key_first, key_second, seen_from}
use Rattle.sql_resolver.specs.Meant.{another, meaning}
use Rattle.sql_resolver.specs.NamesMeant.{places_in}
use Rattle.sql_resolver.specs.Scope.{scope_names}
use Rattle.sql_resolver.proofs.MeaningLaws.{meaning_map}
use Rattle.sql_resolver.proofs.PlaceLaws.{places_seen}
use Rattle.sql_resolver.proofs.scope.Indexed.meaning.Goals as goal

pub returns : goal.returns
returns c =
    let key = c.args.name.now in
    let f = key_first key in
    let s = key_second key in
    let items = scope_names c.self.inside.items in
    c.seen_from.ensures
    ∙ ap (option_map (another (seen_from c.args.up))) (c.copied.ensures ∙ c.get.ensures.value ∙ c.self.invariant.by_column key)
    ∙ sym (meaning_map (seen_from c.args.up) (places_in f s 0 0 items))
    ∙ ap meaning (sym (places_seen f s c.args.up 0 items))
    ∙ ap (λ level. meaning (places_in f s c.args.up 0 (scope_names level))) c.self.view_is
