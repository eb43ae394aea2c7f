use Rattle.std.proofs.Common.{◌∙◌, ap}
use Rattle.std.specs.HashMap.{get}
use Rattle.std.specs.List.{list_any}
use Rattle.sql_resolver.specs.Index.{key_first, key_second, same_key}
use Rattle.sql_resolver.specs.NamesMeant.{decides, is_called}
use Rattle.sql_resolver.specs.Scope.{scope_names}
use Rattle.sql_resolver.proofs.IndexLaws.{decides_bare, decides_called}
use Rattle.sql_resolver.proofs.scope.Indexed.decides.Goals as goal

pub returns-in-None : goal.returns-in-None
returns-in-None c =
    let key = c.args.name.now in
    c.contains_key.ensures
    ∙ decides_bare key (scope_names c.self.inside.items) (get same_key c.self.inside.columns key) c.in-None.is (c.self.invariant.by_column key)
    ∙ ap (λ items. decides (key_first key) (key_second key) (scope_names items)) c.self.view_is

pub returns-in-Some : goal.returns-in-Some
returns-in-Some c =
    let key = c.args.name.now in
    c.contains.ensures
    ∙ c.self.invariant.by_item c.as_str.result.now
    ∙ ap (λ name. list_any (is_called name) (scope_names c.self.inside.items)) c.as_str.ensures.value
    ∙ decides_called key (scope_names c.self.inside.items) _ c.in-Some.is
    ∙ ap (λ items. decides (key_first key) (key_second key) (scope_names items)) c.self.view_is
