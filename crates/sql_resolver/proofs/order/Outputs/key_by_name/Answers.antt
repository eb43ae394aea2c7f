use Rattle.std.proofs.Common.{◌∙◌}
use Rattle.std.specs.Str.{bytes_eq}
use Rattle.sql_resolver.specs.NamesMeant.{positions_from}
use Rattle.sql_resolver.specs.Scope.{ScopeColumn}
use Rattle.sql_resolver.proofs.order.Outputs.key_by_name.Goals as goal

pub returns : goal.returns
returns c =
    c.named_key.ensures (positions_from 0 (λ (column : ScopeColumn). bytes_eq c.args.name.now column.name) c.args.self.now.columns.now)
    (c.copied.ensures ∙ c.get.ensures.value ∙ c.args.self.now.shown c.args.name.now)
