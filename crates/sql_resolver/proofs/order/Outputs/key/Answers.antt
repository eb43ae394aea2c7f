use Rattle.std.proofs.Common.{◌∙◌, ap}
use Rattle.std.specs.Str.{bytes_eq}
use Rattle.sql_resolver.specs.NamesMeant.{positions_from}
use Rattle.sql_resolver.specs.Ordered.{found_key}
use Rattle.sql_resolver.specs.Scope.{ScopeColumn}
use Rattle.sql_resolver.specs.Statements.{named_key}
use Rattle.sql_resolver.proofs.ColumnLaws.{key_named}
use Rattle.sql_resolver.proofs.order.Outputs.key.Goals as goal

pub returns-in-Name : goal.returns-in-Name
returns-in-Name c =
    let columns = c.args.self.now.columns.now in
    let tree = c.args.tree.now in
    c.key_by_name.ensures
    ∙ ap (λ name. found_key (named_key tree (positions_from 0 (λ (column : ScopeColumn). bytes_eq name column.name) columns))) c.as_str.ensures
    ∙ key_named columns tree c.in-Name.name c.in-Name.is
