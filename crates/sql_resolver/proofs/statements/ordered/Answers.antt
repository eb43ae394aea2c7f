use Rattle.std.proofs.Common.{List, map, sym, ap, ◌∙◌}
use Rattle.query_tree.specs.declared.query.OrderTree.{OrderTree}
use Rattle.sql_resolver.specs.Scope.{ScopeColumn}
use Rattle.sql_resolver.specs.Found.{spotted}
use Rattle.sql_resolver.specs.Ordered.{found_key, statement_found, with_keys}
use Rattle.sql_resolver.specs.Outcomes.{all_of}
use Rattle.sql_resolver.specs.Statements.{key_reading}
use Rattle.sql_resolver.proofs.statements.ordered.Goals as goal

pub returns-in_ok-keys-in-Ok-2 : goal.returns-in_ok-keys-in-Ok-2
returns-in_ok-keys-in-Ok-2 c =
    let order : List OrderTree = c.args.order.now in
    c.with_keys.ensures
    ∙ ap (with_keys c.in-Ok.selected.tree)
    (c.spotted.ensures
    ∙ ap spotted (c.in_ok-keys-in-Ok-2.ensures ∙ ap all_of (c.in_ok-keys-in-Ok.ensures
    ∙ ap (λ (columns : List ScopeColumn). map (λ tree. found_key (key_reading columns tree)) order) c.as_slice.ensures)))
    ∙ ap (λ selected. statement_found selected order) (sym c.in-Ok.is)
