use Rattle.std.proofs.Common.{◌≡◌, ◌∙◌, true, string_bytes, ap, subst, take}
use Rattle.std.specs.HashSet.{contains_text}
use Rattle.std.proofs.lemmas.Map.Text.{hash_set_updates_text}
use Rattle.sql_resolver.specs.Index.{AreCalled, item_names}
use Rattle.sql_resolver.specs.Scope.{ScopeItem, scope_names}
use Rattle.sql_resolver.proofs.IndexLaws.{called_more}
use Rattle.sql_resolver.proofs.PlaceLaws.{items_more}
use Rattle.sql_resolver.proofs.index.names_called.Goals as goal

pub loop-item-preserved : goal.loop-item-preserved
loop-item-preserved c =
    let items = c.args.items.now in
    let i = c.loop-item.item-index in
    let item = c.item-item.result in
    let new = string_bytes c.in_ok-from_str.field-0 in
    let same : new ≡ item.name = c.in_ok-from_str.ensures.ok ∙ c.as_str.ensures ∙ ap (λ (x : ScopeItem). x.name) c.item.view_is in
    subst (λ names. AreCalled names c.insert.new.self) (items_more items i item c.loop-item-test.true c.item-item.is)
    (called_more (contains_text c.loop-item.called) (contains_text c.insert.new.self) (scope_names (take i items)) (item_names item) new same
    c.loop-item.invariant
    (hash_set_updates_text new c.loop-item.called c.insert.new.self true c.in_ok-insert.ensures.updates))
