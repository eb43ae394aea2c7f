use Rattle.std.proofs.Common.{◌<◌, ◌++◌, ◌∷◌, [], ◌∙◌, length, ap, sym, subst, take, arith}
use Rattle.std.specs.HashMap.{get_by}
use Rattle.std.specs.Str.{bytes_eq}
use Rattle.std.proofs.lemmas.List.{length-take-le, take_more}
use Rattle.std.proofs.lemmas.Map.Text.{hash_map_updates_str}
use Rattle.sql_resolver.specs.Meant.{one_more}
use Rattle.sql_resolver.specs.Ordered.{ShowsColumns}
use Rattle.sql_resolver.specs.Scope.{ScopeColumn}
use Rattle.sql_resolver.proofs.IndexLaws.{shown_more}
use Rattle.sql_resolver.proofs.order.columns_by_name.Goals as goal

pub loop-at-preserved : goal.loop-at-preserved
loop-at-preserved c =
    let columns = c.args.columns.now in
    let i = c.loop-at.at in
    let column = c.index-columns-at.result in
    let small : i < length columns = c.loop-at-test.true in
    let new = c.as_str-name.result.now in
    let place = c.in_ok-narrow.field-0 in
    subst (λ cs. ShowsColumns cs c.insert.new.self) (sym (take_more columns i column small ∙ ap (λ (x : ScopeColumn). take i columns ++ x ∷ []) (sym c.index-columns-at.is)))
    (shown_more (λ name. get_by (λ k. bytes_eq name k.now) c.loop-at.named) (λ name. get_by (λ k. bytes_eq name k.now) c.insert.new.self) (take i columns) column new c.one_more.result place
    (c.as_str-name.ensures ∙ ap (λ (x : ScopeColumn). x.name) c.column.view_is)
    (c.in_ok-narrow.ensures ∙ sym (length-take-le i columns (omega (arith, small))))
    c.loop-at.invariant
    (c.one_more.ensures ∙ ap (λ known. one_more known place) (c.copied-known.ensures ∙ c.get.ensures.value))
    (hash_map_updates_str new c.loop-at.named c.insert.new.self _ c.in_ok-insert.ensures.updates))
