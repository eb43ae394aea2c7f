use Rattle.std.proofs.Common.{◌≡◌, ◌<◌, ◌∙◌, length, sym, subst, take, arith}
use Rattle.std.proofs.lemmas.List.{length-map, length-take-le}
use Rattle.sql_resolver.specs.Index.{IsIndexOf, item_names}
use Rattle.sql_resolver.specs.Scope.{scope_names}
use Rattle.sql_resolver.proofs.PlaceLaws.{items_more}
use Rattle.sql_resolver.proofs.index.columns_by_name.Goals as goal

pub loop-at-preserved : goal.loop-at-preserved
loop-at-preserved c =
    let items = c.args.items.now in
    let i = c.loop-at.at in
    let item = c.index-items-at.result in
    let small : i < length items = c.loop-at-test.true in
    let count : length (scope_names (take i items)) ≡ c.in_ok-narrow.field-0 =
    length-map (take i items) item_names ∙ length-take-le i items (omega (arith, small)) ∙ sym c.in_ok-narrow.ensures
    in
    subst (λ names. IsIndexOf names c.add_columns.new.columns) (items_more items i item small c.index-items-at.is)
    (c.in_ok-add_columns.ensures (scope_names (take i items)) count c.loop-at.invariant)
