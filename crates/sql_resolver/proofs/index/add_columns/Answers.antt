use Rattle.std.proofs.Common.{◌≡◌, ◌<◌, ◌++◌, ◌∷◌, [], ◌∙◌, List, length, get_or, sym, ap, subst, take, if◌then◌else◌}
use Rattle.std.proofs.lemmas.List.{take_all}
use Rattle.sql_resolver.specs.Index.{can_mean, column_names, key_first, key_second}
use Rattle.sql_resolver.specs.Meant.{meaning}
use Rattle.sql_resolver.specs.NamesMeant.{places_in}
use Rattle.sql_resolver.specs.Scope.{ScopeColumn, ScopeItem}
use Rattle.sql_resolver.proofs.PlaceLaws.{column_more, places_begun}
use Rattle.sql_resolver.proofs.index.add_columns.Goals as goal

pub loop-at-init : goal.loop-at-init
loop-at-init c = λ before count listed key. listed key ∙ ap meaning (sym (places_begun (key_first key) (key_second key) 0 0 before c.args.item.now.name))

pub loop-at-preserved : goal.loop-at-preserved
loop-at-preserved c = λ before count listed key.
    let item = c.args.item.now in
    let i = c.loop-at.at in
    let column = c.column-item.result in
    let narrow = c.in_ok-narrow.field-0 in
    let slice : c.as_slice-column-items.result.now ≡ item.columns = c.as_slice-column-items.ensures ∙ ap (λ (x : ScopeItem). x.columns) c.item.view_is in
    let small : i < length item.columns = subst (λ (cs : List ScopeColumn). i < length cs) slice c.loop-at-test.true in
    let is : column ≡ get_or item.columns i column = subst (λ (cs : List ScopeColumn). column ≡ get_or cs i column) slice c.column-item.is in
    let called_is : c.as_str-called.result.now ≡ item.name = c.as_str-called.ensures ∙ ap (λ (x : ScopeItem). x.name) c.item.view_is in
    let name_is : c.as_str.result.now ≡ column.name = c.as_str.ensures ∙ ap (λ (x : ScopeColumn). x.name) c.column.view_is in
    let f = key_first key in
    let s = key_second key in
    let names = column_names (take i item.columns) in
    c.in_ok-add_column.ensures
    (λ first second. places_in first second 0 0 (before ++ record { name = item.name; columns = column_names (take i item.columns) } ∷ []))
    (c.loop-at.invariant before count listed) key
    ∙ (λ j. meaning (places_in f s 0 0 (before ++ record { name = item.name; columns = names } ∷ [])
    ++ (if can_mean (called_is j) (name_is j) f s then record { up = 0; item = c.args.item_at; column = narrow } ∷ [] else [])))
    ∙ ap meaning (column_more f s before item.name item.columns i column c.args.item_at narrow small is count c.in_ok-narrow.ensures)

pub returns : goal.returns
returns c = λ before count listed key.
    let item = c.args.item.now in
    let slice : c.as_slice-column-items.result.now ≡ item.columns = c.as_slice-column-items.ensures ∙ ap (λ (x : ScopeItem). x.columns) c.item.view_is in
    let all : take c.loop-at.at item.columns ≡ item.columns =
    subst (λ (cs : List ScopeColumn). take c.loop-at.at cs ≡ cs) slice (take_all c.loop-at.at c.as_slice-column-items.result.now c.loop-at-test.false)
    in
    c.loop-at.invariant before count listed key
    ∙ ap (λ cs. meaning (places_in (key_first key) (key_second key) 0 0 (before ++ record { name = item.name; columns = column_names cs } ∷ []))) all
