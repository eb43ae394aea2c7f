-- What each part of a query is found to be where it is not to be written, by what is found of the parts below it.
use Rattle.std.proofs.Common.{◌≡◌, ℤ, ℕ, Bool, true, false, not, ◌&&◌, Option, Some, None, List, map, length, refl, sym, ap, ◌∙◌, rules, leb}
use Rattle.std.specs.Option.{option_map}
use Rattle.std.specs.List.{list_all}
use Rattle.std.proofs.lemmas.Simd.{map-map}
use Rattle.std.proofs.lemmas.List.{length-map}
use Rattle.std.proofs.lemmas.List.Folds.{list_all-map}
use Rattle.prefsql_values.specs.declared.value.CompareOp.{CompareOp}
use Rattle.prefsql_tables.specs.declared.place.SortKey.{SortKey}
use Rattle.sql_tree.specs.declared.tree.SqlCond.{SqlCond, And, Or, Not, Compare, Between, OneOf, IsNull, Exists}
use Rattle.sql_tree.specs.declared.tree.SqlCond.TheFolds.{the_lemmas, fold-roll-SqlScalar, fold_out-SqlQuery}
use Rattle.sql_tree.specs.declared.tree.SqlCond.TheOpen.{SqlScalar-F, SqlSource-F, SqlQuery-F}
use Rattle.sql_tree.specs.declared.tree.SqlCond.TheShapes.{former-SqlQuery-filter}
use Rattle.sql_tree.specs.declared.tree.SqlCond.TheViews.{rolls-Case}
use Rattle.sql_tree.specs.declared.tree.SqlScalar.{SqlScalar, Column, Number, Chars, Sum, Case}
use Rattle.sql_tree.specs.declared.tree.SqlPlace.{SqlPlace}
use Rattle.sql_tree.specs.declared.tree.SqlTable.{SqlTable}
use Rattle.sql_tree.specs.declared.tree.SqlSource.{SqlSource, Table, Derived, fold-SqlSource}
use Rattle.sql_tree.specs.declared.tree.SqlFrom.{SqlFrom, fold-SqlFrom}
use Rattle.sql_tree.specs.declared.tree.SqlItem.{SqlItem, fold-SqlItem}
use Rattle.sql_tree.specs.declared.tree.SqlQuery.{SqlQuery, out-SqlQuery, out-roll-SqlQuery}
use Rattle.sql_tree.specs.declared.tree.SumTerm.{SumTerm, fold-SumTerm}
use Rattle.sql_tree.specs.declared.tree.SqlWhen.{SqlWhen, fold-SqlWhen}
use Rattle.sql_tree.specs.Select.{select}
use Rattle.sql_tree.specs.Shown.{View, column_at, number_shape, text_shape}
use Rattle.sql_tree.specs.WellFormed.{JudgedFrom, JudgedItem, JudgedSource, JudgedTerm, JudgedWhen, Level, agrees, cond_step, from_step, is_in_range, is_short, item_step, judged_at, judged_choice, judged_cond, judged_query, judged_scalar, judged_sum, query_step, scalar_step, source_step, term_step, when_step}

-- the parts of a query
abbrev Parts : Type 0
Parts = SqlQuery-F SqlCond SqlScalar SqlSource SqlFrom SqlItem SqlQuery SqlWhen SumTerm

unfoldable pub judged_source : SqlSource → JudgedSource
judged_source = fold-SqlSource _ _ _ _ _ _ _ _ cond_step (scalar_step false) source_step from_step item_step query_step when_step term_step

unfoldable pub judged_from : SqlFrom → JudgedFrom
judged_from = fold-SqlFrom _ _ _ _ _ _ _ _ cond_step (scalar_step false) source_step from_step item_step query_step when_step term_step

unfoldable pub judged_item : SqlItem → View → JudgedItem
judged_item = fold-SqlItem _ _ _ _ _ _ _ _ cond_step (scalar_step false) source_step from_step item_step query_step when_step term_step

unfoldable pub judged_when : SqlWhen → View → JudgedWhen
judged_when = fold-SqlWhen _ _ _ _ _ _ _ _ cond_step (scalar_step false) source_step from_step item_step query_step when_step term_step

unfoldable pub judged_term : SumTerm → View → JudgedTerm
judged_term = fold-SumTerm _ _ _ _ _ _ _ _ cond_step (scalar_step false) source_step from_step item_step query_step when_step term_step

pub judged-And : (parts : List SqlCond) (view : View) → judged_cond false (And parts) view ≡ (leb 2 (length parts) && list_all (λ part. judged_cond false part view) parts)
unfolding judged_cond judged_scalar judged_source judged_from judged_item judged_query judged_when judged_term
judged-And parts view = search (rules, the_lemmas, length-map, list_all-map)

pub judged-Or : (parts : List SqlCond) (view : View) → judged_cond false (Or parts) view ≡ (leb 2 (length parts) && list_all (λ part. judged_cond false part view) parts)
unfolding judged_cond judged_scalar judged_source judged_from judged_item judged_query judged_when judged_term
judged-Or parts view = search (rules, the_lemmas, length-map, list_all-map)

pub judged-Not : (part : SqlCond) (view : View) → judged_cond false (Not part) view ≡ judged_cond false part view
unfolding judged_cond judged_scalar judged_source judged_from judged_item judged_query judged_when judged_term
judged-Not part view = search (rules, the_lemmas)

pub judged-Compare : (op : CompareOp) (a b : SqlScalar) (view : View) → judged_cond false (Compare op a b) view ≡ ((judged_scalar false a view).well && agrees (judged_scalar false a view) (judged_scalar false b view))
unfolding judged_cond judged_scalar judged_source judged_from judged_item judged_query judged_when judged_term
judged-Compare op a b view = search (rules, the_lemmas)

pub judged-Between : (negate : Bool) (a low high : SqlScalar) (view : View) → judged_cond false (Between negate a low high) view
    ≡ (((judged_scalar false a view).well && agrees (judged_scalar false a view) (judged_scalar false low view)) && agrees (judged_scalar false a view) (judged_scalar false high view))
unfolding judged_cond judged_scalar judged_source judged_from judged_item judged_query judged_when judged_term
judged-Between negate a low high view = search (rules, the_lemmas)

pub judged-OneOf : (negate : Bool) (a : SqlScalar) (list : List SqlScalar) (view : View) → judged_cond false (OneOf negate a list) view
    ≡ (((judged_scalar false a view).well && leb 1 (length list)) && list_all (λ b. agrees (judged_scalar false a view) (judged_scalar false b view)) list)
unfolding judged_cond judged_scalar judged_source judged_from judged_item judged_query judged_when judged_term
judged-OneOf negate a list view = search (rules, the_lemmas, length-map, list_all-map)

pub judged-IsNull : (negate : Bool) (a : SqlScalar) (view : View) → judged_cond false (IsNull negate a) view ≡ (judged_scalar false a view).well
unfolding judged_cond judged_scalar judged_source judged_from judged_item judged_query judged_when judged_term
judged-IsNull negate a view = search (rules, the_lemmas)

pub judged-Exists : (query : SqlQuery) (view : View) → judged_cond false (Exists query) view ≡ ((judged_query false query view).well && not (judged_query false query view).has_order)
unfolding judged_cond judged_scalar judged_source judged_from judged_item judged_query judged_when judged_term
judged-Exists query view = search (rules, the_lemmas)

pub judged-Column : (place : SqlPlace) (view : View) → judged_scalar false (Column place) view ≡ record { shape = (column_at view place).shape; well = is_in_range view place; is_sum = false }
unfolding judged_cond judged_scalar judged_source judged_from judged_item judged_query judged_when judged_term
judged-Column place view = search (rules, the_lemmas)

pub judged-Number : (n : ℤ) (view : View) → judged_scalar false (Number n) view ≡ record { shape = number_shape; well = is_short n; is_sum = false }
unfolding judged_cond judged_scalar judged_source judged_from judged_item judged_query judged_when judged_term
judged-Number n view = search (rules, the_lemmas)

pub judged-Chars : (text : List ℕ) (view : View) → judged_scalar false (Chars text) view ≡ record { shape = text_shape; well = true; is_sum = false }
unfolding judged_cond judged_scalar judged_source judged_from judged_item judged_query judged_when judged_term
judged-Chars text view = search (rules, the_lemmas)

pub judged-Sum : (terms : List SumTerm) (view : View) → judged_scalar false (Sum terms) view ≡ judged_sum (map (λ term. judged_term term view) terms)
unfolding judged_cond judged_scalar judged_source judged_from judged_item judged_query judged_when judged_term
judged-Sum terms view = search (rules, the_lemmas, map-map)

judged-Case_None : (whens : List SqlWhen) (view : View) → judged_scalar false (Case whens None) view ≡ judged_choice (map (λ w. judged_when w view) whens) None
unfolding judged_cond judged_scalar judged_source judged_from judged_item judged_query judged_when judged_term
judged-Case_None whens view =
    ap (λ s. judged_scalar false s view) (sym (rolls-Case whens None))
    ∙ (λ j. fold-roll-SqlScalar _ _ _ _ _ _ _ _ cond_step (scalar_step false) source_step from_step item_step query_step when_step term_step (SqlScalar-F.Case whens None) j view)
    ∙ ap (λ ws. judged_choice ws None) (map-map (λ w. w view) judged_when whens)

judged-Case_Some : (whens : List SqlWhen) (last : SqlScalar) (view : View) → judged_scalar false (Case whens (Some last)) view ≡ judged_choice (map (λ w. judged_when w view) whens) (Some (judged_scalar false last view))
unfolding judged_cond judged_scalar judged_source judged_from judged_item judged_query judged_when judged_term
judged-Case_Some whens last view =
    ap (λ s. judged_scalar false s view) (sym (rolls-Case whens (Some last)))
    ∙ (λ j. fold-roll-SqlScalar _ _ _ _ _ _ _ _ cond_step (scalar_step false) source_step from_step item_step query_step when_step term_step (SqlScalar-F.Case whens (Some last)) j view)
    ∙ ap (λ ws. judged_choice ws (Some (judged_scalar false last view))) (map-map (λ w. w view) judged_when whens)

pub judged-Case : (whens : List SqlWhen) (last : Option SqlScalar) (view : View)
    → judged_scalar false (Case whens last) view ≡ judged_choice (map (λ w. judged_when w view) whens) (judged_at view (option_map (judged_scalar false) last))
judged-Case whens None view = judged-Case_None whens view
judged-Case whens (Some last) view = judged-Case_Some whens last view

pub judged_when_is : (when : SqlWhen) (view : View) → judged_when when view ≡ record { cond = judged_cond false when.cond view; value = judged_scalar false when.value view }
unfolding judged_cond judged_scalar judged_source judged_from judged_item judged_query judged_when judged_term
judged_when_is when view = search (rules, the_lemmas)

pub judged_term_is : (term : SumTerm) (view : View) → judged_term term view ≡ record { minus = term.minus; scalar = judged_scalar false term.scalar view }
unfolding judged_cond judged_scalar judged_source judged_from judged_item judged_query judged_when judged_term
judged_term_is term view = search (rules, the_lemmas)

pub judged_item_is : (item : SqlItem) (view : View) → judged_item item view ≡ item_step (record { value = judged_scalar false item.value; name = item.name }) view
unfolding judged_cond judged_scalar judged_source judged_from judged_item judged_query judged_when judged_term
judged_item_is item view = search (rules, the_lemmas)

pub judged_from_is : (from : SqlFrom) → judged_from from ≡ from_step (record { name = from.name; source = judged_source from.source })
unfolding judged_cond judged_scalar judged_source judged_from judged_item judged_query judged_when judged_term
judged_from_is from = search (rules, the_lemmas)

pub judged_source-Table : (table : SqlTable) → judged_source (Table table) ≡ source_step (SqlSource-F.Table table)
unfolding judged_cond judged_scalar judged_source judged_from judged_item judged_query judged_when judged_term
judged_source-Table table = search (rules, the_lemmas)

pub judged_source-Derived : (query : SqlQuery) → judged_source (Derived query) ≡ source_step (SqlSource-F.Derived (judged_query false query))
unfolding judged_cond judged_scalar judged_source judged_from judged_item judged_query judged_when judged_term
judged_source-Derived query = search (rules, the_lemmas)

-- what is found of the parts of a query
abbrev pub layer : Parts → Level SqlQuery-F
layer parts = record {
  distinct = parts.distinct;
  items = map (judged_item) parts.items;
  from = map (judged_from) parts.from;
  filter = option_map (judged_cond false) parts.filter;
  order = parts.order;
}

mapped_filter : (o : Option SqlCond) → former-SqlQuery-filter.map SqlCond (View → Bool) (judged_cond false) o ≡ option_map (judged_cond false) o
mapped_filter None = refl
mapped_filter (Some cond) = refl

abbrev with_filter : SqlQuery → Option (View → Bool) → Level SqlQuery-F
with_filter query filter = record {
  distinct = (out-SqlQuery query).distinct;
  items = map (judged_item) (out-SqlQuery query).items;
  from = map (judged_from) (out-SqlQuery query).from;
  filter = filter;
  order = (out-SqlQuery query).order;
}

judged_out : (query : SqlQuery) → judged_query false query ≡ query_step (layer (out-SqlQuery query))
unfolding judged_cond judged_scalar judged_source judged_from judged_item judged_query judged_when judged_term
judged_out query =
    fold_out-SqlQuery _ _ _ _ _ _ _ _ cond_step (scalar_step false) source_step from_step item_step query_step when_step term_step query
    ∙ ap (λ filter. query_step (with_filter query filter)) (mapped_filter (out-SqlQuery query).filter)

pub judged-select : (distinct : Bool) (items : List SqlItem) (from : List SqlFrom) (filter : Option SqlCond) (order : List SortKey)
    → judged_query false (select distinct items from filter order) ≡ query_step (layer (record { distinct = distinct; items = items; from = from; filter = filter; order = order }))
judged-select distinct items from filter order =
    judged_out (select distinct items from filter order)
    ∙ ap (λ (parts : Parts). query_step (layer parts)) (out-roll-SqlQuery (record { distinct = distinct; items = items; from = from; filter = filter; order = order }))
