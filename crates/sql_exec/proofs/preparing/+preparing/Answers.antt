use Rattle.std.proofs.Common.{rules, All, ◌≡◌, Bool, true, false, List, Option, [], ◌∷◌, IfOk, length, map, refl, sym, ap, ◌∙◌, subst}
use Rattle.std.specs.List.{filter, flat_map}
use Rattle.std.proofs.lemmas.Result.{IfOk-weaker, on_ok_weaker}
use Rattle.prefsql_values.specs.Truth.{is_true}
use Rattle.prefsql_values.specs.declared.truth.Truth.{Truth}
use Rattle.prefsql_tables.specs.Product.{product}
use Rattle.std.specs.Option.{option_map}
use Rattle.sql_tree.specs.declared.tree.SqlCond.TheViews.{the_lemmas}
use Rattle.sql_tree.specs.declared.tree.SqlFrom.{SqlFrom}
use Rattle.sql_tree.specs.declared.tree.SqlItem.{SqlItem}
use Rattle.sql_tree.specs.declared.tree.SqlWhen.{SqlWhen}
use Rattle.sql_tree.specs.declared.tree.SumTerm.{SumTerm}
use Rattle.sql_tree.specs.Fits.{FitsTables, IsTableOf}
use Rattle.sql_tree.specs.Fits.{cond_tables, from_tables, item_tables, scalar_tables, term_tables, when_tables}
use Rattle.sql_exec.proofs.Named as named
use Rattle.prefsql_values.specs.declared.value.Value.{Value}
use Rattle.prefsql_tables.specs.declared.table.AnswerRow.{AnswerRow}
use Rattle.sql_tree.specs.declared.tree.SqlCond.{SqlCond}
use Rattle.sql_tree.specs.declared.tree.SqlQuery.{SqlQuery}
use Rattle.sql_tree.specs.declared.tree.SqlScalar.{SqlScalar}
use Rattle.sql_tree.specs.Meaning.{Scope, Scopes, else_value, place_value}
use Rattle.sql_exec.specs.Wrapping.{from_rows, item_value, rows_in, term_value, truth_in, value_in}
use Rattle.sql_exec.specs.Wrapping as meaning
use Rattle.sql_exec.specs.declared.steps.StepPlan.{StepPlan}
use Rattle.sql_exec.specs.declared.ready.ReadyScalar.{ReadyScalar}
use Rattle.sql_exec.specs.declared.ready.ReadySearch.{ReadySearch}
use Rattle.sql_exec.specs.Preparing.{scopes_kept}
use Rattle.sql_exec.specs.Planned.{JudgesToo, plan_keeps}
use Rattle.sql_exec.specs.Reach.{SpeaksOf}
use Rattle.sql_exec.specs.RowKeys.{is_found}
use Rattle.sql_exec.proofs.Judging.{And_judged, Column_judged, Compare_judged, Compare_turned, all_judged, judged_as, none_judged, one_judged, search_judged}
use Rattle.sql_exec.proofs.Reaches.{more}
use Rattle.sql_exec.specs.Ready.{kept, row_of, truth, value, when_value}
use Rattle.sql_exec.proofs.Prepared as made
use Rattle.sql_exec.proofs.preparing.+preparing.Goals as goal

pub item_rows-returns-in-Table : goal.item_rows-returns-in-Table
item_rows-returns-in-Table t c =
    let P : List AnswerRow → Type 0 = λ all. IfOk c.stored_rows.result (λ rows. rows ≡ all) in
    subst P (made.from_Table c.args.tables.now c.args.item.now c.in-Table.table c.in-Table.is) c.stored_rows.ensures

pub item_rows-returns-in-Derived : goal.item_rows-returns-in-Derived
item_rows-returns-in-Derived t c =
    let P : List AnswerRow → Type 0 = λ all. IfOk c.query_rows.result (λ rows. rows ≡ all) in
    subst P (ap (λ (query : SqlQuery). rows_in c.args.tables.now query []) c.get.ensures ∙ made.from_Derived c.args.tables.now c.args.item.now c.in-Derived.query c.in-Derived.is) c.query_rows.ensures

pub query_rows-returns-then-query : goal.query_rows-returns-then-query
query_rows-returns-then-query t c =
    let P : List AnswerRow → Type 0 = λ all. IfOk c.once.result (λ rows. rows ≡ all) in
    subst P (made.once_kept c.args.tables.now c.args.query.now c.in_ok-rows.rows c.if-query.true c.in_ok-rows.ensures) c.once.ensures

pub query_rows-returns-else-query : goal.query_rows-returns-else-query
query_rows-returns-else-query t c = made.all_kept c.args.tables.now c.args.query.now c.in_ok-rows.rows c.if-query.false c.in_ok-rows.ensures

pub ready_cond-returns-in_ok-parts-in-And : goal.ready_cond-returns-in_ok-parts-in-And
ready_cond-returns-in_ok-parts-in-And t c =
    made.ready_And c.args.tables.now c.args.cond.now c.in-And.parts c.in_ok-parts-in-And.parts c.in-And.is
    (c.in_ok-parts-in-And.ensures ∙ ap (map (truth_in c.args.tables.now)) c.as_slice.ensures)

pub ready_cond-returns-in_ok-parts-in-Or : goal.ready_cond-returns-in_ok-parts-in-Or
ready_cond-returns-in_ok-parts-in-Or t c =
    made.ready_Or c.args.tables.now c.args.cond.now c.in-Or.parts c.in_ok-parts-in-Or.parts c.in-Or.is
    (c.in_ok-parts-in-Or.ensures ∙ ap (map (truth_in c.args.tables.now)) c.as_slice-in-Or.ensures)

pub ready_cond-returns-in_ok-new-in-Not : goal.ready_cond-returns-in_ok-new-in-Not
ready_cond-returns-in_ok-new-in-Not t c =
    made.ready_Not c.args.tables.now c.args.cond.now c.in-Not.part c.in_ok-new-in-Not.field-0 c.in-Not.is
    (ap truth c.in_ok-new-in-Not.ensures ∙ c.in_ok-part-in-Not.ensures ∙ ap (truth_in c.args.tables.now) c.get.ensures)

pub ready_cond-returns-in_ok-b-in-Compare : goal.ready_cond-returns-in_ok-b-in-Compare
ready_cond-returns-in_ok-b-in-Compare t c =
    made.ready_Compare c.args.tables.now c.args.cond.now c.in-Compare.op c.in-Compare.a c.in-Compare.b c.in_ok-a-in-Compare.a c.in_ok-b-in-Compare.b c.in-Compare.is
    c.in_ok-a-in-Compare.ensures c.in_ok-b-in-Compare.ensures

pub ready_cond-returns-in_ok-high-in-Between : goal.ready_cond-returns-in_ok-high-in-Between
ready_cond-returns-in_ok-high-in-Between t c =
    made.ready_Between c.args.tables.now c.args.cond.now c.in-Between.negate c.in-Between.a c.in-Between.low c.in-Between.high
    c.in_ok-a-in-Between.a c.in_ok-low-in-Between.low c.in_ok-high-in-Between.high c.in-Between.is
    c.in_ok-a-in-Between.ensures c.in_ok-low-in-Between.ensures c.in_ok-high-in-Between.ensures

pub ready_cond-returns-in_ok-list-in-OneOf : goal.ready_cond-returns-in_ok-list-in-OneOf
ready_cond-returns-in_ok-list-in-OneOf t c =
    made.ready_OneOf c.args.tables.now c.args.cond.now c.in-OneOf.negate c.in-OneOf.a c.in-OneOf.list c.in_ok-a-in-OneOf.a c.in_ok-list-in-OneOf.list c.in-OneOf.is
    c.in_ok-a-in-OneOf.ensures (c.in_ok-list-in-OneOf.ensures ∙ ap (map (value_in c.args.tables.now)) c.as_slice-in-OneOf.ensures)

pub ready_cond-returns-in_ok-a-in-IsNull : goal.ready_cond-returns-in_ok-a-in-IsNull
ready_cond-returns-in_ok-a-in-IsNull t c =
    made.ready_IsNull c.args.tables.now c.args.cond.now c.in-IsNull.negate c.in-IsNull.a c.in_ok-a-in-IsNull.a c.in-IsNull.is c.in_ok-a-in-IsNull.ensures

pub ready_cond-returns-in_ok-new-in-Exists : goal.ready_cond-returns-in_ok-new-in-Exists
ready_cond-returns-in_ok-new-in-Exists t c =
    made.ready_Exists c.args.tables.now c.args.cond.now c.in-Exists.query c.in_ok-new-in-Exists.field-0 c.in-Exists.is
    (ap (λ (found : ReadySearch). kept found) c.in_ok-new-in-Exists.ensures ∙ c.in_ok-search-in-Exists.ensures ∙ ap (λ (query : SqlQuery). scopes_kept c.args.tables.now query) c.get-in-Exists.ensures)

pub ready_else-returns-in-None : goal.ready_else-returns-in-None
ready_else-returns-in-None t c =
    made.ready_no_else c.args.tables.now ∙ ap (λ (last : Option SqlScalar). else_value (option_map (value_in c.args.tables.now) last)) (sym c.in-None.is)

pub ready_item-returns : goal.ready_item-returns
ready_item-returns t c =
    let P : (Scopes → Value) → Type 0 = λ means. IfOk c.ready_scalar.result (λ ready. value ready ≡ means) in
    subst P (made.item_same c.args.tables.now c.args.item.now) c.ready_scalar.ensures

pub ready_scalar-returns-in-Column : goal.ready_scalar-returns-in-Column
ready_scalar-returns-in-Column t c = made.ready_Column c.args.tables.now c.args.scalar.now c.in-Column.place c.in-Column.is

pub ready_scalar-returns-in-Number : goal.ready_scalar-returns-in-Number
ready_scalar-returns-in-Number t c = made.ready_Number c.args.tables.now c.args.scalar.now c.in-Number.n _ c.in-Number.is (search rules)

pub ready_scalar-returns-in_ok-copy-in-Chars : goal.ready_scalar-returns-in_ok-copy-in-Chars
ready_scalar-returns-in_ok-copy-in-Chars t c =
    made.ready_Chars c.args.tables.now c.args.scalar.now c.in-Chars.text c.in_ok-copy-in-Chars.field-0 c.in-Chars.is c.in_ok-copy-in-Chars.ensures

pub ready_scalar-returns-in_ok-terms-in-Sum : goal.ready_scalar-returns-in_ok-terms-in-Sum
ready_scalar-returns-in_ok-terms-in-Sum t c =
    made.ready_Sum c.args.tables.now c.args.scalar.now c.in-Sum.terms c.in_ok-terms-in-Sum.terms c.in-Sum.is
    (c.in_ok-terms-in-Sum.ensures ∙ ap (map (term_value c.args.tables.now)) c.as_slice.ensures)

pub ready_scalar-returns-in_ok-new-in-Case : goal.ready_scalar-returns-in_ok-new-in-Case
ready_scalar-returns-in_ok-new-in-Case t c =
    made.ready_Case c.args.tables.now c.args.scalar.now c.in-Case.whens c.in-Case.last _ c.in_ok-new-in-Case.field-0 c.in-Case.is
    (ap (map when_value) c.whens.view_is ∙ c.in_ok-whens-in-Case.ensures ∙ ap (map (meaning.when_value c.args.tables.now)) c.as_slice-in-Case.ensures)
    (ap value c.in_ok-new-in-Case.ensures ∙ c.in_ok-last-in-Case.ensures)

pub ready_term-returns-in_ok-new : goal.ready_term-returns-in_ok-new
ready_term-returns-in_ok-new t c =
    made.ready_minus c.args.tables.now c.args.term.now c.in_ok-new.field-0 c.if-term.true (ap value c.in_ok-new.ensures ∙ c.in_ok-scalar.ensures)

pub ready_term-returns-else-term : goal.ready_term-returns-else-term
ready_term-returns-else-term t c = made.ready_plus c.args.tables.now c.args.term.now c.in_ok-scalar.scalar c.if-term.false c.in_ok-scalar.ensures

pub ready_when-returns : goal.ready_when-returns
ready_when-returns t c = made.ready_when c.args.tables.now c.args.when.now _ c.in_ok-cond.ensures c.in_ok-value.ensures

pub rows_selected-returns : goal.rows_selected-returns
rows_selected-returns t c =
    let P : List AnswerRow → Type 0 = λ all. IfOk c.shown.result (λ rows. rows ≡ all) in
    subst P
    (ap (λ (items : List ReadyScalar). map (λ scope. row_of items (scope ∷ [])) (kept c.in_ok-search.search [])) c.as_slice-2.ensures
    ∙ made.ready_rows c.args.tables.now c.args.query.now c.in_ok-search.search c.in_ok-items.items c.in_ok-search.ensures
    (c.in_ok-items.ensures ∙ ap (map (item_value c.args.tables.now)) c.as_slice.ensures))
    c.shown.ensures

pub ready_cond-ready_conds-requires : goal.ready_cond-ready_conds-requires
ready_cond-ready_conds-requires t c = (
  search (rules, the_lemmas),
  subst (λ (parts : List SqlCond). All (IsTableOf c.args.tables.now) (flat_map cond_tables parts)) (sym c.as_slice.ensures) (named.And_there (IsTableOf c.args.tables.now) c.args.cond.now c.in-And.parts c.in-And.is c.requires),
)

pub ready_cond-ready_conds-requires-in-Or : goal.ready_cond-ready_conds-requires-in-Or
ready_cond-ready_conds-requires-in-Or t c = (
  search (rules, the_lemmas),
  subst (λ (parts : List SqlCond). All (IsTableOf c.args.tables.now) (flat_map cond_tables parts)) (sym c.as_slice-in-Or.ensures) (named.Or_there (IsTableOf c.args.tables.now) c.args.cond.now c.in-Or.parts c.in-Or.is c.requires),
)

pub ready_cond-ready_cond-requires : goal.ready_cond-ready_cond-requires
ready_cond-ready_cond-requires t c = (
  search (rules, the_lemmas),
  subst (λ (part : SqlCond). All (IsTableOf c.args.tables.now) (cond_tables part)) (sym c.get.ensures) (named.Not_there (IsTableOf c.args.tables.now) c.args.cond.now c.in-Not.part c.in-Not.is c.requires),
)

pub ready_cond-ready_scalar-requires : goal.ready_cond-ready_scalar-requires
ready_cond-ready_scalar-requires t c = (
  search (rules, the_lemmas),
  named.Compare_left (IsTableOf c.args.tables.now) c.args.cond.now c.in-Compare.op c.in-Compare.a c.in-Compare.b c.in-Compare.is c.requires,
)

pub ready_cond-ready_scalar-requires-in-Compare : goal.ready_cond-ready_scalar-requires-in-Compare
ready_cond-ready_scalar-requires-in-Compare t c = (
  search (rules, the_lemmas),
  named.Compare_right (IsTableOf c.args.tables.now) c.args.cond.now c.in-Compare.op c.in-Compare.a c.in-Compare.b c.in-Compare.is c.requires,
)

pub ready_cond-ready_scalar-requires-in-Between : goal.ready_cond-ready_scalar-requires-in-Between
ready_cond-ready_scalar-requires-in-Between t c = (
  search (rules, the_lemmas),
  named.Between_scalar (IsTableOf c.args.tables.now) c.args.cond.now c.in-Between.negate c.in-Between.a c.in-Between.low c.in-Between.high c.in-Between.is c.requires,
)

pub ready_cond-ready_scalar-requires-in-Between-2 : goal.ready_cond-ready_scalar-requires-in-Between-2
ready_cond-ready_scalar-requires-in-Between-2 t c = (
  search (rules, the_lemmas),
  named.Between_low (IsTableOf c.args.tables.now) c.args.cond.now c.in-Between.negate c.in-Between.a c.in-Between.low c.in-Between.high c.in-Between.is c.requires,
)

pub ready_cond-ready_scalar-requires-in-Between-3 : goal.ready_cond-ready_scalar-requires-in-Between-3
ready_cond-ready_scalar-requires-in-Between-3 t c = (
  search (rules, the_lemmas),
  named.Between_high (IsTableOf c.args.tables.now) c.args.cond.now c.in-Between.negate c.in-Between.a c.in-Between.low c.in-Between.high c.in-Between.is c.requires,
)

pub ready_cond-ready_scalar-requires-in-OneOf : goal.ready_cond-ready_scalar-requires-in-OneOf
ready_cond-ready_scalar-requires-in-OneOf t c = (
  search (rules, the_lemmas),
  named.OneOf_scalar (IsTableOf c.args.tables.now) c.args.cond.now c.in-OneOf.negate c.in-OneOf.a c.in-OneOf.list c.in-OneOf.is c.requires,
)

pub ready_cond-ready_scalars-requires : goal.ready_cond-ready_scalars-requires
ready_cond-ready_scalars-requires t c = (
  search (rules, the_lemmas),
  subst (λ (parts : List SqlScalar). All (IsTableOf c.args.tables.now) (flat_map scalar_tables parts)) (sym c.as_slice-in-OneOf.ensures) (named.OneOf_list (IsTableOf c.args.tables.now) c.args.cond.now c.in-OneOf.negate c.in-OneOf.a c.in-OneOf.list c.in-OneOf.is c.requires),
)

pub ready_cond-ready_scalar-requires-in-IsNull : goal.ready_cond-ready_scalar-requires-in-IsNull
ready_cond-ready_scalar-requires-in-IsNull t c = (
  search (rules, the_lemmas),
  named.IsNull_there (IsTableOf c.args.tables.now) c.args.cond.now c.in-IsNull.negate c.in-IsNull.a c.in-IsNull.is c.requires,
)

pub ready_cond-ready_search-requires : goal.ready_cond-ready_search-requires
ready_cond-ready_search-requires t c = (
  search (rules, the_lemmas),
  subst (λ (query : SqlQuery). FitsTables c.args.tables.now query) (sym c.get-in-Exists.ensures) (named.Exists_there (IsTableOf c.args.tables.now) c.args.cond.now c.in-Exists.query c.in-Exists.is c.requires),
)

pub ready_conds-ready_cond-requires : goal.ready_conds-ready_cond-requires
ready_conds-ready_cond-requires t c = (
  search (rules, the_lemmas),
  named.each_there (IsTableOf c.args.tables.now) cond_tables c.args.conds.now c.loop-cond.cond-index c.cond-item.result c.cond-item.result c.loop-cond-test.true c.cond-item.is c.requires,
)

pub ready_scalars-ready_scalar-requires : goal.ready_scalars-ready_scalar-requires
ready_scalars-ready_scalar-requires t c = (
  search (rules, the_lemmas),
  named.each_there (IsTableOf c.args.tables.now) scalar_tables c.args.scalars.now c.loop-scalar.scalar-index c.scalar-item.result c.scalar-item.result c.loop-scalar-test.true c.scalar-item.is c.requires,
)

pub ready_whens-ready_when-requires : goal.ready_whens-ready_when-requires
ready_whens-ready_when-requires t c = (
  search (rules, the_lemmas),
  named.each_there (IsTableOf c.args.tables.now) when_tables c.args.whens.now c.loop-when.when-index c.when-item.result c.when-item.result c.loop-when-test.true c.when-item.is c.requires,
)

pub ready_terms-ready_term-requires : goal.ready_terms-ready_term-requires
ready_terms-ready_term-requires t c = (
  search (rules, the_lemmas),
  named.each_there (IsTableOf c.args.tables.now) term_tables c.args.terms.now c.loop-term.term-index c.term-item.result c.term-item.result c.loop-term-test.true c.term-item.is c.requires,
)

pub ready_items-ready_item-requires : goal.ready_items-ready_item-requires
ready_items-ready_item-requires t c = (
  search (rules, the_lemmas),
  named.each_there (IsTableOf c.args.tables.now) item_tables c.args.items.now c.loop-item.item-index c.item-item.result c.item-item.result c.loop-item-test.true c.item-item.is c.requires,
)

pub all_rows-item_rows-requires : goal.all_rows-item_rows-requires
all_rows-item_rows-requires t c = (
  search (rules, the_lemmas),
  named.each_there (IsTableOf c.args.tables.now) from_tables c.args.from.now c.loop-item.item-index c.item-item.result c.item-item.result c.loop-item-test.true c.item-item.is c.requires,
)

pub ready_scalar-ready_terms-requires : goal.ready_scalar-ready_terms-requires
ready_scalar-ready_terms-requires t c = (
  search (rules, the_lemmas),
  subst (λ (parts : List SumTerm). All (IsTableOf c.args.tables.now) (flat_map term_tables parts)) (sym c.as_slice.ensures) (named.Sum_there (IsTableOf c.args.tables.now) c.args.scalar.now c.in-Sum.terms c.in-Sum.is c.requires),
)

pub ready_scalar-ready_whens-requires : goal.ready_scalar-ready_whens-requires
ready_scalar-ready_whens-requires t c = (
  search (rules, the_lemmas),
  subst (λ (parts : List SqlWhen). All (IsTableOf c.args.tables.now) (flat_map when_tables parts)) (sym c.as_slice-in-Case.ensures) (named.Case_whens (IsTableOf c.args.tables.now) c.args.scalar.now c.in-Case.whens c.in-Case.last c.in-Case.is c.requires),
)

pub ready_scalar-ready_else-requires : goal.ready_scalar-ready_else-requires
ready_scalar-ready_else-requires t c = (
  search (rules, the_lemmas),
  named.Case_last (IsTableOf c.args.tables.now) c.args.scalar.now c.in-Case.whens c.in-Case.last c.in-Case.is c.requires,
)

pub ready_else-ready_scalar-requires : goal.ready_else-ready_scalar-requires
ready_else-ready_scalar-requires t c = (
  search (rules, the_lemmas),
  subst (λ (scalar : SqlScalar). All (IsTableOf c.args.tables.now) (scalar_tables scalar)) (sym c.get.ensures) (named.some_scalar (IsTableOf c.args.tables.now) c.args.last.now c.in-Some.last c.in-Some.is c.requires),
)

pub ready_when-ready_cond-requires : goal.ready_when-ready_cond-requires
ready_when-ready_cond-requires t c = (
  search (rules, the_lemmas),
  named.when_cond (IsTableOf c.args.tables.now) c.args.when.now c.requires,
)

pub ready_when-ready_scalar-requires : goal.ready_when-ready_scalar-requires
ready_when-ready_scalar-requires t c = (
  search (rules, the_lemmas),
  named.when_scalar (IsTableOf c.args.tables.now) c.args.when.now c.requires,
)

pub ready_term-ready_scalar-requires : goal.ready_term-ready_scalar-requires
ready_term-ready_scalar-requires t c = (
  search (rules, the_lemmas),
  named.term_there (IsTableOf c.args.tables.now) c.args.term.now c.requires,
)

pub ready_item-ready_scalar-requires : goal.ready_item-ready_scalar-requires
ready_item-ready_scalar-requires t c = (
  search (rules, the_lemmas),
  named.item_there (IsTableOf c.args.tables.now) c.args.item.now c.requires,
)

pub item_rows-stored_rows-requires : goal.item_rows-stored_rows-requires
item_rows-stored_rows-requires t c = named.Table_there (IsTableOf c.args.tables.now) c.args.item.now c.in-Table.table c.in-Table.is c.requires

pub item_rows-query_rows-requires : goal.item_rows-query_rows-requires
item_rows-query_rows-requires t c = (
  search (rules, the_lemmas),
  subst (λ (query : SqlQuery). FitsTables c.args.tables.now query) (sym c.get.ensures) (named.Derived_there (IsTableOf c.args.tables.now) c.args.item.now c.in-Derived.query c.in-Derived.is c.requires),
)

pub ready_search-all_rows-requires : goal.ready_search-all_rows-requires
ready_search-all_rows-requires t c = (
  search (rules, the_lemmas),
  subst (λ (from : List SqlFrom). All (IsTableOf c.args.tables.now) (flat_map from_tables from)) (sym c.as_slice.ensures) (named.query_from (IsTableOf c.args.tables.now) c.args.query.now c.requires),
)

pub rows_selected-ready_search-requires : goal.rows_selected-ready_search-requires
rows_selected-ready_search-requires t c = (
  search (rules, the_lemmas),
  c.requires,
)

pub rows_selected-ready_items-requires : goal.rows_selected-ready_items-requires
rows_selected-ready_items-requires t c = (
  search (rules, the_lemmas),
  subst (λ (items : List SqlItem). All (IsTableOf c.args.tables.now) (flat_map item_tables items)) (sym c.as_slice.ensures) (named.query_items (IsTableOf c.args.tables.now) c.args.query.now c.requires),
)

pub query_rows-rows_selected-requires : goal.query_rows-rows_selected-requires
query_rows-rows_selected-requires t c = (
  search (rules, the_lemmas),
  c.requires,
)

-- ---- WHERE, condition by condition

pub find_by-find_by_column-requires : goal.find_by-find_by_column-requires
find_by-find_by_column-requires t c =
    let w = c.in-Compare in
    (search (rules, the_lemmas), named.Compare_right (IsTableOf c.args.tables.now) c.args.cond.now w.op w.a w.b w.is c.requires)

pub find_by-find_by_column-requires-in-Compare : goal.find_by-find_by_column-requires-in-Compare
find_by-find_by_column-requires-in-Compare t c =
    let w = c.in-Compare in
    (search (rules, the_lemmas), named.Compare_left (IsTableOf c.args.tables.now) c.args.cond.now w.op w.a w.b w.is c.requires)

pub find_by-returns-then-branch-clause-found : goal.find_by-returns-then-branch-clause-found
find_by-returns-then-branch-clause-found t c = λ _.
    let w = c.in-Compare in
    judged_as _ _ c.args.plan.now c.find_by_column.new.plan (Compare_judged c.args.tables.now c.args.cond.now w.op w.a w.b w.is (c.is_equality.ensures c.if-not-is_equality.false))
    (c.in_ok-find_by_column-in-Compare.ensures.found c.if-branch.true)

pub find_by-returns-else-branch-clause-found : goal.find_by-returns-else-branch-clause-found
find_by-returns-else-branch-clause-found t c =
    let w = c.in-Compare in
    let tables = c.args.tables.now in
    let new = c.find_by_column-in-Compare.new.plan in
    let told : Scope → Scopes → Bool = λ scope scopes. is_found false (value_in tables w.b (scope ∷ scopes)) (value_in tables w.a (scope ∷ scopes)) in
    let wanted : Scope → Scopes → Bool = λ scope scopes. is_true (truth_in tables c.args.cond.now (scope ∷ scopes)) in
    let as_it_was = c.in_ok-find_by_column-in-Compare.ensures.none c.if-branch.false in
    IfOk-weaker c.find_by_column-in-Compare.result (λ found. found ≡ true → JudgesToo told c.find_by_column.new.plan new) (λ found. found ≡ true → JudgesToo wanted c.args.plan.now new)
    (λ found had is. subst (λ (old : StepPlan). JudgesToo wanted old new) as_it_was (judged_as told wanted c.find_by_column.new.plan new (Compare_turned tables c.args.cond.now w.op w.a w.b w.is (c.is_equality.ensures c.if-not-is_equality.false)) (had is)))
    c.find_by_column-in-Compare.ensures.found

pub find_by_column-find_by_place-requires : goal.find_by_column-find_by_place-requires
find_by_column-find_by_place-requires t c = (search (rules, the_lemmas), c.requires)

pub find_by_column-returns-in-Column-clause-found : goal.find_by_column-returns-in-Column-clause-found
find_by_column-returns-in-Column-clause-found t c =
    let tables = c.args.tables.now in
    let old = c.args.plan.now in
    let new = c.find_by_place.new.plan in
    let told : Scope → Scopes → Bool = λ scope scopes. is_found false (place_value (scope ∷ scopes) c.in-Column.place) (value_in tables c.args.scalar.now (scope ∷ scopes)) in
    let wanted : Scope → Scopes → Bool = λ scope scopes. is_found false (value_in tables c.args.column.now (scope ∷ scopes)) (value_in tables c.args.scalar.now (scope ∷ scopes)) in
    IfOk-weaker c.find_by_place.result (λ found. found ≡ true → JudgesToo told old new) (λ found. found ≡ true → JudgesToo wanted old new)
    (λ found had is. judged_as told wanted old new (Column_judged tables c.args.column.now c.in-Column.place c.args.scalar.now c.in-Column.is) (had is))
    c.find_by_place.ensures.found

pub find_by_place-find_by-requires-clause-speaks : goal.find_by_place-find_by-requires-clause-speaks
find_by_place-find_by-requires-clause-speaks t c =
    let tables = c.args.tables.now in
    subst (λ (f : Scopes → Value). SpeaksOf 0 c.args.place.item f) (sym c.in_ok-ready.ensures)
    (more 0 c.scalar_reach.result c.args.place.item (value_in tables c.args.scalar.now) c.if-scalar_reach-item.false (c.scalar_reach.ensures tables))

pub judge-judge_all-requires : goal.judge-judge_all-requires
judge-judge_all-requires t c = (
  search (rules, the_lemmas),
  subst (λ (parts : List SqlCond). All (IsTableOf c.args.tables.now) (flat_map cond_tables parts)) (sym c.as_slice.ensures) (named.And_there (IsTableOf c.args.tables.now) c.args.cond.now c.in-And.parts c.in-And.is c.requires),
)

pub judge-returns-in-And-clause-judged : goal.judge-returns-in-And-clause-judged
judge-returns-in-And-clause-judged t c =
    let tables = c.args.tables.now in
    on_ok_weaker c.judge_all.result (judged_as _ _ c.args.plan.now c.judge_all.new.plan (And_judged tables c.args.cond.now c.in-And.parts c.as_slice.result.now c.in-And.is c.as_slice.ensures)) c.judge_all.ensures.judged

pub judge_all-judge-requires : goal.judge_all-judge-requires
judge_all-judge-requires t c = (
  search (rules, the_lemmas),
  named.each_there (IsTableOf c.args.tables.now) cond_tables c.args.conds.now c.loop-cond.cond-index c.cond-item.result c.cond-item.result c.loop-cond-test.true c.cond-item.is c.requires,
)

pub judge_all-loop-cond-init : goal.judge_all-loop-cond-init
judge_all-loop-cond-init t c = record { count = refl; judged = none_judged c.args.tables.now c.args.plan.now c.args.conds.now }

pub judge_all-loop-cond-preserved : goal.judge_all-loop-cond-preserved
judge_all-loop-cond-preserved t c = record {
  count = c.in_ok-judge.ensures.count ∙ c.loop-cond.invariant.count;
  judged = one_judged c.args.tables.now c.args.plan.now c.loop-cond.plan c.judge.new.plan c.args.conds.now c.loop-cond.cond-index c.cond-item.result c.cond-item.result c.loop-cond-test.true c.cond-item.is c.loop-cond.invariant.count
      c.loop-cond.invariant.judged c.in_ok-judge.ensures.judged;
}

pub judge_all-returns-clause-judged : goal.judge_all-returns-clause-judged
judge_all-returns-clause-judged t c = all_judged c.args.tables.now c.args.plan.now c.loop-cond.plan c.args.conds.now c.loop-cond.cond-index c.loop-cond-test.false c.loop-cond.invariant.judged

pub judge_one-judge-requires : goal.judge_one-judge-requires
judge_one-judge-requires t c =
    let tables = c.args.tables.now in
    subst (λ (f : Scopes → Truth). SpeaksOf 0 c.cond_reach.result f) (sym c.in_ok-ready.ensures) (c.cond_reach.ensures tables)

pub ready_search-judge_filter-requires : goal.ready_search-judge_filter-requires
ready_search-judge_filter-requires t c = (
  search (rules, the_lemmas),
  named.query_filter (IsTableOf c.args.tables.now) c.args.query.now c.requires,
)

pub ready_search-returns : goal.ready_search-returns
ready_search-returns t c =
    let tables = c.args.tables.now in
    let query = c.args.query.now in
    let rows = c.in_ok-rows.rows in
    let empty = c.in_ok-plan.plan in
    IfOk-weaker c.search.result (λ made. (scopes : Scopes) → kept made scopes ≡ filter (λ scope. plan_keeps c.judge_filter.new.plan scope scopes) (product rows)) (λ ready. kept ready ≡ scopes_kept tables query)
    (λ made finds. search_judged tables query rows empty c.judge_filter.new.plan (c.in_ok-rows.ensures ∙ ap (map (from_rows tables)) c.as_slice.ensures) (c.in_ok-plan.ensures.count ∙ ap length c.as_slice-2.ensures) c.in_ok-plan.ensures.keeps c.in_ok-judge_filter.ensures.judged (kept made) finds)
    c.search.ensures
