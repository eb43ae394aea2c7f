-- How deep the text of each part of a query nests, by how deep that of the parts below it does.
use Rattle.std.proofs.Common.{◌≡◌, ℕ, ℤ, ◌+◌, Bool, rules, Option, Some, None, List, map, ap, ◌∙◌}
use Rattle.std.specs.Prelude.{max}
use Rattle.prefsql_values.specs.Nesting.{Standing, alone, in_and, in_or, after_not, wraps_and, wraps_or, wraps_not, in_parentheses, deepest}
use Rattle.sql_tree.specs.Nesting.{nesting, depth_if, where_depth, cond_step, scalar_step, source_step, from_step, item_step, query_step, when_step, term_step}
use Rattle.std.specs.Option.{option_map}
use Rattle.std.proofs.lemmas.Simd.{map-map}
use Rattle.prefsql_values.specs.declared.value.CompareOp.{CompareOp}
use Rattle.prefsql_tables.specs.declared.place.SortKey.{SortKey}
use Rattle.sql_tree.specs.declared.tree.SqlCond.{SqlCond, roll-SqlCond, fold-SqlCond}
use Rattle.sql_tree.specs.declared.tree.SqlCond.TheOpen.{SqlCond-F, SqlScalar-F, SqlSource-F}
use Rattle.sql_tree.specs.declared.tree.SqlCond.TheFolds.{the_lemmas, fold-roll-SqlCond, fold-roll-SqlScalar, fold-roll-SqlSource, fold-roll-SqlQuery}
use Rattle.sql_tree.specs.declared.tree.SqlScalar.{SqlScalar, roll-SqlScalar, fold-SqlScalar}
use Rattle.sql_tree.specs.declared.tree.SqlPlace.{SqlPlace}
use Rattle.sql_tree.specs.declared.tree.SqlTable.{SqlTable}
use Rattle.sql_tree.specs.declared.tree.SqlSource.{SqlSource, roll-SqlSource, fold-SqlSource}
use Rattle.sql_tree.specs.declared.tree.SqlFrom.{SqlFrom, fold-SqlFrom}
use Rattle.sql_tree.specs.declared.tree.SqlItem.{SqlItem, fold-SqlItem}
use Rattle.sql_tree.specs.declared.tree.SqlQuery.{SqlQuery, roll-SqlQuery}
use Rattle.sql_tree.specs.declared.tree.SumTerm.{SumTerm, fold-SumTerm}
use Rattle.sql_tree.specs.declared.tree.SqlWhen.{SqlWhen, fold-SqlWhen}

unfoldable pub depth_cond : SqlCond → Standing → ℕ
depth_cond = fold-SqlCond _ _ _ _ _ _ _ _ cond_step scalar_step source_step from_step item_step query_step when_step term_step

unfoldable pub depth_scalar : SqlScalar → ℕ
depth_scalar = fold-SqlScalar _ _ _ _ _ _ _ _ cond_step scalar_step source_step from_step item_step query_step when_step term_step

unfoldable pub depth_source : SqlSource → ℕ
depth_source = fold-SqlSource _ _ _ _ _ _ _ _ cond_step scalar_step source_step from_step item_step query_step when_step term_step

unfoldable pub depth_from : SqlFrom → ℕ
depth_from = fold-SqlFrom _ _ _ _ _ _ _ _ cond_step scalar_step source_step from_step item_step query_step when_step term_step

unfoldable pub depth_item : SqlItem → ℕ
depth_item = fold-SqlItem _ _ _ _ _ _ _ _ cond_step scalar_step source_step from_step item_step query_step when_step term_step

unfoldable pub depth_when : SqlWhen → ℕ
depth_when = fold-SqlWhen _ _ _ _ _ _ _ _ cond_step scalar_step source_step from_step item_step query_step when_step term_step

unfoldable pub depth_term : SumTerm → ℕ
depth_term = fold-SumTerm _ _ _ _ _ _ _ _ cond_step scalar_step source_step from_step item_step query_step when_step term_step

pub depth-And : (parts : List SqlCond) (standing : Standing) → depth_cond (roll-SqlCond (SqlCond-F.And parts)) standing ≡ in_parentheses (wraps_and standing) (deepest (map (λ part. depth_cond part in_and) parts))
unfolding depth_cond depth_scalar depth_source depth_from depth_item nesting depth_when depth_term
depth-And parts standing = (λ j. fold-roll-SqlCond _ _ _ _ _ _ _ _ cond_step scalar_step source_step from_step item_step query_step when_step term_step (SqlCond-F.And parts) j standing) ∙ ap (λ ds. in_parentheses (wraps_and standing) (deepest ds)) (map-map (λ (part : Standing → ℕ). part in_and) depth_cond parts)

pub depth-Or : (parts : List SqlCond) (standing : Standing) → depth_cond (roll-SqlCond (SqlCond-F.Or parts)) standing ≡ in_parentheses (wraps_or standing) (deepest (map (λ part. depth_cond part in_or) parts))
unfolding depth_cond depth_scalar depth_source depth_from depth_item nesting depth_when depth_term
depth-Or parts standing = (λ j. fold-roll-SqlCond _ _ _ _ _ _ _ _ cond_step scalar_step source_step from_step item_step query_step when_step term_step (SqlCond-F.Or parts) j standing) ∙ ap (λ ds. in_parentheses (wraps_or standing) (deepest ds)) (map-map (λ (part : Standing → ℕ). part in_or) depth_cond parts)

pub depth-Not : (part : SqlCond) (standing : Standing) → depth_cond (roll-SqlCond (SqlCond-F.Not part)) standing ≡ in_parentheses (wraps_not standing) (depth_cond part after_not)
unfolding depth_cond depth_scalar depth_source depth_from depth_item nesting depth_when depth_term
depth-Not part standing = (λ j. fold-roll-SqlCond _ _ _ _ _ _ _ _ cond_step scalar_step source_step from_step item_step query_step when_step term_step (SqlCond-F.Not part) j standing)

pub depth-Compare : (op : CompareOp) (a b : SqlScalar) (standing : Standing) → depth_cond (roll-SqlCond (SqlCond-F.Compare op a b)) standing ≡ max (depth_scalar a) (depth_scalar b)
unfolding depth_cond depth_scalar depth_source depth_from depth_item nesting depth_when depth_term
depth-Compare op a b standing = (λ j. fold-roll-SqlCond _ _ _ _ _ _ _ _ cond_step scalar_step source_step from_step item_step query_step when_step term_step (SqlCond-F.Compare op a b) j standing)

pub depth-Between : (negated : Bool) (a low high : SqlScalar) (standing : Standing) → depth_cond (roll-SqlCond (SqlCond-F.Between negated a low high)) standing ≡ max (depth_scalar a) (max (depth_scalar low) (depth_scalar high))
unfolding depth_cond depth_scalar depth_source depth_from depth_item nesting depth_when depth_term
depth-Between negated a low high standing = (λ j. fold-roll-SqlCond _ _ _ _ _ _ _ _ cond_step scalar_step source_step from_step item_step query_step when_step term_step (SqlCond-F.Between negated a low high) j standing)

pub depth-OneOf : (negated : Bool) (a : SqlScalar) (list : List SqlScalar) (standing : Standing) → depth_cond (roll-SqlCond (SqlCond-F.OneOf negated a list)) standing ≡ max (depth_scalar a) (deepest (map depth_scalar list) + 1)
unfolding depth_cond depth_scalar depth_source depth_from depth_item nesting depth_when depth_term
depth-OneOf negated a list standing = (λ j. fold-roll-SqlCond _ _ _ _ _ _ _ _ cond_step scalar_step source_step from_step item_step query_step when_step term_step (SqlCond-F.OneOf negated a list) j standing)

pub depth-IsNull : (negated : Bool) (a : SqlScalar) (standing : Standing) → depth_cond (roll-SqlCond (SqlCond-F.IsNull negated a)) standing ≡ depth_scalar a
unfolding depth_cond depth_scalar depth_source depth_from depth_item nesting depth_when depth_term
depth-IsNull negated a standing = (λ j. fold-roll-SqlCond _ _ _ _ _ _ _ _ cond_step scalar_step source_step from_step item_step query_step when_step term_step (SqlCond-F.IsNull negated a) j standing)

pub depth-Exists : (query : SqlQuery) (standing : Standing) → depth_cond (roll-SqlCond (SqlCond-F.Exists query)) standing ≡ nesting query + 1
unfolding depth_cond depth_scalar depth_source depth_from depth_item nesting depth_when depth_term
depth-Exists query standing = (λ j. fold-roll-SqlCond _ _ _ _ _ _ _ _ cond_step scalar_step source_step from_step item_step query_step when_step term_step (SqlCond-F.Exists query) j standing)

pub depth-Column : (place : SqlPlace) → depth_scalar (roll-SqlScalar (SqlScalar-F.Column place)) ≡ 0
unfolding depth_cond depth_scalar depth_source depth_from depth_item nesting depth_when depth_term
depth-Column place = (λ j. fold-roll-SqlScalar _ _ _ _ _ _ _ _ cond_step scalar_step source_step from_step item_step query_step when_step term_step (SqlScalar-F.Column place) j)

pub depth-Number : (n : ℤ) → depth_scalar (roll-SqlScalar (SqlScalar-F.Number n)) ≡ 0
unfolding depth_cond depth_scalar depth_source depth_from depth_item nesting depth_when depth_term
depth-Number n = (λ j. fold-roll-SqlScalar _ _ _ _ _ _ _ _ cond_step scalar_step source_step from_step item_step query_step when_step term_step (SqlScalar-F.Number n) j)

pub depth-Chars : (text : List ℕ) → depth_scalar (roll-SqlScalar (SqlScalar-F.Chars text)) ≡ 0
unfolding depth_cond depth_scalar depth_source depth_from depth_item nesting depth_when depth_term
depth-Chars text = (λ j. fold-roll-SqlScalar _ _ _ _ _ _ _ _ cond_step scalar_step source_step from_step item_step query_step when_step term_step (SqlScalar-F.Chars text) j)

pub depth-Sum : (terms : List SumTerm) → depth_scalar (roll-SqlScalar (SqlScalar-F.Sum terms)) ≡ deepest (map depth_term terms)
unfolding depth_cond depth_scalar depth_source depth_from depth_item nesting depth_when depth_term
depth-Sum terms = (λ j. fold-roll-SqlScalar _ _ _ _ _ _ _ _ cond_step scalar_step source_step from_step item_step query_step when_step term_step (SqlScalar-F.Sum terms) j)

pub depth-Case : (whens : List SqlWhen) (last : Option SqlScalar) → depth_scalar (roll-SqlScalar (SqlScalar-F.Case whens last)) ≡ max (deepest (map depth_when whens)) (depth_if (option_map depth_scalar last)) + 1
unfolding depth_cond depth_scalar depth_source depth_from depth_item nesting depth_when depth_term
depth-Case whens None = (λ j. fold-roll-SqlScalar _ _ _ _ _ _ _ _ cond_step scalar_step source_step from_step item_step query_step when_step term_step (SqlScalar-F.Case whens None) j)
depth-Case whens (Some value) = (λ j. fold-roll-SqlScalar _ _ _ _ _ _ _ _ cond_step scalar_step source_step from_step item_step query_step when_step term_step (SqlScalar-F.Case whens (Some value)) j)

pub depth-Table : (table : SqlTable) → depth_source (roll-SqlSource (SqlSource-F.Table table)) ≡ 0
unfolding depth_cond depth_scalar depth_source depth_from depth_item nesting depth_when depth_term
depth-Table table = (λ j. fold-roll-SqlSource _ _ _ _ _ _ _ _ cond_step scalar_step source_step from_step item_step query_step when_step term_step (SqlSource-F.Table table) j)

pub depth-Derived : (query : SqlQuery) → depth_source (roll-SqlSource (SqlSource-F.Derived query)) ≡ nesting query + 1
unfolding depth_cond depth_scalar depth_source depth_from depth_item nesting depth_when depth_term
depth-Derived query = (λ j. fold-roll-SqlSource _ _ _ _ _ _ _ _ cond_step scalar_step source_step from_step item_step query_step when_step term_step (SqlSource-F.Derived query) j)

pub depth_from_is : (from0 : SqlFrom) → depth_from from0 ≡ depth_source from0.source
unfolding depth_cond depth_scalar depth_source depth_from depth_item nesting depth_when depth_term
depth_from_is from0 = search (rules, the_lemmas)

pub depth_item_is : (item0 : SqlItem) → depth_item item0 ≡ depth_scalar item0.value
unfolding depth_cond depth_scalar depth_source depth_from depth_item nesting depth_when depth_term
depth_item_is item0 = search (rules, the_lemmas)

pub depth_when_is : (when0 : SqlWhen) → depth_when when0 ≡ max (depth_cond when0.cond alone) (depth_scalar when0.value)
unfolding depth_cond depth_scalar depth_source depth_from depth_item nesting depth_when depth_term
depth_when_is when0 = search (rules, the_lemmas)

pub depth_term_is : (term0 : SumTerm) → depth_term term0 ≡ depth_scalar term0.scalar
unfolding depth_cond depth_scalar depth_source depth_from depth_item nesting depth_when depth_term
depth_term_is term0 = search (rules, the_lemmas)

pub depth_query_is : (distinct : Bool) (items : List SqlItem) (from : List SqlFrom) (filter : Option SqlCond) (order : List SortKey) →
    nesting (roll-SqlQuery (record { distinct = distinct; items = items; from = from; filter = filter; order = order })) ≡ max (deepest (map depth_item items)) (max (deepest (map depth_from from)) (where_depth (option_map depth_cond filter)))
unfolding depth_cond depth_scalar depth_source depth_from depth_item nesting depth_when depth_term
depth_query_is distinct items from None order = (λ j. fold-roll-SqlQuery _ _ _ _ _ _ _ _ cond_step scalar_step source_step from_step item_step query_step when_step term_step (record { distinct = distinct; items = items; from = from; filter = None; order = order }) j)
depth_query_is distinct items from (Some cond) order = (λ j. fold-roll-SqlQuery _ _ _ _ _ _ _ _ cond_step scalar_step source_step from_step item_step query_step when_step term_step (record { distinct = distinct; items = items; from = from; filter = (Some cond); order = order }) j)
