-- Whether a query can be written, by its parts.
use Rattle.std.proofs.Common.{◌≡◌, ℕ, ℤ, Bool, true, false, ◌&&◌, rules, Option, Some, None, List, [], ◌∷◌, map, length}
use Rattle.std.specs.Prelude.{nat_le, slice_index_or}
use Rattle.std.specs.List.{list_all}
use Rattle.std.specs.Option.{option_map}
use Rattle.prefsql_values.specs.declared.value.CompareOp.{CompareOp}
use Rattle.prefsql_tables.specs.declared.place.SortKey.{SortKey}
use Rattle.prefsql_tables.specs.declared.schema.Column.{Column}
use Rattle.sql_tree.specs.WellFormed.{is_name, is_short}
use Rattle.sql_tree.specs.declared.tree.SqlCond.{SqlCond, roll-SqlCond}
use Rattle.sql_tree.specs.declared.tree.SqlCond.TheOpen.{SqlCond-F, SqlScalar-F, SqlSource-F}
use Rattle.sql_tree.specs.declared.tree.SqlCond.TheFolds.{the_lemmas, fold-roll-SqlCond, fold-roll-SqlScalar, fold-roll-SqlSource, fold-roll-SqlQuery}
use Rattle.sql_tree.specs.declared.tree.SqlScalar.{SqlScalar, roll-SqlScalar}
use Rattle.sql_tree.specs.declared.tree.SqlPlace.{SqlPlace}
use Rattle.sql_tree.specs.declared.tree.SqlTable.{SqlTable}
use Rattle.sql_tree.specs.declared.tree.SqlSource.{roll-SqlSource}
use Rattle.sql_tree.specs.declared.tree.SqlFrom.{SqlFrom}
use Rattle.sql_tree.specs.declared.tree.SqlItem.{SqlItem}
use Rattle.sql_tree.specs.declared.tree.SqlQuery.{SqlQuery, roll-SqlQuery}
use Rattle.sql_tree.specs.declared.tree.SumTerm.{SumTerm}
use Rattle.sql_tree.specs.declared.tree.SqlWhen.{SqlWhen}
use Rattle.sql_read_back.proofs.Found.{is_found}
use Rattle.sql_text.specs.Text.{Names, item_at}
use Rattle.sql_read_back.proofs.Writable.{FineScalar, FineTerm, FineItem, FineFrom, cond_step, scalar_step, source_step, from_step, item_step, query_step, when_step, term_step, fine_cond, fine_scalar, fine_source, fine_from, fine_item, fine_query, fine_when, fine_term, are_terms, last_fine, filter_fine}

pub fine-And : (ok : SqlTable → Bool) → (parts : List SqlCond) (names : Names) → (fine_cond ok) (roll-SqlCond (SqlCond-F.And parts)) names ≡ nat_le 2 (length (map (fine_cond ok) parts)) && list_all (λ (part : Names → Bool). part names) (map (fine_cond ok) parts)
unfolding fine_cond fine_scalar fine_source fine_from fine_item fine_query fine_when fine_term
fine-And ok parts names = λ j. fold-roll-SqlCond _ _ _ _ _ _ _ _ cond_step scalar_step (source_step ok) from_step item_step query_step when_step term_step (SqlCond-F.And parts) j names

pub fine-Or : (ok : SqlTable → Bool) → (parts : List SqlCond) (names : Names) → (fine_cond ok) (roll-SqlCond (SqlCond-F.Or parts)) names ≡ nat_le 2 (length (map (fine_cond ok) parts)) && list_all (λ (part : Names → Bool). part names) (map (fine_cond ok) parts)
unfolding fine_cond fine_scalar fine_source fine_from fine_item fine_query fine_when fine_term
fine-Or ok parts names = λ j. fold-roll-SqlCond _ _ _ _ _ _ _ _ cond_step scalar_step (source_step ok) from_step item_step query_step when_step term_step (SqlCond-F.Or parts) j names

pub fine-Not : (ok : SqlTable → Bool) → (part : SqlCond) (names : Names) → (fine_cond ok) (roll-SqlCond (SqlCond-F.Not part)) names ≡ (fine_cond ok) part names
unfolding fine_cond fine_scalar fine_source fine_from fine_item fine_query fine_when fine_term
fine-Not ok part names = λ j. fold-roll-SqlCond _ _ _ _ _ _ _ _ cond_step scalar_step (source_step ok) from_step item_step query_step when_step term_step (SqlCond-F.Not part) j names

pub fine-Compare : (ok : SqlTable → Bool) → (op : CompareOp) (a b : SqlScalar) (names : Names) → (fine_cond ok) (roll-SqlCond (SqlCond-F.Compare op a b)) names ≡ ((fine_scalar ok) a names).fine && ((fine_scalar ok) b names).fine
unfolding fine_cond fine_scalar fine_source fine_from fine_item fine_query fine_when fine_term
fine-Compare ok op a b names = λ j. fold-roll-SqlCond _ _ _ _ _ _ _ _ cond_step scalar_step (source_step ok) from_step item_step query_step when_step term_step (SqlCond-F.Compare op a b) j names

pub fine-Between : (ok : SqlTable → Bool) → (negated : Bool) (a low high : SqlScalar) (names : Names) → (fine_cond ok) (roll-SqlCond (SqlCond-F.Between negated a low high)) names ≡ ((fine_scalar ok) a names).fine && (((fine_scalar ok) low names).fine && ((fine_scalar ok) high names).fine)
unfolding fine_cond fine_scalar fine_source fine_from fine_item fine_query fine_when fine_term
fine-Between ok negated a low high names = λ j. fold-roll-SqlCond _ _ _ _ _ _ _ _ cond_step scalar_step (source_step ok) from_step item_step query_step when_step term_step (SqlCond-F.Between negated a low high) j names

pub fine-OneOf : (ok : SqlTable → Bool) → (negated : Bool) (a : SqlScalar) (list : List SqlScalar) (names : Names) → (fine_cond ok) (roll-SqlCond (SqlCond-F.OneOf negated a list)) names ≡ ((fine_scalar ok) a names).fine && (nat_le 1 (length (map (fine_scalar ok) list)) && list_all (λ (b : Names → FineScalar). (b names).fine) (map (fine_scalar ok) list))
unfolding fine_cond fine_scalar fine_source fine_from fine_item fine_query fine_when fine_term
fine-OneOf ok negated a list names = λ j. fold-roll-SqlCond _ _ _ _ _ _ _ _ cond_step scalar_step (source_step ok) from_step item_step query_step when_step term_step (SqlCond-F.OneOf negated a list) j names

pub fine-IsNull : (ok : SqlTable → Bool) → (negated : Bool) (a : SqlScalar) (names : Names) → (fine_cond ok) (roll-SqlCond (SqlCond-F.IsNull negated a)) names ≡ ((fine_scalar ok) a names).fine
unfolding fine_cond fine_scalar fine_source fine_from fine_item fine_query fine_when fine_term
fine-IsNull ok negated a names = λ j. fold-roll-SqlCond _ _ _ _ _ _ _ _ cond_step scalar_step (source_step ok) from_step item_step query_step when_step term_step (SqlCond-F.IsNull negated a) j names

pub fine-Exists : (ok : SqlTable → Bool) → (query : SqlQuery) (names : Names) → (fine_cond ok) (roll-SqlCond (SqlCond-F.Exists query)) names ≡ ((fine_query ok) query).fine names
unfolding fine_cond fine_scalar fine_source fine_from fine_item fine_query fine_when fine_term
fine-Exists ok query names = λ j. fold-roll-SqlCond _ _ _ _ _ _ _ _ cond_step scalar_step (source_step ok) from_step item_step query_step when_step term_step (SqlCond-F.Exists query) j names

pub fine-Column : (ok : SqlTable → Bool) → (place : SqlPlace) (names : Names) → (fine_scalar ok) (roll-SqlScalar (SqlScalar-F.Column place)) names ≡ record { fine = is_found names place && (is_name (item_at names place).name && is_name (slice_index_or (item_at names place).columns place.column [])); is_sum = false }
unfolding fine_cond fine_scalar fine_source fine_from fine_item fine_query fine_when fine_term
fine-Column ok place names = λ j. fold-roll-SqlScalar _ _ _ _ _ _ _ _ cond_step scalar_step (source_step ok) from_step item_step query_step when_step term_step (SqlScalar-F.Column place) j names

pub fine-Number : (ok : SqlTable → Bool) → (n : ℤ) (names : Names) → (fine_scalar ok) (roll-SqlScalar (SqlScalar-F.Number n)) names ≡ record { fine = is_short n; is_sum = false }
unfolding fine_cond fine_scalar fine_source fine_from fine_item fine_query fine_when fine_term
fine-Number ok n names = λ j. fold-roll-SqlScalar _ _ _ _ _ _ _ _ cond_step scalar_step (source_step ok) from_step item_step query_step when_step term_step (SqlScalar-F.Number n) j names

pub fine-Chars : (ok : SqlTable → Bool) → (text : List ℕ) (names : Names) → (fine_scalar ok) (roll-SqlScalar (SqlScalar-F.Chars text)) names ≡ record { fine = true; is_sum = false }
unfolding fine_cond fine_scalar fine_source fine_from fine_item fine_query fine_when fine_term
fine-Chars ok text names = λ j. fold-roll-SqlScalar _ _ _ _ _ _ _ _ cond_step scalar_step (source_step ok) from_step item_step query_step when_step term_step (SqlScalar-F.Chars text) j names

pub fine-Sum : (ok : SqlTable → Bool) → (terms : List SumTerm) (names : Names) → (fine_scalar ok) (roll-SqlScalar (SqlScalar-F.Sum terms)) names ≡ record { fine = are_terms (map (λ (term : Names → FineTerm). term names) (map (fine_term ok) terms)); is_sum = true }
unfolding fine_cond fine_scalar fine_source fine_from fine_item fine_query fine_when fine_term
fine-Sum ok terms names = λ j. fold-roll-SqlScalar _ _ _ _ _ _ _ _ cond_step scalar_step (source_step ok) from_step item_step query_step when_step term_step (SqlScalar-F.Sum terms) j names

pub fine-Case : (ok : SqlTable → Bool) → (whens : List SqlWhen) (last : Option SqlScalar) (names : Names) → (fine_scalar ok) (roll-SqlScalar (SqlScalar-F.Case whens last)) names ≡ record { fine = nat_le 1 (length (map (fine_when ok) whens)) && (list_all (λ (when : Names → Bool). when names) (map (fine_when ok) whens) && last_fine (option_map (fine_scalar ok) last) names); is_sum = false }
unfolding fine_cond fine_scalar fine_source fine_from fine_item fine_query fine_when fine_term
fine-Case ok whens None names = λ j. fold-roll-SqlScalar _ _ _ _ _ _ _ _ cond_step scalar_step (source_step ok) from_step item_step query_step when_step term_step (SqlScalar-F.Case whens None) j names
fine-Case ok whens (Some value) names = λ j. fold-roll-SqlScalar _ _ _ _ _ _ _ _ cond_step scalar_step (source_step ok) from_step item_step query_step when_step term_step (SqlScalar-F.Case whens (Some value)) j names

pub fine_term_is : (ok : SqlTable → Bool) → (term : SumTerm) (names : Names) → (fine_term ok) term names ≡ record { minus = term.minus; scalar = (fine_scalar ok) term.scalar names }
unfolding fine_cond fine_scalar fine_source fine_from fine_item fine_query fine_when fine_term
fine_term_is ok term names = search (rules, the_lemmas)

pub fine_when_is : (ok : SqlTable → Bool) → (when : SqlWhen) (names : Names) → (fine_when ok) when names ≡ (fine_cond ok) when.cond names && ((fine_scalar ok) when.value names).fine
unfolding fine_cond fine_scalar fine_source fine_from fine_item fine_query fine_when fine_term
fine_when_is ok when names = search (rules, the_lemmas)

pub fine_item_is : (ok : SqlTable → Bool) → (item : SqlItem) (names : Names) → ((fine_item ok) item).fine names ≡ is_name item.name && ((fine_scalar ok) item.value names).fine
unfolding fine_cond fine_scalar fine_source fine_from fine_item fine_query fine_when fine_term
fine_item_is ok item names = search (rules, the_lemmas)

pub fine_from_is : (ok : SqlTable → Bool) → (from : SqlFrom) → ((fine_from ok) from).fine ≡ is_name from.name && ((fine_source ok) from.source).fine
unfolding fine_cond fine_scalar fine_source fine_from fine_item fine_query fine_when fine_term
fine_from_is ok from = search (rules, the_lemmas)

pub fine-Table : (ok : SqlTable → Bool) → (table : SqlTable) → ((fine_source ok) (roll-SqlSource (SqlSource-F.Table table))).fine ≡ ok table && is_name table.name
unfolding fine_cond fine_scalar fine_source fine_from fine_item fine_query fine_when fine_term
fine-Table ok table = λ j. (fold-roll-SqlSource _ _ _ _ _ _ _ _ cond_step scalar_step (source_step ok) from_step item_step query_step when_step term_step (SqlSource-F.Table table) j).fine

pub fine-Derived : (ok : SqlTable → Bool) → (query : SqlQuery) → ((fine_source ok) (roll-SqlSource (SqlSource-F.Derived query))).fine ≡ ((fine_query ok) query).fine []
unfolding fine_cond fine_scalar fine_source fine_from fine_item fine_query fine_when fine_term
fine-Derived ok query = λ j. (fold-roll-SqlSource _ _ _ _ _ _ _ _ cond_step scalar_step (source_step ok) from_step item_step query_step when_step term_step (SqlSource-F.Derived query) j).fine

-- the names in scope within a query, as they are judged
abbrev pub fine_names : (ok : SqlTable → Bool) → List SqlFrom → Names → Names
fine_names ok from outer = map (λ (f : FineFrom). f.names) (map (fine_from ok) from) ∷ outer

pub fine_query_is : (ok : SqlTable → Bool) → (distinct : Bool) (items : List SqlItem) (from : List SqlFrom) (filter : Option SqlCond) (order : List SortKey) (outer : Names) →
    ((fine_query ok) (roll-SqlQuery (record { distinct = distinct; items = items; from = from; filter = filter; order = order }))).fine outer
    ≡ (nat_le 1 (length (map (fine_item ok) items)) && list_all (λ (item : FineItem). item.fine (fine_names ok from outer)) (map (fine_item ok) items))
    && ((nat_le 1 (length (map (fine_from ok) from)) && list_all (λ (f : FineFrom). f.fine) (map (fine_from ok) from)) && filter_fine (option_map (fine_cond ok) filter) (fine_names ok from outer))
unfolding fine_cond fine_scalar fine_source fine_from fine_item fine_query fine_when fine_term
fine_query_is ok distinct items from None order outer = λ j. (fold-roll-SqlQuery _ _ _ _ _ _ _ _ cond_step scalar_step (source_step ok) from_step item_step query_step when_step term_step (record { distinct = distinct; items = items; from = from; filter = None; order = order }) j).fine outer
fine_query_is ok distinct items from (Some cond) order outer = λ j. (fold-roll-SqlQuery _ _ _ _ _ _ _ _ cond_step scalar_step (source_step ok) from_step item_step query_step when_step term_step (record { distinct = distinct; items = items; from = from; filter = Some cond; order = order }) j).fine outer

pub fine_item_name_is : (ok : SqlTable → Bool) → (item : SqlItem) → ((fine_item ok) item).name ≡ item.name
unfolding fine_cond fine_scalar fine_source fine_from fine_item fine_query fine_when fine_term
fine_item_name_is ok item = search (rules, the_lemmas)

pub fine_from_names_is : (ok : SqlTable → Bool) → (from : SqlFrom) → ((fine_from ok) from).names ≡ record { name = from.name; columns = ((fine_source ok) from.source).columns }
unfolding fine_cond fine_scalar fine_source fine_from fine_item fine_query fine_when fine_term
fine_from_names_is ok from = search (rules, the_lemmas)

pub fine_columns-Table : (ok : SqlTable → Bool) → (table : SqlTable) → ((fine_source ok) (roll-SqlSource (SqlSource-F.Table table))).columns ≡ map (λ (column : Column). column.name) table.schema.columns
unfolding fine_cond fine_scalar fine_source fine_from fine_item fine_query fine_when fine_term
fine_columns-Table ok table = λ j. (fold-roll-SqlSource _ _ _ _ _ _ _ _ cond_step scalar_step (source_step ok) from_step item_step query_step when_step term_step (SqlSource-F.Table table) j).columns

pub fine_columns-Derived : (ok : SqlTable → Bool) → (query : SqlQuery) → ((fine_source ok) (roll-SqlSource (SqlSource-F.Derived query))).columns ≡ ((fine_query ok) query).columns
unfolding fine_cond fine_scalar fine_source fine_from fine_item fine_query fine_when fine_term
fine_columns-Derived ok query = λ j. (fold-roll-SqlSource _ _ _ _ _ _ _ _ cond_step scalar_step (source_step ok) from_step item_step query_step when_step term_step (SqlSource-F.Derived query) j).columns

pub fine_columns-query : (ok : SqlTable → Bool) → (distinct : Bool) (items : List SqlItem) (from : List SqlFrom) (filter : Option SqlCond) (order : List SortKey) →
    ((fine_query ok) (roll-SqlQuery (record { distinct = distinct; items = items; from = from; filter = filter; order = order }))).columns ≡ map (λ (item : FineItem). item.name) (map (fine_item ok) items)
unfolding fine_cond fine_scalar fine_source fine_from fine_item fine_query fine_when fine_term
fine_columns-query ok distinct items from filter order = λ j. (fold-roll-SqlQuery _ _ _ _ _ _ _ _ cond_step scalar_step (source_step ok) from_step item_step query_step when_step term_step (record { distinct = distinct; items = items; from = from; filter = filter; order = order }) j).columns
