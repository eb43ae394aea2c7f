-- Which queries can be written over a set of tables so that their text gives their parts back: names and numbers keep the limits of tokens, and lists have
-- the parts that the grammar asks for; and the name of each column means that column and no other.
use Rattle.std.specs.Prelude.{ℕ, Bool, true, false, not, ◌&&◌, nat_le, List, [], ◌∷◌, map, length, Option, Some, None, slice_index_or}
use Rattle.std.specs.List.{list_all}
use Rattle.prefsql_tables.specs.declared.schema.Column.{Column}
use Rattle.sql_tree.specs.WellFormed.{is_name, is_short}
use Rattle.sql_tree.specs.declared.tree.SqlCond.{SqlCond, fold-SqlCond}
use Rattle.sql_tree.specs.declared.tree.SqlCond.TheOpen.{SqlCond-F, SqlScalar-F, SqlSource-F, SqlFrom-F, SqlItem-F, SqlQuery-F, SqlWhen-F, SumTerm-F}
use Rattle.sql_tree.specs.declared.tree.SqlScalar.{SqlScalar, fold-SqlScalar}
use Rattle.sql_tree.specs.declared.tree.SqlSource.{SqlSource, fold-SqlSource}
use Rattle.sql_tree.specs.declared.tree.SqlTable.{SqlTable}
use Rattle.sql_tree.specs.declared.tree.SqlFrom.{SqlFrom, fold-SqlFrom}
use Rattle.sql_tree.specs.declared.tree.SqlItem.{SqlItem, fold-SqlItem}
use Rattle.sql_tree.specs.declared.tree.SqlQuery.{SqlQuery, fold-SqlQuery}
use Rattle.sql_tree.specs.declared.tree.SqlWhen.{SqlWhen, fold-SqlWhen}
use Rattle.sql_tree.specs.declared.tree.SumTerm.{SumTerm, fold-SumTerm}
use Rattle.sql_read_back.proofs.Found.{is_found}
use Rattle.sql_text.specs.Text.{Names, ItemNames, item_at}

-- whether it can be written, and whether it is a sum
pub record FineScalar : Type 0 where
  pub fine : Bool
  pub is_sum : Bool

pub record FineTerm : Type 0 where
  pub minus : Bool
  pub scalar : FineScalar

pub record FineItem : Type 0 where
  pub name : List ℕ
  pub fine : Names → Bool

pub record FineQuery : Type 0 where
  pub columns : List (List ℕ)
  pub fine : Names → Bool

pub record FineSource : Type 0 where
  pub columns : List (List ℕ)
  pub fine : Bool

pub record FineFrom : Type 0 where
  pub names : ItemNames
  pub fine : Bool

abbrev pub Layer : (Type 0 → Type 0 → Type 0 → Type 0 → Type 0 → Type 0 → Type 0 → Type 0 → Type 0) → Type 0
Layer F = F (Names → Bool) (Names → FineScalar) FineSource FineFrom FineItem FineQuery (Names → Bool) (Names → FineTerm)

abbrev pub cond_step : Layer SqlCond-F → Names → Bool
cond_step (SqlCond-F.And parts) names = nat_le 2 (length parts) && list_all (λ part. part names) parts
cond_step (SqlCond-F.Or parts) names = nat_le 2 (length parts) && list_all (λ part. part names) parts
cond_step (SqlCond-F.Not part) names = part names
cond_step (SqlCond-F.Compare op a b) names = (a names).fine && (b names).fine
cond_step (SqlCond-F.Between negated a low high) names = (a names).fine && ((low names).fine && (high names).fine)
cond_step (SqlCond-F.OneOf negated a list) names = (a names).fine && (nat_le 1 (length list) && list_all (λ b. (b names).fine) list)
cond_step (SqlCond-F.IsNull negated a) names = (a names).fine
cond_step (SqlCond-F.Exists query) names = query.fine names

-- a term is no sum
abbrev pub is_term : FineTerm → Bool
is_term term = term.scalar.fine && not term.scalar.is_sum

-- the first term of a sum has no minus, and there is a second
abbrev pub are_terms : List FineTerm → Bool
are_terms [] = false
are_terms (first ∷ more) = not first.minus && (nat_le 1 (length more) && list_all is_term (first ∷ more))

abbrev pub last_fine : Option (Names → FineScalar) → Names → Bool
last_fine None names = true
last_fine (Some value) names = (value names).fine

abbrev pub scalar_step : Layer SqlScalar-F → Names → FineScalar
scalar_step (SqlScalar-F.Column place) names =
    record { fine = is_found names place && (is_name (item_at names place).name && is_name (slice_index_or (item_at names place).columns place.column [])); is_sum = false }
scalar_step (SqlScalar-F.Number n) names = record { fine = is_short n; is_sum = false }
scalar_step (SqlScalar-F.Chars text) names = record { fine = true; is_sum = false }
scalar_step (SqlScalar-F.Sum terms) names = record { fine = are_terms (map (λ term. term names) terms); is_sum = true }
scalar_step (SqlScalar-F.Case whens last) names =
    record { fine = nat_le 1 (length whens) && (list_all (λ when. when names) whens && last_fine last names); is_sum = false }

abbrev pub when_step : Layer SqlWhen-F → Names → Bool
when_step when names = when.cond names && (when.value names).fine

abbrev pub term_step : Layer SumTerm-F → Names → FineTerm
term_step term names = record { minus = term.minus; scalar = term.scalar names }

abbrev pub item_step : Layer SqlItem-F → FineItem
item_step item = record { name = item.name; fine = λ names. is_name item.name && (item.value names).fine }

-- where this says of the tables that they are those of a set
abbrev pub source_step : (SqlTable → Bool) → Layer SqlSource-F → FineSource
source_step ok (SqlSource-F.Table table) = record { columns = map (λ (column : Column). column.name) table.schema.columns; fine = ok table && is_name table.name }
source_step ok (SqlSource-F.Derived query) = record { columns = query.columns; fine = query.fine [] }

abbrev pub from_step : Layer SqlFrom-F → FineFrom
from_step from = record { names = record { name = from.name; columns = from.source.columns }; fine = is_name from.name && from.source.fine }

abbrev pub filter_fine : Option (Names → Bool) → Names → Bool
filter_fine None names = true
filter_fine (Some cond) names = cond names

abbrev pub query_step : Layer SqlQuery-F → FineQuery
query_step query = record {
  columns = map (λ (item : FineItem). item.name) query.items;
  fine = λ outer.
      let names : Names = map (λ (from : FineFrom). from.names) query.from ∷ outer in
      (nat_le 1 (length query.items) && list_all (λ (item : FineItem). item.fine names) query.items)
      && ((nat_le 1 (length query.from) && list_all (λ (from : FineFrom). from.fine) query.from) && filter_fine query.filter names);
}

unfoldable pub fine_cond : (SqlTable → Bool) → SqlCond → Names → Bool
fine_cond ok = fold-SqlCond _ _ _ _ _ _ _ _ cond_step scalar_step (source_step ok) from_step item_step query_step when_step term_step

unfoldable pub fine_scalar : (SqlTable → Bool) → SqlScalar → Names → FineScalar
fine_scalar ok = fold-SqlScalar _ _ _ _ _ _ _ _ cond_step scalar_step (source_step ok) from_step item_step query_step when_step term_step

unfoldable pub fine_source : (SqlTable → Bool) → SqlSource → FineSource
fine_source ok = fold-SqlSource _ _ _ _ _ _ _ _ cond_step scalar_step (source_step ok) from_step item_step query_step when_step term_step

unfoldable pub fine_from : (SqlTable → Bool) → SqlFrom → FineFrom
fine_from ok = fold-SqlFrom _ _ _ _ _ _ _ _ cond_step scalar_step (source_step ok) from_step item_step query_step when_step term_step

unfoldable pub fine_item : (SqlTable → Bool) → SqlItem → FineItem
fine_item ok = fold-SqlItem _ _ _ _ _ _ _ _ cond_step scalar_step (source_step ok) from_step item_step query_step when_step term_step

unfoldable pub fine_query : (SqlTable → Bool) → SqlQuery → FineQuery
fine_query ok = fold-SqlQuery _ _ _ _ _ _ _ _ cond_step scalar_step (source_step ok) from_step item_step query_step when_step term_step

unfoldable pub fine_when : (SqlTable → Bool) → SqlWhen → Names → Bool
fine_when ok = fold-SqlWhen _ _ _ _ _ _ _ _ cond_step scalar_step (source_step ok) from_step item_step query_step when_step term_step

unfoldable pub fine_term : (SqlTable → Bool) → SumTerm → Names → FineTerm
fine_term ok = fold-SumTerm _ _ _ _ _ _ _ _ cond_step scalar_step (source_step ok) from_step item_step query_step when_step term_step
