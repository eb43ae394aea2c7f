-- What is true of each tree that the grammar of SQL scripts builds from tokens: names have 1 to 64
-- characters and numbers at most eighteen digits, no list is too short, and no sum stands in a sum.
-- These bounds and shapes are this project's own.
use Rattle.std.specs.Prelude.{ℕ, Bool, true, false, ◌&&◌, not, IsTrue, All, nat_le, List, [], ◌∷◌}
use Rattle.std.specs.Prelude.{length, map, Option, Some, None}
use Rattle.std.specs.List.{list_all}
use Rattle.prefsql_values.specs.declared.value.Value.{Value}
use Rattle.prefsql_values.specs.declared.value.Value.TheVariants.{Num, Str, Null}
use Rattle.query_tree.specs.declared.name.NameTree.{NameTree}
use Rattle.query_tree.specs.declared.query.OrderTree.{OrderTree}
use Rattle.query_tree.specs.declared.query.OrderName.{OrderName}
use Rattle.query_tree.specs.declared.query.OrderName.TheVariants.{Name, Position}
use Rattle.sql_tree.specs.WellFormed.{is_name, is_short}
use Rattle.sql_text.specs.declared.named.NamedCond.{NamedCond, fold-NamedCond}
use Rattle.sql_text.specs.declared.named.NamedCond.TheOpen.{NamedCond-F, NamedFrom-F, NamedScalar-F}
use Rattle.sql_text.specs.declared.named.NamedCond.TheOpen.{NamedSelect-F, NamedItem-F}
use Rattle.sql_text.specs.declared.named.NamedCond.TheOpen.{NamedQuery-F, NamedTerm-F, NamedWhen-F}
use Rattle.sql_text.specs.declared.named.NamedFrom.{NamedFrom, fold-NamedFrom}
use Rattle.sql_text.specs.declared.named.NamedScalar.{NamedScalar, fold-NamedScalar}
use Rattle.sql_text.specs.declared.named.NamedSelect.{NamedSelect, fold-NamedSelect}
use Rattle.sql_text.specs.declared.named.NamedItem.{NamedItem, fold-NamedItem}
use Rattle.sql_text.specs.declared.named.NamedQuery.{NamedQuery, fold-NamedQuery}
use Rattle.sql_text.specs.declared.named.NamedTerm.{NamedTerm, fold-NamedTerm}
use Rattle.sql_text.specs.declared.named.NamedWhen.{NamedWhen, fold-NamedWhen}
use Rattle.sql_text.specs.declared.named.NamedStatement.{NamedStatement}

-- ---- names, literals and lists

-- a name that may be left out
abbrev pub is_name_if : Option (List ℕ) → Bool
is_name_if None = true
is_name_if (Some name) = is_name name

abbrev pub is_column : NameTree → Bool
is_column name = is_name name.first && is_name_if name.second

abbrev pub is_literal : Value → Bool
is_literal (Num n) = is_short n
is_literal (Str text) = true
is_literal Null = false

-- at least so many parts, each well made
abbrev pub all_of : ℕ → List Bool → Bool
all_of least parts = nat_le least (length parts) && list_all (λ part. part) parts

-- ---- part by part

-- whether a scalar is well made, and whether it is a sum
pub record MadeScalar : Type 0 where
  pub well : Bool
  pub is_sum : Bool

pub record MadeTerm : Type 0 where
  pub minus : Bool
  pub scalar : MadeScalar

abbrev pub Layer
    : (Type 0 → Type 0 → Type 0 → Type 0 → Type 0 → Type 0 → Type 0 → Type 0 → Type 0) → Type 0
Layer F = F Bool Bool MadeScalar Bool Bool Bool MadeTerm Bool

abbrev pub cond_step : Layer NamedCond-F → Bool
cond_step (NamedCond-F.And parts) = all_of 2 parts
cond_step (NamedCond-F.Or parts) = all_of 2 parts
cond_step (NamedCond-F.Not part) = part
cond_step (NamedCond-F.Compare op a b) = a.well && b.well
cond_step (NamedCond-F.Between negated a low high) = a.well && (low.well && high.well)
cond_step (NamedCond-F.OneOf negated a list) =
    a.well && all_of 1 (map (λ (b : MadeScalar). b.well) list)
cond_step (NamedCond-F.IsNull negated a) = a.well
cond_step (NamedCond-F.Exists query) = query

-- a term is no sum
abbrev pub is_term : MadeTerm → Bool
is_term term = term.scalar.well && not term.scalar.is_sum

abbrev pub first_is_plus : List MadeTerm → Bool
first_is_plus [] = true
first_is_plus (term ∷ terms) = not term.minus

abbrev pub is_otherwise : Option MadeScalar → Bool
is_otherwise None = true
is_otherwise (Some value) = value.well

abbrev pub scalar_step : Layer NamedScalar-F → MadeScalar
scalar_step (NamedScalar-F.Column name) = record { well = is_column name; is_sum = false }
scalar_step (NamedScalar-F.Literal literal) =
    record { well = is_literal literal.value; is_sum = false }
scalar_step (NamedScalar-F.Sum terms) =
    record { well = first_is_plus terms && all_of 2 (map is_term terms); is_sum = true }
scalar_step (NamedScalar-F.Case at whens last) =
    record { well = all_of 1 whens && is_otherwise last; is_sum = false }

abbrev pub term_step : Layer NamedTerm-F → MadeTerm
term_step term = record { minus = term.minus; scalar = term.scalar }

abbrev pub when_step : Layer NamedWhen-F → Bool
when_step when = when.cond && when.value.well

abbrev pub item_step : Layer NamedItem-F → Bool
item_step item = item.value.well && is_name_if item.name

abbrev pub select_step : Layer NamedSelect-F → Bool
select_step NamedSelect-F.All = true
select_step (NamedSelect-F.Items items) = all_of 1 items

abbrev pub from_step : Layer NamedFrom-F → Bool
from_step (NamedFrom-F.Table tree) = is_name tree.table && is_name_if tree.name
from_step (NamedFrom-F.Derived query name at) = query && is_name name

abbrev pub is_filter : Option Bool → Bool
is_filter None = true
is_filter (Some cond) = cond

abbrev pub query_step : Layer NamedQuery-F → Bool
query_step query = query.select && (all_of 1 query.from && is_filter query.filter)

unfoldable pub cond_made : NamedCond → Bool
cond_made =
    fold-NamedCond _ _ _ _ _ _ _ _ cond_step from_step scalar_step select_step item_step
    query_step term_step when_step

unfoldable pub from_made : NamedFrom → Bool
from_made =
    fold-NamedFrom _ _ _ _ _ _ _ _ cond_step from_step scalar_step select_step item_step
    query_step term_step when_step

unfoldable pub scalar_made : NamedScalar → MadeScalar
scalar_made =
    fold-NamedScalar _ _ _ _ _ _ _ _ cond_step from_step scalar_step select_step item_step
    query_step term_step when_step

unfoldable pub select_made : NamedSelect → Bool
select_made =
    fold-NamedSelect _ _ _ _ _ _ _ _ cond_step from_step scalar_step select_step item_step
    query_step term_step when_step

unfoldable pub item_made : NamedItem → Bool
item_made =
    fold-NamedItem _ _ _ _ _ _ _ _ cond_step from_step scalar_step select_step item_step
    query_step term_step when_step

unfoldable pub query_made : NamedQuery → Bool
query_made =
    fold-NamedQuery _ _ _ _ _ _ _ _ cond_step from_step scalar_step select_step item_step
    query_step term_step when_step

unfoldable pub term_made : NamedTerm → MadeTerm
term_made =
    fold-NamedTerm _ _ _ _ _ _ _ _ cond_step from_step scalar_step select_step item_step
    query_step term_step when_step

unfoldable pub when_made : NamedWhen → Bool
when_made =
    fold-NamedWhen _ _ _ _ _ _ _ _ cond_step from_step scalar_step select_step item_step
    query_step term_step when_step

-- ---- statements

abbrev pub is_key : OrderName → Bool
is_key (Name name) = is_name name
is_key (Position n) = is_short n

abbrev pub is_statement : NamedStatement → Bool
is_statement statement =
    query_made statement.query
    && list_all (λ (order : OrderTree). is_key order.key) statement.order

-- the trees of a script are well made
abbrev pub AreWellMade : List NamedStatement → Type 0
AreWellMade statements = All (λ statement. IsTrue (is_statement statement)) statements
