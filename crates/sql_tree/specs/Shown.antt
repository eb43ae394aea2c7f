-- What the columns of a query are to those who see them: their names, their domains, and static
-- bounds of their numbers. The bounds are this project's own: no sum within them overflows.
use Rattle.std.specs.Prelude.{ℕ, ◌+◌, ◌-◌, ◌^◌, max, List, [], ◌∷◌, map, slice_index_or}
use Rattle.prefsql_values.specs.declared.value.Domain.{Domain}
use Rattle.prefsql_values.specs.declared.value.Domain.TheVariants.{Integer, Chars}
use Rattle.prefsql_tables.specs.declared.schema.Column.{Column}
use Rattle.sql_tree.specs.declared.tree.SqlPlace.{SqlPlace}

-- the domain of a value, and a bound of its size where it is a number
pub record Shape : Type 0 where
  pub domain : Domain
  pub bound : ℕ

pub record ShownColumn : Type 0 where
  pub name : List ℕ
  pub shape : Shape

-- a FROM item: its correlation name and its columns
pub record ShownItem : Type 0 where
  pub name : List ℕ
  pub columns : List ShownColumn

-- the FROM items of a query and of those round it, the innermost first
abbrev pub View : Type 0
View = List (List ShownItem)

-- of a number of at most eighteen digits
abbrev pub short_bound : ℕ
short_bound = 10 ^ 18 - 1

abbrev pub number_shape : Shape
number_shape = record { domain = Integer; bound = short_bound }

abbrev pub text_shape : Shape
text_shape = record { domain = Chars; bound = 0 }

abbrev pub domain_shape : Domain → Shape
domain_shape Integer = number_shape
domain_shape Chars = text_shape

abbrev pub table_columns : List Column → List ShownColumn
table_columns =
    map (λ (column : Column). record { name = column.name; shape = domain_shape column.domain })

abbrev pub items_at : View → ℕ → List ShownItem
items_at view up = slice_index_or view up []

abbrev pub item_at : View → ℕ → ℕ → ShownItem
item_at view up item =
    slice_index_or (items_at view up) item (record { name = []; columns = [] })

abbrev pub column_at : View → SqlPlace → ShownColumn
column_at view place =
    slice_index_or (item_at view place.up place.item).columns place.column
    (record { name = []; shape = number_shape })

-- a sum is a number, and its bound is the sum of the bounds
abbrev pub sum_bound : List Shape → ℕ
sum_bound [] = 0
sum_bound (shape ∷ shapes) = shape.bound + sum_bound shapes

abbrev pub greatest_bound : List Shape → ℕ
greatest_bound [] = 0
greatest_bound (shape ∷ shapes) = max shape.bound (greatest_bound shapes)

abbrev pub first_domain : List Shape → Domain
first_domain [] = Integer
first_domain (shape ∷ shapes) = shape.domain

-- a choice has the domain of its first result, and as bound the greatest of its results'
abbrev pub choice_shape : List Shape → Shape
choice_shape shapes = record { domain = first_domain shapes; bound = greatest_bound shapes }
