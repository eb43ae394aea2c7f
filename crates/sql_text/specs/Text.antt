-- The text of a query, in the spelling of SQL-92 (ISO/IEC 9075:1992). Which parentheses, spaces and
-- names are written is this project's own: one line with single spaces, every column with its
-- correlation name, every item with AS and its name.
use Rattle.std.specs.Prelude.{ℕ, ◌+◌, ℤ, pos, negsuc, suc, Bool, true, false, List, [], ◌∷◌, ◌++◌}
use Rattle.std.specs.Prelude.{map, Option, Some, None, slice_index_or}
use Rattle.std.specs.List.{flat_map}
use Rattle.prefsql_lexer.specs.declared.token.Keyword.{Keyword}
use Rattle.prefsql_lexer.specs.declared.token.Keyword.TheVariants as word
use Rattle.prefsql_lexer.specs.declared.token.Symbol.{Symbol}
use Rattle.prefsql_lexer.specs.declared.token.Symbol.TheVariants as symbol
use Rattle.prefsql_lexer.specs.declared.token.TokenKind.TheVariants.{Word, Name, Number}
use Rattle.prefsql_lexer.specs.declared.token.TokenKind.TheVariants.{Chars as CharsKind}
use Rattle.prefsql_lexer.specs.declared.token.TokenKind.TheVariants.{Symbol as SymbolKind}
use Rattle.prefsql_values.specs.declared.value.CompareOp.{CompareOp}
use Rattle.prefsql_values.specs.declared.value.CompareOp.TheVariants.{Eq, Ne, Lt, Le, Gt, Ge}
use Rattle.prefsql_tables.specs.declared.place.SortKey.{SortKey}
use Rattle.sql_tree.specs.declared.tree.SqlPlace.{SqlPlace}
use Rattle.sql_tree.specs.declared.tree.SqlCond.{SqlCond, fold-SqlCond}
use Rattle.sql_tree.specs.declared.tree.SqlCond.TheOpen.{SqlCond-F, SqlScalar-F, SqlSource-F}
use Rattle.sql_tree.specs.declared.tree.SqlCond.TheOpen.{SqlFrom-F, SqlItem-F, SqlQuery-F}
use Rattle.sql_tree.specs.declared.tree.SqlCond.TheOpen.{SqlWhen-F, SumTerm-F}
use Rattle.sql_tree.specs.declared.tree.SqlScalar.{SqlScalar, fold-SqlScalar}
use Rattle.sql_tree.specs.declared.tree.SqlSource.{SqlSource, fold-SqlSource}
use Rattle.sql_tree.specs.declared.tree.SqlFrom.{SqlFrom, fold-SqlFrom}
use Rattle.sql_tree.specs.declared.tree.SqlItem.{SqlItem, fold-SqlItem}
use Rattle.sql_tree.specs.declared.tree.SqlQuery.{SqlQuery, fold-SqlQuery, out-SqlQuery}
use Rattle.sql_tree.specs.declared.tree.SqlWhen.{SqlWhen, fold-SqlWhen}
use Rattle.sql_tree.specs.declared.tree.SumTerm.{SumTerm, fold-SumTerm}
use Rattle.prefsql_values.specs.Nesting.{Standing, alone, in_and, in_or, after_not, wraps_and}
use Rattle.prefsql_values.specs.Nesting.{wraps_or, wraps_not}
use Rattle.sql_text.specs.Pieces.{Piece, space, mark, bytes_of}

-- ---- names in scope

-- a FROM item by its correlation name and the names of its columns
pub record ItemNames : Type 0 where
  pub name : List ℕ
  pub columns : List (List ℕ)

-- the FROM items of a query and of those round it, the innermost first
abbrev pub Names : Type 0
Names = List (List ItemNames)

abbrev pub no_item : ItemNames
no_item = record { name = []; columns = [] }

abbrev pub item_at : Names → SqlPlace → ItemNames
item_at names place = slice_index_or (slice_index_or names place.up []) place.item no_item

-- ---- words of the text

abbrev pub word_mark : Keyword → Piece
word_mark k = mark (Word k)

abbrev pub name_mark : List ℕ → Piece
name_mark name = mark (Name name)

abbrev pub symbol_mark : Symbol → Piece
symbol_mark s = mark (SymbolKind s)

infixr 40 ◌⎵◌
-- with one space between them
abbrev pub ◌⎵◌ : List Piece → List Piece → List Piece
front ⎵ rest = front ++ space ∷ rest

abbrev pub word_of : Keyword → List Piece
word_of k = word_mark k ∷ []

-- the parts with this between them
abbrev pub joined : List Piece → List (List Piece) → List Piece
joined between [] = []
joined between (part ∷ more) = part ++ flat_map (λ next. between ++ next) more

-- a comma and a space between them
abbrev pub listed : List (List Piece) → List Piece
listed parts = joined (symbol_mark symbol.Comma ∷ space ∷ []) parts

abbrev pub in_parentheses : List Piece → List Piece
in_parentheses pieces =
    symbol_mark symbol.LeftParen ∷ (pieces ++ symbol_mark symbol.RightParen ∷ [])

abbrev pub in_parentheses_if : Bool → List Piece → List Piece
in_parentheses_if true pieces = in_parentheses pieces
in_parentheses_if false pieces = pieces

-- NOT before the pieces, where the flag is set
abbrev pub not_if : Bool → List Piece → List Piece
not_if true pieces = word_of word.Not ⎵ pieces
not_if false pieces = pieces

abbrev pub op_symbol : CompareOp → Symbol
op_symbol Eq = symbol.Equal
op_symbol Ne = symbol.NotEqual
op_symbol Lt = symbol.Less
op_symbol Le = symbol.LessEqual
op_symbol Gt = symbol.Greater
op_symbol Ge = symbol.GreaterEqual

-- the parts of an And, and of an Or
abbrev pub all_joined : List (List Piece) → List Piece
all_joined parts = joined (space ∷ word_mark word.And ∷ space ∷ []) parts

abbrev pub any_joined : List (List Piece) → List Piece
any_joined parts = joined (space ∷ word_mark word.Or ∷ space ∷ []) parts

abbrev pub negated_pieces : List Piece → List Piece
negated_pieces part = word_of word.Not ⎵ part

abbrev pub compare_pieces : CompareOp → List Piece → List Piece → List Piece
compare_pieces op a b = a ⎵ (symbol_mark (op_symbol op) ∷ []) ⎵ b

-- what stands after the first scalar and a space
abbrev pub between_pieces : Bool → List Piece → List Piece → List Piece
between_pieces negated low high =
    space ∷ not_if negated (word_of word.Between ⎵ low ⎵ word_of word.And ⎵ high)

abbrev pub member_pieces : Bool → List (List Piece) → List Piece
member_pieces negated list = space ∷ not_if negated (word_of word.In ⎵ in_parentheses (listed list))

abbrev pub null_pieces : Bool → List Piece
null_pieces negated = space ∷ (word_of word.Is ⎵ not_if negated (word_of word.Null))

-- ---- scalars

-- a column, with its correlation name
abbrev pub column_pieces : ItemNames → ℕ → List Piece
column_pieces item column =
    name_mark item.name ∷ symbol_mark symbol.Dot
    ∷ name_mark (slice_index_or item.columns column []) ∷ []

-- a negative number has a minus directly before its digits
abbrev pub number_pieces : ℤ → List Piece
number_pieces (pos n) = mark (Number (pos n)) ∷ []
number_pieces (negsuc n) = symbol_mark symbol.Minus ∷ mark (Number (pos (suc n))) ∷ []

abbrev pub sign_symbol : Bool → Symbol
sign_symbol false = symbol.Plus
sign_symbol true = symbol.Minus

-- a term with its sign
abbrev pub SignedPieces : Type 0
SignedPieces = Bool × List Piece

-- `+ x` or `- x`, after a space
abbrev pub later_pieces : SignedPieces → List Piece
later_pieces term = space ∷ (symbol_mark (sign_symbol term.0) ∷ [] ⎵ term.1)

abbrev pub sum_pieces : List SignedPieces → List Piece
sum_pieces [] = []
sum_pieces (first ∷ more) = first.1 ++ flat_map later_pieces more

-- ELSE, if it is there, after a space
abbrev pub else_pieces : Option (List Piece) → List Piece
else_pieces None = []
else_pieces (Some value) = space ∷ (word_of word.Else ⎵ value)

abbrev pub whens_joined : List (List Piece) → List Piece
whens_joined whens = joined (space ∷ []) whens

abbrev pub case_pieces : List (List Piece) → Option (List Piece) → List Piece
case_pieces whens last =
    word_of word.Case ⎵ (whens_joined whens ++ else_pieces last) ⎵ word_of word.End

-- ---- what is written of each part of a query

-- by the names in scope
abbrev pub Written : Type 0
Written = Names → List Piece

-- a condition, also by where it stands
abbrev pub WrittenCond : Type 0
WrittenCond = Names → Standing → List Piece

abbrev pub WrittenTerm : Type 0
WrittenTerm = Names → SignedPieces

-- an item with its name, and how it is written with AS
pub record WrittenItem : Type 0 where
  pub name : List ℕ
  pub pieces : Written

-- a query with the names of its columns
pub record WrittenQuery : Type 0 where
  pub columns : List (List ℕ)
  pub pieces : Written

-- where the rows of a FROM item come from, with the names of its columns; it sees no names in scope
pub record WrittenSource : Type 0 where
  pub columns : List (List ℕ)
  pub pieces : List Piece

-- a FROM item with its names
pub record WrittenFrom : Type 0 where
  pub names : ItemNames
  pub pieces : List Piece

-- one layer of each part, with what is written of the parts below it in their place
abbrev pub Layer :
    (Type 0 → Type 0 → Type 0 → Type 0 → Type 0 → Type 0 → Type 0 → Type 0 → Type 0) → Type 0
Layer F =
    F WrittenCond Written WrittenSource WrittenFrom WrittenItem WrittenQuery Written WrittenTerm

abbrev pub cond_step : Layer SqlCond-F → WrittenCond
cond_step (SqlCond-F.And parts) names standing =
    in_parentheses_if (wraps_and standing) (all_joined (map (λ part. part names in_and) parts))
cond_step (SqlCond-F.Or parts) names standing =
    in_parentheses_if (wraps_or standing) (any_joined (map (λ part. part names in_or) parts))
cond_step (SqlCond-F.Not part) names standing =
    in_parentheses_if (wraps_not standing) (negated_pieces (part names after_not))
cond_step (SqlCond-F.Compare op a b) names standing = compare_pieces op (a names) (b names)
cond_step (SqlCond-F.Between negated a low high) names standing =
    a names ++ between_pieces negated (low names) (high names)
cond_step (SqlCond-F.OneOf negated a list) names standing =
    a names ++ member_pieces negated (map (λ b. b names) list)
cond_step (SqlCond-F.IsNull negated a) names standing = a names ++ null_pieces negated
cond_step (SqlCond-F.Exists query) names standing =
    word_of word.Exists ⎵ in_parentheses (query.pieces names)

abbrev pub scalar_step : Layer SqlScalar-F → Written
scalar_step (SqlScalar-F.Column place) names = column_pieces (item_at names place) place.column
scalar_step (SqlScalar-F.Number n) names = number_pieces n
scalar_step (SqlScalar-F.Chars text) names = mark (CharsKind text) ∷ []
scalar_step (SqlScalar-F.Sum terms) names = sum_pieces (map (λ term. term names) terms)
scalar_step (SqlScalar-F.Case whens last) names =
    case_pieces (map (λ when. when names) whens) (else_of last)
  where
    else_of : Option Written → Option (List Piece)
    else_of None = None
    else_of (Some value) = Some (value names)

abbrev pub when_step : Layer SqlWhen-F → Written
when_step when names =
    word_of word.When ⎵ when.cond names alone ⎵ word_of word.Then ⎵ when.value names

abbrev pub term_step : Layer SumTerm-F → WrittenTerm
term_step term names = (term.minus, term.scalar names)

-- with AS and its name
abbrev pub item_step : Layer SqlItem-F → WrittenItem
item_step item = record {
  name = item.name;
  pieces = λ names. item.value names ⎵ word_of word.As ⎵ (name_mark item.name ∷ []);
}

-- a derived table sees its own names alone
abbrev pub source_step : Layer SqlSource-F → WrittenSource
source_step (SqlSource-F.Table table) = record {
  columns = map (λ column. column.name) table.schema.columns;
  pieces = name_mark table.name ∷ [];
}
source_step (SqlSource-F.Derived query) =
    record { columns = query.columns; pieces = in_parentheses (query.pieces []) }

abbrev pub from_step : Layer SqlFrom-F → WrittenFrom
from_step from = record {
  names = record { name = from.name; columns = from.source.columns };
  pieces = from.source.pieces ⎵ word_of word.As ⎵ (name_mark from.name ∷ []);
}

-- the pieces of WHERE, after a space
abbrev pub filter_pieces : Option WrittenCond → Names → List Piece
filter_pieces None names = []
filter_pieces (Some cond) names = space ∷ (word_of word.Where ⎵ cond names alone)

abbrev pub distinct_if : Bool → List Piece → List Piece
distinct_if true pieces = word_of word.Distinct ⎵ pieces
distinct_if false pieces = pieces

-- a query without its order
abbrev pub query_step : Layer SqlQuery-F → WrittenQuery
query_step query = record {
  columns = map (λ item. item.name) query.items;
  pieces = λ outer.
      let names : Names = map (λ from. from.names) query.from ∷ outer in
      word_of word.Select ⎵ distinct_if query.distinct (
      listed (map (λ item. item.pieces names) query.items) ⎵ word_of word.From
      ⎵ (listed (map (λ from. from.pieces) query.from) ++ filter_pieces query.filter names));
}

unfoldable pub cond_pieces : SqlCond → WrittenCond
cond_pieces =
    fold-SqlCond _ _ _ _ _ _ _ _ cond_step scalar_step source_step from_step
    item_step query_step when_step term_step

unfoldable pub scalar_pieces : SqlScalar → Written
scalar_pieces =
    fold-SqlScalar _ _ _ _ _ _ _ _ cond_step scalar_step source_step from_step
    item_step query_step when_step term_step

unfoldable pub source_pieces : SqlSource → WrittenSource
source_pieces =
    fold-SqlSource _ _ _ _ _ _ _ _ cond_step scalar_step source_step from_step
    item_step query_step when_step term_step

unfoldable pub from_pieces : SqlFrom → WrittenFrom
from_pieces =
    fold-SqlFrom _ _ _ _ _ _ _ _ cond_step scalar_step source_step from_step
    item_step query_step when_step term_step

unfoldable pub item_pieces : SqlItem → WrittenItem
item_pieces =
    fold-SqlItem _ _ _ _ _ _ _ _ cond_step scalar_step source_step from_step
    item_step query_step when_step term_step

unfoldable pub query_pieces : SqlQuery → WrittenQuery
query_pieces =
    fold-SqlQuery _ _ _ _ _ _ _ _ cond_step scalar_step source_step from_step
    item_step query_step when_step term_step

unfoldable pub when_pieces : SqlWhen → Written
when_pieces =
    fold-SqlWhen _ _ _ _ _ _ _ _ cond_step scalar_step source_step from_step
    item_step query_step when_step term_step

unfoldable pub term_pieces : SumTerm → WrittenTerm
term_pieces =
    fold-SumTerm _ _ _ _ _ _ _ _ cond_step scalar_step source_step from_step
    item_step query_step when_step term_step

-- ---- the whole text

abbrev pub direction_word : Bool → Keyword
direction_word false = word.Asc
direction_word true = word.Desc

-- the position of the output column, from 1, and the direction
abbrev pub key_pieces : SortKey → List Piece
key_pieces key = mark (Number (pos (key.column + 1))) ∷ [] ⎵ word_of (direction_word key.descending)

abbrev pub order_pieces : List SortKey → List Piece
order_pieces [] = []
order_pieces (key ∷ more) =
    space ∷ (word_of word.Order ⎵ word_of word.By ⎵ listed (map key_pieces (key ∷ more)))

-- a query with its order, and a semicolon
abbrev pub statement_pieces : SqlQuery → List Piece
statement_pieces query =
    (query_pieces query).pieces [] ++ order_pieces (out-SqlQuery query).order
    ++ symbol_mark symbol.Semicolon ∷ []

-- the text, which ends with a line feed
abbrev pub text_of : SqlQuery → List ℕ
text_of query = bytes_of (statement_pieces query) ++ 10 ∷ []
