-- What is written of each part of a query, by what is written of the parts below it.
use Rattle.std.proofs.Common.{◌≡◌, ℕ, ℤ, Bool, rules, Option, Some, None, List, [], ◌∷◌, ◌++◌, map, ap, ◌∙◌}
use Rattle.std.specs.Option.{option_map}
use Rattle.std.proofs.lemmas.Simd.{map-map}
use Rattle.prefsql_values.specs.declared.value.CompareOp.{CompareOp}
use Rattle.prefsql_tables.specs.declared.place.SortKey.{SortKey}
use Rattle.prefsql_tables.specs.declared.schema.Column.{Column}
use Rattle.prefsql_lexer.specs.declared.token.Keyword.TheVariants as word
use Rattle.prefsql_lexer.specs.declared.token.TokenKind.TheVariants.{Chars as CharsKind}
use Rattle.sql_tree.specs.declared.tree.SqlCond.{SqlCond, roll-SqlCond}
use Rattle.sql_tree.specs.declared.tree.SqlCond.TheOpen.{SqlCond-F, SqlScalar-F, SqlSource-F}
use Rattle.sql_tree.specs.declared.tree.SqlCond.TheFolds.{the_lemmas, fold-roll-SqlCond, fold-roll-SqlScalar, fold-roll-SqlSource, fold-roll-SqlQuery}
use Rattle.sql_tree.specs.declared.tree.SqlScalar.{SqlScalar, roll-SqlScalar}
use Rattle.sql_tree.specs.declared.tree.SqlPlace.{SqlPlace}
use Rattle.sql_tree.specs.declared.tree.SqlTable.{SqlTable}
use Rattle.sql_tree.specs.declared.tree.SqlSource.{roll-SqlSource}
use Rattle.sql_tree.specs.declared.tree.SqlFrom.{SqlFrom}
use Rattle.sql_tree.specs.declared.tree.SqlItem.{SqlItem}
use Rattle.sql_tree.specs.declared.tree.SqlQuery.{SqlQuery, roll-SqlQuery}
use Rattle.sql_tree.specs.declared.tree.SumTerm.{SumTerm}
use Rattle.sql_tree.specs.declared.tree.SqlWhen.{SqlWhen}
use Rattle.prefsql_values.specs.Nesting.{Standing, alone, in_and, in_or, after_not, wraps_and, wraps_or, wraps_not}
use Rattle.sql_text.specs.Pieces.{Piece, mark}
use Rattle.sql_text.specs.Text.{Names, Written, WrittenCond, cond_step, scalar_step, source_step, from_step, item_step, query_step, when_step, term_step, cond_pieces, scalar_pieces, source_pieces, from_pieces, item_pieces, query_pieces, when_pieces, term_pieces, in_parentheses, in_parentheses_if, all_joined, any_joined, negated_pieces, compare_pieces, between_pieces, member_pieces, null_pieces, word_of, name_mark, ◌⎵◌, column_pieces, item_at, number_pieces, sum_pieces, case_pieces, listed, distinct_if, filter_pieces, SignedPieces, ItemNames, WrittenItem, WrittenFrom}

pub pieces-And : (parts : List SqlCond) (names : Names) (standing : Standing) → cond_pieces (roll-SqlCond (SqlCond-F.And parts)) names standing ≡ in_parentheses_if (wraps_and standing) (all_joined (map (λ part. cond_pieces part names in_and) parts))
unfolding cond_pieces scalar_pieces source_pieces from_pieces item_pieces query_pieces when_pieces term_pieces
pieces-And parts names standing = (λ j. fold-roll-SqlCond _ _ _ _ _ _ _ _ cond_step scalar_step source_step from_step item_step query_step when_step term_step (SqlCond-F.And parts) j names standing) ∙ ap (λ ps. in_parentheses_if (wraps_and standing) (all_joined ps)) (map-map (λ (part : WrittenCond). part names in_and) cond_pieces parts)

pub pieces-Or : (parts : List SqlCond) (names : Names) (standing : Standing) → cond_pieces (roll-SqlCond (SqlCond-F.Or parts)) names standing ≡ in_parentheses_if (wraps_or standing) (any_joined (map (λ part. cond_pieces part names in_or) parts))
unfolding cond_pieces scalar_pieces source_pieces from_pieces item_pieces query_pieces when_pieces term_pieces
pieces-Or parts names standing = (λ j. fold-roll-SqlCond _ _ _ _ _ _ _ _ cond_step scalar_step source_step from_step item_step query_step when_step term_step (SqlCond-F.Or parts) j names standing) ∙ ap (λ ps. in_parentheses_if (wraps_or standing) (any_joined ps)) (map-map (λ (part : WrittenCond). part names in_or) cond_pieces parts)

pub pieces-Not : (part : SqlCond) (names : Names) (standing : Standing) → cond_pieces (roll-SqlCond (SqlCond-F.Not part)) names standing ≡ in_parentheses_if (wraps_not standing) (negated_pieces (cond_pieces part names after_not))
unfolding cond_pieces scalar_pieces source_pieces from_pieces item_pieces query_pieces when_pieces term_pieces
pieces-Not part names standing = (λ j. fold-roll-SqlCond _ _ _ _ _ _ _ _ cond_step scalar_step source_step from_step item_step query_step when_step term_step (SqlCond-F.Not part) j names standing)

pub pieces-Compare : (op : CompareOp) (a b : SqlScalar) (names : Names) (standing : Standing) → cond_pieces (roll-SqlCond (SqlCond-F.Compare op a b)) names standing ≡ compare_pieces op (scalar_pieces a names) (scalar_pieces b names)
unfolding cond_pieces scalar_pieces source_pieces from_pieces item_pieces query_pieces when_pieces term_pieces
pieces-Compare op a b names standing = (λ j. fold-roll-SqlCond _ _ _ _ _ _ _ _ cond_step scalar_step source_step from_step item_step query_step when_step term_step (SqlCond-F.Compare op a b) j names standing)

pub pieces-Between : (negated : Bool) (a low high : SqlScalar) (names : Names) (standing : Standing) → cond_pieces (roll-SqlCond (SqlCond-F.Between negated a low high)) names standing ≡ scalar_pieces a names ++ between_pieces negated (scalar_pieces low names) (scalar_pieces high names)
unfolding cond_pieces scalar_pieces source_pieces from_pieces item_pieces query_pieces when_pieces term_pieces
pieces-Between negated a low high names standing = (λ j. fold-roll-SqlCond _ _ _ _ _ _ _ _ cond_step scalar_step source_step from_step item_step query_step when_step term_step (SqlCond-F.Between negated a low high) j names standing)

pub pieces-OneOf : (negated : Bool) (a : SqlScalar) (list : List SqlScalar) (names : Names) (standing : Standing) → cond_pieces (roll-SqlCond (SqlCond-F.OneOf negated a list)) names standing ≡ scalar_pieces a names ++ member_pieces negated (map (λ b. scalar_pieces b names) list)
unfolding cond_pieces scalar_pieces source_pieces from_pieces item_pieces query_pieces when_pieces term_pieces
pieces-OneOf negated a list names standing = (λ j. fold-roll-SqlCond _ _ _ _ _ _ _ _ cond_step scalar_step source_step from_step item_step query_step when_step term_step (SqlCond-F.OneOf negated a list) j names standing) ∙ ap (λ ps. scalar_pieces a names ++ member_pieces negated ps) (map-map (λ (b : Written). b names) scalar_pieces list)

pub pieces-IsNull : (negated : Bool) (a : SqlScalar) (names : Names) (standing : Standing) → cond_pieces (roll-SqlCond (SqlCond-F.IsNull negated a)) names standing ≡ scalar_pieces a names ++ null_pieces negated
unfolding cond_pieces scalar_pieces source_pieces from_pieces item_pieces query_pieces when_pieces term_pieces
pieces-IsNull negated a names standing = (λ j. fold-roll-SqlCond _ _ _ _ _ _ _ _ cond_step scalar_step source_step from_step item_step query_step when_step term_step (SqlCond-F.IsNull negated a) j names standing)

pub pieces-Exists : (query : SqlQuery) (names : Names) (standing : Standing) → cond_pieces (roll-SqlCond (SqlCond-F.Exists query)) names standing ≡ word_of word.Exists ⎵ in_parentheses ((query_pieces query).pieces names)
unfolding cond_pieces scalar_pieces source_pieces from_pieces item_pieces query_pieces when_pieces term_pieces
pieces-Exists query names standing = (λ j. fold-roll-SqlCond _ _ _ _ _ _ _ _ cond_step scalar_step source_step from_step item_step query_step when_step term_step (SqlCond-F.Exists query) j names standing)

pub pieces-Column : (place : SqlPlace) (names : Names) → scalar_pieces (roll-SqlScalar (SqlScalar-F.Column place)) names ≡ column_pieces (item_at names place) place.column
unfolding cond_pieces scalar_pieces source_pieces from_pieces item_pieces query_pieces when_pieces term_pieces
pieces-Column place names = (λ j. fold-roll-SqlScalar _ _ _ _ _ _ _ _ cond_step scalar_step source_step from_step item_step query_step when_step term_step (SqlScalar-F.Column place) j names)

pub pieces-Number : (n : ℤ) (names : Names) → scalar_pieces (roll-SqlScalar (SqlScalar-F.Number n)) names ≡ number_pieces n
unfolding cond_pieces scalar_pieces source_pieces from_pieces item_pieces query_pieces when_pieces term_pieces
pieces-Number n names = (λ j. fold-roll-SqlScalar _ _ _ _ _ _ _ _ cond_step scalar_step source_step from_step item_step query_step when_step term_step (SqlScalar-F.Number n) j names)

pub pieces-Chars : (text : List ℕ) (names : Names) → scalar_pieces (roll-SqlScalar (SqlScalar-F.Chars text)) names ≡ mark (CharsKind text) ∷ []
unfolding cond_pieces scalar_pieces source_pieces from_pieces item_pieces query_pieces when_pieces term_pieces
pieces-Chars text names = (λ j. fold-roll-SqlScalar _ _ _ _ _ _ _ _ cond_step scalar_step source_step from_step item_step query_step when_step term_step (SqlScalar-F.Chars text) j names)

pub pieces-Sum : (terms : List SumTerm) (names : Names) → scalar_pieces (roll-SqlScalar (SqlScalar-F.Sum terms)) names ≡ sum_pieces (map (λ term. term_pieces term names) terms)
unfolding cond_pieces scalar_pieces source_pieces from_pieces item_pieces query_pieces when_pieces term_pieces
pieces-Sum terms names = (λ j. fold-roll-SqlScalar _ _ _ _ _ _ _ _ cond_step scalar_step source_step from_step item_step query_step when_step term_step (SqlScalar-F.Sum terms) j names) ∙ ap sum_pieces (map-map (λ (term : Names → SignedPieces). term names) term_pieces terms)

pub term_is : (term : SumTerm) (names : Names) → term_pieces term names ≡ (term.minus, scalar_pieces term.scalar names)
unfolding cond_pieces scalar_pieces source_pieces from_pieces item_pieces query_pieces when_pieces term_pieces
term_is term names = search (rules, the_lemmas)

pub when_is : (when : SqlWhen) (names : Names) → when_pieces when names ≡ word_of word.When ⎵ cond_pieces when.cond names alone ⎵ word_of word.Then ⎵ scalar_pieces when.value names
unfolding cond_pieces scalar_pieces source_pieces from_pieces item_pieces query_pieces when_pieces term_pieces
when_is when names = search (rules, the_lemmas)

pub item_name_is : (item : SqlItem) → (item_pieces item).name ≡ item.name
unfolding cond_pieces scalar_pieces source_pieces from_pieces item_pieces query_pieces when_pieces term_pieces
item_name_is item = search (rules, the_lemmas)

pub item_is : (item : SqlItem) (names : Names) → (item_pieces item).pieces names ≡ scalar_pieces item.value names ⎵ word_of word.As ⎵ (name_mark item.name ∷ [])
unfolding cond_pieces scalar_pieces source_pieces from_pieces item_pieces query_pieces when_pieces term_pieces
item_is item names = search (rules, the_lemmas)

pub from_names_is : (from : SqlFrom) → (from_pieces from).names ≡ record { name = from.name; columns = (source_pieces from.source).columns }
unfolding cond_pieces scalar_pieces source_pieces from_pieces item_pieces query_pieces when_pieces term_pieces
from_names_is from = search (rules, the_lemmas)

pub from_is : (from : SqlFrom) → (from_pieces from).pieces ≡ (source_pieces from.source).pieces ⎵ word_of word.As ⎵ (name_mark from.name ∷ [])
unfolding cond_pieces scalar_pieces source_pieces from_pieces item_pieces query_pieces when_pieces term_pieces
from_is from = search (rules, the_lemmas)

pub source-Table : (table : SqlTable) → (source_pieces (roll-SqlSource (SqlSource-F.Table table))).pieces ≡ name_mark table.name ∷ []
unfolding cond_pieces scalar_pieces source_pieces from_pieces item_pieces query_pieces when_pieces term_pieces
source-Table table = λ j. (fold-roll-SqlSource _ _ _ _ _ _ _ _ cond_step scalar_step source_step from_step item_step query_step when_step term_step (SqlSource-F.Table table) j).pieces

pub source-Derived : (query : SqlQuery) → (source_pieces (roll-SqlSource (SqlSource-F.Derived query))).pieces ≡ in_parentheses ((query_pieces query).pieces [])
unfolding cond_pieces scalar_pieces source_pieces from_pieces item_pieces query_pieces when_pieces term_pieces
source-Derived query = λ j. (fold-roll-SqlSource _ _ _ _ _ _ _ _ cond_step scalar_step source_step from_step item_step query_step when_step term_step (SqlSource-F.Derived query) j).pieces

pub pieces-Case : (whens : List SqlWhen) (last : Option SqlScalar) (names : Names) → scalar_pieces (roll-SqlScalar (SqlScalar-F.Case whens last)) names ≡ case_pieces (map (λ when. when_pieces when names) whens) (option_map (λ value. scalar_pieces value names) last)
unfolding cond_pieces scalar_pieces source_pieces from_pieces item_pieces query_pieces when_pieces term_pieces
pieces-Case whens None names = (λ j. fold-roll-SqlScalar _ _ _ _ _ _ _ _ cond_step scalar_step source_step from_step item_step query_step when_step term_step (SqlScalar-F.Case whens None) j names) ∙ ap (λ ps. case_pieces ps None) (map-map (λ (when : Written). when names) when_pieces whens)
pieces-Case whens (Some value) names = (λ j. fold-roll-SqlScalar _ _ _ _ _ _ _ _ cond_step scalar_step source_step from_step item_step query_step when_step term_step (SqlScalar-F.Case whens (Some value)) j names) ∙ ap (λ ps. case_pieces ps (Some (scalar_pieces value names))) (map-map (λ (when : Written). when names) when_pieces whens)

-- the names in scope within a query that stands in these
abbrev pub inner_names : List SqlFrom → Names → Names
inner_names from outer = map (λ item. (from_pieces item).names) from ∷ outer

abbrev pub filter_of : Option SqlCond → Option WrittenCond
filter_of filter = option_map cond_pieces filter

-- a query with the lists of its parts as they are made
abbrev pub whole : Bool → Option WrittenCond → Names → List ItemNames → List (List Piece) → List (List Piece) → List Piece
whole distinct filter outer names items from =
    word_of word.Select ⎵ distinct_if distinct (listed items ⎵ word_of word.From ⎵ (listed from ++ filter_pieces filter (names ∷ outer)))

pub whole_same : (distinct : Bool) (items : List SqlItem) (from : List SqlFrom) (filter : Option WrittenCond) (outer : Names) →
    whole distinct filter outer (map (λ (f : WrittenFrom). f.names) (map from_pieces from)) (map (λ (item : WrittenItem). item.pieces (map (λ (f : WrittenFrom). f.names) (map from_pieces from) ∷ outer)) (map item_pieces items)) (map (λ (f : WrittenFrom). f.pieces) (map from_pieces from))
    ≡ whole distinct filter outer (map (λ item. (from_pieces item).names) from) (map (λ item. (item_pieces item).pieces (inner_names from outer)) items) (map (λ item. (from_pieces item).pieces) from)
whole_same distinct items from filter outer =
    let written = map from_pieces from in
    let froms = map (λ (f : WrittenFrom). f.pieces) written in
    ap (λ ns. whole distinct filter outer ns (map (λ (item : WrittenItem). item.pieces (ns ∷ outer)) (map item_pieces items)) froms) (map-map (λ (f : WrittenFrom). f.names) from_pieces from)
    ∙ ap (λ is. whole distinct filter outer (map (λ item. (from_pieces item).names) from) is froms) (map-map (λ (item : WrittenItem). item.pieces (inner_names from outer)) item_pieces items)
    ∙ ap (λ fs. whole distinct filter outer (map (λ item. (from_pieces item).names) from) (map (λ item. (item_pieces item).pieces (inner_names from outer)) items) fs) (map-map (λ (f : WrittenFrom). f.pieces) from_pieces from)

pub query_is : (distinct : Bool) (items : List SqlItem) (from : List SqlFrom) (filter : Option SqlCond) (order : List SortKey) (outer : Names) →
    (query_pieces (roll-SqlQuery (record { distinct = distinct; items = items; from = from; filter = filter; order = order }))).pieces outer
    ≡ word_of word.Select ⎵ distinct_if distinct (listed (map (λ item. (item_pieces item).pieces (inner_names from outer)) items)
    ⎵ word_of word.From ⎵ (listed (map (λ item. (from_pieces item).pieces) from) ++ filter_pieces (filter_of filter) (inner_names from outer)))
unfolding cond_pieces scalar_pieces source_pieces from_pieces item_pieces query_pieces when_pieces term_pieces
query_is distinct items from None order outer =
    (λ j. (fold-roll-SqlQuery _ _ _ _ _ _ _ _ cond_step scalar_step source_step from_step item_step query_step when_step term_step (record { distinct = distinct; items = items; from = from; filter = None; order = order }) j).pieces outer)
    ∙ whole_same distinct items from None outer
query_is distinct items from (Some cond) order outer =
    (λ j. (fold-roll-SqlQuery _ _ _ _ _ _ _ _ cond_step scalar_step source_step from_step item_step query_step when_step term_step (record { distinct = distinct; items = items; from = from; filter = Some cond; order = order }) j).pieces outer)
    ∙ whole_same distinct items from (Some (cond_pieces cond)) outer

pub columns-Table : (table : SqlTable) → (source_pieces (roll-SqlSource (SqlSource-F.Table table))).columns ≡ map (λ (column : Column). column.name) table.schema.columns
unfolding cond_pieces scalar_pieces source_pieces from_pieces item_pieces query_pieces when_pieces term_pieces
columns-Table table = λ j. (fold-roll-SqlSource _ _ _ _ _ _ _ _ cond_step scalar_step source_step from_step item_step query_step when_step term_step (SqlSource-F.Table table) j).columns

pub columns-Derived : (query : SqlQuery) → (source_pieces (roll-SqlSource (SqlSource-F.Derived query))).columns ≡ (query_pieces query).columns
unfolding cond_pieces scalar_pieces source_pieces from_pieces item_pieces query_pieces when_pieces term_pieces
columns-Derived query = λ j. (fold-roll-SqlSource _ _ _ _ _ _ _ _ cond_step scalar_step source_step from_step item_step query_step when_step term_step (SqlSource-F.Derived query) j).columns

pub columns-query : (distinct : Bool) (items : List SqlItem) (from : List SqlFrom) (filter : Option SqlCond) (order : List SortKey) →
    (query_pieces (roll-SqlQuery (record { distinct = distinct; items = items; from = from; filter = filter; order = order }))).columns ≡ map (λ (item : WrittenItem). item.name) (map item_pieces items)
unfolding cond_pieces scalar_pieces source_pieces from_pieces item_pieces query_pieces when_pieces term_pieces
columns-query distinct items from filter order = λ j. (fold-roll-SqlQuery _ _ _ _ _ _ _ _ cond_step scalar_step source_step from_step item_step query_step when_step term_step (record { distinct = distinct; items = items; from = from; filter = filter; order = order }) j).columns
