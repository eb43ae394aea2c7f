-- The grammar of SQL scripts, production by production: this project's own profile of the query
-- expressions of SQL-92 (ISO/IEC 9075:1992).
use Rattle.std.specs.Prelude.{ℕ, Bool, true, false, List, [], ◌∷◌, ◌++◌, Option, Some, None}
use Rattle.grammar_forms.specs.Form.{option, many, rule}
use Rattle.prefsql_lexer.specs.declared.token.Keyword.TheVariants as word
use Rattle.prefsql_lexer.specs.declared.token.Symbol.TheVariants as symbol
use Rattle.prefsql_values.specs.declared.value.CompareOp.{CompareOp}
use Rattle.query_tree.specs.declared.query.OrderTree.{OrderTree}
use Rattle.sql_text.specs.declared.named.NamedCond.{NamedCond, And, Or, Not, Compare, Between}
use Rattle.sql_text.specs.declared.named.NamedCond.{OneOf, IsNull, Exists}
use Rattle.sql_text.specs.declared.named.NamedScalar.{NamedScalar, Column, Literal, Sum, Case}
use Rattle.sql_text.specs.declared.named.NamedSelect.{NamedSelect, All, Items}
use Rattle.sql_text.specs.declared.named.NamedFrom.{NamedFrom, Table, Derived}
use Rattle.sql_text.specs.declared.named.NamedItem.{NamedItem}
use Rattle.sql_text.specs.declared.named.NamedTerm.{NamedTerm}
use Rattle.sql_text.specs.declared.named.NamedWhen.{NamedWhen}
use Rattle.sql_text.specs.declared.named.NamedQuery.{NamedQuery, roll-NamedQuery}
use Rattle.sql_text.specs.declared.named.NamedStatement.{NamedStatement}
use Rattle.token_forms.specs.Forms.{GrammarOf, ◌⨟◌, ◌⨟>◌, ◌<⨟◌, ◌<$>◌, ◌∣◌, Named, name}
use Rattle.token_forms.specs.Forms.{symbol_only, word_at, word_only, separated, comma, in_parens}
use Rattle.token_forms.specs.Forms.{chain, text_of}
use Rattle.token_forms.specs.Columns.{column, literal, op}
use Rattle.token_forms.specs.Phrases.{alias, distinctness, negation, ordering, from as table}

-- the results of a CASE with their conditions, and that of ELSE, if it is written
abbrev pub Results : Type 0
Results = List NamedWhen × Option NamedScalar

-- the productions that nest
pub data Rule : Type 0 → Type 1 where
  condition_rule : Rule NamedCond
  results_rule : Rule Results
  query_rule : Rule NamedQuery

abbrev pub Grammar : Type 0 → Type 1
Grammar A = GrammarOf Rule A

-- ---- scalars

abbrev pub case_tree : ℕ × Results → NamedScalar
case_tree p = Case p.0 p.1.0 p.1.1

-- case := CASE WHEN cond THEN sum { WHEN cond THEN sum } [ELSE sum] END
unfoldable pub case : Grammar NamedScalar
case = case_tree <$> word_at word.Case ⨟ rule results_rule <⨟ word_only word.End

-- factor := column | literal | case
unfoldable pub factor : Grammar NamedScalar
factor = Column <$> column ∣ Literal <$> literal ∣ case

-- "+" | "-", whether it is a minus
unfoldable pub sum_sign : Grammar Bool
sum_sign = (λ _. false) <$> symbol_only symbol.Plus ∣ (λ _. true) <$> symbol_only symbol.Minus

abbrev pub term_tree : Bool × NamedScalar → NamedTerm
term_tree p = record { minus = p.0; scalar = p.1 }

-- ( "+" | "-" ) factor
unfoldable pub later_term : Grammar NamedTerm
later_term = term_tree <$> sum_sign ⨟ factor

-- A sum of one factor is that factor. Of a longer one the first term has no minus.
abbrev pub sum_of : NamedScalar → List NamedTerm → NamedScalar
sum_of first [] = first
sum_of first (second ∷ more) = Sum (record { minus = false; scalar = first } ∷ (second ∷ more))

abbrev pub sum_tree : NamedScalar × List NamedTerm → NamedScalar
sum_tree p = sum_of p.0 p.1

-- sum := factor { ( "+" | "-" ) factor }
unfoldable pub sum : Grammar NamedScalar
sum = sum_tree <$> factor ⨟ many later_term

-- ---- conditions

-- the condition that what stands after the left sum makes of it
abbrev pub Rest : Type 0
Rest = NamedScalar → NamedCond

abbrev pub compare_rest : CompareOp × NamedScalar → Rest
compare_rest p left = Compare p.0 left p.1

-- op sum
unfoldable pub comparison : Grammar Rest
comparison = compare_rest <$> op ⨟ sum

abbrev pub between_rest : NamedScalar × NamedScalar → Bool → Rest
between_rest p negated left = Between negated left p.0 p.1

-- BETWEEN sum AND sum
unfoldable pub between : Grammar (Bool → Rest)
between = between_rest <$> word_only word.Between ⨟> sum ⨟ word_only word.And ⨟> sum

-- sum { "," sum }
unfoldable pub sums : Grammar (List NamedScalar)
sums = separated comma sum

abbrev pub member_rest : List NamedScalar → Bool → Rest
member_rest list negated left = OneOf negated left list

-- IN "(" sum { "," sum } ")"
unfoldable pub member : Grammar (Bool → Rest)
member = member_rest <$> word_only word.In ⨟> in_parens sums

abbrev pub null_rest : Bool → Rest
null_rest negated left = IsNull negated left

-- IS [NOT] NULL
unfoldable pub null_test : Grammar Rest
null_test = null_rest <$> word_only word.Is ⨟> negation <⨟ word_only word.Null

-- a flag is true for the negated form
abbrev pub negated_rest : Bool × (Bool → Rest) → Rest
negated_rest p = p.1 p.0

-- rest := op sum | [NOT] BETWEEN sum AND sum | [NOT] IN "(" sum { "," sum } ")" | IS [NOT] NULL
unfoldable pub rest : Grammar Rest
rest =
    comparison ∣ negated_rest <$> negation ⨟ between ∣ negated_rest <$> negation ⨟ member
    ∣ null_test

abbrev pub test_tree : NamedScalar × Rest → NamedCond
test_tree p = p.1 p.0

-- EXISTS "(" query ")"
unfoldable pub exists : Grammar NamedCond
exists = Exists <$> word_only word.Exists ⨟> in_parens (rule query_rule)

-- test := "(" cond ")" | sum rest | EXISTS "(" query ")"
unfoldable pub test : Grammar NamedCond
test = in_parens (rule condition_rule) ∣ test_tree <$> sum ⨟ rest ∣ exists

abbrev pub negated_tree : Bool × NamedCond → NamedCond
negated_tree (false, c) = c
negated_tree (true, c) = Not c

-- neg := [NOT] test
unfoldable pub neg : Grammar NamedCond
neg = negated_tree <$> negation ⨟ test

-- conj := neg { AND neg }
unfoldable pub conj : Grammar NamedCond
conj = chain And <$> separated (word_only word.And) neg

-- cond := conj { OR conj }
unfoldable pub cond : Grammar NamedCond
cond = chain Or <$> separated (word_only word.Or) conj

-- ---- the results of a CASE

abbrev pub when_tree : NamedCond × NamedScalar → NamedWhen
when_tree p = record { cond = p.0; value = p.1 }

-- WHEN cond THEN sum
unfoldable pub when : Grammar NamedWhen
when = when_tree <$> (word_only word.When ⨟> cond) ⨟ word_only word.Then ⨟> sum

-- WHEN cond THEN sum { WHEN cond THEN sum }
unfoldable pub whens : Grammar (List NamedWhen)
whens = (λ p. p.0 ∷ p.1) <$> when ⨟ many when

-- WHEN cond THEN sum { WHEN cond THEN sum } [ELSE sum]
unfoldable pub results : Grammar Results
results = whens ⨟ option (word_only word.Else ⨟> sum)

-- ---- queries

abbrev pub item_tree : NamedScalar × Option Named → NamedItem
item_tree p = record { value = p.0; name = text_of p.1 }

-- item := sum [[AS] name]
unfoldable pub item : Grammar NamedItem
item = item_tree <$> sum ⨟ alias

-- list := "*" | item { "," item }
unfoldable pub list : Grammar NamedSelect
list = (λ _. All) <$> symbol_only symbol.Star ∣ Items <$> separated comma item

abbrev pub derived_tree : NamedQuery × Named → NamedFrom
derived_tree p = Derived p.0 p.1.0 p.1.1

-- "(" query ")" [AS] name
unfoldable pub derived : Grammar NamedFrom
derived = derived_tree <$> in_parens (rule query_rule) ⨟ option (word_only word.As) ⨟> name

-- from := name [[AS] name] | "(" query ")" [AS] name
unfoldable pub from : Grammar NamedFrom
from = Table <$> table ∣ derived

-- from { "," from }
unfoldable pub from_items : Grammar (List NamedFrom)
from_items = separated comma from

-- [WHERE cond]
unfoldable pub filter : Grammar (Option NamedCond)
filter = option (word_only word.Where ⨟> cond)

abbrev pub query_tree :
    ℕ × (Bool × (NamedSelect × (List NamedFrom × Option NamedCond))) → NamedQuery
query_tree p = roll-NamedQuery (record {
  at = p.0;
  distinct = p.1.0;
  select = p.1.1.0;
  from = p.1.1.1.0;
  filter = p.1.1.1.1;
})

-- query := SELECT [DISTINCT] list FROM from { "," from } [WHERE cond]
unfoldable pub query : Grammar NamedQuery
query =
    query_tree <$> word_at word.Select ⨟ distinctness ⨟ list
    ⨟ (word_only word.From ⨟> from_items) ⨟ filter

-- the right side of each production that nests
abbrev pub production : (A : Type 0) → Rule A → Grammar A
production A condition_rule = cond
production A results_rule = results
production A query_rule = query

-- ---- scripts

abbrev pub statement_tree : NamedQuery × List OrderTree → NamedStatement
statement_tree p = record { query = p.0; order = p.1 }

-- statement := query [ORDER BY order { "," order }]
unfoldable pub statement : Grammar NamedStatement
statement = statement_tree <$> query ⨟ ordering

-- statement ";"
unfoldable pub ended : Grammar NamedStatement
ended = statement <⨟ symbol_only symbol.Semicolon

abbrev pub with_last : List NamedStatement × Option NamedStatement → List NamedStatement
with_last (statements, None) = statements
with_last (statements, Some last) = statements ++ last ∷ []

-- script := { statement ";" } [ statement ]
unfoldable pub script : Grammar (List NamedStatement)
script = with_last <$> many ended ⨟ option statement
