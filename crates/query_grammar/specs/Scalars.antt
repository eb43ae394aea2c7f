-- What a condition compares, and the tests on it, each without NOT: this project's own profile of
-- SQL-92 (ISO/IEC 9075:1992), with the qualities LEVEL and DISTANCE of Preference SQL (Kießling and
-- Köstler 2002).
use Rattle.std.specs.Prelude.{Bool, true, false, List}
use Rattle.prefsql_lexer.specs.declared.token.Keyword.TheVariants as word
use Rattle.prefsql_values.specs.declared.value.CompareOp.{CompareOp}
use Rattle.query_tree.specs.declared.condition.ScalarTree.{ScalarTree}
use Rattle.query_tree.specs.declared.condition.ScalarTree.TheVariants as scalar_tree
use Rattle.query_tree.specs.declared.condition.CondTree.{CondTree}
use Rattle.query_tree.specs.declared.condition.CondTree.TheVariants as cond_tree
use Rattle.query_grammar.specs.Rules.{Grammar}
use Rattle.token_forms.specs.Forms.{◌⨟◌, ◌⨟>◌, ◌<⨟◌, ◌<$>◌, ◌∣◌, word_at, word_only, separated}
use Rattle.token_forms.specs.Forms.{comma, in_parens}
use Rattle.token_forms.specs.Columns.{column, literal, op}
use Rattle.token_forms.specs.Phrases.{negation}

-- LEVEL "(" column ")", with the place of the word
unfoldable pub level : Grammar ScalarTree
level = (λ p. scalar_tree.Level p.1 p.0) <$> word_at word.Level ⨟ in_parens column

-- DISTANCE "(" column ")"
unfoldable pub distance : Grammar ScalarTree
distance = (λ p. scalar_tree.Distance p.1 p.0) <$> word_at word.Distance ⨟ in_parens column

unfoldable pub plain_scalar : Grammar ScalarTree
plain_scalar = scalar_tree.Column <$> column ∣ scalar_tree.Literal <$> literal

-- scalar := column | literal; in a condition that may speak of qualities also LEVEL or DISTANCE
unfoldable pub scalar : Bool → Grammar ScalarTree
scalar false = plain_scalar
scalar true = level ∣ distance ∣ plain_scalar

-- scalar { "," scalar }
unfoldable pub scalars : Bool → Grammar (List ScalarTree)
scalars q = separated comma (scalar q)

-- the condition that what stands after the left scalar makes of it
abbrev pub Rest : Type 0
Rest = ScalarTree → CondTree

abbrev pub compare_rest : CompareOp × ScalarTree → Rest
compare_rest p left = cond_tree.Compare p.0 left p.1

-- op scalar
unfoldable pub comparison : Bool → Grammar Rest
comparison q = compare_rest <$> op ⨟ scalar q

abbrev pub between_rest : ScalarTree × ScalarTree → Bool → Rest
between_rest p negated left = cond_tree.Between negated left p.0 p.1

-- BETWEEN scalar AND scalar
unfoldable pub between : Bool → Grammar (Bool → Rest)
between q = between_rest <$> word_only word.Between ⨟> scalar q ⨟ word_only word.And ⨟> scalar q

abbrev pub member_rest : List ScalarTree → Bool → Rest
member_rest items negated left = cond_tree.OneOf negated left items

-- IN "(" scalar { "," scalar } ")"
unfoldable pub member : Bool → Grammar (Bool → Rest)
member q = member_rest <$> word_only word.In ⨟> in_parens (scalars q)

abbrev pub null_rest : Bool → Rest
null_rest negated left = cond_tree.IsNull negated left

-- IS [NOT] NULL
unfoldable pub null_test : Grammar Rest
null_test = null_rest <$> word_only word.Is ⨟> negation <⨟ word_only word.Null

-- a flag is true for the negated form
abbrev pub negated_rest : Bool × (Bool → Rest) → Rest
negated_rest p = p.1 p.0

abbrev pub test_tree : ScalarTree × Rest → CondTree
test_tree p = p.1 p.0

abbrev pub negated_tree : Bool × CondTree → CondTree
negated_tree (false, c) = c
negated_tree (true, c) = cond_tree.Not c
