-- Columns, literals, operators and order items: this project's own profile of SQL-92 (ISO/IEC
-- 9075:1992).
use Rattle.std.specs.Prelude.{ℕ, Bool, true, false, List, Option, Some, None, ℤ, neg_ℤ}
use Rattle.grammar_forms.specs.Form.{option}
use Rattle.prefsql_lexer.specs.declared.token.Keyword.TheVariants as word
use Rattle.prefsql_lexer.specs.declared.token.Symbol.{Symbol}
use Rattle.prefsql_lexer.specs.declared.token.Symbol.TheVariants as symbol
use Rattle.prefsql_values.specs.declared.value.Value.TheVariants as literal_value
use Rattle.prefsql_values.specs.declared.value.CompareOp.{CompareOp}
use Rattle.prefsql_values.specs.declared.value.CompareOp.TheVariants as compare_op
use Rattle.query_tree.specs.declared.name.NameTree.{NameTree}
use Rattle.query_tree.specs.declared.name.LiteralTree.{LiteralTree}
use Rattle.query_tree.specs.declared.query.OrderName.{OrderName}
use Rattle.query_tree.specs.declared.query.OrderName.TheVariants as order_name
use Rattle.query_tree.specs.declared.query.OrderTree.{OrderTree}
use Rattle.token_forms.specs.Forms.{GrammarOf, ◌⨟◌, ◌⨟>◌, ◌<$>◌, ◌∣◌, Named, name, number, chars}
use Rattle.token_forms.specs.Forms.{symbol_at, symbol_only, word_only, separated, comma, text_of}

-- The place of a column is that of its first identifier.
abbrev pub column_tree : Named × Option Named → NameTree
column_tree p = record { first = p.0.0; second = text_of p.1; at = p.0.1 }

-- column := name ["." name]
unfoldable pub column : {Rule : Type 0 → Type 1} → GrammarOf Rule NameTree
column = column_tree <$> name ⨟ option (symbol_only symbol.Dot ⨟> name)

-- column { "," column }
unfoldable pub columns : {Rule : Type 0 → Type 1} → GrammarOf Rule (List NameTree)
columns = separated comma column

-- whether it is a minus, and its place
abbrev pub sign : {Rule : Type 0 → Type 1} → GrammarOf Rule (Bool × ℕ)
sign = (λ at. (false, at)) <$> symbol_at symbol.Plus ∣ (λ at. (true, at)) <$> symbol_at symbol.Minus

-- ["+" | "-"]
unfoldable pub optional_sign : {Rule : Type 0 → Type 1} → GrammarOf Rule (Option (Bool × ℕ))
optional_sign = option sign

-- A literal with a minus is the negative number. A sign belongs to its literal, whose place is then
-- that of the sign.
abbrev pub number_literal : Option (Bool × ℕ) × (ℤ × ℕ) → LiteralTree
number_literal (None, n) = record { value = literal_value.Num n.0; at = n.1 }
number_literal (Some (false, at), n) = record { value = literal_value.Num n.0; at = at }
number_literal (Some (true, at), n) = record { value = literal_value.Num (neg_ℤ n.0); at = at }

abbrev pub text_literal : Named → LiteralTree
text_literal n = record { value = literal_value.Str n.0; at = n.1 }

-- ["+" | "-"] number
unfoldable pub number_form : {Rule : Type 0 → Type 1} → GrammarOf Rule LiteralTree
number_form = number_literal <$> optional_sign ⨟ number

-- literal := text | ["+" | "-"] number
unfoldable pub literal : {Rule : Type 0 → Type 1} → GrammarOf Rule LiteralTree
literal = text_literal <$> chars ∣ number_form

-- literal { "," literal }
unfoldable pub literals : {Rule : Type 0 → Type 1} → GrammarOf Rule (List LiteralTree)
literals = separated comma literal

abbrev pub compares : {Rule : Type 0 → Type 1} → Symbol → CompareOp → GrammarOf Rule CompareOp
compares s o = (λ _. o) <$> symbol_only s

-- op := "=" | "<>" | "<" | "<=" | ">" | ">="
unfoldable pub op : {Rule : Type 0 → Type 1} → GrammarOf Rule CompareOp
op =
    compares symbol.Equal compare_op.Eq ∣ compares symbol.NotEqual compare_op.Ne
    ∣ compares symbol.Less compare_op.Lt
    ∣ compares symbol.LessEqual compare_op.Le ∣ compares symbol.Greater compare_op.Gt
    ∣ compares symbol.GreaterEqual compare_op.Ge

-- ---- order items

abbrev pub named_key : Named → OrderName × ℕ
named_key n = (order_name.Name n.0, n.1)

abbrev pub position_key : ℤ × ℕ → OrderName × ℕ
position_key n = (order_name.Position n.0, n.1)

-- which of two words is written, if one is
abbrev pub if_written : Option Bool → Bool
if_written None = false
if_written (Some chosen) = chosen

-- [ASC | DESC], whether it is DESC
unfoldable pub direction : {Rule : Type 0 → Type 1} → GrammarOf Rule Bool
direction = if_written <$> option ((λ _. false) <$> word_only word.Asc
    ∣ (λ _. true) <$> word_only word.Desc)

abbrev pub order_tree : (OrderName × ℕ) × Bool → OrderTree
order_tree p = record { key = p.0.0; descending = p.1; at = p.0.1 }

-- order := ( name | number ) [ASC | DESC]
unfoldable pub order : {Rule : Type 0 → Type 1} → GrammarOf Rule OrderTree
order = order_tree <$> (named_key <$> name ∣ position_key <$> number) ⨟ direction

-- order { "," order }
unfoldable pub orders : {Rule : Type 0 → Type 1} → GrammarOf Rule (List OrderTree)
orders = separated comma order
