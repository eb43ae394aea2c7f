-- What both languages have is read in a preference script as it is by itself.
use Rattle.std.proofs.Common.{◌≡◌, ℕ, List, refl}
use Rattle.prefsql_lexer.specs.declared.token.Token.{Token}
use Rattle.token_forms.specs.Columns.{column, columns, optional_sign, number_form, literal, op, direction, order, orders}
use Rattle.token_forms.specs.Phrases.{alias, from, from_items, distinctness, negation, ordering}
use Rattle.token_forms.specs.Plain.{plain}
use Rattle.query_grammar.specs.Outcome.{outcome}

pub plain_column : (n : ℕ) (ts : List Token) → outcome n column ts ≡ plain column ts
unfolding column
plain_column n ts = refl

pub plain_columns : (n : ℕ) (ts : List Token) → outcome n columns ts ≡ plain columns ts
unfolding column columns
plain_columns n ts = refl

pub plain_literal : (n : ℕ) (ts : List Token) → outcome n literal ts ≡ plain literal ts
unfolding optional_sign number_form literal
plain_literal n ts = refl

pub plain_op : (n : ℕ) (ts : List Token) → outcome n op ts ≡ plain op ts
unfolding op
plain_op n ts = refl

pub plain_negation : (n : ℕ) (ts : List Token) → outcome n negation ts ≡ plain negation ts
unfolding negation
plain_negation n ts = refl

pub plain_alias : (n : ℕ) (ts : List Token) → outcome n alias ts ≡ plain alias ts
unfolding alias
plain_alias n ts = refl

pub plain_from_items : (n : ℕ) (ts : List Token) → outcome n from_items ts ≡ plain from_items ts
unfolding alias from from_items
plain_from_items n ts = refl

pub plain_distinctness : (n : ℕ) (ts : List Token) → outcome n distinctness ts ≡ plain distinctness ts
unfolding distinctness
plain_distinctness n ts = refl

pub plain_ordering : (n : ℕ) (ts : List Token) → outcome n ordering ts ≡ plain ordering ts
unfolding direction order orders ordering
plain_ordering n ts = refl
