-- What a production gives, from what its parts give one after the other.
use Rattle.std.proofs.Common.{◌≡◌, ℕ, Bool, true, false, List, [], ◌∷◌, refl, Option, Some, None, Ok, Err}
use Rattle.std.specs.Prelude.{if◌then◌else◌}
use Rattle.grammar_forms.specs.Form.{option}
use Rattle.grammar_forms.specs.Reading.{Outcome, and_then, begins, with_value}
use Rattle.prefsql_lexer.specs.declared.token.Token.{Token}
use Rattle.prefsql_lexer.specs.declared.token.Keyword.TheVariants.{Else, Explicit}
use Rattle.query_tree.specs.declared.name.NameTree.{NameTree}
use Rattle.query_tree.specs.declared.preference.SetTree.{SetTree}
use Rattle.query_tree.specs.declared.preference.EdgeTree.{EdgeTree}
use Rattle.query_tree.specs.declared.preference.BaseForm.{BaseForm}
use Rattle.query_tree.specs.declared.preference.BaseForm.TheVariants.{Pos}
use Rattle.query_tree.specs.declared.preference.BaseTree.{BaseTree}
use Rattle.token_forms.specs.Classes.{class, word_class}
use Rattle.token_forms.specs.Forms.{◌⨟◌, ◌<$>◌, ◌∣◌}
use Rattle.token_forms.specs.Columns.{column}
use Rattle.query_grammar.specs.Rules.{Grammar}
use Rattle.query_grammar.specs.Sets.{mark}
use Rattle.query_grammar.specs.ReadPreferences.{good_form, good_set, good_base, otherwise, graph_tree, graph_form, other_tree, other_form, on_column, column_base}
use Rattle.query_grammar.specs.Outcome.{outcome}

good_end : (s : SetTree) (rest : List Token) (b : Bool) (o : Outcome Token (SetTree → BaseForm)) →
    with_value good_form (with_value {B = SetTree × Option (SetTree → BaseForm)} (λ z. (s, z)) (if b then with_value Some o else Ok (None, rest))) ≡ (if b then with_value (λ h. h s) o else Ok (Pos s, rest))
good_end s rest true (Ok p) = refl
good_end s rest true (Err more) = refl
good_end s rest false o = refl

good_from : (d : ℕ) (o : Outcome Token SetTree) →
    with_value good_form (and_then o (λ s rest. with_value (λ z. (s, z)) (outcome d (option otherwise) rest)))
    ≡ and_then o (λ s rest. if begins class (word_class Else ∷ []) rest then with_value (λ h. h s) (outcome d otherwise rest) else Ok (Pos s, rest))
unfolding otherwise
good_from d (Ok p) = good_end p.0 p.1 (begins class (word_class Else ∷ []) p.1) (outcome d otherwise p.1)
good_from d (Err rest) = refl

pub good_by_parts : (d : ℕ) (ts : List Token) → outcome d good_base ts
    ≡ and_then (outcome d good_set ts) (λ s rest. if begins class (word_class Else ∷ []) rest then with_value (λ h. h s) (outcome d otherwise rest) else Ok (Pos s, rest))
unfolding good_base
good_by_parts d ts = good_from d (outcome d good_set ts)

-- a graph, or another form with its mark
abbrev on_columns : Grammar (NameTree → BaseTree)
on_columns = graph_tree <$> graph_form ∣ other_tree <$> other_form ⨟ mark

column_end : (c : NameTree) (b : Bool) (graph : Outcome Token (List EdgeTree)) (other : Outcome Token (BaseForm × Bool)) →
    with_value on_column (with_value {B = NameTree × (NameTree → BaseTree)} (λ z. (c, z)) (if b then with_value graph_tree graph else with_value other_tree other))
    ≡ (if b then with_value (λ e. graph_tree e c) graph else with_value (λ p. other_tree p c) other)
column_end c true (Ok p) other = refl
column_end c true (Err rest) other = refl
column_end c false graph (Ok p) = refl
column_end c false graph (Err rest) = refl

column_from : (d : ℕ) (o : Outcome Token NameTree) →
    with_value on_column (and_then o (λ c rest. with_value (λ z. (c, z)) (outcome d on_columns rest)))
    ≡ and_then o (λ c rest. if begins class (word_class Explicit ∷ []) rest then with_value (λ e. graph_tree e c) (outcome d graph_form rest) else with_value (λ p. other_tree p c) (and_then (outcome d other_form rest) (λ f more. with_value (λ t. (f, t)) (outcome d mark more))))
unfolding graph_form
column_from d (Ok p) = column_end p.0 (begins class (word_class Explicit ∷ []) p.1) (outcome d graph_form p.1) (outcome d (other_form ⨟ mark) p.1)
column_from d (Err rest) = refl

pub column_base_by_parts : (d : ℕ) (ts : List Token) → outcome d column_base ts
    ≡ and_then (outcome d column ts) (λ c rest. if begins class (word_class Explicit ∷ []) rest then with_value (λ e. graph_tree e c) (outcome d graph_form rest) else with_value (λ p. other_tree p c) (and_then (outcome d other_form rest) (λ f more. with_value (λ t. (f, t)) (outcome d mark more))))
unfolding column_base
column_base_by_parts d ts = column_from d (outcome d column ts)
