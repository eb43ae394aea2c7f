-- The next token says which side of a choice is read.
use Rattle.std.proofs.Common.{◌≡◌, ℕ, ◌||◌, List, [], ◌∷◌, refl, sym, ap, subst, Result, Ok, Err}
use Rattle.std.specs.Prelude.{if◌then◌else◌}
use Rattle.grammar_forms.specs.Reading.{Outcome, begins, read_token, with_value}
use Rattle.grammar_forms.proofs.Sets.{begins_more}
use Rattle.prefsql_lexer.specs.declared.token.Token.{Token}
use Rattle.prefsql_lexer.specs.declared.token.Keyword.TheVariants.{Else, In, Not}
use Rattle.prefsql_lexer.specs.declared.token.Symbol.TheVariants.{Equal, NotEqual}
use Rattle.query_tree.specs.declared.name.NameTree.{NameTree}
use Rattle.query_tree.specs.declared.preference.BaseForm.{BaseForm}
use Rattle.query_tree.specs.declared.preference.BaseForm.TheVariants.{Neg}
use Rattle.query_tree.specs.declared.preference.SetTree.{SetTree}
use Rattle.token_forms.specs.Columns.{column}
use Rattle.token_forms.specs.Reads.{Reads}
use Rattle.token_forms.specs.declared.cursor.Stop.{Stop}
use Rattle.token_forms.specs.Classes.{class, word_class, symbol_class}
use Rattle.query_grammar.specs.ReadPreferences.{Second, second_form, second_good, second_bad, good_set, bad_set, good_base, otherwise, other_form}
use Rattle.query_grammar.specs.Outcome.{outcome}
use Rattle.preference_reader.specs.Sides.{second_set, no_good_form, no_set_form}

pub other_by_sides : (d : ℕ) (ts : List Token) → outcome d other_form ts
    ≡ (if begins class (symbol_class Equal ∷ []) ts || begins class (word_class In ∷ []) ts then outcome d good_base ts else outcome d no_good_form ts)
unfolding other_form no_good_form no_set_form good_base good_set
other_by_sides d ts = ap (λ b. if b then outcome d good_base ts else outcome d no_good_form ts) (begins_more class (symbol_class Equal) (word_class In) [] ts)

pub no_good_by_sides : (d : ℕ) (ts : List Token) → outcome d no_good_form ts
    ≡ (if begins class (symbol_class NotEqual ∷ []) ts || begins class (word_class Not ∷ []) ts then with_value Neg (outcome d bad_set ts) else outcome d no_set_form ts)
unfolding no_good_form bad_set
no_good_by_sides d ts = ap (λ b. if b then with_value Neg (outcome d bad_set ts) else outcome d no_set_form ts) (begins_more class (symbol_class NotEqual) (word_class Not) [] ts)

pub second_by_sides : (d : ℕ) (ts : List Token) → outcome d second_set ts
    ≡ (if begins class (symbol_class Equal ∷ []) ts || begins class (word_class In ∷ []) ts then with_value second_good (outcome d good_set ts) else with_value second_bad (outcome d bad_set ts))
unfolding second_set good_set
second_by_sides d ts = ap (λ b. if b then with_value second_good (outcome d good_set ts) else with_value second_bad (outcome d bad_set ts)) (begins_more class (symbol_class Equal) (word_class In) [] ts)

-- the values that are handed on, one after the other
second_value : (u : Unit {0}) (first : SetTree) (name : NameTree) (o : Outcome Token Second) →
    with_value {A = SetTree → BaseForm} (λ h. h first) (with_value {A = NameTree × Second} second_form (with_value {A = Unit {0} × (NameTree × Second)} (λ p. p.1) (with_value (λ b. (u, b)) (with_value (λ b. (name, b)) o))))
    ≡ with_value (λ h. h name first) o
second_value u first name (Ok p) = refl
second_value u first name (Err rest) = refl

otherwise_is : (d : ℕ) (ts next rest : List Token) (u : Unit {0}) (first : SetTree) (name : NameTree) → read_token class (word_class Else) (λ _. tt {0}) ts ≡ Ok (u, next) → outcome d column next ≡ Ok (name, rest) →
    with_value (λ h. h first) (outcome d otherwise ts) ≡ with_value (λ h. h name first) (outcome d second_set rest)
unfolding otherwise second_set
otherwise_is d ts next rest u first name e r = rw e (rw r (second_value u first name (outcome d second_set rest)))

-- behind ELSE and a column stands a second set
pub otherwise_read : (d : ℕ) (ts next rest : List Token) (u : Unit {0}) (first kept : SetTree) (name : NameTree) → read_token class (word_class Else) (λ _. tt {0}) ts ≡ Ok (u, next) → outcome d column next ≡ Ok (name, rest) →
    kept ≡ first → (r : Result BaseForm Stop) (after : List Token) → Reads (with_value (λ h. h name kept) (outcome d second_set rest)) r after → Reads (with_value (λ h. h first) (outcome d otherwise ts)) r after
otherwise_read d ts next rest u first kept name e c k r after reads =
    subst (λ o. Reads o r after) (sym (otherwise_is d ts next rest u first name e c)) (subst (λ z. Reads (with_value (λ h. h name z) (outcome d second_set rest)) r after) k reads)
