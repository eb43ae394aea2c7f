-- Forms in which nothing nests.
use Rattle.std.proofs.Common.{◌≡◌, Bool, true, refl}
use Rattle.grammar_forms.specs.Reading.{is_predictive}
use Rattle.grammar_forms.proofs.Predictive.{AgreesAt}
use Rattle.prefsql_lexer.specs.declared.token.Token.{Token}
use Rattle.token_forms.specs.Classes.{class}
use Rattle.token_forms.specs.Forms.{GrammarOf}
use Rattle.token_forms.specs.Columns.{column, optional_sign, number_form, literal, direction, order}
use Rattle.token_forms.specs.Phrases.{alias, from}
use Rattle.token_forms.specs.Plain.{NoRule, no_classes, no_side}

pub no_productions : (A : Type 0) (p : NoRule A) → AgreesAt Token NoRule class no_classes no_classes no_side A p
no_productions A p = elim p [ ]

abbrev predictive : {A : Type 0} → GrammarOf NoRule A → Bool
predictive f = is_predictive Token NoRule class no_classes no_classes f

pub plain-column : predictive column ≡ true
unfolding column
plain-column = refl

pub plain-literal : predictive literal ≡ true
unfolding optional_sign number_form literal
plain-literal = refl

pub plain-order : predictive order ≡ true
unfolding direction order
plain-order = refl

pub plain-from : predictive from ≡ true
unfolding alias from
plain-from = refl
