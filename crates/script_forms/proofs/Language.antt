-- A language of scripts, as it is written and as it is read: what a proof needs to know of the two.
use Rattle.std.proofs.Common.{◌≡◌, ℕ, true, false, List, [], ◌∷◌}
use Rattle.grammar_forms.specs.Form.{Wholes, Fronts}
use Rattle.grammar_forms.specs.Form as form
use Rattle.grammar_forms.specs.Reading.{starts, is_optional, is_predictive}
use Rattle.grammar_forms.proofs.Equal.{Equal}
use Rattle.grammar_forms.proofs.Nesting.{is_nested, after}
use Rattle.grammar_forms.proofs.Predictive.{AgreesAt}
use Rattle.grammar_forms.proofs.Same.{Within}
use Rattle.prefsql_lexer.specs.declared.token.Token.{Token}
use Rattle.prefsql_lexer.specs.declared.token.Keyword.TheVariants.{Select}
use Rattle.token_forms.specs.Classes.{class, word_class}
use Rattle.token_forms.specs.Forms.{GrammarOf}
use Rattle.token_forms.proofs.Depth.{rises, falls}
use Rattle.script_forms.specs.Counted.{counted}

-- a form keeps its parentheses, and CASE its END
abbrev pub Keeps : {Rule : Type 0 → Type 1} {A : Type 0} → GrammarOf Rule A → Type 0
Keeps {Rule} f = (is_nested Token Rule class rises falls f 0 ≡ true) × (after Token Rule class rises falls f 0 ≡ 0)

-- what each production stands for on one side, it stands for on the other
abbrev pub SidesWithin : {Rule : Type 0 → Type 1} (some other : (A : Type 0) → Rule A → GrammarOf Rule A) → Type 1
SidesWithin {Rule} some other =
    (R : (A : Type 0) → Rule A → Wholes Token A) (S : (A : Type 0) → Rule A → Fronts Token) → ((A : Type 0) (p : Rule A) → S A p []) → (A : Type 0) (p : Rule A) →
    Within (form.WholeBy Token Rule class R (some A p)) (form.WholeBy Token Rule class R (other A p)) (form.FrontBy Token Rule class R S (some A p)) (form.FrontBy Token Rule class R S (other A p))

-- The productions as they are written and as they are read stand for the same, and so do the two forms of a statement; one token
-- of look-ahead decides what is read, and SELECT begins a statement; and what is written keeps its parentheses.
pub record IsReadBy {Rule : Type 0 → Type 1} (production right_side : (A : Type 0) → Rule A → GrammarOf Rule A) (rule_starts rule_continues : (A : Type 0) → Rule A → List ℕ)
    {Tree : Type 0} (statement statement_form : GrammarOf Rule Tree) : Type 1 where
  pub agrees : (A : Type 0) (p : Rule A) → AgreesAt Token Rule class rule_starts rule_continues right_side A p
  pub decides : is_predictive Token Rule class rule_starts rule_continues (counted statement_form 64) ≡ true
  pub begins_with : starts Token Rule class rule_starts rule_continues statement_form ≡ word_class Select ∷ []
  pub not_empty : is_optional Token Rule class rule_starts rule_continues statement_form ≡ false
  pub there : SidesWithin production right_side
  pub back : SidesWithin right_side production
  pub same : (R : (A : Type 0) → Rule A → Wholes Token A) (S : (A : Type 0) → Rule A → Fronts Token) → ((A : Type 0) (p : Rule A) → S A p []) → Equal Token Rule class R S statement statement_form
  pub production_keeps : (A : Type 0) (p : Rule A) → Keeps (production A p)
  pub statement_keeps : Keeps statement
