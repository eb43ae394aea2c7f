-- LAYERED with a set first.
use Rattle.std.proofs.Common.{◌≡◌, ℕ, false, List, [], ◌∷◌, sym, ap, ◌∙◌, Option, Ok}
use Rattle.grammar_forms.specs.Reading.{begins, with_value}
use Rattle.prefsql_lexer.specs.declared.token.Token.{Token}
use Rattle.prefsql_lexer.specs.declared.token.Keyword.TheVariants.{Others}
use Rattle.query_tree.specs.declared.preference.SetTree.{SetTree}
use Rattle.query_tree.specs.declared.preference.BaseForm.TheVariants.{Layered}
use Rattle.token_forms.specs.Classes.{class, word_class}
use Rattle.query_grammar.specs.ReadPreferences.{layers_form, layers_from_sets, sets_and_others}
use Rattle.token_forms.specs.Forms.{or_none}
use Rattle.query_grammar.specs.Outcome.{outcome}

pub layers_by_sets : (d : ℕ) (ts same rest : List Token) (before : List SetTree) (after : Option (List SetTree)) (behind : List SetTree) → begins class (word_class Others ∷ []) ts ≡ false → same ≡ ts →
    outcome d sets_and_others same ≡ Ok ((before, after), rest) → behind ≡ or_none after → outcome d layers_form ts ≡ Ok (Layered before behind, rest)
unfolding layers_form
layers_by_sets d ts same rest before after behind b n e r =
    rw b (ap (λ o. with_value layers_from_sets o) (ap (λ z. outcome d sets_and_others z) (sym n) ∙ e) ∙ ap (λ z. Ok (Layered before z, rest)) (sym r))
