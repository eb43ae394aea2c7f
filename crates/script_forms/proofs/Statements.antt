-- A script, read statement by statement.
use Rattle.std.proofs.Common.{◌≡◌, ℕ, suc, ◌+◌, ◌-◌, ◌<◌, ◌≤◌, Bool, true, false, List, [], ◌∷◌, ◌++◌, refl, sym, ap, ◌∙◌, arith, append_assoc, Option, Some, Ok, Err}
use Rattle.std.proofs.lemmas.List.{append-nil}
use Rattle.grammar_forms.specs.Reading.{begins, Outcome, with_value, read_token, read}
use Rattle.prefsql_lexer.specs.declared.token.Token.{Token}
use Rattle.prefsql_lexer.specs.declared.token.Keyword.TheVariants.{Select}
use Rattle.prefsql_lexer.specs.declared.token.Symbol.TheVariants.{Semicolon}
use Rattle.token_forms.specs.Classes.{class, word_class, symbol_class}
use Rattle.token_forms.specs.Forms.{GrammarOf}
use Rattle.token_forms.specs.Reads.{Reads}
use Rattle.token_forms.specs.declared.cursor.Stop.{Stop}
use Rattle.token_forms.specs.declared.cursor.Stop.TheVariants.{Fault, Memory}
use Rattle.script_forms.specs.Counted.{Counted, counted, counted_trees, with_trees}
use Rattle.script_forms.proofs.Language.{IsReadBy}

abbrev IsSelect : List Token → Bool
IsSelect ts = begins class (word_class Select ∷ []) ts

abbrev IsSemicolon : List Token → Bool
IsSemicolon ts = begins class (symbol_class Semicolon ∷ []) ts

abbrev semicolon : List Token → Outcome Token (Unit {0})
semicolon ts = read_token class (symbol_class Semicolon) (λ t. tt {0}) ts

trees_twice : {Tree : Type 0} (xs ys : List Tree) (o : Outcome Token (Counted Tree)) → with_trees xs (with_trees ys o) ≡ with_trees (xs ++ ys) o
trees_twice xs ys (Ok p) = ap (λ z. Ok ((z, p.0.1), p.1)) (sym (append_assoc xs ys p.0.0))
trees_twice xs ys (Err r) = refl

left : (turn : ℕ) → turn < 64 → 64 - turn ≡ suc (64 - (turn + 1))
left turn h = omega arith

module _ {Rule : Type 0 → Type 1} {production right_side : (A : Type 0) → Rule A → GrammarOf Rule A} {rule_starts rule_continues : (A : Type 0) → Rule A → List ℕ}
    {Tree : Type 0} {statement statement_form : GrammarOf Rule Tree} (language : IsReadBy production right_side rule_starts rule_continues statement statement_form) (d : ℕ) where
  abbrev outcome : {A : Type 0} → GrammarOf Rule A → List Token → Outcome Token A
  outcome f ts = read Token Rule class rule_starts rule_continues right_side d f ts

  no_statement : (k : ℕ) (ts : List Token) → IsSelect ts ≡ false → outcome (counted statement_form (suc k)) ts ≡ Ok (([], false), ts)
  unfolding counted
  no_statement k ts e = rw language.not_empty (rw language.begins_with (rw e refl))

  faulty_statement : (k : ℕ) (ts rest : List Token) → IsSelect ts ≡ true → outcome statement_form ts ≡ Err rest → outcome (counted statement_form (suc k)) ts ≡ Err rest
  unfolding counted
  faulty_statement k ts rest e s = rw language.not_empty (rw language.begins_with (rw e (rw s refl)))

  last_statement : (k : ℕ) (ts next : List Token) (q : Tree) → IsSelect ts ≡ true → outcome statement_form ts ≡ Ok (q, next) → IsSemicolon next ≡ false → outcome (counted statement_form (suc k)) ts ≡ Ok ((q ∷ [], false), next)
  unfolding counted
  last_statement k ts next q e s f = rw language.not_empty (rw language.begins_with (rw e (rw s (rw f refl))))

  next_statement : (k : ℕ) (ts next rest : List Token) (q : Tree) → IsSelect ts ≡ true → outcome statement_form ts ≡ Ok (q, next) → IsSemicolon next ≡ true → semicolon next ≡ Ok (tt {0}, rest) →
      outcome (counted statement_form (suc k)) ts ≡ with_trees (q ∷ []) (outcome (counted statement_form k) rest)
  unfolding counted
  next_statement k ts next rest q e s f g = rw language.not_empty (rw language.begins_with (rw e (rw s (rw f (rw g (go (outcome (counted statement_form k) rest)))))))
    where
      go : (o : Outcome Token (Counted Tree)) → with_value counted_trees (with_value Some (with_value {B = Tree × Option (Counted Tree)} (λ b. (q, b)) (with_value Some (with_value {A = Unit {0} × (Counted Tree)} (λ p. p.1) (with_value (λ b. (tt {0}, b)) o))))) ≡ with_trees (q ∷ []) o
      go (Ok p) = refl
      go (Err r) = refl

  module _ {total : Outcome Token (Counted Tree)} (turn : ℕ) (ts : List Token) (found : List Tree) (so_far : total ≡ with_trees found (outcome (counted statement_form (64 - turn)) ts)) where
    here : turn < 64 → total ≡ with_trees found (outcome (counted statement_form (suc (64 - (turn + 1)))) ts)
    here h = so_far ∙ ap (λ k. with_trees found (outcome (counted statement_form k) ts)) (left turn h)

    pub script_stop : turn < 64 → IsSelect ts ≡ false → total ≡ Ok ((found, false), ts)
    script_stop h e = here h ∙ ap (λ o. with_trees found o) (no_statement (64 - (turn + 1)) ts e) ∙ ap (λ z. Ok ((z, false), ts)) (append-nil found)

    pub script_fault : (rest : List Token) → turn < 64 → IsSelect ts ≡ true → outcome statement_form ts ≡ Err rest → total ≡ Err rest
    script_fault rest h e s = here h ∙ ap (λ o. with_trees found o) (faulty_statement (64 - (turn + 1)) ts rest e s)

    pub script_last : (next : List Token) (q : Tree) (pushed : List Tree) → turn < 64 → IsSelect ts ≡ true → outcome statement_form ts ≡ Ok (q, next) → pushed ≡ found ++ q ∷ [] → IsSemicolon next ≡ false → total ≡ Ok ((pushed, false), next)
    script_last next q pushed h e s p f = here h ∙ ap (λ o. with_trees found o) (last_statement (64 - (turn + 1)) ts next q e s f) ∙ ap (λ z. Ok ((z, false), next)) (sym p)

    pub script_more : (next rest : List Token) (q : Tree) (pushed : List Tree) → turn < 64 → IsSelect ts ≡ true → outcome statement_form ts ≡ Ok (q, next) → pushed ≡ found ++ q ∷ [] →
        (IsSemicolon next ≡ true) × (semicolon next ≡ Ok (tt {0}, rest)) → total ≡ with_trees pushed (outcome (counted statement_form (64 - (turn + 1))) rest)
    script_more next rest q pushed h e s p f =
        here h ∙ ap (λ o. with_trees found o) (next_statement (64 - (turn + 1)) ts next rest q e s f.0 f.1) ∙ trees_twice found (q ∷ []) (outcome (counted statement_form (64 - (turn + 1))) rest)
        ∙ ap (λ z. with_trees z (outcome (counted statement_form (64 - (turn + 1))) rest)) (sym p)

    pub script_full : 64 ≤ turn → total ≡ Ok ((found, true), ts)
    unfolding counted
    script_full h = let none : 64 - turn ≡ 0 = omega arith in so_far ∙ ap (λ k. with_trees found (outcome (counted statement_form k) ts)) none ∙ ap (λ z. Ok ((z, true), ts)) (append-nil found)

    pub script_err : (stop : Stop) (rest : List Token) → turn < 64 → IsSelect ts ≡ true → Reads (outcome statement_form ts) (Err stop) rest → Reads total (Err stop) rest
    script_err Fault rest h e s = script_fault rest h e s
    script_err Memory rest h e s = tt
