-- A repeated form, read turn by turn by a loop that pushes what it reads.
use Rattle.std.proofs.Common.{◌≡◌, ℕ, true, false, List, [], ◌∷◌, ◌++◌, length, ◌<◌, refl, sym, ap, ◌∙◌, append_assoc, Result, Ok, Err}
use Rattle.std.proofs.lemmas.List.{append-nil}
use Rattle.grammar_forms.specs.Form.{many}
use Rattle.grammar_forms.specs.Reading.{Outcome, begins, with_value, read_by, read_rule}
use Rattle.grammar_forms.proofs.Turns.{turn_found, turn_fault, turn_end, read_takes}
use Rattle.prefsql_lexer.specs.declared.token.Token.{Token}
use Rattle.token_forms.specs.Classes.{class}
use Rattle.token_forms.specs.Reads.{Reads, IsPushed, with_front}
use Rattle.token_forms.specs.declared.cursor.Stop.{Stop}
use Rattle.token_forms.specs.declared.cursor.Stop.TheVariants.{Fault, Memory}
use Rattle.token_forms.proofs.Kept.{pushed_read, read_err}
use Rattle.sql_text.specs.Grammar.{Grammar, Rule}
use Rattle.sql_parser.specs.Outcome.{outcome, rule_starts, rule_continues, right_side}
use Rattle.sql_parser.proofs.Predictive.{agrees, first, optional, predictive}

front_twice : {A : Type 0} (found : List A) (v : A) (o : Outcome Token (List A)) → with_front found (with_value (λ vs. v ∷ vs) o) ≡ with_front (found ++ v ∷ []) o
front_twice found v (Ok p) = ap (λ z. Ok (z, p.1)) (sym (append_assoc found (v ∷ []) p.0))
front_twice found v (Err rest) = refl

module _ (n : ℕ) {A : Type 0} (f : Grammar A) (decides : predictive f ≡ true) (some : optional f ≡ false) where
  abbrev one : List Token → Outcome Token A
  one ts = read_by Token Rule class rule_starts rule_continues (read_rule Token Rule class rule_starts rule_continues right_side n) f ts

  takes : (ts rest : List Token) (v : A) → one ts ≡ Ok (v, rest) → length rest < length ts
  takes ts rest v e = read_takes Token Rule class rule_starts rule_continues right_side agrees n f decides some ts rest v e

  pub many_less : (ts rest : List Token) (found list : List A) (item : Result A Stop) → IsPushed found item (Ok list) → Reads (outcome n f ts) item rest → length rest < length ts
  many_less ts rest found list item p reads = let r = pushed_read (outcome n f ts) item rest found list p reads in takes ts rest r.0 r.1

  module _ {total : Outcome Token (List A)} (ts : List Token) (found : List A) (so_far : total ≡ with_front found (outcome n (many f) ts)) where
    pub many_end : begins class (first f) ts ≡ false → total ≡ Ok (found, ts)
    many_end b = so_far ∙ ap (λ o. with_front found o) (turn_end class (first f) one takes ts b) ∙ ap (λ z. Ok (z, ts)) (append-nil found)

    module _ (begun : begins class (first f) ts ≡ true) (rest : List Token) (item : Result A Stop) (reads : Reads (outcome n f ts) item rest) where
      pub many_more : (list : List A) → IsPushed found item (Ok list) → total ≡ with_front list (outcome n (many f) rest)
      many_more list p =
          let r = pushed_read (outcome n f ts) item rest found list p reads in
          so_far ∙ ap (λ o. with_front found o) (turn_found class (first f) one takes ts rest r.0 begun r.1) ∙ front_twice found r.0 (outcome n (many f) rest)
          ∙ ap (λ z. with_front z (outcome n (many f) rest)) (sym r.2)

      pub many_err : (stop : Stop) → IsPushed found item (Err stop) → Reads total (Err stop) rest
      many_err Fault p =
          so_far ∙ ap (λ o. with_front found o) (turn_fault class (first f) one takes ts rest begun (read_err (outcome n f ts) item rest Fault p reads))
      many_err Memory p = tt
