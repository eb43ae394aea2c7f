-- A list with separators, read turn by turn, and a production that nests, for any names of productions.
use Rattle.std.proofs.Common.{◌≡◌, ◌≢◌, ℕ, suc, ◌-◌, Bool, true, false, List, [], ◌∷◌, ◌++◌, length, ◌<◌, ◌≤◌, refl, sym, ap, ◌∙◌, arith, append_assoc, Option, Some, None, Result, Ok, Err}
use Rattle.std.proofs.lemmas.Bool.{and_from}
use Rattle.std.proofs.lemmas.List.{append-nil}
use Rattle.grammar_forms.specs.Form.{token, many, rows}
use Rattle.grammar_forms.specs.Reading.{begins, Outcome, with_value, read_token, read, read_by, read_rule, starts, is_predictive}
use Rattle.grammar_forms.proofs.Predictive.{AgreesAt}
use Rattle.grammar_forms.proofs.Turns.{turn_found, turn_fault, turn_end, row_found, row_fault, row_last, row_end, read_takes, read_shorter}
use Rattle.prefsql_lexer.specs.declared.token.Token.{Token}
use Rattle.token_forms.specs.Classes.{class}
use Rattle.token_forms.specs.Forms.{GrammarOf, ◌⨟>◌}
use Rattle.token_forms.specs.Reads.{Reads, IsPushed, with_front, with_items}
use Rattle.token_forms.specs.declared.cursor.Stop.{Stop}
use Rattle.token_forms.specs.declared.cursor.Stop.TheVariants.{Fault, Memory}
use Rattle.token_forms.proofs.Kept.{pushed_read}

front_twice : {A : Type 0} (found : List A) (v : A) (o : Outcome Token (List A)) → with_front found (with_value (λ vs. v ∷ vs) o) ≡ with_front (found ++ v ∷ []) o
front_twice found v (Ok p) = ap (λ z. Ok (z, p.1)) (sym (append_assoc found (v ∷ []) p.0))
front_twice found v (Err rest) = refl

items_twice : {A B : Type 0} (found : List A) (v : A) (o : Outcome Token (List A × Option B)) → with_items found (with_value {B = List A × Option B} (λ p. (v ∷ p.0, p.1)) o) ≡ with_items (found ++ v ∷ []) o
items_twice found v (Ok p) = ap (λ z. Ok ((z, p.0.1), p.1)) (sym (append_assoc found (v ∷ []) p.0.0))
items_twice found v (Err rest) = refl

module _ {Rule : Type 0 → Type 1} {rule_starts rule_continues : (A : Type 0) → Rule A → List ℕ} {right_side : (A : Type 0) → Rule A → GrammarOf Rule A}
    (agrees : (A : Type 0) (p : Rule A) → AgreesAt Token Rule class rule_starts rule_continues right_side A p) where
  abbrev outcome : ℕ → {A : Type 0} → GrammarOf Rule A → List Token → Outcome Token A
  outcome n f ts = read Token Rule class rule_starts rule_continues right_side n f ts

  abbrev nested : ℕ → {A : Type 0} → Rule A → List Token → Outcome Token A
  nested n {A} p ts = read_rule Token Rule class rule_starts rule_continues right_side n A p ts

  abbrev predictive : {A : Type 0} → GrammarOf Rule A → Bool
  predictive f = is_predictive Token Rule class rule_starts rule_continues f

  abbrev first : {A : Type 0} → GrammarOf Rule A → List ℕ
  first f = starts Token Rule class rule_starts rule_continues f

  token_shorter : {A : Type 0} (c : ℕ) (value : Token → A) (ts rest : List Token) (v : A) → read_token class c value ts ≡ Ok (v, rest) → length rest < length ts
  token_shorter c value ts rest v e = read_takes Token Rule class rule_starts rule_continues right_side agrees 0 (token c value) refl refl ts rest v e

  module _ (n : ℕ) {A : Type 0} (c : ℕ) (f : GrammarOf Rule A) (decides : predictive f ≡ true) where
    abbrev one : GrammarOf Rule A
    one = token c (λ t. tt {0}) ⨟> f

    after : (ts rest : List Token) → read_token class c (λ t. tt {0}) ts ≡ Ok (tt {0}, rest) → outcome n one ts ≡ outcome n f rest
    after ts rest e = rw e (go (outcome n f rest))
      where
        go : (o : Outcome Token A) → with_value {A = Unit {0} × A} (λ p. p.1) (with_value (λ b. (tt {0}, b)) o) ≡ o
        go (Ok p) = refl
        go (Err rest) = refl

    one_decides : predictive one ≡ true
    one_decides = and_from (predictive f) true decides refl

    one_takes : (ts rest : List Token) (v : A) → outcome n one ts ≡ Ok (v, rest) → length rest < length ts
    one_takes ts rest v e = read_takes Token Rule class rule_starts rule_continues right_side agrees n one one_decides refl ts rest v e

    pub separated_turn : (ts next rest : List Token) (v : A) (found : List A) → begins class (c ∷ []) ts ≡ true → read_token class c (λ t. tt {0}) ts ≡ Ok (tt {0}, next) → outcome n f next ≡ Ok (v, rest) →
        with_front found (outcome n (many one) ts) ≡ with_front (found ++ v ∷ []) (outcome n (many one) rest)
    separated_turn ts next rest v found b e r =
        ap (λ o. with_front found o) (turn_found class (c ∷ []) (read_by Token Rule class rule_starts rule_continues (read_rule Token Rule class rule_starts rule_continues right_side n) one) one_takes ts rest v b (after ts next e ∙ r))
        ∙ front_twice found v (outcome n (many one) rest)

    pub separated_fault : (ts next rest : List Token) (found : List A) → begins class (c ∷ []) ts ≡ true → read_token class c (λ t. tt {0}) ts ≡ Ok (tt {0}, next) → outcome n f next ≡ Err rest →
        with_front found (outcome n (many one) ts) ≡ Err rest
    separated_fault ts next rest found b e r =
        ap (λ o. with_front found o) (turn_fault class (c ∷ []) (read_by Token Rule class rule_starts rule_continues (read_rule Token Rule class rule_starts rule_continues right_side n) one) one_takes ts rest b (after ts next e ∙ r))

    pub separated_end : (ts : List Token) (found : List A) → begins class (c ∷ []) ts ≡ false → with_front found (outcome n (many one) ts) ≡ Ok (found, ts)
    separated_end ts found b =
        ap (λ o. with_front found o) (turn_end class (c ∷ []) (read_by Token Rule class rule_starts rule_continues (read_rule Token Rule class rule_starts rule_continues right_side n) one) one_takes ts b)
        ∙ ap (λ z. Ok (z, ts)) (append-nil found)

    pub separated_less : (ts next rest : List Token) (v : A) → read_token class c (λ t. tt {0}) ts ≡ Ok (tt {0}, next) → outcome n f next ≡ Ok (v, rest) → length rest < length ts
    separated_less ts next rest v e r =
        omega (arith, token_shorter c (λ t. tt {0}) ts next (tt {0}) e, read_shorter Token Rule class rule_starts rule_continues right_side agrees n f decides next rest v r)

    -- one more turn of a loop that pushes what it reads
    pub separated_more : {total : Outcome Token (List A)} (ts next rest : List Token) (found pushed : List A) (v : A) → total ≡ with_front found (outcome n (many one) ts) →
        (begins class (c ∷ []) ts ≡ true) × (read_token class c (λ t. tt {0}) ts ≡ Ok (tt {0}, next)) → outcome n f next ≡ Ok (v, rest) → pushed ≡ found ++ v ∷ [] → total ≡ with_front pushed (outcome n (many one) rest)
    separated_more ts next rest found pushed v e b r p = e ∙ separated_turn ts next rest v found b.0 b.1 r ∙ ap (λ z. with_front z (outcome n (many one) rest)) (sym p)

    -- the same, where the item is pushed as soon as it is read
    pub pushed_less : (ts next rest : List Token) (found list : List A) (item : Result A Stop) → read_token class c (λ t. tt {0}) ts ≡ Ok (tt {0}, next) → IsPushed found item (Ok list) → Reads (outcome n f next) item rest → length rest < length ts
    pushed_less ts next rest found list item e p reads = let r = pushed_read (outcome n f next) item rest found list p reads in separated_less ts next rest r.0 e r.1

    pub pushed_more : {total : Outcome Token (List A)} (ts next rest : List Token) (found list : List A) (item : Result A Stop) → total ≡ with_front found (outcome n (many one) ts) →
        (begins class (c ∷ []) ts ≡ true) × (read_token class c (λ t. tt {0}) ts ≡ Ok (tt {0}, next)) → IsPushed found item (Ok list) → Reads (outcome n f next) item rest → total ≡ with_front list (outcome n (many one) rest)
    pushed_more ts next rest found list item e b p reads = let r = pushed_read (outcome n f next) item rest found list p reads in separated_more ts next rest found list r.0 e b r.1 r.2

  -- ---- a production that nests

  pub nested_none : (n : ℕ) → n ≡ 0 → {A : Type 0} (p : Rule A) (ts : List Token) → nested n p ts ≡ Err ts
  unfolding read_rule
  nested_none n e {A} p ts = rw e refl

  pub nested_some : (n : ℕ) → n ≢ 0 → {A : Type 0} (p : Rule A) (ts : List Token) → nested n p ts ≡ outcome (n - 1) (right_side A p) ts
  unfolding read_rule
  nested_some n some {A} p ts = let e : n ≡ suc (n - 1) = omega arith in ap (λ k. nested k p ts) e

  -- ---- a list with a last item of another kind

  module _ (n : ℕ) {A B : Type 0} (c : ℕ) (f : GrammarOf Rule A) (g : GrammarOf Rule B) (decides : predictive f ≡ true) where
    abbrev of : {C : Type 0} → GrammarOf Rule C → List Token → Outcome Token C
    of h ts = read_by Token Rule class rule_starts rule_continues (read_rule Token Rule class rule_starts rule_continues right_side n) h ts

    shorter : (ts rest : List Token) (v : A) → outcome n f ts ≡ Ok (v, rest) → length rest ≤ length ts
    shorter ts rest v e = read_shorter Token Rule class rule_starts rule_continues right_side agrees n f decides ts rest v e

    pub rows_less : (ts next rest : List Token) (v : A) → read_token class c (λ t. tt {0}) ts ≡ Ok (tt {0}, next) → outcome n f next ≡ Ok (v, rest) → length rest < length ts
    rows_less ts next rest v e r = omega (arith, token_shorter c (λ t. tt {0}) ts next (tt {0}) e, shorter next rest v r)

    module _ {total : Outcome Token (List A × Option B)} (ts next : List Token) (found : List A) (so_far : total ≡ with_items found (outcome n (rows c f g) ts)) where
      pub rows_end : begins class (c ∷ []) ts ≡ false → total ≡ Ok ((found, None), ts)
      rows_end b = so_far ∙ ap (λ o. with_items found o) (row_end class c (first g) (of f) (of g) shorter ts b) ∙ ap (λ z. Ok ((z, None), ts)) (append-nil found)

      module _ (comma : (begins class (c ∷ []) ts ≡ true) × (read_token class c (λ t. tt {0}) ts ≡ Ok (tt {0}, next))) where
        pub rows_more : (rest : List Token) (v : A) (pushed : List A) → begins class (first g) next ≡ false → outcome n f next ≡ Ok (v, rest) → pushed ≡ found ++ v ∷ [] → total ≡ with_items pushed (outcome n (rows c f g) rest)
        rows_more rest v pushed i r p =
            so_far ∙ ap (λ o. with_items found o) (row_found class c (first g) (of f) (of g) shorter ts next rest v comma.0 comma.1 i r) ∙ items_twice found v (outcome n (rows c f g) rest)
            ∙ ap (λ z. with_items z (outcome n (rows c f g) rest)) (sym p)

        rows_fault : (rest : List Token) → begins class (first g) next ≡ false → outcome n f next ≡ Err rest → total ≡ Err rest
        rows_fault rest i r = so_far ∙ ap (λ o. with_items found o) (row_fault class c (first g) (of f) (of g) shorter ts next rest comma.0 comma.1 i r)

        pub rows_item_err : (stop : Stop) (rest : List Token) → begins class (first g) next ≡ false → Reads (outcome n f next) (Err stop) rest → Reads total (Err stop) rest
        rows_item_err Fault rest i r = rows_fault rest i r
        rows_item_err Memory rest i r = tt

        at_last : begins class (first g) next ≡ true → total ≡ with_items found (with_value {B = List A × Option B} (λ b. ([], Some b)) (outcome n g next))
        at_last i = so_far ∙ ap (λ o. with_items found o) (row_last class c (first g) (of f) (of g) shorter ts next comma.0 comma.1 i)

        pub rows_last : (rest : List Token) (v : B) → begins class (first g) next ≡ true → outcome n g next ≡ Ok (v, rest) → total ≡ Ok ((found, Some v), rest)
        rows_last rest v i r = at_last i ∙ ap (λ o. with_items found (with_value {B = List A × Option B} (λ b. ([], Some b)) o)) r ∙ ap (λ z. Ok ((z, Some v), rest)) (append-nil found)

        pub rows_last_err : (stop : Stop) (rest : List Token) → begins class (first g) next ≡ true → Reads (outcome n g next) (Err stop) rest → Reads total (Err stop) rest
        rows_last_err Fault rest i r = at_last i ∙ ap (λ o. with_items found (with_value {B = List A × Option B} (λ b. ([], Some b)) o)) r
        rows_last_err Memory rest i r = tt
