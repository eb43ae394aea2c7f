-- Which side of a choice is read, by the next token. Where no side fits, each is a fault at that token.
use Rattle.std.proofs.Common.{◌≡◌, ℕ, Bool, true, false, ◌||◌, List, [], ◌∷◌, ◌++◌, eqb, refl, ap, ◌∙◌, Err}
use Rattle.std.proofs.lemmas.Bool.{both_ways}
use Rattle.grammar_forms.specs.Reading.{Outcome, contains, disjoint, begins, with_value}
use Rattle.grammar_forms.proofs.Sets.{disjoint-not_both}
use Rattle.prefsql_lexer.specs.declared.token.Token.{Token}
use Rattle.prefsql_lexer.specs.declared.token.Keyword.TheVariants as word
use Rattle.prefsql_lexer.specs.declared.token.Symbol.TheVariants as symbol
use Rattle.token_forms.specs.Classes.{class, name_class, number_class, chars_class, symbol_class, word_class}
use Rattle.token_forms.specs.Columns.{column, optional_sign, number_form, literal}
use Rattle.token_forms.specs.Plain.{plain}
use Rattle.token_forms.specs.Reads.{Reads}
use Rattle.token_forms.specs.declared.cursor.Stop.{Stop}
use Rattle.token_forms.specs.declared.cursor.Stop.TheVariants.{Fault, Memory}
use Rattle.sql_text.specs.declared.named.NamedScalar.{Column, Literal}
use Rattle.sql_text.specs.Grammar.{case, factor, sum, exists}
use Rattle.sql_parser.specs.ReadGrammar.{compared, test_form}
use Rattle.sql_parser.specs.Outcome.{outcome}
use Rattle.sql_parser.proofs.Plain.{plain_column, plain_literal}

abbrev is : ℕ → List Token → Bool
is c ts = begins class (c ∷ []) ts

-- a token of one set is in no other
not_begins : (cs ds : List ℕ) (ts : List Token) → disjoint cs ds ≡ true → begins class cs ts ≡ true → begins class ds ts ≡ false
not_begins cs ds [] d b = refl
not_begins cs ds (t ∷ ts) d b = go (contains (class t) ds) refl
  where
    go : (is : Bool) → contains (class t) ds ≡ is → contains (class t) ds ≡ false
    go false e = e
    go true e = absurd (disjoint-not_both (class t) cs ds d b e)

none_left : (a b : Bool) → (a || b) ≡ false → a ≡ false
none_left false b e = refl
none_left true b e = e

none_right : (a b : Bool) → (a || b) ≡ false → b ≡ false
none_right false b e = e
none_right true b e = absurd (both_ways true e refl)

first_none : (c : ℕ) (cs ds : List ℕ) → contains c (cs ++ ds) ≡ false → contains c cs ≡ false
first_none c [] ds e = refl
first_none c (d ∷ cs) ds e = rw (none_left (eqb c d) _ e) (first_none c cs ds (none_right (eqb c d) _ e))

last_none : (c : ℕ) (cs ds : List ℕ) → contains c (cs ++ ds) ≡ false → contains c ds ≡ false
last_none c [] ds e = e
last_none c (d ∷ cs) ds e = last_none c cs ds (none_right (eqb c d) _ e)

-- ---- a value of another kind

value_err : {A B : Type 0} (h : A → B) (o : Outcome Token B) (p : Outcome Token A) (stop : Stop) (rest : List Token) → o ≡ with_value h p → Reads p (Err stop) rest → Reads o (Err stop) rest
value_err h o p Fault rest e r = e ∙ ap (λ z. with_value h z) r
value_err h o p Memory rest e r = tt

-- ---- scalars

abbrev literal_starts : List ℕ
literal_starts = chars_class ∷ symbol_class symbol.Plus ∷ symbol_class symbol.Minus ∷ number_class ∷ []

literal_none : (n : ℕ) (ts : List Token) → begins class literal_starts ts ≡ false → outcome n literal ts ≡ Err ts
unfolding optional_sign number_form literal
literal_none n [] b = refl
literal_none n (t ∷ ts) b =
    let c = class t in
    let chars = none_left (eqb c chars_class) _ b in
    let b1 = none_right (eqb c chars_class) _ b in
    let plus = none_left (eqb c (symbol_class symbol.Plus)) _ b1 in
    let b2 = none_right (eqb c (symbol_class symbol.Plus)) _ b1 in
    let minus = none_left (eqb c (symbol_class symbol.Minus)) _ b2 in
    let b3 = none_right (eqb c (symbol_class symbol.Minus)) _ b2 in
    let number = none_left (eqb c number_class) false b3 in
    rw (chars, plus, minus, number) refl

case_none : (n : ℕ) (ts : List Token) → is (word_class word.Case) ts ≡ false → outcome n case ts ≡ Err ts
unfolding case
case_none n [] b = refl
case_none n (t ∷ ts) b = rw (none_left (eqb (class t) (word_class word.Case)) false b) refl

pub factor_column : (n : ℕ) (ts : List Token) → is name_class ts ≡ true → outcome n factor ts ≡ with_value Column (outcome n column ts)
unfolding column factor
factor_column n ts b = rw b refl

pub factor_case : (n : ℕ) (ts : List Token) → is (word_class word.Case) ts ≡ true → outcome n factor ts ≡ outcome n case ts
unfolding column optional_sign number_form literal factor
factor_case n ts b =
    let cs = word_class word.Case ∷ [] in
    rw (not_begins cs (name_class ∷ []) ts refl b, not_begins cs literal_starts ts refl b) refl

pub factor_literal : (n : ℕ) (ts : List Token) → is name_class ts ≡ false → is (word_class word.Case) ts ≡ false → outcome n factor ts ≡ with_value Literal (outcome n literal ts)
unfolding column optional_sign number_form literal factor
factor_literal n ts a b = go (begins class literal_starts ts) refl
  where
    go : (is : Bool) → begins class literal_starts ts ≡ is → outcome n factor ts ≡ with_value Literal (outcome n literal ts)
    go true e = rw (a, e) refl
    go false e = rw (a, e, case_none n ts b) (rw (literal_none n ts e) refl)

pub factor_column_err : (n : ℕ) (ts rest : List Token) (stop : Stop) → is name_class ts ≡ true → Reads (plain column ts) (Err stop) rest → Reads (outcome n factor ts) (Err stop) rest
factor_column_err n ts rest stop b reads = value_err Column (outcome n factor ts) (plain column ts) stop rest (factor_column n ts b ∙ ap (λ z. with_value Column z) (plain_column n ts)) reads

pub factor_literal_err : (n : ℕ) (ts rest : List Token) (stop : Stop) → is name_class ts ≡ false → is (word_class word.Case) ts ≡ false → Reads (plain literal ts) (Err stop) rest → Reads (outcome n factor ts) (Err stop) rest
factor_literal_err n ts rest stop a b reads = value_err Literal (outcome n factor ts) (plain literal ts) stop rest (factor_literal n ts a b ∙ ap (λ z. with_value Literal z) (plain_literal n ts)) reads

-- ---- conditions

sum_none : (n : ℕ) (ts : List Token) → is name_class ts ≡ false → is (word_class word.Case) ts ≡ false → begins class literal_starts ts ≡ false → outcome n sum ts ≡ Err ts
unfolding sum
sum_none n ts a b e = rw (factor_literal n ts a b, literal_none n ts e) refl

exists_none : (n : ℕ) (ts : List Token) → is (word_class word.Exists) ts ≡ false → outcome n exists ts ≡ Err ts
unfolding exists
exists_none n [] b = refl
exists_none n (t ∷ ts) b = rw (none_left (eqb (class t) (word_class word.Exists)) false b) refl

-- with which classes a sum begins
abbrev sum_starts : List ℕ
sum_starts = name_class ∷ (literal_starts ++ word_class word.Case ∷ [])

compared_none : (n : ℕ) (ts : List Token) → begins class sum_starts ts ≡ false → outcome n compared ts ≡ Err ts
unfolding compared
compared_none n [] b = rw (sum_none n [] refl refl refl) refl
compared_none n (t ∷ ts) b =
    let c = class t in
    let name = none_left (eqb c name_class) _ b in
    let b1 = none_right (eqb c name_class) _ b in
    let literals : contains c literal_starts ≡ false = first_none c literal_starts (word_class word.Case ∷ []) b1 in
    let last : contains c (word_class word.Case ∷ []) ≡ false = last_none c literal_starts (word_class word.Case ∷ []) b1 in
    let a : is name_class (t ∷ ts) ≡ false = rw name refl in
    rw (sum_none n (t ∷ ts) a last literals) refl

test_exists : (n : ℕ) (ts : List Token) → is (word_class word.Exists) ts ≡ true → outcome n test_form ts ≡ outcome n exists ts
unfolding column optional_sign number_form literal case factor sum compared test_form
test_exists n ts b =
    let cs = word_class word.Exists ∷ [] in
    rw (not_begins cs (symbol_class symbol.LeftParen ∷ []) ts refl b, not_begins cs sum_starts ts refl b) refl

test_compared : (n : ℕ) (ts : List Token) → is (symbol_class symbol.LeftParen) ts ≡ false → is (word_class word.Exists) ts ≡ false → outcome n test_form ts ≡ outcome n compared ts
unfolding column optional_sign number_form literal case factor sum compared test_form
test_compared n ts a b = go (begins class sum_starts ts) refl
  where
    go : (is : Bool) → begins class sum_starts ts ≡ is → outcome n test_form ts ≡ outcome n compared ts
    go true e = rw (a, e) refl
    go false e = rw (a, e, exists_none n ts b) (rw (compared_none n ts e) refl)

-- the same, where it was tried whether a parenthesis opens
pub not_paren_exists : (n : ℕ) (ts same : List Token) → same ≡ ts → is (word_class word.Exists) same ≡ true → outcome n test_form ts ≡ outcome n exists same
not_paren_exists n ts same e b = rw (← e) (test_exists n same b)

pub not_paren_compared : (n : ℕ) (ts same : List Token) → (is (symbol_class symbol.LeftParen) ts ≡ false) × (same ≡ ts) → is (word_class word.Exists) same ≡ false → outcome n test_form ts ≡ outcome n compared same
not_paren_compared n ts same e b =
    let a : is (symbol_class symbol.LeftParen) same ≡ false = rw e.1 e.0 in
    rw (← e.1) (test_compared n same a b)
