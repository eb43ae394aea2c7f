-- What holds of every value of a form, by what holds of the values of its parts.
use Rattle.std.proofs.Common.{◌≡◌, ◌≤◌, ℕ, suc, zero, ℤ, pos, negsuc, ◌<◌, ◌^◌, Bool, true, false, inl, inr, List, [], ◌∷◌, ◌++◌, length, map, refl, sym, ap, subst, ◌∙◌, arith, Option, Some, None}
use Rattle.std.specs.Prelude.{nat_le, nat_abs, neg_ℤ}
use Rattle.std.specs.List.{list_all}
use Rattle.std.specs.Str.{chars}
use Rattle.std.proofs.lemmas.Bool.{and_from, false≢true, le-leb, lt-ltb}
use Rattle.std.proofs.lemmas.Int.{ints}
use Rattle.grammar_forms.specs.Form.{Wholes, WholeBy, both, either, option, many, map as map_form}
use Rattle.prefsql_lexer.specs.Bounds.{IsNameShort, IsNumberSmall}
use Rattle.prefsql_lexer.specs.declared.token.Token.{Token}
use Rattle.prefsql_lexer.specs.declared.token.TokenKind.{TokenKind}
use Rattle.prefsql_lexer.specs.declared.token.TokenKind.TheVariants as kind
use Rattle.prefsql_values.specs.Limits.{IsName, IsUnsignedShort}
use Rattle.token_forms.specs.declared.class.TokenClass.{TokenClass}
use Rattle.token_forms.specs.declared.class.TokenClass.TheVariants as token_class
use Rattle.token_forms.specs.Classes.{class, kind_class, number_of, name_class, number_class, text_in, number_in}
use Rattle.token_forms.specs.Forms.{Named, name, number, separated, in_parens, symbol_only, ◌⨟>◌, ◌<⨟◌}
use Rattle.token_forms.proofs.Classes.{same_number}
use Rattle.prefsql_lexer.specs.declared.token.Symbol.TheVariants as symbol
use Rattle.sql_tree.specs.WellFormed.{is_name, is_short}
use Rattle.sql_text.specs.Grammar.{Grammar, Rule}
use Rattle.sql_parser.specs.WellMade.{all_of}

-- ---- lists

abbrev pub Each : {A : Type 0} → (A → Type 0) → List A → Type 0
Each P [] = Unit {0}
Each P (v ∷ vs) = P v × Each P vs

pub each_left : {A : Type 0} (P : A → Type 0) (xs ys : List A) → Each P (xs ++ ys) → Each P xs
each_left P [] ys e = tt
each_left P (x ∷ xs) ys e = (e.0, each_left P xs ys e.1)

pub each_right : {A : Type 0} (P : A → Type 0) (xs ys : List A) → Each P (xs ++ ys) → Each P ys
each_right P [] ys e = e
each_right P (x ∷ xs) ys e = each_right P xs ys e.1

pub each_to : {A : Type 0} (P Q : A → Type 0) → ((v : A) → P v → Q v) → (vs : List A) → Each P vs → Each Q vs
each_to P Q to [] e = tt
each_to P Q to (v ∷ vs) e = (to v e.0, each_to P Q to vs e.1)

-- one or more values, each with the property
abbrev pub Some_of : {A : Type 0} → (A → Type 0) → List A → Type 0
Some_of P vs = (1 ≤ length vs) × Each P vs

-- an optional value
abbrev pub If : {A : Type 0} → (A → Type 0) → Option A → Type 0
If P None = Unit {0}
If P (Some v) = P v

enough : (k n : ℕ) → k ≤ n → nat_le k n ≡ true
enough k n le = le-leb k n le

pub each_append : {A : Type 0} (P : A → Type 0) (xs ys : List A) → Each P xs → Each P ys → Each P (xs ++ ys)
each_append P [] ys e f = f
each_append P (x ∷ xs) ys e f = (e.0, each_append P xs ys e.1 f)

pub each_map : {A B : Type 0} (P : B → Type 0) (h : A → B) (vs : List A) → Each (λ v. P (h v)) vs → Each P (map h vs)
each_map P h [] e = tt
each_map P h (v ∷ vs) e = (e.0, each_map P h vs e.1)

pub list_true : {A : Type 0} (test : A → Bool) (vs : List A) → Each (λ v. test v ≡ true) vs → list_all test vs ≡ true
list_true test [] e = refl
list_true test (v ∷ vs) e = rw e.0 (list_true test vs e.1)

each_true : {A : Type 0} (test : A → Bool) (vs : List A) → Each (λ v. test v ≡ true) vs → list_all (λ (b : Bool). b) (map test vs) ≡ true
each_true test [] e = refl
each_true test (v ∷ vs) e = rw e.0 (each_true test vs e.1)

pub same_length : {A B : Type 0} (f : A → B) (vs : List A) → length (map f vs) ≡ length vs
same_length f [] = refl
same_length f (v ∷ vs) = ap suc (same_length f vs)

pub all_true : {A : Type 0} (test : A → Bool) (least : ℕ) (vs : List A) → least ≤ length vs → Each (λ v. test v ≡ true) vs → all_of least (map test vs) ≡ true
all_true test least vs le e = and_from (nat_le least (length (map test vs))) _ (enough least (length (map test vs)) (rw (same_length test vs) le)) (each_true test vs e)

-- ---- tokens

-- a token within the limits of names and numbers
abbrev pub Fine : Token → Type 0
Fine t = IsNameShort t.kind × IsNumberSmall t.kind

abbrev is_name_class : TokenClass → Bool
is_name_class token_class.Name = true
is_name_class _ = false

abbrev is_number_class : TokenClass → Bool
is_number_class token_class.Number = true
is_number_class _ = false

no_name : (c : TokenClass) → is_name_class c ≡ false → number_of c ≡ name_class → ⊥
no_name c other e = false≢true (sym other ∙ ap is_name_class (same_number c token_class.Name e))

no_number : (c : TokenClass) → is_number_class c ≡ false → number_of c ≡ number_class → ⊥
no_number c other e = false≢true (sym other ∙ ap is_number_class (same_number c token_class.Number e))

name_true : (text : List ℕ) → IsName text → is_name text ≡ true
name_true text n = and_from (nat_le 1 (length (chars text))) (nat_le (length (chars text)) 64) (enough 1 (length (chars text)) n.not_empty) (enough (length (chars text)) 64 n.short)

name_is : (k : TokenKind) → number_of (kind_class k) ≡ name_class → IsNameShort k → is_name (text_in k) ≡ true
name_is (kind.Word w) e f = absurd (no_name (token_class.Word w) refl e)
name_is (kind.Name t) e f = name_true t f
name_is (kind.Number n) e f = absurd (no_name token_class.Number refl e)
name_is (kind.Chars t) e f = absurd (no_name token_class.Text refl e)
name_is (kind.Symbol s) e f = absurd (no_name (token_class.Symbol s) refl e)

number_is : (k : TokenKind) → number_of (kind_class k) ≡ number_class → IsNumberSmall k → IsUnsignedShort (number_in k)
number_is (kind.Word w) e f = absurd (no_number (token_class.Word w) refl e)
number_is (kind.Name t) e f = absurd (no_number token_class.Name refl e)
number_is (kind.Number n) e f = f
number_is (kind.Chars t) e f = absurd (no_number token_class.Text refl e)
number_is (kind.Symbol s) e f = absurd (no_number (token_class.Symbol s) refl e)

small_size : (n : ℤ) → IsUnsignedShort n → nat_abs n < 10 ^ 18
small_size (pos k) s = let below = s.1 in omega (arith, ints, below)
small_size (negsuc k) s = absurd (let above = s.0 in omega (arith, ints, above))

small_negative : (n : ℤ) → IsUnsignedShort n → nat_abs (neg_ℤ n) < 10 ^ 18
small_negative (pos zero) s = let below = s.1 in omega (arith, ints, below)
small_negative (pos (suc k)) s = let below = s.1 in omega (arith, ints, below)
small_negative (negsuc k) s = absurd (let above = s.0 in omega (arith, ints, above))

pub short_true : (n : ℤ) → IsUnsignedShort n → is_short n ≡ true
short_true n s = lt-ltb (nat_abs n) (10 ^ 18) (small_size n s)

pub short_negative : (n : ℤ) → IsUnsignedShort n → is_short (neg_ℤ n) ≡ true
short_negative n s = lt-ltb (nat_abs (neg_ℤ n)) (10 ^ 18) (small_negative n s)

-- ---- forms

module _ (R : (A : Type 0) → Rule A → Wholes Token A) where
  -- of tokens within the limits the form makes only values with the property
  abbrev pub Makes : {A : Type 0} → (A → Type 0) → Grammar A → Type 0
  Makes {A} P f = (ts : List Token) (v : A) → Each Fine ts → WholeBy Token Rule class R f ts v → P v

  pub makes_any : {A : Type 0} (f : Grammar A) → Makes (λ (v : A). Unit {0}) f
  makes_any f ts v fine w = tt

  pub makes_name : Makes (λ (n : Named). is_name n.0 ≡ true) name
  makes_name ts n fine w =
      let t = w.0 in
      let s = subst (λ z. Each Fine z) w.1 fine in
      let text : n.0 ≡ text_in t.kind = ap (λ z. z.0) w.3 in
      subst (λ z. is_name z ≡ true) (sym text) (name_is t.kind w.2 s.0.0)

  pub makes_number : Makes (λ (n : ℤ × ℕ). IsUnsignedShort n.0) number
  makes_number ts n fine w =
      let t = w.0 in
      let s = subst (λ z. Each Fine z) w.1 fine in
      let value : n.0 ≡ number_in t.kind = ap (λ z. z.0) w.3 in
      subst IsUnsignedShort (sym value) (number_is t.kind w.2 s.0.1)

  pub makes_both : {A B : Type 0} (P : A → Type 0) (Q : B → Type 0) (f : Grammar A) (g : Grammar B) → Makes P f → Makes Q g → Makes (λ (p : A × B). P p.0 × Q p.1) (both f g)
  makes_both P Q f g k l ts v fine w =
      let s = subst (λ z. Each Fine z) w.2 fine in
      (k w.0 v.0 (each_left Fine w.0 w.1 s) w.3, l w.1 v.1 (each_right Fine w.0 w.1 s) w.4)

  pub makes_map : {A B : Type 0} (P : A → Type 0) (Q : B → Type 0) (h : A → B) (f : Grammar A) → ((v : A) → P v → Q (h v)) → Makes P f → Makes Q (map_form h f)
  makes_map P Q h f to k ts v fine w = subst Q (sym w.2) (to w.0 (k ts w.0 fine w.1))

  pub makes_either : {A : Type 0} (P : A → Type 0) (f g : Grammar A) → Makes P f → Makes P g → Makes P (either f g)
  makes_either P f g k l ts v fine (inl w) = k ts v fine w
  makes_either P f g k l ts v fine (inr w) = l ts v fine w

  pub makes_option : {A : Type 0} (P : A → Type 0) (f : Grammar A) → Makes P f → Makes (If P) (option f)
  makes_option P f k ts None fine w = tt
  makes_option P f k ts (Some v) fine w = k ts v fine w

  pub makes_many : {A : Type 0} (P : A → Type 0) (f : Grammar A) → Makes P f → Makes (Each P) (many f)
  makes_many P f k ts [] fine w = tt
  makes_many P f k ts (v ∷ vs) fine w =
      let s = subst (λ z. Each Fine z) w.2 fine in
      (k w.0 v (each_left Fine w.0 w.1 s) w.3, makes_many P f k w.1 vs (each_right Fine w.0 w.1 s) w.4)

  pub makes_second : {A B : Type 0} (Q : B → Type 0) (f : Grammar A) (g : Grammar B) → Makes Q g → Makes Q (f ⨟> g)
  makes_second {A} {B} Q f g l =
      makes_map {A = A × B} (λ p. Unit {0} × Q p.1) Q (λ p. p.1) (both f g) (λ p e. e.1) (makes_both (λ v. Unit {0}) Q f g (makes_any f) l)

  pub makes_first : {A B : Type 0} (P : A → Type 0) (f : Grammar A) (g : Grammar B) → Makes P f → Makes P (f <⨟ g)
  makes_first {A} {B} P f g k =
      makes_map {A = A × B} (λ p. P p.0 × Unit {0}) P (λ p. p.0) (both f g) (λ p e. e.0) (makes_both P (λ v. Unit {0}) f g k (makes_any g))

  pub makes_separated : {A : Type 0} (P : A → Type 0) (s : Grammar (Unit {0})) (f : Grammar A) → Makes P f → Makes (Some_of P) (separated s f)
  makes_separated {A} P s f k =
      makes_map {A = A × List A} (λ p. P p.0 × Each P p.1) (Some_of P) (λ p. p.0 ∷ p.1) (both f (many (s ⨟> f))) (λ p e. (omega arith, (e.0, e.1)))
      (makes_both P (Each P) f (many (s ⨟> f)) k (makes_many P (s ⨟> f) (makes_second P s f k)))

  pub makes_enclosed : {A : Type 0} (P : A → Type 0) (f : Grammar A) → Makes P f → Makes P (in_parens f)
  makes_enclosed P f k =
      let right = symbol_only symbol.RightParen in
      makes_second P (symbol_only symbol.LeftParen) (f <⨟ right) (makes_first P f right k)
