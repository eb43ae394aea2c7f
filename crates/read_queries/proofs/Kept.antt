-- What each form of an SQL script keeps: where its tokens are within the limits, what holds of its parts gives what holds of it.
use Rattle.std.proofs.Common.{◌≡◌, ◌≤◌, ◌<◌, ◌+◌, ◌^◌, inl, inr, ℕ, zero, suc, ℤ, pos, negsuc, Bool, true, false, List, [], ◌∷◌, ◌++◌, length, All, refl, sym, ap, subst, ◌∙◌, arith, Option, Some, None}
use Rattle.std.specs.Prelude.{nat_abs, neg_ℤ}
use Rattle.std.proofs.lemmas.Bool.{false≢true}
use Rattle.std.proofs.lemmas.Int.{ints}
use Rattle.std.proofs.lemmas.List.{length-append}
use Rattle.std.proofs.lemmas.List.Elements.{All-nil, All-cons, All-head, All-tail}
use Rattle.grammar_forms.specs.Form.{WholeBy, token, both, either, option, many, map as map_form}
use Rattle.prefsql_lexer.specs.declared.token.Keyword.TheVariants as word
use Rattle.prefsql_lexer.specs.declared.token.Symbol.TheVariants as symbol
use Rattle.prefsql_lexer.specs.Bounds.{IsNameShort, IsNumberSmall}
use Rattle.prefsql_lexer.specs.declared.token.Token.{Token}
use Rattle.prefsql_lexer.specs.declared.token.TokenKind.{TokenKind}
use Rattle.prefsql_lexer.specs.declared.token.TokenKind.TheVariants as kind
use Rattle.prefsql_values.specs.Limits.{IsName, IsUnsignedShort, IsLiteralValue}
use Rattle.query_tree.specs.declared.name.NameTree.{NameTree}
use Rattle.query_tree.specs.declared.name.LiteralTree.{LiteralTree}
use Rattle.query_tree.specs.declared.query.FromTree.{FromTree}
use Rattle.token_forms.specs.declared.class.TokenClass.{TokenClass}
use Rattle.token_forms.specs.declared.class.TokenClass.TheVariants as token_class
use Rattle.token_forms.specs.Classes.{class, kind_class, number_of, name_class, number_class, text_in, number_in}
use Rattle.token_forms.specs.Forms.{Named, name, number, chars, separated, in_parens, text_of, ◌⨟>◌, ◌<⨟◌, symbol_only, word_only}
use Rattle.token_forms.specs.Columns.{column, column_tree, optional_sign, number_literal, text_literal, number_form, literal}
use Rattle.token_forms.specs.Phrases.{alias, from as table, from_tree}
use Rattle.token_forms.proofs.Classes.{same_number}
use Rattle.sql_text.specs.Grammar.{Grammar, Rule}

-- ---- names and numbers of tokens

abbrev is_name_class : TokenClass → Bool
is_name_class token_class.Name = true
is_name_class _ = false

abbrev is_number_class : TokenClass → Bool
is_number_class token_class.Number = true
is_number_class _ = false

no_name : (c : TokenClass) → is_name_class c ≡ false → number_of c ≡ name_class → ⊥
no_name c other e = false≢true (sym other ∙ ap is_name_class (same_number c token_class.Name e))

no_number : (c : TokenClass) → is_number_class c ≡ false → number_of c ≡ number_class → ⊥
no_number c other e = false≢true (sym other ∙ ap is_number_class (same_number c token_class.Number e))

-- the text of a name, and the number of a numeral
name_text : (k : TokenKind) → number_of (kind_class k) ≡ name_class → IsNameShort k → IsName (text_in k)
name_text (kind.Word w) e short = absurd (no_name (token_class.Word w) refl e)
name_text (kind.Name t) e short = short
name_text (kind.Number n) e short = absurd (no_name token_class.Number refl e)
name_text (kind.Chars t) e short = absurd (no_name token_class.Text refl e)
name_text (kind.Symbol s) e short = absurd (no_name (token_class.Symbol s) refl e)

numeral : (k : TokenKind) → number_of (kind_class k) ≡ number_class → IsNumberSmall k → IsUnsignedShort (number_in k)
numeral (kind.Word w) e small = absurd (no_number (token_class.Word w) refl e)
numeral (kind.Name t) e small = absurd (no_number token_class.Name refl e)
numeral (kind.Number n) e small = small
numeral (kind.Chars t) e small = absurd (no_number token_class.Text refl e)
numeral (kind.Symbol s) e small = absurd (no_number (token_class.Symbol s) refl e)

-- with either sign
plus_short : (n : ℤ) → IsUnsignedShort n → nat_abs n < 10 ^ 18
plus_short (pos k) s = let below = s.1 in omega (arith, ints, below)
plus_short (negsuc k) s = absurd (let above = s.0 in omega (arith, ints, above))

minus_short : (n : ℤ) → IsUnsignedShort n → nat_abs (neg_ℤ n) < 10 ^ 18
minus_short (pos zero) s = let below = s.1 in omega (arith, ints, below)
minus_short (pos (suc k)) s = let below = s.1 in omega (arith, ints, below)
minus_short (negsuc k) s = absurd (let above = s.0 in omega (arith, ints, above))

-- ---- tokens within the limits

abbrev pub Within : Token → Type 0
Within t = IsNameShort t.kind × IsNumberSmall t.kind

-- at most so many tokens, all within the limits
pub record Few (most : ℕ) (ts : List Token) : Type 0 where
  pub all : All Within ts
  pub few : length ts ≤ most

all_left : (xs ys : List Token) → All Within (xs ++ ys) → All Within xs
all_left [] ys all = All-nil Within
all_left (x ∷ xs) ys all = All-cons Within x xs (All-head Within x (xs ++ ys) all) (all_left xs ys (All-tail Within x (xs ++ ys) all))

all_right : (xs ys : List Token) → All Within (xs ++ ys) → All Within ys
all_right [] ys all = all
all_right (x ∷ xs) ys all = all_right xs ys (All-tail Within x (xs ++ ys) all)

-- what is written holds
abbrev pub Where : {A : Type 0} → (A → Type 0) → Option A → Type 0
Where P None = Unit {0}
Where P (Some v) = P v

pub record IsNamePath (name : NameTree) : Type 0 where
  pub first : IsName name.first
  pub second : Where IsName name.second

pub record IsTableName (tree : FromTree) : Type 0 where
  pub table : IsName tree.table
  pub name : Where IsName tree.name

abbrev pub IsNamed : Named → Type 0
IsNamed n = IsName n.0

abbrev pub IsWrittenLiteral : LiteralTree → Type 0
IsWrittenLiteral l = IsLiteralValue l.value

-- all of them hold, of one or more, and no more than may be separated
pub record Listed {A : Type 0} (most : ℕ) (P : A → Type 0) (vs : List A) : Type 0 where
  pub some : 1 ≤ length vs
  pub few : length vs ≤ most + 1
  pub all : All P vs

module _ (most : ℕ) (R : (A : Type 0) → Rule A → List Token → A → Type 0) where
  left : (xs ys ts : List Token) → ts ≡ xs ++ ys → Few most ts → Few most xs
  left xs ys ts e few = record { all = all_left xs ys (subst (All Within) e few.all); few = omega (arith, few.few, ap length e, length-append xs ys) }

  right : (xs ys ts : List Token) → ts ≡ xs ++ ys → Few most ts → Few most ys
  right xs ys ts e few = record { all = all_right xs ys (subst (All Within) e few.all); few = omega (arith, few.few, ap length e, length-append xs ys) }

  abbrev pub Is : {A : Type 0} → Grammar A → List Token → A → Type 0
  Is f ts v = WholeBy Token Rule class R f ts v

  -- whatever the form stands for within the limits is such
  abbrev pub Keeps : {A : Type 0} → Grammar A → (A → Type 0) → Type 0
  Keeps {A = A} f P = (ts : List Token) (v : A) → Few most ts → Is f ts v → P v

  pub both_keeps : {A B : Type 0} (f : Grammar A) (g : Grammar B) (P : A → Type 0) (Q : B → Type 0) → Keeps f P → Keeps g Q → Keeps (both f g) (λ v. P v.0 × Q v.1)
  both_keeps f g P Q p q ts v few w = (p w.0 v.0 (left w.0 w.1 ts w.2 few) w.3, q w.1 v.1 (right w.0 w.1 ts w.2 few) w.4)

  pub map_keeps : {A B : Type 0} (h : A → B) (f : Grammar A) (P : A → Type 0) (Q : B → Type 0) → Keeps f P → ((v : A) → P v → Q (h v)) → Keeps (map_form h f) Q
  map_keeps h f P Q p to ts v few w = subst Q (sym w.2) (to w.0 (p ts w.0 few w.1))

  pub either_keeps : {A : Type 0} (f g : Grammar A) (P : A → Type 0) → Keeps f P → Keeps g P → Keeps (either f g) P
  either_keeps f g P p q ts v few (inl w) = p ts v few w
  either_keeps f g P p q ts v few (inr w) = q ts v few w

  pub option_keeps : {A : Type 0} (f : Grammar A) (P : A → Type 0) → Keeps f P → Keeps (option f) (Where P)
  option_keeps f P p ts None few w = tt
  option_keeps f P p ts (Some v) few w = p ts v few w

  pub many_keep : {A : Type 0} (f : Grammar A) (P : A → Type 0) → Keeps f P → Keeps (many f) (All P)
  many_keep f P p ts [] few w = All-nil P
  many_keep f P p ts (v ∷ vs) few w = All-cons P v vs (p w.0 v (left w.0 w.1 ts w.2 few) w.3) (many_keep f P p w.1 vs (right w.0 w.1 ts w.2 few) w.4)

  pub token_keeps : {A : Type 0} (c : ℕ) (value : Token → A) (P : A → Type 0) → ((t : Token) → Within t → class t ≡ c → P (value t)) → Keeps (token c value) P
  token_keeps c value P p ts v few w = subst P (sym w.3) (p w.0 (All-head Within w.0 [] (subst (All Within) w.1 few.all)) w.2)

  pub anything : {A : Type 0} (f : Grammar A) → Keeps f (λ v. Unit {0})
  anything f ts v few w = tt

  -- behind or before what says nothing
  pub second_keeps : {A B : Type 0} (f : Grammar A) (g : Grammar B) (P : B → Type 0) → Keeps g P → Keeps (f ⨟> g) P
  second_keeps f g P p = map_keeps (λ v. v.1) (both f g) (λ v. Unit {0} × P v.1) P (both_keeps f g (λ v. Unit {0}) P (anything f) p) (λ v is. is.1)

  pub first_keeps : {A B : Type 0} (f : Grammar A) (g : Grammar B) (P : A → Type 0) → Keeps f P → Keeps (f <⨟ g) P
  first_keeps f g P p = map_keeps (λ v. v.0) (both f g) (λ v. P v.0 × Unit {0}) P (both_keeps f g P (λ v. Unit {0}) p (anything g)) (λ v is. is.0)

  -- "(" f ")"
  pub enclosed_keeps : {A : Type 0} (f : Grammar A) (P : A → Type 0) → Keeps f P → Keeps (in_parens f) P
  enclosed_keeps f P p = second_keeps (symbol_only symbol.LeftParen) (f <⨟ symbol_only symbol.RightParen) P (first_keeps f (symbol_only symbol.RightParen) P p)

  -- ---- lists

  -- before each one stands a token
  row_few : {A : Type 0} (c : ℕ) (f : Grammar A) (ts : List Token) (vs : List A) → Is (many (token c (λ t. tt {0}) ⨟> f)) ts vs → length vs ≤ length ts
  row_few c f ts [] w = omega arith
  row_few c f ts (v ∷ vs) w =
      let rest = row_few c f w.1 vs w.4 in
      let one = w.3.1 in
      omega (arith, rest, ap length w.2, length-append w.0 w.1, ap length one.2, length-append one.0 one.1, ap length one.3.1)

  pub separated_keeps : {A : Type 0} (c : ℕ) (f : Grammar A) (P : A → Type 0) → Keeps f P → Keeps (separated (token c (λ t. tt {0})) f) (Listed most P)
  separated_keeps c f P p ts v few w =
      let u = w.0 in
      let x = w.1 in
      let row = many_keep (token c (λ t. tt {0}) ⨟> f) P (second_keeps (token c (λ t. tt {0})) f P p) x.1 u.1 (right x.0 x.1 ts x.2 few) x.4 in
      let more = row_few c f x.1 u.1 x.4 in
      let enough = few.few in
      subst (Listed most P) (sym w.2) (record {
        some = omega arith;
        few = omega (arith, more, enough, ap length x.2, length-append x.0 x.1);
        all = All-cons P u.0 u.1 (p x.0 u.0 (left x.0 x.1 ts x.2 few) x.3) row;
      })

  -- ---- names and literals

  pub name_keeps : Keeps name (λ (n : Named). IsName n.0)
  name_keeps = token_keeps name_class (λ t. (text_in t.kind, t.start)) (λ (n : Named). IsName n.0) (λ t within same. name_text t.kind same within.0)

  number_keeps : Keeps number (λ (n : ℤ × ℕ). IsUnsignedShort n.0)
  number_keeps = token_keeps number_class (λ t. (number_in t.kind, t.start)) (λ (n : ℤ × ℕ). IsUnsignedShort n.0) (λ t within same. numeral t.kind same within.1)

  pub text_written : (o : Option Named) → Where IsNamed o → Where IsName (text_of o)
  text_written None w = tt
  text_written (Some n) w = w

  pub column_keeps : Keeps column IsNamePath
  unfolding column
  column_keeps =
      map_keeps column_tree (both name (option (symbol_only symbol.Dot ⨟> name))) (λ v. IsNamed v.0 × Where IsNamed v.1) IsNamePath
      (both_keeps name (option (symbol_only symbol.Dot ⨟> name)) IsNamed (Where IsNamed) name_keeps (option_keeps (symbol_only symbol.Dot ⨟> name) IsNamed (second_keeps (symbol_only symbol.Dot) name IsNamed name_keeps)))
      (λ v is. record { first = is.0; second = text_written v.1 is.1 })

  signed_literal : (o : Option (Bool × ℕ)) (n : ℤ × ℕ) → IsUnsignedShort n.0 → IsLiteralValue (number_literal (o, n)).value
  signed_literal None n is = plus_short n.0 is
  signed_literal (Some (false, at)) n is = plus_short n.0 is
  signed_literal (Some (true, at)) n is = minus_short n.0 is

  number_form_keeps : Keeps number_form IsWrittenLiteral
  unfolding number_form
  number_form_keeps =
      map_keeps number_literal (both optional_sign number) (λ v. Unit {0} × IsUnsignedShort v.1.0) IsWrittenLiteral
      (both_keeps optional_sign number (λ v. Unit {0}) (λ n. IsUnsignedShort n.0) (anything optional_sign) number_keeps)
      (λ v is. signed_literal v.0 v.1 is.1)

  pub literal_keeps : Keeps literal IsWrittenLiteral
  unfolding literal
  literal_keeps = either_keeps (map_form text_literal chars) number_form IsWrittenLiteral (map_keeps text_literal chars (λ v. Unit {0}) IsWrittenLiteral (anything chars) (λ v is. tt)) number_form_keeps

  pub alias_keeps : Keeps alias (Where IsNamed)
  unfolding alias
  alias_keeps = option_keeps (option (word_only word.As) ⨟> name) IsNamed (second_keeps (option (word_only word.As)) name IsNamed name_keeps)

  table_named : (n : Named) (o : Option Named) → IsNamed n → Where IsNamed o → IsTableName (from_tree (n, o))
  table_named n None is w = record { table = is; name = tt }
  table_named n (Some m) is w = record { table = is; name = w }

  pub table_keeps : Keeps table IsTableName
  unfolding table
  table_keeps = map_keeps from_tree (both name alias) (λ v. IsNamed v.0 × Where IsNamed v.1) IsTableName (both_keeps name alias IsNamed (Where IsNamed) name_keeps alias_keeps) (λ v is. table_named v.0 v.1 is.0 is.1)
