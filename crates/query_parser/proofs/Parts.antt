-- What names, numbers and literals are of tokens within the limits, and lists of well made parts.
use Rattle.std.proofs.Common.{◌≡◌, ◌≤◌, ◌<◌, ◌+◌, ◌^◌, ℕ, ℤ, Bool, true, false, refl, List, [], ◌∷◌, length, All, sym, ap, subst, ◌∙◌, arith}
use Rattle.std.specs.List.{flat_map}
use Rattle.std.proofs.lemmas.Bool.{false≢true}
use Rattle.std.proofs.lemmas.List.Elements.{All-nil, All-cons}
use Rattle.grammar_forms.specs.Form.{token}
use Rattle.grammar_forms.proofs.Nesting.{turn, after}
use Rattle.grammar_forms.proofs.Spans.{Stands, Chain, SpanBy}
use Rattle.prefsql_lexer.specs.Bounds.{IsNameShort, IsNumberSmall}
use Rattle.prefsql_lexer.specs.declared.token.Token.{Token}
use Rattle.prefsql_lexer.specs.declared.token.TokenKind.{TokenKind}
use Rattle.prefsql_lexer.specs.declared.token.TokenKind.TheVariants as kind
use Rattle.query_tree.proofs.Rising.{Rises, Rises-wider, Rises-append}
use Rattle.query_tree.specs.WellMade.{IsFilled}
use Rattle.prefsql_values.specs.Limits.{IsName, IsUnsignedShort}
use Rattle.token_forms.specs.declared.class.TokenClass.{TokenClass}
use Rattle.token_forms.specs.declared.class.TokenClass.TheVariants as token_class
use Rattle.token_forms.specs.Classes.{class, kind_class, number_of, name_class, number_class, text_in, number_in}
use Rattle.query_grammar.specs.Rules.{Grammar, Rule}
use Rattle.token_forms.specs.Forms.{Named, name, number, separated, in_parens, ◌⨟>◌}
use Rattle.token_forms.proofs.Classes.{same_number}
use Rattle.token_forms.proofs.Depth.{rises, falls}

abbrev is_name_class : TokenClass → Bool
is_name_class token_class.Name = true
is_name_class _ = false

abbrev is_number_class : TokenClass → Bool
is_number_class token_class.Number = true
is_number_class _ = false

-- a token of another class than that of names, and of numbers
no_name : (c : TokenClass) → is_name_class c ≡ false → number_of c ≡ name_class → ⊥
no_name c other e = false≢true (sym other ∙ ap is_name_class (same_number c token_class.Name e))

no_number : (c : TokenClass) → is_number_class c ≡ false → number_of c ≡ number_class → ⊥
no_number c other e = false≢true (sym other ∙ ap is_number_class (same_number c token_class.Number e))

name_is : (k : TokenKind) → number_of (kind_class k) ≡ name_class → IsNameShort k → IsName (text_in k)
name_is (kind.Word w) e f = absurd (no_name (token_class.Word w) refl e)
name_is (kind.Name t) e f = f
name_is (kind.Number n) e f = absurd (no_name token_class.Number refl e)
name_is (kind.Chars t) e f = absurd (no_name token_class.Text refl e)
name_is (kind.Symbol s) e f = absurd (no_name (token_class.Symbol s) refl e)

number_is : (k : TokenKind) → number_of (kind_class k) ≡ number_class → IsNumberSmall k → IsUnsignedShort (number_in k)
number_is (kind.Word w) e f = absurd (no_number (token_class.Word w) refl e)
number_is (kind.Name t) e f = absurd (no_number token_class.Name refl e)
number_is (kind.Number n) e f = f
number_is (kind.Chars t) e f = absurd (no_number token_class.Text refl e)
number_is (kind.Symbol s) e f = absurd (no_number (token_class.Symbol s) refl e)

-- ---- spans

abbrev pub Fine : Token → Type 0
Fine t = IsNameShort t.kind × IsNumberSmall t.kind

abbrev pub first_byte : Token → ℕ
first_byte t = t.start

abbrev pub behind : Token → ℕ
behind t = t.end

-- what is well made, with its places from lo up to hi, and not empty
pub record Part {A : Type 0} (P : A → Type 0) (places : A → List ℕ) (lo hi : ℕ) (v : A) : Type 0 where
  pub good : P v
  pub rising : Rises lo hi (places v)
  pub filled : lo < hi

pub moved : {A : Type 0} (P : A → Type 0) (places : A → List ℕ) (lo hi : ℕ) (v u : A) → v ≡ u → Part P places lo hi u → Part P places lo hi v
moved P places lo hi v u e p = subst (λ z. Part P places lo hi z) (sym e) p

pub record Parts {A : Type 0} (P : A → Type 0) (places : A → List ℕ) (lo hi : ℕ) (vs : List A) : Type 0 where
  pub all : All P vs
  pub rising : Rises lo hi (flat_map places vs)
  pub room : lo + length vs ≤ hi
  pub some : IsFilled (length vs)

module _ (last : ℕ) (Good : (A : Type 0) → Rule A → ℕ → ℕ → ℕ → A → Type 0) where
  abbrev pub At : {A : Type 0} → Grammar A → ℕ → ℕ → ℕ → ℕ → A → Type 0
  At f d r lo hi v = SpanBy Token Rule class rises falls 64 first_byte behind last Fine Good d f r lo hi v

  abbrev pub StandsAt : ℕ → ℕ → ℕ → Token → Type 0
  StandsAt d lo hi t = Stands Token Rule class rises falls 64 first_byte behind last Fine d lo hi t

  abbrev pub Row : {A : Type 0} → (ℕ → ℕ → A → Type 0) → ℕ → ℕ → List A → Type 0
  Row P lo hi vs = Chain Token Rule class rises falls 64 first_byte behind last Fine P lo hi vs

  pub record NamePart (lo hi : ℕ) (n : Named) : Type 0 where
    pub good : IsName n.0
    pub from : lo ≤ n.1
    pub upto : n.1 < hi

  pub name_part : (d r lo hi : ℕ) (n : Named) → At name d r lo hi n → NamePart lo hi n
  name_part d r lo hi n w =
      let t = w.0 in
      let s = w.2 in
      let e = w.3 in
      let text : n.0 ≡ text_in t.kind = ap (λ z. z.0) e in
      let place : n.1 ≡ t.start = ap (λ z. z.1) e in
      record {
        good = subst IsName (sym text) (name_is t.kind w.1 s.fine.0);
        from = omega (arith, place, s.from);
        upto = omega (arith, place, s.filled, s.upto);
      }

  pub record NumberPart (lo hi : ℕ) (n : ℤ × ℕ) : Type 0 where
    pub good : IsUnsignedShort n.0
    pub from : lo ≤ n.1
    pub upto : n.1 < hi

  pub number_part : (d r lo hi : ℕ) (n : ℤ × ℕ) → At number d r lo hi n → NumberPart lo hi n
  number_part d r lo hi n w =
      let t = w.0 in
      let s = w.2 in
      let e = w.3 in
      let value : n.0 ≡ number_in t.kind = ap (λ z. z.0) e in
      let place : n.1 ≡ t.start = ap (λ z. z.1) e in
      record {
        good = subst IsUnsignedShort (sym value) (number_is t.kind w.1 s.fine.1);
        from = omega (arith, place, s.from);
        upto = omega (arith, place, s.filled, s.upto);
      }

  -- ---- lists

  module _ (small : last < 2 ^ 32) {A : Type 0} (P : A → Type 0) (places : A → List ℕ) where
    pub record Listed (lo hi : ℕ) (vs : List A) : Type 0 where
      pub all : All P vs
      pub rising : Rises lo hi (flat_map places vs)
      pub room : lo + length vs ≤ hi
      pub end : hi ≤ last

    row_listed : (F : ℕ → ℕ → A → Type 0) → ((lo hi : ℕ) (v : A) → F lo hi v → Part P places lo hi v) → (lo hi : ℕ) (vs : List A) → Row F lo hi vs → Listed lo hi vs
    row_listed F part lo hi [] w = record { all = All-nil P; rising = w.0; room = omega (arith, w.0); end = w.1 }
    row_listed F part lo hi (v ∷ vs) w =
        let p = part lo w.0 v w.1 in
        let r = row_listed F part w.0 hi vs w.2 in
        record { all = All-cons P v vs p.good r.all; rising = Rises-append lo w.0 hi (places v) (flat_map places vs) p.rising r.rising; room = omega (arith, p.filled, r.room); end = r.end }

    behind_token : (c d r : ℕ) (f : Grammar A) → ((lo hi : ℕ) (v : A) → At f d (turn Token Rule class rises falls c r) lo hi v → Part P places lo hi v) → (lo hi : ℕ) (v : A) → At (token c (λ t. tt {0}) ⨟> f) d r lo hi v → Part P places lo hi v
    behind_token c d r f part lo hi v w =
        let u = w.1 in
        let s = u.1.2 in
        let p = part u.0 hi w.0.1 u.2 in
        moved P places lo hi v w.0.1 w.2 (record { good = p.good; rising = Rises-wider u.0 hi lo hi (places w.0.1) (omega (arith, s.from, s.filled, s.upto)) (omega arith) p.rising; filled = omega (arith, s.from, s.filled, s.upto, p.filled) })

    pub separated_parts : (c d r : ℕ) (f : Grammar A) → ((lo hi : ℕ) (v : A) → At f d r lo hi v → Part P places lo hi v) → ((lo hi : ℕ) (v : A) → At f d (turn Token Rule class rises falls c (after Token Rule class rises falls f r)) lo hi v → Part P places lo hi v) → (lo hi : ℕ) (vs : List A) →
        At (separated (token c (λ t. tt {0})) f) d r lo hi vs → Parts P places lo hi vs
    separated_parts c d r f part next lo hi vs w =
        let u = w.0 in
        let m = w.1.0 in
        let p = part lo m u.0 w.1.1 in
        let l = row_listed (λ a b v. At (token c (λ t. tt {0}) ⨟> f) d (after Token Rule class rises falls f r) a b v) (behind_token c d (after Token Rule class rises falls f r) f next) m hi u.1 w.1.2 in
        subst (λ z. Parts P places lo hi z) (sym w.2) (record {
          all = All-cons P u.0 u.1 p.good l.all;
          rising = Rises-append lo m hi (places u.0) (flat_map places u.1) p.rising l.rising;
          room = omega (arith, p.filled, l.room);
          some = (omega arith, omega (arith, p.filled, l.room, l.end));
        })

    -- a list is not empty, and so are the spans
    pub parts_filled : (lo hi : ℕ) (vs : List A) → Parts P places lo hi vs → lo < hi
    parts_filled lo hi vs p = omega (arith, p.room, p.some.0)

  pub stands_filled : (d lo hi : ℕ) (t : Token) → StandsAt d lo hi t → lo < hi
  stands_filled d lo hi t s = omega (arith, s.from, s.filled, s.upto)

  -- "(" f ")"
  pub enclosed_part : {A : Type 0} (P : A → Type 0) (places : A → List ℕ) (d r : ℕ) (f : Grammar A) → ((lo hi : ℕ) (v : A) → At f d (r + 1) lo hi v → Part P places lo hi v) → (lo hi : ℕ) (v : A) → At (in_parens f) d r lo hi v → Part P places lo hi v
  enclosed_part P places d r f part lo hi v w =
      let x = w.1 in
      let y = x.2 in
      let z = y.1 in
      let p = part x.0 z.0 y.0.0 z.1 in
      let a = x.1.2 in
      let b = z.2.2 in
      let same : v ≡ y.0.0 = w.2 ∙ y.2 in
      moved P places lo hi v y.0.0 same (record {
        good = p.good;
        rising = Rises-wider x.0 z.0 lo hi (places y.0.0) (omega (arith, stands_filled (d + r) lo x.0 x.1.0 a)) (omega (arith, b.from, b.filled, b.upto)) p.rising;
        filled = omega (arith, stands_filled (d + r) lo x.0 x.1.0 a, b.from, b.filled, b.upto, p.filled);
      })

  -- behind a token that says nothing
  pub skip : {A : Type 0} (c d r : ℕ) (f : Grammar A) (lo hi : ℕ) (v : A) → At (token c (λ t. tt {0}) ⨟> f) d r lo hi v → (m : ℕ) × (lo < m) × At f d (turn Token Rule class rises falls c r) m hi v
  skip c d r f lo hi v w =
      let u = w.1 in
      (u.0, stands_filled (d + r) lo u.0 u.1.0 u.1.2, subst (λ z. At f d (turn Token Rule class rises falls c r) u.0 hi z) (sym w.2) u.2)
