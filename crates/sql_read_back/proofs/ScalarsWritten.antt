-- Scalars are written by their forms.
use Rattle.std.proofs.Common.{◌≡◌, ℕ, ℤ, pos, negsuc, suc, ◌<◌, ◌^◌, length, Bool, true, false, List, [], ◌∷◌, ◌++◌, get_or, refl, sym, ap, subst, arith, Option, Some, None, append-nil}
use Rattle.std.specs.Prelude.{neg_ℤ, map, ◌==◌}
use Rattle.std.specs.Char.{is_ascii_digit}
use Rattle.std.specs.List.{flat_map, list_all}
use Rattle.std.specs.Fmt.{decimal}
use Rattle.std.proofs.lemmas.Bool.{and_parts}
use Rattle.std.proofs.lemmas.Bool.Decides.{nat_tests}
use Rattle.std.proofs.lemmas.Int.{ints}
use Rattle.std.proofs.lemmas.List.Folds.{flat_map-map}
use Rattle.grammar_forms.specs.Form.{both, option, many, rule}
use Rattle.prefsql_lexer.specs.declared.token.TokenKind.TheVariants.{Number, Chars as CharsKind, Symbol as SymbolKind}
use Rattle.prefsql_lexer.specs.declared.token.Keyword.TheVariants as word
use Rattle.prefsql_lexer.specs.declared.token.Symbol.TheVariants as symbol
use Rattle.prefsql_values.specs.Limits.{IsName, IsShort, IsUnsignedShort}
use Rattle.prefsql_values.specs.declared.value.Value.TheVariants.{Num, Str}
use Rattle.query_tree.specs.declared.name.NameTree.{NameTree}
use Rattle.sql_text.specs.declared.named.NamedCond.{NamedCond}
use Rattle.sql_text.specs.declared.named.NamedScalar.{NamedScalar, Column, Literal, Sum, Case}
use Rattle.sql_text.specs.declared.named.NamedTerm.{NamedTerm}
use Rattle.sql_text.specs.declared.named.NamedWhen.{NamedWhen}
use Rattle.sql_text.specs.Grammar.{Results, results_rule, case, factor, sum_sign, later_term, term_tree, sum_of, sum_tree, sum, case_tree, cond, when, when_tree, whens, results}
use Rattle.sql_text.specs.Pieces.{Piece, space, mark}
use Rattle.sql_text.specs.Text.{symbol_mark, name_mark, word_of, ◌⎵◌, number_pieces, SignedPieces, sign_symbol, later_pieces, sum_pieces, case_pieces, whens_joined, else_pieces}
use Rattle.sql_read_back.proofs.Apart.{Apart, Follows, apart_none, apart_mark, apart_dot, follows_dot, follows_space, follows_none, follows_many}
use Rattle.sql_read_back.proofs.Cutting.{digits_of}
use Rattle.sql_read_back.proofs.Placed.{Each, Placed, placed_both, placed_map, placed_some, placed_right, placed_token}
use Rattle.sql_read_back.proofs.WrittenForms.{Written, AllWritten, mapped, left, right, absent, there, nested, after_space, name_written, symbol_written, word_at_written, word_written, sequence, spaced, behind_word, before, beside, several}
use Rattle.token_forms.specs.Forms.{◌⨟◌, ◌⨟>◌, ◌<⨟◌, ◌<$>◌, ◌∣◌, Named, name, number, chars, symbol_at, word_at, symbol_only, word_only}
use Rattle.token_forms.specs.Columns.{column, sign, optional_sign, number_form, literal, column_tree, number_literal, text_literal}

-- ---- columns and literals

module _ (item column_name : List ℕ) (R : NamedScalar → Type 0) where
  abbrev pieces : List Piece
  pieces = name_mark item ∷ symbol_mark symbol.Dot ∷ name_mark column_name ∷ []

  pub column_written : IsName item → IsName column_name → ((at : ℕ) → R (Column (record { first = item; second = Some column_name; at = at }))) → Written factor pieces R
  unfolding factor column
  column_written is_item is_column holds =
      let first = name_written item is_item in
      let second = name_written column_name is_column in
      let P : Named → Type 0 = λ v. v.0 ≡ item in
      let Q : Named → Type 0 = λ v. v.0 ≡ column_name in
      let O : Option Named → Type 0 = λ o. (v : Named) × (o ≡ Some v) × (v.0 ≡ column_name) in
      let dotted : Written (symbol_only symbol.Dot ⨟> name) (symbol_mark symbol.Dot ∷ name_mark column_name ∷ []) Q = record {
        placed = placed_map (λ p. p.1) (both (symbol_only symbol.Dot) name) (symbol_mark symbol.Dot ∷ name_mark column_name ∷ []) (λ p. Q p.1) Q (λ v q. q)
            (placed_both (symbol_only symbol.Dot) name (symbol_mark symbol.Dot ∷ []) (name_mark column_name ∷ []) (λ _. Unit {0}) Q (λ p. Q p.1) (λ a b p q. q) (symbol_written symbol.Dot).placed second.placed);
        apart = apart_dot (name_mark column_name ∷ []) second.apart;
      } in
      let qualified = there (symbol_only symbol.Dot ⨟> name) (symbol_mark symbol.Dot ∷ name_mark column_name ∷ []) Q O (λ v q. (v, refl, q)) dotted in
      let C : NameTree → Type 0 = λ t. R (Column t) in
      let tree : Written (column_tree <$> name ⨟ option (symbol_only symbol.Dot ⨟> name)) pieces C =
      mapped column_tree (both name (option (symbol_only symbol.Dot ⨟> name))) pieces (λ v. P v.0 × O v.1) C (λ v q. column_is v.0 v.1 q.0 q.1.0 q.1.1 q.1.2)
      (sequence name (option (symbol_only symbol.Dot ⨟> name)) (name_mark item ∷ []) (symbol_mark symbol.Dot ∷ name_mark column_name ∷ []) P O (λ v. P v.0 × O v.1) (λ a b p q. (p, q)) (follows_dot (name_mark column_name ∷ [])) first qualified) in
      left (Column <$> column) (Literal <$> literal ∣ case) pieces R (mapped Column column pieces C R (λ v q. q) tree)
    where
      column_is : (a : Named) (o : Option Named) → a.0 ≡ item → (v : Named) → o ≡ Some v → v.0 ≡ column_name → R (Column (column_tree (a, o)))
      column_is a o p v e q =
          let K : Option Named → Type 0 = λ z. R (Column (column_tree (a, z))) in
          let L : List ℕ → Type 0 = λ z. R (Column (record { first = a.0; second = Some z; at = a.1 })) in
          let M : List ℕ → Type 0 = λ z. R (Column (record { first = z; second = Some column_name; at = a.1 })) in
          subst K (sym e) (subst L (sym q) (subst M (sym p) (holds a.1)))

-- a literal as a factor
literal_factor : (ps : List Piece) (R : NamedScalar → Type 0) → Written literal ps (λ l. R (Literal l)) → Written factor ps R
unfolding factor
literal_factor ps R w =
    right (Column <$> column) (Literal <$> literal ∣ case) ps R (left (Literal <$> literal) case ps R (mapped Literal literal ps (λ l. R (Literal l)) R (λ v q. q) w))

module _ (text : List ℕ) (R : NamedScalar → Type 0) where
  pub chars_written : ((at : ℕ) → R (Literal (record { value = Str text; at = at }))) → Written factor (mark (CharsKind text) ∷ []) R
  unfolding literal
  chars_written holds =
      let P : Named → Type 0 = λ v. R (Literal (text_literal v)) in
      let one : Written chars (mark (CharsKind text) ∷ []) P = record { placed = placed_token _ _ (CharsKind text) P (λ at end. (refl, holds at)); apart = apart_mark (CharsKind text) tt tt } in
      literal_factor (mark (CharsKind text) ∷ []) R (left (text_literal <$> chars) number_form (mark (CharsKind text) ∷ []) (λ l. R (Literal l)) (mapped text_literal chars (mark (CharsKind text) ∷ []) P (λ l. R (Literal l)) (λ v q. q) one))

unsigned_written : (n : ℤ) → IsUnsignedShort n → Written number (mark (Number n) ∷ []) (λ (v : ℤ × ℕ). v.0 ≡ n)
unsigned_written n is = record { placed = placed_token _ _ (Number n) (λ (v : ℤ × ℕ). v.0 ≡ n) (λ at end. (refl, refl)); apart = apart_mark (Number n) tt is }

-- a minus directly before digits is no comment
not_minus : (d : ℕ) → is_ascii_digit d ≡ true → (d == 45) ≡ false
not_minus d is = grind (arith, nat_tests)

first_digit : (digits tail : List ℕ) → 0 < length digits → list_all is_ascii_digit digits ≡ true → (get_or ((digits ++ []) ++ tail) 0 0 == 45) ≡ false
first_digit [] tail some all = absurd (omega arith)
first_digit (d ∷ digits) tail some all = not_minus d (and_parts (is_ascii_digit d) (list_all is_ascii_digit digits) all).0

minus_apart : (m : ℕ) → IsUnsignedShort (pos m) → Apart (symbol_mark symbol.Minus ∷ mark (Number (pos m)) ∷ [])
minus_apart m is tail closes =
    let wide : m < 10 ^ 64 = omega (arith, ints, is.1) in
    let digits = digits_of m wide in
    (first_digit (decimal m) tail digits.some digits.all, tt, tt, apart_mark (Number (pos m)) tt is tail closes)

module _ (R : NamedScalar → Type 0) where
  short_written : (ps : List Piece) → Written number_form ps (λ l. R (Literal l)) → Written factor ps R
  unfolding literal
  short_written ps w = literal_factor ps R (right (text_literal <$> chars) number_form ps (λ l. R (Literal l)) w)

  pub number_written : (n : ℤ) → IsShort n → ((at : ℕ) → R (Literal (record { value = Num n; at = at }))) → Written factor (number_pieces n) R
  unfolding number_form optional_sign
  number_written (pos m) short holds =
      let is : IsUnsignedShort (pos m) = (omega (arith, ints), omega (arith, ints, short)) in
      let none : Written optional_sign [] (λ o. o ≡ None) = absent sign (λ o. o ≡ None) refl in
      let P : Option (Bool × ℕ) × (ℤ × ℕ) → Type 0 = λ p. (p.0 ≡ None) × (p.1.0 ≡ pos m) in
      short_written (mark (Number (pos m)) ∷ []) (mapped number_literal (both optional_sign number) (mark (Number (pos m)) ∷ []) P (λ l. R (Literal l)) (λ p q. plain p.0 p.1 q.0 q.1)
      (beside optional_sign number (mark (Number (pos m)) ∷ []) (λ o. o ≡ None) (λ (v : ℤ × ℕ). v.0 ≡ pos m) P (λ a b p q. (p, q)) none (unsigned_written (pos m) is)))
    where
      plain : (o : Option (Bool × ℕ)) (v : ℤ × ℕ) → o ≡ None → v.0 ≡ pos m → R (Literal (number_literal (o, v)))
      plain o v e q =
          let K : Option (Bool × ℕ) → Type 0 = λ z. R (Literal (number_literal (z, v))) in
          let L : ℤ → Type 0 = λ z. R (Literal (record { value = Num z; at = v.1 })) in
          subst K (sym e) (subst L (sym q) (holds v.1))
  number_written (negsuc m) short holds =
      let is : IsUnsignedShort (pos (suc m)) = (omega (arith, ints), omega (arith, ints, short)) in
      let O : Option (Bool × ℕ) → Type 0 = λ o. (at : ℕ) × (o ≡ Some (true, at)) in
      let S : Bool × ℕ → Type 0 = λ v. (at : ℕ) × (v ≡ (true, at)) in
      let ps = symbol_mark symbol.Minus ∷ [] in
      let place : Placed (symbol_at symbol.Minus) ps (λ _. Unit {0}) = placed_token _ _ (SymbolKind symbol.Minus) (λ _. Unit {0}) (λ at end. (refl, tt)) in
      let minus : Placed ((λ at. (true, at)) <$> symbol_at symbol.Minus) ps S = placed_map (λ at. (true, at)) (symbol_at symbol.Minus) ps (λ _. Unit {0}) S (λ at q. (at, refl)) place in
      let one : Placed optional_sign ps O = placed_some sign ps S O (λ v q. (q.0, ap Some q.1)) (placed_right ((λ at. (false, at)) <$> symbol_at symbol.Plus) ((λ at. (true, at)) <$> symbol_at symbol.Minus) ps S minus) in
      let P : Option (Bool × ℕ) × (ℤ × ℕ) → Type 0 = λ p. O p.0 × (p.1.0 ≡ pos (suc m)) in
      let two = placed_both optional_sign number ps (mark (Number (pos (suc m))) ∷ []) O (λ (v : ℤ × ℕ). v.0 ≡ pos (suc m)) P (λ a b p q. (p, q)) one (unsigned_written (pos (suc m)) is).placed in
      let whole = symbol_mark symbol.Minus ∷ mark (Number (pos (suc m))) ∷ [] in
      short_written whole (record {
        placed = placed_map number_literal (both optional_sign number) whole P (λ l. R (Literal l)) (λ p q. turned p.0 p.1 q.0.0 q.0.1 q.1) two;
        apart = minus_apart (suc m) is;
      })
    where
      turned : (o : Option (Bool × ℕ)) (v : ℤ × ℕ) (at : ℕ) → o ≡ Some (true, at) → v.0 ≡ pos (suc m) → R (Literal (number_literal (o, v)))
      turned o v at e q =
          let K : Option (Bool × ℕ) → Type 0 = λ z. R (Literal (number_literal (z, v))) in
          let L : ℤ → Type 0 = λ z. R (Literal (record { value = Num (neg_ℤ z); at = at })) in
          subst K (sym e) (subst L (sym q) (holds at))

-- ---- sums

pub factor_in_sum : (ps : List Piece) (R : NamedScalar → Type 0) → Written factor ps R → Written sum ps R
unfolding sum
factor_in_sum ps R w =
    let none : Written (many later_term) [] (λ vs. vs ≡ []) = record { placed = (λ at. (0, [], refl, refl)); apart = apart_none } in
    let K : List Piece → Type 0 = λ z. Written (sum_tree <$> factor ⨟ many later_term) z R in
    subst K (append-nil ps) (mapped sum_tree (both factor (many later_term)) (ps ++ []) (λ v. R v.0 × (v.1 ≡ [])) R (λ v q. alone v.0 v.1 q.0 q.1)
    (sequence factor (many later_term) ps [] R (λ vs. vs ≡ []) (λ v. R v.0 × (v.1 ≡ [])) (λ a b p q. (p, q)) follows_none w none))
  where
    alone : (s : NamedScalar) (more : List NamedTerm) → R s → more ≡ [] → R (sum_of s more)
    alone s more r e = let L : List NamedTerm → Type 0 = λ z. R (sum_of s z) in subst L (sym e) r

sign_written : (minus : Bool) → Written sum_sign (symbol_mark (sign_symbol minus) ∷ []) (λ b. b ≡ minus)
unfolding sum_sign
sign_written false = left ((λ _. false) <$> symbol_only symbol.Plus) ((λ _. true) <$> symbol_only symbol.Minus) (symbol_mark symbol.Plus ∷ []) (λ b. b ≡ false) (mapped (λ _. false) (symbol_only symbol.Plus) (symbol_mark symbol.Plus ∷ []) (λ _. Unit {0}) (λ b. b ≡ false) (λ v q. refl) (symbol_written symbol.Plus))
sign_written true = right ((λ _. false) <$> symbol_only symbol.Plus) ((λ _. true) <$> symbol_only symbol.Minus) (symbol_mark symbol.Minus ∷ []) (λ b. b ≡ true) (mapped (λ _. true) (symbol_only symbol.Minus) (symbol_mark symbol.Minus ∷ []) (λ _. Unit {0}) (λ b. b ≡ true) (λ v q. refl) (symbol_written symbol.Minus))

-- a term with its sign
pub record IsTerm {X : Type 0} (minus : X → Bool) (P : X → NamedScalar → Type 0) (x : X) (t : NamedTerm) : Type 0 where
  pub sign : t.minus ≡ minus x
  pub scalar : P x t.scalar

later_written : {X : Type 0} (minus : X → Bool) (pieces : X → List Piece) (P : X → NamedScalar → Type 0) (x : X) → Written factor (pieces x) (P x) → Written later_term (later_pieces (minus x, pieces x)) (IsTerm minus P x)
unfolding later_term
later_written minus pieces P x w =
    let ps = symbol_mark (sign_symbol (minus x)) ∷ [] ⎵ pieces x in
    after_space (term_tree <$> sum_sign ⨟ factor) ps (IsTerm minus P x)
    (mapped term_tree (both sum_sign factor) ps (λ v. (v.0 ≡ minus x) × P x v.1) (IsTerm minus P x) (λ v q. record { sign = q.0; scalar = q.1 })
    (spaced sum_sign factor (symbol_mark (sign_symbol (minus x)) ∷ []) (pieces x) (λ b. b ≡ minus x) (P x) (λ v. (v.0 ≡ minus x) × P x v.1) (λ a b p q. (p, q)) (sign_written (minus x)) w))

pub sum_written : {X : Type 0} (minus : X → Bool) (pieces : X → List Piece) (P : X → NamedScalar → Type 0) (R : NamedScalar → Type 0) (x y : X) (xs : List X) →
    ((s : NamedScalar) (t : NamedTerm) (ts : List NamedTerm) → P x s → Each (IsTerm minus P) (y ∷ xs) (t ∷ ts) → R (Sum (record { minus = false; scalar = s } ∷ (t ∷ ts)))) →
    AllWritten factor pieces P (x ∷ (y ∷ xs)) → Written sum (sum_pieces (map (λ z. (minus z, pieces z)) (x ∷ (y ∷ xs)))) R
unfolding sum
sum_written {X} minus pieces P R x y xs holds all =
    let signed : X → SignedPieces = λ z. (minus z, pieces z) in
    let more : Written (many later_term) (flat_map (λ z. later_pieces (signed z)) (y ∷ xs)) (Each (IsTerm minus P) (y ∷ xs)) =
    several later_term (λ z. later_pieces (signed z)) (IsTerm minus P) (λ z. follows_space (symbol_mark (sign_symbol (minus z)) ∷ [] ⎵ pieces z)) (y ∷ xs) (laters (y ∷ xs) all.1) in
    let K : List Piece → Type 0 = λ z. Written (many later_term) z (Each (IsTerm minus P) (y ∷ xs)) in
    let tail = flat_map later_pieces (map signed (y ∷ xs)) in
    mapped sum_tree (both factor (many later_term)) (pieces x ++ tail) (λ v. P x v.0 × Each (IsTerm minus P) (y ∷ xs) v.1) R (λ v q. long v.0 v.1 q.0 q.1)
    (sequence factor (many later_term) (pieces x) tail (P x) (Each (IsTerm minus P) (y ∷ xs)) (λ v. P x v.0 × Each (IsTerm minus P) (y ∷ xs) v.1) (λ a b p q. (p, q))
    (follows_many later_pieces (λ z. follows_space (symbol_mark (sign_symbol z.0) ∷ [] ⎵ z.1)) (map signed (y ∷ xs))) all.0 (subst K (sym (flat_map-map later_pieces signed (y ∷ xs))) more))
  where
    laters : (zs : List X) → AllWritten factor pieces P zs → AllWritten later_term (λ z. later_pieces (minus z, pieces z)) (IsTerm minus P) zs
    laters [] all = tt
    laters (z ∷ zs) all = (later_written minus pieces P z all.0, laters zs all.1)

    long : (s : NamedScalar) (ts : List NamedTerm) → P x s → Each (IsTerm minus P) (y ∷ xs) ts → R (sum_of s ts)
    long s [] p each = absurd each
    long s (t ∷ ts) p each = holds s t ts p each

-- ---- CASE

pub when_written : (c v : List Piece) (P : NamedCond → Type 0) (Q : NamedScalar → Type 0) (R : NamedWhen → Type 0) → ((a : NamedCond) (b : NamedScalar) → P a → Q b → R (record { cond = a; value = b })) →
    Written cond c P → Written sum v Q → Written when (word_of word.When ⎵ c ⎵ word_of word.Then ⎵ v) R
unfolding when
when_written c v P Q R holds u w =
    mapped when_tree (both (word_only word.When ⨟> cond) (word_only word.Then ⨟> sum)) (word_of word.When ⎵ c ⎵ word_of word.Then ⎵ v) (λ p. P p.0 × Q p.1) R (λ p q. holds p.0 p.1 q.0 q.1)
    (spaced (word_only word.When ⨟> cond) (word_only word.Then ⨟> sum) (word_of word.When ⎵ c) (word_of word.Then ⎵ v) P Q (λ p. P p.0 × Q p.1) (λ a b p q. (p, q)) (behind_word word.When cond c P u) (behind_word word.Then sum v Q w))

pub case_written : {X : Type 0} (pieces : X → List Piece) (P : X → NamedWhen → Type 0) (L : Option NamedScalar → Type 0) (last : Option (List Piece)) (R : NamedScalar → Type 0) (x : X) (xs : List X) →
    ((at : ℕ) (ws : List NamedWhen) (o : Option NamedScalar) → Each P (x ∷ xs) ws → L o → R (Case at ws o)) → AllWritten when pieces P (x ∷ xs) → Written (option (word_only word.Else ⨟> sum)) (else_pieces last) L →
    Written factor (case_pieces (map pieces (x ∷ xs)) last) R
unfolding factor case whens results
case_written {X} pieces P L last R x xs holds all w =
    let ps = whens_joined (map pieces (x ∷ xs)) in
    let some : Written whens ps (Each P (x ∷ xs)) = spaces_joined in
    let body : Written results (ps ++ else_pieces last) (λ v. Each P (x ∷ xs) v.0 × L v.1) =
    sequence whens (option (word_only word.Else ⨟> sum)) ps (else_pieces last) (Each P (x ∷ xs)) L (λ v. Each P (x ∷ xs) v.0 × L v.1) (λ a b p q. (p, q)) (else_follows last) some w in
    let Q : Results → Type 0 = λ v. Each P (x ∷ xs) v.0 × L v.1 in
    let inner : Written (rule results_rule <⨟ word_only word.End) ((ps ++ else_pieces last) ⎵ word_of word.End) Q =
    before (rule results_rule) (word_only word.End) (ps ++ else_pieces last) (space ∷ word_of word.End) Q (λ _. Unit {0}) (follows_space (word_of word.End)) (nested results_rule (ps ++ else_pieces last) Q body) (after_space (word_only word.End) (word_of word.End) (λ _. Unit {0}) (word_written word.End)) in
    let whole = case_pieces (map pieces (x ∷ xs)) last in
    right (Column <$> column) (Literal <$> literal ∣ case) whole R (right (Literal <$> literal) case whole R
    (mapped case_tree (both (word_at word.Case) (rule results_rule <⨟ word_only word.End)) whole (λ v. Q v.1) R (λ v q. holds v.0 v.1.0 v.1.1 q.0 q.1)
    (spaced (word_at word.Case) (rule results_rule <⨟ word_only word.End) (word_of word.Case) ((ps ++ else_pieces last) ⎵ word_of word.End) (λ _. Unit {0}) Q (λ v. Q v.1) (λ a b p q. q) (word_at_written word.Case) inner)))
  where
    else_follows : (o : Option (List Piece)) → Follows (else_pieces o)
    else_follows None = follows_none
    else_follows (Some v) = follows_space (word_of word.Else ⎵ v)

    spaced_whens : (ys : List X) → AllWritten when pieces P ys → AllWritten when (λ y. space ∷ pieces y) P ys
    spaced_whens [] all = tt
    spaced_whens (y ∷ ys) all = (after_space when (pieces y) (P y) all.0, spaced_whens ys all.1)

    spaces_joined : Written whens (whens_joined (map pieces (x ∷ xs))) (Each P (x ∷ xs))
    spaces_joined =
        let more : Written (many when) (flat_map (λ y. space ∷ pieces y) xs) (Each P xs) = several when (λ y. space ∷ pieces y) P (λ y. follows_space (pieces y)) xs (spaced_whens xs all.1) in
        let tail = flat_map (λ next. (space ∷ []) ++ next) (map pieces xs) in
        let K : List Piece → Type 0 = λ z. Written (many when) z (Each P xs) in
        mapped (λ p. p.0 ∷ p.1) (both when (many when)) (pieces x ++ tail) (λ v. P x v.0 × Each P xs v.1) (Each P (x ∷ xs)) (λ v q. q)
        (sequence when (many when) (pieces x) tail (P x) (Each P xs) (λ v. P x v.0 × Each P xs v.1) (λ a b p q. (p, q)) (follows_many (λ next. (space ∷ []) ++ next) (λ next. follows_space next) (map pieces xs)) all.0
        (subst K (sym (flat_map-map (λ next. (space ∷ []) ++ next) pieces xs)) more))

pub no_else : (L : Option NamedScalar → Type 0) → L None → Written (option (word_only word.Else ⨟> sum)) (else_pieces None) L
no_else L holds = absent (word_only word.Else ⨟> sum) L holds

pub some_else : (v : List Piece) (P : NamedScalar → Type 0) (L : Option NamedScalar → Type 0) → ((s : NamedScalar) → P s → L (Some s)) → Written sum v P → Written (option (word_only word.Else ⨟> sum)) (else_pieces (Some v)) L
some_else v P L holds w = after_space (option (word_only word.Else ⨟> sum)) (word_of word.Else ⎵ v) L (there (word_only word.Else ⨟> sum) (word_of word.Else ⎵ v) P L holds (behind_word word.Else sum v P w))
