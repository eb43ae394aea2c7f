-- What is written by a form: pieces that stand apart and are a whole one of it wherever they are placed.
use Rattle.std.proofs.Common.{◌≡◌, ℕ, List, [], ◌∷◌, ◌++◌, map, refl, sym, subst, Option, Some, None}
use Rattle.std.proofs.lemmas.List.Folds.{flat_map-map}
use Rattle.std.specs.List.{flat_map}
use Rattle.grammar_forms.specs.Form.{both, either, option, many, map as map_form, rule}
use Rattle.prefsql_lexer.specs.declared.token.TokenKind.TheVariants.{Word, Name, Symbol as SymbolKind}
use Rattle.prefsql_lexer.specs.declared.token.Keyword.{Keyword}
use Rattle.prefsql_lexer.specs.declared.token.Symbol.{Symbol}
use Rattle.prefsql_lexer.specs.declared.token.Symbol.TheVariants as symbol
use Rattle.prefsql_values.specs.Limits.{IsName}
use Rattle.sql_text.specs.Grammar.{Grammar, Rule, production}
use Rattle.sql_text.specs.Pieces.{Piece, space}
use Rattle.sql_text.specs.Text.{word_mark, symbol_mark, name_mark, word_of, in_parentheses, ◌⎵◌, joined}
use Rattle.sql_read_back.proofs.Apart.{Apart, Follows, AllApart, apart_none, apart_mark, apart_append, apart_space, apart_open, apart_many, follows_space, follows_paren, follows_many}
use Rattle.sql_read_back.proofs.Placed.{Placed, Each, AllPlaced, placed_space, placed_weaker, placed_token, placed_both, placed_map, placed_left, placed_right, placed_none, placed_some, placed_rule, placed_many}
use Rattle.token_forms.specs.Forms.{◌⨟>◌, ◌<⨟◌, Named, name, word_at, symbol_only, word_only, separated, comma, in_parens}

pub record Written {A : Type 0} (f : Grammar A) (pieces : List Piece) (Q : A → Type 0) : Type 0 where
  pub placed : Placed f pieces Q
  pub apart : Apart pieces

-- ---- one form

pub weaker : {A : Type 0} (f : Grammar A) (ps : List Piece) (P Q : A → Type 0) → ((v : A) → P v → Q v) → Written f ps P → Written f ps Q
weaker f ps P Q to w = record { placed = placed_weaker f ps P Q to w.placed; apart = w.apart }

pub mapped : {A B : Type 0} (h : A → B) (f : Grammar A) (ps : List Piece) (P : A → Type 0) (Q : B → Type 0) → ((v : A) → P v → Q (h v)) → Written f ps P → Written (map_form h f) ps Q
mapped h f ps P Q to w = record { placed = placed_map h f ps P Q to w.placed; apart = w.apart }

pub left : {A : Type 0} (f g : Grammar A) (ps : List Piece) (Q : A → Type 0) → Written f ps Q → Written (either f g) ps Q
left f g ps Q w = record { placed = placed_left f g ps Q w.placed; apart = w.apart }

pub right : {A : Type 0} (f g : Grammar A) (ps : List Piece) (Q : A → Type 0) → Written g ps Q → Written (either f g) ps Q
right f g ps Q w = record { placed = placed_right f g ps Q w.placed; apart = w.apart }

pub absent : {A : Type 0} (f : Grammar A) (Q : Option A → Type 0) → Q None → Written (option f) [] Q
absent f Q q = record { placed = placed_none f Q q; apart = apart_none }

pub there : {A : Type 0} (f : Grammar A) (ps : List Piece) (P : A → Type 0) (Q : Option A → Type 0) → ((v : A) → P v → Q (Some v)) → Written f ps P → Written (option f) ps Q
there f ps P Q to w = record { placed = placed_some f ps P Q to w.placed; apart = w.apart }

pub nested : {A : Type 0} (p : Rule A) (ps : List Piece) (Q : A → Type 0) → Written (production A p) ps Q → Written (rule p) ps Q
nested p ps Q w = record { placed = placed_rule p ps Q w.placed; apart = w.apart }

pub after_space : {A : Type 0} (f : Grammar A) (ps : List Piece) (Q : A → Type 0) → Written f ps Q → Written f (space ∷ ps) Q
after_space f ps Q w = record { placed = placed_space f ps Q w.placed; apart = apart_space ps w.apart }

-- ---- tokens

pub word_written : (k : Keyword) → Written (word_only k) (word_mark k ∷ []) (λ _. Unit {0})
word_written k = record { placed = placed_token _ _ (Word k) (λ _. Unit {0}) (λ at end. (refl, tt)); apart = apart_mark (Word k) tt tt }

pub word_at_written : (k : Keyword) → Written (word_at k) (word_mark k ∷ []) (λ _. Unit {0})
word_at_written k = record { placed = placed_token _ _ (Word k) (λ _. Unit {0}) (λ at end. (refl, tt)); apart = apart_mark (Word k) tt tt }

pub symbol_written : (s : Symbol) → Written (symbol_only s) (symbol_mark s ∷ []) (λ _. Unit {0})
symbol_written s = record { placed = placed_token _ _ (SymbolKind s) (λ _. Unit {0}) (λ at end. (refl, tt)); apart = apart_mark (SymbolKind s) tt tt }

pub name_written : (t : List ℕ) → IsName t → Written name (name_mark t ∷ []) (λ (v : Named). v.0 ≡ t)
name_written t is = record { placed = placed_token _ _ (Name t) (λ (v : Named). v.0 ≡ t) (λ at end. (refl, refl)); apart = apart_mark (Name t) is tt }

-- ---- sequences

pub sequence : {A B : Type 0} (f : Grammar A) (g : Grammar B) (ps qs : List Piece) (P : A → Type 0) (Q : B → Type 0) (R : A × B → Type 0) → ((a : A) (b : B) → P a → Q b → R (a, b)) → Follows qs →
    Written f ps P → Written g qs Q → Written (both f g) (ps ++ qs) R
sequence f g ps qs P Q R to follows v w = record { placed = placed_both f g ps qs P Q R to v.placed w.placed; apart = apart_append ps qs v.apart follows w.apart }

-- with one space between them
pub spaced : {A B : Type 0} (f : Grammar A) (g : Grammar B) (ps qs : List Piece) (P : A → Type 0) (Q : B → Type 0) (R : A × B → Type 0) → ((a : A) (b : B) → P a → Q b → R (a, b)) →
    Written f ps P → Written g qs Q → Written (both f g) (ps ⎵ qs) R
spaced f g ps qs P Q R to v w = sequence f g ps (space ∷ qs) P Q R to (follows_space qs) v (after_space g qs Q w)

-- behind a word and a space
pub behind_word : {A : Type 0} (k : Keyword) (g : Grammar A) (qs : List Piece) (Q : A → Type 0) → Written g qs Q → Written (word_only k ⨟> g) (word_of k ⎵ qs) Q
behind_word k g qs Q w =
    mapped (λ p. p.1) (both (word_only k) g) (word_of k ⎵ qs) (λ p. Q p.1) Q (λ v q. q)
    (spaced (word_only k) g (word_of k) qs (λ _. Unit {0}) Q (λ p. Q p.1) (λ a b p q. q) (word_written k) w)

-- what follows it is not part of the value
pub before : {A B : Type 0} (f : Grammar A) (g : Grammar B) (ps qs : List Piece) (P : A → Type 0) (Q : B → Type 0) → Follows qs → Written f ps P → Written g qs Q → Written (f <⨟ g) (ps ++ qs) P
before f g ps qs P Q follows v w =
    mapped (λ p. p.0) (both f g) (ps ++ qs) (λ p. P p.0) P (λ u q. q) (sequence f g ps qs P Q (λ p. P p.0) (λ a b p q. p) follows v w)

pub enclosed : {A : Type 0} (f : Grammar A) (ps : List Piece) (Q : A → Type 0) → Written f ps Q → Written (in_parens f) (in_parentheses ps) Q
enclosed f ps Q w =
    let open_mark = symbol_mark symbol.LeftParen in
    let close = symbol_mark symbol.RightParen ∷ [] in
    let inner = before f (symbol_only symbol.RightParen) ps close Q (λ _. Unit {0}) (follows_paren []) w (symbol_written symbol.RightParen) in
    let whole = placed_both (symbol_only symbol.LeftParen) (f <⨟ symbol_only symbol.RightParen) (open_mark ∷ []) (ps ++ close) (λ _. Unit {0}) Q (λ p. Q p.1) (λ a b p q. q) (symbol_written symbol.LeftParen).placed inner.placed in
    record {
      placed = placed_map (λ p. p.1) (both (symbol_only symbol.LeftParen) (f <⨟ symbol_only symbol.RightParen)) (in_parentheses ps) (λ p. Q p.1) Q (λ v q. q) whole;
      apart = apart_open (ps ++ close) inner.apart;
    }

-- ---- lists

abbrev pub AllWritten : {X A : Type 0} → Grammar A → (X → List Piece) → (X → A → Type 0) → List X → Type 0
AllWritten f pieces P [] = Unit {0}
AllWritten f pieces P (x ∷ xs) = Written f (pieces x) (P x) × AllWritten f pieces P xs

all_placed : {X A : Type 0} (f : Grammar A) (pieces : X → List Piece) (P : X → A → Type 0) (xs : List X) → AllWritten f pieces P xs → AllPlaced f pieces P xs
all_placed f pieces P [] all = tt
all_placed f pieces P (x ∷ xs) all = (all.0.placed, all_placed f pieces P xs all.1)

all_apart : {X A : Type 0} (f : Grammar A) (pieces : X → List Piece) (P : X → A → Type 0) (xs : List X) → AllWritten f pieces P xs → AllApart pieces xs
all_apart f pieces P [] all = tt
all_apart f pieces P (x ∷ xs) all = (all.0.apart, all_apart f pieces P xs all.1)

-- one after the other, each beginning with a byte that closes
pub several : {X A : Type 0} (f : Grammar A) (pieces : X → List Piece) (P : X → A → Type 0) → ((x : X) → Follows (pieces x)) → (xs : List X) → AllWritten f pieces P xs → Written (many f) (flat_map pieces xs) (Each P xs)
several f pieces P follows xs all = record {
  placed = placed_many f pieces P xs (all_placed f pieces P xs all);
  apart = apart_many pieces follows xs (all_apart f pieces P xs all);
}

-- behind a part of which nothing is written
pub beside : {A B : Type 0} (f : Grammar A) (g : Grammar B) (qs : List Piece) (P : A → Type 0) (Q : B → Type 0) (R : A × B → Type 0) → ((a : A) (b : B) → P a → Q b → R (a, b)) → Written f [] P → Written g qs Q → Written (both f g) qs R
beside f g qs P Q R to v w = record { placed = placed_both f g [] qs P Q R to v.placed w.placed; apart = w.apart }

-- ---- with separators

-- the parts with these pieces between them, where the separator and what follows it are written so
pub joined_written : {X A : Type 0} (s : Grammar (Unit {0})) (sep : List Piece) (f : Grammar A) → ((qs : List Piece) (Q : A → Type 0) → Written f qs Q → Written (s ⨟> f) (sep ++ qs) Q) → ((qs : List Piece) → Follows (sep ++ qs)) →
    (pieces : X → List Piece) (P : X → A → Type 0) (x : X) (xs : List X) → AllWritten f pieces P (x ∷ xs) → Written (separated s f) (joined sep (map pieces (x ∷ xs))) (Each P (x ∷ xs))
joined_written {X = X} s sep f turn follows pieces P x xs all =
    let more : Written (many (s ⨟> f)) (flat_map (λ y. sep ++ pieces y) xs) (Each P xs) = several (s ⨟> f) (λ y. sep ++ pieces y) P (λ y. follows (pieces y)) xs (turned xs all.1) in
    let same : flat_map (λ y. sep ++ pieces y) xs ≡ flat_map (λ next. sep ++ next) (map pieces xs) = sym (flat_map-map (λ next. sep ++ next) pieces xs) in
    let K : List Piece → Type 0 = λ z. Written (many (s ⨟> f)) z (Each P xs) in
    let tail = flat_map (λ next. sep ++ next) (map pieces xs) in
    mapped (λ p. p.0 ∷ p.1) (both f (many (s ⨟> f))) (pieces x ++ tail) (λ v. P x v.0 × Each P xs v.1) (Each P (x ∷ xs)) (λ v q. q)
    (sequence f (many (s ⨟> f)) (pieces x) tail (P x) (Each P xs) (λ v. P x v.0 × Each P xs v.1) (λ a b p q. (p, q)) (follows_many (λ next. sep ++ next) (λ next. follows next) (map pieces xs)) all.0 (subst K same more))
  where
    turned : (ys : List X) → AllWritten f pieces P ys → AllWritten (s ⨟> f) (λ y. sep ++ pieces y) P ys
    turned [] all = tt
    turned (y ∷ ys) all = (turn (pieces y) (P y) all.0, turned ys all.1)

pub comma_between : {A : Type 0} (f : Grammar A) (qs : List Piece) (Q : A → Type 0) → Written f qs Q → Written (comma ⨟> f) ((symbol_mark symbol.Comma ∷ space ∷ []) ++ qs) Q
comma_between f qs Q w =
    mapped (λ p. p.1) (both comma f) (symbol_mark symbol.Comma ∷ space ∷ qs) (λ p. Q p.1) Q (λ v q. q)
    (spaced comma f (symbol_mark symbol.Comma ∷ []) qs (λ _. Unit {0}) Q (λ p. Q p.1) (λ a b p q. q) (symbol_written symbol.Comma) w)

pub word_between : {A : Type 0} (k : Keyword) (f : Grammar A) (qs : List Piece) (Q : A → Type 0) → Written f qs Q → Written (word_only k ⨟> f) ((space ∷ word_mark k ∷ space ∷ []) ++ qs) Q
word_between k f qs Q w = after_space (word_only k ⨟> f) (word_of k ⎵ qs) Q (behind_word k f qs Q w)
