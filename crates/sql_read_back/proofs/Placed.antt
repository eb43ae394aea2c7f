-- Pieces that are a whole one of a form wherever they are placed, and how such pieces are put together.
use Rattle.std.proofs.Common.{◌≡◌, ℕ, suc, ◌+◌, inl, inr, List, [], ◌∷◌, ◌++◌, length, refl, ap, subst, arith, Option, Some, None}
use Rattle.std.specs.List.{flat_map}
use Rattle.grammar_forms.specs.Form.{WholeRule, both, either, option, many, map, rule, token}
use Rattle.grammar_forms.proofs.Same.{IsWhole-deeper}
use Rattle.prefsql_lexer.specs.declared.token.Token.{Token}
use Rattle.prefsql_lexer.specs.declared.token.TokenKind.{TokenKind}
use Rattle.token_forms.specs.Classes.{class}
use Rattle.sql_text.specs.Grammar.{Grammar, Rule, production}
use Rattle.sql_text.specs.Scripts.{IsWhole}
use Rattle.sql_text.specs.Pieces.{Piece, space, mark, token_bytes, tokens_from}

-- the value is that of the form at the tokens of these pieces, wherever they are placed, and this holds of it
abbrev pub Placed : {A : Type 0} → Grammar A → List Piece → (A → Type 0) → Type 0
Placed {A = A} f pieces Q = (at : ℕ) → (n : ℕ) × (v : A) × IsWhole n f (tokens_from at pieces) v × Q v

-- ---- levels

pub deeper_left : {A : Type 0} (m n : ℕ) (f : Grammar A) (ts : List Token) (v : A) → IsWhole n f ts v → IsWhole (m + n) f ts v
deeper_left m n f ts v w = IsWhole-deeper Token Rule class production m n f ts v w

pub deeper_right : {A : Type 0} (m n : ℕ) (f : Grammar A) (ts : List Token) (v : A) → IsWhole m f ts v → IsWhole (m + n) f ts v
deeper_right m n f ts v w =
    let same : n + m ≡ m + n = omega arith in
    subst (λ z. IsWhole z f ts v) same (IsWhole-deeper Token Rule class production n m f ts v w)

-- ---- places

pub tokens_append : (at : ℕ) (ps qs : List Piece) → (end : ℕ) × (tokens_from at (ps ++ qs) ≡ tokens_from at ps ++ tokens_from end qs)
tokens_append at [] qs = (at, refl)
tokens_append at (space ∷ ps) qs = tokens_append (at + 1) ps qs
tokens_append at (mark kind ∷ ps) qs =
    let rest = tokens_append (at + length (token_bytes kind)) ps qs in
    let first : Token = record { kind = kind; start = at; end = at + length (token_bytes kind) } in
    (rest.0, ap (λ ts. first ∷ ts) rest.1)

-- ---- forms

pub placed_space : {A : Type 0} (f : Grammar A) (ps : List Piece) (Q : A → Type 0) → Placed f ps Q → Placed f (space ∷ ps) Q
placed_space f ps Q x at = x (at + 1)

pub placed_weaker : {A : Type 0} (f : Grammar A) (ps : List Piece) (P Q : A → Type 0) → ((v : A) → P v → Q v) → Placed f ps P → Placed f ps Q
placed_weaker f ps P Q to x at = let w = x at in (w.0, w.1, w.2, to w.1 w.3)

pub placed_token : {A : Type 0} (c : ℕ) (value : Token → A) (kind : TokenKind) (Q : A → Type 0) →
    ((at end : ℕ) → let t : Token = record { kind = kind; start = at; end = end } in (class t ≡ c) × Q (value t)) → Placed (token c value) (mark kind ∷ []) Q
placed_token c value kind Q is at =
    let end = at + length (token_bytes kind) in
    let t : Token = record { kind = kind; start = at; end = end } in
    let k = is at end in
    (0, value t, (t, refl, k.0, refl), k.1)

pub placed_both : {A B : Type 0} (f : Grammar A) (g : Grammar B) (ps qs : List Piece) (P : A → Type 0) (Q : B → Type 0) (R : A × B → Type 0) → ((a : A) (b : B) → P a → Q b → R (a, b)) →
    Placed f ps P → Placed g qs Q → Placed (both f g) (ps ++ qs) R
placed_both f g ps qs P Q R to x y at =
    let split = tokens_append at ps qs in
    let a = x at in
    let b = y split.0 in (
      a.0 + b.0,
      (a.1, b.1),
      (tokens_from at ps, tokens_from split.0 qs, split.1, deeper_right a.0 b.0 f (tokens_from at ps) a.1 a.2, deeper_left a.0 b.0 g (tokens_from split.0 qs) b.1 b.2),
      to a.1 b.1 a.3 b.3,
    )

pub placed_map : {A B : Type 0} (h : A → B) (f : Grammar A) (ps : List Piece) (P : A → Type 0) (Q : B → Type 0) → ((v : A) → P v → Q (h v)) → Placed f ps P → Placed (map h f) ps Q
placed_map h f ps P Q to x at = let w = x at in (w.0, h w.1, (w.1, w.2, refl), to w.1 w.3)

pub placed_left : {A : Type 0} (f g : Grammar A) (ps : List Piece) (Q : A → Type 0) → Placed f ps Q → Placed (either f g) ps Q
placed_left f g ps Q x at = let w = x at in (w.0, w.1, inl w.2, w.3)

pub placed_right : {A : Type 0} (f g : Grammar A) (ps : List Piece) (Q : A → Type 0) → Placed g ps Q → Placed (either f g) ps Q
placed_right f g ps Q x at = let w = x at in (w.0, w.1, inr w.2, w.3)

pub placed_none : {A : Type 0} (f : Grammar A) (Q : Option A → Type 0) → Q None → Placed (option f) [] Q
placed_none f Q q at = (0, None, refl, q)

pub placed_some : {A : Type 0} (f : Grammar A) (ps : List Piece) (P : A → Type 0) (Q : Option A → Type 0) → ((v : A) → P v → Q (Some v)) → Placed f ps P → Placed (option f) ps Q
placed_some f ps P Q to x at = let w = x at in (w.0, Some w.1, w.2, to w.1 w.3)

pub placed_rule : {A : Type 0} (p : Rule A) (ps : List Piece) (Q : A → Type 0) → Placed (production A p) ps Q → Placed (rule p) ps Q
unfolding WholeRule
placed_rule p ps Q x at = let w = x at in (suc w.0, w.1, w.2, w.3)

-- ---- several, one after the other

-- each value has what is told of its origin
abbrev pub Each : {X A : Type 0} → (X → A → Type 0) → List X → List A → Type 0
Each P [] [] = Unit {0}
Each P [] (v ∷ vs) = ⊥
Each P (x ∷ xs) [] = ⊥
Each P (x ∷ xs) (v ∷ vs) = P x v × Each P xs vs

-- the form of each item is placed
abbrev pub AllPlaced : {X A : Type 0} → Grammar A → (X → List Piece) → (X → A → Type 0) → List X → Type 0
AllPlaced f pieces P [] = Unit {0}
AllPlaced f pieces P (x ∷ xs) = Placed f (pieces x) (P x) × AllPlaced f pieces P xs

pub placed_many : {X A : Type 0} (f : Grammar A) (pieces : X → List Piece) (P : X → A → Type 0) (xs : List X) → AllPlaced f pieces P xs → Placed (many f) (flat_map pieces xs) (Each P xs)
placed_many f pieces P [] all at = (0, [], refl, tt)
placed_many f pieces P (x ∷ xs) all at =
    let split = tokens_append at (pieces x) (flat_map pieces xs) in
    let a = all.0 at in
    let b = placed_many f pieces P xs all.1 split.0 in (
      a.0 + b.0,
      a.1 ∷ b.1,
      (tokens_from at (pieces x), tokens_from split.0 (flat_map pieces xs), split.1, deeper_right a.0 b.0 f (tokens_from at (pieces x)) a.1 a.2, deeper_left a.0 b.0 (many f) (tokens_from split.0 (flat_map pieces xs)) b.1 b.2),
      (a.3, b.3),
    )
