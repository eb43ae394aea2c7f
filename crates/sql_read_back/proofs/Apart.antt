-- Pieces whose tokens stand apart: each keeps the limits of tokens and is not made longer by what follows it.
use Rattle.std.proofs.Common.{◌≡◌, ℕ, false, List, [], ◌∷◌, ◌++◌, get_or, refl, sym, ap, ◌∙◌, subst}
use Rattle.std.specs.List.{flat_map}
use Rattle.std.proofs.lemmas.List.{append_assoc}
use Rattle.prefsql_lexer.specs.declared.token.TokenKind.{TokenKind}
use Rattle.prefsql_lexer.specs.declared.token.TokenKind.TheVariants.{Word, Name, Number, Chars, Symbol as SymbolKind}
use Rattle.prefsql_lexer.specs.declared.token.Symbol.TheVariants as symbol
use Rattle.prefsql_lexer.specs.Bounds.{IsNameShort, IsNumberSmall}
use Rattle.sql_text.specs.Pieces.{Piece, space, mark, bytes_of}
use Rattle.sql_text.proofs.PieceBytes.{bytes_append}
use Rattle.sql_read_back.proofs.Cutting.{goes_on}
use Rattle.sql_read_back.proofs.WrittenTokens.{Stands}

-- no token goes on with this byte
abbrev pub Closes : ℕ → Type 0
Closes b = (kind : TokenKind) → goes_on kind b ≡ false

pub closes_space : Closes 32
closes_space (Word k) = refl
closes_space (Name name) = refl
closes_space (Number n) = refl
closes_space (Chars value) = refl
closes_space (SymbolKind symbol.Less) = refl
closes_space (SymbolKind symbol.Greater) = refl
closes_space (SymbolKind symbol.Minus) = refl
closes_space (SymbolKind _) = refl

pub closes_paren : Closes 41
closes_paren (Word k) = refl
closes_paren (Name name) = refl
closes_paren (Number n) = refl
closes_paren (Chars value) = refl
closes_paren (SymbolKind symbol.Less) = refl
closes_paren (SymbolKind symbol.Greater) = refl
closes_paren (SymbolKind symbol.Minus) = refl
closes_paren (SymbolKind _) = refl

pub closes_comma : Closes 44
closes_comma (Word k) = refl
closes_comma (Name name) = refl
closes_comma (Number n) = refl
closes_comma (Chars value) = refl
closes_comma (SymbolKind symbol.Less) = refl
closes_comma (SymbolKind symbol.Greater) = refl
closes_comma (SymbolKind symbol.Minus) = refl
closes_comma (SymbolKind _) = refl

pub closes_dot : Closes 46
closes_dot (Word k) = refl
closes_dot (Name name) = refl
closes_dot (Number n) = refl
closes_dot (Chars value) = refl
closes_dot (SymbolKind symbol.Less) = refl
closes_dot (SymbolKind symbol.Greater) = refl
closes_dot (SymbolKind symbol.Minus) = refl
closes_dot (SymbolKind _) = refl

pub closes_semicolon : Closes 59
closes_semicolon (Word k) = refl
closes_semicolon (Name name) = refl
closes_semicolon (Number n) = refl
closes_semicolon (Chars value) = refl
closes_semicolon (SymbolKind symbol.Less) = refl
closes_semicolon (SymbolKind symbol.Greater) = refl
closes_semicolon (SymbolKind symbol.Minus) = refl
closes_semicolon (SymbolKind _) = refl

pub closes_line : Closes 10
closes_line (Word k) = refl
closes_line (Name name) = refl
closes_line (Number n) = refl
closes_line (Chars value) = refl
closes_line (SymbolKind symbol.Less) = refl
closes_line (SymbolKind symbol.Greater) = refl
closes_line (SymbolKind symbol.Minus) = refl
closes_line (SymbolKind _) = refl

pub stands_append : (ps qs : List Piece) (tail : List ℕ) → Stands ps (bytes_of qs ++ tail) → Stands qs tail → Stands (ps ++ qs) tail
stands_append [] qs tail a b = b
stands_append (space ∷ ps) qs tail a b = stands_append ps qs tail a b
stands_append (mark kind ∷ ps) qs tail a b =
    let same : bytes_of (ps ++ qs) ++ tail ≡ bytes_of ps ++ (bytes_of qs ++ tail) = ap (λ bs. bs ++ tail) (bytes_append ps qs) ∙ append_assoc (bytes_of ps) (bytes_of qs) tail in
    (ap (λ bs. goes_on kind (get_or bs 0 0)) same ∙ a.0, a.1, a.2, stands_append ps qs tail a.3 b)

-- before any byte that closes
abbrev pub Apart : List Piece → Type 0
Apart ps = (tail : List ℕ) → Closes (get_or tail 0 0) → Stands ps tail

-- what follows begins with a byte that closes
abbrev pub Follows : List Piece → Type 0
Follows qs = (tail : List ℕ) → Closes (get_or tail 0 0) → Closes (get_or (bytes_of qs ++ tail) 0 0)

pub apart_none : Apart []
apart_none tail closes = tt

pub apart_mark : (kind : TokenKind) → IsNameShort kind → IsNumberSmall kind → Apart (mark kind ∷ [])
apart_mark kind short small tail closes = (closes kind, short, small, tt)

pub apart_append : (ps qs : List Piece) → Apart ps → Follows qs → Apart qs → Apart (ps ++ qs)
apart_append ps qs a f b tail closes = stands_append ps qs tail (a (bytes_of qs ++ tail) (f tail closes)) (b tail closes)

pub follows_none : Follows []
follows_none tail closes = closes

pub follows_space : (qs : List Piece) → Follows (space ∷ qs)
follows_space qs tail closes = closes_space

pub apart_space : (qs : List Piece) → Apart qs → Apart (space ∷ qs)
apart_space qs b tail closes = b tail closes

pub follows_paren : (qs : List Piece) → Follows (mark (SymbolKind symbol.RightParen) ∷ qs)
follows_paren qs tail closes = closes_paren

pub follows_comma : (qs : List Piece) → Follows (mark (SymbolKind symbol.Comma) ∷ qs)
follows_comma qs tail closes = closes_comma

pub follows_dot : (qs : List Piece) → Follows (mark (SymbolKind symbol.Dot) ∷ qs)
follows_dot qs tail closes = closes_dot

pub follows_semicolon : (qs : List Piece) → Follows (mark (SymbolKind symbol.Semicolon) ∷ qs)
follows_semicolon qs tail closes = closes_semicolon

-- an opening parenthesis and a dot go on with nothing
pub apart_open : (ps : List Piece) → Apart ps → Apart (mark (SymbolKind symbol.LeftParen) ∷ ps)
apart_open ps a tail closes = (refl, tt, tt, a tail closes)

pub apart_dot : (ps : List Piece) → Apart ps → Apart (mark (SymbolKind symbol.Dot) ∷ ps)
apart_dot ps a tail closes = (refl, tt, tt, a tail closes)

pub follows_append : (ps qs : List Piece) → Follows ps → Follows qs → Follows (ps ++ qs)
follows_append ps qs f g tail closes =
    let same : bytes_of (ps ++ qs) ++ tail ≡ bytes_of ps ++ (bytes_of qs ++ tail) = ap (λ bs. bs ++ tail) (bytes_append ps qs) ∙ append_assoc (bytes_of ps) (bytes_of qs) tail in
    let P : List ℕ → Type 0 = λ bs. Closes (get_or bs 0 0) in
    subst P (sym same) (f (bytes_of qs ++ tail) (g tail closes))

abbrev pub AllApart : {X : Type 0} → (X → List Piece) → List X → Type 0
AllApart pieces [] = Unit {0}
AllApart pieces (x ∷ xs) = Apart (pieces x) × AllApart pieces xs

-- each part begins with a byte that closes
pub follows_many : {X : Type 0} (pieces : X → List Piece) → ((x : X) → Follows (pieces x)) → (xs : List X) → Follows (flat_map pieces xs)
follows_many pieces follows [] = follows_none
follows_many pieces follows (x ∷ xs) = follows_append (pieces x) (flat_map pieces xs) (follows x) (follows_many pieces follows xs)

pub apart_many : {X : Type 0} (pieces : X → List Piece) → ((x : X) → Follows (pieces x)) → (xs : List X) → AllApart pieces xs → Apart (flat_map pieces xs)
apart_many pieces follows [] all = apart_none
apart_many pieces follows (x ∷ xs) all = apart_append (pieces x) (flat_map pieces xs) all.0 (follows_many pieces follows xs) (apart_many pieces follows xs all.1)
