-- The tokens of a text that is written token by token are the ones that were written.
use Rattle.std.proofs.Common.{◌≡◌, ℕ, suc, ◌+◌, ◌-◌, ◌≤◌, Bool, true, false, ◌&&◌, cond, List, [], ◌∷◌, ◌++◌, drop, length, get_or, Option, Some, None, refl, sym, ap, ◌∙◌, subst, arith}
use Rattle.std.specs.Prelude.{nat_le, nat_lt}
use Rattle.std.specs.Str.{chars}
use Rattle.std.proofs.lemmas.Bool.Decides.{nat_tests}
use Rattle.std.proofs.lemmas.List.{append_assoc}
use Rattle.std.proofs.Math.Seq.{drop-append_seam}
use Rattle.prefsql_lexer.specs.declared.token.Token.{Token}
use Rattle.prefsql_lexer.specs.declared.token.TokenKind.{TokenKind}
use Rattle.prefsql_lexer.specs.declared.token.TokenKind.TheVariants.{Word, Name, Number, Chars, Symbol as SymbolKind}
use Rattle.prefsql_lexer.specs.Bounds.{IsNameShort, IsNumberSmall, NestWithin}
use Rattle.prefsql_lexer.specs.Words.{is_blank, size_fault}
use Rattle.prefsql_lexer.specs.Tokens.{none, blank, IsGap, Lexed, raises, lowers, depth_after, depth_fault, either_fault, token_fault}
use Rattle.prefsql_lexer.proofs.Cuts.{cut_cut}
use Rattle.sql_text.specs.Pieces.{Piece, space, mark, token_bytes, bytes_of, tokens_from}
use Rattle.sql_read_back.proofs.Cutting.{goes_on, written_cut, written_begins, number_len}

-- each token keeps the limits of tokens, and what follows it does not make it longer; after the pieces this text follows
abbrev pub Stands : List Piece → List ℕ → Type 0
Stands [] tail = Unit {0}
Stands (space ∷ pieces) tail = Stands pieces tail
Stands (mark kind ∷ pieces) tail =
    (goes_on kind (get_or (bytes_of pieces ++ tail) 0 0) ≡ false) × IsNameShort kind × IsNumberSmall kind × Stands pieces tail

-- ---- a blank before

blank_gap : (b : ℕ) (text : List ℕ) (gap : ℕ) → is_blank b ≡ true → IsGap text gap → IsGap (b ∷ text) (suc gap)
blank_gap b text gap blank_is is = record { within = (let w = is.within in omega (arith, w)); gap = blank b text (drop gap text) blank_is is.gap; whole = is.whole }

pub after_blank : (b limit depth at : ℕ) (text : List ℕ) (tokens : List Token) → is_blank b ≡ true → Lexed limit depth (at + 1) text tokens None → Lexed limit depth at (b ∷ text) tokens None
after_blank b limit depth at text [] blank_is lexed = let e : suc (length text) ≡ length (b ∷ text) = omega arith in subst (λ n. IsGap (b ∷ text) n) e (blank_gap b text (length text) blank_is lexed)
after_blank b limit depth at text (token ∷ tokens) blank_is lexed =
    (suc lexed.0, lexed.1, blank_gap b text lexed.0 blank_is lexed.2, (let s = lexed.3 in omega (arith, s)), lexed.4, lexed.5, lexed.6, lexed.7)

-- ---- no fault

no_size_fault : (kind : TokenKind) → IsNameShort kind → IsNumberSmall kind → size_fault kind (length (token_bytes kind)) ≡ None
no_size_fault (Word k) name small = refl
no_size_fault (Name name) short small =
    let low : nat_le 1 (length (chars name)) ≡ true = (let h = short.not_empty in grind (arith, nat_tests)) in
    let high : nat_le (length (chars name)) 64 ≡ true = (let h = short.short in grind (arith, nat_tests)) in
    rw (low, high) refl
no_size_fault (Number n) name small =
    let few = number_len n small in
    let test : nat_lt 18 (length (token_bytes (Number n))) ≡ false = grind (arith, nat_tests) in
    rw test refl
no_size_fault (Chars value) name small = refl
no_size_fault (SymbolKind s) name small = refl

no_depth_fault : (limit depth : ℕ) (kind : TokenKind) → depth_after depth kind ≤ limit → depth_fault limit depth kind ≡ None
no_depth_fault limit depth kind within = pick (raises kind) (lowers kind) within
  where
    pick : (up down : Bool) → cond up (depth + 1) (cond down (depth - 1) depth) ≤ limit → cond {A = Option ℕ} (up && nat_le limit depth) (Some 104) None ≡ None
    pick true down within = let test : nat_le limit depth ≡ false = grind (arith, nat_tests) in rw test refl
    pick false down within = refl

no_fault : (limit depth : ℕ) (kind : TokenKind) → IsNameShort kind → IsNumberSmall kind → depth_after depth kind ≤ limit → token_fault limit depth kind (length (token_bytes kind)) ≡ None
no_fault limit depth kind name small within =
    ap (λ f. either_fault f (depth_fault limit depth kind)) (no_size_fault kind name small) ∙ no_depth_fault limit depth kind within

-- ---- the whole

-- the depth after the pieces, where it is this before them
abbrev pub depth_behind : ℕ → List Piece → ℕ
depth_behind depth [] = depth
depth_behind depth (space ∷ pieces) = depth_behind depth pieces
depth_behind depth (mark kind ∷ pieces) = depth_behind (depth_after depth kind) pieces

-- the place after the pieces, where the first one begins at this place
abbrev pub place_behind : ℕ → List Piece → ℕ
place_behind at [] = at
place_behind at (space ∷ pieces) = place_behind (at + 1) pieces
place_behind at (mark kind ∷ pieces) = place_behind (at + length (token_bytes kind)) pieces

-- the tokens of the pieces, and then those of the text that follows
pub lexed_pieces : (limit depth at : ℕ) (pieces : List Piece) (tail : List ℕ) (more : List Token) → Lexed limit (depth_behind depth pieces) (place_behind at pieces) tail more None → Stands pieces tail → NestWithin limit depth (tokens_from at pieces) →
    Lexed limit depth at (bytes_of pieces ++ tail) (tokens_from at pieces ++ more) None
lexed_pieces limit depth at [] tail more lexed stands nest = lexed
lexed_pieces limit depth at (space ∷ pieces) tail more lexed stands nest =
    after_blank 32 limit depth at (bytes_of pieces ++ tail) (tokens_from (at + 1) pieces ++ more) refl (lexed_pieces limit depth (at + 1) pieces tail more lexed stands nest)
lexed_pieces limit depth at (mark kind ∷ pieces) tail more lexed stands nest =
    let bytes = token_bytes kind in
    let after = bytes_of pieces ++ tail in
    let text : (bytes ++ bytes_of pieces) ++ tail ≡ bytes ++ after = append_assoc bytes (bytes_of pieces) tail in
    let end = at + length bytes in
    let P : List ℕ → Type 0 = λ t. Lexed limit depth at t (tokens_from at (mark kind ∷ pieces) ++ more) None in
    let cut = cut_cut (bytes ++ after) kind (length bytes) (written_cut kind after stands.2 stands.0) in
    let rest = lexed_pieces limit (depth_after depth kind) end pieces tail more lexed stands.3 nest.1 in
    let Q : List ℕ → Type 0 = λ t. Lexed limit (depth_after depth kind) end t (tokens_from end pieces ++ more) None in
    subst P (sym text) (
      0,
      length bytes,
      record { within = omega arith; gap = none (bytes ++ after); whole = written_begins kind after stands.2 stands.0 },
      omega arith,
      refl,
      cut,
      no_fault limit depth kind stands.1 stands.2 nest.0,
      subst Q (sym (drop-append_seam bytes after)) rest,
    )
