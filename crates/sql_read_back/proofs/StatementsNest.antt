-- The tokens of a written statement nest no deeper than its query says, and what is opened in it is closed in it.
use Rattle.std.proofs.Common.{◌≡◌, ◌≤◌, ℕ, ◌+◌, pos, Bool, true, false, List, [], ◌∷◌, ◌++◌, map, refl, ap, subst, arith, append-nil}
use Rattle.std.specs.Prelude.{max}
use Rattle.prefsql_lexer.specs.Bounds.{NestWithin}
use Rattle.prefsql_lexer.specs.declared.token.TokenKind.TheVariants.{Number, Symbol as SymbolKind}
use Rattle.prefsql_lexer.specs.declared.token.Keyword.TheVariants as word
use Rattle.prefsql_lexer.specs.declared.token.Symbol.TheVariants as symbol
use Rattle.prefsql_values.specs.Nesting.{deepest}
use Rattle.sql_text.specs.Pieces.{Piece, space, mark, tokens_from}
use Rattle.sql_text.specs.Text.{listed, word_of, ◌⎵◌, direction_word, key_pieces, order_pieces, statement_pieces, query_pieces}
use Rattle.prefsql_tables.specs.declared.place.SortKey.{SortKey}
use Rattle.sql_tree.specs.Nesting.{nesting}
use Rattle.sql_tree.specs.declared.tree.SqlQuery.{SqlQuery, out-SqlQuery}
use Rattle.sql_read_back.proofs.WrittenTokens.{depth_behind}
use Rattle.sql_read_back.proofs.Nested.{EachNests, Nests, PiecesNest, comma, nests_append, nests_joined, nests_mark, nests_none, nests_weaker, pieces_close, query_nests, tokens_nest, word_end, word_then}

module _ (limit : ℕ) where
  -- ---- statements

  key_nests : (k : ℕ) (key : SortKey) → Nests limit k (key_pieces key)
  key_nests k key = nests_mark limit k (Number (pos (key.column + 1))) (space ∷ word_of (direction_word key.descending)) (λ d. refl) (direction key.descending)
    where
      direction : (b : Bool) → Nests limit k (space ∷ word_of (direction_word b))
      direction true = word_end limit k word.Desc (λ d. refl)
      direction false = word_end limit k word.Asc (λ d. refl)

  keys_nest : (keys : List SortKey) → EachNests limit (λ (key : SortKey). 0) key_pieces keys
  keys_nest [] = tt
  keys_nest (key ∷ keys) = (key_nests 0 key, keys_nest keys)

  no_depth : (keys : List SortKey) → deepest (map (λ (key : SortKey). 0) keys) ≡ 0
  no_depth [] = refl
  no_depth (key ∷ keys) = ap (max 0) (no_depth keys)

  order_nests : (k : ℕ) (keys : List SortKey) → Nests limit k (order_pieces keys)
  order_nests k [] = nests_none limit k
  order_nests k (key ∷ more) =
      let list = listed (map key_pieces (key ∷ more)) in
      let body = nests_joined limit (mark (SymbolKind symbol.Comma) ∷ space ∷ []) (comma limit) (λ (key : SortKey). 0) key_pieces (key ∷ more) (keys_nest (key ∷ more)) in
      let flat : Nests limit k list = nests_weaker limit 0 k list (omega arith) (subst (λ z. Nests limit z list) (no_depth (key ∷ more)) body) in
      word_then limit k word.Order (word_of word.By ⎵ list) (λ d. refl) (word_then limit k word.By list (λ d. refl) flat)

  statement_walks : (q : SqlQuery) → nesting q ≤ limit → PiecesNest limit 0 (statement_pieces q)
  statement_walks q le =
      let k = nesting q in
      let ps = (query_pieces q).pieces [] in
      let os = order_pieces (out-SqlQuery q).order in
      let end : List Piece = mark (SymbolKind symbol.Semicolon) ∷ [] in
      let front = nests_append limit k ps os (query_nests limit q []) (order_nests k (out-SqlQuery q).order) in
      let all = nests_append limit k (ps ++ os) end front (nests_mark limit k (SymbolKind symbol.Semicolon) [] (λ d. refl) (nests_none limit k)) in
      subst (λ z. PiecesNest limit 0 z) (append-nil (statement_pieces q)) (all 0 (omega (arith, le)) [] refl)

  pub statement_nests : (q : SqlQuery) → nesting q ≤ limit → (at : ℕ) → NestWithin limit 0 (tokens_from at (statement_pieces q))
  statement_nests q le at = tokens_nest limit 0 at (statement_pieces q) (statement_walks q le)

  -- what is opened in a statement is closed in it
  pub statement_closes : (q : SqlQuery) → nesting q ≤ limit → depth_behind 0 (statement_pieces q) ≡ 0
  statement_closes q le = pieces_close limit 0 (statement_pieces q) (statement_walks q le)
