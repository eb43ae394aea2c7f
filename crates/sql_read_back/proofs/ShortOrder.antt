-- The text of a query has a byte for each of its items, so that in a text that is short enough the positions of the order are short.
use Rattle.std.proofs.Common.{◌≡◌, ◌+◌, ◌≤◌, List, [], ◌∷◌, ◌++◌, map, length, ap, ◌∙◌, arith, codes}
use Rattle.std.specs.List.{flat_map}
use Rattle.std.specs.Option.{option_map}
use Rattle.std.proofs.lemmas.List.{length-append}
use Rattle.prefsql_lexer.specs.declared.token.Keyword.TheVariants as word
use Rattle.prefsql_lexer.specs.declared.token.Symbol.TheVariants as symbol
use Rattle.sql_tree.specs.declared.tree.SqlItem.{SqlItem}
use Rattle.sql_tree.specs.declared.tree.SqlQuery.{SqlQuery, out-SqlQuery}
use Rattle.sql_text.specs.Pieces.{Piece, space, bytes_of}
use Rattle.sql_text.specs.Spelling.{select_text}
use Rattle.sql_text.specs.Text.{Names, joined, listed, symbol_mark, word_of, name_mark, ◌⎵◌, scalar_pieces, item_pieces, from_pieces, query_pieces, cond_pieces, filter_pieces, order_pieces, statement_pieces, text_of}
use Rattle.sql_text.proofs.Equations.{item_is, inner_names}
use Rattle.sql_text.proofs.PieceBytes.{bytes_append}
use Rattle.sql_text.proofs.Spelled.{bytes_query}

long_append : (ps qs : List Piece) → length (bytes_of (ps ++ qs)) ≡ length (bytes_of ps) + length (bytes_of qs)
long_append ps qs = ap length (bytes_append ps qs) ∙ length-append (bytes_of ps) (bytes_of qs)

item_long : (i : SqlItem) (names : Names) → 1 ≤ length (bytes_of ((item_pieces i).pieces names))
item_long i names =
    let rest = word_of word.As ⎵ (name_mark i.name ∷ []) in
    let e : length (bytes_of ((item_pieces i).pieces names)) ≡ length (bytes_of (scalar_pieces i.value names)) + length (bytes_of (space ∷ rest)) =
    ap (λ ps. length (bytes_of ps)) (item_is i names) ∙ long_append (scalar_pieces i.value names) (space ∷ rest) in
    let one : 1 ≤ length (bytes_of (space ∷ rest)) = omega arith in
    omega (arith, e, one)

module _ {X : Type 0} (pieces : X → List Piece) (long : (x : X) → 1 ≤ length (bytes_of (pieces x))) where
  many_long : (between : List Piece) (xs : List X) → length xs ≤ length (bytes_of (flat_map (λ next. between ++ next) (map pieces xs)))
  many_long between [] = omega arith
  many_long between (x ∷ xs) =
      let rest = flat_map (λ next. between ++ next) (map pieces xs) in
      let a = long_append (between ++ pieces x) rest in
      let b = long_append between (pieces x) in
      let one = long x in
      let more = many_long between xs in
      omega (arith, a, b, one, more)

  pub joined_long : (between : List Piece) (xs : List X) → length xs ≤ length (bytes_of (joined between (map pieces xs)))
  joined_long between [] = omega arith
  joined_long between (x ∷ xs) =
      let a = long_append (pieces x) (flat_map (λ next. between ++ next) (map pieces xs)) in
      let one = long x in
      let more = many_long between xs in
      omega (arith, a, one, more)

pub items_within : (q : SqlQuery) → length (out-SqlQuery q).items ≤ length (text_of q)
items_within q =
    let o = out-SqlQuery q in
    let names = inner_names o.from [] in
    let ips = listed (map (λ item. (item_pieces item).pieces names) o.items) in
    let rest = codes " FROM " ++ (bytes_of (listed (map (λ item. (from_pieces item).pieces) o.from)) ++ bytes_of (filter_pieces (option_map cond_pieces o.filter) names)) in
    let a : length o.items ≤ length (bytes_of ips) = joined_long (λ item. (item_pieces item).pieces names) (λ item. item_long item names) (symbol_mark symbol.Comma ∷ space ∷ []) o.items in
    let b : length (bytes_of ((query_pieces q).pieces [])) ≡ length (select_text o.distinct) + length (bytes_of ips ++ rest) = ap length (bytes_query q []) ∙ length-append (select_text o.distinct) (bytes_of ips ++ rest) in
    let c = length-append (bytes_of ips) rest in
    let d = long_append ((query_pieces q).pieces []) (order_pieces o.order) in
    let e = long_append ((query_pieces q).pieces [] ++ order_pieces o.order) (symbol_mark symbol.Semicolon ∷ []) in
    let f = length-append (bytes_of (statement_pieces q)) (10 ∷ []) in
    omega (arith, a, b, c, d, e, f)
