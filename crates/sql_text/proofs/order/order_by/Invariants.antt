use Rattle.std.proofs.Common.{◌≡◌, ◌++◌, ◌∷◌, [], map, drop}
use Rattle.std.specs.List.{flat_map}
use Rattle.std.specs.String.{string_bytes}
use Rattle.prefsql_lexer.specs.declared.token.Symbol.TheVariants.{Comma}
use Rattle.sql_text.specs.Pieces.{space, bytes_of}
use Rattle.sql_text.specs.Text as spec
use Rattle.sql_text.proofs.order.order_by.Given as goal

abbrev pub invariant-loop-next : goal.invariant-loop-next
invariant-loop-next l =
    string_bytes l.fn.out ++ bytes_of (spec.order_pieces l.keys) ≡ string_bytes l.out ++ bytes_of (flat_map (λ next. (spec.symbol_mark Comma ∷ space ∷ []) ++ next) (map spec.key_pieces (drop l.next-index l.more)))
