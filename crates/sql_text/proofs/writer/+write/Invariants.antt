use Rattle.std.proofs.Common.{◌≡◌, ◌++◌, ◌∷◌, [], map, drop}
use Rattle.std.specs.List.{flat_map}
use Rattle.std.specs.String.{string_bytes}
use Rattle.prefsql_lexer.specs.declared.token.Keyword.TheVariants.{And, Or}
use Rattle.prefsql_lexer.specs.declared.token.Symbol.TheVariants.{Comma}
use Rattle.prefsql_values.specs.Nesting.{in_and, in_or}
use Rattle.sql_text.specs.Levels.{names_of}
use Rattle.sql_text.specs.Pieces.{space, bytes_of}
use Rattle.sql_text.specs.Text as spec
use Rattle.sql_text.proofs.writer.+write.Given as goal

abbrev pub invariant-all_parts-loop-next : goal.invariant-all_parts-loop-next
invariant-all_parts-loop-next l =
    string_bytes l.fn.out ++ bytes_of (spec.all_joined (map (λ part. spec.cond_pieces part (names_of l.levels) in_and) l.parts)) ≡ string_bytes l.out ++ bytes_of (flat_map (λ next. (space ∷ spec.word_mark And ∷ space ∷ []) ++ next) (map (λ part. spec.cond_pieces part (names_of l.levels) in_and) (drop l.next-index l.more)))

abbrev pub invariant-any_parts-loop-next : goal.invariant-any_parts-loop-next
invariant-any_parts-loop-next l =
    string_bytes l.fn.out ++ bytes_of (spec.any_joined (map (λ part. spec.cond_pieces part (names_of l.levels) in_or) l.parts)) ≡ string_bytes l.out ++ bytes_of (flat_map (λ next. (space ∷ spec.word_mark Or ∷ space ∷ []) ++ next) (map (λ part. spec.cond_pieces part (names_of l.levels) in_or) (drop l.next-index l.more)))

abbrev pub invariant-from_items-loop-next : goal.invariant-from_items-loop-next
invariant-from_items-loop-next l =
    string_bytes l.fn.out ++ bytes_of (spec.listed (map (λ item. (spec.from_pieces item).pieces) l.list)) ≡ string_bytes l.out ++ bytes_of (flat_map (λ next. (spec.symbol_mark Comma ∷ space ∷ []) ++ next) (map (λ item. (spec.from_pieces item).pieces) (drop l.next-index l.more)))

abbrev pub invariant-items-loop-next : goal.invariant-items-loop-next
invariant-items-loop-next l =
    string_bytes l.fn.out ++ bytes_of (spec.listed (map (λ item. (spec.item_pieces item).pieces (names_of l.levels)) l.list)) ≡ string_bytes l.out ++ bytes_of (flat_map (λ next. (spec.symbol_mark Comma ∷ space ∷ []) ++ next) (map (λ item. (spec.item_pieces item).pieces (names_of l.levels)) (drop l.next-index l.more)))

abbrev pub invariant-scalars-loop-next : goal.invariant-scalars-loop-next
invariant-scalars-loop-next l =
    string_bytes l.fn.out ++ bytes_of (spec.listed (map (λ scalar. spec.scalar_pieces scalar (names_of l.levels)) l.list)) ≡ string_bytes l.out ++ bytes_of (flat_map (λ next. (spec.symbol_mark Comma ∷ space ∷ []) ++ next) (map (λ scalar. spec.scalar_pieces scalar (names_of l.levels)) (drop l.next-index l.more)))

abbrev pub invariant-whens_joined-loop-next : goal.invariant-whens_joined-loop-next
invariant-whens_joined-loop-next l =
    string_bytes l.fn.out ++ bytes_of (spec.whens_joined (map (λ when. spec.when_pieces when (names_of l.levels)) l.whens)) ≡ string_bytes l.out ++ bytes_of (flat_map (λ next. (space ∷ []) ++ next) (map (λ when. spec.when_pieces when (names_of l.levels)) (drop l.next-index l.more)))

abbrev pub invariant-sum-loop-term : goal.invariant-sum-loop-term
invariant-sum-loop-term l =
    string_bytes l.fn.out ++ bytes_of (spec.sum_pieces (map (λ term. spec.term_pieces term (names_of l.levels)) l.terms)) ≡ string_bytes l.out ++ bytes_of (flat_map (spec.later_pieces) (map (λ term. spec.term_pieces term (names_of l.levels)) (drop l.term-index l.more)))
