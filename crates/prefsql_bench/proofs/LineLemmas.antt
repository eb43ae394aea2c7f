-- The lines of the summary, one statement after the other.
use Rattle.std.proofs.Common.{◌≡◌, ℕ, ◌+◌, List, [], ◌∷◌, ◌++◌, length, ap, sym, ◌∙◌, append_assoc, append-nil, arith}
use Rattle.prefsql_bench.specs.Summary.{statement_line, statement_lines}

-- one statement more
pub lines_more : (number next : ℕ) (answers : List ℕ) (rows : ℕ) → next ≡ number + length answers
    → statement_lines number (answers ++ rows ∷ []) ≡ statement_lines number answers ++ statement_line next rows
lines_more number next [] rows is =
    append-nil (statement_line number rows)
    ∙ ap (λ n. statement_line n rows) (let same : number ≡ next = omega (arith, is) in same)
lines_more number next (first ∷ answers) rows is =
    ap (λ lines. statement_line number first ++ lines) (lines_more (number + 1) next answers rows (omega (arith, is)))
    ∙ sym (append_assoc (statement_line number first) (statement_lines (number + 1) answers) (statement_line next rows))
