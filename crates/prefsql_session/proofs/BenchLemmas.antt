-- The queries of the bench, one after the other.
use Rattle.std.proofs.Common.{◌≡◌, ◌∙◌, ◌+◌, ◌*◌, ◌<◌, ◌≤◌, ℕ, zero, suc, List, [], ◌∷◌, ◌++◌, Result, Ok, Err, length, take, get_or, map, refl, sym, ap, ap₂, subst, arith}
use Rattle.std.proofs.lemmas.List.{take_more, map-append}
use Rattle.query_meaning.specs.declared.block.Block.{Block}
use Rattle.prefsql_bench.specs.BenchTable.{bench_set}
use Rattle.std.specs.Prelude.{IfOk}
use Rattle.prefsql_bench.specs.Statements.{bench_blocks}
use Rattle.prefsql_bench.specs.Summary.{answer_rows}
use Rattle.prefsql_session.specs.Counts.{IsTestCount, Takes, last_count}
use Rattle.prefsql_session.proofs.AnswerLemmas.{takes-push}

-- the first of the queries were answered
pub record HasCounted (count : ℕ) (blocks : List Block) (at : ℕ) (rows : List ℕ) (start end : ℕ) : Type 0 where
  pub counted : rows ≡ map (answer_rows count) (take at blocks)
  pub tests : List ℕ
  pub takes : Takes (bench_set count) (take at blocks) tests start end

pub none_counted : (count : ℕ) (blocks : List Block) (start : ℕ) → HasCounted count blocks 0 [] start start
none_counted count blocks start = record {
  counted = refl;
  tests = [];
  takes = record { counts = tt; least = omega arith; most = λ all. omega arith };
}

pub one_counted : (count : ℕ) (blocks : List Block) (at : ℕ) (block : Block) → get_or blocks at block ≡ block → at < length blocks
    → (rows : List ℕ) (start middle : ℕ) → HasCounted count blocks at rows start middle
    → (found tests end : ℕ) → found ≡ answer_rows count block → IsTestCount (bench_set count) block tests → middle + tests ≤ end
    → (tests < last_count → end ≤ middle + 8 * tests) → HasCounted count blocks (at + 1) (rows ++ found ∷ []) start end
one_counted count blocks at block item lt rows start middle so_far found tests end is counts least most =
    let more : take (at + 1) blocks ≡ take at blocks ++ block ∷ [] = take_more blocks at block lt ∙ ap (λ b. take at blocks ++ b ∷ []) item in
    record {
      counted = ap₂ (λ (xs : List ℕ) (y : ℕ). xs ++ y ∷ []) so_far.counted is ∙ sym (ap (map (answer_rows count)) more ∙ map-append (answer_rows count) (take at blocks) (block ∷ []));
      tests = so_far.tests ++ tests ∷ [];
      takes = subst (λ bs. Takes (bench_set count) bs (so_far.tests ++ tests ∷ []) start end) (sym more)
          (takes-push (bench_set count) (take at blocks) so_far.tests block tests start middle end so_far.takes counts least most);
    }

take_over : {X : Type 0} (n : ℕ) (xs : List X) → length xs ≤ n → take n xs ≡ xs
take_over zero [] few = refl
take_over zero (x ∷ xs) few = absurd (omega (arith, few))
take_over (suc n) [] few = refl
take_over (suc n) (x ∷ xs) few = ap (λ ys. x ∷ ys) (take_over n xs (omega (arith, few)))

pub all_counted : {T E : Type 0} (count : ℕ) (blocks : List Block) (at : ℕ) (rows : List ℕ) (start end : ℕ) → HasCounted count blocks at rows start end
    → length blocks ≤ at → blocks ≡ bench_blocks → (r : Result T E) → IfOk r (λ text. (tests : List ℕ) × Takes (bench_set count) bench_blocks tests start end)
all_counted count blocks at rows start end so_far over are (Ok text) =
    (so_far.tests, subst (λ bs. Takes (bench_set count) bs so_far.tests start end) (take_over at blocks over ∙ are) so_far.takes)
all_counted count blocks at rows start end so_far over are (Err e) = tt
