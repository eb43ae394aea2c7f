-- What answers queries can be counted.
use Rattle.std.proofs.Common.{◌≡◌, ℕ, List, [], ◌∷◌, All, refl, sym, subst, lit<, arith}
use Rattle.std.proofs.lemmas.List.Elements.{All-nil, All-cons, All-head, All-tail}
use Rattle.native_plan.proofs.SomeCount.{floor_bound}
use Rattle.plan_laws.proofs.ValidPlans.{block_valid}
use Rattle.plan_stages.specs.Stages.{block_plan}
use Rattle.prefsql_bench.proofs.BlockLemmas.{blocks_valid}
use Rattle.prefsql_bench.specs.BenchTable.{bench_set}
use Rattle.prefsql_bench.specs.Statements.{bench_blocks, first_block, from_bench, second_block, third_block}
use Rattle.prefsql_tables.specs.Table.{Tables}
use Rattle.query_meaning.specs.BlockFits.{IsTableOf}
use Rattle.query_meaning.specs.Valid.{IsValidBlock}
use Rattle.query_meaning.specs.declared.block.Block.{Block}
use Rattle.query_meaning.specs.declared.block.FromTable.{FromTable}
use Rattle.prefsql_session.specs.Counts.{AreTestCounts, IsTestCount, tests_of}
use Rattle.prefsql_session.specs.Run.{HasCounts}
use Rattle.prefsql_session.specs.Texts.{AreAnswerable, IsAnswerable}
use Rattle.prefsql_session.specs.declared.command.Wish.{Wish}
use Rattle.prefsql_session.specs.declared.command.Wish.TheVariants.{Answer, Show}
use Rattle.prefsql_session.specs.declared.work.Work.TheVariants.{Bench, Statements}

-- a query may take as many tests as its plan may take at most
count_there : (tables : Tables) (block : Block) → IsAnswerable tables block → IsTestCount tables block (tests_of tables block).bound
count_there tables block can =
    let fine = floor_bound tables block can.valid.places can.fits (block_plan block) (block_valid block can.valid) in
    record { least = omega (arith, fine); most = omega arith }

counts_there : (tables : Tables) (blocks : List Block) → AreAnswerable tables blocks → (tests : List ℕ) × AreTestCounts tables blocks tests
counts_there tables [] can = ([], tt)
counts_there tables (block ∷ blocks) can =
    let rest = counts_there tables blocks (All-tail (IsAnswerable tables) block blocks can) in
    ((tests_of tables block).bound ∷ rest.0, (count_there tables block (All-head (IsAnswerable tables) block blocks can), rest.1))

pub statements_counted : (wish : Wish) (tables : Tables) (blocks : List Block) → AreAnswerable tables blocks → HasCounts (Statements wish tables blocks)
statements_counted (Answer tells) tables blocks can = counts_there tables blocks can
statements_counted (Show shown) tables blocks can = tt

-- ---- the bench

bench_answerable : (count : ℕ) (block : Block) → block.from ≡ from_bench ∷ [] → IsValidBlock block → IsAnswerable (bench_set count) block
bench_answerable count block from valid =
    let OfBench : FromTable → Type 0 = IsTableOf (bench_set count) in
    record { valid = valid; fits = subst (All OfBench) (sym from) (All-cons OfBench from_bench [] (record { there = lit< tt; name = refl; columns = refl }) (All-nil OfBench)) }

pub bench_counted : (count : ℕ) → HasCounts (Bench count)
bench_counted count =
    let Can : Block → Type 0 = IsAnswerable (bench_set count) in
    let later = All-tail IsValidBlock first_block (second_block ∷ third_block ∷ []) blocks_valid in
    counts_there (bench_set count) bench_blocks
    (All-cons Can first_block (second_block ∷ third_block ∷ []) (bench_answerable count first_block refl (All-head IsValidBlock first_block (second_block ∷ third_block ∷ []) blocks_valid))
    (All-cons Can second_block (third_block ∷ []) (bench_answerable count second_block refl (All-head IsValidBlock second_block (third_block ∷ []) later))
    (All-cons Can third_block [] (bench_answerable count third_block refl (All-head IsValidBlock third_block [] (All-tail IsValidBlock second_block (third_block ∷ []) later))) (All-nil Can))))
