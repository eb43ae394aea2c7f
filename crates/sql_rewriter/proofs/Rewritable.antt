-- What a block that can be written has for the code that writes it.
use Rattle.std.proofs.Common.{◌≡◌, ◌∙◌, ◌≤◌, Option, Some, None, List, [], length, All, sym, ap, subst}
use Rattle.std.specs.List.{flat_map}
use Rattle.std.specs.Prelude.{IfOk, Result}
use Rattle.sql_tree.specs.Meaning.{answer_of}
use Rattle.sql_tree.specs.WellFormed.{IsValid}
use Rattle.sql_tree.specs.declared.tree.SqlQuery.{SqlQuery}
use Rattle.written_query_meaning.specs.Meaning.{MeansAnswer}
use Rattle.sql_rewriter.specs.Meant.{HasAnswerOf}
use Rattle.sql_rewriter.proofs.Views.{ok_weaker}
use Rattle.std.proofs.lemmas.List.Elements.{All-weaker}
use Rattle.pref_terms.specs.declared.term.Leaf.{Leaf}
use Rattle.pref_terms.specs.declared.term.Term.{Term}
use Rattle.pref_terms.specs.Parts.{leaves_left}
use Rattle.pref_terms.specs.Terms.{leaves_of}
use Rattle.conditions.specs.declared.condition.Scalar.{Scalar}
use Rattle.conditions.specs.declared.condition.Scalar.TheVariants as scalar
use Rattle.conditions.specs.Meaning.{scalars_of}
use Rattle.query_meaning.specs.declared.block.Block.{Block}
use Rattle.query_meaning.specs.declared.block.FromTable.{FromTable}
use Rattle.query_meaning.specs.declared.block.Output.{Output}
use Rattle.rewritten_query.specs.Rewriting.{best_query, plain_query, rewritten, rewritten_by}
use Rattle.sql_rewriter.specs.Shown.{HasLiteral}
use Rattle.sql_rewriter.proofs.UsedPlaces.{used_few}
use Rattle.query_meaning.specs.Valid.{IsFromTable, IsOutput, IsOverLeaves, IsValidBlock, block_leaves}

kept_literal : (leaves : List Leaf) (s : Scalar) → IsOverLeaves leaves s → HasLiteral s
kept_literal leaves (scalar.Column place) kept = tt
kept_literal leaves (scalar.Literal value) kept = kept
kept_literal leaves (scalar.Quality quality) kept = tt

pub filter_literals : (block : Block) → IsValidBlock block → All HasLiteral (flat_map scalars_of block.filter)
filter_literals block is = All-weaker (IsOverLeaves []) HasLiteral (kept_literal []) (flat_map scalars_of block.filter) is.filter.scalars

pub only_literals : (block : Block) → IsValidBlock block → All HasLiteral (flat_map scalars_of block.only)
only_literals block is = All-weaker (IsOverLeaves (block_leaves block)) HasLiteral (kept_literal (block_leaves block)) (flat_map scalars_of block.only) is.only.scalars

pub output_literals : (block : Block) → IsValidBlock block → All (λ (output : Output). HasLiteral output.scalar) block.output
output_literals block is =
    All-weaker (IsOutput (block_leaves block)) (λ (output : Output). HasLiteral output.scalar)
    (λ output kept. kept_literal (block_leaves block) output.scalar kept.scalar) block.output is.output

pub few_leaves : (block : Block) (term : Term) → IsValidBlock block → block.term ≡ Some term → length (leaves_of term) ≤ 8
few_leaves block term is some = subst (λ (o : Option Term). length (leaves_left o) ≤ 8) some is.few_leaves

pub few_columns : (block : Block) → IsValidBlock block → All (λ (table : FromTable). length table.schema.columns ≤ 64) block.from
few_columns block is =
    All-weaker IsFromTable (λ (table : FromTable). length table.schema.columns ≤ 64) (λ table valid. valid.schema.few) block.from is.from

pub plain_is : (block : Block) → block.term ≡ None → plain_query block ≡ rewritten block
unfolding rewritten
plain_is block none = ap (λ o. rewritten_by o block) (sym none)

pub best_is : (block : Block) (term : Term) → block.term ≡ Some term → best_query block term ≡ rewritten block
unfolding rewritten
best_is block term some = ap (λ o. rewritten_by o block) (sym some)

pub ruleset rewritable = (filter_literals, only_literals, output_literals, few_leaves, few_columns, plain_is, best_is, used_few)

-- what is written has the block's answer
pub has_answer : {E : Type 0} (block : Block) (written : Result SqlQuery E) → MeansAnswer block → IfOk written (λ query. query ≡ rewritten block) → IfOk written (HasAnswerOf block)
has_answer block written means is =
    ok_weaker (λ query. query ≡ rewritten block) (HasAnswerOf block) written
    (λ query same tables valid fits. ap (answer_of tables) same ∙ means tables valid fits) is

-- and is valid, as the described query is
pub is_valid : {E : Type 0} (block : Block) (written : Result SqlQuery E) → IsValid (rewritten block) → IfOk written (λ query. query ≡ rewritten block) → IfOk written IsValid
is_valid block written valid is =
    ok_weaker (λ query. query ≡ rewritten block) IsValid written (λ query same. subst IsValid (sym same) valid) is

pub ruleset of_written = (has_answer, is_valid)
