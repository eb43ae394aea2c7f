-- Tables whose rows stand at other places give one answer.
use Rattle.std.proofs.Common.{◌≡◌, Option, Some, None, List, [], ◌∷◌, map, filter, sym, ◌∙◌}
use Rattle.std.specs.List.Sorted.{IsPermutation}
use Rattle.std.specs.Ordering.{on}
use Rattle.std.proofs.lemmas.List.Sorted.{IsPermutation-map}
use Rattle.prefsql_tables.specs.Arrangement.{arranged}
use Rattle.prefsql_tables.specs.Product.{product}
use Rattle.prefsql_tables.specs.Table.{Tables}
use Rattle.prefsql_tables.specs.declared.place.ColumnPlace.{ColumnPlace}
use Rattle.prefsql_tables.specs.declared.table.AnswerRow.{AnswerRow}
use Rattle.pref_terms.specs.declared.term.Term.{Term}
use Rattle.pref_terms.specs.Terms.{grouped_order}
use Rattle.query_meaning.specs.declared.block.Block.{Block}
use Rattle.query_meaning.specs.declared.block.FromTable.{FromTable}
use Rattle.query_meaning.specs.declared.block.Output.{Output}
use Rattle.query_meaning.specs.Answers.{answer_of, output_row, passes}
use Rattle.query_meaning.specs.BlockFits.{HasPlaces}
use Rattle.reordered_tables.specs.Reordered.{AreReordered, HasOneAnswer}
use Rattle.reordered_tables.proofs.ByRows.{Rows, best_of, outputs, outputs_are, shown_by, sources}
use Rattle.reordered_tables.proofs.Permutations.{EachMoved, arranged_moved, best_moved, filter_moved, product_moved}

sources_moved : (tables others : Tables) → AreReordered tables others → (from : List FromTable) → EachMoved (sources tables from) (sources others from)
sources_moved tables others are [] = tt
sources_moved tables others are (table ∷ from) = (are.rows table.index, sources_moved tables others are from)

pub best_of_moved : (block : Block) (term : Option Term) (groups : List ColumnPlace) (xs ys : List Rows) → IsPermutation xs ys → IsPermutation (best_of block term groups xs) (best_of block term groups ys)
best_of_moved block None groups xs ys moved = moved
best_of_moved block (Some term) groups xs ys moved = best_moved (on shown_by ((grouped_order groups term).better)) xs ys moved

-- what all choices of rows show, where the rows stand at other places
pub outputs_moved : (block : Block) (xss yss : List (List AnswerRow)) → EachMoved xss yss → IsPermutation (outputs block xss) (outputs block yss)
outputs_moved block xss yss moved =
    let found : List (List AnswerRow) → List Rows = λ lists. filter (λ rows. passes block.filter (shown_by rows)) (product lists) in
    let best : List (List AnswerRow) → List Rows = λ lists. best_of block block.term block.groups (found lists) in
    let kept : List (List AnswerRow) → List Rows = λ lists. filter (λ rows. passes block.only (shown_by rows)) (best lists) in
    IsPermutation-map (λ rows. output_row block (shown_by rows)) (kept xss) (kept yss)
    (filter_moved (λ rows. passes block.only (shown_by rows)) (best xss) (best yss)
    (best_of_moved block block.term block.groups (found xss) (found yss)
    (filter_moved (λ rows. passes block.filter (shown_by rows)) (product xss) (product yss) (product_moved xss yss moved))))

pub answer_is : (tables : Tables) (block : Block) → HasPlaces block → answer_of tables block ≡ record { names = map (λ (output : Output). output.name) block.output; rows = arranged block.distinct block.order (outputs block (sources tables block.from)) }
unfolding answer_of
answer_is tables block places = λ j. record { names = map (λ (output : Output). output.name) block.output; rows = arranged block.distinct block.order (outputs_are tables block places j) }

pub one_answer : HasOneAnswer
one_answer block tables others places are =
    answer_is others block places
    ∙ sym (λ j. record { names = map (λ (output : Output). output.name) block.output; rows = arranged_moved block.distinct block.order (outputs block (sources tables block.from)) (outputs block (sources others block.from)) (outputs_moved block (sources tables block.from) (sources others block.from) (sources_moved tables others are block.from)) j })
    ∙ sym (answer_is tables block places)

-- an answer is told by the rows of the FROM tables
pub answer_by_sources : (block : Block) (tables others : Tables) → HasPlaces block → sources tables block.from ≡ sources others block.from → answer_of tables block ≡ answer_of others block
answer_by_sources block tables others places same =
    answer_is tables block places
    ∙ (λ j. record { names = map (λ (output : Output). output.name) block.output; rows = arranged block.distinct block.order (outputs block (same j)) })
    ∙ sym (answer_is others block places)
