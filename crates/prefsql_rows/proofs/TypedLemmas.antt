-- Typed queries are valid, and of the tables over which they are typed.
use Rattle.std.proofs.Common.{List, [], ◌∷◌, All}
use Rattle.std.proofs.lemmas.List.Elements.{All-nil, All-cons}
use Rattle.prefsql_tables.specs.Table.{Tables}
use Rattle.query_meaning.specs.BlockFits.{FitsTables}
use Rattle.query_meaning.specs.Valid.{IsValidBlock}
use Rattle.query_meaning.specs.declared.block.Block.{Block}
use Rattle.query_tree.specs.declared.query.QueryTree.{QueryTree}
use Rattle.query_typing.specs.Typing.{AreTyped}

pub typed_valid : (tables : Tables) (trees : List QueryTree) (blocks : List Block)
    → AreTyped tables trees blocks → All IsValidBlock blocks
typed_valid tables [] [] typed = All-nil IsValidBlock
typed_valid tables [] (block ∷ blocks) typed = absurd typed
typed_valid tables (tree ∷ trees) [] typed = absurd typed
typed_valid tables (tree ∷ trees) (block ∷ blocks) typed =
    All-cons IsValidBlock block blocks typed.0.valid (typed_valid tables trees blocks typed.1)

pub typed_fits : (tables : Tables) (trees : List QueryTree) (blocks : List Block)
    → AreTyped tables trees blocks → All (FitsTables tables) blocks
typed_fits tables [] [] typed = All-nil (FitsTables tables)
typed_fits tables [] (block ∷ blocks) typed = absurd typed
typed_fits tables (tree ∷ trees) [] typed = absurd typed
typed_fits tables (tree ∷ trees) (block ∷ blocks) typed =
    All-cons (FitsTables tables) block blocks typed.0.fits (typed_fits tables trees blocks typed.1)
