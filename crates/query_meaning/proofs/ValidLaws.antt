-- In a valid block a quality is that of the leaf with its number.
use Rattle.std.proofs.Common.{◌≡◌, ℕ, ◌+◌, ◌<◌, List, [], ◌++◌, map, length, get_or, Contains, sym, ap, ◌∙◌, subst, ⊎_elim, arith}
use Rattle.std.specs.List.{flat_map}
use Rattle.std.specs.Prelude.{Any}
use Rattle.std.proofs.lemmas.List.{get_or-map, get_or_default}
use Rattle.std.proofs.lemmas.List.Elements.{All-contains, All-map, All-weaker, Contains-append_cases}
use Rattle.std.proofs.lemmas.List.FromFn.{get_or-range_with_len}
use Rattle.pref_terms.specs.declared.term.Leaf.{Leaf}
use Rattle.conditions.specs.declared.condition.Quality.{Quality}
use Rattle.conditions.specs.declared.condition.Scalar.TheVariants as scalar
use Rattle.conditions.specs.Meaning.{scalars_of}
use Rattle.query_meaning.specs.declared.block.Block.{Block}
use Rattle.query_meaning.specs.declared.block.Output.{Output}
use Rattle.query_meaning.specs.Valid.{AreNumbered, IsOutput, IsOverLeaves, IsQualityOf, IsValidBlock, NumbersTellLeaves, block_leaves, block_scalars}

number_at : (leaves : List Leaf) → AreNumbered leaves → (i : ℕ) (d : Leaf) → i < length leaves → (get_or leaves i d).number ≡ 1 + i
number_at leaves numbered i d small =
    sym (get_or-map (λ (leaf : Leaf). leaf.number) leaves i d 0 small)
    ∙ ap (λ ns. get_or ns i 0) numbered
    ∙ get_or-range_with_len 1 (length leaves) i 0 small

one_number : (leaves : List Leaf) → AreNumbered leaves → (a b : Leaf) → Contains leaves a → Contains leaves b → a.number ≡ b.number → a ≡ b
one_number leaves numbered a b has_a has_b same =
    let i = has_a.0 in
    let j = has_b.0 in
    let first : a.number ≡ 1 + i = ap (λ (leaf : Leaf). leaf.number) (sym has_a.2) ∙ number_at leaves numbered i a has_a.1 in
    let second : b.number ≡ 1 + j = ap (λ (leaf : Leaf). leaf.number) (sym has_b.2) ∙ number_at leaves numbered j b has_b.1 in
    let at : i ≡ j = omega (arith, first, second, same) in
    sym has_a.2 ∙ ap (λ k. get_or leaves k a) at ∙ get_or_default leaves j a b has_b.1 ∙ has_b.2

by_number : (leaves : List Leaf) → AreNumbered leaves → (quality : Quality) (leaf : Leaf) → Any (IsQualityOf quality) leaves → Contains leaves leaf → quality.leaf ≡ leaf.number → IsQualityOf quality leaf
by_number leaves numbered quality leaf of there same =
    subst (IsQualityOf quality)
    (one_number leaves numbered of.1 leaf (of.0, of.2, of.3) there (sym of.4.number ∙ same)) of.4

over_leaves : (block : Block) → IsValidBlock block → (quality : Quality) → Contains (block_scalars block) (scalar.Quality quality) → Any (IsQualityOf quality) (block_leaves block)
over_leaves block valid quality has =
    let leaves = block_leaves block in
    let shown = map (λ (output : Output). output.scalar) block.output in
    let filter = flat_map scalars_of block.filter in
    let only = flat_map scalars_of block.only in
    let named = scalar.Quality quality in
    let in_only : Contains only named → Any (IsQualityOf quality) leaves = All-contains (IsOverLeaves leaves) only named valid.only.scalars in
    let in_filter : Contains filter named → Any (IsQualityOf quality) leaves =
    λ there. (let of = All-contains (IsOverLeaves []) filter named valid.filter.scalars there in absurd (omega (arith, of.2)))
    in
    let in_shown : Contains shown named → Any (IsQualityOf quality) leaves =
    All-contains (IsOverLeaves leaves) shown named
    (All-map (IsOverLeaves leaves) (λ (output : Output). output.scalar) block.output
    (All-weaker (IsOutput leaves) (λ (output : Output). IsOverLeaves leaves output.scalar) (λ output is. is.scalar) block.output valid.output))
    in
    ⊎_elim
    (λ first. ⊎_elim in_shown in_filter (Contains-append_cases shown filter named first))
    in_only
    (Contains-append_cases (shown ++ filter) only named has)

pub numbers_tell_leaves : NumbersTellLeaves
numbers_tell_leaves block quality leaf valid has there same =
    by_number (block_leaves block) valid.numbered quality leaf (over_leaves block valid quality has) there same
