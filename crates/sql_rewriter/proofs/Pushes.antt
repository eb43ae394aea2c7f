-- Lists that are written one item after another.
use Rattle.std.proofs.Common.{◌≡◌, ℕ, ◌+◌, ◌<◌, List, [], ◌∷◌, ◌++◌, length, get_or, drop, sym, ap, ◌∙◌, append_assoc, append-nil}
use Rattle.std.specs.List.{flat_map}
use Rattle.std.proofs.lemmas.Grind.{flat_map-append}
use Rattle.std.proofs.lemmas.List.{drop_more}
use Rattle.prefsql_tables.specs.declared.place.ColumnPlace.{ColumnPlace}
use Rattle.pref_terms.specs.declared.term.Leaf.{Leaf}
use Rattle.pref_terms.specs.declared.term.Term.{Term, Pareto, Prior, Dual}
use Rattle.pref_terms.specs.declared.term.Term as term
use Rattle.pref_terms.specs.Equations.{leaves_of-Leaf, leaves_of-Pareto, leaves_of-Prior, leaves_of-Dual}
use Rattle.pref_terms.specs.Terms.{leaves_of}
use Rattle.sql_tree.specs.declared.tree.SqlItem.{SqlItem}
use Rattle.rewritten_query.specs.Columns.{leaf_items, used_items}
use Rattle.rewritten_query.specs.Names.{column_name, of_tables}
use Rattle.query_meaning.specs.declared.block.FromTable.{FromTable}
use Rattle.sql_tree.specs.declared.tree.SqlFrom.{SqlFrom}
use Rattle.rewritten_query.specs.Rewriting.{table_item, table_items}

pub items_pushed : (from : List FromTable) (i : ℕ) (table : FromTable) (items new whole : List SqlFrom) (n next : ℕ) → i < length from → table ≡ get_or from i table → next ≡ n + 1
    → new ≡ items ++ table_item n table ∷ [] → items ++ table_items n (drop i from) ≡ whole → new ++ table_items next (drop (i + 1) from) ≡ whole
items_pushed from i table items new whole n next small at next_is pushed so_far =
    let rest = table_items (n + 1) (drop (i + 1) from) in
    (λ j. pushed j ++ table_items (next_is j) (drop (i + 1) from))
    ∙ append_assoc items (table_item n table ∷ []) rest
    ∙ (λ j. items ++ table_item n (at j) ∷ rest)
    ∙ ap (λ tables. items ++ table_items n tables) (sym (drop_more from i table small))
    ∙ so_far

pub used_pushed : (places : List ColumnPlace) (i : ℕ) (place : ColumnPlace) (items new whole : List SqlItem) (n next : ℕ) → i < length places → place ≡ get_or places i place → next ≡ n + 1
    → new ≡ items ++ record { value = of_tables place; name = column_name n } ∷ [] → items ++ used_items n (drop i places) ≡ whole → new ++ used_items next (drop (i + 1) places) ≡ whole
used_pushed places i place items new whole n next small at next_is pushed so_far =
    let rest = used_items (n + 1) (drop (i + 1) places) in
    let item : ColumnPlace → SqlItem = λ p. record { value = of_tables p; name = column_name n } in
    (λ j. pushed j ++ used_items (next_is j) (drop (i + 1) places))
    ∙ append_assoc items (item place ∷ []) rest
    ∙ (λ j. items ++ item (at j) ∷ rest)
    ∙ ap (λ ps. items ++ used_items n ps) (sym (drop_more places i place small))
    ∙ so_far

pub items-Leaf : (t : Term) (leaf : Leaf) → t ≡ term.Leaf leaf → flat_map leaf_items (leaves_of t) ≡ leaf_items leaf
items-Leaf t leaf is = ap (flat_map leaf_items) (ap leaves_of is ∙ leaves_of-Leaf leaf) ∙ append-nil (leaf_items leaf)

pub items-Pareto : (t p q : Term) → t ≡ Pareto p q → flat_map leaf_items (leaves_of t) ≡ flat_map leaf_items (leaves_of p) ++ flat_map leaf_items (leaves_of q)
items-Pareto t p q is = ap (flat_map leaf_items) (ap leaves_of is ∙ leaves_of-Pareto p q) ∙ flat_map-append leaf_items (leaves_of p) (leaves_of q)

pub items-Prior : (t p q : Term) → t ≡ Prior p q → flat_map leaf_items (leaves_of t) ≡ flat_map leaf_items (leaves_of p) ++ flat_map leaf_items (leaves_of q)
items-Prior t p q is = ap (flat_map leaf_items) (ap leaves_of is ∙ leaves_of-Prior p q) ∙ flat_map-append leaf_items (leaves_of p) (leaves_of q)

pub items-Dual : (t p : Term) → t ≡ Dual p → flat_map leaf_items (leaves_of t) ≡ flat_map leaf_items (leaves_of p)
items-Dual t p is = ap (flat_map leaf_items) (ap leaves_of is ∙ leaves_of-Dual p)

pub ruleset leaf_pushes = (items-Leaf, items-Pareto, items-Prior, items-Dual, append_assoc, append-nil)
