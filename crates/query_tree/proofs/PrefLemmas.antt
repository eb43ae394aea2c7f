-- Preferences by their parts as lists: what it is to be well made, and the places.
use Rattle.std.proofs.Common.{◌≡◌, List, [], map, length, All, refl, sym, ap, ◌∙◌, subst, rules, arith}
use Rattle.std.specs.List.{concat}
use Rattle.std.proofs.lemmas.List.Elements.{All-nil, All-cons, All-head, All-tail}
use mathlib.Core.Former.{Count}
use Rattle.query_tree.specs.declared.preference.BaseTree.{BaseTree}
use Rattle.query_tree.specs.declared.preference.PrefTree.{PrefTree, Base, Pareto, Pareto', Prior, Prior', Dual, Dual', Row_of-PrefTree, end_of-PrefTree, more_of-PrefTree, items-the_row-PrefTree, items_hidden-the_row-PrefTree-0, items_hidden-the_row-PrefTree-1}
use Rattle.query_tree.specs.declared.preference.PrefTree.TheFolds.{the_lemmas}
use Rattle.query_tree.specs.Places.{base_places, pref_places}
use Rattle.query_tree.specs.WellMade.{IsChain, IsPref, ArePrefs, pref_count}

-- the parts of a preference, as it keeps them
abbrev row_of : PrefTree → (n : Count) × Row_of-PrefTree n
row_of (Pareto' _ row) = (_, row)
row_of (Prior' _ row) = (_, row)
row_of (Dual' _ row) = (_, row)
row_of _ = (_, end_of-PrefTree)

count_is : (n : _) (row : Row_of-PrefTree n) → pref_count row ≡ length (items-the_row-PrefTree n row)
count_is n end_of-PrefTree = refl
count_is n (more_of-PrefTree part rest) = let more = count_is _ rest in omega (arith, more)

to_row : (n : _) (row : Row_of-PrefTree n) → All IsPref (items-the_row-PrefTree n row) → ArePrefs row
to_row n end_of-PrefTree all = tt
to_row n (more_of-PrefTree part rest) all = (All-head IsPref part _ all, to_row _ rest (All-tail IsPref part _ all))

of_row : (n : _) (row : Row_of-PrefTree n) → ArePrefs row → All IsPref (items-the_row-PrefTree n row)
of_row n end_of-PrefTree all = All-nil IsPref
of_row n (more_of-PrefTree part rest) all = All-cons IsPref part _ all.0 (of_row _ rest all.1)

pub IsPref-Pareto : (parts : List PrefTree) → IsChain (length parts) → All IsPref parts → IsPref (Pareto parts)
IsPref-Pareto parts chain all =
    let row = row_of (Pareto parts) in
    let same = items_hidden-the_row-PrefTree-0 parts in
    let count : length parts ≡ pref_count row.1 = ap length (sym same) ∙ sym (count_is row.0 row.1) in
    (subst IsChain count chain, to_row row.0 row.1 (subst (All IsPref) (sym same) all))

pub Pareto-IsPref : (parts : List PrefTree) → IsPref (Pareto parts) → IsChain (length parts) × All IsPref parts
Pareto-IsPref parts is =
    let row = row_of (Pareto parts) in
    let same = items_hidden-the_row-PrefTree-0 parts in
    let count : pref_count row.1 ≡ length parts = count_is row.0 row.1 ∙ ap length same in
    (subst IsChain count is.0, subst (All IsPref) same (of_row row.0 row.1 is.1))

pub IsPref-Prior : (parts : List PrefTree) → IsChain (length parts) → All IsPref parts → IsPref (Prior parts)
IsPref-Prior parts chain all =
    let row = row_of (Prior parts) in
    let same = items_hidden-the_row-PrefTree-0 parts in
    let count : length parts ≡ pref_count row.1 = ap length (sym same) ∙ sym (count_is row.0 row.1) in
    (subst IsChain count chain, to_row row.0 row.1 (subst (All IsPref) (sym same) all))

pub Prior-IsPref : (parts : List PrefTree) → IsPref (Prior parts) → IsChain (length parts) × All IsPref parts
Prior-IsPref parts is =
    let row = row_of (Prior parts) in
    let same = items_hidden-the_row-PrefTree-0 parts in
    let count : pref_count row.1 ≡ length parts = count_is row.0 row.1 ∙ ap length same in
    (subst IsChain count is.0, subst (All IsPref) same (of_row row.0 row.1 is.1))

pub IsPref-Dual : (part : PrefTree) → IsPref part → IsPref (Dual part)
IsPref-Dual part is =
    let row = row_of (Dual part) in
    to_row row.0 row.1 (subst (All IsPref) (sym (items_hidden-the_row-PrefTree-1 part)) (All-cons IsPref part [] is (All-nil IsPref)))

pub Dual-IsPref : (part : PrefTree) → IsPref (Dual part) → IsPref part
Dual-IsPref part is =
    let row = row_of (Dual part) in
    All-head IsPref part [] (subst (All IsPref) (items_hidden-the_row-PrefTree-1 part) (of_row row.0 row.1 is))

-- ---- places

pub pref_places-Base : (base : BaseTree) → pref_places (Base base) ≡ base_places base
unfolding pref_places
pref_places-Base base = search (rules, the_lemmas)

pub pref_places-Pareto : (parts : List PrefTree) → pref_places (Pareto parts) ≡ concat (map pref_places parts)
unfolding pref_places
pref_places-Pareto parts = search (rules, the_lemmas)

pub pref_places-Prior : (parts : List PrefTree) → pref_places (Prior parts) ≡ concat (map pref_places parts)
unfolding pref_places
pref_places-Prior parts = search (rules, the_lemmas)

pub pref_places-Dual : (part : PrefTree) → pref_places (Dual part) ≡ pref_places part
unfolding pref_places
pref_places-Dual part = search (rules, the_lemmas)
