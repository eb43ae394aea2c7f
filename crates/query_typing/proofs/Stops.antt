-- Behind a fault no obligation of what stands in order is earlier.
use Rattle.std.proofs.Common.{◌≡◌, ℕ, zero, suc, ◌+◌, ◌≤◌, ◌<◌, Bool, true, false, not, eqb, cond, Option, Some, None, List, [], ◌∷◌, ◌++◌, length, get_or, take, drop, map, All, refl, sym, ap, ◌∙◌, subst, ⊎_elim, arith}
use Rattle.std.specs.List.{flat_map, list_any}
use Rattle.std.specs.List.Sorted.{IsNonDecreasing}
use Rattle.std.proofs.lemmas.Bool.{cases_Bool, cond-false, false≢true}
use Rattle.std.proofs.lemmas.Bool.Decides.{nat_tests}
use Rattle.std.proofs.lemmas.List.{drop_more}
use Rattle.std.proofs.lemmas.List.Elements.{All-nil, All-cons, All-append, All-head, All-tail}
use Rattle.prefsql_lexer.specs.declared.fault.Spot.{Spot}
use Rattle.prefsql_values.specs.declared.value.Domain.{Domain}
use Rattle.prefsql_values.specs.declared.value.Value.{Value}
use Rattle.prefsql_tables.specs.Table.{Tables}
use Rattle.base_prefs.specs.declared.edge.Edge.{Edge}
use Rattle.query_tree.specs.Places.{edge_places}
use Rattle.query_tree.specs.declared.name.LiteralTree.{LiteralTree}
use Rattle.query_tree.specs.declared.preference.EdgeTree.{EdgeTree}
use Rattle.query_tree.specs.declared.query.FromTree.{FromTree}
use Rattle.query_meaning.specs.Valid.{value_domain}
use Rattle.query_typing.specs.Columns.{correlation}
use Rattle.query_typing.specs.InOrder.{Ascends, from_places, literal_places, stands_before}
use Rattle.query_typing.specs.Domains.{agree}
use Rattle.query_typing.specs.Obligations.{Obligation, earlier, first_unmet, is_before, owes, spot_of, unmet}
use Rattle.query_typing.specs.Preferences.{edge_obligations, edge_of, edges_obligations, has_cycle, is_seventeenth, member_obligations, members_obligations}
use Rattle.base_prefs.specs.Graph.{ends}
use Rattle.base_prefs.specs.Values.{is_in}
use Rattle.prefsql_tables.specs.Names.{table_place}
use Rattle.std.specs.Prelude.{is_some}
use Rattle.std.specs.Str.{bytes_eq}
use Rattle.query_typing.specs.Statements.{from_obligations, item_obligations}
use Rattle.query_typing.proofs.FirstLaws.{unmet_false, unmet_met}
use Rattle.query_typing.proofs.Firsts.{earlier_assoc}

-- ---- places in order

pub ascends_lower : (low lower : ℕ) (xs : List ℕ) → lower ≤ low → Ascends low xs → Ascends lower xs
ascends_lower low lower [] down up = tt
ascends_lower low lower (x ∷ xs) down up = (omega (arith, up.0), up.1)

pub ascends_left : (low : ℕ) (xs ys : List ℕ) → Ascends low (xs ++ ys) → Ascends low xs
ascends_left low [] ys up = tt
ascends_left low (x ∷ xs) ys up = (up.0, ascends_left x xs ys up.1)

pub ascends_right : (low : ℕ) (xs ys : List ℕ) → Ascends low (xs ++ ys) → Ascends low ys
ascends_right low [] ys up = up
ascends_right low (x ∷ xs) ys up = ascends_lower x low ys up.0 (ascends_right x xs ys up.1)

behind_first : (x : ℕ) (xs : List ℕ) → IsNonDecreasing (x ∷ xs) → Ascends x xs
behind_first x [] sorted = tt
behind_first x (y ∷ ys) sorted =
    (sorted 0 1 0 (omega arith) (omega arith), behind_first y ys (λ i j d order inside. sorted (suc i) (suc j) d (omega (arith, order)) (omega (arith, inside))))

pub sorted_ascends : (xs : List ℕ) → IsNonDecreasing xs → Ascends 0 xs
sorted_ascends [] sorted = tt
sorted_ascends (x ∷ xs) sorted = (omega arith, behind_first x xs sorted)

module _ {A : Type 0} (places : A → List ℕ) where
  pub ascends_drop : (low : ℕ) (xs : List A) (i : ℕ) → Ascends low (flat_map places xs) → Ascends low (flat_map places (drop i xs))
  ascends_drop low xs zero up = up
  ascends_drop low [] (suc i) up = up
  ascends_drop low (x ∷ xs) (suc i) up = ascends_drop low xs i (ascends_right low (places x) (flat_map places xs) up)

literals_drop : (low : ℕ) (ls : List LiteralTree) (i : ℕ) → Ascends low (literal_places ls) → Ascends low (literal_places (drop i ls))
literals_drop low ls zero up = up
literals_drop low [] (suc i) up = up
literals_drop low (l ∷ ls) (suc i) up = literals_drop low ls i (ascends_lower l.at low (literal_places ls) up.0 up.1)

-- ---- obligations that stand at a place or behind it

abbrev StandFrom : ℕ → List Obligation → Type 0
StandFrom low = All (λ (o : Obligation). low ≤ o.at)

abbrev Stands : ℕ → Obligation → Type 0
Stands low o = low ≤ o.at

none_stand : (low : ℕ) → StandFrom low []
none_stand low = All-nil (Stands low)

stand_more : (low code at : ℕ) (met : Bool) (os : List Obligation) → low ≤ at → StandFrom low os → StandFrom low (owes code at met ∷ os)
stand_more low code at met os h all = All-cons (Stands low) (owes code at met) os h all

three_stand : (low a b c k l m : ℕ) (x y z : Bool) → low ≤ a → low ≤ b → low ≤ c → StandFrom low (owes k a x ∷ owes l b y ∷ owes m c z ∷ [])
three_stand low a b c k l m x y z h i j =
    stand_more low k a x (owes l b y ∷ owes m c z ∷ []) h (stand_more low l b y (owes m c z ∷ []) i (stand_more low m c z [] j (none_stand low)))

one_behind : (spot : Spot) (o : Obligation) → spot.at < o.at → earlier (Some spot) (unmet o) ≡ Some spot
one_behind spot o below =
    ⊎_elim
    (λ yes. ap (earlier (Some spot)) (unmet_met o yes))
    (λ nope. ap (earlier (Some spot)) (unmet_false o nope) ∙ ap Some (cond-false (is_before (spot_of o) spot) (spot_of o) spot not_before))
    (cases_Bool o.met)
  where
    not_before : is_before (spot_of o) spot ≡ false
    not_before = grind (arith, nat_tests)

all_behind : (spot : Spot) (at : ℕ) (os : List Obligation) → spot.at < at → StandFrom at os → earlier (Some spot) (first_unmet os) ≡ Some spot
all_behind spot at [] below all = refl
all_behind spot at (o ∷ os) below all =
    sym (earlier_assoc (Some spot) (unmet o) (first_unmet os))
    ∙ ap (λ f. earlier f (first_unmet os)) (one_behind spot o (let here = All-head (λ (o : Obligation). at ≤ o.at) o os all in omega (arith, here)))
    ∙ all_behind spot at os below (All-tail (λ (o : Obligation). at ≤ o.at) o os all)

below_at : (spot : Spot) (at : ℕ) → stands_before (Some spot) at ≡ true → spot.at < at
below_at spot at h = grind (arith, nat_tests)

-- a fault before all of them is the first
behind : (fault : Option Spot) (at : ℕ) (os : List Obligation) → stands_before fault at ≡ true → StandFrom at os → earlier fault (first_unmet os) ≡ fault
behind None at os h all = absurd (false≢true h)
behind (Some spot) at os h all = all_behind spot at os (below_at spot at h) all

-- ---- FROM items

from_stand : (tables : Tables) (names : List (List ℕ)) (low : ℕ) (from : List FromTree) → Ascends low (from_places from) → StandFrom low (from_obligations tables names from)
from_stand tables names low [] up = All-nil (λ (o : Obligation). low ≤ o.at)
from_stand tables names low (item ∷ items) up =
    All-append (λ (o : Obligation). low ≤ o.at) (item_obligations tables names item) (from_obligations tables (names ++ correlation item ∷ []) items)
    (three_stand low item.at item.name_at item.at 301 302 317 (is_some (table_place tables item.table)) (not (list_any (bytes_eq (correlation item)) names)) (not (eqb (length names) 8)) up.0 (omega (arith, up.0, up.1.0)) up.0)
    (from_stand tables (names ++ correlation item ∷ []) low items (ascends_lower item.name_at low (from_places items) (omega (arith, up.0, up.1.0)) up.1.1))

pub from_stops : (tables : Tables) (from : List FromTree) (i : ℕ) (item : FromTree) (fault whole : Option Spot) → i < length from → item ≡ get_or from i item
    → Ascends 0 (from_places from) → stands_before fault item.at ≡ true
    → earlier fault (first_unmet (from_obligations tables (map correlation (take i from)) (drop i from))) ≡ whole → fault ≡ whole
from_stops tables from i item fault whole small is up before so_far =
    let names = map correlation (take i from) in
    let rest : drop i from ≡ item ∷ drop (i + 1) from = drop_more from i item small ∙ ap (λ (x : FromTree). x ∷ drop (i + 1) from) (sym is) in
    let later : Ascends 0 (from_places (item ∷ drop (i + 1) from)) = subst (λ items. Ascends 0 (from_places items)) rest (ascends_drop (λ (x : FromTree). x.at ∷ x.name_at ∷ []) 0 from i up) in
    sym (behind fault item.at (from_obligations tables names (drop i from)) before
    (subst (λ items. StandFrom item.at (from_obligations tables names items)) (sym rest) (from_stand tables names item.at (item ∷ drop (i + 1) from) (omega arith, later.1))))
    ∙ so_far

-- ---- literals of a set

members_stand : (domain : Option Domain) (before : List Value) (n low : ℕ) (literals : List LiteralTree) → Ascends low (literal_places literals) → StandFrom low (members_obligations domain before n literals)
members_stand domain before n low [] up = All-nil (λ (o : Obligation). low ≤ o.at)
members_stand domain before n low (literal ∷ literals) up =
    All-append (λ (o : Obligation). low ≤ o.at) (member_obligations domain before n literal) (members_obligations domain before (n + 1) literals)
    (three_stand low literal.at literal.at literal.at 305 308 319 (agree domain (value_domain literal.value)) (not (is_in before literal.value)) (not (eqb n 256)) up.0 up.0 up.0)
    (members_stand domain before (n + 1) low literals (ascends_lower literal.at low (literal_places literals) up.0 up.1))

pub members_stop : (domain : Option Domain) (before : List Value) (n : ℕ) (literals : List LiteralTree) (i : ℕ) (literal : LiteralTree) (fault whole : Option Spot) → i < length literals → literal ≡ get_or literals i literal
    → Ascends 0 (literal_places literals) → stands_before fault literal.at ≡ true
    → earlier fault (first_unmet (members_obligations domain before n (drop i literals))) ≡ whole → fault ≡ whole
members_stop domain before n literals i literal fault whole small is up stands so_far =
    let rest : drop i literals ≡ literal ∷ drop (i + 1) literals = drop_more literals i literal small ∙ ap (λ (x : LiteralTree). x ∷ drop (i + 1) literals) (sym is) in
    let later : Ascends 0 (literal_places (literal ∷ drop (i + 1) literals)) = subst (λ ls. Ascends 0 (literal_places ls)) rest (literals_drop 0 literals i up) in
    sym (behind fault literal.at (members_obligations domain before n (drop i literals)) stands
    (subst (λ ls. StandFrom literal.at (members_obligations domain before n ls)) (sym rest) (members_stand domain before n literal.at (literal ∷ drop (i + 1) literals) (omega arith, later.1))))
    ∙ so_far

-- ---- pairs

-- what a pair owes at its upper value and at its lower one
abbrev front : Option Domain → List Edge → EdgeTree → List Obligation
front domain before edge =
    owes 305 edge.upper.at (agree domain (value_domain edge.upper.value))
    ∷ owes 309 edge.upper.at (not (has_cycle (before ++ edge_of edge ∷ [])))
    ∷ owes 319 edge.upper.at (not (is_seventeenth (ends before) edge.upper.value)) ∷ []

abbrev back : Option Domain → List Edge → EdgeTree → List Obligation
back domain before edge =
    owes 305 edge.lower.at (agree domain (value_domain edge.lower.value))
    ∷ owes 319 edge.lower.at (not (is_seventeenth (ends before ++ edge.upper.value ∷ []) edge.lower.value)) ∷ []

edges_stand : (domain : Option Domain) (before : List Edge) (low : ℕ) (edges : List EdgeTree) → Ascends low (flat_map edge_places edges) → StandFrom low (edges_obligations domain before edges)
edges_stand domain before low [] up = All-nil (λ (o : Obligation). low ≤ o.at)
edges_stand domain before low (edge ∷ edges) up =
    let second : low ≤ edge.lower.at = omega (arith, up.0, up.1.0) in
    All-append (λ (o : Obligation). low ≤ o.at) (edge_obligations domain before edge) (edges_obligations domain (before ++ edge_of edge ∷ []) edges)
    (All-append (Stands low) (front domain before edge) (back domain before edge)
    (three_stand low edge.upper.at edge.upper.at edge.upper.at 305 309 319 (agree domain (value_domain edge.upper.value)) (not (has_cycle (before ++ edge_of edge ∷ []))) (not (is_seventeenth (ends before) edge.upper.value)) up.0 up.0 up.0)
    (stand_more low 305 edge.lower.at (agree domain (value_domain edge.lower.value)) (owes 319 edge.lower.at (not (is_seventeenth (ends before ++ edge.upper.value ∷ []) edge.lower.value)) ∷ []) second
    (stand_more low 319 edge.lower.at (not (is_seventeenth (ends before ++ edge.upper.value ∷ []) edge.lower.value)) [] second (none_stand low))))
    (edges_stand domain (before ++ edge_of edge ∷ []) low edges (ascends_lower edge.lower.at low (flat_map edge_places edges) second up.1.1))

pub edges_stop : (domain : Option Domain) (before : List Edge) (edges : List EdgeTree) (i : ℕ) (edge : EdgeTree) (fault whole : Option Spot) → i < length edges → edge ≡ get_or edges i edge
    → Ascends 0 (flat_map edge_places edges) → stands_before fault edge.upper.at ≡ true
    → earlier fault (first_unmet (edges_obligations domain before (drop i edges))) ≡ whole → fault ≡ whole
edges_stop domain before edges i edge fault whole small is up stands so_far =
    let rest : drop i edges ≡ edge ∷ drop (i + 1) edges = drop_more edges i edge small ∙ ap (λ (x : EdgeTree). x ∷ drop (i + 1) edges) (sym is) in
    let later : Ascends 0 (flat_map edge_places (edge ∷ drop (i + 1) edges)) = subst (λ es. Ascends 0 (flat_map edge_places es)) rest (ascends_drop edge_places 0 edges i up) in
    sym (behind fault edge.upper.at (edges_obligations domain before (drop i edges)) stands
    (subst (λ es. StandFrom edge.upper.at (edges_obligations domain before es)) (sym rest) (edges_stand domain before edge.upper.at (edge ∷ drop (i + 1) edges) (omega arith, later.1))))
    ∙ so_far
