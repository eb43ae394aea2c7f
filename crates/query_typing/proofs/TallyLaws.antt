-- How many leaves have a quality, with one leaf more, and what that tells.
use Rattle.std.proofs.Common.{◌≡◌, ℕ, ◌+◌, ◌<◌, Bool, true, false, not, cond, ltb, eqb, ◌&&◌, Option, Some, None, List, [], ◌∷◌, ◌++◌, sym, ap, ◌∙◌, ⊎_elim, arith}
use Rattle.std.proofs.lemmas.Bool.{cases_Bool, cond-true, cond-false}
use Rattle.std.proofs.lemmas.Bool.Decides.{nat_tests}
use Rattle.prefsql_lexer.specs.declared.fault.Spot.{Spot}
use Rattle.prefsql_tables.specs.declared.place.ColumnPlace.{ColumnPlace}
use Rattle.query_typing.specs.Leaves.{has_wanted, is_wanted, stands_on, wanted_count}
use Rattle.query_typing.specs.Obligations.{earlier, owes, unmet}
use Rattle.query_typing.specs.Tallies.{tally, tally_fault, tally_in, tally_more, tally_of, tally_with}
use Rattle.query_typing.specs.declared.quality.LeafSite.{LeafSite}
use Rattle.query_typing.specs.declared.quality.Wanted.{Wanted}
use Rattle.query_typing.specs.declared.tally.Tally.TheVariants.{Nothing, One, Several}
use Rattle.query_typing.specs.declared.tally.QualityTally.{QualityTally}
use Rattle.query_typing.specs.Columns.{place_eq}
use Rattle.query_typing.proofs.NameLaws.{count_push}
use Rattle.query_typing.proofs.OutputReads.{place_same}

tally_none : (n : ℕ) → eqb n 0 ≡ true → tally n ≡ Nothing
tally_none n h = cond-true (eqb n 0) Nothing (cond (eqb n 1) One Several) h

tally_one : (n : ℕ) → n ≡ 1 → tally n ≡ One
tally_one n h = cond-false (eqb n 0) Nothing (cond (eqb n 1) One Several) (grind (arith, nat_tests)) ∙ cond-true (eqb n 1) One Several (grind (arith, nat_tests))

tally_many : (n : ℕ) → 1 < n → tally n ≡ Several
tally_many n h = cond-false (eqb n 0) Nothing (cond (eqb n 1) One Several) (grind (arith, nat_tests)) ∙ cond-false (eqb n 1) One Several (grind (arith, nat_tests))

tally_suc : (n : ℕ) → tally (n + 1) ≡ tally_more (tally n)
tally_suc n =
    ⊎_elim
    (λ none. tally_one (n + 1) (grind (arith, nat_tests)) ∙ ap tally_more (sym (tally_none n none)))
    (λ some.
    ⊎_elim
    (λ one. tally_many (n + 1) (grind (arith, nat_tests)) ∙ ap tally_more (sym (tally_one n (grind (arith, nat_tests)))))
    (λ many. tally_many (n + 1) (grind (arith, nat_tests)) ∙ ap tally_more (sym (tally_many n (grind (arith, nat_tests)))))
    (cases_Bool (eqb n 1)))
    (cases_Bool (eqb n 0))

tally_by : (n : ℕ) (more : Bool) → tally (n + cond more 1 0) ≡ tally_with more (tally n)
tally_by n true = tally_suc n
tally_by n false = ap tally (let same : n + 0 ≡ n = omega arith in same)

-- one leaf more
pub count_more : (wanted : Wanted) (place : ColumnPlace) (leaves : List LeafSite) (leaf : LeafSite) → tally (wanted_count wanted place (leaves ++ leaf ∷ [])) ≡ tally_with (is_wanted wanted place leaf) (tally (wanted_count wanted place leaves))
count_more wanted place leaves leaf = ap tally (count_push (is_wanted wanted place) leaves leaf) ∙ tally_by (wanted_count wanted place leaves) (is_wanted wanted place leaf)

-- what so many leaves tell
pub tally_told : (n at : ℕ) → tally_fault (tally n) at ≡ earlier (unmet (owes 312 at (not (eqb n 0)))) (earlier (unmet (owes 313 at (ltb n 2))) None)
tally_told n at =
    let whole : Bool → Bool → Option Spot = λ none few. earlier (unmet (owes 312 at (not none))) (earlier (unmet (owes 313 at few)) None) in
    ⊎_elim
    (λ none.
    let few : ltb n 2 ≡ true = grind (arith, nat_tests) in
    ap (λ t. tally_fault t at) (tally_none n none) ∙ sym (λ i. whole (none i) (few i)))
    (λ some.
    ⊎_elim
    (λ one.
    let few : ltb n 2 ≡ true = grind (arith, nat_tests) in
    ap (λ t. tally_fault t at) (tally_one n (grind (arith, nat_tests))) ∙ sym (λ i. whole (some i) (few i)))
    (λ many.
    let few : ltb n 2 ≡ false = grind (arith, nat_tests) in
    ap (λ t. tally_fault t at) (tally_many n (grind (arith, nat_tests))) ∙ sym (λ i. whole (some i) (few i)))
    (cases_Bool (eqb n 1)))
    (cases_Bool (eqb n 0))

-- ---- column by column

wanted_of : (wanted : Wanted) (place : ColumnPlace) (leaf : LeafSite) (own : Option ColumnPlace) → leaf.place ≡ own → is_wanted wanted place leaf ≡ (stands_on place own && has_wanted wanted leaf)
wanted_of wanted place leaf own is = ap (λ p. stands_on place p && has_wanted wanted leaf) is

pub none_more : (leaves : List LeafSite) (leaf : LeafSite) → leaf.place ≡ None → (wanted : Wanted) (place : ColumnPlace) → tally (wanted_count wanted place leaves) ≡ tally (wanted_count wanted place (leaves ++ leaf ∷ []))
none_more leaves leaf is wanted place =
    sym (count_more wanted place leaves leaf ∙ ap (λ b. tally_with b (tally (wanted_count wanted place leaves))) (wanted_of wanted place leaf None is))

pub leaf_more : (before after : ColumnPlace → Option QualityTally) (leaves : List LeafSite) (leaf : LeafSite) (other : ColumnPlace) (more : QualityTally)
    → ((wanted : Wanted) (place : ColumnPlace) → tally_in wanted (before place) ≡ tally (wanted_count wanted place leaves))
    → leaf.place ≡ Some other
    → ((wanted : Wanted) → tally_of wanted more ≡ tally_with (has_wanted wanted leaf) (tally_in wanted (before other)))
    → ((place : ColumnPlace) → after place ≡ cond (place_eq other place) (Some more) (before place))
    → (wanted : Wanted) (place : ColumnPlace) → tally_in wanted (after place) ≡ tally (wanted_count wanted place (leaves ++ leaf ∷ []))
leaf_more before after leaves leaf other more is stands told put wanted place =
    let known = tally (wanted_count wanted place leaves) in
    ap (tally_in wanted) (put place)
    ∙ ⊎_elim
    (λ yes.
    ap (tally_in wanted) (cond-true (place_eq other place) (Some more) (before place) yes)
    ∙ told wanted
    ∙ ap (λ t. tally_with (has_wanted wanted leaf) t) (ap (λ p. tally_in wanted (before p)) (place_same other place yes) ∙ is wanted place)
    ∙ ap (λ b. tally_with b known) (sym (wanted_of wanted place leaf (Some other) stands ∙ ap (λ b. b && has_wanted wanted leaf) yes)))
    (λ nope.
    ap (tally_in wanted) (cond-false (place_eq other place) (Some more) (before place) nope)
    ∙ is wanted place
    ∙ ap (λ b. tally_with b known) (sym (wanted_of wanted place leaf (Some other) stands ∙ ap (λ b. b && has_wanted wanted leaf) nope)))
    (cases_Bool (place_eq other place))
    ∙ sym (count_more wanted place leaves leaf)
