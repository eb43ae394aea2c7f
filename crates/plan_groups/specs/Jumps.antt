-- In which order the leaves of a term are asked, and which are passed over. This is this project's
-- own.
use Rattle.std.specs.Prelude.{◌≡◌, ℕ, ◌+◌, ℤ, Bool, false, List, [], ◌∷◌, ◌++◌, zero, suc, length, map, nat_lt}
use Rattle.std.specs.Prelude.{if◌then◌else◌}
use Rattle.std.specs.Ordering.{is_lt, is_gt}
use Rattle.std.specs.declared.cmp.Ordering.{Ordering}
use Rattle.prefsql_tables.specs.Sight.{Sight}
use Rattle.prefsql_tables.specs.declared.place.Combo.{Combo}
use Rattle.pref_terms.specs.Terms.{keys_of}
use Rattle.pref_terms.specs.declared.bound.BoundTerm.{BoundTerm}
use Rattle.pref_terms.specs.declared.term.Term.{Term, fold-Term}
use Rattle.pref_terms.specs.declared.term.Term.TheOpen.{Term-F}
use Rattle.plan_groups.specs.Groups.{IsRow, seen_at}
use Rattle.plan_groups.specs.Outcomes.{leaf_outcome, standings}
use Rattle.plan_groups.specs.Ranks.{turned_keys}
use Rattle.plan_groups.specs.declared.jumps.Jump.{Jump}
use Rattle.plan_groups.specs.declared.jumps.RankedLeaf.{RankedLeaf}

-- how many leaves a term has, and how many are passed over behind each, where the first one is the
-- leaf at `at`, and behind the term `skip` leaves are passed over where a leaf from `start` on is
-- one by which the row is better
pub record Shape : Type 0 where
  pub width : ℕ
  pub jumps : (at start skip : ℕ) → List Jump

-- behind the first part of two of which it counts more, the other is passed over
abbrev pub shape_step : Term-F Shape → Shape
shape_step (Term-F.Leaf leaf) = record {
  width = 1;
  jumps = λ at start skip. record { start = start; skip = skip } ∷ [];
}
shape_step (Term-F.Pareto p q) = record {
  width = p.width + q.width;
  jumps = λ at start skip. p.jumps at 0 0 ++ q.jumps (at + p.width) start skip;
}
shape_step (Term-F.Prior p q) = record {
  width = p.width + q.width;
  jumps = λ at start skip. p.jumps at at (q.width + skip) ++ q.jumps (at + p.width) start skip;
}
shape_step (Term-F.Dual p) = p

abbrev pub shape_of : Term → Shape
shape_of = fold-Term Shape shape_step

-- whether the first of two rows is better, by how it stands to the second by each leaf from the one
-- at `at` on: `last` is the number, from 1, of the last leaf by which it was better, or 0, and the
-- next `skip` leaves are passed over
abbrev pub is_better_by : (at last skip : ℕ) → List Jump → List Ordering → Bool
is_better_by at last skip [] os = nat_lt 0 last
is_better_by at last skip (jump ∷ jumps) [] = nat_lt 0 last
is_better_by at last (suc skip) (jump ∷ jumps) (o ∷ os) = is_better_by (at + 1) last skip jumps os
is_better_by at last zero (jump ∷ jumps) (o ∷ os) =
    if is_gt o then false
    else (let now = if is_lt o then at + 1 else last in
    is_better_by (at + 1) now (if nat_lt jump.start now then jump.skip else 0) jumps os)

-- how the row at the place `a`, with these keys, stands to that at `b` by each leaf
abbrev pub outcomes : List RankedLeaf → List ℤ → List ℤ → ℕ → ℕ → List Ordering
outcomes [] xs ys a b = []
outcomes (leaf ∷ leaves) [] ys a b = []
outcomes (leaf ∷ leaves) (x ∷ xs) [] a b = []
outcomes (leaf ∷ leaves) (x ∷ xs) (y ∷ ys) a b =
    leaf_outcome leaf.test x y a b ∷ outcomes leaves xs ys a b

abbrev pub jumps_of : List RankedLeaf → List Jump
jumps_of = map (λ (leaf : RankedLeaf). leaf.jump)

-- how two stand by each leaf of the term, or of the term turned round
abbrev pub turned_standings : Bool → Term → Sight → Sight → List Ordering
turned_standings turned term y x = if turned then standings term x y else standings term y x

-- what is kept of the rows tells how they stand by the leaves of the term, or of the term turned
-- round
abbrev pub Tells : BoundTerm → List Combo → Bool → Term → List RankedLeaf → Type 0
Tells bound combos turned term leaves = (a b : ℕ) → IsRow bound combos a → IsRow bound combos b
    → outcomes leaves (turned_keys turned (keys_of term (seen_at bound combos a)))
    (turned_keys turned (keys_of term (seen_at bound combos b))) a b
    ≡ turned_standings turned term (seen_at bound combos a) (seen_at bound combos b)

-- leaves put behind the old ones, which tell how rows stand by the leaves of the term, or of the term
-- turned round
pub record AddsLeaves (bound : BoundTerm) (combos : List Combo) (turned : Bool) (term : Term)
    (start skip : ℕ) (old new : List RankedLeaf) : Type 0 where
  pub added : List RankedLeaf
  pub is : new ≡ old ++ added
  pub jumps_are : jumps_of added ≡ (shape_of term).jumps (length old) start skip
  pub tells : Tells bound combos turned term added
