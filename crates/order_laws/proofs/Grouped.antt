-- Within groups a preference keeps its laws.
use Rattle.std.specs.Prelude.{◌≡◌, Bool, true}
use Rattle.std.specs.Cmp.{IsEquivalence}
use Rattle.std.specs.Ordering.{eq_of_both}
use Rattle.std.specs.declared.cmp.Ordering.{Ordering}
use Rattle.std.proofs.Common.{◌∙◌}
use Rattle.std.proofs.lemmas.Bool.{and_from, and_parts, and_right}
use Rattle.std.proofs.lemmas.Cmp.{and_equiv}
use Rattle.order_laws.specs.Lawful.{IsLawful}

module _ {X : Type 0} {e better same : X → X → Bool} {key_cmp : X → X → Ordering} (joined : IsEquivalence e) (laws : IsLawful better same key_cmp) where
  joined_along : (x y z : X) → e x y ≡ true → e y z ≡ true → e x z ≡ true
  joined_along x y z xy yz = joined.congr x y z xy ∙ yz

  -- within groups, so that only items of one group are better than each other or the same, a preference keeps the laws
  pub grouped_lawful : IsLawful (eq_of_both e better) (eq_of_both e same) key_cmp
  grouped_lawful = record {
    irreflexive = λ x. and_right (e x x) (better x x) (laws.irreflexive x);
    transitive = λ x y z xy yz.
        let p = and_parts _ _ xy in
        let q = and_parts _ _ yz in
        and_from _ _ (joined_along x y z p.0 q.0) (laws.transitive x y z p.1 q.1);
    equivalence = and_equiv joined laws.equivalence;
    same_better = λ x y z xy yz.
        let p = and_parts _ _ xy in
        let q = and_parts _ _ yz in
        and_from _ _ (joined_along x y z p.0 q.0) (laws.same_better x y z p.1 q.1);
    better_same = λ x y z xy yz.
        let p = and_parts _ _ xy in
        let q = and_parts _ _ yz in
        and_from _ _ (joined_along x y z p.0 q.0) (laws.better_same x y z p.1 q.1);
    apart = λ x y xy. and_right (e x y) (same x y) (laws.apart x y ((and_parts _ _ xy).1));
    better_key = λ x y xy. laws.better_key x y ((and_parts _ _ xy).1);
    same_key = λ x y xy. laws.same_key x y ((and_parts _ _ xy).1);
    keys = laws.keys;
  }
