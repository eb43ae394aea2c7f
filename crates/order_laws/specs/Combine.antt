-- The constructors of preferences (Pareto and prioritised preference: Kießling, VLDB 2002).
use Rattle.std.specs.Prelude.{Bool, ◌&&◌, ◌||◌}

module _ {X : Type 0} where
  -- better by one part, and better or the same by the other
  abbrev pub pareto_better :
      (X → X → Bool) → (X → X → Bool) → (X → X → Bool) → (X → X → Bool) → X → X → Bool
  pareto_better b s c t x y = (b x y && (c x y || t x y)) || ((b x y || s x y) && c x y)

  -- better by the first part, or the same by it and better by the second
  abbrev pub prior_better : (X → X → Bool) → (X → X → Bool) → (X → X → Bool) → X → X → Bool
  prior_better b s c x y = b x y || (s x y && c x y)
