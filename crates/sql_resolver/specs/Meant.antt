-- What a name means that may stand for several things.
use Rattle.std.specs.Prelude.{List, [], ◌∷◌, Option, Some, None}
use Rattle.sql_resolver.specs.declared.meaning.Meaning.{Meaning}
use Rattle.sql_resolver.specs.declared.meaning.Meaning.TheVariants.{One, Several}

-- by all that it can mean
abbrev pub meaning : {A : Type 0} → List A → Option (Meaning A)
meaning [] = None
meaning (thing ∷ []) = Some (One thing)
meaning (thing ∷ other ∷ more) = Some Several

-- the same, with one thing more
abbrev pub one_more : {A : Type 0} → Option (Meaning A) → A → Meaning A
one_more None thing = One thing
one_more (Some known) thing = Several

-- the same, with another thing in the place of each
abbrev pub another : {A B : Type 0} → (A → B) → Meaning A → Meaning B
another f (One thing) = One (f thing)
another f Several = Several
