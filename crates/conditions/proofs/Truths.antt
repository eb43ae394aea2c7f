-- Three-valued truth of lists, item by item.
use Rattle.std.proofs.Common.{◌≡◌, refl}
use Rattle.prefsql_values.specs.declared.truth.Truth.{Truth}
use Rattle.prefsql_values.specs.declared.truth.Truth.TheVariants.{False, Unknown, True}
use Rattle.prefsql_values.specs.Truth.{both_true, either_true}

pub both_both : (a b c : Truth) → both_true a (both_true b c) ≡ both_true (both_true a b) c
both_both False b c = refl
both_both True b c = refl
both_both Unknown False c = refl
both_both Unknown True c = refl
both_both Unknown Unknown False = refl
both_both Unknown Unknown Unknown = refl
both_both Unknown Unknown True = refl

pub both_True : (a : Truth) → both_true a True ≡ a
both_True False = refl
both_True Unknown = refl
both_True True = refl

pub either_either : (a b c : Truth) → either_true a (either_true b c) ≡ either_true (either_true a b) c
either_either True b c = refl
either_either False b c = refl
either_either Unknown True c = refl
either_either Unknown False c = refl
either_either Unknown Unknown True = refl
either_either Unknown Unknown Unknown = refl
either_either Unknown Unknown False = refl

pub either_False : (a : Truth) → either_true a False ≡ a
either_False True = refl
either_False Unknown = refl
either_False False = refl

pub ruleset truths = (both_both, both_True, either_either, either_False)
