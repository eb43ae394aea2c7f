-- The fields of a record by their places.
use Rattle.std.proofs.Common.{◌≡◌, ℕ, zero, suc, ◌+◌, ◌<◌, List, [], ◌∷◌, length, drop, Some, None, refl, arith, add-one}
use Rattle.csv.specs.Records.{field_at}

pub drop_field : (fields : List (List ℕ)) (i : ℕ) (field : List ℕ) → field_at fields i ≡ Some field → (drop i fields ≡ field ∷ drop (i + 1) fields) × (i < length fields)
unfolding field_at
drop_field [] i field is = absurd (cc)
drop_field (first ∷ fields) zero field is = let same : first ≡ field = cc in (rw same refl, omega arith)
drop_field (first ∷ fields) (suc i) field is =
    let more = drop_field fields i field is in
    (rw (add-one (suc i)) (rw (add-one i) at more.0), omega (arith, more.1))

pub drop_past : (fields : List (List ℕ)) (i : ℕ) → field_at fields i ≡ None → drop i fields ≡ []
unfolding field_at
drop_past [] zero is = refl
drop_past [] (suc i) is = refl
drop_past (first ∷ fields) zero is = absurd (cc)
drop_past (first ∷ fields) (suc i) is = drop_past fields i is
