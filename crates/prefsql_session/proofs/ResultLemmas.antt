-- Errors of results.
use Rattle.std.proofs.Common.{◌≡◌, ◌∙◌, Result, Err, sym}

-- a result has one error
pub err_same : {T E : Type 0} (r : Result T E) (one other : E) → r ≡ Err one → r ≡ Err other → one ≡ other
err_same r one other p q = let e : Err one ≡ Err other = sym p ∙ q in cc
