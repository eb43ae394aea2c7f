-- Marks of places, one place more at a time.
use Rattle.std.proofs.Common.{◌≡◌, ◌≢◌, ℕ, zero, suc, ◌<◌, Bool, false, List, length, map, get_or, ◌⊎◌, refl, ap, inl, inr, ⊎_elim, arith}
use Rattle.std.specs.List.{range_with_len}
use Rattle.std.proofs.lemmas.List.FromFn.{fill_by_all}
use Rattle.plan_groups.specs.Marks.{is_one_of}

-- below a number the marks are those of the places
pub record AreMarks (count : ℕ) (places : List ℕ) (marks : List Bool) : Type 0 where
  pub as_many : length marks ≡ count
  pub each : (k : ℕ) → k < count → get_or marks k false ≡ is_one_of places k

same_place : (k p : ℕ) → (k ≡ p) ⊎ (k ≢ p)
same_place zero zero = inl refl
same_place zero (suc p) = inr (λ h. absurd (omega arith))
same_place (suc k) zero = inr (λ h. absurd (omega arith))
same_place (suc k) (suc p) = ⊎_elim (λ e. inl (ap suc e)) (λ ne. inr (λ h. ne (omega arith))) (same_place k p)

pub marks_all : (count : ℕ) (places : List ℕ) (marks : List Bool) → AreMarks count places marks → marks ≡ map (is_one_of places) (range_with_len 0 count)
marks_all count places marks are = fill_by_all (is_one_of places) marks count false are.as_many are.each
