-- The marks of the items gone through: true at the places of those that pass.
use Rattle.std.proofs.Common.{◌≡◌, ◌≢◌, ℕ, zero, suc, ◌<◌, Bool, true, false, List, [], ◌∷◌, ◌++◌, length, map, get_or, set, ◌⊎◌, Option, Some, refl, sym, ap, ◌∙◌, inl, inr, ⊎_elim, arith, replicate, length-set}
use Rattle.std.specs.List.{slice_get}
use Rattle.std.proofs.lemmas.Bool.{false≢true}
use Rattle.std.proofs.lemmas.List.{ext_get_or, get_or-set_same, get_or-set_other, get_or-map, length-map, length-replicate}
use Rattle.std.proofs.lemmas.Option.{get_or_from_slice_get}
use Rattle.order_laws.proofs.Members.{Among, among_either}
use Rattle.order_laws.proofs.BestLaws.{same_tests}
use Rattle.window_eval.proofs.PlaceItems.{slice_get_within}
use Rattle.window_eval.proofs.Keeping.{one}

pub record IsMarked {X : Type 0} (test : X → Bool) (xs : List X) (done : List ℕ) (marks : List Bool) : Type 0 where
  pub as_many : length marks ≡ length xs
  pub marked_passes : (k : ℕ) (x : X) → slice_get xs k ≡ Some x → get_or marks k false ≡ true → test x ≡ true
  pub passing_marked : (k : ℕ) (x : X) → slice_get xs k ≡ Some x → Among done k → test x ≡ true → get_or marks k false ≡ true

same_value : {X : Type 0} (x y : X) (o : Option X) → o ≡ Some x → o ≡ Some y → x ≡ y
same_value x y o h k = cc

same_place : (k p : ℕ) → (k ≡ p) ⊎ (k ≢ p)
same_place zero zero = inl refl
same_place zero (suc p) = inr (λ h. absurd (omega arith))
same_place (suc k) zero = inr (λ h. absurd (omega arith))
same_place (suc k) (suc p) = ⊎_elim (λ e. inl (ap suc e)) (λ ne. inr (λ h. ne (omega arith))) (same_place k p)

none_at : (n k : ℕ) → get_or (replicate n false) k false ≡ false
none_at zero k = refl
none_at (suc n) zero = refl
none_at (suc n) (suc k) = none_at n k

module _ {X : Type 0} (test : X → Bool) (xs : List X) where
  pub marked_none : (n : ℕ) → n ≡ length xs → IsMarked test xs [] (replicate n false)
  marked_none n h = record {
    as_many = omega (arith, length-replicate n false);
    marked_passes = λ k x read marked. absurd (false≢true (sym (none_at n k) ∙ marked));
    passing_marked = λ k x read a passes. absurd a;
  }

  pub marked_drops : (done : List ℕ) (p : ℕ) (x : X) (marks : List Bool) → IsMarked test xs done marks → slice_get xs p ≡ Some x → test x ≡ false → IsMarked test xs (done ++ p ∷ []) marks
  marked_drops done p x marks m read fails = record {
    as_many = m.as_many;
    marked_passes = m.marked_passes;
    passing_marked = λ k y at a passes.
        ⊎_elim (λ b. m.passing_marked k y at b passes)
        (λ b. absurd (false≢true (sym fails ∙ ap test (same_value x y (slice_get xs p) read (ap (slice_get xs) (one k b) ∙ at)) ∙ passes)))
        (among_either done (p ∷ []) k a);
  }

  pub marked_keeps : (done : List ℕ) (p : ℕ) (x : X) (marks : List Bool) → IsMarked test xs done marks → slice_get xs p ≡ Some x → p < length marks → test x ≡ true → IsMarked test xs (done ++ p ∷ []) (set marks p true)
  marked_keeps done p x marks m read within passes = record {
    as_many = length-set marks p true ∙ m.as_many;
    marked_passes = λ k y at marked.
        ⊎_elim (λ e. ap test (same_value y x (slice_get xs k) at (ap (slice_get xs) e ∙ read)) ∙ passes)
        (λ e. m.marked_passes k y at (sym (get_or-set_other marks p k true false e) ∙ marked))
        (same_place k p);
    passing_marked = λ k y at a good.
        ⊎_elim (λ e. ap (λ j. get_or (set marks p true) j false) e ∙ get_or-set_same marks p true false within)
        (λ e. get_or-set_other marks p k true false e
        ∙ ⊎_elim (λ b. m.passing_marked k y at b good) (λ b. absurd (e (sym (one k b)))) (among_either done (p ∷ []) k a))
        (same_place k p);
  }

  -- where all places are gone through, the marks are those of the test
  pub marked_all : (done : List ℕ) (marks : List Bool) → IsMarked test xs done marks → ((k : ℕ) → k < length xs → Among done k) → marks ≡ map test xs
  marked_all done marks m all =
      ext_get_or false marks (map test xs) (m.as_many ∙ sym (length-map xs test))
      (λ k h.
      let within : k < length xs = omega (arith, m.as_many) in
      let x = slice_get_within xs k within in
      same_tests (get_or marks k false) (test x.0) (m.marked_passes k x.0 x.1) (m.passing_marked k x.0 x.1 (all k within)) ∙ sym (get_or-map test xs k x.0 false within ∙ ap test (get_or_from_slice_get xs k x.0 x.0 x.1)))
