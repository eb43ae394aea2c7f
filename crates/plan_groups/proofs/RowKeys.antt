-- Where the keys of a row stand among those of all rows.
use Rattle.std.proofs.Common.{◌≡◌, ℕ, zero, suc, ℤ, ◌+◌, ◌*◌, ◌<◌, ◌≤◌, List, [], ◌∷◌, ◌++◌, length, length-append, take, drop, get_or, sym, ap, ◌∙◌, subst, arith}
use Rattle.std.specs.List.{flat_map}
use Rattle.std.proofs.lemmas.List.{length-map}
use Rattle.std.proofs.Math.Nat.{suc-mul}
use Rattle.std.proofs.Math.Seq.{drop-append-add, take-append_seam}
use Rattle.prefsql_tables.specs.declared.place.Combo.{Combo}
use Rattle.pref_terms.specs.Terms.{keys_of, leaves_of}
use Rattle.pref_terms.specs.declared.bound.BoundTerm.{BoundTerm}
use Rattle.plan_groups.specs.Groups.{seen_at, seen_by}
use Rattle.plan_groups.specs.Jumps.{jumps_of, shape_of}
use Rattle.plan_groups.specs.declared.jumps.RankedLeaf.{RankedLeaf}
use Rattle.plan_groups.specs.Ranks.{keys_of_rows}
use Rattle.plan_groups.proofs.JumpLaws.{jumps_length, keys_length, width_is}

module _ {X : Type 0} (f : X → List ℤ) (w : ℕ) (wide : (x : X) → length (f x) ≡ w) where
  pub rows_length : (xs : List X) → length (flat_map f xs) ≡ length xs * w
  rows_length [] = omega arith
  rows_length (x ∷ xs) = grind (arith, length-append (f x) (flat_map f xs), wide x, rows_length xs)

  pub row_keys : (xs : List X) (k : ℕ) (d : X) → k < length xs → take w (drop (k * w) (flat_map f xs)) ≡ f (get_or xs k d)
  row_keys [] k d within = absurd (omega arith)
  row_keys (x ∷ xs) zero d within =
      let e : 0 * w ≡ 0 = omega arith in
      ap (λ n. take w (drop n (f x ++ flat_map f xs))) e ∙ (λ j. take (sym (wide x) j) (f x ++ flat_map f xs)) ∙ take-append_seam (f x) (flat_map f xs)
  row_keys (x ∷ xs) (suc k) d within =
      let e : suc k * w ≡ length (f x) + k * w = grind (arith, wide x) in
      ap (λ n. take w (drop n (f x ++ flat_map f xs))) e
      ∙ ap (take w) (drop-append-add (f x) (flat_map f xs) (k * w))
      ∙ row_keys xs k d (omega arith)

  -- the keys of a row end within those of all rows
  pub row_within : (xs : List X) (k : ℕ) → k < length xs → k * w + w ≤ length (flat_map f xs)
  row_within [] k within = absurd (omega arith)
  row_within (x ∷ xs) zero within = omega (arith, length-append (f x) (flat_map f xs), wide x)
  row_within (x ∷ xs) (suc k) within =
      let next : suc k * w ≡ k * w + w = suc-mul k w in
      let rest : k * w + w ≤ length (flat_map f xs) = row_within xs k (omega arith) in
      omega (arith, length-append (f x) (flat_map f xs), wide x, next, rest)

module _ (bound : BoundTerm) (combos : List Combo) (keys : List ℤ) (leaves : List RankedLeaf) where
  abbrev keys_by : Combo → List ℤ
  keys_by combo = keys_of bound.term.now (seen_by bound combo)

  by_leaves : (combo : Combo) → length (keys_by combo) ≡ length (leaves_of bound.term.now)
  by_leaves combo = keys_length bound.term.now (seen_by bound combo)

  pub keys_read : (k w n : ℕ) → keys ≡ keys_of_rows bound combos → jumps_of leaves ≡ (shape_of bound.term.now).jumps 0 0 0 → w ≡ length leaves → n ≡ w → k < length combos
      → take n (drop (k * w) keys) ≡ keys_of bound.term.now (seen_at bound combos k)
  keys_read k w n keys_are jumps_are w_is n_is within =
      let wide : w ≡ length (leaves_of bound.term.now) = w_is ∙ sym (length-map leaves (λ (leaf : RankedLeaf). leaf.jump)) ∙ ap length jumps_are ∙ jumps_length bound.term.now 0 0 0 ∙ width_is bound.term.now in
      (λ j. take ((n_is ∙ wide) j) (drop (k * wide j) (keys_are j)))
      ∙ row_keys keys_by (length (leaves_of bound.term.now)) by_leaves combos k (record { rows = [] }) within

  pub keys_within : (k w : ℕ) → keys ≡ keys_of_rows bound combos → jumps_of leaves ≡ (shape_of bound.term.now).jumps 0 0 0 → w ≡ length leaves → k < length combos
      → k * w + w ≤ length keys
  keys_within k w keys_are jumps_are w_is within =
      let wide : w ≡ length (leaves_of bound.term.now) = w_is ∙ sym (length-map leaves (λ (leaf : RankedLeaf). leaf.jump)) ∙ ap length jumps_are ∙ jumps_length bound.term.now 0 0 0 ∙ width_is bound.term.now in
      subst (λ n. k * n + n ≤ length keys) (sym wide)
      (subst (λ (ks : List ℤ). k * length (leaves_of bound.term.now) + length (leaves_of bound.term.now) ≤ length ks) (sym keys_are)
      (row_within keys_by (length (leaves_of bound.term.now)) by_leaves combos k within))
