-- The candidates that begin with some rows, one more row at a time.
use Rattle.std.proofs.Common.{◌≡◌, ℕ, ◌+◌, ◌-◌, ◌<◌, Bool, List, [], ◌∷◌, ◌++◌, length, map, take, filter, sym, ap, ◌∙◌, append_assoc, append-nil, length-append, subst, arith}
use Rattle.std.specs.List.{flat_map, range_with_len}
use Rattle.std.proofs.Math.Seq.{take-append_seam}
use Rattle.std.proofs.lemmas.List.Elements.{filter-append}
use Rattle.std.proofs.lemmas.Simd.{map-map}
use Rattle.prefsql_tables.specs.Combos.{combos_of}
use Rattle.prefsql_tables.specs.declared.place.Combo.{Combo}
use Rattle.prefsql_tables.proofs.CombosLemmas.{flat_map-range_more}
use Rattle.prefsql_tables.proofs.ProductLemmas.{map-flat_map}
use Rattle.query_meaning.specs.Choices.{IsChoice, IsCompleted, begun}

-- a row more completes what it is the first of
pub completed_more : (all rows : List ℕ) (limit : ℕ) (limits : List ℕ) → IsCompleted all rows (limit ∷ limits) → (row : ℕ) → row < limit → IsCompleted all (rows ++ row ∷ []) limits
completed_more all rows limit limits completed row small rest chosen = subst (IsChoice all) (sym (append_assoc rows (row ∷ []) rest)) (completed (row ∷ rest) (small, chosen))

-- without a limit the rows are the choice
pub completed_whole : (all rows limits : List ℕ) → length limits ≡ 0 → IsCompleted all rows limits → IsChoice all rows
completed_whole all rows [] none completed = subst (IsChoice all) (append-nil rows) (completed [] tt)
completed_whole all rows (limit ∷ limits) none completed = absurd (omega arith)

pub begun_whole : (rows : List ℕ) → begun rows (combos_of []) ≡ record { rows = rows } ∷ []
begun_whole rows = ap (λ (whole : List ℕ). record { rows = whole } ∷ []) (append-nil rows)

-- what begins with the rows goes on with one below the limit
begun_more : (rows : List ℕ) (limit : ℕ) (limits : List ℕ) → begun rows (combos_of (limit ∷ limits)) ≡ flat_map (λ row. begun (rows ++ row ∷ []) (combos_of limits)) (range_with_len 0 limit)
begun_more rows limit limits =
    let whole : List ℕ → Combo = λ rest. record { rows = rows ++ rest } in
    let rests = combos_of limits in
    map-flat_map whole (λ row. map (λ rest. row ∷ rest) rests) (range_with_len 0 limit)
    ∙ (λ j. flat_map (λ row. map-map whole (λ rest. row ∷ rest) rests j) (range_with_len 0 limit))
    ∙ (λ j. flat_map (λ row. map (λ rest. record { rows = sym (append_assoc rows (row ∷ []) rest) j }) rests) (range_with_len 0 limit))

-- the candidates of one row more
pub gathered_more : (test : Combo → Bool) (rows : List ℕ) (limits : List ℕ) (row : ℕ) (first old new : List Combo)
    → old ≡ first ++ filter test (flat_map (λ n. begun (rows ++ n ∷ []) (combos_of limits)) (range_with_len 0 row))
    → new ≡ old ++ filter test (begun (rows ++ row ∷ []) (combos_of limits))
    → new ≡ first ++ filter test (flat_map (λ n. begun (rows ++ n ∷ []) (combos_of limits)) (range_with_len 0 (row + 1)))
gathered_more test rows limits row first old new before added =
    let part : ℕ → List Combo = λ n. begun (rows ++ n ∷ []) (combos_of limits) in
    let so_far = flat_map part (range_with_len 0 row) in
    added ∙ ap (λ found. found ++ filter test (part row)) before
    ∙ append_assoc first (filter test so_far) (filter test (part row))
    ∙ ap (λ found. first ++ found) (sym (filter-append test so_far (part row)) ∙ ap (filter test) (sym (flat_map-range_more part row)))

-- all are gathered at the limit
pub gathered_all : (test : Combo → Bool) (rows all : List ℕ) (limit : ℕ) (limits : List ℕ) (row : ℕ) (first new : List Combo) → all ≡ limit ∷ limits → row ≡ limit
    → new ≡ first ++ filter test (flat_map (λ n. begun (rows ++ n ∷ []) (combos_of limits)) (range_with_len 0 row))
    → new ≡ first ++ filter test (begun rows (combos_of all))
gathered_all test rows all limit limits row first new is at_limit gathered =
    gathered
    ∙ ap (λ n. first ++ filter test (flat_map (λ m. begun (rows ++ m ∷ []) (combos_of limits)) (range_with_len 0 n))) at_limit
    ∙ ap (λ combos. first ++ filter test combos) (sym (begun_more rows limit limits) ∙ ap (λ counts. begun rows (combos_of counts)) (sym is))

-- the last row is taken off again
pub popped : (rows old new : List ℕ) (row len : ℕ) → old ≡ rows ++ row ∷ [] → len ≡ length old → new ≡ take (len - 1) old → new ≡ rows
popped rows old new row len pushed counted taken =
    let one_less : len - 1 ≡ length rows = omega (arith, counted, ap length pushed, length-append rows (row ∷ [])) in
    taken ∙ ap (λ n. take n old) one_less ∙ ap (take (length rows)) pushed ∙ take-append_seam rows (row ∷ [])
