-- One place more in an index.
use Rattle.std.proofs.Common.{◌≡◌, ℕ, zero, suc, ◌+◌, ◌<◌, ◌≤◌, Bool, true, false, cond, not, ◌&&◌, if◌then◌else◌, Option, Some, None, List, [], ◌∷◌, ◌++◌, length, map, filter, take, get_or, Vec, refl, sym, ap, ◌∙◌, inl, inr, ⊎_elim, subst, append-nil, arith, length-append, length-take, map-id}
use Rattle.std.specs.List.{range_with_len}
use Rattle.std.specs.declared.alloc.Global.{Global}
use Rattle.std.proofs.lemmas.Bool.{cases_Bool}
use Rattle.std.proofs.lemmas.List.{get_or_append_left, get_or_push, length-map, map-append, take_more}
use Rattle.std.proofs.lemmas.List.Elements.{filter-append}
use Rattle.std.proofs.lemmas.List.FromFn.{map-range_with_len_more}
use Rattle.indexmap.specs.IndexMap.{IndexMap, Updates, UpdatesBy, get}
use Rattle.prefsql_values.specs.Value.{is_null, value_eq, value_of}
use Rattle.prefsql_values.specs.declared.value.Cell.{Cell}
use Rattle.prefsql_values.specs.declared.value.Value.{Value}
use Rattle.prefsql_values.specs.declared.value.Value.TheVariants.{Null}
use Rattle.prefsql_values.proofs.ValueEq.{value_eq-Decides}
use Rattle.value_index.specs.Places.{are_equal, bucket_at, equal_places, listed}
use Rattle.value_index.proofs.Equal.{are_equal_is}

abbrev Buckets : Type 0 → Type 0
Buckets S = IndexMap Value (Vec ℕ Global) S

-- NULL is equal to nothing
pub none_added : {S : Type 0} (m : Buckets S) (c : Value) (place : ℕ) → true ≡ is_null c → (v : Value) → bucket_at m v ≡ bucket_at m v ++ (if are_equal c v then place ∷ [] else [])
none_added m c place null v =
    let no : are_equal c v ≡ false = are_equal_is c v ∙ ap (λ b. not b && value_eq c v) (sym null) in
    sym (append-nil (bucket_at m v)) ∙ ap (λ b. bucket_at m v ++ (if b then place ∷ [] else [])) (sym no)

module _ {S : Type 0} (m n o : Buckets S) (c : Value) (bucket : Vec ℕ Global) (place : ℕ)
    (some : false ≡ is_null c) (removed : UpdatesBy value_eq (value_eq c) m n None) (put : Updates value_eq n o c (Some bucket))
    (grown : bucket.items ≡ bucket_at m c ++ place ∷ []) where
  found : (v : Value) → get value_eq o v ≡ cond (value_eq c v) (Some bucket) (cond (value_eq c v) None (get value_eq m v))
  found v = put.0 v ∙ ap (λ more. cond (value_eq c v) (Some bucket) more) (removed.0 v)

  tested : (v : Value) → are_equal c v ≡ value_eq c v
  tested v = are_equal_is c v ∙ ap (λ b. not b && value_eq c v) (sym some)

  pub one_added : (v : Value) → bucket_at o v ≡ bucket_at m v ++ (if are_equal c v then place ∷ [] else [])
  one_added v =
      elim (cases_Bool (value_eq c v)) [
        | inl same ↦
            let is : c ≡ v = (value_eq-Decides c v).0 same in
            ap listed (found v ∙ ap (λ b. cond b (Some bucket) (cond b None (get value_eq m v))) same)
            ∙ grown
            ∙ ap (λ w. bucket_at m w ++ place ∷ []) is
            ∙ ap (λ b. bucket_at m v ++ (if b then place ∷ [] else [])) (sym (tested v ∙ same))
        | inr other ↦
            ap listed (found v ∙ ap (λ b. cond b (Some bucket) (cond b None (get value_eq m v))) other)
            ∙ sym (append-nil (bucket_at m v))
            ∙ ap (λ b. bucket_at m v ++ (if b then place ∷ [] else [])) (sym (tested v ∙ other))
      ]

-- ---- the places of equal values, one value more

range_more : (n : ℕ) → range_with_len 0 (n + 1) ≡ range_with_len 0 n ++ n ∷ []
range_more n = sym (map-id (range_with_len 0 (n + 1))) ∙ map-range_with_len_more (λ k. k) 0 n n (omega arith) ∙ ap (λ (ks : List ℕ). ks ++ n ∷ []) (map-id (range_with_len 0 n))

early : (vs : List Value) (w v : Value) (a n : ℕ) → a + n ≤ length vs
    → filter (λ p. are_equal (get_or (vs ++ w ∷ []) p Null) v) (range_with_len a n) ≡ filter (λ p. are_equal (get_or vs p Null) v) (range_with_len a n)
early vs w v a zero h = refl
early vs w v a (suc n) h =
    let here : get_or (vs ++ w ∷ []) a Null ≡ get_or vs a Null = get_or_append_left vs (w ∷ []) Null a (omega arith) in
    let rest = early vs w v (a + 1) n (omega arith) in
    (λ j. cond (are_equal (here j) v) (a ∷ rest j) (rest j))

pub places_more : (vs : List Value) (w v : Value) → equal_places (vs ++ w ∷ []) v ≡ equal_places vs v ++ (if are_equal w v then length vs ∷ [] else [])
places_more vs w v =
    let n = length vs in
    let P : ℕ → Bool = λ p. are_equal (get_or (vs ++ w ∷ []) p Null) v in
    let last : get_or (vs ++ w ∷ []) n Null ≡ w = get_or_push vs w Null n refl in
    ap (λ m. filter P (range_with_len 0 m)) (length-append vs (w ∷ []))
    ∙ ap (filter P) (range_more n)
    ∙ filter-append P (range_with_len 0 n) (n ∷ [])
    ∙ (λ j. early vs w v 0 n (omega arith) j ++ cond (are_equal (last j) v) (n ∷ []) [])

-- one cell more
pub cells_more : (cells : List Cell) (i : ℕ) (d : Cell) (v : Value) → i < length cells
    → equal_places (map value_of (take (i + 1) cells)) v ≡ equal_places (map value_of (take i cells)) v ++ (if are_equal (value_of (get_or cells i d)) v then i ∷ [] else [])
cells_more cells i d v small =
    let w = value_of (get_or cells i d) in
    let vs = map value_of (take i cells) in
    let long : length vs ≡ i = length-map (take i cells) value_of ∙ (let known = length-take i cells in omega (arith, known, small)) in
    ap (λ (us : List Value). equal_places us v) (ap (map value_of) (take_more cells i d small) ∙ map-append value_of (take i cells) (get_or cells i d ∷ []))
    ∙ places_more vs w v
    ∙ ap (λ n. equal_places vs v ++ (if are_equal w v then n ∷ [] else [])) long
