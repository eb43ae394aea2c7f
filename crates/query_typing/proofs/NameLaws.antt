-- Where names stand, with one name more, and what that tells of them.
use Rattle.std.proofs.Common.{◌≡◌, ℕ, suc, ◌+◌, ◌<◌, ◌≤◌, Bool, true, false, not, cond, ltb, eqb, Option, Some, None, List, [], ◌∷◌, ◌++◌, length, get_or, take, refl, sym, ap, ◌∙◌, ⊎_elim, arith}
use Rattle.std.specs.Prelude.{IfSome, count_by, position}
use Rattle.std.specs.Option.{option_or}
use Rattle.std.specs.Str.{bytes_eq}
use Rattle.std.specs.List.{position_or_len}
use Rattle.std.specs.Cmp.Lexicographic.{bytes_decides, nat_list_eq_equiv}
use Rattle.std.proofs.lemmas.Bool.{cases_Bool, cond-true, cond-false}
use Rattle.std.proofs.lemmas.Bool.Decides.{nat_tests}
use Rattle.std.proofs.lemmas.List.Quantifiers.{position-Some}
use Rattle.std.proofs.lemmas.List.Sums.{sum_by-append, sum_by-cons}
use Rattle.std.proofs.lemmas.List.{length-map, length-take-le, map-append, take_more}
use Rattle.query_meaning.specs.declared.block.Output.{Output}
use Rattle.query_typing.specs.Outputs.{names_in}
use Rattle.query_typing.specs.NamePlaces.{name_place, place_by, place_more}
use Rattle.query_typing.specs.Obligations.{earlier, first_unmet, owes, unmet}
use Rattle.query_typing.specs.Statements.{name_obligations}
use Rattle.query_typing.specs.declared.names.NamePlace.{NamePlace}

-- ---- the first place at which a test passes, item by item

abbrev pub next : Option ℕ → Option ℕ
next None = None
next (Some place) = Some (suc place)

one_more : (n : ℕ) → 1 + n ≡ suc n
one_more n = omega arith

next_place : (n len : ℕ) → cond (ltb (1 + n) (suc len)) (Some (1 + n)) None ≡ next (cond (ltb n len) (Some n) None)
next_place n len =
    ⊎_elim
    (λ yes. cond-true (ltb (1 + n) (suc len)) (Some (1 + n)) None (grind (arith, nat_tests)) ∙ ap Some (one_more n) ∙ sym (ap next (cond-true (ltb n len) (Some n) None yes)))
    (λ nope. cond-false (ltb (1 + n) (suc len)) (Some (1 + n)) None (grind (arith, nat_tests)) ∙ sym (ap next (cond-false (ltb n len) (Some n) None nope)))
    (cases_Bool (ltb n len))

module _ {A : Type 0} (test : A → Bool) where
  abbrev pub scan : List A → Option ℕ
  scan [] = None
  scan (x ∷ xs) = cond (test x) (Some 0) (next (scan xs))

  pub position_scan : (xs : List A) → position test xs ≡ scan xs
  position_scan [] = refl
  position_scan (x ∷ xs) =
      let n = position_or_len test xs in
      let whole : Bool → Option ℕ = λ b. cond (ltb (cond (not b) (1 + n) 0) (suc (length xs))) (Some (cond (not b) (1 + n) 0)) None in
      ⊎_elim
      (λ yes. ap whole yes ∙ cond-true (ltb 0 (suc (length xs))) (Some 0) None (grind (arith, nat_tests)) ∙ sym (cond-true (test x) (Some 0) (next (scan xs)) yes))
      (λ nope. ap whole nope ∙ next_place n (length xs) ∙ ap next (position_scan xs) ∙ sym (cond-false (test x) (Some 0) (next (scan xs)) nope))
      (cases_Bool (test x))

  behind : (b c : Bool) (found : Option ℕ) (n : ℕ) → cond b (Some 0) (next (option_or found (cond c (Some n) None))) ≡ option_or (cond b (Some 0) (next found)) (cond c (Some (suc n)) None)
  behind true c found n = refl
  behind false true None n = refl
  behind false false None n = refl
  behind false c (Some i) n = refl

  scan_push : (xs : List A) (y : A) → scan (xs ++ y ∷ []) ≡ option_or (scan xs) (cond (test y) (Some (length xs)) None)
  scan_push [] y = refl
  scan_push (x ∷ xs) y = ap (λ found. cond (test x) (Some 0) (next found)) (scan_push xs y) ∙ behind (test x) (test y) (scan xs) (length xs)

  count_cons : (x : A) (xs : List A) → count_by test (x ∷ xs) ≡ cond (test x) 1 0 + count_by test xs
  count_cons x xs = sum_by-cons (λ y. cond (test y) 1 0) x xs

  count_yes : (x : A) (xs : List A) → test x ≡ true → count_by test (x ∷ xs) ≡ 1 + count_by test xs
  count_yes x xs passes = count_cons x xs ∙ ap (λ n. n + count_by test xs) (cond-true (test x) 1 0 passes)

  count_no : (x : A) (xs : List A) → test x ≡ false → count_by test (x ∷ xs) ≡ count_by test xs
  count_no x xs fails = count_cons x xs ∙ ap (λ n. n + count_by test xs) (cond-false (test x) 1 0 fails) ∙ (let same : 0 + count_by test xs ≡ count_by test xs = omega arith in same)

  pub count_push : (xs : List A) (y : A) → count_by test (xs ++ y ∷ []) ≡ count_by test xs + cond (test y) 1 0
  count_push xs y =
      let whole = sum_by-append (λ z. cond (test z) 1 0) xs (y ∷ []) in
      let last = count_cons y [] in
      let none : count_by test [] ≡ 0 = refl in
      omega (arith, whole, last, none)

  next_None : (found : Option ℕ) → next found ≡ None → found ≡ None
  next_None None e = refl
  next_None (Some n) e = absurd (let nope : ⊥ = cc in nope)

  next_Some : (found : Option ℕ) (i : ℕ) → next found ≡ Some i → (k : ℕ) × (found ≡ Some k)
  next_Some None i e = absurd (let nope : ⊥ = cc in nope)
  next_Some (Some n) i e = (n, refl)

  -- none is found exactly where none counts
  none_counted : (xs : List A) → scan xs ≡ None → count_by test xs ≡ 0
  none_counted [] e = refl
  none_counted (x ∷ xs) e =
      ⊎_elim
      (λ yes. absurd (let some : Some 0 ≡ None = sym (cond-true (test x) (Some 0) (next (scan xs)) yes) ∙ e in let nope : ⊥ = cc in nope))
      (λ nope. count_no x xs nope ∙ none_counted xs (next_None (scan xs) (sym (cond-false (test x) (Some 0) (next (scan xs)) nope) ∙ e)))
      (cases_Bool (test x))

  some_counted : (xs : List A) (i : ℕ) → scan xs ≡ Some i → 0 < count_by test xs
  some_counted [] i e = absurd (let nope : ⊥ = cc in nope)
  some_counted (x ∷ xs) i e =
      ⊎_elim
      (λ yes. let n = count_yes x xs yes in omega (arith, n))
      (λ nope.
      let n = count_no x xs nope in
      let some = next_Some (scan xs) i (sym (cond-false (test x) (Some 0) (next (scan xs)) nope) ∙ e) in
      let more = some_counted xs some.0 some.1 in
      omega (arith, n, more))
      (cases_Bool (test x))

-- ---- one name more

pushed : (found : Option ℕ) (n len : ℕ) (c : Bool) → (found ≡ None → n ≡ 0) → ((i : ℕ) → found ≡ Some i → 0 < n)
    → place_by (option_or found (cond c (Some len) None)) (n + cond c 1 0) ≡ cond c (Some (place_more (place_by found n) len)) (place_by found n)
pushed None n len true none some = (let zero = none refl in let single : ltb (n + 1) 2 ≡ true = grind (arith, nat_tests) in λ i. Some (record { first = len; is_single = single i }))
pushed (Some k) n len true none some = (let many = some k refl in let single : ltb (n + 1) 2 ≡ false = grind (arith, nat_tests) in λ i. Some (record { first = k; is_single = single i }))
pushed None n len false none some = refl
pushed (Some k) n len false none some = (let same : n + 0 ≡ n = omega arith in λ i. Some (record { first = k; is_single = ltb (same i) 2 }))

place_push : (name new : List ℕ) (names : List (List ℕ)) → name_place name (names ++ new ∷ []) ≡ cond (bytes_eq name new) (Some (place_more (name_place name names) (length names))) (name_place name names)
place_push name new names =
    let test = bytes_eq name in
    (λ i. place_by ((position_scan test (names ++ new ∷ []) ∙ scan_push test names new) i) (count_push test names new i))
    ∙ pushed (scan test names) (count_by test names) (length names) (test new) (none_counted test names) (some_counted test names)
    ∙ ap (λ found. cond (test new) (Some (place_more (place_by found (count_by test names)) (length names))) (place_by found (count_by test names))) (sym (position_scan test names))

-- an index with the name at its place is one of the names with it
pub index_more : (before after : List ℕ → Option NamePlace) (names : List (List ℕ)) (new : List ℕ) (listed : NamePlace) (place : ℕ)
    → ((name : List ℕ) → before name ≡ name_place name names) → place ≡ length names → listed ≡ place_more (before new) place
    → ((name : List ℕ) → after name ≡ cond (bytes_eq new name) (Some listed) (before name))
    → (name : List ℕ) → after name ≡ name_place name (names ++ new ∷ [])
index_more before after names new listed place is at told put name =
    put name
    ∙ ⊎_elim
    (λ yes.
    let same : new ≡ name = (bytes_decides new name).0 yes in
    let turned : bytes_eq name new ≡ true = nat_list_eq_equiv.symm name new ∙ yes in
    cond-true (bytes_eq new name) (Some listed) (before name) yes
    ∙ ap Some (told ∙ (λ i. place_more ((is new ∙ ap (λ n. name_place n names) same) i) (at i)))
    ∙ sym (cond-true (bytes_eq name new) (Some (place_more (name_place name names) (length names))) (name_place name names) turned))
    (λ nope.
    let turned : bytes_eq name new ≡ false = nat_list_eq_equiv.symm name new ∙ nope in
    cond-false (bytes_eq new name) (Some listed) (before name) nope
    ∙ is name
    ∙ sym (cond-false (bytes_eq name new) (Some (place_more (name_place name names) (length names))) (name_place name names) turned))
    (cases_Bool (bytes_eq new name))
    ∙ sym (place_push name new names)

-- ---- what a place tells

by_None : (found : Option ℕ) (n : ℕ) → place_by found n ≡ None → found ≡ None
by_None None n e = refl
by_None (Some k) n e = absurd (let nope : ⊥ = cc in nope)

some_same : (a b : NamePlace) → Some a ≡ Some b → a ≡ b
some_same a b e = cc

by_Some : (found : Option ℕ) (n : ℕ) (place : NamePlace) → place_by found n ≡ Some place → (found ≡ Some place.first) × (place.is_single ≡ ltb n 2)
by_Some None n place e = absurd (let nope : ⊥ = cc in nope)
by_Some (Some k) n place e =
    let same : record { first = k; is_single = ltb n 2 } ≡ place = some_same (record { first = k; is_single = ltb n 2 }) place e in
    (ap (λ (p : NamePlace). Some p.first) same, sym (ap (λ (p : NamePlace). p.is_single) same))

pub unknown_name : (names : List (List ℕ)) (name : List ℕ) (at : ℕ) → name_place name names ≡ None → Some (record { code = 314; at = at }) ≡ first_unmet (name_obligations names name at)
unknown_name names name at e =
    let test = bytes_eq name in
    let n : count_by test names ≡ 0 = none_counted test names (sym (position_scan test names) ∙ by_None (position test names) (count_by test names) e) in
    sym (ap (λ k. earlier (unmet (owes 314 at (not (eqb k 0)))) (earlier (unmet (owes 315 at (ltb k 2))) None)) n)

pub known_name : (names : List (List ℕ)) (name : List ℕ) (at : ℕ) (place : NamePlace) → name_place name names ≡ Some place → unmet (owes 315 at place.is_single) ≡ first_unmet (name_obligations names name at)
known_name names name at place e =
    let test = bytes_eq name in
    let told = by_Some (position test names) (count_by test names) place e in
    let some = some_counted test names place.first (sym (position_scan test names) ∙ told.0) in
    let met : not (eqb (count_by test names) 0) ≡ true = grind (arith, nat_tests) in
    let alone : (b : Bool) → unmet (owes 315 at b) ≡ earlier None (earlier (unmet (owes 315 at b)) None) = single in
    ap (λ b. unmet (owes 315 at b)) told.1
    ∙ alone (ltb (count_by test names) 2)
    ∙ sym (ap (λ b. earlier (unmet (owes 314 at b)) (earlier (unmet (owes 315 at (ltb (count_by test names) 2))) None)) met)
  where
    single : (b : Bool) → unmet (owes 315 at b) ≡ earlier None (earlier (unmet (owes 315 at b)) None)
    single true = refl
    single false = refl

pub place_of_name : (names : List (List ℕ)) (name : List ℕ) (place : NamePlace) → name_place name names ≡ Some place → position (bytes_eq name) names ≡ Some place.first
place_of_name names name place e = (by_Some (position (bytes_eq name) names) (count_by (bytes_eq name) names) place e).0

pub no_place : (names : List (List ℕ)) (name : List ℕ) → name_place name names ≡ None → position (bytes_eq name) names ≡ None
no_place names name e = by_None (position (bytes_eq name) names) (count_by (bytes_eq name) names) e

-- ---- one output column more

pub shown_more : (shown : List Output) (i : ℕ) (output : Output) → i < length shown → output ≡ get_or shown i output → names_in (take i shown) ++ output.name ∷ [] ≡ names_in (take (i + 1) shown)
shown_more shown i output small is =
    sym (map-append (λ (o : Output). o.name) (take i shown) (output ∷ []))
    ∙ ap names_in (sym (take_more shown i output small ∙ ap (λ (o : Output). take i shown ++ o ∷ []) (sym is)))

pub shown_total : (shown : List Output) (i : ℕ) → i ≤ length shown → length (names_in (take i shown)) ≡ i
shown_total shown i small = length-map (take i shown) (λ (o : Output). o.name) ∙ length-take-le i shown small

-- the place of a name is one of an output column
pub place_within : (found : Option NamePlace) (name : List ℕ) (shown : List Output) → found ≡ name_place name (names_in shown) → IfSome found (λ place. place.first < length shown)
place_within None name shown is = tt
place_within (Some place) name shown is =
    let there = position-Some (bytes_eq name) (names_in shown) place.first [] (place_of_name (names_in shown) name place (sym is)) in
    let count = length-map shown (λ (o : Output). o.name) in
    omega (arith, there.0, count)
