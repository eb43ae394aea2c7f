-- Outcomes of lists that are put together.
use Rattle.std.proofs.Common.{◌≡◌, length, map, Option, Some, None, List, [], ◌∷◌, ◌++◌, Result, Ok, Err, refl, sym, ap, ◌∙◌, arith, append_assoc, append-nil}
use Rattle.std.proofs.lemmas.Bool.Decides.{nat_tests}
use Rattle.std.specs.List.{flat_map}
use Rattle.sql_resolver.specs.Owed.{Fault, first_of}
use Rattle.sql_resolver.specs.Outcomes.{all_of, also, earlier, earlier_if, first_fault, formed, outcome, paired}

earlier_three : (a b c : Fault) → earlier (earlier a b) c ≡ earlier a (earlier b c)
earlier_three a b c = grind (arith, nat_tests)

first_after : (f g : Fault) (fs : List Fault) → first_of (earlier f g) fs ≡ earlier f (first_of g fs)
first_after f g [] = refl
first_after f g (h ∷ fs) = ap (λ x. first_of x fs) (earlier_three f g h) ∙ first_after f (earlier g h) fs

first_append : (f g : Fault) (fs gs : List Fault) → first_of f (fs ++ g ∷ gs) ≡ earlier (first_of f fs) (first_of g gs)
first_append f g [] gs = first_after f g gs
first_append f g (h ∷ fs) gs = first_append (earlier f h) g fs gs

-- the outcome of both parts
pub outcome_pair : {A B : Type 0} (a : A) (b : B) (fs gs : List Fault) → outcome (a, b) (fs ++ gs) ≡ paired (outcome a fs) (outcome b gs)
outcome_pair a b [] [] = refl
outcome_pair a b [] (g ∷ gs) = refl
outcome_pair a b (f ∷ fs) [] = ap (λ x. Err (first_of f x)) (append-nil fs)
outcome_pair a b (f ∷ fs) (g ∷ gs) = ap Err (first_append f g fs gs)

pub outcome_form : {A B : Type 0} (form : A → B) (a : A) (fs : List Fault) → outcome (form a) fs ≡ formed form (outcome a fs)
outcome_form form a [] = refl
outcome_form form a (f ∷ fs) = refl

-- one after another
pub pushed_all : {A : Type 0} (found : Result (List A) Fault) (part : Result A Fault) (more : List (Result A Fault)) (whole : Result (List A) Fault)
    → formed (λ both. both.0 ++ both.1) (paired found (all_of (part ∷ more))) ≡ whole
    → formed (λ both. both.0 ++ both.1) (paired (formed (λ both. both.0 ++ both.1 ∷ []) (paired found part)) (all_of more)) ≡ whole
pushed_all {A} found part more whole so_far = by_parts found part (all_of more) ∙ so_far
  where
    by_parts : (found : Result (List A) Fault) (part : Result A Fault) (rest : Result (List A) Fault)
        → formed (λ both. both.0 ++ both.1) (paired (formed (λ both. both.0 ++ both.1 ∷ []) (paired found part)) rest)
        ≡ formed (λ both. both.0 ++ both.1) (paired found (formed (λ both. both.0 ∷ both.1) (paired part rest)))
    by_parts (Ok xs) (Ok x) (Ok ys) = ap Ok (append_assoc xs (x ∷ []) ys)
    by_parts (Ok xs) (Ok x) (Err h) = refl
    by_parts (Ok xs) (Err g) (Ok ys) = refl
    by_parts (Ok xs) (Err g) (Err h) = refl
    by_parts (Err f) (Ok x) (Ok ys) = refl
    by_parts (Err f) (Ok x) (Err h) = refl
    by_parts (Err f) (Err g) (Ok ys) = refl
    by_parts (Err f) (Err g) (Err h) = ap Err (earlier_three f g h)

pub all_begun : {A : Type 0} (parts : List (Result A Fault)) → formed (λ both. both.0 ++ both.1) (paired (Ok []) (all_of parts)) ≡ all_of parts
all_begun {A} parts = by_rest (all_of parts)
  where
    by_rest : (rest : Result (List A) Fault) → formed (λ both. both.0 ++ both.1) (paired (Ok []) rest) ≡ rest
    by_rest (Ok xs) = refl
    by_rest (Err f) = refl

done : {A : Type 0} (found : Result (List A) Fault) → formed (λ both. both.0 ++ both.1) (paired found (all_of [])) ≡ found
done (Ok xs) = ap Ok (append-nil xs)
done (Err f) = refl

pub all_done : {A : Type 0} (found : Result (List A) Fault) (rest : List (Result A Fault)) (whole : Result (List A) Fault) → length rest ≡ 0
    → formed (λ both. both.0 ++ both.1) (paired found (all_of rest)) ≡ whole → found ≡ whole
all_done found [] whole empty so_far = sym (done found) ∙ so_far
all_done found (part ∷ rest) whole empty so_far = absurd (omega (arith, empty))

pub ruleset pushes = (pushed_all, all_begun)

pub earlier_if_none : (a : Option Fault) → earlier_if a None ≡ a
earlier_if_none None = refl
earlier_if_none (Some f) = refl

pub earlier_if_assoc : (a b c : Option Fault) → earlier_if (earlier_if a b) c ≡ earlier_if a (earlier_if b c)
earlier_if_assoc None b c = refl
earlier_if_assoc (Some f) None c = refl
earlier_if_assoc (Some f) (Some g) None = refl
earlier_if_assoc (Some f) (Some g) (Some h) = ap Some (earlier_three f g h)

-- a part with faults of its own, and others after them
pub outcome_also : {A : Type 0} (a : A) (fs gs : List Fault) → outcome a (fs ++ gs) ≡ also (outcome a fs) (first_fault gs)
outcome_also a [] [] = refl
outcome_also a [] (g ∷ gs) = refl
outcome_also a (f ∷ fs) [] = ap (λ x. Err (first_of f x)) (append-nil fs)
outcome_also a (f ∷ fs) (g ∷ gs) = ap Err (first_append f g fs gs)

pub first_fault_append : (fs gs : List Fault) → first_fault (fs ++ gs) ≡ earlier_if (first_fault fs) (first_fault gs)
first_fault_append [] gs = refl
first_fault_append (f ∷ fs) [] = ap (λ x. Some (first_of f x)) (append-nil fs)
first_fault_append (f ∷ fs) (g ∷ gs) = ap Some (first_append f g fs gs)

-- the outcome of a list by those of its parts
pub outcome_each : {A R : Type 0} (tree : R → A) (faults : R → List Fault) (rs : List R) → outcome (map tree rs) (flat_map faults rs) ≡ all_of (map (λ r. outcome (tree r) (faults r)) rs)
outcome_each tree faults [] = refl
outcome_each tree faults (r ∷ rs) =
    outcome_form (λ both. both.0 ∷ both.1) (tree r, map tree rs) (faults r ++ flat_map faults rs)
    ∙ ap (formed (λ both. both.0 ∷ both.1))
    (outcome_pair (tree r) (map tree rs) (faults r) (flat_map faults rs)
    ∙ ap (paired (outcome (tree r) (faults r))) (outcome_each tree faults rs))

pub ruleset earlier_ifs = (earlier_if_none, earlier_if_assoc)
