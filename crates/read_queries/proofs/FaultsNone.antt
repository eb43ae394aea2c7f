-- Where there is no fault in all, there is none in the parts.
use Rattle.std.proofs.Common.{◌≡◌, ℕ, Bool, true, false, List, [], ◌∷◌, ◌++◌, map, All, refl, Option, Some, None}
use Rattle.std.specs.List.{flat_map}
use Rattle.std.proofs.lemmas.List.Elements.{All-nil, All-cons, All-head, All-tail}
use Rattle.prefsql_lexer.specs.declared.fault.Spot.{Spot}
use Rattle.sql_resolver.specs.Owed.{Fault, fault_if, first_spot, either_spot, inner_faults}

pub some_none : {A : Type 0} (x : A) (xs : List A) → x ∷ xs ≡ [] → ⊥
some_none x xs e = absurd (cc)

pub none_left : {A : Type 0} (xs ys : List A) → xs ++ ys ≡ [] → xs ≡ []
none_left [] ys e = refl
none_left (x ∷ xs) ys e = absurd (some_none x (xs ++ ys) e)

pub none_right : {A : Type 0} (xs ys : List A) → xs ++ ys ≡ [] → ys ≡ []
none_right [] ys e = e
none_right (x ∷ xs) ys e = absurd (some_none x (xs ++ ys) e)

no_spot : (s : Spot) → Some s ≡ None → ⊥
no_spot s e = absurd (cc)

pub first_none : (fs : List Fault) → first_spot fs ≡ None → fs ≡ []
first_none [] e = refl
first_none (f ∷ fs) e = absurd (no_spot _ e)

pub either_first : (a b : Option Spot) → either_spot a b ≡ None → a ≡ None
either_first None b e = refl
either_first (Some s) b e = absurd (no_spot s e)

pub either_second : (a b : Option Spot) → either_spot a b ≡ None → b ≡ None
either_second None b e = e
either_second (Some s) b e = absurd (no_spot s e)

pub inner_none : (at : ℕ) (o : Option Spot) → inner_faults at o ≡ [] → o ≡ None
inner_none at None e = refl
inner_none at (Some s) e = absurd (some_none _ [] e)

pub not_owed : (owed : Bool) (code at : ℕ) → fault_if owed code at ≡ [] → owed ≡ false
not_owed true code at e = absurd (some_none _ [] e)
not_owed false code at e = refl

-- ---- lists

pub all_map : {A B : Type 0} (h : A → B) (P : A → Type 0) (Q : B → Type 0) → ((x : A) → P x → Q (h x)) → (xs : List A) → All P xs → All Q (map h xs)
all_map h P Q to [] all = All-nil Q
all_map h P Q to (x ∷ xs) all = All-cons Q (h x) (map h xs) (to x (All-head P x xs all)) (all_map h P Q to xs (All-tail P x xs all))

-- what holds of each part without a fault
pub each_holds : {A : Type 0} (f : A → List Fault) (Q : A → Type 0) (xs : List A) → All (λ x. f x ≡ [] → Q x) xs → flat_map f xs ≡ [] → All Q xs
each_holds f Q [] all e = All-nil Q
each_holds f Q (x ∷ xs) all e =
    let P : _ → Type 0 = λ x. f x ≡ [] → Q x in
    All-cons Q x xs (All-head P x xs all (none_left (f x) (flat_map f xs) e)) (each_holds f Q xs (All-tail P x xs all) (none_right (f x) (flat_map f xs) e))

-- what holds of the reading of each part
pub all_read : {S A B : Type 0} (read : A → S → B) (s : S) (P : A → Type 0) (Q : B → Type 0) → ((x : A) → P x → Q (read x s)) → (xs : List A) → All P xs → All Q (map (λ (r : S → B). r s) (map read xs))
all_read read s P Q to [] all = All-nil Q
all_read read s P Q to (x ∷ xs) all = All-cons Q (read x s) (map (λ r. r s) (map read xs)) (to x (All-head P x xs all)) (all_read read s P Q to xs (All-tail P x xs all))
