-- A part of a query without faults, or its first fault, and outcomes that are put together. The
-- order of faults is this project's own.
use Rattle.std.specs.Prelude.{if◌then◌else◌, List, [], ◌∷◌, Option, Some, None, Result, Ok, Err}
use Rattle.sql_resolver.specs.Owed.{Fault, first_of, is_before}

-- what the part is, where it has no fault, and else its first fault
abbrev pub outcome : {A : Type 0} → A → List Fault → Result A Fault
outcome part [] = Ok part
outcome part (fault ∷ more) = Err (first_of fault more)

-- the earlier one of two, and of two that stand alike the one of the first part
abbrev pub earlier : Fault → Fault → Fault
earlier a b = if is_before b a then b else a

-- both parts, or the earlier of their faults
abbrev pub paired : {A B : Type 0} → Result A Fault → Result B Fault → Result (A × B) Fault
paired (Ok a) (Ok b) = Ok (a, b)
paired (Ok a) (Err g) = Err g
paired (Err f) (Ok b) = Err f
paired (Err f) (Err g) = Err (earlier f g)

-- another form of the part
abbrev pub formed : {A B : Type 0} → (A → B) → Result A Fault → Result B Fault
formed f (Ok a) = Ok (f a)
formed f (Err fault) = Err fault

-- the list of all parts, or the first of their faults
abbrev pub all_of : {A : Type 0} → List (Result A Fault) → Result (List A) Fault
all_of [] = Ok []
all_of (part ∷ more) = formed (λ both. both.0 ∷ both.1) (paired part (all_of more))

-- the first of the faults, if there is one
abbrev pub first_fault : List Fault → Option Fault
first_fault [] = None
first_fault (fault ∷ more) = Some (first_of fault more)

-- the part, unless there is a fault besides
abbrev pub also : {A : Type 0} → Result A Fault → Option Fault → Result A Fault
also (Ok part) None = Ok part
also (Ok part) (Some g) = Err g
also (Err f) None = Err f
also (Err f) (Some g) = Err (earlier f g)

abbrev pub earlier_if : Option Fault → Option Fault → Option Fault
earlier_if None later = later
earlier_if (Some f) None = Some f
earlier_if (Some f) (Some g) = Some (earlier f g)
