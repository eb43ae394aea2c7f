-- What a name means, with one thing more.
use Rattle.std.proofs.Common.{◌≡◌, Bool, true, false, cond, ◌&&◌, ◌||◌, Option, Some, List, [], ◌∷◌, ◌++◌, map, refl, sym, ap, ◌∙◌, append-nil, is_some, if◌then◌else◌}
use Rattle.std.specs.Option.{option_map}
use Rattle.sql_resolver.specs.Meant.{another, meaning, one_more}
use Rattle.sql_resolver.specs.declared.meaning.Meaning.{Meaning}

pub meaning_push : {A : Type 0} (things : List A) (thing : A) → meaning (things ++ thing ∷ []) ≡ Some (one_more (meaning things) thing)
meaning_push [] thing = refl
meaning_push (a ∷ []) thing = refl
meaning_push (a ∷ b ∷ more) thing = refl

-- where a name that `is` this one takes the thing, all that it can mean takes it too
pub grown : {A : Type 0} (is can : Bool) (at_key old : Option (Meaning A)) (things : List A) (thing : A) → is ≡ can → old ≡ meaning things → (is ≡ true → at_key ≡ meaning things)
    → (if is then Some (one_more at_key thing) else old) ≡ meaning (things ++ (if can then thing ∷ [] else []))
grown true true at_key old things thing same known told = ap (λ m. Some (one_more m thing)) (told refl) ∙ sym (meaning_push things thing)
grown false false at_key old things thing same known told = known ∙ ap meaning (sym (append-nil things))
grown true false at_key old things thing same known told = absurd (cc)
grown false true at_key old things thing same known told = absurd (cc)

pub meaning_map : {A B : Type 0} (f : A → B) (things : List A) → meaning (map f things) ≡ option_map (another f) (meaning things)
meaning_map f [] = refl
meaning_map f (a ∷ []) = refl
meaning_map f (a ∷ b ∷ more) = refl

-- whether there is one
abbrev pub has_some : {A : Type 0} → List A → Bool
has_some [] = false
has_some (x ∷ xs) = true

pub meant_some : {A : Type 0} (things : List A) → is_some (meaning things) ≡ has_some things
meant_some [] = refl
meant_some (a ∷ []) = refl
meant_some (a ∷ b ∷ more) = refl

pub some_append : {A : Type 0} (xs ys : List A) → has_some (xs ++ ys) ≡ (has_some xs || has_some ys)
some_append [] ys = refl
some_append (x ∷ xs) ys = refl

pub some_map : {A B : Type 0} (f : A → B) (xs : List A) → has_some (map f xs) ≡ has_some xs
some_map f [] = refl
some_map f (x ∷ xs) = refl

pub and_false : (a : Bool) → (a && false) ≡ false
and_false true = refl
and_false false = refl

pub and_true : (a : Bool) → (a && true) ≡ a
and_true true = refl
and_true false = refl

pub and_both : (a b : Bool) → (a && b) ≡ true → (a ≡ true) × (b ≡ true)
and_both true b holds = (refl, holds)
and_both false b holds = absurd (cc)

-- something is among the old or the new one
pub or_turned : (a b c : Bool) → a ≡ c → cond a true b ≡ (b || (c || false))
or_turned true true true same = refl
or_turned true false true same = refl
or_turned false true false same = refl
or_turned false false false same = refl
or_turned true b false same = absurd (cc)
or_turned false b true same = absurd (cc)
