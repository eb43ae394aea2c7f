-- What a record takes of a text.
use Rattle.std.proofs.Common.{◌≡◌, ℕ, zero, suc, ◌≤◌, ◌<◌, List, [], ◌∷◌, ◌++◌, length, length-append, Bool, true, false, cond, Option, None, Some, eqb, refl, ap, arith}
use Rattle.csv.specs.Machine.{next_record, step, in_field, start_field, start_record, ends_with, is_end, Read, fields_after, ends_at_end}
use Rattle.csv.specs.Reading.{records_from, records_next, default_config}
use Rattle.csv.specs.declared.parser.Action.{Action}
use Rattle.csv.specs.declared.parser.Action.TheVariants as act
use Rattle.csv.specs.declared.parser.State.{State}
use Rattle.csv.specs.declared.parser.State.TheVariants as st
use Rattle.csv.specs.declared.parser.Terminator.TheVariants as term

-- a step that ends a record leads to a state between two records
abbrev EndsBetween : State × Action → Type 0
EndsBetween p = is_end p.1 ≡ true → ends_at_end p.0 ≡ false

or_else : (b : Bool) (s : State) (a : Action) (other : State × Action) → is_end a ≡ false → EndsBetween other → EndsBetween (cond b (s, a) other)
or_else true s a other going ends = λ end. cc
or_else false s a other going ends = ends

ends_line : (b c : Bool) → EndsBetween (cond b (cond c st.AfterCr st.StartRecord, act.EndRecord) (st.InField, act.Copy))
ends_line true true = λ end. refl
ends_line true false = λ end. refl
ends_line false c = λ end. cc

ends_in_field : (c : ℕ) → EndsBetween (in_field default_config c)
ends_in_field c = or_else (eqb c 44) st.StartField act.EndField _ refl (ends_line (ends_with term.CRLF c) (eqb c 13))

ends_start_field : (c : ℕ) → EndsBetween (start_field default_config c)
ends_start_field c = or_else (eqb c 34) st.InQuoted act.Skip _ refl (ends_in_field c)

ends_start_record : (c : ℕ) → EndsBetween (start_record default_config c)
ends_start_record c = or_else (ends_with term.CRLF c) st.StartRecord act.Skip _ refl (ends_start_field c)

ends_between : (s : State) (c : ℕ) → EndsBetween (step default_config s c)
ends_between st.StartRecord c = ends_start_record c
ends_between st.StartField c = ends_start_field c
ends_between st.InField c = ends_in_field c
ends_between st.InQuoted c = or_else (eqb c 34) st.AfterQuote act.Skip _ refl (λ end. cc)
ends_between st.InEscape c = λ end. cc
ends_between st.AfterQuote c = or_else (eqb c 34) st.InQuoted act.Copy _ refl (ends_in_field c)
ends_between st.InComment c = or_else (eqb c 10) st.StartRecord act.Skip _ refl (λ end. cc)
ends_between st.AfterCr c = or_else (eqb c 10) st.StartRecord act.Skip _ refl (ends_start_record c)

-- what a record leaves: no more than the text, and a state between two records. It has a field
pub record Leaves (n : ℕ) (p : Read) : Type 0 where
  pub rest : length p.2 ≤ n
  pub between : ends_at_end p.1 ≡ false
  pub some : 1 ≤ length p.0

has_field : (fields : List (List ℕ)) (field : List ℕ) → 1 ≤ length (fields ++ field ∷ [])
has_field fields field = omega (arith, length-append fields (field ∷ []))

end_has_field : (a : Action) (fields : List (List ℕ)) (field : List ℕ) → is_end a ≡ true → 1 ≤ length (fields_after a fields field)
end_has_field act.EndRecord fields field end = has_field fields field
end_has_field act.Skip fields field end = absurd (cc)
end_has_field act.Copy fields field end = absurd (cc)
end_has_field act.EndField fields field end = absurd (cc)

last_leaves : (b : Bool) (fields : List (List ℕ)) (p : Read) → 1 ≤ length fields → cond b (Some (fields, st.StartRecord, [])) None ≡ Some p → Leaves 0 p
last_leaves true fields p some is = let same : p ≡ (fields, st.StartRecord, []) = cc in rw same (record { rest = omega arith; between = refl; some = some })
last_leaves false fields p some is = absurd (cc)

step_leaves : (q : State × Action) (fields : List (List ℕ)) (rest : List ℕ) (later : Option Read) (p : Read) → EndsBetween q → (is_end q.1 ≡ true → 1 ≤ length fields)
    → (later ≡ Some p → Leaves (length rest) p) → cond (is_end q.1) (Some (fields, q.0, rest)) later ≡ Some p → Leaves (length rest) p
step_leaves q fields rest later p ends some more is = by_test (is_end q.1) refl is where
  by_test : (b : Bool) → is_end q.1 ≡ b → cond b (Some (fields, q.0, rest)) later ≡ Some p → Leaves (length rest) p
  by_test true end is = let same : p ≡ (fields, q.0, rest) = cc in rw same (record { rest = omega arith; between = ends end; some = some end })
  by_test false end is = more is

rest_within : (s : State) (fields : List (List ℕ)) (field xs : List ℕ) (p : Read) → next_record default_config s fields field xs ≡ Some p → Leaves (length xs) p
unfolding next_record
rest_within s fields field [] p is = last_leaves (ends_at_end s) _ p (has_field fields field) is
rest_within s fields field (c ∷ rest) p is =
    let less = step_leaves (step default_config s c) _ rest _ p (ends_between s c) (end_has_field (step default_config s c).1 fields field) (rest_within (step default_config s c).0 _ _ rest p) is in
    record { rest = omega (arith, less.rest); between = less.between; some = less.some }

-- between two records, a record takes a byte
pub record TakesByte (xs : List ℕ) (p : Read) : Type 0 where
  pub rest : length p.2 < length xs
  pub between : ends_at_end p.1 ≡ false
  pub some : 1 ≤ length p.0

pub takes_byte : (s : State) (xs : List ℕ) (p : Read) → ends_at_end s ≡ false → next_record default_config s [] [] xs ≡ Some p → TakesByte xs p
unfolding next_record
takes_byte s [] p between is = absurd (at_end (ends_at_end s) between is) where
  at_end : (b : Bool) → b ≡ false → cond b (Some ([] ∷ [], st.StartRecord, [])) None ≡ Some p → ⊥
  at_end true e is = cc
  at_end false e is = cc
takes_byte s (c ∷ rest) p between is =
    let less = step_leaves (step default_config s c) _ rest _ p (ends_between s c) (end_has_field (step default_config s c).1 [] []) (rest_within (step default_config s c).0 _ _ rest p) is in
    record { rest = omega (arith, less.rest); between = less.between; some = less.some }

-- all records, for any number of turns that is more than the bytes
same_next : (m n : ℕ) (s : State) (xs : List ℕ) (o : Option Read) → next_record default_config s [] [] xs ≡ o → ends_at_end s ≡ false → length xs < suc m → length xs < suc n
    → ((t : State) (ys : List ℕ) → ends_at_end t ≡ false → length ys < m → length ys < n → records_from default_config m t ys ≡ records_from default_config n t ys)
    → records_next (records_from default_config m) o ≡ records_next (records_from default_config n) o
same_next m n s xs None is between lm ln same = refl
same_next m n s xs (Some p) is between lm ln same =
    let less = takes_byte s xs p between is in
    ap (λ rows. p.0 ∷ rows) (same p.1 p.2 less.between (omega (arith, less.rest)) (omega (arith, less.rest)))

pub records_from-turns : (m n : ℕ) (s : State) (xs : List ℕ) → ends_at_end s ≡ false → length xs < m → length xs < n → records_from default_config m s xs ≡ records_from default_config n s xs
unfolding records_from
records_from-turns zero n s xs between lm ln = absurd (omega arith)
records_from-turns (suc m) zero s xs between lm ln = absurd (omega arith)
records_from-turns (suc m) (suc n) s xs between lm ln = same_next m n s xs (next_record default_config s [] [] xs) refl between lm ln (λ t ys. records_from-turns m n t ys)
