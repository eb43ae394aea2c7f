-- A file that is put at a path.
use Rattle.std.proofs.Common.{◌≡◌, ◌≢◌, ℕ, List, [], ◌∷◌, ◌++◌, length, get_or, set, Bool, true, false, cond, Option, None, Some, ltb, not, suc, ◌≤◌, ◌+◌, refl, sym, ap, ◌∙◌, subst, arith}
use Rattle.std.specs.List.{position, position_or_len, find}
use Rattle.std.specs.Option.{option_map, option_or}
use Rattle.std.specs.Str.{bytes_eq}
use Rattle.std.proofs.lemmas.Bool.{false_from_ne_true}
use Rattle.std.proofs.lemmas.Bool.Decides.{nat_tests}
use Rattle.std.proofs.lemmas.List.Folds.{find-set, find_past, find-append}
use Rattle.std.proofs.lemmas.List.Quantifiers.{position-Some}
use Rattle.std.proofs.lemmas.Slice.Eq.{bytes_eq-Decides}
use Rattle.prefsql_io.specs.Files.{Files, PutsFile}

-- whether a file stands at this path
abbrev stands_at : List ℕ → List ℕ × List ℕ → Bool
stands_at path file = bytes_eq file.0 path

unequal : (a b : List ℕ) → a ≢ b → bytes_eq a b ≡ false
unequal a b differ = false_from_ne_true _ (λ e. differ ((bytes_eq-Decides a b).0 e))

position_or_len-Some : {X : Type 0} (p : X → Bool) (xs : List X) (k : ℕ) → position p xs ≡ Some k → k ≡ position_or_len p xs
position_or_len-Some p xs k is = cond_some (ltb (position_or_len p xs) (length xs)) (position_or_len p xs) k is where
  cond_some : (b : Bool) (m n : ℕ) → cond b (Some m) None ≡ Some n → n ≡ m
  cond_some true m n e = cc
  cond_some false m n e = cc

no_place : {X : Type 0} (b : Bool) (x : X) (more : Option X) (n m : ℕ) → (n ≤ m → more ≡ None) → suc n ≤ cond (not b) (1 + m) 0 → cond b (Some x) more ≡ None
no_place true x more n m later none = absurd (omega arith)
no_place false x more n m later past = later (omega arith)

find-past : {X : Type 0} (p : X → Bool) (xs : List X) → length xs ≤ position_or_len p xs → find p xs ≡ None
find-past p [] past = refl
find-past p (x ∷ xs) past = no_place (p x) x (find p xs) (length xs) (position_or_len p xs) (find-past p xs) past

find-none : {X : Type 0} (p : X → Bool) (xs : List X) → position p xs ≡ None → find p xs ≡ None
find-none p xs is = find-past p xs (grind (arith, nat_tests, is))

option_or-None : {X : Type 0} (o : Option X) → option_or o None ≡ o
option_or-None None = refl
option_or-None (Some x) = refl

-- in the place of the file that stands there
pub put_in_place : (files : Files) (path bytes : List ℕ) (k : ℕ) (old : List ℕ × List ℕ) → position (stands_at path) files ≡ Some k → old ≡ get_or files k old
    → PutsFile files (set files k (old.0, bytes)) path bytes
put_in_place files path bytes k old is here =
    let at = position-Some (stands_at path) files k old is in
    let same : bytes_eq old.0 path ≡ true = subst (λ (f : List ℕ × List ℕ). bytes_eq f.0 path ≡ true) (sym here) at.1 in
    record {
      put = ap (option_map (λ (file : List ℕ × List ℕ). file.1)) (find-set (stands_at path) files k (old.0, bytes) (position_or_len-Some (stands_at path) files k is) at.0 same);
      others = λ other differ.
          let apart : bytes_eq old.0 other ≡ false = unequal old.0 other (λ e. differ (sym e ∙ (bytes_eq-Decides old.0 path).0 same)) in
          ap (option_map (λ (file : List ℕ × List ℕ). file.1)) (find_past (stands_at other) files k (old.0, bytes) old (subst (λ (f : List ℕ × List ℕ). bytes_eq f.0 other ≡ false) here apart) apart);
    }

-- at the end, where none stands there
pub put_at_end : (files : Files) (path bytes : List ℕ) → position (stands_at path) files ≡ None → PutsFile files (files ++ (path, bytes) ∷ []) path bytes
put_at_end files path bytes is = record {
  put = let none : find (stands_at path) files ≡ None = find-none (stands_at path) files is in
      let same : bytes_eq path path ≡ true = (bytes_eq-Decides path path).1 refl in
      simp (find-append, none, same);
  others = λ other differ.
      let apart : bytes_eq path other ≡ false = unequal path other (λ e. differ (sym e)) in
      simp (find-append, apart, option_or-None);
}
