-- A row that is put behind the rows of a table.
use Rattle.std.proofs.Common.{◌≡◌, ◌≢◌, ℕ, zero, suc, ◌+◌, ◌-◌, ◌≤◌, ◌<◌, ⊎_elim, List, [], ◌∷◌, ◌++◌, length, map, drop, take, get_or, set, refl, sym, ap, subst, ◌∙◌, arith, length-append}
use Rattle.std.proofs.lemmas.List.{get_or-map, get_or-set_other, get_or-set_same, get_or-take, get_or_append_left, get_or_default, get_or_push, length-map, length-drop, length-take-le, map-set}
use Rattle.std.proofs.Math.Seq.{map-set_same}
use Rattle.std.proofs.lemmas.Bool.{cases_eq}
use Rattle.prefsql_values.specs.declared.value.Domain.{Domain}
use Rattle.prefsql_values.specs.declared.value.Value.{Value}
use Rattle.prefsql_values.specs.declared.value.Value.TheVariants.{Null}
use Rattle.prefsql_tables.specs.CellsData.{Admits, CellsData}
use Rattle.prefsql_tables.specs.KeptTable.{AdmitRow, HaveRow, KeepRows, cell_kept, domains_of, values_in}
use Rattle.prefsql_tables.proofs.KeptLemmas.{values_are}

-- the first value that is left is the one at this place
pub record IsNext (row : List Value) (place : ℕ) (value : Value) (rest : List Value) : Type 0 where
  pub within : place < length row
  pub value_is : get_or row place Null ≡ value
  pub rest_is : drop (place + 1) row ≡ rest

pub next_left : (row : List Value) (place : ℕ) (value : Value) (rest : List Value) → value ∷ rest ≡ drop place row → IsNext row place value rest
next_left [] zero value rest left = absurd (cc)
next_left [] (suc place) value rest left = absurd (cc)
next_left (v ∷ row) zero value rest left = record { within = omega arith; value_is = sym (ap (λ (xs : List Value). get_or xs 0 Null) left); rest_is = sym (ap (drop 1) left) }
next_left (v ∷ row) (suc place) value rest left =
    let more = next_left row place value rest left in
    let within : place < length row = more.within in
    let further : suc place + 1 ≡ suc (place + 1) = omega arith in
    record { within = omega arith; value_is = more.value_is; rest_is = ap (λ (n : ℕ). drop n (v ∷ row)) further ∙ more.rest_is }

admit_at : (domains : List Domain) (row : List Value) (place : ℕ) (d : Domain) → AdmitRow domains row → place < length row → Admits (get_or domains place d) (get_or row place Null)
admit_at [] [] place d admit within = absurd (omega arith)
admit_at [] (value ∷ row) place d admit within = absurd admit
admit_at (domain ∷ domains) [] place d admit within = absurd admit
admit_at (domain ∷ domains) (value ∷ row) zero d admit within = admit.0
admit_at (domain ∷ domains) (value ∷ row) (suc place) d admit within = admit_at domains row place d admit.1 (omega arith)

admit_length : (domains : List Domain) (row : List Value) → AdmitRow domains row → length row ≡ length domains
admit_length [] [] admit = refl
admit_length [] (value ∷ row) admit = absurd admit
admit_length (domain ∷ domains) [] admit = absurd admit
admit_length (domain ∷ domains) (value ∷ row) admit = let more = admit_length domains row admit.1 in omega arith

-- a row is being put: the values before this place are in it, and these are left
pub record IsPutting (count : ℕ) (row : List Value) (initial columns : List CellsData) (place : ℕ) (left : List Value) : Type 0 where
  pub left_are : left ≡ drop place row
  pub keep : KeepRows count initial columns
  pub cells : (column : ℕ) → column < place → cell_kept columns count column ≡ get_or row column Null
  pub reach : (column : ℕ) → column < place → count < length (values_in columns column)

pub put_begins : (count : ℕ) (row : List Value) (columns : List CellsData) → IsPutting count row columns columns 0 row
put_begins count row columns = record {
  left_are = refl;
  keep = record { domains = refl; cells = λ _ _ _. refl; reach = λ _ far. far };
  cells = λ column early. absurd (omega arith);
  reach = λ column early. absurd (omega arith);
}

-- the column at this place is there and admits the value
pub record IsReady (columns : List CellsData) (place : ℕ) (value : Value) : Type 0 where
  pub there : place < length columns
  pub admits : (d : CellsData) → Admits (get_or columns place d).domain value

pub is_ready : (count : ℕ) (row : List Value) (initial columns : List CellsData) (place : ℕ) (value : Value) (rest : List Value)
    → AdmitRow (domains_of initial) row → IsPutting count row initial columns place (value ∷ rest) → IsReady columns place value
is_ready count row initial columns place value rest admitted putting =
    let next = next_left row place value rest putting.left_are in
    let within : place < length row = next.within in
    let wide : length row ≡ length (domains_of initial) = admit_length (domains_of initial) row admitted in
    let same : length (domains_of columns) ≡ length (domains_of initial) = ap length putting.keep.domains in
    let long : length (domains_of columns) ≡ length columns = length-map columns (λ (cells : CellsData). cells.domain) in
    let there : place < length columns = omega arith in
    record {
      there = there;
      admits = λ d. let at = admit_at (domains_of initial) row place d.domain admitted within in
          let domain : get_or (domains_of initial) place d.domain ≡ (get_or columns place d).domain = ap (λ (ds : List Domain). get_or ds place d.domain) (sym putting.keep.domains) ∙ get_or-map (λ (cells : CellsData). cells.domain) columns place d d.domain there in
          subst (λ (x : Value). Admits (get_or columns place d).domain x) next.value_is (subst (λ (x : Domain). Admits x (get_or row place Null)) domain at);
    }

-- a column that changes leaves the others
other_values : (columns : List CellsData) (place : ℕ) (cells : CellsData) (column : ℕ) → column ≢ place → values_in (set columns place cells) column ≡ values_in columns column
other_values columns place cells column other =
    ap (λ (xss : List (List Value)). get_or xss column []) (map-set (λ (c : CellsData). c.values) columns place cells)
    ∙ get_or-set_other (map (λ (c : CellsData). c.values) columns) place column cells.values [] other

own_values : (columns : List CellsData) (place : ℕ) (cells : CellsData) → place < length columns → values_in (set columns place cells) place ≡ cells.values
own_values columns place cells there =
    let long : length (map (λ (c : CellsData). c.values) columns) ≡ length columns = length-map columns (λ (c : CellsData). c.values) in
    ap (λ (xss : List (List Value)). get_or xss place []) (map-set (λ (c : CellsData). c.values) columns place cells)
    ∙ get_or-set_same (map (λ (c : CellsData). c.values) columns) place cells.values [] (omega arith)

keep_set : (count : ℕ) (columns : List CellsData) (place : ℕ) (cells : CellsData) → place < length columns → cells.domain ≡ (get_or columns place cells).domain
    → ((row : ℕ) → row < count → get_or cells.values row Null ≡ cell_kept columns row place) → (count ≤ length (values_in columns place) → count ≤ length cells.values)
    → KeepRows count columns (set columns place cells)
keep_set count columns place cells there domain same far = record {
  domains = map-set_same (λ (c : CellsData). c.domain) columns place cells cells domain;
  cells = λ row column early. ⊎_elim
      (λ here. ap (λ (k : ℕ). cell_kept (set columns place cells) row k) here ∙ ap (λ (xs : List Value). get_or xs row Null) (own_values columns place cells there) ∙ same row early ∙ ap (λ (k : ℕ). cell_kept columns row k) (sym here))
      (λ other. ap (λ (xs : List Value). get_or xs row Null) (other_values columns place cells column other))
      (cases_eq column place);
  reach = λ column. ⊎_elim
      (λ here. subst (λ (k : ℕ). count ≤ length (values_in columns k) → count ≤ length (values_in (set columns place cells) k)) (sym here) (rw (own_values columns place cells there) far))
      (λ other. rw (other_values columns place cells column other) (λ long. long))
      (cases_eq column place);
}

keep_both : (count : ℕ) (a b c : List CellsData) → KeepRows count a b → KeepRows count b c → KeepRows count a c
keep_both count a b c first second = record {
  domains = second.domains ∙ first.domains;
  cells = λ row column early. second.cells row column early ∙ first.cells row column early;
  reach = λ column long. second.reach column (first.reach column long);
}

put_values : (count : ℕ) (xs : List Value) (value : Value) (row : ℕ) → count ≤ length xs → row < count → get_or (take count xs ++ value ∷ []) row Null ≡ get_or xs row Null
put_values count xs value row long early =
    let size : length (take count xs) ≡ count = length-take-le count xs long in
    get_or_append_left (take count xs) (value ∷ []) Null row (omega arith) ∙ get_or-take count xs row Null early

put_last : (count : ℕ) (xs : List Value) (value : Value) → count ≤ length xs → get_or (take count xs ++ value ∷ []) count Null ≡ value
put_last count xs value long = get_or_push (take count xs) value Null count (length-take-le count xs long)

put_length : (count : ℕ) (xs : List Value) (value : Value) → count ≤ length xs → length (take count xs ++ value ∷ []) ≡ count + 1
put_length count xs value long =
    let size : length (take count xs) ≡ count = length-take-le count xs long in
    let more : length (take count xs ++ value ∷ []) ≡ length (take count xs) + 1 = length-append (take count xs) (value ∷ []) in
    omega arith

-- want of memory leaves the first rows as they were
pub put_stops : (count : ℕ) (row : List Value) (initial columns : List CellsData) (place : ℕ) (value : Value) (rest : List Value) (old new : CellsData)
    → AdmitRow (domains_of initial) row → IsPutting count row initial columns place (value ∷ rest) → old ≡ get_or columns place old
    → new ≡ record old { values = take count old.values } → KeepRows count initial (set columns place new)
put_stops count row initial columns place value rest old new admitted putting old_is new_is =
    let ready = is_ready count row initial columns place value rest admitted putting in
    let there : place < length columns = ready.there in
    let own : (d : CellsData) → (get_or columns place d).values ≡ values_in columns place = λ d. values_are columns place d there in
    let olds : old.values ≡ values_in columns place = ap (λ (c : CellsData). c.values) old_is ∙ own old in
    let news : new.values ≡ take count (values_in columns place) = ap (λ (c : CellsData). c.values) new_is ∙ ap (take count) olds in
    let at : get_or columns place old ≡ get_or columns place new = get_or_default columns place old new there in
    let domain : new.domain ≡ (get_or columns place new).domain = ap (λ (c : CellsData). c.domain) new_is ∙ ap (λ (c : CellsData). c.domain) (old_is ∙ at) in
    keep_both count initial columns (set columns place new) putting.keep
    (keep_set count columns place new there domain
    (λ k early. ap (λ (xs : List Value). get_or xs k Null) news ∙ get_or-take count (values_in columns place) k Null early)
    (λ long. let size : length (take count (values_in columns place)) ≡ count = length-take-le count (values_in columns place) long in
    let same : length new.values ≡ length (take count (values_in columns place)) = ap length news in
    omega arith))

-- one value more is in the row
pub put_more : (count : ℕ) (row : List Value) (initial columns : List CellsData) (place : ℕ) (value : Value) (rest : List Value) (old new : CellsData)
    → AdmitRow (domains_of initial) row → ((column : ℕ) → column < length row → count ≤ length (values_in initial column))
    → IsPutting count row initial columns place (value ∷ rest) → old ≡ get_or columns place old
    → new ≡ record old { values = take count old.values ++ value ∷ [] } → IsPutting count row initial (set columns place new) (place + 1) rest
put_more count row initial columns place value rest old new admitted reach putting old_is new_is =
    let ready = is_ready count row initial columns place value rest admitted putting in
    let next = next_left row place value rest putting.left_are in
    let there : place < length columns = ready.there in
    let vs = values_in columns place in
    let own : (d : CellsData) → (get_or columns place d).values ≡ values_in columns place = λ d. values_are columns place d there in
    let olds : old.values ≡ vs = ap (λ (c : CellsData). c.values) old_is ∙ own old in
    let news : new.values ≡ take count vs ++ value ∷ [] = ap (λ (c : CellsData). c.values) new_is ∙ ap (λ (xs : List Value). take count xs ++ value ∷ []) olds in
    let at : get_or columns place old ≡ get_or columns place new = get_or_default columns place old new there in
    let domain : new.domain ≡ (get_or columns place new).domain = ap (λ (c : CellsData). c.domain) new_is ∙ ap (λ (c : CellsData). c.domain) (old_is ∙ at) in
    let long : count ≤ length vs = putting.keep.reach place (reach place next.within) in
    let size : length new.values ≡ count + 1 = ap length news ∙ put_length count vs value long in
    let set_is : values_in (set columns place new) place ≡ new.values = own_values columns place new there in
    record {
      left_are = sym next.rest_is;
      keep = keep_both count initial columns (set columns place new) putting.keep
          (keep_set count columns place new there domain
          (λ k early. ap (λ (xs : List Value). get_or xs k Null) news ∙ put_values count vs value k long early)
          (λ _. omega arith));
      cells = λ column early. ⊎_elim
          (λ here. ap (λ (k : ℕ). cell_kept (set columns place new) count k) here ∙ ap (λ (xs : List Value). get_or xs count Null) (set_is ∙ news) ∙ put_last count vs value long
          ∙ sym next.value_is ∙ ap (λ (k : ℕ). get_or row k Null) (sym here))
          (λ other. ap (λ (xs : List Value). get_or xs count Null) (other_values columns place new column other) ∙ putting.cells column (let less : column < place + 1 = early in omega arith))
          (cases_eq column place);
      reach = λ column early. ⊎_elim
          (λ here. subst (λ (k : ℕ). count < length (values_in (set columns place new) k)) (sym here) (rw set_is (let big = size in omega arith)))
          (λ other. rw (other_values columns place new column other) (putting.reach column (omega arith)))
          (cases_eq column place);
    }

-- all values are in the row
pub put_done : (count : ℕ) (row : List Value) (initial columns : List CellsData) (place : ℕ) (left : List Value) → left ≡ [] → IsPutting count row initial columns place left → HaveRow count row columns
put_done count row initial columns place left none putting =
    let size : length (drop place row) ≡ length row - place = length-drop place row in
    let empty : length (drop place row) ≡ 0 = ap length (sym putting.left_are ∙ none) in
    record {
      cells = λ column within. putting.cells column (omega arith);
      reach = λ column within. putting.reach column (omega arith);
    }
