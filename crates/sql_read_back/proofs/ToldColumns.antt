-- A column that is told by its names is the one that its written name means.
use Rattle.std.proofs.Common.{◌≡◌, ℕ, zero, suc, ◌+◌, ◌<◌, ◌≤◌, Bool, true, false, not, ◌&&◌, ◌||◌, cond, List, [], ◌∷◌, ◌++◌, map, length, get_or, take, refl, sym, ap, ◌∙◌, subst, arith, eq-eqb, Some, append-nil}
use Rattle.std.specs.Prelude.{nat_lt, ◌==◌}
use Rattle.std.specs.List.{list_any, list_all, count_by}
use Rattle.std.specs.Str.{bytes_eq}
use Rattle.std.proofs.lemmas.Bool.{and_parts, and_from, not-true, false≢true, eqb-true, ltb-true}
use Rattle.std.proofs.lemmas.List.{length-map}
use Rattle.std.proofs.lemmas.List.Folds.{list_any_at}
use Rattle.std.proofs.lemmas.List.Sums.{sum_by-cons}
use Rattle.std.proofs.Math.ListN.{get_or-map}
use Rattle.std.proofs.lemmas.Slice.Eq.{bytes_eq-Decides}
use Rattle.sql_tree.specs.declared.tree.SqlPlace.{SqlPlace}
use Rattle.sql_tree.specs.Shown.{View, ShownItem, ShownColumn, number_shape}
use Rattle.sql_tree.specs.Shown as shown
use Rattle.sql_tree.specs.WellFormed.{is_name, all_differ, is_in_range, is_told, is_column}
use Rattle.sql_text.specs.Text.{Names, ItemNames, item_at, no_item}
use Rattle.sql_resolver.specs.NamesMeant.{positions_from, is_called, places_in, places_of}
use Rattle.sql_read_back.proofs.Found.{is_found, is_only}
use Rattle.sql_read_back.proofs.NamesShown.{item_of, shown_names}

-- ---- one column of a name

none_step : (t : Bool) (n at : ℕ) (rest : List ℕ) → (n ≡ 0 → rest ≡ []) → cond t 1 0 + n ≡ 0 → cond t (at ∷ []) [] ++ rest ≡ []
none_step true n at rest more e = absurd (omega arith)
none_step false n at rest more e = more (omega arith)

no_position : {A : Type 0} (test : A → Bool) (at : ℕ) (xs : List A) → count_by test xs ≡ 0 → positions_from at test xs ≡ []
no_position test at [] e = refl
no_position test at (x ∷ xs) e =
    none_step (test x) (count_by test xs) at (positions_from (at + 1) test xs) (no_position test (at + 1) xs) (sym (sum_by-cons (λ y. cond (test y) 1 0) x xs) ∙ e)

some_counted : {A : Type 0} (test : A → Bool) (d : A) (xs : List A) (c : ℕ) → c < length xs → test (get_or xs c d) ≡ true → 1 ≤ count_by test xs
some_counted test d [] c lt e = absurd (omega arith)
some_counted test d (x ∷ xs) zero lt e =
    let n : count_by test (x ∷ xs) ≡ 1 + count_by test xs = sum_by-cons (λ y. cond (test y) 1 0) x xs ∙ ap (λ t. cond t 1 0 + count_by test xs) e in
    omega (arith, n)
some_counted test d (x ∷ xs) (suc c) lt e =
    let n = sum_by-cons (λ y. cond (test y) 1 0) x xs in
    let more = some_counted test d xs c (omega (arith, lt)) e in
    omega (arith, n, more)

first_step : (t : Bool) (n at : ℕ) (rest : List ℕ) → t ≡ true → (n ≡ 0 → rest ≡ []) → cond t 1 0 + n ≡ 1 → cond t (at ∷ []) [] ++ rest ≡ (at + 0) ∷ []
first_step true n at rest is more e =
    let none : n ≡ 0 = omega arith in
    let same : at ≡ at + 0 = omega arith in
    ap (λ z. at ∷ z) (more none) ∙ ap (λ z. z ∷ []) same
first_step false n at rest is more e = absurd (false≢true is)

later_step : (t : Bool) (n at c : ℕ) (rest : List ℕ) → 1 ≤ n → (n ≡ 1 → rest ≡ ((at + 1) + c) ∷ []) → cond t 1 0 + n ≡ 1 → cond t (at ∷ []) [] ++ rest ≡ (at + suc c) ∷ []
later_step true n at c rest some more e = absurd (omega arith)
later_step false n at c rest some more e =
    let one : n ≡ 1 = omega arith in
    let same : (at + 1) + c ≡ at + suc c = omega arith in
    more one ∙ ap (λ z. z ∷ []) same

one_position : {A : Type 0} (test : A → Bool) (d : A) (at : ℕ) (xs : List A) (c : ℕ) → c < length xs → test (get_or xs c d) ≡ true → count_by test xs ≡ 1 → positions_from at test xs ≡ (at + c) ∷ []
one_position test d at [] c lt is e = absurd (omega arith)
one_position test d at (x ∷ xs) zero lt is e =
    first_step (test x) (count_by test xs) at (positions_from (at + 1) test xs) is (no_position test (at + 1) xs) (sym (sum_by-cons (λ y. cond (test y) 1 0) x xs) ∙ e)
one_position test d at (x ∷ xs) (suc c) lt is e =
    let within : c < length xs = omega (arith, lt) in
    later_step (test x) (count_by test xs) at c (positions_from (at + 1) test xs) (some_counted test d xs c within is) (one_position test d (at + 1) xs c within is) (sym (sum_by-cons (λ y. cond (test y) 1 0) x xs) ∙ e)

-- ---- one item of a name

no_item_step : (t r : Bool) (some rest : List SqlPlace) → (r ≡ false → rest ≡ []) → (t || r) ≡ false → cond t some [] ++ rest ≡ []
no_item_step true r some rest more e = absurd (false≢true (sym e))
no_item_step false r some rest more e = more e

no_item_called : (name column : List ℕ) (up at : ℕ) (items : List ItemNames) → list_any (is_called name) items ≡ false → places_in name (Some column) up at items ≡ []
no_item_called name column up at [] e = refl
no_item_called name column up at (x ∷ xs) e =
    no_item_step (is_called name x) (list_any (is_called name) xs) (map (λ c. record { up = up; item = at; column = c }) (positions_from 0 (bytes_eq column) x.columns)) (places_in name (Some column) up (at + 1) xs) (no_item_called name column up (at + 1) xs) e

abbrev pub item_names : List ItemNames → List (List ℕ)
item_names = map (λ (x : ItemNames). x.name)

any_name : (name : List ℕ) (xs : List ItemNames) → list_any (bytes_eq name) (item_names xs) ≡ list_any (is_called name) xs
any_name name [] = refl
any_name name (x ∷ xs) = ap (λ r. bytes_eq name x.name || r) (any_name name xs)

differ_here : (x : ItemNames) (xs : List ItemNames) → all_differ (item_names (x ∷ xs)) ≡ true → (list_any (is_called x.name) xs ≡ false) × (all_differ (item_names xs) ≡ true)
differ_here x xs e =
    let p = and_parts (not (list_any (bytes_eq x.name) (item_names xs))) (all_differ (item_names xs)) e in
    (sym (any_name x.name xs) ∙ not-true (list_any (bytes_eq x.name) (item_names xs)) p.0, p.1)

same_bytes : (a b : List ℕ) → a ≡ b → bytes_eq a b ≡ true
same_bytes a b e = (bytes_eq-Decides a b).1 e

not_true_false : (b : Bool) → (b ≡ true → ⊥) → b ≡ false
not_true_false true n = absurd (n refl)
not_true_false false n = refl

here_step : (t : Bool) (some rest : List SqlPlace) → t ≡ true → rest ≡ [] → cond t some [] ++ rest ≡ some
here_step true some rest is none = ap (λ z. some ++ z) none ∙ append-nil some
here_step false some rest is none = absurd (false≢true is)

later_item : (t : Bool) (some rest : List SqlPlace) → t ≡ false → cond t some [] ++ rest ≡ rest
later_item true some rest is = absurd (false≢true (sym is))
later_item false some rest is = refl

one_item_called : (name column : List ℕ) (up at : ℕ) (items : List ItemNames) (i : ℕ) → i < length items → (get_or items i no_item).name ≡ name → all_differ (item_names items) ≡ true →
    places_in name (Some column) up at items ≡ map (λ c. record { up = up; item = at + i; column = c }) (positions_from 0 (bytes_eq column) (get_or items i no_item).columns)
one_item_called name column up at [] i lt is differ = absurd (omega arith)
one_item_called name column up at (x ∷ xs) zero lt is differ =
    let ps = positions_from 0 (bytes_eq column) x.columns in
    let M : ℕ → List SqlPlace = λ a. map (λ c. record { up = up; item = a; column = c }) ps in
    let none : list_any (is_called name) xs ≡ false = subst (λ n. list_any (is_called n) xs ≡ false) is (differ_here x xs differ).0 in
    let same : at ≡ at + 0 = omega arith in
    here_step (is_called name x) (M at) (places_in name (Some column) up (at + 1) xs) (same_bytes name x.name (sym is)) (no_item_called name column up (at + 1) xs none) ∙ ap M same
one_item_called name column up at (x ∷ xs) (suc i) lt is differ =
    let within : i < length xs = omega (arith, lt) in
    let d = differ_here x xs differ in
    let y = get_or xs i no_item in
    let M : ℕ → List SqlPlace = λ a. map (λ c. record { up = up; item = a; column = c }) (positions_from 0 (bytes_eq column) y.columns) in
    let other : is_called name x ≡ false = not_true_false (is_called name x) (λ e.
    let named : x.name ≡ y.name = sym ((bytes_eq-Decides name x.name).0 e) ∙ sym is in
    false≢true (sym d.0 ∙ list_any_at (is_called x.name) xs i no_item within (same_bytes x.name y.name named))) in
    let same : (at + 1) + i ≡ at + suc i = omega arith in
    later_item (is_called name x) (map (λ c. record { up = up; item = at; column = c }) (positions_from 0 (bytes_eq column) x.columns)) (places_in name (Some column) up (at + 1) xs) other
    ∙ (one_item_called name column up (at + 1) xs i within is d.1 ∙ ap M same)

-- ---- scopes

-- in this scope: the item and the column of these names, and no other
pub record IsHere (s : List ItemNames) (i c : ℕ) (name column : List ℕ) : Type 0 where
  pub item_in : i < length s
  pub named : (get_or s i no_item).name ≡ name
  pub differ : all_differ (item_names s) ≡ true
  pub column_in : c < length (get_or s i no_item).columns
  pub is_column : get_or (get_or s i no_item).columns c [] ≡ column
  pub once : count_by (bytes_eq column) (get_or s i no_item).columns ≡ 1

-- so many scopes further out, and no item further in has the name
abbrev pub IsTold : Names → ℕ → ℕ → ℕ → List ℕ → List ℕ → Type 0
IsTold [] k i c name column = ⊥
IsTold (s ∷ outer) zero i c name column = IsHere s i c name column
IsTold (s ∷ outer) (suc k) i c name column = (list_any (is_called name) s ≡ false) × IsTold outer k i c name column

pub told_places : (names : Names) (u k i c : ℕ) (name column : List ℕ) → IsTold names k i c name column → places_of name (Some column) u names ≡ record { up = u + k; item = i; column = c } ∷ []
told_places [] u k i c name column t = absurd t
told_places (s ∷ outer) u zero i c name column t =
    let x = get_or s i no_item in
    let decided : list_any (is_called name) s ≡ true = list_any_at (is_called name) s i no_item t.item_in (same_bytes name x.name (sym t.named)) in
    let position : positions_from 0 (bytes_eq column) x.columns ≡ (0 + c) ∷ [] = one_position (bytes_eq column) [] 0 x.columns c t.column_in (same_bytes column (get_or x.columns c []) (sym t.is_column)) t.once in
    let P : ℕ → ℕ → ℕ → List SqlPlace = λ a b d. record { up = a; item = b; column = d } ∷ [] in
    let up : u ≡ u + 0 = omega arith in
    let item : 0 + i ≡ i = omega arith in
    let at : 0 + c ≡ c = omega arith in
    ap (λ d. cond d (places_in name (Some column) u 0 s) (places_of name (Some column) (u + 1) outer)) decided
    ∙ (one_item_called name column u 0 s i t.item_in t.named t.differ
    ∙ (ap (map (λ d. record { up = u; item = 0 + i; column = d })) position ∙ (ap (λ a. P a (0 + i) (0 + c)) up ∙ (ap (λ b. P (u + 0) b (0 + c)) item ∙ ap (λ d. P (u + 0) i d) at))))
told_places (s ∷ outer) u (suc k) i c name column t =
    let P : ℕ → List SqlPlace = λ a. record { up = a; item = i; column = c } ∷ [] in
    let same : (u + 1) + k ≡ u + suc k = omega arith in
    ap (λ d. cond d (places_in name (Some column) u 0 s) (places_of name (Some column) (u + 1) outer)) t.0 ∙ (told_places outer (u + 1) k i c name column t.1 ∙ ap P same)

-- ---- from what is shown

-- the names of the item are names
abbrev pub item_named : ShownItem → Bool
item_named item = is_name item.name && list_all is_name (shown_names item.columns)

pub record IsFineScope (s : List ShownItem) : Type 0 where
  pub named : list_all item_named s ≡ true
  pub differ : all_differ (map (λ (item : ShownItem). item.name) s) ≡ true

abbrev pub IsFineView : View → Type 0
IsFineView [] = Unit {0}
IsFineView (s ∷ view) = IsFineScope s × IsFineView view

abbrev none_shown : ShownItem
none_shown = record { name = []; columns = [] }

abbrev no_shown : ShownColumn
no_shown = record { name = []; shape = number_shape }

names_mapped : (s : List ShownItem) → item_names (map item_of s) ≡ map (λ (item : ShownItem). item.name) s
names_mapped [] = refl
names_mapped (x ∷ s) = ap (λ ns. x.name ∷ ns) (names_mapped s)

any_mapped : (name : List ℕ) (s : List ShownItem) → list_any (is_called name) (map item_of s) ≡ list_any (λ (other : ShownItem). bytes_eq name other.name) s
any_mapped name [] = refl
any_mapped name (x ∷ s) = ap (λ r. bytes_eq name x.name || r) (any_mapped name s)

count_mapped : (name : List ℕ) (cs : List ShownColumn) → count_by (bytes_eq name) (shown_names cs) ≡ count_by (λ (column : ShownColumn). bytes_eq name column.name) cs
count_mapped name [] = refl
count_mapped name (x ∷ cs) =
    sum_by-cons (λ y. cond (bytes_eq name y) 1 0) x.name (shown_names cs)
    ∙ (ap (λ n. cond (bytes_eq name x.name) 1 0 + n) (count_mapped name cs) ∙ sym (sum_by-cons (λ (column : ShownColumn). cond (bytes_eq name column.name) 1 0) x cs))

told_in : (view : View) (k i c : ℕ) → IsFineView view → k < length view → i < length (shown.items_at view k) → c < length (shown.item_at view k i).columns →
    count_by (λ (column : ShownColumn). bytes_eq (get_or (shown.item_at view k i).columns c no_shown).name column.name) (shown.item_at view k i).columns ≡ 1 →
    list_all (λ (items : List ShownItem). not (list_any (λ (other : ShownItem). bytes_eq (shown.item_at view k i).name other.name) items)) (take k view) ≡ true →
    IsTold (map (map item_of) view) k i c (shown.item_at view k i).name (get_or (shown.item_at view k i).columns c no_shown).name
told_in [] k i c fine up item column once inner = absurd (omega arith)
told_in (s ∷ view) zero i c fine up item column once inner =
    let x = get_or s i none_shown in
    let name = (get_or x.columns c no_shown).name in
    let e : get_or (map item_of s) i no_item ≡ item_of x = get_or-map item_of s i none_shown in
    let long : length (map item_of s) ≡ length s = length-map s item_of in
    let many : length (get_or (map item_of s) i no_item).columns ≡ length x.columns = ap (λ (y : ItemNames). length y.columns) e ∙ length-map x.columns (λ (column : ShownColumn). column.name) in
    record {
      item_in = omega (arith, long, item);
      named = ap (λ (y : ItemNames). y.name) e;
      differ = ap all_differ (names_mapped s) ∙ fine.0.differ;
      column_in = omega (arith, many, column);
      is_column = ap (λ (y : ItemNames). get_or y.columns c []) e ∙ get_or-map (λ (column : ShownColumn). column.name) x.columns c no_shown;
      once = ap (λ (y : ItemNames). count_by (bytes_eq name) y.columns) e ∙ (count_mapped name x.columns ∙ once);
    }
told_in (s ∷ view) (suc k) i c fine up item column once inner =
    let name = (shown.item_at view k i).name in
    let p = and_parts (not (list_any (λ (other : ShownItem). bytes_eq name other.name) s)) (list_all (λ (items : List ShownItem). not (list_any (λ (other : ShownItem). bytes_eq name other.name) items)) (take k view)) inner in
    (any_mapped name s ∙ not-true (list_any (λ (other : ShownItem). bytes_eq name other.name) s) p.0, told_in view k i c fine.1 (omega (arith, up)) item column once p.1)

all_at : {A : Type 0} (p : A → Bool) (d : A) (xs : List A) (i : ℕ) → i < length xs → list_all p xs ≡ true → p (get_or xs i d) ≡ true
all_at p d [] i lt e = absurd (omega arith)
all_at p d (x ∷ xs) zero lt e = (and_parts (p x) (list_all p xs) e).0
all_at p d (x ∷ xs) (suc i) lt e = all_at p d xs i (omega (arith, lt)) (and_parts (p x) (list_all p xs) e).1

named_at : (view : View) (k i : ℕ) → IsFineView view → k < length view → i < length (shown.items_at view k) → item_named (shown.item_at view k i) ≡ true
named_at [] k i fine up item = absurd (omega arith)
named_at (s ∷ view) zero i fine up item = all_at item_named none_shown s i item fine.0.named
named_at (s ∷ view) (suc k) i fine up item = named_at view k i fine.1 (omega (arith, up)) item

-- the written name of the column means it alone, and has names of a size that a token may have
pub record IsFound (names : Names) (place : SqlPlace) : Type 0 where
  pub found : is_found names place ≡ true
  pub item : is_name (item_at names place).name ≡ true
  pub column : is_name (get_or (item_at names place).columns place.column []) ≡ true

pub told_found : (view : View) (place : SqlPlace) → IsFineView view → is_column true view place ≡ true → IsFound (map (map item_of) view) place
told_found view place fine e =
    let both = and_parts (is_in_range view place) (is_told view place) e in
    let x = shown.item_at view place.up place.item in
    let col = (get_or x.columns place.column no_shown).name in
    let r = and_parts (nat_lt place.up (length view) && nat_lt place.item (length (shown.items_at view place.up))) (nat_lt place.column (length x.columns)) both.0 in
    let q = and_parts (nat_lt place.up (length view)) (nat_lt place.item (length (shown.items_at view place.up))) r.0 in
    let up : place.up < length view = ltb-true place.up (length view) q.0 in
    let item : place.item < length (shown.items_at view place.up) = ltb-true place.item (length (shown.items_at view place.up)) q.1 in
    let column : place.column < length x.columns = ltb-true place.column (length x.columns) r.1 in
    let n = count_by (λ (c : ShownColumn). bytes_eq col c.name) x.columns in
    let t = and_parts (n == 1) (list_all (λ (items : List ShownItem). not (list_any (λ (other : ShownItem). bytes_eq x.name other.name) items)) (take place.up view)) both.1 in
    let names : Names = map (map item_of) view in
    let told : IsTold names place.up place.item place.column x.name col = told_in view place.up place.item place.column fine up item column (eqb-true n 1 t.0) t.1 in
    let at : item_at names place ≡ item_of x =
    ap (λ (s : List ItemNames). get_or s place.item no_item) (get_or-map (map item_of) view place.up []) ∙ get_or-map item_of (shown.items_at view place.up) place.item none_shown in
    let named : (item_at names place).name ≡ x.name = ap (λ (y : ItemNames). y.name) at in
    let column_named : get_or (item_at names place).columns place.column [] ≡ col = ap (λ (y : ItemNames). get_or y.columns place.column []) at ∙ get_or-map (λ (c : ShownColumn). c.name) x.columns place.column no_shown in
    let fine_item = and_parts (is_name x.name) (list_all is_name (shown_names x.columns)) (named_at view place.up place.item fine up item) in
    let many : length (shown_names x.columns) ≡ length x.columns = length-map x.columns (λ (c : ShownColumn). c.name) in
    let fine_column : is_name col ≡ true = ap is_name (sym (get_or-map (λ (c : ShownColumn). c.name) x.columns place.column no_shown)) ∙ all_at is_name [] (shown_names x.columns) place.column (omega (arith, many, column)) fine_item.1 in
    let N : List ℕ → List ℕ → Bool = λ a b. is_only (places_of a (Some b) 0 names) place in
    let zero_up : 0 + place.up ≡ place.up = omega arith in
    record {
      found = ap (λ a. N a (get_or (item_at names place).columns place.column [])) named
          ∙ (ap (λ b. N x.name b) column_named
          ∙ (ap (λ ps. is_only ps place) (told_places names 0 place.up place.item place.column x.name col told)
          ∙ and_from (0 + place.up == place.up) (place.item == place.item && place.column == place.column) (eq-eqb (0 + place.up) place.up zero_up)
          (and_from (place.item == place.item) (place.column == place.column) (eq-eqb place.item place.item refl) (eq-eqb place.column place.column refl))));
      item = ap is_name named ∙ fine_item.0;
      column = ap is_name column_named ∙ fine_column;
    }
