-- Names that differ, and what tells a column by them.
use Rattle.std.proofs.Common.{◌≡◌, ◌≢◌, ℕ, zero, suc, ◌+◌, ◌<◌, ◌^◌, true, false, cond, not, List, [], ◌∷◌, ◌++◌, map, length, get_or, All, refl, sym, ap, ◌∙◌, arith, inl, inr}
use Rattle.std.specs.Fmt.{decimal}
use Rattle.std.specs.List.{count_by}
use Rattle.std.specs.Prelude.{AllPairs}
use Rattle.std.specs.Str.{bytes_eq, chars}
use Rattle.std.proofs.lemmas.Bool.{and_from, false_from_ne_true, le-leb}
use Rattle.std.proofs.lemmas.Fmt.{IsAscii-decimal, decimal_injective, length-decimal-le}
use Rattle.std.proofs.lemmas.List.Elements.{All-contains}
use Rattle.std.proofs.lemmas.List.Sums.{sum_by-cons}
use Rattle.std.proofs.lemmas.Slice.Eq.{bytes_eq-Decides}
use Rattle.std.proofs.lemmas.Str.{chars-IsAscii}
use Rattle.std.proofs.lemmas.Str.Ascii.{IsAscii-cons}
use Rattle.prefsql_values.specs.Limits.{IsName}
use Rattle.order_laws.proofs.Members.{Among, Contains_from_among, among_either, none_from}
use Rattle.sql_tree.specs.Shown.{ShownColumn}
use Rattle.sql_tree.specs.WellFormed.{all_differ, is_name}
use Rattle.rewritten_query.specs.Names.{lettered}

-- ---- names that differ

-- no two of them are equal
abbrev pub Differ : List (List ℕ) → Type 0
Differ [] = Unit {0}
Differ (name ∷ names) = ((other : List ℕ) → Among names other → name ≢ other) × Differ names

pub differ_from_pairs : (names : List (List ℕ)) → AllPairs (λ (a b : List ℕ). a ≢ b) names → Differ names
differ_from_pairs [] apart = tt
differ_from_pairs (name ∷ names) apart = (
  (λ other there same.
      let at = Contains_from_among names other there in
      let later : suc at.0 < length (name ∷ names) = omega (arith, at.1) in
      apart 0 (suc at.0) other (omega arith) later (same ∙ sym at.2)),
  differ_from_pairs names (λ i j d before within. apart (suc i) (suc j) d (omega (arith, before)) (omega (arith, within))),
)

pub differ_joined : (xs ys : List (List ℕ)) → Differ xs → Differ ys → ((x y : List ℕ) → Among xs x → Among ys y → x ≢ y) → Differ (xs ++ ys)
differ_joined [] ys first second apart = second
differ_joined (x ∷ xs) ys first second apart = (
  (λ other there. elim (among_either xs ys other there) [ inl here ↦ first.0 other here | inr more ↦ apart x other (inl refl) more ]),
  differ_joined xs ys first.1 second (λ a b there more. apart a b (inr there) more),
)

pub all_differ_from : (names : List (List ℕ)) → Differ names → all_differ names ≡ true
all_differ_from [] apart = refl
all_differ_from (name ∷ names) apart =
    and_from _ _
    (ap not (none_from (bytes_eq name) names (λ other there same. apart.0 other there ((bytes_eq-Decides name other).0 same))))
    (all_differ_from names apart.1)

-- ---- columns told by their names

count_none : (name : List ℕ) (columns : List ShownColumn) → ((column : ShownColumn) → Among columns column → name ≢ column.name) → count_by (λ (column : ShownColumn). bytes_eq name column.name) columns ≡ 0
count_none name [] apart = refl
count_none name (column ∷ columns) apart =
    let other : bytes_eq name column.name ≡ false = false_from_ne_true (bytes_eq name column.name) (λ same. apart column (inl refl) ((bytes_eq-Decides name column.name).0 same)) in
    sum_by-cons (λ (c : ShownColumn). cond (bytes_eq name c.name) 1 0) column columns
    ∙ (λ j. cond (other j) 1 0 + count_none name columns (λ c there. apart c (inr there)) j)

abbrev pub ColumnsDiffer : List ShownColumn → Type 0
ColumnsDiffer [] = Unit {0}
ColumnsDiffer (column ∷ columns) = ((other : ShownColumn) → Among columns other → column.name ≢ other.name) × ColumnsDiffer columns

pub columns_differ : (columns : List ShownColumn) → Differ (map (λ (column : ShownColumn). column.name) columns) → ColumnsDiffer columns
columns_differ [] apart = tt
columns_differ (column ∷ columns) apart = ((λ other there. apart.0 other.name (named columns other there)), columns_differ columns apart.1)
  where
    named : (cs : List ShownColumn) (c : ShownColumn) → Among cs c → Among (map (λ (d : ShownColumn). d.name) cs) c.name
    named [] c there = absurd there
    named (d ∷ cs) c (inl is) = inl (ap (λ (e : ShownColumn). e.name) is)
    named (d ∷ cs) c (inr more) = inr (named cs c more)

pub among_at : {X : Type 0} (xs : List X) (k : ℕ) (d : X) → k < length xs → Among xs (get_or xs k d)
among_at [] k d within = absurd (omega (arith, within))
among_at (x ∷ xs) zero d within = inl refl
among_at (x ∷ xs) (suc k) d within = inr (among_at xs k d (omega (arith, within)))

-- one column has the name of the one at a position
pub told_once : (columns : List ShownColumn) → ColumnsDiffer columns → (k : ℕ) (d : ShownColumn) → k < length columns
    → count_by (λ (column : ShownColumn). bytes_eq (get_or columns k d).name column.name) columns ≡ 1
told_once [] apart k d within = absurd (omega (arith, within))
told_once (column ∷ columns) apart zero d within =
    let same : bytes_eq column.name column.name ≡ true = (bytes_eq-Decides column.name column.name).1 refl in
    sum_by-cons (λ (c : ShownColumn). cond (bytes_eq column.name c.name) 1 0) column columns
    ∙ (λ j. cond (same j) 1 0 + count_none column.name columns apart.0 j)
told_once (column ∷ columns) apart (suc k) d within =
    let at = get_or columns k d in
    let small : k < length columns = omega (arith, within) in
    let other : bytes_eq at.name column.name ≡ false =
    false_from_ne_true (bytes_eq at.name column.name) (λ same. apart.0 at (among_at columns k d small) (sym ((bytes_eq-Decides at.name column.name).0 same)))
    in
    sum_by-cons (λ (c : ShownColumn). cond (bytes_eq at.name c.name) 1 0) column columns
    ∙ (λ j. cond (other j) 1 0 + told_once columns apart.1 k d small j)

-- ---- a letter and a number

pub is_name_from : (text : List ℕ) → IsName text → is_name text ≡ true
is_name_from text is = and_from _ _ (le-leb 1 (length (chars text)) is.not_empty) (le-leb (length (chars text)) 64 is.short)

pub all_names : (names : List (List ℕ)) → All IsName names → (name : List ℕ) → Among names name → is_name name ≡ true
all_names names are name there = is_name_from name (All-contains IsName names name are (Contains_from_among names name there))

pub lettered_name : (letter n : ℕ) → letter < 128 → n < 2 ^ 32 → is_name (lettered letter n) ≡ true
lettered_name letter n ascii small =
    let whole = ap length (chars-IsAscii (lettered letter n) (IsAscii-cons letter (decimal n) ascii (IsAscii-decimal n (omega (arith, small))))) in
    let digits = length-decimal-le 20 n (omega arith) (omega (arith, small)) (omega (arith, small)) in
    is_name_from (lettered letter n) (record { not_empty = omega (arith, whole); short = omega (arith, whole, digits) })

pub lettered_letter : (a b m n : ℕ) → lettered a m ≡ lettered b n → a ≡ b
lettered_letter a b m n same = cc

pub lettered_number : (a b m n : ℕ) → m < 2 ^ 32 → n < 2 ^ 32 → lettered a m ≡ lettered b n → m ≡ n
lettered_number a b m n m_small n_small same =
    let digits : decimal m ≡ decimal n = cc in
    decimal_injective m n (omega (arith, m_small)) (omega (arith, n_small)) digits
