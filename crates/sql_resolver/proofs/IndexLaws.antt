-- What the index of a scope tells.
use Rattle.std.proofs.Common.{◌≡◌, ℕ, ◌+◌, Bool, true, false, cond, ◌&&◌, ◌||◌, Option, Some, None, List, [], ◌∷◌, ◌++◌, length, refl, sym, ap, ◌∙◌, arith, is_some, if◌then◌else◌, String, string_bytes, string_eq}
use Rattle.std.specs.List.{list_any}
use Rattle.std.specs.Option.{option_eq, option_map}
use Rattle.std.specs.Str.{bytes_eq}
use Rattle.std.specs.declared.alloc.Global.{Global}
use Rattle.std.specs.Cmp.Lexicographic.{bytes_decides, nat_list_eq_equiv}
use Rattle.std.proofs.lemmas.Bool.{cond-false}
use Rattle.std.proofs.lemmas.List.Folds.{list_any-append}
use Rattle.sql_text.specs.Text.{ItemNames}
use Rattle.sql_tree.specs.declared.tree.SqlPlace.{SqlPlace}
use Rattle.sql_resolver.specs.Index.{IsKeyOf, can_mean, key_first, key_second, same_key}
use Rattle.sql_resolver.specs.Meant.{meaning, one_more}
use Rattle.sql_resolver.specs.NamesMeant.{decides, is_called, places_in, positions_from}
use Rattle.sql_resolver.specs.Scope.{ScopeColumn}
use Rattle.sql_resolver.specs.declared.index.NameKey.{NameKey}
use Rattle.sql_resolver.specs.declared.meaning.Meaning.{Meaning}
use Rattle.sql_resolver.proofs.MeaningLaws.{and_both, and_false, and_true, grown, meant_some, or_turned}
use Rattle.sql_resolver.proofs.PlaceLaws.{positions_push, some_place}

-- ---- keys

-- whether two names are the same
abbrev same_name : List ℕ → Option (List ℕ) → List ℕ → Option (List ℕ) → Bool
same_name a b c d = bytes_eq a c && option_eq bytes_eq b d

same_by_name : (a b : NameKey) → same_key a b ≡ same_name (key_first a) (key_second a) (key_first b) (key_second b)
same_by_name a b = by a.second b.second
  where
    by : (c d : Option (String Global)) → (string_eq a.first b.first && option_eq string_eq c d) ≡ same_name (key_first a) (option_map string_bytes c) (key_first b) (option_map string_bytes d)
    by None None = refl
    by None (Some d) = refl
    by (Some c) None = refl
    by (Some c) (Some d) = refl

by_name : (first : List ℕ) (second : Option (List ℕ)) (a b : NameKey) → IsKeyOf first second a → same_key a b ≡ same_name first second (key_first b) (key_second b)
by_name first second a b is = same_by_name a b ∙ (λ i. same_name (is.first_part i) (is.second_part i) (key_first b) (key_second b))

-- after a column is added by both of its names
pub both_added : (places : List ℕ → Option (List ℕ) → List SqlPlace) (called name : List ℕ) (place : SqlPlace) (bare full : NameKey) (before between after : NameKey → Option (Meaning SqlPlace))
    → IsKeyOf name None bare → IsKeyOf called (Some name) full
    → ((key : NameKey) → before key ≡ meaning (places (key_first key) (key_second key)))
    → ((key : NameKey) → between key ≡ (if same_key bare key then Some (one_more (before bare) place) else before key))
    → ((key : NameKey) → after key ≡ (if same_key full key then Some (one_more (between full) place) else between key))
    → (key : NameKey) → after key ≡ meaning (places (key_first key) (key_second key) ++ (if can_mean called name (key_first key) (key_second key) then place ∷ [] else []))
both_added places called name place bare full before between after is_bare is_full told first_put second_put key = by (key_second key) refl
  where
    f : List ℕ
    f = key_first key

    -- the key of the column alone stands for no name of two parts
    apart : (other : NameKey) (part : List ℕ) → key_second other ≡ Some part → between other ≡ before other
    apart other part e =
        first_put other
        ∙ cond-false (same_key bare other) (Some (one_more (before bare) place)) (before other)
        (by_name name None bare other is_bare ∙ ap (same_name name None (key_first other)) e ∙ and_false (bytes_eq name (key_first other)))

    by : (s : Option (List ℕ)) → key_second key ≡ s → after key ≡ meaning (places f (key_second key) ++ (if can_mean called name f (key_second key) then place ∷ [] else []))
    by None e =
        let is : same_key bare key ≡ bytes_eq name f = by_name name None bare key is_bare ∙ ap (same_name name None f) e ∙ and_true (bytes_eq name f) in
        second_put key
        ∙ cond-false (same_key full key) (Some (one_more (between full) place)) (between key)
        (by_name called (Some name) full key is_full ∙ ap (same_name called (Some name) f) e ∙ and_false (bytes_eq called f))
        ∙ first_put key
        ∙ grown (same_key bare key) (can_mean called name f (key_second key)) (before bare) (before key) (places f (key_second key)) place
        (is ∙ nat_list_eq_equiv.symm name f ∙ sym (ap (can_mean called name f) e))
        (told key)
        (λ holds.
        let same : name ≡ f = (bytes_decides name f).0 (sym is ∙ holds) in
        told bare ∙ (λ i. meaning (places ((is_bare.first_part ∙ same) i) ((is_bare.second_part ∙ sym e) i))))
    by (Some part) e =
        let is : same_key full key ≡ (bytes_eq called f && bytes_eq name part) = by_name called (Some name) full key is_full ∙ ap (same_name called (Some name) f) e in
        second_put key
        ∙ grown (same_key full key) (can_mean called name f (key_second key)) (between full) (between key) (places f (key_second key)) place
        (is ∙ (λ i. nat_list_eq_equiv.symm called f i && nat_list_eq_equiv.symm name part i) ∙ sym (ap (can_mean called name f) e))
        (apart key part e ∙ told key)
        (λ holds.
        let both = and_both (bytes_eq called f) (bytes_eq name part) (sym is ∙ holds) in
        let same_item : called ≡ f = (bytes_decides called f).0 both.0 in
        let same_column : name ≡ part = (bytes_decides name part).0 both.1 in
        apart full name is_full.second_part ∙ told full
        ∙ (λ i. meaning (places ((is_full.first_part ∙ same_item) i) ((is_full.second_part ∙ ap Some same_column ∙ sym e) i))))

-- ---- items

pub called_more : (before after : List ℕ → Bool) (items : List ItemNames) (item : ItemNames) (new : List ℕ) → new ≡ item.name
    → ((name : List ℕ) → before name ≡ list_any (is_called name) items) → ((name : List ℕ) → after name ≡ cond (bytes_eq new name) true (before name))
    → (name : List ℕ) → after name ≡ list_any (is_called name) (items ++ item ∷ [])
called_more before after items item new same told put name =
    put name
    ∙ or_turned (bytes_eq new name) (before name) (bytes_eq name item.name) (nat_list_eq_equiv.symm new name ∙ ap (bytes_eq name) same)
    ∙ ap (λ b. b || (bytes_eq name item.name || false)) (told name)
    ∙ sym (list_any-append (is_called name) items (item ∷ []))

pub decides_bare : (key : NameKey) (items : List ItemNames) (found : Option (Meaning SqlPlace)) → key.second ≡ None
    → found ≡ meaning (places_in (key_first key) (key_second key) 0 0 items) → is_some found ≡ decides (key_first key) (key_second key) items
decides_bare key items found bare is =
    let none : key_second key ≡ None = ap (option_map string_bytes) bare in
    ap is_some (is ∙ ap (λ s. meaning (places_in (key_first key) s 0 0 items)) none)
    ∙ meant_some (places_in (key_first key) None 0 0 items)
    ∙ some_place (key_first key) 0 0 items
    ∙ ap (λ s. decides (key_first key) s items) (sym none)

pub decides_called : (key : NameKey) (items : List ItemNames) (part : String Global) → key.second ≡ Some part
    → list_any (is_called (key_first key)) items ≡ decides (key_first key) (key_second key) items
decides_called key items part full = ap (λ s. decides (key_first key) (option_map string_bytes s) items) (sym full)

-- ---- output columns

pub shown_more : (before after : List ℕ → Option (Meaning ℕ)) (columns : List ScopeColumn) (column : ScopeColumn) (new : List ℕ) (listed : Meaning ℕ) (place : ℕ)
    → new ≡ column.name → place ≡ length columns
    → ((name : List ℕ) → before name ≡ meaning (positions_from 0 (λ (c : ScopeColumn). bytes_eq name c.name) columns))
    → listed ≡ one_more (before new) place
    → ((name : List ℕ) → after name ≡ cond (bytes_eq new name) (Some listed) (before name))
    → (name : List ℕ) → after name ≡ meaning (positions_from 0 (λ (c : ScopeColumn). bytes_eq name c.name) (columns ++ column ∷ []))
shown_more before after columns column new listed place same at told is put name =
    let test : ScopeColumn → Bool = λ c. bytes_eq name c.name in
    let behind : place ≡ 0 + length columns = omega (arith, at) in
    put name
    ∙ ap (λ m. cond (bytes_eq new name) (Some m) (before name)) is
    ∙ grown (bytes_eq new name) (bytes_eq name column.name) (before new) (before name) (positions_from 0 test columns) place
    (nat_list_eq_equiv.symm new name ∙ ap (bytes_eq name) same)
    (told name)
    (λ holds. told new ∙ ap (λ n. meaning (positions_from 0 (λ (c : ScopeColumn). bytes_eq n c.name) columns)) ((bytes_decides new name).0 holds))
    ∙ ap (λ n. meaning (positions_from 0 test columns ++ (if bytes_eq name column.name then n ∷ [] else []))) behind
    ∙ ap meaning (sym (positions_push 0 test columns column))
