-- Queries, statements and scripts are written by their forms.
use Rattle.std.proofs.Common.{◌≡◌, ℕ, ℤ, pos, ◌+◌, Bool, true, false, List, [], ◌∷◌, ◌++◌, map, refl, sym, ap, subst, Option, Some, None}
use Rattle.grammar_forms.specs.Form.{both, option, rule}
use Rattle.prefsql_lexer.specs.declared.token.TokenKind.TheVariants.{Number}
use Rattle.prefsql_lexer.specs.declared.token.Keyword.TheVariants as word
use Rattle.prefsql_lexer.specs.declared.token.Symbol.TheVariants as symbol
use Rattle.prefsql_values.specs.Limits.{IsName, IsUnsignedShort}
use Rattle.prefsql_tables.specs.declared.place.SortKey.{SortKey}
use Rattle.query_tree.specs.declared.query.FromTree.{FromTree}
use Rattle.query_tree.specs.declared.query.OrderTree.{OrderTree}
use Rattle.query_tree.specs.declared.query.OrderName.{OrderName}
use Rattle.query_tree.specs.declared.query.OrderName.TheVariants.{Position}
use Rattle.sql_text.specs.declared.named.NamedCond.{NamedCond}
use Rattle.sql_text.specs.declared.named.NamedScalar.{NamedScalar}
use Rattle.sql_text.specs.declared.named.NamedSelect.{NamedSelect, All, Items}
use Rattle.sql_text.specs.declared.named.NamedFrom.{NamedFrom, Table, Derived}
use Rattle.sql_text.specs.declared.named.NamedItem.{NamedItem}
use Rattle.sql_text.specs.declared.named.NamedQuery.{NamedQuery}
use Rattle.sql_text.specs.declared.named.NamedStatement.{NamedStatement}
use Rattle.sql_text.specs.Grammar.{Grammar, query_rule, cond, sum, item, item_tree, list, derived, derived_tree, from, from_items, filter, query, query_tree, statement, statement_tree, ended}
use Rattle.sql_text.specs.Pieces.{Piece, space, mark}
use Rattle.sql_text.specs.Text.{symbol_mark, name_mark, word_of, ◌⎵◌, in_parentheses, listed, distinct_if, direction_word, key_pieces, order_pieces}
use Rattle.sql_read_back.proofs.Apart.{Follows, apart_mark, follows_none, follows_space, follows_comma, follows_semicolon}
use Rattle.sql_read_back.proofs.Placed.{Each, placed_token}
use Rattle.sql_read_back.proofs.WrittenForms.{Written, AllWritten, mapped, left, right, absent, there, nested, after_space, name_written, symbol_written, word_at_written, word_written, sequence, spaced, behind_word, before, beside, enclosed, joined_written, comma_between}
use Rattle.token_forms.specs.Forms.{◌⨟◌, ◌⨟>◌, ◌<$>◌, ◌∣◌, Named, name, number, word_at, symbol_only, word_only, separated, comma, in_parens, text_of, present, or_none}
use Rattle.token_forms.specs.Columns.{direction, order, orders, named_key, position_key, if_written, order_tree}
use Rattle.token_forms.specs.Phrases.{alias, from_tree, distinctness, ordering, from as table}

-- ---- names behind AS

as_name : (t : List ℕ) → IsName t → Written (option (word_only word.As) ⨟> name) (word_of word.As ⎵ (name_mark t ∷ [])) (λ (v : Named). v.0 ≡ t)
as_name t is =
    let P : Named → Type 0 = λ v. v.0 ≡ t in
    mapped (λ p. p.1) (both (option (word_only word.As)) name) (word_of word.As ⎵ (name_mark t ∷ [])) (λ p. P p.1) P (λ v q. q)
    (spaced (option (word_only word.As)) name (word_of word.As) (name_mark t ∷ []) (λ _. Unit {0}) P (λ p. P p.1) (λ a b p q. q) (there (word_only word.As) (word_of word.As) (λ _. Unit {0}) (λ _. Unit {0}) (λ v q. tt) (word_written word.As)) (name_written t is))

-- the name that is written
pub record IsNamed (t : List ℕ) (o : Option Named) : Type 0 where
  pub named : Named
  pub is : o ≡ Some named
  pub same : named.0 ≡ t

alias_written : (t : List ℕ) → IsName t → Written alias (word_of word.As ⎵ (name_mark t ∷ [])) (IsNamed t)
unfolding alias
alias_written t is = there (option (word_only word.As) ⨟> name) (word_of word.As ⎵ (name_mark t ∷ [])) (λ (v : Named). v.0 ≡ t) (IsNamed t) (λ v q. record { named = v; is = refl; same = q }) (as_name t is)

-- ---- items

pub item_written : (v : List Piece) (t : List ℕ) (P : NamedScalar → Type 0) (R : NamedItem → Type 0) → IsName t → ((s : NamedScalar) → P s → R (record { value = s; name = Some t })) → Written sum v P → Written item (v ⎵ word_of word.As ⎵ (name_mark t ∷ [])) R
unfolding item
item_written v t P R is holds w =
    let whole = v ⎵ word_of word.As ⎵ (name_mark t ∷ []) in
    mapped item_tree (both sum alias) whole (λ p. P p.0 × IsNamed t p.1) R (λ p q. called p.0 p.1 q.0 q.1)
    (spaced sum alias v (word_of word.As ⎵ (name_mark t ∷ [])) P (IsNamed t) (λ p. P p.0 × IsNamed t p.1) (λ a b p q. (p, q)) w (alias_written t is))
  where
    called : (s : NamedScalar) (o : Option Named) → P s → IsNamed t o → R (item_tree (s, o))
    called s o p q =
        let K : Option Named → Type 0 = λ z. R (record { value = s; name = text_of z }) in
        let L : List ℕ → Type 0 = λ z. R (record { value = s; name = Some z }) in
        subst K (sym q.is) (subst L (sym q.same) (holds s p))

pub list_written : {X : Type 0} (pieces : X → List Piece) (P : X → NamedItem → Type 0) (R : NamedSelect → Type 0) (x : X) (xs : List X) → ((vs : List NamedItem) → Each P (x ∷ xs) vs → R (Items vs)) → AllWritten item pieces P (x ∷ xs) →
    Written list (listed (map pieces (x ∷ xs))) R
unfolding list
list_written pieces P R x xs holds all =
    let ps = listed (map pieces (x ∷ xs)) in
    right ((λ _. All) <$> symbol_only symbol.Star) (Items <$> separated comma item) ps R
    (mapped Items (separated comma item) ps (Each P (x ∷ xs)) R holds
    (joined_written comma (symbol_mark symbol.Comma ∷ space ∷ []) item (λ qs K w. comma_between item qs K w) (λ qs. follows_comma (space ∷ qs)) pieces P x xs all))

-- ---- FROM items

pub table_written : (t n : List ℕ) (R : NamedFrom → Type 0) → IsName t → IsName n → ((at name_at : ℕ) → R (Table (record { table = t; name = Some n; at = at; name_at = name_at }))) → Written from (name_mark t ∷ [] ⎵ word_of word.As ⎵ (name_mark n ∷ [])) R
unfolding from table
table_written t n R is_table is_name holds =
    let whole = name_mark t ∷ [] ⎵ word_of word.As ⎵ (name_mark n ∷ []) in
    let C : FromTree → Type 0 = λ v. R (Table v) in
    let P : Named → Type 0 = λ v. v.0 ≡ t in
    left (Table <$> table) derived whole R (mapped Table table whole C R (λ v q. q)
    (mapped from_tree (both name alias) whole (λ p. P p.0 × IsNamed n p.1) C (λ p q. called p.0 p.1 q.0 q.1)
    (spaced name alias (name_mark t ∷ []) (word_of word.As ⎵ (name_mark n ∷ [])) P (IsNamed n) (λ p. P p.0 × IsNamed n p.1) (λ a b p q. (p, q)) (name_written t is_table) (alias_written n is_name))))
  where
    called : (a : Named) (o : Option Named) → a.0 ≡ t → IsNamed n o → R (Table (from_tree (a, o)))
    called a o p q =
        let K : Option Named → Type 0 = λ z. R (Table (from_tree (a, z))) in
        let L : List ℕ → Type 0 = λ z. R (Table (record { table = a.0; name = Some z; at = a.1; name_at = q.named.1 })) in
        let M : List ℕ → Type 0 = λ z. R (Table (record { table = z; name = Some n; at = a.1; name_at = q.named.1 })) in
        subst K (sym q.is) (subst L (sym q.same) (subst M (sym p) (holds a.1 q.named.1)))

pub derived_written : (ps : List Piece) (n : List ℕ) (P : NamedQuery → Type 0) (R : NamedFrom → Type 0) → IsName n → ((v : NamedQuery) (name_at : ℕ) → P v → R (Derived v n name_at)) → Written query ps P →
    Written from (in_parentheses ps ⎵ word_of word.As ⎵ (name_mark n ∷ [])) R
unfolding from derived
derived_written ps n P R is holds w =
    let whole = in_parentheses ps ⎵ word_of word.As ⎵ (name_mark n ∷ []) in
    let N : Named → Type 0 = λ v. v.0 ≡ n in
    right (Table <$> table) derived whole R
    (mapped derived_tree (both (in_parens (rule query_rule)) (option (word_only word.As) ⨟> name)) whole (λ p. P p.0 × N p.1) R (λ p q. called p.0 p.1 q.0 q.1)
    (spaced (in_parens (rule query_rule)) (option (word_only word.As) ⨟> name) (in_parentheses ps) (word_of word.As ⎵ (name_mark n ∷ [])) P N (λ p. P p.0 × N p.1) (λ a b p q. (p, q)) (enclosed (rule query_rule) ps P (nested query_rule ps P w)) (as_name n is)))
  where
    called : (v : NamedQuery) (a : Named) → P v → a.0 ≡ n → R (derived_tree (v, a))
    called v a p q = let L : List ℕ → Type 0 = λ z. R (Derived v z a.1) in subst L (sym q) (holds v a.1 p)

-- ---- queries

pub no_filter : (L : Option NamedCond → Type 0) → L None → Written filter [] L
unfolding filter
no_filter L holds = absent (word_only word.Where ⨟> cond) L holds

pub some_filter : (c : List Piece) (P : NamedCond → Type 0) (L : Option NamedCond → Type 0) → ((v : NamedCond) → P v → L (Some v)) → Written cond c P → Written filter (space ∷ (word_of word.Where ⎵ c)) L
unfolding filter
some_filter c P L holds w = after_space filter (word_of word.Where ⎵ c) L (there (word_only word.Where ⨟> cond) (word_of word.Where ⎵ c) P L holds (behind_word word.Where cond c P w))

distinct_written : {A : Type 0} (d : Bool) (f : Grammar A) (ps : List Piece) (P : A → Type 0) → Written f ps P → Written (distinctness ⨟ f) (distinct_if d ps) (λ v. (v.0 ≡ d) × P v.1)
unfolding distinctness
distinct_written false f ps P w =
    let none : Written distinctness [] (λ b. b ≡ false) = mapped present (option (word_only word.Distinct)) [] (λ o. o ≡ None) (λ b. b ≡ false) (λ v q. ap present q) (absent (word_only word.Distinct) (λ o. o ≡ None) refl) in
    beside distinctness f ps (λ b. b ≡ false) P (λ v. (v.0 ≡ false) × P v.1) (λ a b p q. (p, q)) none w
distinct_written true f ps P w =
    let some : Written distinctness (word_of word.Distinct) (λ b. b ≡ true) = mapped present (option (word_only word.Distinct)) (word_of word.Distinct) (λ o. o ≡ Some tt) (λ b. b ≡ true) (λ v q. ap present q) (there (word_only word.Distinct) (word_of word.Distinct) (λ _. Unit {0}) (λ o. o ≡ Some tt) (λ v q. refl) (word_written word.Distinct)) in
    spaced distinctness f (word_of word.Distinct) ps (λ b. b ≡ true) P (λ v. (v.0 ≡ true) × P v.1) (λ a b p q. (p, q)) some w

pub query_written : (d : Bool) (items : List Piece) {X : Type 0} (pieces : X → List Piece) (x : X) (xs : List X) (filters : List Piece) (S : NamedSelect → Type 0) (F : X → NamedFrom → Type 0) (L : Option NamedCond → Type 0) (R : NamedQuery → Type 0) →
    ((at : ℕ) (s : NamedSelect) (fs : List NamedFrom) (o : Option NamedCond) → S s → Each F (x ∷ xs) fs → L o → R (query_tree (at, (d, (s, (fs, o)))))) → Follows filters →
    Written list items S → AllWritten from pieces F (x ∷ xs) → Written filter filters L → Written query (word_of word.Select ⎵ distinct_if d (items ⎵ word_of word.From ⎵ (listed (map pieces (x ∷ xs)) ++ filters))) R
unfolding query from_items
query_written d items {X} pieces x xs filters S F L R holds follows u all w =
    let froms = listed (map pieces (x ∷ xs)) in
    let Fs = Each F (x ∷ xs) in
    let some : Written from_items froms Fs = joined_written comma (symbol_mark symbol.Comma ∷ space ∷ []) from (λ qs K w. comma_between from qs K w) (λ qs. follows_comma (space ∷ qs)) pieces F x xs all in
    let P1 : List NamedFrom × Option NamedCond → Type 0 = λ v. Fs v.0 × L v.1 in
    let one : Written ((word_only word.From ⨟> from_items) ⨟ filter) (word_of word.From ⎵ (froms ++ filters)) P1 =
    sequence (word_only word.From ⨟> from_items) filter (word_of word.From ⎵ froms) filters Fs L P1 (λ a b p q. (p, q)) follows (behind_word word.From from_items froms Fs some) w in
    let P2 : NamedSelect × (List NamedFrom × Option NamedCond) → Type 0 = λ v. S v.0 × P1 v.1 in
    let two = spaced list ((word_only word.From ⨟> from_items) ⨟ filter) items (word_of word.From ⎵ (froms ++ filters)) S P1 P2 (λ a b p q. (p, q)) u one in
    let inner = list ⨟ (word_only word.From ⨟> from_items) ⨟ filter in
    let body = items ⎵ word_of word.From ⎵ (froms ++ filters) in
    let P3 : Bool × (NamedSelect × (List NamedFrom × Option NamedCond)) → Type 0 = λ v. (v.0 ≡ d) × P2 v.1 in
    let three : Written (distinctness ⨟ inner) (distinct_if d body) P3 = distinct_written d inner body P2 two in
    mapped query_tree (both (word_at word.Select) (distinctness ⨟ inner)) (word_of word.Select ⎵ distinct_if d body) (λ v. P3 v.1) R (λ v q. whole v.0 v.1.0 v.1.1.0 v.1.1.1.0 v.1.1.1.1 q.0 q.1.0 q.1.1.0 q.1.1.1)
    (spaced (word_at word.Select) (distinctness ⨟ inner) (word_of word.Select) (distinct_if d body) (λ _. Unit {0}) P3 (λ v. P3 v.1) (λ a b p q. q) (word_at_written word.Select) three)
  where
    whole : (at : ℕ) (b : Bool) (s : NamedSelect) (fs : List NamedFrom) (o : Option NamedCond) → b ≡ d → S s → Each F (x ∷ xs) fs → L o → R (query_tree (at, (b, (s, (fs, o)))))
    whole at b s fs o e p q r = let K : Bool → Type 0 = λ z. R (query_tree (at, (z, (s, (fs, o))))) in subst K (sym e) (holds at s fs o p q r)

-- ---- the order

-- a key by its position
pub record IsKey (key : SortKey) (tree : OrderTree) : Type 0 where
  pub position : tree.key ≡ Position (pos (key.column + 1))
  pub descending : tree.descending ≡ key.descending

direction_written : (d : Bool) → Written direction (word_of (direction_word d)) (λ b. b ≡ d)
unfolding direction
direction_written false =
    let asc = (λ _. false) <$> word_only word.Asc in
    let desc = (λ _. true) <$> word_only word.Desc in
    mapped if_written (option (asc ∣ desc)) (word_of word.Asc) (λ o. o ≡ Some false) (λ b. b ≡ false) (λ v q. ap if_written q)
    (there (asc ∣ desc) (word_of word.Asc) (λ b. b ≡ false) (λ o. o ≡ Some false) (λ v q. ap Some q) (left asc desc (word_of word.Asc) (λ b. b ≡ false) (mapped (λ _. false) (word_only word.Asc) (word_of word.Asc) (λ _. Unit {0}) (λ b. b ≡ false) (λ v q. refl) (word_written word.Asc))))
direction_written true =
    let asc = (λ _. false) <$> word_only word.Asc in
    let desc = (λ _. true) <$> word_only word.Desc in
    mapped if_written (option (asc ∣ desc)) (word_of word.Desc) (λ o. o ≡ Some true) (λ b. b ≡ true) (λ v q. ap if_written q)
    (there (asc ∣ desc) (word_of word.Desc) (λ b. b ≡ true) (λ o. o ≡ Some true) (λ v q. ap Some q) (right asc desc (word_of word.Desc) (λ b. b ≡ true) (mapped (λ _. true) (word_only word.Desc) (word_of word.Desc) (λ _. Unit {0}) (λ b. b ≡ true) (λ v q. refl) (word_written word.Desc))))

key_written : (key : SortKey) → IsUnsignedShort (pos (key.column + 1)) → Written order (key_pieces key) (IsKey key)
unfolding order
key_written key is =
    let n : ℤ = pos (key.column + 1) in
    let ps = mark (Number n) ∷ [] in
    let P : ℤ × ℕ → Type 0 = λ v. v.0 ≡ n in
    let Q : OrderName × ℕ → Type 0 = λ v. v.0 ≡ Position n in
    let R : (OrderName × ℕ) × Bool → Type 0 = λ v. (v.0.0 ≡ Position n) × (v.1 ≡ key.descending) in
    let digits : Written number ps P = record { placed = placed_token _ _ (Number n) P (λ at end. (refl, refl)); apart = apart_mark (Number n) tt is } in
    let one = right (named_key <$> name) (position_key <$> number) ps Q (mapped position_key number ps P Q (λ v q. ap Position q) digits) in
    mapped order_tree (both (named_key <$> name ∣ position_key <$> number) direction) (key_pieces key) R (IsKey key) (λ v q. record { position = q.0; descending = q.1 })
    (spaced (named_key <$> name ∣ position_key <$> number) direction ps (word_of (direction_word key.descending)) Q (λ b. b ≡ key.descending) R (λ a b p q. (p, q)) one (direction_written key.descending))

-- each position is short
abbrev pub AreShort : List SortKey → Type 0
AreShort [] = Unit {0}
AreShort (key ∷ keys) = IsUnsignedShort (pos (key.column + 1)) × AreShort keys

keys_written : (keys : List SortKey) → AreShort keys → AllWritten order key_pieces IsKey keys
keys_written [] are = tt
keys_written (key ∷ keys) are = (key_written key are.0, keys_written keys are.1)

pub order_written : (keys : List SortKey) → AreShort keys → Written ordering (order_pieces keys) (Each IsKey keys)
unfolding ordering orders
order_written [] are =
    mapped or_none (option (word_only word.Order ⨟> word_only word.By ⨟> separated comma order)) [] (λ o. o ≡ None) (Each IsKey []) (λ v q. let P : List OrderTree → Type 0 = Each IsKey [] in subst P (sym (ap or_none q)) tt) (absent (word_only word.Order ⨟> word_only word.By ⨟> separated comma order) (λ o. o ≡ None) refl)
order_written (key ∷ keys) are =
    let ps = listed (map key_pieces (key ∷ keys)) in
    let E = Each IsKey (key ∷ keys) in
    let all : Written (separated comma order) ps E = joined_written comma (symbol_mark symbol.Comma ∷ space ∷ []) order (λ qs K w. comma_between order qs K w) (λ qs. follows_comma (space ∷ qs)) key_pieces IsKey key keys (keys_written (key ∷ keys) are) in
    let body = behind_word word.Order (word_only word.By ⨟> separated comma order) (word_of word.By ⎵ ps) E (behind_word word.By (separated comma order) ps E all) in
    let O : Option (List OrderTree) → Type 0 = λ o. (vs : List OrderTree) × (o ≡ Some vs) × E vs in
    after_space (or_none <$> option (word_only word.Order ⨟> word_only word.By ⨟> separated comma order)) (word_of word.Order ⎵ word_of word.By ⎵ ps) E
    (mapped or_none (option (word_only word.Order ⨟> word_only word.By ⨟> separated comma order)) (word_of word.Order ⎵ word_of word.By ⎵ ps) O E (λ v q. subst E (sym (ap or_none q.1)) q.2)
    (there (word_only word.Order ⨟> word_only word.By ⨟> separated comma order) (word_of word.Order ⎵ word_of word.By ⎵ ps) E O (λ v q. (v, refl, q)) body))

order_follows : (keys : List SortKey) → Follows (order_pieces keys)
order_follows [] = follows_none
order_follows (key ∷ keys) = follows_space (word_of word.Order ⎵ word_of word.By ⎵ listed (map key_pieces (key ∷ keys)))

-- ---- a statement with its semicolon

pub ended_written : (ps : List Piece) (keys : List SortKey) (P : NamedQuery → Type 0) (R : NamedStatement → Type 0) → ((q : NamedQuery) (os : List OrderTree) → P q → Each IsKey keys os → R (record { query = q; order = os })) → AreShort keys →
    Written query ps P → Written ended (ps ++ order_pieces keys ++ symbol_mark symbol.Semicolon ∷ []) R
unfolding ended statement
ended_written ps keys P R holds are w =
    let body = ps ++ order_pieces keys in
    let one : Written statement body R = mapped statement_tree (both query ordering) body (λ v. P v.0 × Each IsKey keys v.1) R (λ v q. holds v.0 v.1 q.0 q.1)
    (sequence query ordering ps (order_pieces keys) P (Each IsKey keys) (λ v. P v.0 × Each IsKey keys v.1) (λ a b p q. (p, q)) (order_follows keys) w (order_written keys are)) in
    before statement (symbol_only symbol.Semicolon) body (symbol_mark symbol.Semicolon ∷ []) R (λ _. Unit {0}) (follows_semicolon []) one (symbol_written symbol.Semicolon)
