-- Conditions are written by their forms.
use Rattle.std.proofs.Common.{◌≡◌, ◌≤◌, Bool, true, false, List, [], ◌∷◌, ◌++◌, length, map, refl, sym, subst, arith, Some, None, append-nil}
use Rattle.grammar_forms.specs.Form.{both, option, many, rule}
use Rattle.prefsql_lexer.specs.declared.token.Keyword.{Keyword}
use Rattle.prefsql_lexer.specs.declared.token.Keyword.TheVariants as word
use Rattle.prefsql_lexer.specs.declared.token.Symbol.{Symbol}
use Rattle.prefsql_lexer.specs.declared.token.Symbol.TheVariants as symbol
use Rattle.prefsql_values.specs.declared.value.CompareOp.{CompareOp}
use Rattle.prefsql_values.specs.declared.value.CompareOp.TheVariants.{Eq, Ne, Lt, Le, Gt, Ge}
use Rattle.sql_text.specs.declared.named.NamedCond.{NamedCond, And, Or, Not, Compare, Between, OneOf, IsNull, Exists}
use Rattle.sql_text.specs.declared.named.NamedScalar.{NamedScalar}
use Rattle.sql_text.specs.declared.named.NamedQuery.{NamedQuery}
use Rattle.sql_text.specs.Grammar.{Grammar, Rest, condition_rule, query_rule, query, sum, sums, comparison, compare_rest, between, between_rest, member, member_rest, null_test, null_rest, negated_rest, rest, test, test_tree, exists, neg, negated_tree, conj, cond}
use Rattle.sql_text.specs.Pieces.{Piece, space}
use Rattle.sql_text.specs.Text.{word_mark, symbol_mark, word_of, ◌⎵◌, in_parentheses, not_if, op_symbol, listed, joined, all_joined, any_joined, compare_pieces, between_pieces, member_pieces, null_pieces, negated_pieces}
use Rattle.sql_read_back.proofs.Apart.{follows_space, follows_comma}
use Rattle.sql_read_back.proofs.Placed.{Each}
use Rattle.sql_read_back.proofs.WrittenForms.{Written, AllWritten, mapped, left, right, absent, there, nested, symbol_written, word_written, sequence, spaced, behind_word, beside, enclosed, joined_written, comma_between, word_between}
use Rattle.token_forms.specs.Forms.{◌⨟◌, ◌⨟>◌, ◌<⨟◌, ◌<$>◌, ◌∣◌, symbol_only, word_only, separated, comma, in_parens, chain}
use Rattle.token_forms.specs.Columns.{op, compares}
use Rattle.token_forms.specs.Phrases.{negation}

-- ---- what stands in a test may stand in every condition

pub test_in_neg : (ps : List Piece) (R : NamedCond → Type 0) → Written test ps R → Written neg ps R
unfolding neg negation
test_in_neg ps R w =
    let P : Bool → Type 0 = λ b. b ≡ false in
    let none : Written negation [] P = mapped _ (option (word_only word.Not)) [] (λ o. o ≡ None) P (λ v q. rw q refl) (absent (word_only word.Not) (λ o. o ≡ None) refl) in
    mapped negated_tree (both negation test) ps (λ v. (v.0 ≡ false) × R v.1) R (λ v q. plain v.0 v.1 q.0 q.1) (beside negation test ps P R (λ v. (v.0 ≡ false) × R v.1) (λ a b p q. (p, q)) none w)
  where
    plain : (b : Bool) (c : NamedCond) → b ≡ false → R c → R (negated_tree (b, c))
    plain b c e r = let P : Bool → Type 0 = λ z. R (negated_tree (z, c)) in subst P (sym e) r

-- one part of a chain is that part
one_in_chain : (node : List NamedCond → NamedCond) (s : Grammar (Unit {0})) (f : Grammar NamedCond) (ps : List Piece) (R : NamedCond → Type 0) → Written f ps R → Written (chain node <$> separated s f) ps R
one_in_chain node s f ps R w =
    let none : Written (many (s ⨟> f)) [] (λ vs. vs ≡ []) = record { placed = (λ at. (0, [], refl, refl)); apart = (λ tail closes. tt) } in
    let both_parts : Written (both f (many (s ⨟> f))) (ps ++ []) (λ v. R v.0 × (v.1 ≡ [])) =
    sequence f (many (s ⨟> f)) ps [] R (λ vs. vs ≡ []) (λ v. R v.0 × (v.1 ≡ [])) (λ a b p q. (p, q)) (λ tail closes. closes) w none in
    let P : List Piece → Type 0 = λ z. Written (chain node <$> separated s f) z R in
    subst P (append-nil ps) (mapped (chain node) (separated s f) (ps ++ []) (λ vs. R (chain node vs)) R (λ v q. q)
    (mapped (λ p. p.0 ∷ p.1) (both f (many (s ⨟> f))) (ps ++ []) (λ v. R v.0 × (v.1 ≡ [])) (λ vs. R (chain node vs)) (λ v q. single v.0 v.1 q.0 q.1) both_parts))
  where
    single : (c : NamedCond) (more : List NamedCond) → R c → more ≡ [] → R (chain node (c ∷ more))
    single c more r e = let P : List NamedCond → Type 0 = λ z. R (chain node (c ∷ z)) in subst P (sym e) r

pub neg_in_conj : (ps : List Piece) (R : NamedCond → Type 0) → Written neg ps R → Written conj ps R
unfolding conj
neg_in_conj ps R w = one_in_chain And (word_only word.And) neg ps R w

pub conj_in_cond : (ps : List Piece) (R : NamedCond → Type 0) → Written conj ps R → Written cond ps R
unfolding cond
conj_in_cond ps R w = one_in_chain Or (word_only word.Or) conj ps R w

pub parens_in_test : (ps : List Piece) (R : NamedCond → Type 0) → Written cond ps R → Written test (in_parentheses ps) R
unfolding test
parens_in_test ps R w = left (in_parens (rule condition_rule)) (test_tree <$> sum ⨟ rest ∣ exists) (in_parentheses ps) R (enclosed (rule condition_rule) ps R (nested condition_rule ps R w))

-- ---- chains of two or more

chain_written : (node : List NamedCond → NamedCond) (k : Keyword) (f : Grammar NamedCond) {X : Type 0} (pieces : X → List Piece) (P : X → NamedCond → Type 0) (R : NamedCond → Type 0) (xs : List X) → 2 ≤ length xs →
    ((vs : List NamedCond) → Each P xs vs → R (node vs)) → AllWritten f pieces P xs → Written (chain node <$> separated (word_only k) f) (joined (space ∷ word_mark k ∷ space ∷ []) (map pieces xs)) R
chain_written node k f pieces P R [] two holds all = absurd (omega arith)
chain_written node k f pieces P R (x ∷ []) two holds all = absurd (omega arith)
chain_written node k f {X} pieces P R (x ∷ y ∷ xs) two holds all =
    let whole = x ∷ y ∷ xs in
    mapped (chain node) (separated (word_only k) f) (joined (space ∷ word_mark k ∷ space ∷ []) (map pieces whole)) (Each P whole) R (λ vs each. long vs each)
    (joined_written (word_only k) (space ∷ word_mark k ∷ space ∷ []) f (λ qs Q w. word_between k f qs Q w) (λ qs. follows_space (word_mark k ∷ space ∷ qs)) pieces P x (y ∷ xs) all)
  where
    long : (vs : List NamedCond) → Each P (x ∷ y ∷ xs) vs → R (chain node vs)
    long [] each = absurd each
    long (v ∷ []) each = absurd each.1
    long (v ∷ w ∷ more) each = holds (v ∷ w ∷ more) each

pub and_written : {X : Type 0} (pieces : X → List Piece) (P : X → NamedCond → Type 0) (R : NamedCond → Type 0) (xs : List X) → 2 ≤ length xs → ((vs : List NamedCond) → Each P xs vs → R (And vs)) → AllWritten neg pieces P xs →
    Written conj (all_joined (map pieces xs)) R
unfolding conj
and_written pieces P R xs two holds all = chain_written And word.And neg pieces P R xs two holds all

pub or_written : {X : Type 0} (pieces : X → List Piece) (P : X → NamedCond → Type 0) (R : NamedCond → Type 0) (xs : List X) → 2 ≤ length xs → ((vs : List NamedCond) → Each P xs vs → R (Or vs)) → AllWritten conj pieces P xs →
    Written cond (any_joined (map pieces xs)) R
unfolding cond
or_written pieces P R xs two holds all = chain_written Or word.Or conj pieces P R xs two holds all

pub not_written : (ps : List Piece) (P R : NamedCond → Type 0) → ((c : NamedCond) → P c → R (Not c)) → Written test ps P → Written neg (negated_pieces ps) R
unfolding neg negation
not_written ps P R holds w =
    let T : Bool → Type 0 = λ b. b ≡ true in
    let said : Written negation (word_of word.Not) T = mapped _ (option (word_only word.Not)) (word_of word.Not) (λ o. o ≡ Some tt) T (λ v q. rw q refl) (there (word_only word.Not) (word_of word.Not) (λ _. Unit {0}) (λ o. o ≡ Some tt) (λ v q. refl) (word_written word.Not)) in
    mapped negated_tree (both negation test) (negated_pieces ps) (λ v. (v.0 ≡ true) × P v.1) R (λ v q. turned v.0 v.1 q.0 q.1) (spaced negation test (word_of word.Not) ps T P (λ v. (v.0 ≡ true) × P v.1) (λ a b p q. (p, q)) said w)
  where
    turned : (b : Bool) (c : NamedCond) → b ≡ true → P c → R (negated_tree (b, c))
    turned b c e p = let Q : Bool → Type 0 = λ z. R (negated_tree (z, c)) in subst Q (sym e) (holds c p)

-- ---- tests of a scalar

-- what a rest makes of every scalar of which P holds
abbrev pub Makes : (NamedScalar → Type 0) → (NamedCond → Type 0) → Rest → Type 0
Makes P R r = (s : NamedScalar) → P s → R (r s)

rest_written : (a r : List Piece) (P : NamedScalar → Type 0) (R : NamedCond → Type 0) → Written sum a P → Written rest r (Makes P R) → Written test (a ⎵ r) R
unfolding test
rest_written a r P R v w =
    right (in_parens (rule condition_rule)) (test_tree <$> sum ⨟ rest ∣ exists) (a ⎵ r) R
    (left (test_tree <$> sum ⨟ rest) exists (a ⎵ r) R
    (mapped test_tree (both sum rest) (a ⎵ r) (λ v. R (v.1 v.0)) R (λ v q. q) (spaced sum rest a r P (Makes P R) (λ v. R (v.1 v.0)) (λ s f p q. q s p) v w)))

one_op : (s : Symbol) (o : CompareOp) → Written (compares s o) (symbol_mark s ∷ []) (λ v. v ≡ o)
one_op s o = mapped (λ _. o) (symbol_only s) (symbol_mark s ∷ []) (λ _. Unit {0}) (λ v. v ≡ o) (λ v q. refl) (symbol_written s)

op_written : (o : CompareOp) → Written op (symbol_mark (op_symbol o) ∷ []) (λ v. v ≡ o)
unfolding op
op_written Eq = left (compares symbol.Equal Eq) (compares symbol.NotEqual Ne ∣ compares symbol.Less Lt ∣ compares symbol.LessEqual Le ∣ compares symbol.Greater Gt ∣ compares symbol.GreaterEqual Ge) (symbol_mark symbol.Equal ∷ []) (λ v. v ≡ Eq) (one_op symbol.Equal Eq)
op_written Ne = right (compares symbol.Equal Eq) (compares symbol.NotEqual Ne ∣ compares symbol.Less Lt ∣ compares symbol.LessEqual Le ∣ compares symbol.Greater Gt ∣ compares symbol.GreaterEqual Ge) (symbol_mark symbol.NotEqual ∷ []) (λ v. v ≡ Ne) (left (compares symbol.NotEqual Ne) (compares symbol.Less Lt ∣ compares symbol.LessEqual Le ∣ compares symbol.Greater Gt ∣ compares symbol.GreaterEqual Ge) (symbol_mark symbol.NotEqual ∷ []) (λ v. v ≡ Ne) (one_op symbol.NotEqual Ne))
op_written Lt = right (compares symbol.Equal Eq) (compares symbol.NotEqual Ne ∣ compares symbol.Less Lt ∣ compares symbol.LessEqual Le ∣ compares symbol.Greater Gt ∣ compares symbol.GreaterEqual Ge) (symbol_mark symbol.Less ∷ []) (λ v. v ≡ Lt) (right (compares symbol.NotEqual Ne) (compares symbol.Less Lt ∣ compares symbol.LessEqual Le ∣ compares symbol.Greater Gt ∣ compares symbol.GreaterEqual Ge) (symbol_mark symbol.Less ∷ []) (λ v. v ≡ Lt) (left (compares symbol.Less Lt) (compares symbol.LessEqual Le ∣ compares symbol.Greater Gt ∣ compares symbol.GreaterEqual Ge) (symbol_mark symbol.Less ∷ []) (λ v. v ≡ Lt) (one_op symbol.Less Lt)))
op_written Le = right (compares symbol.Equal Eq) (compares symbol.NotEqual Ne ∣ compares symbol.Less Lt ∣ compares symbol.LessEqual Le ∣ compares symbol.Greater Gt ∣ compares symbol.GreaterEqual Ge) (symbol_mark symbol.LessEqual ∷ []) (λ v. v ≡ Le) (right (compares symbol.NotEqual Ne) (compares symbol.Less Lt ∣ compares symbol.LessEqual Le ∣ compares symbol.Greater Gt ∣ compares symbol.GreaterEqual Ge) (symbol_mark symbol.LessEqual ∷ []) (λ v. v ≡ Le) (right (compares symbol.Less Lt) (compares symbol.LessEqual Le ∣ compares symbol.Greater Gt ∣ compares symbol.GreaterEqual Ge) (symbol_mark symbol.LessEqual ∷ []) (λ v. v ≡ Le) (left (compares symbol.LessEqual Le) (compares symbol.Greater Gt ∣ compares symbol.GreaterEqual Ge) (symbol_mark symbol.LessEqual ∷ []) (λ v. v ≡ Le) (one_op symbol.LessEqual Le))))
op_written Gt = right (compares symbol.Equal Eq) (compares symbol.NotEqual Ne ∣ compares symbol.Less Lt ∣ compares symbol.LessEqual Le ∣ compares symbol.Greater Gt ∣ compares symbol.GreaterEqual Ge) (symbol_mark symbol.Greater ∷ []) (λ v. v ≡ Gt) (right (compares symbol.NotEqual Ne) (compares symbol.Less Lt ∣ compares symbol.LessEqual Le ∣ compares symbol.Greater Gt ∣ compares symbol.GreaterEqual Ge) (symbol_mark symbol.Greater ∷ []) (λ v. v ≡ Gt) (right (compares symbol.Less Lt) (compares symbol.LessEqual Le ∣ compares symbol.Greater Gt ∣ compares symbol.GreaterEqual Ge) (symbol_mark symbol.Greater ∷ []) (λ v. v ≡ Gt) (right (compares symbol.LessEqual Le) (compares symbol.Greater Gt ∣ compares symbol.GreaterEqual Ge) (symbol_mark symbol.Greater ∷ []) (λ v. v ≡ Gt) (left (compares symbol.Greater Gt) (compares symbol.GreaterEqual Ge) (symbol_mark symbol.Greater ∷ []) (λ v. v ≡ Gt) (one_op symbol.Greater Gt)))))
op_written Ge = right (compares symbol.Equal Eq) (compares symbol.NotEqual Ne ∣ compares symbol.Less Lt ∣ compares symbol.LessEqual Le ∣ compares symbol.Greater Gt ∣ compares symbol.GreaterEqual Ge) (symbol_mark symbol.GreaterEqual ∷ []) (λ v. v ≡ Ge) (right (compares symbol.NotEqual Ne) (compares symbol.Less Lt ∣ compares symbol.LessEqual Le ∣ compares symbol.Greater Gt ∣ compares symbol.GreaterEqual Ge) (symbol_mark symbol.GreaterEqual ∷ []) (λ v. v ≡ Ge) (right (compares symbol.Less Lt) (compares symbol.LessEqual Le ∣ compares symbol.Greater Gt ∣ compares symbol.GreaterEqual Ge) (symbol_mark symbol.GreaterEqual ∷ []) (λ v. v ≡ Ge) (right (compares symbol.LessEqual Le) (compares symbol.Greater Gt ∣ compares symbol.GreaterEqual Ge) (symbol_mark symbol.GreaterEqual ∷ []) (λ v. v ≡ Ge) (right (compares symbol.Greater Gt) (compares symbol.GreaterEqual Ge) (symbol_mark symbol.GreaterEqual ∷ []) (λ v. v ≡ Ge) (one_op symbol.GreaterEqual Ge)))))

pub compare_written : (o : CompareOp) (a b : List Piece) (P Q : NamedScalar → Type 0) (R : NamedCond → Type 0) → ((x y : NamedScalar) → P x → Q y → R (Compare o x y)) → Written sum a P → Written sum b Q → Written test (compare_pieces o a b) R
unfolding rest comparison
compare_written o a b P Q R holds v w =
    let r = symbol_mark (op_symbol o) ∷ [] ⎵ b in
    let body : Written (compare_rest <$> op ⨟ sum) r (Makes P R) =
    mapped compare_rest (both op sum) r (λ p. (p.0 ≡ o) × Q p.1) (Makes P R) (λ p q. by_op p.0 p.1 q.0 q.1) (spaced op sum (symbol_mark (op_symbol o) ∷ []) b (λ z. z ≡ o) Q (λ p. (p.0 ≡ o) × Q p.1) (λ x y p q. (p, q)) (op_written o) w) in
    rest_written a r P R v (left comparison (negated_rest <$> negation ⨟ between ∣ negated_rest <$> negation ⨟ member ∣ null_test) r (Makes P R) body)
  where
    by_op : (z : CompareOp) (y : NamedScalar) → z ≡ o → Q y → Makes P R (compare_rest (z, y))
    by_op z y e q s p = let K : CompareOp → Type 0 = λ k. R (Compare k s y) in subst K (sym e) (holds s y p q)

-- what is written behind an optional NOT
negated_written : (negated : Bool) (g : Grammar (Bool → Rest)) (ps : List Piece) (R : Rest → Type 0) → Written g ps (λ f. R (f negated)) → Written (negated_rest <$> negation ⨟ g) (not_if negated ps) R
unfolding negation
negated_written false g ps R w =
    let none : Written negation [] (λ b. b ≡ false) = mapped _ (option (word_only word.Not)) [] (λ o. o ≡ None) (λ b. b ≡ false) (λ v q. rw q refl) (absent (word_only word.Not) (λ o. o ≡ None) refl) in
    mapped negated_rest (both negation g) ps (λ p. (p.0 ≡ false) × R (p.1 false)) R (λ p q. said p.0 p.1 q.0 q.1) (beside negation g ps (λ b. b ≡ false) (λ f. R (f false)) (λ p. (p.0 ≡ false) × R (p.1 false)) (λ a b p q. (p, q)) none w)
  where
    said : (b : Bool) (f : Bool → Rest) → b ≡ false → R (f false) → R (negated_rest (b, f))
    said b f e r = let K : Bool → Type 0 = λ z. R (f z) in subst K (sym e) r
negated_written true g ps R w =
    let some : Written negation (word_of word.Not) (λ b. b ≡ true) = mapped _ (option (word_only word.Not)) (word_of word.Not) (λ o. o ≡ Some tt) (λ b. b ≡ true) (λ v q. rw q refl) (there (word_only word.Not) (word_of word.Not) (λ _. Unit {0}) (λ o. o ≡ Some tt) (λ v q. refl) (word_written word.Not)) in
    mapped negated_rest (both negation g) (word_of word.Not ⎵ ps) (λ p. (p.0 ≡ true) × R (p.1 true)) R (λ p q. said p.0 p.1 q.0 q.1) (spaced negation g (word_of word.Not) ps (λ b. b ≡ true) (λ f. R (f true)) (λ p. (p.0 ≡ true) × R (p.1 true)) (λ a b p q. (p, q)) some w)
  where
    said : (b : Bool) (f : Bool → Rest) → b ≡ true → R (f true) → R (negated_rest (b, f))
    said b f e r = let K : Bool → Type 0 = λ z. R (f z) in subst K (sym e) r

pub between_written : (negated : Bool) (a low high : List Piece) (P Q S : NamedScalar → Type 0) (R : NamedCond → Type 0) → ((x y z : NamedScalar) → P x → Q y → S z → R (Between negated x y z)) →
    Written sum a P → Written sum low Q → Written sum high S → Written test (a ++ between_pieces negated low high) R
unfolding rest between
between_written negated a low high P Q S R holds u v w =
    let bounds : Written (sum ⨟ word_only word.And ⨟> sum) (low ⎵ word_of word.And ⎵ high) (λ p. Q p.0 × S p.1) =
    spaced sum (word_only word.And ⨟> sum) low (word_of word.And ⎵ high) Q S (λ p. Q p.0 × S p.1) (λ x y p q. (p, q)) v (behind_word word.And sum high S w) in
    let body : Written (between_rest <$> word_only word.Between ⨟> sum ⨟ word_only word.And ⨟> sum) (word_of word.Between ⎵ low ⎵ word_of word.And ⎵ high) (λ f. Makes P R (f negated)) =
    mapped between_rest (word_only word.Between ⨟> sum ⨟ word_only word.And ⨟> sum) (word_of word.Between ⎵ low ⎵ word_of word.And ⎵ high) (λ p. Q p.0 × S p.1) (λ f. Makes P R (f negated)) (λ p q. (λ s k. holds s p.0 p.1 k q.0 q.1))
    (behind_word word.Between (sum ⨟ word_only word.And ⨟> sum) (low ⎵ word_of word.And ⎵ high) (λ p. Q p.0 × S p.1) bounds) in
    let r = not_if negated (word_of word.Between ⎵ low ⎵ word_of word.And ⎵ high) in
    rest_written a r P R u (right comparison (negated_rest <$> negation ⨟ between ∣ negated_rest <$> negation ⨟ member ∣ null_test) r (Makes P R)
    (left (negated_rest <$> negation ⨟ between) (negated_rest <$> negation ⨟ member ∣ null_test) r (Makes P R) (negated_written negated between (word_of word.Between ⎵ low ⎵ word_of word.And ⎵ high) (Makes P R) body)))

pub member_written : {X : Type 0} (negated : Bool) (a : List Piece) (pieces : X → List Piece) (P : NamedScalar → Type 0) (Q : X → NamedScalar → Type 0) (R : NamedCond → Type 0) (x : X) (xs : List X) →
    ((s : NamedScalar) (vs : List NamedScalar) → P s → Each Q (x ∷ xs) vs → R (OneOf negated s vs)) → Written sum a P → AllWritten sum pieces Q (x ∷ xs) → Written test (a ++ member_pieces negated (map pieces (x ∷ xs))) R
unfolding rest member sums
member_written negated a pieces P Q R x xs holds u all =
    let items : Written sums (listed (map pieces (x ∷ xs))) (Each Q (x ∷ xs)) =
    joined_written comma (symbol_mark symbol.Comma ∷ space ∷ []) sum (λ qs K w. comma_between sum qs K w) (λ qs. follows_comma (space ∷ qs)) pieces Q x xs all in
    let ps = word_of word.In ⎵ in_parentheses (listed (map pieces (x ∷ xs))) in
    let body : Written (member_rest <$> word_only word.In ⨟> in_parens sums) ps (λ f. Makes P R (f negated)) =
    mapped member_rest (word_only word.In ⨟> in_parens sums) ps (Each Q (x ∷ xs)) (λ f. Makes P R (f negated)) (λ vs q. (λ s p. holds s vs p q)) (behind_word word.In (in_parens sums) (in_parentheses (listed (map pieces (x ∷ xs)))) (Each Q (x ∷ xs)) (enclosed sums (listed (map pieces (x ∷ xs))) (Each Q (x ∷ xs)) items)) in
    let r = not_if negated ps in
    rest_written a r P R u (right comparison (negated_rest <$> negation ⨟ between ∣ negated_rest <$> negation ⨟ member ∣ null_test) r (Makes P R)
    (right (negated_rest <$> negation ⨟ between) (negated_rest <$> negation ⨟ member ∣ null_test) r (Makes P R)
    (left (negated_rest <$> negation ⨟ member) null_test r (Makes P R) (negated_written negated member ps (Makes P R) body))))

pub null_written : (negated : Bool) (a : List Piece) (P : NamedScalar → Type 0) (R : NamedCond → Type 0) → ((s : NamedScalar) → P s → R (IsNull negated s)) → Written sum a P → Written test (a ++ null_pieces negated) R
unfolding rest null_test negation
null_written negated a P R holds u =
    let r = word_of word.Is ⎵ not_if negated (word_of word.Null) in
    let body : Written (null_rest <$> word_only word.Is ⨟> negation <⨟ word_only word.Null) r (Makes P R) =
    mapped null_rest (word_only word.Is ⨟> negation <⨟ word_only word.Null) r (λ b. b ≡ negated) (Makes P R) (λ b e. (λ s p. by_flag b e s p)) (behind_word word.Is (negation <⨟ word_only word.Null) (not_if negated (word_of word.Null)) (λ b. b ≡ negated) (flagged negated)) in
    rest_written a r P R u (right comparison (negated_rest <$> negation ⨟ between ∣ negated_rest <$> negation ⨟ member ∣ null_test) r (Makes P R)
    (right (negated_rest <$> negation ⨟ between) (negated_rest <$> negation ⨟ member ∣ null_test) r (Makes P R)
    (right (negated_rest <$> negation ⨟ member) null_test r (Makes P R) body)))
  where
    by_flag : (b : Bool) → b ≡ negated → (s : NamedScalar) → P s → R (IsNull b s)
    by_flag b e s p = let K : Bool → Type 0 = λ z. R (IsNull z s) in subst K (sym e) (holds s p)

    flagged : (b : Bool) → Written (negation <⨟ word_only word.Null) (not_if b (word_of word.Null)) (λ z. z ≡ b)
    flagged false =
        let none : Written negation [] (λ z. z ≡ false) = mapped _ (option (word_only word.Not)) [] (λ o. o ≡ None) (λ z. z ≡ false) (λ v q. rw q refl) (absent (word_only word.Not) (λ o. o ≡ None) refl) in
        mapped (λ p. p.0) (both negation (word_only word.Null)) (word_of word.Null) (λ p. p.0 ≡ false) (λ z. z ≡ false) (λ p q. q) (beside negation (word_only word.Null) (word_of word.Null) (λ z. z ≡ false) (λ _. Unit {0}) (λ p. p.0 ≡ false) (λ x y p q. p) none (word_written word.Null))
    flagged true =
        let some : Written negation (word_of word.Not) (λ z. z ≡ true) = mapped _ (option (word_only word.Not)) (word_of word.Not) (λ o. o ≡ Some tt) (λ z. z ≡ true) (λ v q. rw q refl) (there (word_only word.Not) (word_of word.Not) (λ _. Unit {0}) (λ o. o ≡ Some tt) (λ v q. refl) (word_written word.Not)) in
        mapped (λ p. p.0) (both negation (word_only word.Null)) (word_of word.Not ⎵ word_of word.Null) (λ p. p.0 ≡ true) (λ z. z ≡ true) (λ p q. q) (spaced negation (word_only word.Null) (word_of word.Not) (word_of word.Null) (λ z. z ≡ true) (λ _. Unit {0}) (λ p. p.0 ≡ true) (λ x y p q. p) some (word_written word.Null))

pub exists_written : (ps : List Piece) (P : NamedQuery → Type 0) (R : NamedCond → Type 0) → ((q : NamedQuery) → P q → R (Exists q)) → Written query ps P → Written test (word_of word.Exists ⎵ in_parentheses ps) R
unfolding test exists
exists_written ps P R holds w =
    let whole = word_of word.Exists ⎵ in_parentheses ps in
    right (in_parens (rule condition_rule)) (test_tree <$> sum ⨟ rest ∣ exists) whole R
    (right (test_tree <$> sum ⨟ rest) exists whole R
    (mapped Exists (word_only word.Exists ⨟> in_parens (rule query_rule)) whole P R holds (behind_word word.Exists (in_parens (rule query_rule)) (in_parentheses ps) P (enclosed (rule query_rule) ps P (nested query_rule ps P w)))))
