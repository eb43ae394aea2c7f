-- Conditions and preferences that are read from tokens within the limits are well made.
use Rattle.std.proofs.Common.{◌≡◌, ◌≤◌, ◌<◌, ◌+◌, ◌^◌, inl, inr, ℕ, suc, Bool, true, false, List, [], ◌∷◌, ◌++◌, length, map, All, refl, sym, ap, subst, ◌∙◌, arith, Option, Some, None}
use Rattle.std.specs.Prelude.{max}
use Rattle.std.specs.List.{concat, flat_map}
use Rattle.std.proofs.lemmas.List.{append-nil}
use Rattle.std.proofs.lemmas.Bool.{false≢true}
use Rattle.std.proofs.lemmas.List.Elements.{All-nil, All-cons, All-head, All-tail}
use Rattle.grammar_forms.specs.Form.{both, option, rule, map as map_form}
use Rattle.grammar_forms.proofs.Nesting.{turn, after}
use Rattle.prefsql_lexer.specs.declared.token.Keyword.TheVariants as word
use Rattle.prefsql_lexer.specs.declared.token.Token.{Token}
use Rattle.prefsql_values.specs.declared.value.CompareOp.{CompareOp}
use Rattle.token_forms.specs.Classes.{class}
use Rattle.token_forms.proofs.Depth.{rises, falls}
use Rattle.query_tree.specs.declared.condition.ScalarTree.{ScalarTree}
use Rattle.query_tree.specs.declared.condition.CondTree.{CondTree}
use Rattle.query_tree.specs.declared.condition.CondTree.TheVariants as cond_tree
use Rattle.query_tree.specs.declared.preference.PrefTree.{PrefTree}
use Rattle.query_tree.specs.declared.preference.PrefTree.TheVariants as pref_tree
use Rattle.query_tree.proofs.Rising.{Rises, Rises-wider, Rises-append}
use Rattle.query_tree.proofs.CondLemmas.{IsCond-And, IsCond-Or, IsCond-Not, cond_places-And, cond_places-Or, cond_places-Not, cond_places-Compare, cond_places-Between, cond_places-OneOf, cond_places-IsNull, cond_places-Top, nesting_in-And, nesting_in-Or, nesting_in-Not, nesting_in-Compare, nesting_in-Between, nesting_in-OneOf, nesting_in-IsNull, nesting_in-Top}
use Rattle.query_tree.proofs.PrefLemmas.{IsPref-Pareto, IsPref-Prior, IsPref-Dual, pref_places-Base, pref_places-Pareto, pref_places-Prior, pref_places-Dual}
use Rattle.prefsql_values.specs.Nesting.{Standing, alone, in_and, in_or, after_not, wraps_and, wraps_or, wraps_not, in_parentheses, deepest}
use Rattle.query_tree.specs.Nesting.{nesting_in}
use Rattle.query_tree.specs.Places.{scalar_places, cond_places, pref_places}
use Rattle.query_tree.specs.WellMade.{IsColumn, IsChain, IsFilled, IsScalar, IsCond, IsPref}
use Rattle.query_grammar.specs.Rules.{Grammar, Rule, condition_rule, preference_rule}
use Rattle.token_forms.specs.Forms.{word_only, in_parens, chain, ◌⨟◌, ◌⨟>◌, ◌<⨟◌}
use Rattle.token_forms.specs.Columns.{column, op, literal, number_form, optional_sign}
use Rattle.query_grammar.specs.Scalars.{Rest, level, distance, plain_scalar, scalar, scalars, comparison, between, member, null_test, negated_rest, test_tree, negated_tree}
use Rattle.token_forms.specs.Phrases.{negation}
use Rattle.query_grammar.specs.Conditions.{rest, test, neg, conj, cond}
use Rattle.query_grammar.specs.Preferences.{prim, par, pref}
use Rattle.query_parser.proofs.Parts.{Part, Parts, moved, At, skip, stands_filled, parts_filled, separated_parts, enclosed_part}
use Rattle.query_parser.proofs.WellMadeColumns.{column_place, column_part, scalar_part, scalars_parts}
use Rattle.query_parser.proofs.WellMadeBases.{base_part}

-- ---- chains

flat_concat : {A : Type 0} (f : A → List ℕ) (xs : List A) → flat_map f xs ≡ concat (map f xs)
flat_concat f [] = refl
flat_concat f (x ∷ xs) = ap (λ z. f x ++ z) (flat_concat f xs)

-- A chain of one part is that part, and a longer one is a node that is well made of them.
chain_part : {A : Type 0} (P Q : A → Type 0) (places : A → List ℕ) (node : List A → A) (lo hi : ℕ) (vs : List A) → ((v : A) → P v → Q v) → ((vs : List A) → IsChain (length vs) → All P vs → Q (node vs)) → ((vs : List A) → places (node vs) ≡ concat (map places vs)) →
    Parts P places lo hi vs → Part Q places lo hi (chain node vs)
chain_part P Q places node lo hi [] one more same p = absurd (let k = p.some.0 in omega arith)
chain_part P Q places node lo hi (x ∷ []) one more same p = record { good = one x (All-head P x [] p.all); rising = subst (λ z. Rises lo hi z) (append-nil (places x)) p.rising; filled = (let k = p.room in omega arith) }
chain_part P Q places node lo hi (x ∷ y ∷ vs) one more same p = record {
  good = more (x ∷ y ∷ vs) (omega arith, p.some.1) p.all;
  rising = subst (λ z. Rises lo hi z) (flat_concat places (x ∷ y ∷ vs) ∙ sym (same (x ∷ y ∷ vs))) p.rising;
  filled = (let k = p.room in omega arith);
}

-- ---- nesting

-- A condition may stand in these ways where d parentheses are open.
pub record Fits (q : Bool) (ok : Standing → Bool) (d : ℕ) (c : CondTree) : Type 0 where
  pub parts : IsCond q c
  pub nested : (s : Standing) → ok s ≡ true → d + nesting_in c s ≤ 64
  pub wrap : (s : Standing) → nesting_in c s ≤ nesting_in c alone + 1

abbrev anywhere : Standing → Bool
anywhere s = true

abbrev not_negated : Standing → Bool
not_negated alone = true
not_negated in_and = true
not_negated in_or = true
not_negated after_not = false

abbrev not_joined : Standing → Bool
not_joined alone = true
not_joined in_and = false
not_joined in_or = true
not_joined after_not = false

abbrev pub by_itself : Standing → Bool
by_itself alone = true
by_itself in_and = false
by_itself in_or = false
by_itself after_not = false

wrapped : (b : Bool) (n : ℕ) → in_parentheses b n ≤ n + 1
wrapped true n = omega arith
wrapped false n = omega arith

flat_fits : (q : Bool) (d n : ℕ) (c : CondTree) → IsCond q c → d + n ≤ 64 → ((s : Standing) → nesting_in c s ≡ n) → Fits q anywhere d c
flat_fits q d n c is le same = record {
  parts = is;
  nested = (λ s e. let k = same s in omega (arith, k));
  wrap = (λ s. let k = same s in let j = same alone in omega (arith, k, j));
}

max_le : (d a b n : ℕ) → d + a ≤ n → d + b ≤ n → d + max a b ≤ n
max_le d a b n p q = omega (arith, p, q)

deepest_le : (d : ℕ) (f : CondTree → ℕ) (P : CondTree → Type 0) → ((c : CondTree) → P c → d + f c ≤ 64) → d ≤ 64 → (cs : List CondTree) → All P cs → d + deepest (map f cs) ≤ 64
deepest_le d f P each le [] all = omega arith
deepest_le d f P each le (c ∷ cs) all = max_le d (f c) (deepest (map f cs)) 64 (each c (All-head P c cs all)) (deepest_le d f P each le cs (All-tail P c cs all))

enough : (P : CondTree → Type 0) (d : ℕ) → ((c : CondTree) → P c → d ≤ 64) → (cs : List CondTree) → IsChain (length cs) → All P cs → d ≤ 64
enough P d each [] chain all = absurd (let k = chain.0 in omega arith)
enough P d each (c ∷ cs) chain all = each c (All-head P c cs all)

all_parts : (P Q : CondTree → Type 0) → ((c : CondTree) → P c → Q c) → (cs : List CondTree) → All P cs → All Q cs
all_parts P Q to [] all = All-nil Q
all_parts P Q to (c ∷ cs) all = All-cons Q c cs (to c (All-head P c cs all)) (all_parts P Q to cs (All-tail P c cs all))

not_fits : (q : Bool) (d : ℕ) (c : CondTree) → Fits q anywhere d c → Fits q not_negated d (cond_tree.Not c)
not_fits q d c f =
    let n = nesting_in c after_not in
    let le = f.nested after_not refl in
    let is : (s : Standing) → nesting_in (cond_tree.Not c) s ≡ in_parentheses (wraps_not s) n = λ s. nesting_in-Not c s in
    record {
      parts = IsCond-Not q c f.parts;
      nested = (λ s e. go s e);
      wrap = (λ s. let k = is s in let j = is alone in let w = wrapped (wraps_not s) n in omega (arith, k, j, w));
    }
  where
    go : (s : Standing) → not_negated s ≡ true → d + nesting_in (cond_tree.Not c) s ≤ 64
    go alone e = let k = nesting_in-Not c alone in let le = f.nested after_not refl in omega (arith, k, le)
    go in_and e = let k = nesting_in-Not c in_and in let le = f.nested after_not refl in omega (arith, k, le)
    go in_or e = let k = nesting_in-Not c in_or in let le = f.nested after_not refl in omega (arith, k, le)
    go after_not e = absurd (false≢true e)

and_fits : (q : Bool) (d : ℕ) (cs : List CondTree) → IsChain (length cs) → All (Fits q not_negated d) cs → Fits q not_joined d (cond_tree.And cs)
and_fits q d cs chain all =
    let P = Fits q not_negated d in
    let n = deepest (map (λ part. nesting_in part in_and) cs) in
    let le : d + n ≤ 64 = deepest_le d (λ part. nesting_in part in_and) P (λ c f. f.nested in_and refl) (enough P d (λ c f. let k = f.nested alone refl in omega arith) cs chain all) cs all in
    let is : (s : Standing) → nesting_in (cond_tree.And cs) s ≡ in_parentheses (wraps_and s) n = λ s. nesting_in-And cs s in
    record {
      parts = IsCond-And q cs chain (all_parts P (IsCond q) (λ c f. f.parts) cs all);
      nested = (λ s e. go n le is s e);
      wrap = (λ s. let k = is s in let j = is alone in let w = wrapped (wraps_and s) n in omega (arith, k, j, w));
    }
  where
    go : (n : ℕ) → d + n ≤ 64 → ((s : Standing) → nesting_in (cond_tree.And cs) s ≡ in_parentheses (wraps_and s) n) → (s : Standing) → not_joined s ≡ true → d + nesting_in (cond_tree.And cs) s ≤ 64
    go n le is alone e = let k = is alone in omega (arith, k, le)
    go n le is in_and e = absurd (false≢true e)
    go n le is in_or e = let k = is in_or in omega (arith, k, le)
    go n le is after_not e = absurd (false≢true e)

or_fits : (q : Bool) (d : ℕ) (cs : List CondTree) → IsChain (length cs) → All (Fits q not_joined d) cs → Fits q by_itself d (cond_tree.Or cs)
or_fits q d cs chain all =
    let P = Fits q not_joined d in
    let n = deepest (map (λ part. nesting_in part in_or) cs) in
    let le : d + n ≤ 64 = deepest_le d (λ part. nesting_in part in_or) P (λ c f. f.nested in_or refl) (enough P d (λ c f. let k = f.nested alone refl in omega arith) cs chain all) cs all in
    let is : (s : Standing) → nesting_in (cond_tree.Or cs) s ≡ in_parentheses (wraps_or s) n = λ s. nesting_in-Or cs s in
    record {
      parts = IsCond-Or q cs chain (all_parts P (IsCond q) (λ c f. f.parts) cs all);
      nested = (λ s e. go n le is s e);
      wrap = (λ s. let k = is s in let j = is alone in let w = wrapped (wraps_or s) n in omega (arith, k, j, w));
    }
  where
    go : (n : ℕ) → d + n ≤ 64 → ((s : Standing) → nesting_in (cond_tree.Or cs) s ≡ in_parentheses (wraps_or s) n) → (s : Standing) → by_itself s ≡ true → d + nesting_in (cond_tree.Or cs) s ≤ 64
    go n le is alone e = let k = is alone in omega (arith, k, le)
    go n le is in_and e = absurd (false≢true e)
    go n le is in_or e = absurd (false≢true e)
    go n le is after_not e = absurd (false≢true e)

weaker : (q : Bool) (a b : Standing → Bool) (d : ℕ) (c : CondTree) → ((s : Standing) → b s ≡ true → a s ≡ true) → Fits q a d c → Fits q b d c
weaker q a b d c to f = record { parts = f.parts; nested = (λ s e. f.nested s (to s e)); wrap = f.wrap }

joined_alone : (s : Standing) → not_joined s ≡ true → not_negated s ≡ true
joined_alone alone e = refl
joined_alone in_and e = absurd (false≢true e)
joined_alone in_or e = refl
joined_alone after_not e = absurd (false≢true e)

itself_joined : (s : Standing) → by_itself s ≡ true → not_joined s ≡ true
itself_joined alone e = refl
itself_joined in_and e = absurd (false≢true e)
itself_joined in_or e = absurd (false≢true e)
itself_joined after_not e = absurd (false≢true e)

-- what stood in parentheses may stand anywhere outside them
inner_fits : (q : Bool) (d : ℕ) (c : CondTree) → Fits q by_itself (suc d) c → Fits q anywhere d c
inner_fits q d c f = record { parts = f.parts; nested = (λ s e. let k = f.nested alone refl in let j = f.wrap s in omega (arith, k, j)); wrap = f.wrap }

-- what is true of a production that nests
abbrev pub Good : (A : Type 0) → Rule A → ℕ → ℕ → ℕ → A → Type 0
Good A (condition_rule q) d lo hi c = d ≤ 64 → Part (Fits q by_itself d) cond_places lo hi c
Good A preference_rule d lo hi p = Part IsPref pref_places lo hi p

module _ (last : ℕ) (small : last < 2 ^ 32) where
  abbrev pub Is : {A : Type 0} → Grammar A → ℕ → ℕ → ℕ → A → Type 0
  Is f d lo hi v = At last Good f d 0 lo hi v

  -- ---- tests

  -- the rest of a test, behind a scalar
  abbrev RestFits : Bool → ℕ → ℕ → ℕ → Rest → Type 0
  RestFits q d lo hi f = (s : ScalarTree) (low : ℕ) → IsScalar q s → Rises low lo (scalar_places s) → low < lo → Part (Fits q anywhere d) cond_places low hi (f s)

  rest_moved : (q : Bool) (d lo hi : ℕ) (f g : Rest) → f ≡ g → RestFits q d lo hi g → RestFits q d lo hi f
  rest_moved q d lo hi f g e p = subst (λ z. RestFits q d lo hi z) (sym e) p

  op_order : (d lo hi : ℕ) (v : CompareOp) → Is op d lo hi v → lo ≤ hi
  unfolding op
  op_order d lo hi v (inl i) = let k = stands_filled last Good (d + 0) lo hi i.1.0 i.1.2 in omega arith
  op_order d lo hi v (inr (inl i)) = let k = stands_filled last Good (d + 0) lo hi i.1.0 i.1.2 in omega arith
  op_order d lo hi v (inr (inr (inl i))) = let k = stands_filled last Good (d + 0) lo hi i.1.0 i.1.2 in omega arith
  op_order d lo hi v (inr (inr (inr (inl i)))) = let k = stands_filled last Good (d + 0) lo hi i.1.0 i.1.2 in omega arith
  op_order d lo hi v (inr (inr (inr (inr (inl i))))) = let k = stands_filled last Good (d + 0) lo hi i.1.0 i.1.2 in omega arith
  op_order d lo hi v (inr (inr (inr (inr (inr i))))) = let k = stands_filled last Good (d + 0) lo hi i.1.0 i.1.2 in omega arith

  comparison_part : (q : Bool) (d lo hi : ℕ) (f : Rest) → d ≤ 64 → Is (comparison q) d lo hi f → RestFits q d lo hi f
  unfolding comparison
  comparison_part q d lo hi f le w =
      let u = w.0 in
      let m = w.1.0 in
      rest_moved q d lo hi f (λ s. cond_tree.Compare u.0 s u.1) w.2 (λ s low is rises lt.
      let b = scalar_part last Good q d _ m hi u.1 w.1.2 in
      let up = op_order d lo m u.0 w.1.1 in
      record {
        good = flat_fits q d 0 (cond_tree.Compare u.0 s u.1) (is, b.good) (omega arith) (nesting_in-Compare u.0 s u.1);
        rising = subst (λ z. Rises low hi z) (sym (cond_places-Compare u.0 s u.1)) (Rises-append low lo hi (scalar_places s) (scalar_places u.1) rises (Rises-wider m hi lo hi (scalar_places u.1) up (omega arith) b.rising));
        filled = (let k = b.filled in omega arith);
      })

  after-negation : after Token Rule class rises falls negation 0 ≡ 0
  unfolding negation
  after-negation = refl

  -- what stands behind [NOT] begins with as many open parentheses
  at_start : {A : Type 0} (d : ℕ) (f : Grammar A) (lo hi : ℕ) (v : A) → At last Good f d (after Token Rule class rises falls negation 0) lo hi v → Is f d lo hi v
  at_start d f lo hi v w = subst (λ z. At last Good f d z lo hi v) after-negation w

  after-scalar : (q : Bool) → after Token Rule class rises falls (scalar q) 0 ≡ 0
  unfolding scalar plain_scalar column literal number_form optional_sign level distance
  after-scalar false = refl
  after-scalar true = refl

  scalar_start : {A : Type 0} (q : Bool) (d : ℕ) (f : Grammar A) (lo hi : ℕ) (v : A) → At last Good f d (after Token Rule class rises falls (scalar q) 0) lo hi v → Is f d lo hi v
  scalar_start q d f lo hi v w = subst (λ z. At last Good f d z lo hi v) (after-scalar q) w

  negation_order : (d lo hi : ℕ) (v : Bool) → Is negation d lo hi v → lo ≤ hi
  unfolding negation
  negation_order d lo hi v w = by w.0 w.1
    where
      by : (o : Option (Unit {0})) → Is (option (word_only word.Not)) d lo hi o → lo ≤ hi
      by None i = i
      by (Some u) i = let k = stands_filled last Good (d + 0) lo hi i.0 i.2 in omega arith

  between_part : (q : Bool) (d lo hi : ℕ) (f : Bool → Rest) → d ≤ 64 → Is (between q) d lo hi f → (n : Bool) → RestFits q d lo hi (f n)
  unfolding between
  between_part q d lo hi f le w n =
      let u = w.0 in
      rest_moved q d lo hi (f n) (λ s. cond_tree.Between n s u.0 u.1) (ap (λ g. g n) w.2) (λ s low is rises lt.
      let b = skip last Good 21 d 0 (scalar q ⨟ word_only word.And ⨟> scalar q) lo hi u w.1 in
      let m = b.2.0 in
      let x = scalar_part last Good q d _ b.0 m u.0 b.2.1 in
      let c = skip last Good 17 d _ (scalar q) m hi u.1 b.2.2 in
      let y = scalar_part last Good q d _ c.0 hi u.1 c.2 in
      let first = Rises-append low lo m (scalar_places s) (scalar_places u.0) rises (Rises-wider b.0 m lo m (scalar_places u.0) (let k = b.1 in omega arith) (omega arith) x.rising) in
      let second = Rises-wider c.0 hi m hi (scalar_places u.1) (let k = c.1 in omega arith) (omega arith) y.rising in
      record {
        good = flat_fits q d 0 (cond_tree.Between n s u.0 u.1) (is, x.good, y.good) (omega arith) (nesting_in-Between n s u.0 u.1);
        rising = subst (λ z. Rises low hi z) (sym (cond_places-Between n s u.0 u.1)) (Rises-append low m hi (scalar_places s ++ scalar_places u.0) (scalar_places u.1) first second);
        filled = (let k = b.1 in let j = c.1 in let i = x.filled in let h = y.filled in omega arith);
      })

  one_deeper : (d : ℕ) → d + 1 ≡ suc d
  one_deeper d = omega arith

  -- after a parenthesis that is opened
  opened : (d : ℕ) (t : Token) → class t ≡ 3 → turn Token Rule class rises falls (class t) (d + 0) ≤ 64 → suc d ≤ 64
  opened d t e le = let k = subst (λ z. turn Token Rule class rises falls z (d + 0) ≤ 64) e le in omega (arith, k)

  member_part : (q : Bool) (d lo hi : ℕ) (f : Bool → Rest) → Is (member q) d lo hi f → (n : Bool) → RestFits q d lo hi (f n)
  unfolding member
  member_part q d lo hi f w n =
      let u = w.0 in
      rest_moved q d lo hi (f n) (λ s. cond_tree.OneOf n s u) (ap (λ g. g n) w.2) (λ s low is rises lt.
      let b = skip last Good 37 d 0 (in_parens (scalars q)) lo hi u w.1 in
      let deep = b.2.1.1.2.deep in
      let e = enclosed_part last Good (λ z. IsFilled (length z) × All (IsScalar q) z) (λ z. flat_map scalar_places z) d 0 (scalars q) (λ a c z i. let p = scalars_parts last Good small q d _ a c z i in record { good = (p.some, p.all); rising = p.rising; filled = parts_filled last Good small (IsScalar q) scalar_places a c z p }) b.0 hi u b.2 in
      record {
        good = flat_fits q d 1 (cond_tree.OneOf n s u) (is, e.good.0, e.good.1) (let j = opened d b.2.1.1.0 b.2.1.1.1 deep in omega (arith, j)) (nesting_in-OneOf n s u);
        rising = subst (λ z. Rises low hi z) (sym (cond_places-OneOf n s u)) (Rises-append low lo hi (scalar_places s) (flat_map scalar_places u) rises (Rises-wider b.0 hi lo hi (flat_map scalar_places u) (let k = b.1 in omega arith) (omega arith) e.rising));
        filled = (let k = b.1 in let i = e.filled in omega arith);
      })

  null_part : (q : Bool) (d lo hi : ℕ) (f : Rest) → d ≤ 64 → Is null_test d lo hi f → RestFits q d lo hi f
  unfolding null_test negation
  null_part q d lo hi f le w =
      let u = w.0 in
      rest_moved q d lo hi f (λ s. cond_tree.IsNull u s) w.2 (λ s low is rises lt.
      let b = skip last Good 38 d 0 (negation <⨟ word_only word.Null) lo hi u w.1 in
      let x = b.2.1 in
      let up = negation_order d b.0 x.0 b.2.0.0 x.1 in
      let k = stands_filled last Good (d + 0) x.0 hi x.2.0 x.2.2 in
      record {
        good = flat_fits q d 0 (cond_tree.IsNull u s) is (omega arith) (nesting_in-IsNull u s);
        rising = subst (λ z. Rises low hi z) (sym (cond_places-IsNull u s)) (Rises-wider low lo low hi (scalar_places s) (omega arith) (let j = b.1 in omega arith) rises);
        filled = (let j = b.1 in omega arith);
      })

  -- behind [NOT]
  negated_rest_part : (q : Bool) (d lo m hi : ℕ) (n : Bool) (g : Bool → Rest) → lo ≤ m → RestFits q d m hi (g n) → RestFits q d lo hi (g n)
  negated_rest_part q d lo m hi n g le p s low is rises lt = p s low is (Rises-wider low lo low m (scalar_places s) (omega arith) le rises) (omega arith)

  rest_part : (q : Bool) (d lo hi : ℕ) (f : Rest) → d ≤ 64 → Is (rest q) d lo hi f → RestFits q d lo hi f
  unfolding rest
  rest_part q d lo hi f le (inl w) = comparison_part q d lo hi f le w
  rest_part q d lo hi f le (inr (inl w)) =
      let u = w.0 in
      let m = w.1.0 in
      rest_moved q d lo hi f (negated_rest u) w.2 (negated_rest_part q d lo m hi u.0 u.1 (negation_order d lo m u.0 w.1.1) (between_part q d m hi u.1 le (at_start d (between q) m hi u.1 w.1.2) u.0))
  rest_part q d lo hi f le (inr (inr (inl w))) =
      let u = w.0 in
      let m = w.1.0 in
      rest_moved q d lo hi f (negated_rest u) w.2 (negated_rest_part q d lo m hi u.0 u.1 (negation_order d lo m u.0 w.1.1) (member_part q d m hi u.1 (at_start d (member q) m hi u.1 w.1.2) u.0))
  rest_part q d lo hi f le (inr (inr (inr w))) = null_part q d lo hi f le w

  -- ---- conditions

  paren_part : (q : Bool) (d lo hi : ℕ) (v : CondTree) → Is (in_parens (rule (condition_rule q))) d lo hi v → Part (Fits q anywhere d) cond_places lo hi v
  paren_part q d lo hi v w =
      let p = enclosed_part last Good (Fits q by_itself (suc d)) cond_places d 0 (rule (condition_rule q)) (λ a b c i. subst (λ z. Good CondTree (condition_rule q) z a b c) (one_deeper d) i (opened d w.1.1.0 w.1.1.1 w.1.1.2.deep)) lo hi v w in
      record { good = inner_fits q d v p.good; rising = p.rising; filled = p.filled }

  plain_test_part : (q : Bool) (d lo hi : ℕ) (v : CondTree) → d ≤ 64 → Is (map_form test_tree (both (scalar q) (rest q))) d lo hi v → Part (Fits q anywhere d) cond_places lo hi v
  plain_test_part q d lo hi v le w =
      let u = w.0 in
      let m = w.1.0 in
      let s = scalar_part last Good q d 0 lo m u.0 w.1.1 in
      let f = rest_part q d m hi u.1 le (scalar_start q d (rest q) m hi u.1 w.1.2) in
      moved (Fits q anywhere d) cond_places lo hi v (test_tree u) w.2 (f u.0 lo s.good s.rising s.filled)

  test_part : (q : Bool) (d lo hi : ℕ) (v : CondTree) → d ≤ 64 → Is (test q) d lo hi v → Part (Fits q anywhere d) cond_places lo hi v
  unfolding test
  test_part false d lo hi v le (inl w) = paren_part false d lo hi v w
  test_part false d lo hi v le (inr w) = plain_test_part false d lo hi v le w
  test_part true d lo hi v le (inl w) = paren_part true d lo hi v w
  test_part true d lo hi v le (inr (inl w)) = plain_test_part true d lo hi v le w
  test_part true d lo hi v le (inr (inr w)) =
      let u = w.0 in
      let s = skip last Good 53 d 0 (in_parens column) lo hi u w.1 in
      let p = enclosed_part last Good IsColumn column_place d _ column (column_part last Good d _) s.0 hi u s.2 in
      moved (Fits true anywhere d) cond_places lo hi v (cond_tree.Top u) w.2 (record {
        good = flat_fits true d 0 (cond_tree.Top u) (refl, p.good) (omega arith) (nesting_in-Top u);
        rising = subst (λ z. Rises lo hi z) (sym (cond_places-Top u)) (let k = s.1 in let j = p.rising.0 in omega arith, p.rising.1);
        filled = (let k = s.1 in let j = p.filled in omega arith);
      })

  negated_by : (q : Bool) (d lo m hi : ℕ) (n : Bool) (c : CondTree) → lo ≤ m → Part (Fits q anywhere d) cond_places m hi c → Part (Fits q not_negated d) cond_places lo hi (negated_tree (n, c))
  negated_by q d lo m hi false c le p = record { good = weaker q anywhere not_negated d c (λ s e. refl) p.good; rising = Rises-wider m hi lo hi (cond_places c) le (omega arith) p.rising; filled = (let k = p.filled in omega arith) }
  negated_by q d lo m hi true c le p = record {
    good = not_fits q d c p.good;
    rising = subst (λ z. Rises lo hi z) (sym (cond_places-Not c)) (Rises-wider m hi lo hi (cond_places c) le (omega arith) p.rising);
    filled = (let k = p.filled in omega arith);
  }

  neg_part : (q : Bool) (d lo hi : ℕ) (v : CondTree) → d ≤ 64 → Is (neg q) d lo hi v → Part (Fits q not_negated d) cond_places lo hi v
  unfolding neg
  neg_part q d lo hi v le w =
      let u = w.0 in
      let m = w.1.0 in
      moved (Fits q not_negated d) cond_places lo hi v (negated_tree u) w.2 (negated_by q d lo m hi u.0 u.1 (negation_order d lo m u.0 w.1.1) (test_part q d m hi u.1 le (at_start d (test q) m hi u.1 w.1.2)))

  after-neg : (q : Bool) → after Token Rule class rises falls (neg q) 0 ≡ 0
  unfolding neg test negation
  after-neg false = refl
  after-neg true = refl

  conj_part : (q : Bool) (d lo hi : ℕ) (v : CondTree) → d ≤ 64 → Is (conj q) d lo hi v → Part (Fits q not_joined d) cond_places lo hi v
  unfolding conj
  conj_part q d lo hi v le w =
      let parts = separated_parts last Good small (Fits q not_negated d) cond_places 17 d 0 (neg q) (λ a b c i. neg_part q d a b c le i) (λ a b c i. neg_part q d a b c le (subst (λ z. At last Good (neg q) d z a b c) (after-neg q) i)) lo hi w.0 w.1 in
      moved (Fits q not_joined d) cond_places lo hi v (chain cond_tree.And w.0) w.2 (chain_part (Fits q not_negated d) (Fits q not_joined d) cond_places cond_tree.And lo hi w.0 (λ c f. weaker q not_negated not_joined d c joined_alone f) (and_fits q d) cond_places-And parts)

  after-conj : (q : Bool) → after Token Rule class rises falls (conj q) 0 ≡ 0
  unfolding conj neg test negation
  after-conj false = refl
  after-conj true = refl

  pub cond_part : (q : Bool) (d lo hi : ℕ) (v : CondTree) → d ≤ 64 → Is (cond q) d lo hi v → Part (Fits q by_itself d) cond_places lo hi v
  unfolding cond
  cond_part q d lo hi v le w =
      let parts = separated_parts last Good small (Fits q not_joined d) cond_places 45 d 0 (conj q) (λ a b c i. conj_part q d a b c le i) (λ a b c i. conj_part q d a b c le (subst (λ z. At last Good (conj q) d z a b c) (after-conj q) i)) lo hi w.0 w.1 in
      moved (Fits q by_itself d) cond_places lo hi v (chain cond_tree.Or w.0) w.2 (chain_part (Fits q not_joined d) (Fits q by_itself d) cond_places cond_tree.Or lo hi w.0 (λ c f. weaker q not_joined by_itself d c itself_joined f) (or_fits q d) cond_places-Or parts)

  -- ---- preferences

  prim_part : (d lo hi : ℕ) (v : PrefTree) → Is prim d lo hi v → Part IsPref pref_places lo hi v
  unfolding prim
  prim_part d lo hi v (inl w) = enclosed_part last Good IsPref pref_places d 0 (rule preference_rule) (λ a b c i. i) lo hi v w
  prim_part d lo hi v (inr (inl w)) =
      let s = skip last Good 29 d 0 (in_parens (rule preference_rule)) lo hi w.0 w.1 in
      let p = enclosed_part last Good IsPref pref_places d _ (rule preference_rule) (λ a b c i. i) s.0 hi w.0 s.2 in
      moved IsPref pref_places lo hi v (pref_tree.Dual w.0) w.2 (record {
        good = IsPref-Dual w.0 p.good;
        rising = subst (λ z. Rises lo hi z) (sym (pref_places-Dual w.0)) (Rises-wider s.0 hi lo hi (pref_places w.0) (let k = s.1 in omega arith) (omega arith) p.rising);
        filled = (let k = s.1 in let j = p.filled in omega arith);
      })
  prim_part d lo hi v (inr (inr w)) =
      let p = base_part last Good small d 0 lo hi w.0 w.1 in
      moved IsPref pref_places lo hi v (pref_tree.Base w.0) w.2 (record { good = p.good; rising = subst (λ z. Rises lo hi z) (sym (pref_places-Base w.0)) p.rising; filled = p.filled })

  after-prim : after Token Rule class rises falls prim 0 ≡ 0
  unfolding prim
  after-prim = refl

  par_part : (d lo hi : ℕ) (v : PrefTree) → Is par d lo hi v → Part IsPref pref_places lo hi v
  unfolding par
  par_part d lo hi v w =
      let parts = separated_parts last Good small IsPref pref_places 17 d 0 prim (prim_part d) (λ a b c i. prim_part d a b c (subst (λ z. At last Good prim d z a b c) after-prim i)) lo hi w.0 w.1 in
      moved IsPref pref_places lo hi v (chain pref_tree.Pareto w.0) w.2 (chain_part IsPref IsPref pref_places pref_tree.Pareto lo hi w.0 (λ c f. f) IsPref-Pareto pref_places-Pareto parts)

  after-par : after Token Rule class rises falls par 0 ≡ 0
  unfolding par prim
  after-par = refl

  pub pref_part : (d lo hi : ℕ) (v : PrefTree) → Is pref d lo hi v → Part IsPref pref_places lo hi v
  unfolding pref
  pref_part d lo hi v w =
      let parts = separated_parts last Good small IsPref pref_places 24 d 0 par (par_part d) (λ a b c i. par_part d a b c (subst (λ z. At last Good par d z a b c) after-par i)) lo hi w.0 w.1 in
      moved IsPref pref_places lo hi v (chain pref_tree.Prior w.0) w.2 (chain_part IsPref IsPref pref_places pref_tree.Prior lo hi w.0 (λ c f. f) IsPref-Prior pref_places-Prior parts)
