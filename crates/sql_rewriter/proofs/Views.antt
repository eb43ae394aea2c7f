-- What the view of a base preference shows is what its rank is written from.
use Rattle.std.proofs.Common.{◌≡◌, ℕ, ◌+◌, ◌<◌, ◌≤◌, max, true, List, [], ◌∷◌, ◌++◌, length, get_or, take, map, filter, nat_eq, All, refl, sym, ap, ◌∙◌, subst, arith, inl, inr}
use Rattle.std.specs.Borrow.{Bor}
use Rattle.std.specs.Prelude.{IfOk, Result, Ok, Err}
use Rattle.std.specs.List.{range_with_len}
use Rattle.std.proofs.lemmas.Bool.{cond_both, cond-true}
use Rattle.std.proofs.lemmas.List.FromFn.{map-range_with_len_more}
use Rattle.std.proofs.lemmas.List.{get_or-map, length-map, take-map}
use Rattle.std.proofs.lemmas.List.Elements.{All-head, All-tail, All-weaker}
use Rattle.prefsql_values.specs.Limits.{IsLiteralValue}
use Rattle.prefsql_values.specs.declared.value.Value.{Value}
use Rattle.order_laws.proofs.Members.{Among, Contains_from_among}
use Rattle.base_prefs.specs.declared.edge.Edge.{Edge}
use Rattle.base_prefs.specs.declared.edge.ValueSet.{ValueSet}
use Rattle.base_prefs.specs.declared.kind.Kind.{Kind}
use Rattle.base_prefs.specs.declared.kind.Kind.TheVariants.{Pos, Neg, PosPos, PosNeg, Layered, Explicit}
use Rattle.base_prefs.specs.declared.view.BaseView.TheVariants as view
use Rattle.base_prefs.specs.Graph.{graph_height, graph_level, graph_values, greatest}
use Rattle.base_prefs.specs.Kind.{edges_of, is_explicit}
use Rattle.base_prefs.specs.KindLimits.{IsSound}
use Rattle.base_prefs.specs.Sets.{IsKeptSet}
use Rattle.base_prefs.specs.View.{IsViewOf}
use Rattle.base_prefs.specs.Values.{is_in}
use Rattle.base_prefs.proofs.Heights.{greatest_number_more, height_le}
use Rattle.base_prefs.proofs.KindMeaning.{is_in-Decides}
use Rattle.base_prefs.proofs.SetLaws.{layers_few}
use Rattle.pref_terms.specs.TermLaws.{All-first, All-second}
use Rattle.sql_tree.specs.declared.tree.SqlScalar.{SqlScalar}
use Rattle.sql_tree.specs.declared.tree.SqlWhen.{SqlWhen}
use Rattle.rewritten_query.specs.Leaves.{cases, greatest_level, is_among, level_when, level_whens, number, rank_scalar, set_whens, when_so}

pub ok_weaker : {X E : Type 0} (P Q : X → Type 0) (r : Result X E) → ((x : X) → P x → Q x) → IfOk r P → IfOk r Q
ok_weaker P Q (Ok x) h p = h x p
ok_weaker P Q (Err e) h p = tt

-- the value that was made is the one that is wanted
pub ok_same : {X E : Type 0} (r : Result X E) (a b : X) → a ≡ b → IfOk r (λ x. x ≡ a) → IfOk r (λ x. x ≡ b)
ok_same r a b e = ok_weaker (λ x. x ≡ a) (λ x. x ≡ b) r (λ x p. p ∙ e)

set_literals : (s : ValueSet) → IsKeptSet s → All IsLiteralValue s.values
set_literals s kept = kept.given.literal

abbrev pub AllLiterals : List ValueSet → Type 0
AllLiterals = All (λ (s : ValueSet). All IsLiteralValue s.values)

sets_literals : (sets : List ValueSet) → All IsKeptSet sets → AllLiterals sets
sets_literals sets kept = All-weaker IsKeptSet (λ (s : ValueSet). All IsLiteralValue s.values) set_literals sets kept

pub shown_Pos : (kind : Kind) (values : Bor (List Value)) → IsViewOf (view.Pos values) kind → IsSound kind
    → All IsLiteralValue values.now × ((x : SqlScalar) → cases (when_so (is_among x values.now) (number 1) ∷ []) (number 2) ≡ rank_scalar kind x)
shown_Pos (Pos s) values is sound =
    (subst (All IsLiteralValue) (sym is) (set_literals s (All-head IsKeptSet s [] sound.each)), λ x. ap (λ vs. cases (when_so (is_among x vs) (number 1) ∷ []) (number 2)) is)
shown_Pos kind values is sound = absurd is

pub shown_Neg : (kind : Kind) (values : Bor (List Value)) → IsViewOf (view.Neg values) kind → IsSound kind
    → All IsLiteralValue values.now × ((x : SqlScalar) → cases (when_so (is_among x values.now) (number 2) ∷ []) (number 1) ≡ rank_scalar kind x)
shown_Neg (Neg s) values is sound =
    (subst (All IsLiteralValue) (sym is) (set_literals s (All-head IsKeptSet s [] sound.each)), λ x. ap (λ vs. cases (when_so (is_among x vs) (number 2) ∷ []) (number 1)) is)
shown_Neg kind values is sound = absurd is

pub shown_PosPos : (kind : Kind) (first second : Bor (List Value)) → IsViewOf (view.PosPos first second) kind → IsSound kind
    → All IsLiteralValue first.now × All IsLiteralValue second.now × ((x : SqlScalar) → cases (when_so (is_among x first.now) (number 1) ∷ when_so (is_among x second.now) (number 2) ∷ []) (number 3) ≡ rank_scalar kind x)
shown_PosPos (PosPos s t) first second is sound = (
  subst (All IsLiteralValue) (sym is.0) (set_literals s (All-head IsKeptSet s (t ∷ []) sound.each)),
  subst (All IsLiteralValue) (sym is.1) (set_literals t (All-head IsKeptSet t [] (All-tail IsKeptSet s (t ∷ []) sound.each))),
  λ x j. cases (when_so (is_among x (is.0 j)) (number 1) ∷ when_so (is_among x (is.1 j)) (number 2) ∷ []) (number 3),
)
shown_PosPos kind first second is sound = absurd is

pub shown_PosNeg : (kind : Kind) (good bad : Bor (List Value)) → IsViewOf (view.PosNeg good bad) kind → IsSound kind
    → All IsLiteralValue good.now × All IsLiteralValue bad.now × ((x : SqlScalar) → cases (when_so (is_among x good.now) (number 1) ∷ when_so (is_among x bad.now) (number 3) ∷ []) (number 2) ≡ rank_scalar kind x)
shown_PosNeg (PosNeg s t) good bad is sound = (
  subst (All IsLiteralValue) (sym is.0) (set_literals s (All-head IsKeptSet s (t ∷ []) sound.each)),
  subst (All IsLiteralValue) (sym is.1) (set_literals t (All-head IsKeptSet t [] (All-tail IsKeptSet s (t ∷ []) sound.each))),
  λ x j. cases (when_so (is_among x (is.0 j)) (number 1) ∷ when_so (is_among x (is.1 j)) (number 3) ∷ []) (number 2),
)
shown_PosNeg kind good bad is sound = absurd is

pub shown_Layered : (kind : Kind) (before after : Bor (List ValueSet)) → IsViewOf (view.Layered before after) kind → IsSound kind
    → (length before.now + length after.now ≤ 256) × AllLiterals before.now × AllLiterals after.now
    × ((x : SqlScalar) → cases (set_whens x 1 before.now ++ set_whens x (length before.now + 2) after.now) (number (length before.now + 1)) ≡ rank_scalar kind x)
shown_Layered (Layered early late) before after is sound = (
  subst (λ sets. length sets + length after.now ≤ 256) (sym is.0) (subst (λ sets. length early + length sets ≤ 256) (sym is.1) (layers_few (Layered early late) sound early late refl)),
  subst AllLiterals (sym is.0) (sets_literals early (All-first IsKeptSet early late sound.sets.each)),
  subst AllLiterals (sym is.1) (sets_literals late (All-second IsKeptSet early late sound.sets.each)),
  λ x j. cases (set_whens x 1 (is.0 j) ++ set_whens x (length (is.0 j) + 2) (is.1 j)) (number (length (is.0 j) + 1)),
)
shown_Layered kind before after is sound = absurd is

pub shown_Explicit : (kind : Kind) (values : Bor (List Value)) → IsViewOf (view.Explicit values) kind → IsSound kind
    → (is_explicit kind ≡ true) × (values.now ≡ graph_values (edges_of kind)) × All IsLiteralValue values.now × (length values.now ≤ 16) × (0 < length values.now)
    × ((x : SqlScalar) → cases (level_whens x (edges_of kind)) (number (greatest_level (edges_of kind) + 1)) ≡ rank_scalar kind x)
shown_Explicit (Explicit g) values is sound = (
  refl,
  is,
  subst (All IsLiteralValue) (sym is) sound.literal,
  subst (λ vs. length vs ≤ 16) (sym is) sound.few,
  subst (λ vs. 0 < length vs) (sym is) (some_values g.edges sound.some),
  λ x. refl,
)
  where
    some_values : (edges : List Edge) → 0 < length edges → 0 < length (graph_values edges)
    some_values [] h = absurd (omega arith)
    some_values (e ∷ edges) h = omega arith
shown_Explicit kind values is sound = absurd is

-- ---- levels are small

heights_small : (edges : List Edge) (vs : List Value) → greatest (map (graph_height edges) vs) ≤ length (graph_values edges)
heights_small edges [] = omega arith
heights_small edges (v ∷ vs) = omega (arith, height_le edges (length (graph_values edges)) v, heights_small edges vs)

pub level_small : (edges : List Edge) (v : Value) → graph_level edges v ≤ length (graph_values edges) + 2
level_small edges v =
    cond_both _ (graph_height edges v + 1) (greatest (map (graph_height edges) (graph_values edges)) + 2) (λ n. n ≤ length (graph_values edges) + 2)
    (λ e. omega (arith, height_le edges (length (graph_values edges)) v)) (λ e. omega (arith, heights_small edges (graph_values edges)))

pub levels_small : (edges : List Edge) (vs : List Value) → greatest (map (graph_level edges) vs) ≤ length (graph_values edges) + 2
levels_small edges [] = omega arith
levels_small edges (v ∷ vs) = omega (arith, level_small edges v, levels_small edges vs)

pub levels_more : (edges : List Edge) (vs : List Value) (i : ℕ) (v : Value) → i < length vs → v ≡ get_or vs i v → (most : ℕ) → most ≡ greatest (map (graph_level edges) (take i vs))
    → max most (graph_level edges v) ≡ greatest (map (graph_level edges) (take (i + 1) vs))
levels_more edges vs i v small at most so_far =
    let f = graph_level edges in
    let ns = map f vs in
    let within : i < length ns = omega (arith, small, length-map vs f) in
    let here : f v ≡ get_or ns i 0 = ap f at ∙ sym (get_or-map f vs i v 0 small) in
    greatest_number_more ns i (f v) within here most (so_far ∙ ap greatest (sym (take-map f i vs))) ∙ ap greatest (take-map f (i + 1) vs)

-- the greatest level of the values of a graph
levels_inside : (edges : List Edge) (vs : List Value) → ((v : Value) → Among vs v → is_in (graph_values edges) v ≡ true) → map (graph_level edges) vs ≡ map (λ v. graph_height edges v + 1) vs
levels_inside edges [] inside = refl
levels_inside edges (v ∷ vs) inside = λ j. cond-true (is_in (graph_values edges) v) (graph_height edges v + 1) (greatest (map (graph_height edges) (graph_values edges)) + 2) (inside v (inl refl)) j ∷ levels_inside edges vs (λ w a. inside w (inr a)) j

greatest_one_more : (f : Value → ℕ) (v : Value) (vs : List Value) → greatest (map (λ w. f w + 1) (v ∷ vs)) ≡ greatest (map f (v ∷ vs)) + 1
greatest_one_more f v [] = omega arith
greatest_one_more f v (w ∷ vs) = let more = greatest_one_more f w vs in omega (arith, more)

one_more_if_some : (f : Value → ℕ) (vs : List Value) → 0 < length vs → greatest (map (λ w. f w + 1) vs) ≡ greatest (map f vs) + 1
one_more_if_some f [] h = absurd (omega arith)
one_more_if_some f (v ∷ vs) h = greatest_one_more f v vs

pub greatest_level_is : (edges : List Edge) → 0 < length (graph_values edges) → greatest (map (graph_level edges) (graph_values edges)) ≡ greatest_level edges
greatest_level_is edges some =
    ap greatest (levels_inside edges (graph_values edges) (λ v a. (is_in-Decides (graph_values edges) v).1 (Contains_from_among (graph_values edges) v a)))
    ∙ one_more_if_some (graph_height edges) (graph_values edges) some

-- one WHEN more
pub level_pushed : (x : SqlScalar) (edges : List Edge) (values : List Value) (whens new : List SqlWhen) (n j : ℕ) → values ≡ graph_values edges → 1 + n ≡ j
    → whens ≡ map (level_when x edges) (range_with_len 1 n) → new ≡ whens ++ when_so (is_among x (filter (λ v. nat_eq (graph_level edges v) j) values)) (number j) ∷ []
    → new ≡ map (level_when x edges) (range_with_len 1 (n + 1))
level_pushed x edges values whens new n j listed at so_far pushed =
    pushed
    ∙ (λ i. so_far i ++ when_so (is_among x (filter (λ v. nat_eq (graph_level edges v) j) (listed i))) (number j) ∷ [])
    ∙ sym (map-range_with_len_more (level_when x edges) 1 n j at)

pub graph_cases : (x : SqlScalar) (edges : List Edge) (values : List Value) (whens : List SqlWhen) (n g : ℕ) (last : SqlScalar) → values ≡ graph_values edges → 0 < length values
    → g ≡ greatest (map (graph_level edges) values) → n ≡ g → whens ≡ map (level_when x edges) (range_with_len 1 n) → last ≡ number (g + 1)
    → cases whens last ≡ cases (level_whens x edges) (number (greatest_level edges + 1))
graph_cases x edges values whens n g last listed some g_is n_is whens_are last_is =
    let level : g ≡ greatest_level edges = g_is ∙ ap (λ vs. greatest (map (graph_level edges) vs)) listed ∙ greatest_level_is edges (subst (λ vs. 0 < length vs) listed some) in
    λ j. cases ((whens_are ∙ ap (λ k. map (level_when x edges) (range_with_len 1 k)) (n_is ∙ level)) j) ((last_is ∙ ap (λ k. number (k + 1)) level) j)

pub greatest_fits : (edges : List Edge) (values : List Value) (g : ℕ) → values ≡ graph_values edges → length values ≤ 16 → g ≡ greatest (map (graph_level edges) values) → g ≤ 18
greatest_fits edges values g listed few g_is =
    let small = levels_small edges values in
    let same : length values ≡ length (graph_values edges) = ap length listed in
    omega (arith, small, same, few, g_is)
