-- A base preference that is well made and owes nothing is sound, and names values of its column's domain.
use Rattle.std.proofs.Common.{◌≡◌, ℕ, ◌+◌, Bool, true, false, Some, List, [], ◌∷◌, ◌++◌, length, map, All, refl, sym, ap, ◌∙◌, subst, arith, length-append}
use Rattle.std.proofs.lemmas.Bool.{false≢true}
use Rattle.std.proofs.lemmas.List.{length-map, map-append}
use Rattle.std.proofs.lemmas.List.Elements.{All-nil, All-cons, All-head, All-tail, All-append}
use Rattle.prefsql_values.specs.Limits.{IsLiteralValue, IsShort}
use Rattle.prefsql_values.specs.declared.value.Domain.{Domain}
use Rattle.prefsql_values.specs.declared.value.Domain.TheVariants.{Integer, Chars}
use Rattle.prefsql_values.specs.declared.value.Value.{Value}
use Rattle.prefsql_values.specs.declared.value.Value.TheVariants.{Num, Str, Null}
use Rattle.prefsql_tables.specs.Table.{Tables}
use Rattle.base_prefs.proofs.Firsts.{All-firsts}
use Rattle.base_prefs.proofs.SetLaws.{layers_kept, sets_kept}
use Rattle.base_prefs.specs.Graph.{ends, graph_values}
use Rattle.base_prefs.specs.Kind.{has_distance, has_level, is_explicit, number_of}
use Rattle.base_prefs.specs.KindLimits.{IsKeptGraph, IsSound}
use Rattle.base_prefs.specs.Outcome.{IsExplicitOf}
use Rattle.base_prefs.specs.Rankable.{ranks_numbers}
use Rattle.base_prefs.specs.Sets.{AreKeptSets, IsGivenSet, once, written}
use Rattle.base_prefs.specs.declared.edge.Edge.{Edge}
use Rattle.base_prefs.specs.declared.edge.ValueSet.{ValueSet}
use Rattle.base_prefs.specs.declared.kind.Kind.{Kind}
use Rattle.base_prefs.specs.declared.kind.Kind.TheVariants as kind
use Rattle.query_meaning.specs.Valid.{named_values, value_domain}
use Rattle.query_tree.specs.WellMade.{IsEdge, IsForm, IsLiteral, IsSet, KeepsTrivial}
use Rattle.query_tree.specs.declared.name.LiteralTree.{LiteralTree}
use Rattle.query_tree.specs.declared.preference.BaseForm.{BaseForm}
use Rattle.query_tree.specs.declared.preference.BaseForm.TheVariants as form
use Rattle.query_tree.specs.declared.preference.EdgeTree.{EdgeTree}
use Rattle.query_tree.specs.declared.preference.SetTree.{SetTree}
use Rattle.query_tree.specs.declared.query.FromTree.{FromTree}
use Rattle.query_typing.specs.declared.column.Found.TheVariants.{One}
use Rattle.query_typing.specs.declared.column.Site.{Site}
use Rattle.query_typing.specs.Domains.{agree, is_same_domain}
use Rattle.query_typing.specs.Leaves.{form_has_distance, form_has_level}
use Rattle.query_typing.specs.Made.{AreFewApart, IsMakeable}
use Rattle.query_typing.specs.Obligations.{AllMet, Obligation, owes}
use Rattle.query_typing.specs.Preferences.{edge_obligations, edge_of, edges_obligations, else_obligations, form_obligations, form_ranks_numbers, member_obligations, members_obligations, set_values, sets_obligations}
use Rattle.query_typing.specs.Resolution.{IsKindOf, value_set}
use Rattle.query_typing.proofs.Given.{given_edges, given_sets}
use Rattle.query_typing.proofs.MadeLaws.{first_met, second_met}

abbrev Met : Obligation → Type 0
Met o = o.met ≡ true

abbrev no_obligation : Obligation
no_obligation = owes 0 0 true

-- ---- what the kind has

pub ranks_is : (f : BaseForm) (k : Kind) → IsKindOf f k → ranks_numbers k ≡ form_ranks_numbers f
ranks_is (form.Pos set) k same = ap ranks_numbers same
ranks_is (form.Neg set) k same = ap ranks_numbers same
ranks_is (form.PosPos first column second) k same = ap ranks_numbers same
ranks_is (form.PosNeg good column bad) k same = ap ranks_numbers same
ranks_is (form.Layered before after) k same = ap ranks_numbers same
ranks_is (form.Explicit edges) (kind.Explicit graph) same = refl
ranks_is (form.Explicit edges) _ same = absurd same
ranks_is (form.Around middle) k same = ap ranks_numbers same
ranks_is (form.Between low high) k same = ap ranks_numbers same
ranks_is form.Lowest k same = ap ranks_numbers same
ranks_is form.Highest k same = ap ranks_numbers same

pub level_is : (f : BaseForm) (k : Kind) → IsKindOf f k → has_level k ≡ form_has_level f
level_is (form.Pos set) k same = ap has_level same
level_is (form.Neg set) k same = ap has_level same
level_is (form.PosPos first column second) k same = ap has_level same
level_is (form.PosNeg good column bad) k same = ap has_level same
level_is (form.Layered before after) k same = ap has_level same
level_is (form.Explicit edges) (kind.Explicit graph) same = refl
level_is (form.Explicit edges) _ same = absurd same
level_is (form.Around middle) k same = ap has_level same
level_is (form.Between low high) k same = ap has_level same
level_is form.Lowest k same = ap has_level same
level_is form.Highest k same = ap has_level same

pub distance_is : (f : BaseForm) (k : Kind) → IsKindOf f k → has_distance k ≡ form_has_distance f
distance_is (form.Pos set) k same = ap has_distance same
distance_is (form.Neg set) k same = ap has_distance same
distance_is (form.PosPos first column second) k same = ap has_distance same
distance_is (form.PosNeg good column bad) k same = ap has_distance same
distance_is (form.Layered before after) k same = ap has_distance same
distance_is (form.Explicit edges) (kind.Explicit graph) same = refl
distance_is (form.Explicit edges) _ same = absurd same
distance_is (form.Around middle) k same = ap has_distance same
distance_is (form.Between low high) k same = ap has_distance same
distance_is form.Lowest k same = ap has_distance same
distance_is form.Highest k same = ap has_distance same

no_explicit : (k l : Kind) → k ≡ l → is_explicit l ≡ false → is_explicit k ≡ true → ⊥
no_explicit k l same other is = false≢true (sym other ∙ sym (ap is_explicit same) ∙ is)

pub trivial_is : (f : BaseForm) (k : Kind) (trivial : Bool) → IsKindOf f k → KeepsTrivial f trivial → is_explicit k ≡ true → trivial ≡ true
trivial_is (form.Pos set) k trivial same keeps is = absurd (no_explicit k _ same refl is)
trivial_is (form.Neg set) k trivial same keeps is = absurd (no_explicit k _ same refl is)
trivial_is (form.PosPos first column second) k trivial same keeps is = absurd (no_explicit k _ same refl is)
trivial_is (form.PosNeg good column bad) k trivial same keeps is = absurd (no_explicit k _ same refl is)
trivial_is (form.Layered before after) k trivial same keeps is = absurd (no_explicit k _ same refl is)
trivial_is (form.Explicit edges) k trivial same keeps is = keeps
trivial_is (form.Around middle) k trivial same keeps is = absurd (no_explicit k _ same refl is)
trivial_is (form.Between low high) k trivial same keeps is = absurd (no_explicit k _ same refl is)
trivial_is form.Lowest k trivial same keeps is = absurd (no_explicit k _ same refl is)
trivial_is form.Highest k trivial same keeps is = absurd (no_explicit k _ same refl is)

-- ---- its limits

all_given : (sets : List SetTree) → All IsSet sets → All IsGivenSet (map value_set sets)
all_given sets all = given_sets sets (map value_set sets) refl all

kept : (sets : List SetTree) → All IsSet sets → AreFewApart (map value_set sets) → AreKeptSets (map once (map value_set sets))
kept sets all made = sets_kept (map value_set sets) (all_given sets all) made.few made.apart

one_set : (set : SetTree) → IsSet set → All IsSet (set ∷ [])
one_set set is = All-cons IsSet set [] is (All-nil IsSet)

two_sets : (first second : SetTree) → IsSet first → IsSet second → All IsSet (first ∷ second ∷ [])
two_sets first second is_first is_second = All-cons IsSet first (second ∷ []) is_first (one_set second is_second)

explicit_sound : (edges : List EdgeTree) (k : Kind) → IsForm (form.Explicit edges) → IsMakeable (form.Explicit edges) → IsExplicitOf (map edge_of edges) k → IsSound k
explicit_sound edges (kind.Explicit graph) is made same =
    subst IsKeptGraph (sym same)
    (record {
      some = (let some = is.0.0 in let count = length-map edges edge_of in omega (arith, some, count));
      few = made.0;
      literal = All-firsts IsLiteralValue (ends (map edge_of edges)) (given_edges edges (map edge_of edges) refl is.1);
    })
explicit_sound edges _ is made same = absurd same

short : (v : Value) → IsLiteralValue v → IsShort (number_of v)
short (Num n) is = is
short (Str text) is = omega arith
short Null is = absurd is

pub kind_sound : (f : BaseForm) (k : Kind) → IsForm f → IsMakeable f → IsKindOf f k → IsSound k
kind_sound (form.Pos set) k is made same = subst IsSound (sym same) (kept (set ∷ []) (one_set set is) made)
kind_sound (form.Neg set) k is made same = subst IsSound (sym same) (kept (set ∷ []) (one_set set is) made)
kind_sound (form.PosPos first column second) k is made same = subst IsSound (sym same) (kept (first ∷ second ∷ []) (two_sets first second is.0 is.2) made)
kind_sound (form.PosNeg good column bad) k is made same = subst IsSound (sym same) (kept (good ∷ bad ∷ []) (two_sets good bad is.0 is.2) made)
kind_sound (form.Layered before after) k is made same =
    subst IsSound (sym same)
    (layers_kept (map value_set before) (map value_set after)
    (let some = is.2 in
    let whole = length-append (map value_set before) (map value_set after) in
    let first = length-map before value_set in
    let second = length-map after value_set in
    omega (arith, some, whole, first, second))
    (All-append IsGivenSet (map value_set before) (map value_set after) (all_given before is.0.1) (all_given after is.1.1))
    made.few made.apart)
kind_sound (form.Explicit edges) k is made same = explicit_sound edges k is made same
kind_sound (form.Around middle) k is made same = subst IsSound (sym same) (short middle.value is)
kind_sound (form.Between low high) k is made same = subst IsSound (sym same) (short low.value is.0, short high.value is.1, made)
kind_sound form.Lowest k is made same = subst IsSound (sym same) tt
kind_sound form.Highest k is made same = subst IsSound (sym same) tt

-- ---- the domain of what it names

pub same_domain : (d e : Domain) → is_same_domain d e ≡ true → e ≡ d
same_domain Integer Integer same = refl
same_domain Integer Chars same = absurd (false≢true same)
same_domain Chars Integer same = absurd (false≢true same)
same_domain Chars Chars same = refl

module _ (d : Domain) where
  -- the value is of the domain
  abbrev pub HasDomain : Value → Type 0
  HasDomain v = value_domain v ≡ Some d

  of_domain : (v : Value) → IsLiteralValue v → agree (Some d) (value_domain v) ≡ true → HasDomain v
  of_domain (Num n) is met = ap Some (same_domain d Integer met)
  of_domain (Str text) is met = ap Some (same_domain d Chars met)
  of_domain Null is met = absurd is

  members_named : (before : List Value) (count : ℕ) (literals : List LiteralTree) → All IsLiteral literals → AllMet (members_obligations (Some d) before count literals) → All HasDomain (map (λ (literal : LiteralTree). literal.value) literals)
  members_named before count [] is all = All-nil HasDomain
  members_named before count (literal ∷ literals) is all =
      let rest = members_obligations (Some d) before (count + 1) literals in
      All-cons HasDomain literal.value (map (λ (l : LiteralTree). l.value) literals)
      (of_domain literal.value (All-head IsLiteral literal literals is) (all 0 no_obligation (omega arith)))
      (members_named before (count + 1) literals (All-tail IsLiteral literal literals is) (second_met (member_obligations (Some d) before count literal) rest all))

  sets_named : (before : List Value) (sets : List SetTree) → All IsSet sets → AllMet (sets_obligations (Some d) before sets) → All HasDomain (written (map once (map value_set sets)))
  sets_named before [] is all = All-nil HasDomain
  sets_named before (set ∷ sets) is all =
      let own = members_obligations (Some d) before (length before) set.literals in
      let rest = sets_obligations (Some d) (before ++ set_values set) sets in
      All-append HasDomain (once (value_set set)).values (written (map once (map value_set sets)))
      (All-firsts HasDomain (set_values set) (members_named before (length before) set.literals (All-head IsSet set sets is).1 (first_met own rest all)))
      (sets_named (before ++ set_values set) sets (All-tail IsSet set sets is) (second_met own rest all))

  edges_named : (before : List Edge) (edges : List EdgeTree) → All IsEdge edges → AllMet (edges_obligations (Some d) before edges) → All HasDomain (ends (map edge_of edges))
  edges_named before [] is all = All-nil HasDomain
  edges_named before (edge ∷ edges) is all =
      let own = All-head IsEdge edge edges is in
      let more = ends (map edge_of edges) in
      All-cons HasDomain edge.upper.value (edge.lower.value ∷ more)
      (of_domain edge.upper.value own.0 (all 0 no_obligation (omega arith)))
      (All-cons HasDomain edge.lower.value more
      (of_domain edge.lower.value own.1 (all 3 no_obligation (omega arith)))
      (edges_named (before ++ edge_of edge ∷ []) edges (All-tail IsEdge edge edges is)
      (second_met (edge_obligations (Some d) before edge) (edges_obligations (Some d) (before ++ edge_of edge ∷ []) edges) all)))

  explicit_named : (edges : List EdgeTree) (k : Kind) → All IsEdge edges → AllMet (edges_obligations (Some d) [] edges) → IsExplicitOf (map edge_of edges) k → All HasDomain (named_values k)
  explicit_named edges (kind.Explicit graph) is all same =
      subst (λ (es : List Edge). All HasDomain (graph_values es)) (sym same) (All-firsts HasDomain (ends (map edge_of edges)) (edges_named [] edges is all))
  explicit_named edges _ is all same = absurd same

  -- a kind that names these values
  by_kind : (k l : Kind) → k ≡ l → All HasDomain (named_values l) → All HasDomain (named_values k)
  by_kind k l same all = subst (λ (x : Kind). All HasDomain (named_values x)) (sym same) all

module _ (tables : Tables) (from : List FromTree) (site : Site) where
  abbrev Has : Value → Type 0
  Has = HasDomain site.domain

  pub kind_named : (f : BaseForm) (k : Kind) → IsForm f → (form_ranks_numbers f ≡ true → Some site.domain ≡ Some Integer) → AllMet (form_obligations tables from (One site) f) → IsKindOf f k → All (λ (v : Value). value_domain v ≡ Some site.domain) (named_values k)
  kind_named (form.Pos set) k is numbers all same =
      by_kind site.domain k _ same (sets_named site.domain [] (set ∷ []) (one_set set is) all)
  kind_named (form.Neg set) k is numbers all same =
      by_kind site.domain k _ same (sets_named site.domain [] (set ∷ []) (one_set set is) all)
  kind_named (form.PosPos first column second) k is numbers all same =
      by_kind site.domain k _ same
      (sets_named site.domain [] (first ∷ second ∷ []) (two_sets first second is.0 is.2) (second_met (else_obligations tables from (One site) column) (sets_obligations (Some site.domain) [] (first ∷ second ∷ [])) all))
  kind_named (form.PosNeg good column bad) k is numbers all same =
      by_kind site.domain k _ same
      (sets_named site.domain [] (good ∷ bad ∷ []) (two_sets good bad is.0 is.2) (second_met (else_obligations tables from (One site) column) (sets_obligations (Some site.domain) [] (good ∷ bad ∷ [])) all))
  kind_named (form.Layered before after) k is numbers all same =
      by_kind site.domain k _ same
      (subst (λ (sets : List ValueSet). All Has (written sets))
      (ap (map once) (map-append value_set before after) ∙ map-append once (map value_set before) (map value_set after))
      (sets_named site.domain [] (before ++ after) (All-append IsSet before after is.0.1 is.1.1) all))
  kind_named (form.Explicit edges) k is numbers all same = explicit_named site.domain edges k is.1 all same
  kind_named (form.Around middle) k is numbers all same =
      by_kind site.domain k _ same (All-cons Has (Num (number_of middle.value)) [] (sym (numbers refl)) (All-nil Has))
  kind_named (form.Between low high) k is numbers all same =
      by_kind site.domain k _ same
      (All-cons Has (Num (number_of low.value)) (Num (number_of high.value) ∷ []) (sym (numbers refl))
      (All-cons Has (Num (number_of high.value)) [] (sym (numbers refl)) (All-nil Has)))
  kind_named form.Lowest k is numbers all same = by_kind site.domain k _ same (All-nil Has)
  kind_named form.Highest k is numbers all same = by_kind site.domain k _ same (All-nil Has)
