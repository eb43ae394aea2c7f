-- What a caller concludes from what a preference shows.
use Rattle.std.proofs.Common.{◌≡◌, ℕ, ℤ, true, List, [], ◌∷◌, ◌++◌, ◌+◌, length, All, Result, Ok, Err, IfOk, Bor, refl, sym, ap, ◌∙◌, subst, length-append}
use Rattle.std.proofs.lemmas.List.Elements.{All-push}
use Rattle.prefsql_values.specs.declared.value.Value.{Value}
use Rattle.prefsql_values.specs.declared.value.Value.TheVariants.{Num, Str, Null}
use Rattle.base_prefs.specs.declared.edge.Edge.{Edge}
use Rattle.base_prefs.specs.declared.edge.ValueSet.{ValueSet}
use Rattle.base_prefs.specs.declared.fault.BaseFault.{BaseFault}
use Rattle.base_prefs.specs.declared.kind.Kind.{Kind}
use Rattle.base_prefs.specs.declared.kind.Kind.TheVariants.{Pos, Neg, PosPos, PosNeg, Layered, Explicit, Around, Between, Lowest, Highest}
use Rattle.base_prefs.specs.declared.view.BaseView.{BaseView}
use Rattle.base_prefs.specs.declared.view.BaseView.TheVariants as view
use Rattle.base_prefs.specs.Graph.{ends, graph_values}
use Rattle.base_prefs.specs.Kind.{edges_of, has_level, is_explicit, IsJudged, IsWithinBound}
use Rattle.base_prefs.specs.Outcome.{IsExplicitOf}
use Rattle.prefsql_values.specs.Limits.{IsLiteralValue}
use Rattle.base_prefs.specs.View.{IsViewOf, IsKindOf}
use Rattle.base_prefs.proofs.Closing.{ends_push}

no_text_is_null : (s : List ℕ) → Str s ≡ Null → ⊥
no_text_is_null s e = cc

no_number_is_null : (n : ℤ) → Num n ≡ Null → ⊥
no_number_is_null n e = cc

-- a kind with levels judges each text
pub judged_text : (kind : Kind) → has_level kind ≡ true → (s : List ℕ) → IsJudged kind (Str s)
judged_text (Pos t) h s = no_text_is_null s
judged_text (Neg t) h s = no_text_is_null s
judged_text (PosPos t u) h s = no_text_is_null s
judged_text (PosNeg t u) h s = no_text_is_null s
judged_text (Layered before after) h s = no_text_is_null s
judged_text (Explicit g) h s = no_text_is_null s
judged_text (Around center) h s = absurd (cc)
judged_text (Between low up) h s = absurd (cc)
judged_text Lowest h s = absurd (cc)
judged_text Highest h s = absurd (cc)

-- each kind judges a number within the bound
pub judged_number : (kind : Kind) (n : ℤ) → IsWithinBound n → IsJudged kind (Num n)
judged_number (Around center) n bound = bound
judged_number (Between low up) n bound = bound
judged_number Lowest n bound = bound
judged_number Highest n bound = bound
judged_number kind n bound = no_number_is_null n

-- a view of a graph is that of an EXPLICIT preference, and has its values
pub explicit_shown : (kind : Kind) (values : Bor (List Value)) → IsViewOf (view.Explicit values) kind → (is_explicit kind ≡ true) × (values.now ≡ graph_values (edges_of kind))
explicit_shown (Explicit g) values shown = (refl, shown)
explicit_shown kind values shown = absurd shown

-- this view, so this kind
pub kind_shown : (shown : BaseView) (kind : Kind) → IsViewOf shown kind → IsKindOf shown kind
kind_shown (view.Pos values) (Pos s) is = λ i. Pos (record { values = sym is i })
kind_shown (view.Neg values) (Neg s) is = λ i. Neg (record { values = sym is i })
kind_shown (view.PosPos first second) (PosPos s t) is = λ i. PosPos (record { values = sym is.0 i }) (record { values = sym is.1 i })
kind_shown (view.PosNeg good bad) (PosNeg s t) is = λ i. PosNeg (record { values = sym is.0 i }) (record { values = sym is.1 i })
kind_shown (view.Layered before after) (Layered early late) is = λ i. Layered (sym is.0 i) (sym is.1 i)
kind_shown (view.Explicit values) (Explicit g) is = (g, refl, is)
kind_shown (view.Around center) (Around z) is = ap Around (sym is)
kind_shown (view.Between low up) (Between l u) is = λ i. Between (sym is.0 i) (sym is.1 i)
kind_shown view.Lowest Lowest is = refl
kind_shown view.Highest Highest is = refl
kind_shown (view.Pos values) kind is = absurd is
kind_shown (view.Neg values) kind is = absurd is
kind_shown (view.PosPos first second) kind is = absurd is
kind_shown (view.PosNeg good bad) kind is = absurd is
kind_shown (view.Layered before after) kind is = absurd is
kind_shown (view.Explicit values) kind is = absurd is
kind_shown (view.Around center) kind is = absurd is
kind_shown (view.Between low up) kind is = absurd is
kind_shown view.Lowest kind is = absurd is
kind_shown view.Highest kind is = absurd is

explicit_ranks : (edges : List Edge) (kind : Kind) → IsExplicitOf edges kind → has_level kind ≡ true
explicit_ranks edges (Explicit g) made = refl
explicit_ranks edges kind made = absurd made

-- an EXPLICIT preference has levels
pub explicit_made_ranks : (edges : List Edge) (made : Result Kind BaseFault) → IfOk made (IsExplicitOf edges) → IfOk made (λ kind. has_level kind ≡ true)
explicit_made_ranks edges (Ok kind) h = explicit_ranks edges kind h
explicit_made_ranks edges (Err fault) h = tt

-- a LAYERED one too
pub layered_made_ranks : (before after : List ValueSet) (made : Result Kind BaseFault) → IfOk made (λ kind. kind ≡ Layered before after) → IfOk made (λ kind. has_level kind ≡ true)
layered_made_ranks before after (Ok kind) h = ap has_level h
layered_made_ranks before after (Err fault) h = tt

-- one edge more, of values that a script can write
pub edge_pushed : (edges new : List Edge) (e : Edge) (n : ℕ) → (length edges ≡ n) × All IsLiteralValue (ends edges) → IsLiteralValue e.upper → IsLiteralValue e.lower → new ≡ edges ++ e ∷ []
    → (length new ≡ n + 1) × All IsLiteralValue (ends new)
edge_pushed edges new e n before upper lower pushed = (
  ap length pushed ∙ length-append edges (e ∷ []) ∙ ap (λ k. k + 1) before.0,
  subst (λ vs. All IsLiteralValue vs) (sym (ap ends pushed ∙ ends_push edges e))
      (All-push IsLiteralValue (ends edges ++ e.upper ∷ []) e.lower (All-push IsLiteralValue (ends edges) e.upper before.1 upper) lower),
)
