-- What makes a part of a query well formed, and of which domain a scalar is.
use Rattle.std.proofs.Common.{◌≡◌, ℤ, ℕ, ◌≤◌, ◌<◌, ◌^◌, Bool, true, false, not, List, [], ◌∷◌, map, length, refl, sym, ap, ◌∙◌, leb, arith, inl, inr}
use Rattle.std.specs.List.{list_all}
use Rattle.std.specs.Prelude.{pos, unsigned_abs}
use Rattle.std.proofs.lemmas.Bool.{and_from, le-leb, lt-ltb}
use Rattle.std.proofs.lemmas.List.{length-map}
use Rattle.std.proofs.lemmas.List.Folds.{list_all-map}
use Rattle.prefsql_values.specs.Limits.{IsShort}
use Rattle.prefsql_values.specs.declared.value.CompareOp.{CompareOp}
use Rattle.prefsql_values.specs.declared.value.Domain.{Domain}
use Rattle.prefsql_values.specs.declared.value.Domain.TheVariants as domain
use Rattle.prefsql_values.specs.declared.value.Domain.TheVariants.{Integer}
use Rattle.order_laws.proofs.Members.{Among, all_from}
use Rattle.sql_tree.specs.declared.tree.SqlCond.{SqlCond, And, Or, Not, Compare, Between, OneOf, IsNull, Exists}
use Rattle.sql_tree.specs.declared.tree.SqlScalar.{SqlScalar, Number, Chars}
use Rattle.sql_tree.specs.declared.tree.SqlQuery.{SqlQuery}
use Rattle.sql_tree.specs.declared.tree.SqlWhen.{SqlWhen}
use Rattle.sql_tree.specs.declared.tree.SumTerm.{SumTerm}
use Rattle.sql_tree.specs.Shown.{View, number_shape}
use Rattle.sql_tree.specs.WellFormed.{JudgedScalar, JudgedWhen, agrees, domain_eq, is_when, judged_cond, judged_query, judged_scalar, judged_sum}
use Rattle.rewritten_query.specs.Leaves.{cases, less, number}
use Rattle.written_query_validity.proofs.Judgements.{judged-And, judged-Or, judged-Not, judged-Compare, judged-Between, judged-OneOf, judged-IsNull, judged-Exists, judged-Number, judged-Chars, judged-Sum, judged-Case, judged_term_is, judged_when, judged_when_is}

-- the scalar is well formed and of the domain
pub record IsOf (writing : Bool) (view : View) (of : Domain) (scalar : SqlScalar) : Type 0 where
  pub well : (judged_scalar writing scalar view).well ≡ true
  pub same : (judged_scalar writing scalar view).shape.domain ≡ of

-- the condition is well formed
abbrev pub Formed : Bool → View → SqlCond → Type 0
Formed writing view cond = judged_cond writing cond view ≡ true

-- a well formed number that is no sum, of the size of a literal
abbrev pub plain : JudgedScalar
plain = record { shape = number_shape; well = true; is_sum = false }

abbrev pub IsPlain : Bool → View → SqlScalar → Type 0
IsPlain writing view scalar = judged_scalar writing scalar view ≡ plain

same_domain : (d : Domain) → domain_eq d d ≡ true
same_domain domain.Integer = refl
same_domain domain.Chars = refl

module _ (writing : Bool) (view : View) where
  -- ---- scalars

  pub plain_is : (a : SqlScalar) → IsPlain writing view a → IsOf writing view Integer a
  plain_is a is = record { well = ap (λ (j : JudgedScalar). j.well) is; same = ap (λ (j : JudgedScalar). j.shape.domain) is }

  pub number_plain : (n : ℤ) → IsShort n → IsPlain writing view (Number n)
  number_plain n short =
      judged-Number writing n view
      ∙ ap (λ well. let judged : JudgedScalar = record { shape = number_shape; well = well; is_sum = false } in judged) (lt-ltb (unsigned_abs n) (10 ^ 18) short)

  pub number_of : (n : ℤ) → IsShort n → IsOf writing view Integer (Number n)
  number_of n short = plain_is (Number n) (number_plain n short)

  pub count_of : (n : ℕ) → n < 10 ^ 18 → IsOf writing view Integer (number n)
  count_of n small = number_of (pos n) small

  pub chars_of : (text : List ℕ) → IsOf writing view domain.Chars (Chars text)
  chars_of text = record { well = ap (λ (j : JudgedScalar). j.well) (judged-Chars writing text view); same = ap (λ (j : JudgedScalar). j.shape.domain) (judged-Chars writing text view) }

  judged_less : (a b : SqlScalar) → IsPlain writing view a → IsPlain writing view b
      → judged_scalar writing (less a b) view ≡ judged_sum (record { minus = false; scalar = plain } ∷ record { minus = true; scalar = plain } ∷ [])
  judged_less a b a_is b_is =
      let first : SumTerm = record { minus = false; scalar = a } in
      let second : SumTerm = record { minus = true; scalar = b } in
      judged-Sum writing (first ∷ second ∷ []) view
      ∙ (λ j. judged_sum (judged_term_is writing first view j ∷ judged_term_is writing second view j ∷ []))
      ∙ (λ j. judged_sum (record { minus = false; scalar = a_is j } ∷ record { minus = true; scalar = b_is j } ∷ []))

  pub less_of : (a b : SqlScalar) → IsPlain writing view a → IsPlain writing view b → IsOf writing view Integer (less a b)
  less_of a b a_is b_is = record {
    well = ap (λ (j : JudgedScalar). j.well) (judged_less a b a_is b_is);
    same = ap (λ (j : JudgedScalar). j.shape.domain) (judged_less a b a_is b_is);
  }

  -- a WHEN whose result is a number
  pub record IsCount (w : SqlWhen) : Type 0 where
    pub cond : Formed writing view w.cond
    pub value : IsOf writing view Integer w.value

  counted : (w : SqlWhen) → IsCount w → (d : Domain) → d ≡ Integer → is_when d (judged_when writing w view) ≡ true
  counted w is d d_is =
      let found = judged_when_is writing w view in
      and_from _ _ (and_from _ _ (ap (λ (j : JudgedWhen). j.cond) found ∙ is.cond) (ap (λ (j : JudgedWhen). j.value.well) found ∙ is.value.well))
      (λ j. domain_eq (d_is j) ((ap (λ (j : JudgedWhen). j.value.shape.domain) found ∙ is.value.same) j))

  pub cases_of : (whens : List SqlWhen) (last : SqlScalar) → 1 ≤ length whens → ((w : SqlWhen) → Among whens w → IsCount w) → IsOf writing view Integer last
      → IsOf writing view Integer (cases whens last)
  cases_of [] last some each last_is = absurd (omega (arith, some))
  cases_of (w ∷ ws) last some each last_is =
      let judged : SqlWhen → JudgedWhen = λ v. judged_when writing v view in
      let found = judged-Case writing (w ∷ ws) last view in
      let d : (judged w).value.shape.domain ≡ Integer = ap (λ (j : JudgedWhen). j.value.shape.domain) (judged_when_is writing w view) ∙ (each w (inl refl)).value.same in
      let all : list_all (is_when (judged w).value.shape.domain) (map judged (w ∷ ws)) ≡ true =
      list_all-map (is_when (judged w).value.shape.domain) judged (w ∷ ws)
      ∙ all_from (λ v. is_when (judged w).value.shape.domain (judged v)) (w ∷ ws) (λ v a. counted v (each v a) (judged w).value.shape.domain d)
      in
      let otherwise : domain_eq (judged w).value.shape.domain (judged_scalar writing last view).shape.domain ≡ true = (λ j. domain_eq (d j) (last_is.same j)) in
      let some_when : leb 1 (length (map judged (w ∷ ws))) ≡ true = le-leb 1 (length (map judged (w ∷ ws))) (omega (arith, length-map (w ∷ ws) judged)) in
      record {
        well = ap (λ (j : JudgedScalar). j.well) found ∙ and_from _ _ (and_from _ _ some_when all) (and_from _ _ last_is.well otherwise);
        same = ap (λ (j : JudgedScalar). j.shape.domain) found ∙ d;
      }

  -- ---- conditions

  agree : (d : Domain) (a b : SqlScalar) → IsOf writing view d a → IsOf writing view d b → agrees (judged_scalar writing a view) (judged_scalar writing b view) ≡ true
  agree d a b a_is b_is = and_from _ _ b_is.well ((λ j. domain_eq (a_is.same j) (b_is.same j)) ∙ same_domain d)

  pub And_formed : (parts : List SqlCond) → 2 ≤ length parts → ((part : SqlCond) → Among parts part → Formed writing view part) → Formed writing view (And parts)
  And_formed parts several each = judged-And writing parts view ∙ and_from _ _ (le-leb 2 (length parts) several) (all_from (λ part. judged_cond writing part view) parts each)

  pub Or_formed : (parts : List SqlCond) → 2 ≤ length parts → ((part : SqlCond) → Among parts part → Formed writing view part) → Formed writing view (Or parts)
  Or_formed parts several each = judged-Or writing parts view ∙ and_from _ _ (le-leb 2 (length parts) several) (all_from (λ part. judged_cond writing part view) parts each)

  pub both_formed : (a b : SqlCond) → Formed writing view a → Formed writing view b → Formed writing view (And (a ∷ b ∷ []))
  both_formed a b a_is b_is =
      And_formed (a ∷ b ∷ []) (omega arith)
      (λ part there. elim there [ inl is ↦ ap (λ c. judged_cond writing c view) (sym is) ∙ a_is | inr more ↦ elim more [ inl is ↦ ap (λ c. judged_cond writing c view) (sym is) ∙ b_is | inr none ↦ absurd none ] ])

  pub either_formed : (a b : SqlCond) → Formed writing view a → Formed writing view b → Formed writing view (Or (a ∷ b ∷ []))
  either_formed a b a_is b_is =
      Or_formed (a ∷ b ∷ []) (omega arith)
      (λ part there. elim there [ inl is ↦ ap (λ c. judged_cond writing c view) (sym is) ∙ a_is | inr more ↦ elim more [ inl is ↦ ap (λ c. judged_cond writing c view) (sym is) ∙ b_is | inr none ↦ absurd none ] ])

  pub Not_formed : (part : SqlCond) → Formed writing view part → Formed writing view (Not part)
  Not_formed part is = judged-Not writing part view ∙ is

  pub Compare_formed : (op : CompareOp) (d : Domain) (a b : SqlScalar) → IsOf writing view d a → IsOf writing view d b → Formed writing view (Compare op a b)
  Compare_formed op d a b a_is b_is = judged-Compare writing op a b view ∙ and_from _ _ a_is.well (agree d a b a_is b_is)

  pub Between_formed : (negate : Bool) (d : Domain) (a low high : SqlScalar) → IsOf writing view d a → IsOf writing view d low → IsOf writing view d high → Formed writing view (Between negate a low high)
  Between_formed negate d a low high a_is low_is high_is =
      judged-Between writing negate a low high view ∙ and_from _ _ (and_from _ _ a_is.well (agree d a low a_is low_is)) (agree d a high a_is high_is)

  pub OneOf_formed : (negate : Bool) (d : Domain) (a : SqlScalar) (list : List SqlScalar) → IsOf writing view d a → 1 ≤ length list → ((b : SqlScalar) → Among list b → IsOf writing view d b)
      → Formed writing view (OneOf negate a list)
  OneOf_formed negate d a list a_is some each =
      judged-OneOf writing negate a list view
      ∙ and_from _ _ (and_from _ _ a_is.well (le-leb 1 (length list) some))
      (all_from (λ b. agrees (judged_scalar writing a view) (judged_scalar writing b view)) list (λ b there. agree d a b a_is (each b there)))

  pub IsNull_formed : (negate : Bool) (d : Domain) (a : SqlScalar) → IsOf writing view d a → Formed writing view (IsNull negate a)
  IsNull_formed negate d a a_is = judged-IsNull writing negate a view ∙ a_is.well

  pub Exists_formed : (query : SqlQuery) → (judged_query writing query view).well ≡ true → (judged_query writing query view).has_order ≡ false → Formed writing view (Exists query)
  Exists_formed query well no_order = judged-Exists writing query view ∙ and_from _ _ well (ap not no_order)
