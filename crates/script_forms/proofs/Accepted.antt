-- What is read with a count of statements is a script as it is written, and what is written is read.
use Rattle.std.proofs.Common.{◌≡◌, ◌≤◌, ◌<◌, ◌+◌, ℕ, ◌⊎◌, inl, inr, Bool, List, [], ◌++◌, length, refl, sym, ap, subst, ◌∙◌, arith, Ok, Err}
use Rattle.std.proofs.lemmas.List.{append-nil}
use Rattle.std.proofs.lemmas.Bool.{false≢true}
use Rattle.grammar_forms.specs.Form.{Several, Wholes, Fronts, WholeRule, FrontRule, both, option, many}
use Rattle.grammar_forms.specs.Form as form
use Rattle.grammar_forms.specs.Reading.{Outcome, read, continues}
use Rattle.grammar_forms.proofs.Exact.{Exact, IsFound}
use Rattle.grammar_forms.proofs.Fronts.{rule_none_at}
use Rattle.grammar_forms.proofs.Nesting.{stays_first, stays_rest, IsWhole-limited, IsFront-limited, IsWhole-level}
use Rattle.grammar_forms.proofs.Predictive.{Exact-read}
use Rattle.grammar_forms.proofs.Same.{whole_within, front_within, IsWhole-deeper}
use Rattle.grammar_forms.proofs.Equal.{Equal, Equal-refl, Equal-both, Equal-map, Equal-many, Equal-option}
use Rattle.prefsql_lexer.specs.Bounds.{NestWithin}
use Rattle.prefsql_lexer.specs.declared.token.Token.{Token}
use Rattle.prefsql_lexer.specs.declared.token.Symbol.TheVariants.{Semicolon}
use Rattle.token_forms.specs.Classes.{class}
use Rattle.token_forms.specs.Forms.{GrammarOf, symbol_only}
use Rattle.token_forms.proofs.Depth.{rises, falls, StaysWithin, NestWithin-stays}
use Rattle.script_forms.specs.Scripts.{IsWhole, IsFront, IsScript, IsScriptFront, ended_by, script_of}
use Rattle.script_forms.specs.Counted.{Counted, counted}
use Rattle.script_forms.proofs.Language.{Keeps, IsReadBy}
use Rattle.script_forms.proofs.CountedScripts.{shape_of, counted_of, front_shape, front_counted}

module _ {Rule : Type 0 → Type 1} {production right_side : (A : Type 0) → Rule A → GrammarOf Rule A} {rule_starts rule_continues : (A : Type 0) → Rule A → List ℕ}
    {Tree : Type 0} {statement statement_form : GrammarOf Rule Tree} (language : IsReadBy production right_side rule_starts rule_continues statement statement_form) where
  -- what is a whole one as it is read
  abbrev pub ReadWhole : ℕ → {A : Type 0} → GrammarOf Rule A → List Token → A → Type 0
  ReadWhole n f ts v = form.IsWhole Token Rule class right_side n f ts v

  abbrev pub ReadFront : ℕ → {A : Type 0} → GrammarOf Rule A → List Token → Type 0
  ReadFront n f ts = form.IsFront Token Rule class right_side n f ts

  to_read : (n : ℕ) {A : Type 0} (f : GrammarOf Rule A) (ts : List Token) (v : A) → IsWhole production n f ts v → ReadWhole n f ts v
  to_read n f ts v w = whole_within Token Rule class production right_side language.there n f ts v w

  to_written : (n : ℕ) {A : Type 0} (f : GrammarOf Rule A) (ts : List Token) (v : A) → ReadWhole n f ts v → IsWhole production n f ts v
  to_written n f ts v w = whole_within Token Rule class right_side production language.back n f ts v w

  front_to_read : (n : ℕ) {A : Type 0} (f : GrammarOf Rule A) (ts : List Token) → IsFront production n f ts → ReadFront n f ts
  front_to_read n f ts w = front_within Token Rule class production right_side language.there n f ts w

  front_to_written : (n : ℕ) {A : Type 0} (f : GrammarOf Rule A) (ts : List Token) → ReadFront n f ts → IsFront production n f ts
  front_to_written n f ts w = front_within Token Rule class right_side production language.back n f ts w

  module _ (n : ℕ) where
    abbrev R : (A : Type 0) → Rule A → Wholes Token A
    R A p ts v = WholeRule Token Rule class right_side n A p ts v

    abbrev S : (A : Type 0) → Rule A → Fronts Token
    S A p ts = FrontRule Token Rule class right_side n A p ts

    pub none : (A : Type 0) (p : Rule A) → S A p []
    none A p = rule_none_at Token Rule class right_side n A p

    abbrev Same : {A : Type 0} → GrammarOf Rule A → GrammarOf Rule A → Type 0
    Same f g = Equal Token Rule class R S f g

    statement_same : Same statement statement_form
    statement_same = language.same R S none

    ended_same : Same (ended_by statement) (ended_by statement_form)
    ended_same =
        let semicolon : GrammarOf Rule (Unit {0}) = symbol_only Semicolon in
        Equal-map Token Rule class R S {A = Tree × Unit {0}} (λ z. z.0) (both statement semicolon) (both statement_form semicolon)
        (Equal-both Token Rule class R S statement statement_form semicolon semicolon statement_same (Equal-refl Token Rule class R S semicolon))

    many_same : Same (many (ended_by statement)) (many (ended_by statement_form))
    many_same = Equal-many Token Rule class R S (ended_by statement) (ended_by statement_form) ended_same

    last_same : Same (option statement) (option statement_form)
    last_same = Equal-option Token Rule class R S statement statement_form statement_same

    -- ---- whole scripts

    pub written_of : (k : ℕ) (ts : List Token) (c : Counted Tree) → ReadWhole n (counted statement_form k) ts c → (length c.0 ≤ k) × IsWhole production n (script_of statement) ts c.0
    written_of k ts c w =
        let s = shape_of statement_form R S none k ts c w in
        let many_whole = to_written n (many (ended_by statement)) s.front s.trees (many_same.back.whole s.front s.trees s.several) in
        let last_whole = to_written n (option statement) s.back s.last (last_same.back.whole s.back s.last s.lastly) in
        (s.few, ((s.trees, s.last), (s.front, s.back, s.split, many_whole, last_whole), s.value))

    pub read_of : (k : ℕ) (ts : List Token) (trees : List Tree) → IsWhole production n (script_of statement) ts trees → length trees ≤ k → (full : Bool) × ReadWhole n (counted statement_form k) ts (trees, full)
    read_of k ts trees w few =
        let u = w.0 in
        let p = w.1 in
        let several = many_same.there.whole p.0 u.0 (to_read n (many (ended_by statement)) p.0 u.0 p.3) in
        let lastly = last_same.there.whole p.1 u.1 (to_read n (option statement) p.1 u.1 p.4) in
        let P : List Tree → Type 0 = λ z. length z ≤ k in
        let r = counted_of statement_form R S none k p.0 p.1 u.0 u.1 several lastly (subst P w.2 few) in
        let Q : List Token → List Tree → Type 0 = λ z y. ReadWhole n (counted statement_form k) z (y, r.0) in
        (r.0, subst (λ z. Q z trees) (sym p.2) (subst (λ y. Q (p.0 ++ p.1) y) (sym w.2) r.1))

    -- ---- one list of trees

    counted_exact : (ts : List Token) → Exact class (λ xs v. ReadWhole n (counted statement_form 64) xs v) (λ xs. ReadFront n (counted statement_form 64) xs) (continues Token Rule class rule_starts rule_continues (counted statement_form 64)) ts (read Token Rule class rule_starts rule_continues right_side n (counted statement_form 64) ts)
    counted_exact ts = Exact-read Token Rule class rule_starts rule_continues right_side language.agrees n (counted statement_form 64) language.decides ts

    found_by : (o : Outcome Token (Counted Tree)) (c d : Counted Tree) → IsFound o [] c → IsFound o [] d → c ≡ d
    found_by (Ok p) c d f g = f.1 ∙ sym g.1
    found_by (Err rest) c d f g = absurd f

    found : (ts : List Token) (c : Counted Tree) → ReadWhole n (counted statement_form 64) ts c → IsFound (read Token Rule class rule_starts rule_continues right_side n (counted statement_form 64) ts) [] c
    found ts c w = elim ((counted_exact ts).only ts [] c (sym (append-nil ts)) w) [ inl s ↦ s | inr g ↦ absurd (false≢true g.next) ]

    one_at : (ts : List Token) (some other : List Tree) → length some ≤ 64 → length other ≤ 64 → IsWhole production n (script_of statement) ts some → IsWhole production n (script_of statement) ts other → some ≡ other
    one_at ts some other f g w v =
        let a = read_of 64 ts some w f in
        let b = read_of 64 ts other v g in
        ap (λ z. z.0) (found_by (read Token Rule class rule_starts rule_continues right_side n (counted statement_form 64) ts) (some, a.0) (other, b.0) (found ts (some, a.0) a.1) (found ts (other, b.0) b.1))

  -- One list of tokens has at most one list of trees.
  pub one_list : (ts : List Token) (some other : List Tree) → IsScript production statement ts some → IsScript production statement ts other → some ≡ other
  one_list ts some other w v =
      let n = w.1.0 in
      let m = v.1.0 in
      let flip : m + n ≡ n + m = omega arith in
      one_at (n + m) ts some other w.0 v.0
      (subst (λ z. IsWhole production z (script_of statement) ts some) flip (IsWhole-deeper Token Rule class production m n (script_of statement) ts some w.1.1))
      (IsWhole-deeper Token Rule class production n m (script_of statement) ts other v.1.1)

  -- ---- a script keeps its parentheses

  ended_keeps : Keeps (ended_by statement)
  ended_keeps = let k = language.statement_keeps in (rw k.0 refl, rw k.1 refl)

  last_keeps : Keeps (option statement)
  last_keeps = let k = language.statement_keeps in (rw k.0 (rw k.1 refl), refl)

  many_keeps : Keeps (many (ended_by statement))
  many_keeps = let k = language.statement_keeps in (rw k.0 (rw k.1 refl), refl)

  pub script_keeps : Keeps (script_of statement)
  script_keeps = let k = language.statement_keeps in (rw k.0 (rw k.1 refl), refl)

  -- ---- where the depth of the tokens stays within the limit

  module _ (limit : ℕ) where
    abbrev stays : (ts : List Token) → NestWithin limit 0 ts → StaysWithin Rule limit 0 ts
    stays ts s = NestWithin-stays Rule limit 0 ts s

    pub script_read : (ts : List Token) (trees : List Tree) → NestWithin limit 0 ts → IsScript production statement ts trees → (full : Bool) × ReadWhole limit (counted statement_form 64) ts (trees, full)
    script_read ts trees s w = read_of limit 64 ts trees (IsWhole-limited Token Rule class rises falls production language.production_keeps w.1.0 limit (script_of statement) script_keeps.0 ts trees (stays ts s) w.1.1) w.0

    pub script_written : (ts : List Token) (c : Counted Tree) → ReadWhole limit (counted statement_form 64) ts c → IsScript production statement ts c.0
    script_written ts c w = let s = written_of limit 64 ts c w in (s.0, (limit, s.1))

    -- statements with their semicolons, and the depth after them
    many_limited : (n : ℕ) (xs ys : List Token) (trees : List Tree) → NestWithin limit 0 (xs ++ ys) → IsWhole production n (many (ended_by statement)) xs trees →
        Several (λ us v. ReadWhole limit (ended_by statement_form) us v) xs trees × StaysWithin Rule limit 0 ys
    many_limited n xs ys trees s w =
        let t = stays (xs ++ ys) s in
        let first = stays_first Token Rule class rises falls limit 0 xs ys t in
        let limited = IsWhole-limited Token Rule class rises falls production language.production_keeps n limit (many (ended_by statement)) many_keeps.0 xs trees first w in
        let flat = IsWhole-level Token Rule class rises falls production language.production_keeps n 0 (many (ended_by statement)) many_keeps.0 many_keeps.1 xs trees w in
        ((many_same limit).there.whole xs trees (to_read limit (many (ended_by statement)) xs trees limited), subst (λ z. StaysWithin Rule limit z ys) flat (stays_rest Token Rule class rises falls limit 0 xs ys t))

    pub full_read : (ts : List Token) (n : ℕ) (trees : List Tree) → NestWithin limit 0 ts → IsWhole production n (many (ended_by statement)) ts trees → Several (λ us v. ReadWhole limit (ended_by statement_form) us v) ts trees
    full_read ts n trees s w = (many_limited n ts [] trees (subst (λ z. NestWithin limit 0 z) (sym (append-nil ts)) s) w).0

    pub full_written : (ts : List Token) (trees : List Tree) → Several (λ us v. ReadWhole limit (ended_by statement_form) us v) ts trees → IsWhole production limit (many (ended_by statement)) ts trees
    full_written ts trees s = to_written limit (many (ended_by statement)) ts trees ((many_same limit).back.whole ts trees s)

    pub front_read : (ts : List Token) → IsScriptFront production statement limit ts → ReadFront limit (counted statement_form 64) ts
    front_read ts f =
        let w = f.1 in
        let n = w.0 in
        let xs = w.1 in
        let ys = w.2 in
        let trees = w.3 in
        let t = subst (λ z. NestWithin limit 0 z) w.4 f.0 in
        let m = many_limited n xs ys trees t w.5 in
        let rest : ((ys ≡ []) × (length trees ≤ 64)) ⊎ ((length trees < 64) × (ReadFront limit (ended_by statement_form) ys ⊎ ReadFront limit (option statement_form) ys)) =
        elim w.6 [
          | inl a ↦ inl a
          | inr a ↦ inr (
            a.0,
            (elim a.1 [
              | inl e ↦ inl ((ended_same limit).there.front ys (front_to_read limit (ended_by statement) ys (IsFront-limited Token Rule class rises falls production language.production_keeps n limit (ended_by statement) ended_keeps.0 ys m.1 e)))
              | inr e ↦ inr ((last_same limit).there.front ys (front_to_read limit (option statement) ys (IsFront-limited Token Rule class rises falls production language.production_keeps n limit (option statement) last_keeps.0 ys m.1 e)))
            ]),
          )
        ] in
        subst (λ z. ReadFront limit (counted statement_form 64) z) (sym w.4) (front_counted statement_form (R limit) (S limit) (none limit) 64 xs ys trees m.0 rest)

    pub front_written : (ts : List Token) → NestWithin limit 0 ts → ReadFront limit (counted statement_form 64) ts → IsScriptFront production statement limit ts
    front_written ts s f =
        let p = front_shape statement_form (R limit) (S limit) (none limit) 64 ts f in
        let several = full_written p.0 p.2 p.4 in
        let rest : ((p.1 ≡ []) × (length p.2 ≤ 64)) ⊎ ((length p.2 < 64) × (IsFront production limit (ended_by statement) p.1 ⊎ IsFront production limit (option statement) p.1)) =
        elim p.5 [
          | inl a ↦ inl a
          | inr a ↦ inr (
            a.0,
            (elim a.1 [
              | inl e ↦ inl (front_to_written limit (ended_by statement) p.1 ((ended_same limit).back.front p.1 e))
              | inr e ↦ inr (front_to_written limit (option statement) p.1 ((last_same limit).back.front p.1 e))
            ]),
          )
        ] in
        (s, (limit, p.0, p.1, p.2, p.3, several, rest))
