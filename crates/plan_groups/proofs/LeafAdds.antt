-- The leaves of a term that are put behind others, part by part.
use Rattle.std.proofs.Common.{◌≡◌, length-append, ℕ, ◌+◌, ℤ, neg_ℤ, Bool, true, false, not, if◌then◌else◌, List, [], ◌∷◌, ◌++◌, length, map, append_assoc, refl, sym, ap, ◌∙◌, subst, arith}
use Rattle.std.proofs.lemmas.Int.{ints}
use Rattle.std.proofs.lemmas.List.{length-map, map-append}
use Rattle.prefsql_tables.specs.Sight.{Sight}
use Rattle.base_prefs.specs.Kind.{key_of}
use Rattle.prefsql_tables.specs.declared.place.Combo.{Combo}
use Rattle.pref_terms.specs.Terms.{keys_of}
use Rattle.pref_terms.specs.declared.bound.BoundTerm.{BoundTerm}
use Rattle.pref_terms.specs.declared.term.Leaf.{Leaf}
use Rattle.pref_terms.specs.declared.term.Term.{Term, Pareto, Prior, Dual}
use Rattle.pref_terms.specs.declared.term.Term as term
use Rattle.plan_groups.specs.Groups.{seen_at}
use Rattle.plan_groups.specs.Jumps.{AddsLeaves, Tells, jumps_of, outcomes, shape_of, turned_standings}
use Rattle.plan_groups.specs.Outcomes.{TellsLeaf, leaf_outcome, standings, stands, turned_key}
use Rattle.plan_groups.specs.Ranks.{turned_keys}
use Rattle.plan_groups.specs.declared.jumps.RankedLeaf.{RankedLeaf}
use Rattle.plan_groups.proofs.KeyAdds.{length-turned_keys, turned_keys-append, turned_keys-not, turned-Leaf}
use Rattle.plan_groups.proofs.JumpLaws.{jumps_length, jumps-Leaf, jumps-Pareto, jumps-Prior, jumps-Dual, keys_length, keys_of-Pareto, keys_of-Prior, keys_of-Dual, standings-Leaf, standings-Pareto, standings-Prior, standings-Dual, width_is}

outcomes-append : (ls ms : List RankedLeaf) (xs ys us vs : List ℤ) (a b : ℕ) → length xs ≡ length ls → length ys ≡ length ls
    → outcomes (ls ++ ms) (xs ++ us) (ys ++ vs) a b ≡ outcomes ls xs ys a b ++ outcomes ms us vs a b
outcomes-append [] ms [] [] us vs a b first second = refl
outcomes-append [] ms (x ∷ xs) ys us vs a b first second = absurd (omega (arith, first))
outcomes-append [] ms [] (y ∷ ys) us vs a b first second = absurd (omega (arith, second))
outcomes-append (l ∷ ls) ms [] ys us vs a b first second = absurd (omega (arith, first))
outcomes-append (l ∷ ls) ms (x ∷ xs) [] us vs a b first second = absurd (omega (arith, second))
outcomes-append (l ∷ ls) ms (x ∷ xs) (y ∷ ys) us vs a b first second =
    ap (λ os. leaf_outcome l.test x y a b ∷ os) (outcomes-append ls ms xs ys us vs a b (omega (arith, first)) (omega (arith, second)))

turned_standings-Leaf : (turned : Bool) (t : Term) (leaf : Leaf) → t ≡ term.Leaf leaf → (y x : Sight)
    → turned_standings turned t y x ≡ (if turned then stands x y leaf else stands y x leaf) ∷ []
turned_standings-Leaf true t leaf is y x = standings-Leaf t leaf is x y
turned_standings-Leaf false t leaf is y x = standings-Leaf t leaf is y x

turned_standings-append : (turned : Bool) (t p q : Term) → ((y x : Sight) → standings t y x ≡ standings p y x ++ standings q y x)
    → (y x : Sight) → turned_standings turned t y x ≡ turned_standings turned p y x ++ turned_standings turned q y x
turned_standings-append true t p q are y x = are x y
turned_standings-append false t p q are y x = are y x

turned_standings-Dual : (turned : Bool) (t p : Term) → t ≡ Dual p → (y x : Sight) → turned_standings turned t y x ≡ turned_standings (not turned) p y x
turned_standings-Dual true t p is y x = standings-Dual t p is x y
turned_standings-Dual false t p is y x = standings-Dual t p is y x

module _ (bound : BoundTerm) (combos : List Combo) (turned : Bool) where
  pub adds_leaf : (t : Term) (leaf : Leaf) → t ≡ term.Leaf leaf → (start skip : ℕ) (old new : List RankedLeaf) (ranked : RankedLeaf)
      → new ≡ old ++ ranked ∷ [] → ranked.jump ≡ record { start = start; skip = skip } → TellsLeaf bound combos turned leaf ranked.test
      → AddsLeaves bound combos turned t start skip old new
  adds_leaf t leaf is start skip old new ranked put same tells = record {
    added = ranked ∷ [];
    is = put;
    jumps_are = ap (λ j. j ∷ []) same ∙ sym (jumps-Leaf t leaf is (length old) start skip);
    tells = λ a b a_row b_row.
        (λ j. outcomes (ranked ∷ []) (turned-Leaf turned t leaf is (seen_at bound combos a) j) (turned-Leaf turned t leaf is (seen_at bound combos b) j) a b)
        ∙ ap (λ o. o ∷ []) (tells a b a_row b_row)
        ∙ sym (turned_standings-Leaf turned t leaf is (seen_at bound combos a) (seen_at bound combos b));
  }

  long : (t : Term) (at start skip : ℕ) (ls : List RankedLeaf) → jumps_of ls ≡ (shape_of t).jumps at start skip → (x : Sight) → length (turned_keys turned (keys_of t x)) ≡ length ls
  long t at start skip ls are x =
      length-turned_keys turned (keys_of t x) ∙ keys_length t x ∙ sym (width_is t) ∙ sym (jumps_length t at start skip) ∙ sym (ap length are) ∙ length-map ls (λ (leaf : RankedLeaf). leaf.jump)

  both : (t p q : Term) (first_start first_skip start skip : ℕ)
      → ((x : Sight) → keys_of t x ≡ keys_of p x ++ keys_of q x) → ((y x : Sight) → standings t y x ≡ standings p y x ++ standings q y x)
      → (old mid new : List RankedLeaf)
      → (shape_of t).jumps (length old) start skip ≡ (shape_of p).jumps (length old) first_start first_skip ++ (shape_of q).jumps (length old + (shape_of p).width) start skip
      → AddsLeaves bound combos turned p first_start first_skip old mid → AddsLeaves bound combos turned q start skip mid new
      → AddsLeaves bound combos turned t start skip old new
  both t p q first_start first_skip start skip keys_are standings_are old mid new jumps_are first second =
      let width : length first.added ≡ (shape_of p).width =
      sym (length-map first.added (λ (leaf : RankedLeaf). leaf.jump)) ∙ ap length first.jumps_are ∙ jumps_length p (length old) first_start first_skip
      in
      let at : length mid ≡ length old + (shape_of p).width = ap length first.is ∙ length-append old first.added ∙ ap (λ n. length old + n) width in
      record {
        added = first.added ++ second.added;
        is = second.is ∙ ap (λ ls. ls ++ second.added) first.is ∙ append_assoc old first.added second.added;
        jumps_are = map-append (λ (leaf : RankedLeaf). leaf.jump) first.added second.added
            ∙ (λ j. first.jumps_are j ++ second.jumps_are j)
            ∙ ap (λ n. (shape_of p).jumps (length old) first_start first_skip ++ (shape_of q).jumps n start skip) at
            ∙ sym jumps_are;
        tells = λ a b a_row b_row.
            let y = seen_at bound combos a in
            let x = seen_at bound combos b in
            (λ j. outcomes (first.added ++ second.added) (turned_keys turned (keys_are y j)) (turned_keys turned (keys_are x j)) a b)
            ∙ (λ j. outcomes (first.added ++ second.added) (turned_keys-append turned (keys_of p y) (keys_of q y) j) (turned_keys-append turned (keys_of p x) (keys_of q x) j) a b)
            ∙ outcomes-append first.added second.added (turned_keys turned (keys_of p y)) (turned_keys turned (keys_of p x)) (turned_keys turned (keys_of q y)) (turned_keys turned (keys_of q x)) a b
            (long p (length old) first_start first_skip first.added first.jumps_are y) (long p (length old) first_start first_skip first.added first.jumps_are x)
            ∙ (λ j. first.tells a b a_row b_row j ++ second.tells a b a_row b_row j)
            ∙ sym (turned_standings-append turned t p q standings_are y x);
      }

  pub adds_pareto : (t p q : Term) → t ≡ Pareto p q → (start skip : ℕ) (old mid new : List RankedLeaf)
      → AddsLeaves bound combos turned p 0 0 old mid → AddsLeaves bound combos turned q start skip mid new → AddsLeaves bound combos turned t start skip old new
  adds_pareto t p q is start skip old mid new first second =
      both t p q 0 0 start skip (keys_of-Pareto t p q is) (standings-Pareto t p q is) old mid new (jumps-Pareto t p q is (length old) start skip) first second

  pub adds_prior : (t p q : Term) → t ≡ Prior p q → (start skip : ℕ) (old mid new : List RankedLeaf)
      → AddsLeaves bound combos turned p (length old) ((shape_of q).width + skip) old mid → AddsLeaves bound combos turned q start skip mid new
      → AddsLeaves bound combos turned t start skip old new
  adds_prior t p q is start skip old mid new first second =
      both t p q (length old) ((shape_of q).width + skip) start skip (keys_of-Prior t p q is) (standings-Prior t p q is) old mid new (jumps-Prior t p q is (length old) start skip) first second

  -- the leaves below a dual term are those of its part, turned once more
  pub adds_dual : (t p : Term) → t ≡ Dual p → (start skip : ℕ) (old new : List RankedLeaf)
      → AddsLeaves bound combos (not turned) p start skip old new → AddsLeaves bound combos turned t start skip old new
  adds_dual t p is start skip old new inner = record {
    added = inner.added;
    is = inner.is;
    jumps_are = inner.jumps_are ∙ sym (jumps-Dual t p is (length old) start skip);
    tells = λ a b a_row b_row.
        let y = seen_at bound combos a in
        let x = seen_at bound combos b in
        (λ j. outcomes inner.added (turned_keys turned (keys_of-Dual t p is y j)) (turned_keys turned (keys_of-Dual t p is x j)) a b)
        ∙ (λ j. outcomes inner.added (turned_keys-not turned (keys_of p y) j) (turned_keys-not turned (keys_of p x) j) a b)
        ∙ inner.tells a b a_row b_row
        ∙ sym (turned_standings-Dual turned t p is y x);
  }

  -- what is put behind nothing is all
  pub all_jumps : (t : Term) (start skip : ℕ) (new : List RankedLeaf) → AddsLeaves bound combos turned t start skip [] new → jumps_of new ≡ (shape_of t).jumps 0 start skip
  all_jumps t start skip new adds = ap jumps_of adds.is ∙ adds.jumps_are

  pub all_tell : (t : Term) (start skip : ℕ) (new : List RankedLeaf) → AddsLeaves bound combos turned t start skip [] new → Tells bound combos turned t new
  all_tell t start skip new adds = subst (Tells bound combos turned t) (sym adds.is) adds.tells
