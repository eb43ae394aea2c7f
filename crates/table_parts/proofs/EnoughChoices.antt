-- Over the rows that stand in best choices, and any others, a query has the answer that it has over all.
use Rattle.std.proofs.Common.{◌≡◌, Bool, Option, Some, None, List, [], ◌∷◌, ◌++◌, map, filter, refl, sym, ◌∙◌, subst, ⊎_elim, append_assoc}
use Rattle.std.specs.List.{flat_map}
use Rattle.std.specs.List.Sorted.{IsPermutation}
use Rattle.std.proofs.lemmas.Bool.{false≢true}
use Rattle.std.proofs.lemmas.List.{map-append}
use Rattle.std.proofs.lemmas.Grind.{flat_map-append}
use Rattle.std.proofs.lemmas.List.Sorted.{IsPermutation-refl, IsPermutation-trans, IsPermutation-append, IsPermutation-append_right, IsPermutation-map}
use Rattle.prefsql_tables.specs.Product.{product}
use Rattle.prefsql_tables.specs.declared.place.ColumnPlace.{ColumnPlace}
use Rattle.order_laws.specs.Best.{best, is_unbettered}
use Rattle.order_laws.proofs.BestLaws.{among_best, best_among, unbettered_from}
use Rattle.order_laws.proofs.Members.{Among, Contains_from_among, among_either, among_filter, among_flat_map, among_flat_mapped, among_from_Contains, among_kept, among_map, among_mapped, filter_true}
use Rattle.order_laws.proofs.PartLaws.{unbettered_in_part}
use Rattle.pref_terms.specs.declared.term.Term.{Term}
use Rattle.query_meaning.specs.declared.block.Block.{Block}
use Rattle.query_meaning.specs.declared.block.Output.{Output}
use Rattle.query_meaning.specs.Answers.{passes}
use Rattle.reordered_tables.proofs.ByRows.{Rows, best_of, outputs, shown_by, sources}
use Rattle.reordered_tables.proofs.OneAnswer.{answer_is}
use Rattle.reordered_tables.proofs.Permutations.{arranged_moved, flat_each_moved, flat_moved}
use Rattle.table_parts.specs.KeptChoices.{AnswersByKeptChoices, ArePartedLists, HasBestOfFewer, HasNoneOf, best_choices, choice_better}
use Rattle.table_parts.proofs.EnoughRows.{middle_moved, outputs_kept}

-- ---- choices of the kept, and choices with what is left out

module _ {X Y : Type 0} (f g : X → List Y) where
  -- what is made of each item in two ways
  both_ways_made : (xs : List X) → IsPermutation (flat_map (λ x. f x ++ g x) xs) (flat_map f xs ++ flat_map g xs)
  both_ways_made [] = IsPermutation-refl []
  both_ways_made (x ∷ xs) =
      IsPermutation-trans ((f x ++ g x) ++ flat_map (λ x. f x ++ g x) xs) ((f x ++ g x) ++ (flat_map f xs ++ flat_map g xs)) ((f x ++ flat_map f xs) ++ (g x ++ flat_map g xs))
      (IsPermutation-append_right (f x ++ g x) (flat_map (λ x. f x ++ g x) xs) (flat_map f xs ++ flat_map g xs) (both_ways_made xs))
      (middle_moved (f x) (g x) (flat_map f xs) (flat_map g xs))

module _ {X : Type 0} where
  -- the choices that are not of kept items alone: each has one that was left out
  record HasRest (all keeps lefts : List (List X)) : Type 0 where
    rest : List (List X)
    parted : IsPermutation (product all) (product keeps ++ rest)
    has_left : (choice : List X) → Among rest choice → HasNoneOf lefts choice → ⊥

  abbrev with_first : List (List X) → X → List (List X)
  with_first choices x = map (λ more. x ∷ more) choices

  product_parted : (all keeps lefts : List (List X)) → ArePartedLists all keeps lefts → HasRest all keeps lefts
  product_parted [] [] [] are = record { rest = []; parted = IsPermutation-refl ([] ∷ []); has_left = λ choice a none. a }
  product_parted [] [] (left ∷ lefts) are = absurd are
  product_parted [] (kept ∷ keeps) lefts are = absurd are
  product_parted (xs ∷ all) [] lefts are = absurd are
  product_parted (xs ∷ all) (kept ∷ keeps) [] are = absurd are
  product_parted (xs ∷ all) (kept ∷ keeps) (left ∷ lefts) are =
      let more = product_parted all keeps lefts are.1 in
      let of_kept = flat_map (with_first (product keeps)) kept in
      let of_rest = flat_map (with_first more.rest) kept in
      let of_left = flat_map (with_first (product all)) left in
      let kept_parted : IsPermutation (flat_map (with_first (product all)) kept) (of_kept ++ of_rest) =
      IsPermutation-trans (flat_map (with_first (product all)) kept) (flat_map (λ x. with_first (product keeps) x ++ with_first more.rest x) kept) (of_kept ++ of_rest)
      (flat_each_moved (with_first (product all)) (λ x. with_first (product keeps) x ++ with_first more.rest x)
      (λ x. subst (λ l. IsPermutation (with_first (product all) x) l) (map-append (λ more. x ∷ more) (product keeps) more.rest) (IsPermutation-map (λ more. x ∷ more) (product all) (product keeps ++ more.rest) more.parted)) kept)
      (both_ways_made (with_first (product keeps)) (with_first more.rest) kept)
      in
      record {
        rest = of_rest ++ of_left;
        parted =
            subst (λ l. IsPermutation (product (xs ∷ all)) l) (append_assoc of_kept of_rest of_left)
            (IsPermutation-trans (product (xs ∷ all)) (flat_map (with_first (product all)) (kept ++ left)) ((of_kept ++ of_rest) ++ of_left)
            (flat_moved (with_first (product all)) xs (kept ++ left) are.0)
            (subst (λ l. IsPermutation l ((of_kept ++ of_rest) ++ of_left)) (sym (flat_map-append (with_first (product all)) kept left))
            (IsPermutation-append (flat_map (with_first (product all)) kept) (of_kept ++ of_rest) of_left of_left kept_parted (IsPermutation-refl of_left))));
        has_left = λ choice a none.
            ⊎_elim
            (λ b.
            let x = among_flat_map (with_first more.rest) kept choice b in
            let then = among_map (λ more. x.0 ∷ more) more.rest choice x.2 in
            more.has_left then.0 then.1 ((subst (HasNoneOf (left ∷ lefts)) (sym then.2) none).1))
            (λ b.
            let x = among_flat_map (with_first (product all)) left choice b in
            let then = among_map (λ more. x.0 ∷ more) (product all) choice x.2 in
            (subst (HasNoneOf (left ∷ lefts)) (sym then.2) none).0 (Contains_from_among left x.0 x.1))
            (among_either of_rest of_left choice a);
      }

  -- a choice of fewer items is one of all
  pub product_wider : (before : List (List X)) (part whole : List X) (behind : List (List X)) → ((x : X) → Among part x → Among whole x) → (choice : List X) → Among (product (before ++ part ∷ behind)) choice → Among (product (before ++ whole ∷ behind)) choice
  product_wider [] part whole behind within choice a =
      let x = among_flat_map (with_first (product behind)) part choice a in
      among_flat_mapped (with_first (product behind)) whole x.0 choice (within x.0 x.1) x.2
  product_wider (xs ∷ before) part whole behind within choice a =
      let x = among_flat_map (with_first (product (before ++ part ∷ behind))) xs choice a in
      let then = among_map (λ more. x.0 ∷ more) (product (before ++ part ∷ behind)) choice x.2 in
      among_flat_mapped (with_first (product (before ++ whole ∷ behind))) xs x.0 choice x.1
      (subst (Among (with_first (product (before ++ whole ∷ behind)) x.0)) then.2
      (among_mapped (λ more. x.0 ∷ more) (product (before ++ whole ∷ behind)) then.0 (product_wider before part whole behind within then.0 then.1)))

-- ---- the laws

pub best_of_is : (block : Block) (term : Option Term) (groups : List ColumnPlace) (choices : List Rows) → best_of block term groups choices ≡ best (choice_better term groups) choices
best_of_is block None groups choices =
    sym (filter_true (is_unbettered (choice_better None groups) choices) choices (λ x. unbettered_from (choice_better None groups) choices x (λ y a h. false≢true h)))
best_of_is block (Some term) groups choices = refl

pub answers_kept_choices : AnswersByKeptChoices
answers_kept_choices block whole kept places keeps =
    let lists = sources whole block.from in
    let kept_lists = sources kept block.from in
    let rest = product_parted lists kept_lists keeps.left_out keeps.parted in
    let found = filter (λ (choice : Rows). passes block.filter (shown_by choice)) (product lists) in
    let moved : IsPermutation (outputs block lists) (outputs block kept_lists) =
    outputs_kept block places lists kept_lists rest.rest rest.parted
    (λ choice a b.
    rest.has_left choice a
    (keeps.none_best choice (Contains_from_among (best_choices block lists) choice (subst (λ l. Among l choice) (best_of_is block block.term block.groups found) b))))
    in
    answer_is kept block places
    ∙ sym (λ j. record { names = map (λ (output : Output). output.name) block.output; rows = arranged_moved block.distinct block.order (outputs block lists) (outputs block kept_lists) moved j })
    ∙ sym (answer_is whole block places)

pub best_of_fewer : HasBestOfFewer
best_of_fewer block before part whole behind choice within there is_best =
    let passing : Rows → Bool = λ choice. passes block.filter (shown_by choice) in
    let better = choice_better block.term block.groups in
    let few = product (before ++ part ∷ behind) in
    let all = product (before ++ whole ∷ behind) in
    let is = best_among better (filter passing all) choice (among_from_Contains (best better (filter passing all)) choice is_best) in
    let wider : (c : Rows) → Among (filter passing few) c → Among (filter passing all) c =
    λ c a. (let kept = among_kept passing few c a in among_filter passing all c (product_wider before part whole behind (λ row b. among_from_Contains whole row (within row (Contains_from_among part row b))) c kept.0) kept.1) in
    Contains_from_among (best better (filter passing few)) choice
    (among_best better (filter passing few) choice
    (among_filter passing few choice (among_from_Contains few choice there) ((among_kept passing all choice is.0).1))
    (unbettered_in_part better (filter passing few) (filter passing all) wider choice is.1))
