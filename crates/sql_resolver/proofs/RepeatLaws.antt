-- Items that have the name of an earlier one, one item more at a time.
use Rattle.std.proofs.Common.{◌≡◌, ℕ, ◌+◌, ◌<◌, Bool, true, false, cond, not, ◌||◌, Option, Some, None, List, [], ◌∷◌, ◌++◌, length, get_or, take, drop, map, refl, sym, ap, ◌∙◌, if◌then◌else◌}
use denote.Ref.{Bor}
use Rattle.std.specs.List.{list_any}
use Rattle.std.specs.Str.{bytes_eq}
use Rattle.std.specs.Cmp.Lexicographic.{nat_list_eq_equiv}
use Rattle.std.proofs.lemmas.List.{drop_more, map-append, take_more}
use Rattle.std.proofs.lemmas.List.Folds.{list_any-append}
use Rattle.sql_resolver.specs.Found.{first_repeated}
use Rattle.sql_resolver.specs.Outcomes.{earlier_if}
use Rattle.sql_resolver.specs.Owed.{Fault, fault}
use Rattle.sql_resolver.specs.declared.found.FoundFrom.{FoundFrom}
use Rattle.sql_resolver.proofs.MeaningLaws.{or_turned}
use Rattle.sql_resolver.proofs.OutcomeLaws.{earlier_if_assoc}

abbrev pub names_of : List FoundFrom → List (List ℕ)
names_of = map (λ (from : FoundFrom). from.name)

-- the names so far, with the faults of the items that have them
pub record AreSeen (froms : List FoundFrom) (i : ℕ) (first : Option Fault) (has : Bor (List ℕ) → Bool) : Type 0 where
  pub told : earlier_if first (first_repeated (names_of (take i froms)) (drop i froms)) ≡ first_repeated [] froms
  pub seen : (name : Bor (List ℕ)) → has name ≡ list_any (bytes_eq name.now) (names_of (take i froms))

names_more : (froms : List FoundFrom) (i : ℕ) (from : FoundFrom) → i < length froms → from ≡ get_or froms i from → names_of (take i froms) ++ from.name ∷ [] ≡ names_of (take (i + 1) froms)
names_more froms i from small is =
    sym (map-append (λ (x : FoundFrom). x.name) (take i froms) (from ∷ []))
    ∙ ap names_of (sym (take_more froms i from small ∙ ap (λ (x : FoundFrom). take i froms ++ x ∷ []) (sym is)))

not_not : (b : Bool) → not (not b) ≡ b
not_not true = refl
not_not false = refl

pub seen_more : (froms : List FoundFrom) (i : ℕ) (from : FoundFrom) (name : Bor (List ℕ)) (first part next : Option Fault) (is_new : Bool) (before after : Bor (List ℕ) → Bool)
    → i < length froms → from ≡ get_or froms i from → name.now ≡ from.name → AreSeen froms i first before
    → is_new ≡ not (before name) → part ≡ (if not is_new then Some (fault 302 from.name_at) else None) → next ≡ earlier_if first part
    → ((other : Bor (List ℕ)) → after other ≡ cond (bytes_eq name.now other.now) true (before other))
    → AreSeen froms (i + 1) next after
seen_more froms i from name first part next is_new before after small is called so_far new this put both =
    let names = names_of (take i froms) in
    let rest = first_repeated (names_of (take (i + 1) froms)) (drop (i + 1) froms) in
    let own = if list_any (bytes_eq from.name) names then Some (fault 302 from.name_at) else None in
    let repeated : not is_new ≡ list_any (bytes_eq from.name) names =
    ap not new ∙ not_not (before name) ∙ so_far.seen name ∙ ap (λ n. list_any (bytes_eq n) names) called
    in
    let said : part ≡ own = this ∙ ap (λ (b : Bool). if b then Some (fault 302 from.name_at) else None) repeated in
    let step : first_repeated names (drop i froms) ≡ earlier_if own rest =
    ap (first_repeated names) (drop_more froms i from small ∙ ap (λ (x : FoundFrom). x ∷ drop (i + 1) froms) (sym is))
    ∙ ap (λ ns. earlier_if own (first_repeated ns (drop (i + 1) froms))) (names_more froms i from small is)
    in
    record {
      told =
          ap (λ f. earlier_if f rest) (put ∙ ap (earlier_if first) said)
          ∙ earlier_if_assoc first own rest
          ∙ ap (earlier_if first) (sym step)
          ∙ so_far.told;
      seen = λ other.
          both other
          ∙ or_turned (bytes_eq name.now other.now) (before other) (bytes_eq other.now from.name) (nat_list_eq_equiv.symm name.now other.now ∙ ap (bytes_eq other.now) called)
          ∙ ap (λ b. b || (bytes_eq other.now from.name || false)) (so_far.seen other)
          ∙ sym (list_any-append (bytes_eq other.now) names (from.name ∷ []))
          ∙ ap (list_any (bytes_eq other.now)) (names_more froms i from small is);
    }
