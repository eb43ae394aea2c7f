use Rattle.std.proofs.Common.{◌≡◌, ℕ, Bor, List, [], ◌∷◌, ◌++◌, length, map, take, arith, sym, ap, ◌∙◌}
use Rattle.std.proofs.lemmas.List.{length-append, length-map, map-append, nil_from_length, take-map}
use Rattle.prefsql_tables.specs.declared.table.AnswerRow.{AnswerRow}
use Rattle.sql_tree.specs.Meaning.{Scope}
use Rattle.sql_exec.specs.Seen.{rows_seen}
use Rattle.sql_exec.specs.Steps.{left_of, row_of}
use Rattle.sql_exec.specs.Walks.{found, tries}
use Rattle.sql_exec.proofs.Choosing.{as_long, emptied, nothing_left, one_chosen, one_less}
use Rattle.sql_exec.proofs.walk.Walk.choose_next.Goals as goal

abbrev rows_left : List (Bor (List AnswerRow)) → List (List AnswerRow)
rows_left = map (λ (rows : Bor (List AnswerRow)). rows.now)

popped : (left rest : List (Bor (List AnswerRow))) (rows : Bor (List AnswerRow)) → left ≡ rest ++ rows ∷ [] → rows_left left ≡ rows_left rest ++ rows.now ∷ []
popped left rest rows are = ap rows_left are ∙ map-append (λ (rows : Bor (List AnswerRow)). rows.now) rest (rows ∷ [])

cut : (rows now : List (Bor AnswerRow)) (rest : List (Bor (List AnswerRow))) (n : ℕ) → now ≡ take n rows → n ≡ length rest → rows_seen now ≡ take (length (rows_left rest)) (rows_seen rows)
cut rows now rest n are is =
    ap rows_seen are ∙ sym (take-map (λ (row : Bor AnswerRow). row.now) n rows)
    ∙ ap (λ (k : ℕ). take k (rows_seen rows)) (is ∙ sym (length-map rest (λ (rows : Bor (List AnswerRow)). rows.now)))

more_seen : (rows now : List (Bor AnswerRow)) (row : Bor AnswerRow) → now ≡ rows ++ row ∷ [] → rows_seen now ≡ rows_seen rows ++ row.now ∷ []
more_seen rows now row are = ap rows_seen are ∙ map-append (λ (row : Bor AnswerRow). row.now) rows (row ∷ [])

pub returns-in-Some-split_first-clause-chosen : goal.returns-in-Some-split_first-clause-chosen
returns-in-Some-split_first-clause-chosen c = λ _.
    let row : Scope = row_of c.args.self.now in
    let left : List (List AnswerRow) = left_of c.args.self.now in
    let row_then : Scope = row_of c.loop-rows.self in
    let left_then : List (List AnswerRow) = left_of c.loop-rows.self in
    let rest : List (List AnswerRow) = rows_left c.pop.new.self.items in
    let row_now : Scope = rows_seen c.truncate.new.self.items in
    let x : AnswerRow = c.in-Some-split_first.row.now in
    let more : List AnswerRow = c.in-Some-split_first.rest.now in
    let row_next : Scope = rows_seen c.push.new.self.items in
    let left_next : List (List AnswerRow) = rows_left c.push-in-Some-split_first.new.self.items in
    let is_popped = popped c.loop-rows.self.left.items c.pop.new.self.items c.in-Some.rows c.in-Some.ensures.items in
    let is_cut = cut c.loop-rows.self.rows.items c.truncate.new.self.items c.pop.new.self.items c.len.result c.truncate.ensures.items (let ok = c.pop.new.self.ok in let e : c.len.result ≡ length c.pop.new.self.items = omega (arith, c.len.ensures, ok) in e) in
    let first = c.in-Some-split_first.ensures.cases.0 in
    let to_row = more_seen c.truncate.new.self.items c.push.new.self.items c.in-Some-split_first.row c.in_ok-push.ensures.items in
    let to_left = popped c.push-in-Some-split_first.new.self.items c.pop.new.self.items c.in-Some-split_first.rest c.in_ok-push-2.ensures.items in
    let near = c.loop-rows.invariant.near in
    let long = as_long found row left row_then left_then c.loop-rows.invariant.found rest c.in-Some.rows.now row_now is_popped is_cut near in
    let less = one_less found row left row_then left_then c.loop-rows.invariant.found rest c.in-Some.rows.now row_now is_popped is_cut near in
    let longer = ap length to_row ∙ length-append row_now (x ∷ []) in
    let as_long_left = ap length to_left ∙ length-append rest (more ∷ []) in
    record {
      found = one_chosen found row left row_then left_then c.loop-rows.invariant.found rest c.in-Some.rows.now row_now is_popped is_cut near x more row_next left_next first to_row to_left c.loop-rows.invariant.within;
      tries = one_chosen tries row left row_then left_then c.loop-rows.invariant.tries rest c.in-Some.rows.now row_now is_popped is_cut near x more row_next left_next first to_row to_left c.loop-rows.invariant.within;
      some = omega (arith, longer);
      as_many = omega (arith, longer, as_long_left, long);
      within = (let known = c.loop-rows.invariant.within in omega (arith, known, less, as_long_left));
    }

pub loop-rows-preserved : goal.loop-rows-preserved
loop-rows-preserved c =
    let row : Scope = row_of c.args.self.now in
    let left : List (List AnswerRow) = left_of c.args.self.now in
    let row_then : Scope = row_of c.loop-rows.self in
    let left_then : List (List AnswerRow) = left_of c.loop-rows.self in
    let rest : List (List AnswerRow) = rows_left c.pop.new.self.items in
    let row_now : Scope = rows_seen c.truncate.new.self.items in
    let is_popped = popped c.loop-rows.self.left.items c.pop.new.self.items c.in-Some.rows c.in-Some.ensures.items in
    let is_cut = cut c.loop-rows.self.rows.items c.truncate.new.self.items c.pop.new.self.items c.len.result c.truncate.ensures.items (let ok = c.pop.new.self.ok in let e : c.len.result ≡ length c.pop.new.self.items = omega (arith, c.len.ensures, ok) in e) in
    let none : c.in-Some.rows.now ≡ [] = nil_from_length c.in-Some.rows.now c.in_default-split_first.ensures.cases in
    let near = c.loop-rows.invariant.near in
    let long = as_long found row left row_then left_then c.loop-rows.invariant.found rest c.in-Some.rows.now row_now is_popped is_cut near in
    let less = one_less found row left row_then left_then c.loop-rows.invariant.found rest c.in-Some.rows.now row_now is_popped is_cut near in
    record {
      near = omega (arith, long);
      within = (let known = c.loop-rows.invariant.within in omega (arith, known, less));
      found = emptied found row left row_then left_then c.loop-rows.invariant.found rest c.in-Some.rows.now row_now is_popped is_cut near none;
      tries = emptied tries row left row_then left_then c.loop-rows.invariant.tries rest c.in-Some.rows.now row_now is_popped is_cut near none;
    }

pub returns-clause-over : goal.returns-clause-over
returns-clause-over c = λ _.
    nothing_left found (row_of c.args.self.now) (left_of c.args.self.now) (row_of c.loop-rows.self) (left_of c.loop-rows.self) c.loop-rows.invariant.found
    (ap rows_left (nil_from_length c.loop-rows.self.left.items (let ok = c.loop-rows.self.left.ok in let none = c.in_default.ensures.cases.0 in let e : length c.loop-rows.self.left.items ≡ 0 = omega (arith, none, ok) in e)))
