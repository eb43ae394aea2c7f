-- The plans of a block, stage by stage. They are this project's own.
use Rattle.std.specs.Prelude.{ℕ, zero, suc, ◌-◌, nat_eq, Option, Some, None, List, [], ◌∷◌, ◌++◌}
use Rattle.std.specs.Prelude.{length, map, filter, if◌then◌else◌}
use Rattle.std.specs.List.{flat_map, range_with_len}
use Rattle.prefsql_tables.specs.declared.place.ColumnPlace.{ColumnPlace}
use Rattle.pref_terms.specs.declared.term.Term.{Term}
use Rattle.pref_terms.specs.Parts.{restricted}
use Rattle.query_meaning.specs.BlockFits.{columns_from}
use Rattle.query_meaning.specs.declared.block.Block.{Block}
use Rattle.plan_algebra.specs.declared.plan.Conjunct.{Conjunct}
use Rattle.plan_algebra.specs.declared.plan.Plan.{Plan}
use Rattle.plan_algebra.specs.declared.plan.Plan as plan
use Rattle.plan_algebra.specs.Conjuncts.{onlys, places_of, wheres}
use Rattle.plan_stages.specs.Placing.{at_join, at_scan, is_joint}
use Rattle.plan_stages.specs.Sinking.{is_place_in, lowered, staying}
use Rattle.plan_stages.specs.Separation.{cascade_of}

-- a Filter of the conditions above the plan, and none without a condition
abbrev pub filtered : List Conjunct → Plan → Plan
filtered [] below = below
filtered (c ∷ conjuncts) below = plan.Filter (c ∷ conjuncts) below

-- a Best of the term above the plan, and none without a term
abbrev pub best_above : Option Term → List ColumnPlace → Plan → Plan
best_above None groups below = below
best_above (Some term) groups below = plan.Best term groups below

-- a Best for each term, the first one lowest
abbrev pub bests_above : List Term → List ColumnPlace → Plan → Plan
bests_above [] groups below = below
bests_above (term ∷ terms) groups below = bests_above terms groups (plan.Best term groups below)

-- so many joins, one after the other in FROM order, with a plan for each table and the conditions
-- of each join above it
abbrev pub joined : (ℕ → Plan) → (ℕ → List Conjunct) → ℕ → Plan
joined table_plan conjuncts zero = table_plan 0
joined table_plan conjuncts (suc n) =
    filtered (conjuncts (suc n)) (plan.Join (joined table_plan conjuncts n) (table_plan (suc n)))

-- how many joins the block takes
abbrev pub joins_of : Block → ℕ
joins_of block = length block.from - 1

-- a table's scan with the conditions that stand there
abbrev pub filtered_scan : Block → List Conjunct → ℕ → Plan
filtered_scan block conjuncts table = filtered (at_scan block conjuncts table) (plan.Scan table)

-- the tables joined with these conditions at their lowest nodes
abbrev pub joined_low : Block → List Conjunct → Plan
joined_low block conjuncts =
    joined (filtered_scan block conjuncts) (at_join block conjuncts) (joins_of block)

-- stage 0: all WHERE above the joins, the preference above them, and BUT ONLY on top
unfoldable pub first_plan : Block → Plan
first_plan block =
    filtered (onlys block)
    (best_above block.term block.groups
    (filtered (wheres block) (joined plan.Scan (λ table. []) (joins_of block))))

-- stage 1: WHERE at its lowest nodes
unfoldable pub where_plan : Block → Plan
where_plan block =
    filtered (onlys block) (best_above block.term block.groups (joined_low block (wheres block)))

-- stage 2: what may go down of BUT ONLY too
unfoldable pub only_plan : Block → Plan
only_plan block =
    filtered (staying block) (best_above block.term block.groups (joined_low block (lowered block)))

-- the columns that the conditions of two or more tables read
abbrev pub joint_places : Block → List Conjunct → List ColumnPlace
joint_places block conjuncts =
    flat_map (places_of block) (filter (λ c. is_joint (places_of block c)) conjuncts)

-- all columns of the FROM table at a position
abbrev pub table_places : Block → ℕ → List ColumnPlace
table_places block table =
    map (λ column. record { table = table; column = column })
    (range_with_len 0 (length (columns_from block.from table)))

-- the groups within which rows of a table may be dropped before the joins: its columns among the
-- block's groups and among those that conditions of two or more tables read
abbrev pub table_groups : Block → ℕ → List ColumnPlace
table_groups block table =
    filter (is_place_in (block.groups ++ joint_places block (lowered block)))
    (table_places block table)

-- the part of the preference that stands on the table
abbrev pub table_term : Option Term → ℕ → Option Term
table_term None table = None
table_term (Some term) table = restricted table term

-- a table's scan with its conditions, and above it the best rows by the table's part of the
-- preference
abbrev pub best_scan : Block → ℕ → Plan
best_scan block table =
    best_above (table_term block.term table) (table_groups block table)
    (filtered_scan block (lowered block) table)

-- the tables joined, each reduced before where there are two or more
abbrev pub joined_best : Block → Plan
joined_best block =
    if nat_eq (joins_of block) 0 then joined_low block (lowered block)
    else joined (best_scan block) (at_join block (lowered block)) (joins_of block)

-- stage 3: each joined table reduced to its best rows
unfoldable pub prefilter_plan : Block → Plan
prefilter_plan block =
    filtered (staying block) (best_above block.term block.groups (joined_best block))

-- the best by each term of the cascade, one after the other
abbrev pub cascade_above : Option Term → List ColumnPlace → Plan → Plan
cascade_above None groups below = below
cascade_above (Some term) groups below = bests_above (cascade_of term) groups below

-- stage 4, the plan of the block: the preference taken apart
unfoldable pub block_plan : Block → Plan
block_plan block =
    filtered (staying block) (cascade_above block.term block.groups (joined_best block))
