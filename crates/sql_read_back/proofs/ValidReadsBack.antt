-- The texts of valid queries, over tables that they fit, read as these queries.
use Rattle.std.proofs.Common.{◌≡◌, ℕ, ◌≤◌, ◌<◌, true, ◌&&◌, List, [], ◌∷◌, map, length, subst, sym, ap, ◌∙◌, arith}
use Rattle.std.proofs.lemmas.Str.{IsUtf8-append, IsUtf8-nil}
use Rattle.std.proofs.lemmas.List.Elements.{All-cons, All-head, All-nil, All-tail}
use Rattle.sql_parser.specs.Faults.{max_nesting}
use Rattle.std.specs.Prelude.{All, IsUtf8, nat_lt, nat_le}
use Rattle.std.specs.List.{list_all}
use Rattle.std.specs.Option.{option_map}
use Rattle.std.proofs.lemmas.Bool.{and_parts, ltb-true}
use Rattle.std.proofs.lemmas.List.{append-nil, length-append, length-map}
use Rattle.std.proofs.lemmas.Int.{ints}
use Rattle.prefsql_tables.specs.Table.{Tables}
use Rattle.prefsql_tables.specs.Valid.{IsTableSet}
use Rattle.prefsql_tables.specs.declared.place.SortKey.{SortKey}
use Rattle.sql_tree.specs.Fits.{FitsTables, tables_of}
use Rattle.sql_tree.specs.Shown.{View, ShownItem}
use Rattle.sql_tree.specs.WellFormed.{IsValid, JudgedItem, JudgedQuery, JudgedFrom, all_differ, filter_well}
use Rattle.sql_tree.specs.declared.tree.SqlQuery.{SqlQuery, out-SqlQuery, roll-out-SqlQuery}
use Rattle.sql_text.specs.Text.{text_of}
use Rattle.sql_reader.specs.Reads.{ReadsAs}
use Rattle.sql_read_back.specs.Texts.{AreWritable, max_bytes, texts_of}
use Rattle.sql_read_back.proofs.Judged.{judged_query, judged_item, judged_from, judged_cond}
use Rattle.sql_read_back.proofs.JudgedEquations.{judged_query_is, judged_parts, own_items}
use Rattle.sql_read_back.proofs.QueriesWritten.{AreShort}
use Rattle.sql_read_back.proofs.ShortOrder.{items_within}
use Rattle.sql_read_back.proofs.StatementsNest.{statement_nests, statement_closes}
use Rattle.sql_read_back.proofs.ToldQueries.{query_told}
use Rattle.sql_read_back.proofs.TablesFound.{stands, all_stand, meant}
use Rattle.sql_read_back.proofs.ReadingBack.{texts_read_back}
use Rattle.sql_read_back.proofs.StatementsWritten.{AreFine, IsFine}

short_keys : (n : ℕ) → n ≤ max_bytes → (keys : List SortKey) → list_all (λ (key : SortKey). nat_lt key.column n) keys ≡ true → AreShort keys
short_keys n le [] e = tt
short_keys n le (key ∷ keys) e =
    let p = and_parts (nat_lt key.column n) (list_all (λ (key : SortKey). nat_lt key.column n) keys) e in
    let low : key.column < n = ltb-true key.column n p.0 in
    ((omega (arith, ints), omega (arith, ints, low, le)), short_keys n le keys p.1)

keys_in_range : (q : SqlQuery) → (judged_query q []).well ≡ true → list_all (λ (key : SortKey). nat_lt key.column (length (out-SqlQuery q).items)) (out-SqlQuery q).order ≡ true
keys_in_range q well =
    let o = out-SqlQuery q in
    let view : View = own_items o.from ∷ [] in
    let judged = map (λ (item : View → JudgedItem). item view) (map judged_item o.items) in
    let e : (judged_parts o.items o.from o.filter o.order []).well ≡ true =
    sym (ap (λ (k : JudgedQuery). k.well) (ap (λ q. judged_query q []) (sym (roll-out-SqlQuery q)) ∙ judged_query_is o.distinct o.items o.from o.filter o.order [])) ∙ well in
    let long : length (out-SqlQuery q).items ≡ length judged = sym (length-map (map judged_item o.items) (λ (item : View → JudgedItem). item view) ∙ length-map o.items judged_item) in
    let all = and_parts (nat_le 1 (length judged) && list_all (λ (item : JudgedItem). item.well) judged
    && nat_le 1 (length (map judged_from o.from)) && list_all (λ (f : JudgedFrom). f.well) (map judged_from o.from) && all_differ (map (λ (item : ShownItem). item.name) (own_items o.from))
    && filter_well (option_map judged_cond o.filter) view) (list_all (λ (key : SortKey). nat_lt key.column (length judged)) o.order) e in
    ap (λ n. list_all (λ (key : SortKey). nat_lt key.column n) o.order) long ∙ all.1

module _ (tables : Tables) where
  valid_fine : (q : SqlQuery) → IsValid q → FitsTables tables q → length (text_of q) ≤ max_bytes → IsFine (stands tables) max_nesting q
  valid_fine q valid fits few =
      let told : (judged_query q []).well ≡ true = valid.told in
      let ok = stands tables in
      let within = items_within q in
      let items : length (out-SqlQuery q).items ≤ max_bytes = omega (arith, within, few) in
      record {
        well = told;
        fine = (query_told ok q).fine [] tt told (all_stand tables (tables_of q) fits);
        short = short_keys (length (out-SqlQuery q).items) items (out-SqlQuery q).order (keys_in_range q told);
        nest = statement_nests max_nesting q valid.nested;
        close = statement_closes max_nesting q valid.nested;
      }

  all_fine : (queries : List SqlQuery) → All IsValid queries → All (FitsTables tables) queries → length (texts_of queries) ≤ max_bytes → AreFine (stands tables) max_nesting queries
  all_fine [] valid fits few = tt
  all_fine (q ∷ queries) valid fits few =
      let long = length-append (text_of q) (texts_of queries) in (
        valid_fine q (All-head IsValid q queries valid) (All-head (FitsTables tables) q queries fits) (omega (arith, long, few)),
        all_fine queries (All-tail IsValid q queries valid) (All-tail (FitsTables tables) q queries fits) (omega (arith, long, few)),
      )

-- texts that are UTF-8 each are so one after the other
pub texts_utf8 : (queries : List SqlQuery) → All (λ q. IsUtf8 (text_of q)) queries → IsUtf8 (texts_of queries)
texts_utf8 [] utf8 = IsUtf8-nil
texts_utf8 (q ∷ queries) utf8 =
    let P : SqlQuery → Type 0 = λ q. IsUtf8 (text_of q) in
    IsUtf8-append (text_of q) (texts_of queries) (All-head P q queries utf8) (texts_utf8 queries (All-tail P q queries utf8))

pub written_reads_back : (tables : Tables) → IsTableSet tables → (queries : List SqlQuery) → AreWritable tables queries → ReadsAs tables (texts_of queries) queries
written_reads_back tables set queries is =
    texts_read_back (stands tables) tables (meant tables set) queries is.few (all_fine tables queries is.valid is.fits is.within) is.utf8

-- the one text of one query
one_writable : (tables : Tables) (q : SqlQuery) → IsValid q → FitsTables tables q → IsUtf8 (text_of q) → length (text_of q) ≤ max_bytes → AreWritable tables (q ∷ [])
one_writable tables q valid fits utf8 few =
    let same = ap length (append-nil (text_of q)) in
    record {
      few = omega arith;
      valid = All-cons IsValid q [] valid (All-nil IsValid);
      fits = All-cons (FitsTables tables) q [] fits (All-nil (FitsTables tables));
      utf8 = subst IsUtf8 (sym (append-nil (text_of q))) utf8;
      within = omega (arith, same, few);
    }

pub valid_reads_back : (tables : Tables) → IsTableSet tables → (q : SqlQuery) → IsValid q → FitsTables tables q → IsUtf8 (text_of q) → length (text_of q) ≤ max_bytes → ReadsAs tables (text_of q) (q ∷ [])
valid_reads_back tables set q valid fits utf8 few =
    subst (λ text. ReadsAs tables text (q ∷ [])) (append-nil (text_of q)) (written_reads_back tables set (q ∷ []) (one_writable tables q valid fits utf8 few))
