-- Tables, one after another.
use Rattle.std.proofs.Common.{◌≡◌, ◌∙◌, ℕ, suc, ◌+◌, ◌<◌, List, [], ◌∷◌, ◌++◌, length, drop, get_or, Bool, true, false, ◌||◌, if◌then◌else◌, Option, Some, None, Result, Ok, Err, refl, sym, ap, subst, nat_lt, arith, Vec, Global}
use Rattle.std.proofs.Math.Seq.{drop-cons}
use Rattle.std.proofs.lemmas.Bool.Decides.{nat_tests}
use Rattle.std.proofs.lemmas.List.{length-append, map-append}
use Rattle.std.specs.Prelude.{Contains, IsNone, IsSome, is_some, ◌↔◌}
use Rattle.std.proofs.lemmas.Bool.{false≢true}
use Rattle.prefsql_tables.proofs.PlaceLemmas.{name_found}
use Rattle.prefsql_io.specs.Files.{Files, LoadGives, LoadTells, bytes_at}
use Rattle.prefsql_io.specs.declared.shelf.LoadError.TheVariants.{TooLong}
use Rattle.prefsql_tables.specs.Names.{IsPlaceAmong, table_names}
use Rattle.prefsql_tables.specs.Table.{Tables}
use Rattle.prefsql_tables.specs.TableData.{NamedTable, TableData}
use Rattle.table_csv.specs.FileTable.{file_table}
use Rattle.table_csv.specs.declared.fault.TableSpot.{TableSpot}
use Rattle.prefsql_session.specs.Opening.{as_table, file_fault, file_stage, has_repeated, is_among, table_of_bytes, table_stage, tables_after, tables_stage}
use Rattle.prefsql_session.specs.Parts.{Opens}
use Rattle.prefsql_session.specs.Stage.{Stage, untold, barred, unaccepted, missing, faulty, ready, and_then, barred_if, ready_or, IsTold, MayGive, MayHaveFault}
use Rattle.prefsql_session.specs.declared.command.TableWord.{TableWord}
use Rattle.prefsql_session.specs.declared.fault.Fault.{Fault}
use Rattle.prefsql_session.specs.declared.fault.Stop.{Stop}
use Rattle.prefsql_session.specs.declared.fault.Stop.TheVariants.{Usage, Refused, ReadFault, ShelfFault, Memory}

-- ---- parts

Opens-untold : {T : Type 0} (s : Stage T) (r : Result T Stop) → Opens s r → Opens untold r
Opens-untold s (Ok value) is = tt
Opens-untold s (Err Usage) is = is
Opens-untold s (Err (Refused fault)) is = tt
Opens-untold s (Err ReadFault) is = is
Opens-untold s (Err ShelfFault) is = tt
Opens-untold s (Err Memory) is = tt

-- a part that gives a value goes on to the next
pub Opens-then : {T U : Type 0} (s : Stage T) (next : T → Stage U) (value : T) (r : Result U Stop) → MayGive s value → Opens (next value) r
    → Opens (and_then s next) r
Opens-then untold next value r here later = Opens-untold (next value) r later
Opens-then barred next value r here later = absurd here
Opens-then unaccepted next value r here later = absurd here
Opens-then missing next value r here later = absurd here
Opens-then (faulty fault) next value r here later = absurd here
Opens-then (ready found) next value r here later = subst (λ v. Opens (next v) r) (sym here) later

-- a part that ends the run
pub Opens-then_err : {T U : Type 0} (s : Stage T) (next : T → Stage U) (stop : Stop) → Opens s (Err stop) → Opens (and_then s next) (Err stop)
Opens-then_err s next Usage is = absurd is
Opens-then_err s next ReadFault is = absurd is
Opens-then_err s next ShelfFault is = tt
Opens-then_err s next Memory is = tt
Opens-then_err untold next (Refused fault) is = tt
Opens-then_err barred next (Refused fault) is = tt
Opens-then_err unaccepted next (Refused fault) is = absurd is
Opens-then_err missing next (Refused fault) is = absurd is
Opens-then_err (faulty first) next (Refused fault) is = is
Opens-then_err (ready found) next (Refused fault) is = absurd is

pub barred_if-false : {T : Type 0} (s : Stage T) → barred_if false s ≡ s
barred_if-false untold = refl
barred_if-false barred = refl
barred_if-false unaccepted = refl
barred_if-false missing = refl
barred_if-false (faulty fault) = refl
barred_if-false (ready value) = refl

Opens-barred : {T : Type 0} (b : Bool) (s : Stage T) (stop : Stop) → Opens s (Err stop) → Opens (barred_if b s) (Err stop)
Opens-barred b s Usage is = absurd is
Opens-barred b s ReadFault is = absurd is
Opens-barred b s ShelfFault is = tt
Opens-barred b s Memory is = tt
Opens-barred false s (Refused fault) is = subst (λ t. MayHaveFault t fault) (sym (barred_if-false s)) is
Opens-barred true untold (Refused fault) is = tt
Opens-barred true barred (Refused fault) is = tt
Opens-barred true unaccepted (Refused fault) is = absurd is
Opens-barred true missing (Refused fault) is = absurd is
Opens-barred true (faulty first) (Refused fault) is = is
Opens-barred true (ready value) (Refused fault) is = absurd is

-- ---- one table

told_as : (name : List ℕ) (r : Result TableData TableSpot) → IsTold (as_table name r)
told_as name (Ok table) = tt
told_as name (Err spot) = tt

told_bytes : (name : List ℕ) (long : Bool) (s : Stage TableData) → IsTold s → IsTold (if long then faulty (file_fault name 511) else s)
told_bytes name true s is = tt
told_bytes name false s is = is

told_file : (name : List ℕ) (o : Option (List ℕ)) → IsTold (and_then (ready_or missing o) (table_of_bytes name))
told_file name None = tt
told_file name (Some bytes) = told_bytes name (nat_lt 8388608 (length bytes)) (as_table name (file_table bytes)) (told_as name (file_table bytes))

told_table : (name : List ℕ) (among : Bool) (s : Stage TableData) → IsTold s → IsTold (if among then faulty (file_fault name 512) else s)
told_table name true s is = tt
told_table name false s is = is

pub told_stage : (files : Option Files) (before : List (List ℕ)) (word : TableWord) → IsSome files → IsTold (table_stage files before word)
told_stage None before word known = absurd (cc)
told_stage (Some held) before word known =
    told_table word.name (is_among before word.name) (and_then (file_stage (Some held) word.path) (table_of_bytes word.name))
    (told_file word.name (bytes_at held word.path))

gives_ready : {T : Type 0} (s : Stage T) (value : T) → IsTold s → MayGive s value → s ≡ ready value
gives_ready untold value is gives = absurd is
gives_ready barred value is gives = absurd gives
gives_ready unaccepted value is gives = absurd gives
gives_ready missing value is gives = absurd gives
gives_ready (faulty fault) value is gives = absurd gives
gives_ready (ready found) value is gives = ap ready gives

not_among : (name : List ℕ) (among : Bool) (s : Stage TableData) (table : TableData) → MayGive (if among then faulty (file_fault name 512) else s) table → among ≡ false
not_among name true s table gives = absurd gives
not_among name false s table gives = refl

-- a name has a place exactly where it is among the names
among_at : (among : Bool) (C : Type 0) (o : Option ℕ) (b : Bool) → (among ≡ true → C) → (C → among ≡ true) → is_some o ≡ b → (IsNone o ↔ ¬ C) → among ≡ b
among_at true C (Some at) b test back is none = is
among_at false C (Some at) b test back is none =
    let lacks : ¬ C = λ has. false≢true (back has) in
    let nope : IsNone (Some at) = none.1 lacks in
    absurd (let bad : ⊥ = cc in bad)
among_at true C None b test back is none = absurd (none.0 refl (test refl))
among_at false C None b test back is none = is

found_among : (tables : Tables) (word : TableWord) (name : List ℕ) (o : Option ℕ) (b : Bool) → is_some o ≡ b → IsPlaceAmong (table_names tables) name o → name ≡ word.name
    → is_among (table_names tables) word.name ≡ b
found_among tables word name o b is place same =
    let decides = name_found (table_names tables) name in
    ap (is_among (table_names tables)) (sym same)
    ∙ among_at (is_among (table_names tables) name) (Contains (table_names tables) name) o b decides.0 decides.1 is place.none

-- a name that stands before
pub refused_name : (files : Option Files) (tables : Tables) (word : TableWord) (name : List ℕ) (o : Option ℕ) (fault : Fault) → is_some o ≡ true
    → IsPlaceAmong (table_names tables) name o → name ≡ word.name → fault ≡ file_fault word.name 512 → MayHaveFault (table_stage files (table_names tables) word) fault
refused_name files tables word name o fault is place same e =
    let among = found_among tables word name o true is place same in rw among (sym e)

-- a table that was opened has a new name
pub opened_name : (files : Option Files) (tables : Tables) (word : TableWord) (name : List ℕ) (table : TableData)
    → MayGive (table_stage files (table_names tables) word) table → name ≡ word.name → Contains (table_names tables) name → ⊥
opened_name files tables word name table gives same has =
    let decides = name_found (table_names tables) word.name in
    let new : is_among (table_names tables) word.name ≡ false =
    not_among word.name (is_among (table_names tables) word.name) (and_then (file_stage files word.path) (table_of_bytes word.name)) table gives in
    false≢true (sym new ∙ decides.1 (subst (Contains (table_names tables)) same has))

-- a new name
pub new_name : (files : Option Files) (tables : Tables) (word : TableWord) (name : List ℕ) (o : Option ℕ) → is_some o ≡ false
    → IsPlaceAmong (table_names tables) name o → name ≡ word.name → table_stage files (table_names tables) word ≡ and_then (file_stage files word.path) (table_of_bytes word.name)
new_name files tables word name o is place same =
    let among = found_among tables word name o false is place same in rw among refl

pub missing_file : (files : Option Files) (word : TableWord) → file_stage files word.path ≡ missing
    → and_then (file_stage files word.path) (table_of_bytes word.name) ≡ missing
missing_file files word is = ap (λ s. and_then s (table_of_bytes word.name)) is

long_file : (name bytes : List ℕ) → 8388608 < length bytes → table_of_bytes name bytes ≡ faulty (file_fault name 511)
long_file name bytes long = let test : nat_lt 8388608 (length bytes) ≡ true = grind (arith, nat_tests) in rw test refl

loaded_at : (name : List ℕ) (o : Option (List ℕ)) (bytes : Vec ℕ Global) (r : Result TableData Stop) → LoadGives o 8388608 (Ok bytes)
    → Opens (table_of_bytes name bytes.items) r → Opens (and_then (ready_or missing o) (table_of_bytes name)) r
loaded_at name None bytes r gives is = absurd gives
loaded_at name (Some held) bytes r gives is = subst (λ (b : List ℕ). Opens (table_of_bytes name b) r) gives.0 is

pub loaded : (files : Option Files) (name path : List ℕ) (bytes : Vec ℕ Global) (r : Result TableData Stop) → LoadTells files path 8388608 (Ok bytes)
    → Opens (table_of_bytes name bytes.items) r → Opens (and_then (file_stage files path) (table_of_bytes name)) r
loaded None name path bytes r gives is = Opens-untold (table_of_bytes name bytes.items) r is
loaded (Some held) name path bytes r gives is = loaded_at name (bytes_at held path) bytes r gives is

long_at : (name : List ℕ) (o : Option (List ℕ)) → LoadGives o 8388608 (Err TooLong)
    → Opens (and_then (ready_or missing o) (table_of_bytes name)) (Err (Refused (file_fault name 511)))
long_at name None gives = absurd gives
long_at name (Some held) gives = rw (long_file name held gives) refl

pub too_long : (files : Option Files) (name path : List ℕ) (fault : Fault) → LoadTells files path 8388608 (Err TooLong) → fault ≡ file_fault name 511
    → Opens (and_then (file_stage files path) (table_of_bytes name)) (Err (Refused fault))
too_long None name path fault gives is = tt
too_long (Some held) name path fault gives is =
    subst (λ f. Opens (and_then (file_stage (Some held) path) (table_of_bytes name)) (Err (Refused f))) (sym is) (long_at name (bytes_at held path) gives)

-- ---- all tables

abbrev named : TableWord → TableData → NamedTable
named word table = record { name = word.name; table = table }

-- the tables of the first words are there, and these words are left
pub record Reached (files : Option Files) (words : List TableWord) (tables : Tables) (rest : List TableWord) : Type 0 where
  pub leads : (r : Result Tables Stop) → Opens (tables_after files tables rest) r → Opens (tables_after files [] words) r
  pub told : IsSome files → tables_after files [] words ≡ tables_after files tables rest
  pub repeated : has_repeated [] words ≡ has_repeated (table_names tables) rest

module _ (files : Option Files) (words : List TableWord) (tables : Tables) (word : TableWord) (rest : List TableWord) (reached : Reached files words tables (word ∷ rest)) where
  abbrev next : TableData → Stage Tables
  next table = tables_after files (tables ++ named word table ∷ []) rest

  pub reached_more : (table : TableData) → MayGive (table_stage files (table_names tables) word) table → Reached files words (tables ++ named word table ∷ []) rest
  reached_more table gives = record {
    leads = λ r is. reached.leads r (Opens-then (table_stage files (table_names tables) word) next table r gives is);
    told = λ known. reached.told known
        ∙ ap (λ s. and_then s next) (gives_ready (table_stage files (table_names tables) word) table (told_stage files (table_names tables) word known) gives);
    repeated =
        reached.repeated
        ∙ ap (λ b. b || has_repeated (table_names tables ++ word.name ∷ []) rest)
        (not_among word.name (is_among (table_names tables) word.name) (and_then (file_stage files word.path) (table_of_bytes word.name)) table gives)
        ∙ ap (λ names. has_repeated names rest) (sym (map-append (λ (t : NamedTable). t.name) tables (named word table ∷ [])));
  }

  pub stopped : (stop : Stop) → Opens (table_stage files (table_names tables) word) (Err stop) → Opens (tables_stage files words) (Err stop)
  stopped stop is =
      Opens-barred (has_repeated [] words) (tables_after files [] words) stop
      (reached.leads (Err stop) (Opens-then_err (table_stage files (table_names tables) word) next stop is))

-- ---- the loop over the words

-- the tables of the first `at` words are there, and the shelf is as it was
pub record HasOpened (files files_now : Option Files) (sure sure_now : Bool) (before now : ℕ) (words : List TableWord) (tables : Tables) (at : ℕ) : Type 0 where
  pub reached : Reached files words tables (drop at words)
  pub count : length tables ≡ at
  pub files_same : files_now ≡ files
  pub sure_same : sure_now ≡ sure
  pub kept : now ≡ before

one_more : (at : ℕ) → suc at ≡ at + 1
one_more at = omega arith

pub opened_more : (files files_now files_new : Option Files) (sure sure_now sure_new : Bool) (before now new : ℕ) (words : List TableWord) (tables tables_new : Tables)
    (at : ℕ) (word : TableWord) (name : List ℕ) (table : TableData)
    → HasOpened files files_now sure sure_now before now words tables at → at < length words → get_or words at word ≡ word
    → MayGive (table_stage files_now (table_names tables) word) table → name ≡ word.name → tables_new ≡ tables ++ record { name = name; table = table } ∷ []
    → files_new ≡ files_now → sure_new ≡ sure_now → new ≡ now
    → HasOpened files files_new sure sure_new before new words tables_new (at + 1)
opened_more files files_now files_new sure sure_now sure_new before now new words tables tables_new at word name table has lt item gives same added files_is sure_is later =
    let parts : drop at words ≡ word ∷ drop (suc at) words = drop-cons words at word lt ∙ ap (λ w. w ∷ drop (suc at) words) item in
    let reached : Reached files words tables (word ∷ drop (suc at) words) = subst (Reached files words tables) parts has.reached in
    let told : MayGive (table_stage files (table_names tables) word) table = subst (λ f. MayGive (table_stage f (table_names tables) word) table) has.files_same gives in
    let tables_are : tables ++ named word table ∷ [] ≡ tables_new =
    ap (λ (n : List ℕ). tables ++ record { name = n; table = table } ∷ []) (sym same) ∙ sym added in
    let more = reached_more files words tables word (drop (suc at) words) reached table told in
    let long : length tables_new ≡ length tables + 1 = ap length added ∙ length-append tables (record { name = name; table = table } ∷ []) in
    record {
      reached = subst (λ k. Reached files words tables_new (drop k words)) (one_more at) (subst (λ ts. Reached files words ts (drop (suc at) words)) tables_are more);
      count = omega (arith, long, has.count);
      files_same = files_is ∙ has.files_same;
      sure_same = sure_is ∙ has.sure_same;
      kept = later ∙ has.kept;
    }
