use Rattle.std.proofs.Common.{◌≡◌, ◌∙◌, true, false, is_some, rules}
use Rattle.prefsql_session.proofs.OpeningLemmas.{missing_file, new_name, refused_name}
use Rattle.prefsql_session.proofs.tables.open_table.Goals as goal

pub returns-then-is_some-clause-follows : goal.returns-then-is_some-clause-follows
returns-then-is_some-clause-follows g c =
    let test : is_some c.find.result ≡ true = search rules in
    refused_name (g.H.Shelf.files c.args.shelf.now) c.args.before.now c.args.word.now c.as_str.result.now c.find.result c.in_ok-file_fault.field-0 test c.find.ensures.named
    c.as_str.ensures c.in_ok-file_fault.ensures

pub returns-clause-follows : goal.returns-clause-follows
returns-clause-follows g c =
    let test : is_some c.find.result ≡ false = search rules in
    rw (new_name (g.H.Shelf.files c.args.shelf.now) c.args.before.now c.args.word.now c.as_str.result.now c.find.result test c.find.ensures.named c.as_str.ensures)
    c.load_table.ensures.follows

pub returns-clause-sure : goal.returns-clause-sure
returns-clause-sure g c = λ sure failed.
    let test : is_some c.find.result ≡ false = search rules in
    new_name (g.H.Shelf.files c.args.shelf.now) c.args.before.now c.args.word.now c.as_str.result.now c.find.result test c.find.ensures.named c.as_str.ensures
    ∙ missing_file (g.H.Shelf.files c.args.shelf.now) c.args.word.now (c.load_table.ensures.sure sure failed)
