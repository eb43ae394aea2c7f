use Rattle.std.specs.HashMap.{get}
use Rattle.sql_resolver.specs.Index.{same_key}
use Rattle.sql_resolver.specs.declared.index.NameKey.{NameKey}
use Rattle.sql_resolver.proofs.IndexLaws.{both_added}
use Rattle.sql_resolver.proofs.index.add_column.Goals as goal

pub returns : goal.returns
returns c = λ places told.
    both_added places c.args.called.now c.args.name.now c.args.place c.in_ok-bare.bare c.in_ok-full.full
    (λ (key : NameKey). get same_key c.args.columns.now key) (λ (key : NameKey). get same_key c.add.new.columns key) (λ (key : NameKey). get same_key c.add-2.new.columns key)
    c.in_ok-bare.ensures c.in_ok-full.ensures told c.in_ok-add.ensures c.in_ok-add-2.ensures
