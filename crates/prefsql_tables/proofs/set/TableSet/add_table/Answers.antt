use Rattle.std.proofs.Common.{false, true, Decides, Contains, refl, ◌∙◌}
use Rattle.std.proofs.lemmas.Bool.{false≢true}
use Rattle.std.specs.String.{string_eq}
use Rattle.indexmap.proofs.CallerLemmas.{insert_entry-new}
use Rattle.prefsql_tables.specs.Names.{table_names}
use Rattle.prefsql_tables.specs.TableSetView.{named_tables}
use Rattle.prefsql_tables.proofs.EntryLemmas.{lookup_tells, lacks_key, named_tables-push}
use Rattle.prefsql_tables.proofs.ValidLemmas.{IsTableSet-push}
use Rattle.prefsql_tables.proofs.set.TableSet.add_table.Goals as goal

pub returns-then-contains_key-clause-duplicate : goal.returns-then-contains_key-clause-duplicate
returns-then-contains_key-clause-duplicate c =
    let tells : Decides true (Contains (table_names c.args.self.now) c.args.name) = rw (← c.self.view_is)
    (lookup_tells c.self.inside.tables.entries c.args.name c.as_str.result.now true (c.as_str.ensures.value ∙ c.into_string-name.ensures) c.if-contains_key.ensures) in
    (λ e. tells.0 refl, λ h. refl)

pub invariant_of-self : goal.invariant_of-self
invariant_of-self c =
    let fresh = lacks_key c.self.inside.tables c.as_str.result.now c.into_string-name.result c.as_str.ensures.value c.if-contains_key.ensures in
    let tells = lookup_tells c.self.inside.tables.entries c.args.name c.as_str.result.now false (c.as_str.ensures.value ∙ c.into_string-name.ensures) c.if-contains_key.ensures in
    let grown = named_tables-push c.self.inside.tables.entries c.insert.new.self.entries c.into_string-name.result c.args.table c.args.name
    (c.in-Ok.ensures.entries ∙ insert_entry-new string_eq c.self.inside.tables c.into_string-name.result c.args.table fresh) c.into_string-name.ensures in
    rw grown (IsTableSet-push (named_tables c.self.inside.tables.entries) c.args.name c.args.table c.self.invariant c.requires.named c.keeps_limits.ensures (rw c.self.view_is c.requires.room)
    (λ there. false≢true (tells.1 there)))

pub returns-in-Ok-clause-ok : goal.returns-in-Ok-clause-ok
returns-in-Ok-clause-ok c =
    let fresh = lacks_key c.self.inside.tables c.as_str.result.now c.into_string-name.result c.as_str.ensures.value c.if-contains_key.ensures in
    rw (← c.self.view_is)
    (named_tables-push c.self.inside.tables.entries c.insert.new.self.entries c.into_string-name.result c.args.table c.args.name
    (c.in-Ok.ensures.entries ∙ insert_entry-new string_eq c.self.inside.tables c.into_string-name.result c.args.table fresh) c.into_string-name.ensures)

pub returns-in-Ok-clause-duplicate : goal.returns-in-Ok-clause-duplicate
returns-in-Ok-clause-duplicate c =
    let tells : Decides false (Contains (table_names c.args.self.now) c.args.name) = rw (← c.self.view_is)
    (lookup_tells c.self.inside.tables.entries c.args.name c.as_str.result.now false (c.as_str.ensures.value ∙ c.into_string-name.ensures) c.if-contains_key.ensures) in
    (λ e. absurd (cc), λ there. absurd (false≢true (tells.1 there)))

pub returns-clause-duplicate : goal.returns-clause-duplicate
returns-clause-duplicate c =
    let tells : Decides false (Contains (table_names c.args.self.now) c.args.name) = rw (← c.self.view_is)
    (lookup_tells c.self.inside.tables.entries c.args.name c.as_str.result.now false (c.as_str.ensures.value ∙ c.into_string-name.ensures) c.if-contains_key.ensures) in
    (λ e. absurd (cc), λ there. absurd (false≢true (tells.1 there)))
