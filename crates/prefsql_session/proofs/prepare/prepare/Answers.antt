use Rattle.std.proofs.Common.{◌≡◌, Some, rules}
use Rattle.prefsql_session.specs.CommandLine.{accepted}
use Rattle.prefsql_session.specs.declared.command.Command.TheVariants.{Bench}
use Rattle.prefsql_session.proofs.PrepareLemmas.{bench_prepared}
use Rattle.prefsql_session.proofs.NameLemmas.{IsNamedCommand, accepted_named}
use Rattle.prefsql_session.proofs.prepare.prepare.Goals as goal

pub prepare_script-requires-clause-few : goal.prepare_script-requires-clause-few
prepare_script-requires-clause-few g c =
    let is : accepted c.args.words.now ≡ Some c.in-Some.command = cc c.in_ok-command.ensures in
    let named : IsNamedCommand c.in-Some.command = accepted_named c.args.words.now c.in-Some.command is in
    search (rules, named)

pub prepare_script-requires-clause-named : goal.prepare_script-requires-clause-named
prepare_script-requires-clause-named g c =
    let is : accepted c.args.words.now ≡ Some c.in-Some.command = cc c.in_ok-command.ensures in
    let named : IsNamedCommand c.in-Some.command = accepted_named c.args.words.now c.in-Some.command is in
    search (rules, named)

pub returns-clause-follows : goal.returns-clause-follows
returns-clause-follows g c =
    let is : accepted c.args.words.now ≡ Some (Bench c.in-Bench.count) = search rules in
    bench_prepared (g.H.Shelf.files c.args.shelf.now) (g.S.Source.left c.args.script.now) (accepted c.args.words.now) c.in-Bench.count is

pub returns-clause-texts : goal.returns-clause-texts
returns-clause-texts g c =
    let is : accepted c.args.words.now ≡ Some (Bench c.in-Bench.count) = search rules in
    accepted_named c.args.words.now (Bench c.in-Bench.count) is
