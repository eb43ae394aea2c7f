use Rattle.std.proofs.Common.{◌≡◌, ◌∙◌, ap, map, rules}
use Rattle.clap.specs.Takes.{takes}
use Rattle.clap.specs.Values.{kind_of}
use Rattle.clap.specs.declared.error.kind.ErrorKind.TheVariants as kind
use Rattle.prefsql_session.proofs.command_line.read.Goals as goal

pub returns-else-eq : goal.returns-else-eq
returns-else-eq c taken =
    let wanted : kind_of c.in-Err.error ≡ kind.OutOfMemory =
    c.in-Err.ensures.passes (ap (λ a. takes a (map (λ word. word.now) c.args.words.now)) c.in_ok-command.ensures ∙ taken) in
    search rules
