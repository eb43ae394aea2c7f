use Rattle.std.proofs.Common.{◌≡◌, Ok, rules}
use Rattle.std.specs.Str.Parse.{digits_value}
use Rattle.prefsql_session.proofs.NumberLemmas.{number_parsed}
use Rattle.prefsql_session.proofs.command_line.number.Goals as goal

pub returns : goal.returns
returns c =
    let is : c.parse.result ≡ Ok (digits_value 10 c.args.word.now) = number_parsed c.args.word.now c.parse.result c.parse.ensures.value.0 c.requires in
    search (rules, is)
