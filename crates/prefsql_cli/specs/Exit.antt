-- The numbers with which the program ends. They are this project's own.
use Rattle.std.specs.Prelude.{ℕ}
use Rattle.prefsql_session.specs.declared.session.Status.{Status}
use Rattle.prefsql_session.specs.declared.session.Status.TheVariants.{Done, Refused, Usage}
use Rattle.prefsql_session.specs.declared.session.Status.TheVariants.{ReadFault, WriteFault, Memory}
use Rattle.prefsql_session.specs.declared.session.Status.TheVariants.{ShelfFault}

abbrev pub exit_number : Status → ℕ
exit_number Done = 0
exit_number Refused = 1
exit_number Usage = 2
exit_number ReadFault = 3
exit_number WriteFault = 4
exit_number Memory = 5
exit_number ShelfFault = 6
