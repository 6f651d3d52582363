-- The exit status of a program that ends so.
use Rattle.std.specs.Prelude.{ℕ}
use Rattle.script_run.specs.declared.status.Status.{Status}
use Rattle.script_run.specs.declared.status.Status.TheVariants.{Done, Fault, Usage, Syntax, Input, Output, Memory}

abbrev pub exit_number : Status → ℕ
exit_number Done = 0
exit_number Fault = 1
exit_number Usage = 2
exit_number Syntax = 3
exit_number Input = 4
exit_number Output = 5
exit_number Memory = 6
