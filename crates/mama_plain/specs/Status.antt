-- believed: The exit status of the program, for each way in which a command ends.
use Rattle.std.specs.Prelude.{ℕ}
use Rattle.mama_plain.specs.declared.status.Status.{Status}
use Rattle.mama_plain.specs.declared.status.Status.TheVariants as status

abbrev pub exit_number : Status → ℕ
exit_number status.Ok = 0
exit_number status.BadWords = 2
exit_number (status.BadScript line fault) = 3
exit_number (status.OverLimit line limit) = 4
exit_number status.ReadFault = 5
exit_number (status.WriteFault written) = 6
exit_number (status.BadLog line) = 7
exit_number (status.NotLegal rule actor) = 1
exit_number (status.NotCausal actor entry) = 10
exit_number status.OutOfMemory = 8
