-- The exit status of what a run ends with.
use Rattle.std.specs.Prelude.{ℕ}
use Rattle.run_text.specs.declared.status.Status.{Status}
use Rattle.run_text.specs.declared.status.Status.TheVariants as status

-- the exit status of the program
abbrev pub exit_code_of : Status → ℕ
exit_code_of status.Done = 0
exit_code_of status.Stalled = 1
exit_code_of (status.Usage k) = 2
exit_code_of (status.Refused n c) = 3
exit_code_of status.ReadFault = 4
exit_code_of status.WriteFault = 5
exit_code_of (status.Broken r e) = 6
exit_code_of (status.Torn t) = 6
exit_code_of status.DeviceLost = 7
exit_code_of status.Memory = 8
