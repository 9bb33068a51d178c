use Rattle.std.proofs.Common.{◌≡◌, take, map}
use Rattle.sys_core.specs.Parts.{opening_seat}
use Rattle.sys_core.proofs.parts.opening_seats.Given as goal

abbrev pub invariant-loop-script : goal.invariant-loop-script
invariant-loop-script l = l.seats ≡ map (λ _. opening_seat) (take l.script-index l.scripts)
