-- What holds between steps.
use Rattle.std.proofs.Common.{ℕ, ◌≡◌, ◌≤◌, ◌+◌, length}
use Rattle.vk_port.specs.Machine.{shown}
use Rattle.sys_core.specs.Ahead.{IsWhole}
use Rattle.sys_core.specs.Keeps.{IsSystem}
use Rattle.sys_core.specs.Work.{work}
use Rattle.trace_runner.specs.Steps.{Went}
use Rattle.trace_runner.proofs.steps.take_steps.Given as goal

abbrev pub invariant-loop-sys : goal.invariant-loop-sys
invariant-loop-sys g l = record {
  went : (rest : ℕ) →
      Went l.initial.sys.world rest l.initial.log.choices.items l.initial.log.taken.items l.initial.sys.history l.initial.sys.device →
      Went l.sys.world rest l.log.choices.items l.log.taken.items l.sys.history l.sys.device;
  equal : length l.log.choices.items ≡ length l.log.taken.items;
  world : l.sys.world ≡ l.initial.sys.world;
  system : IsSystem l.sys.world l.sys.history l.sys.device.state;
  whole : IsWhole l.sys.world l.sys.history l.sys.device.state;
  given : g.C.Chooser.given l.choices ≡ l.log.choices.items;
  started : g.C.Chooser.started l.choices ≡ g.C.Chooser.started l.initial.choices;
  faults : l.initial.sys.device.faults ≤ l.sys.device.faults;
}

abbrev pub decreases-loop-sys : goal.decreases-loop-sys
decreases-loop-sys g l = work l.sys.world l.sys.history (shown l.sys.device.state) + l.sys.device.rest
