use Rattle.sys_core.proofs.Progress.{machine_goes}
use Rattle.sys_core.proofs.laws.a_step_is_enabled_where_the_machine_has_one.Goals as goal

pub returns : goal.returns
returns c = machine_goes
