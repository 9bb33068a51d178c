-- Recorded commands are good: a bad one is never kept.
use Rattle.std.specs.Prelude.{Bool, true}
use Rattle.std.specs.List.{list_all}
use Rattle.d3d_machine.specs.declared.world.World.{World}
use Rattle.d3d_machine.specs.declared.calls.Record.{Record}
use Rattle.d3d_machine.specs.declared.calls.Record.TheVariants.{Copy}
use Rattle.d3d_machine.specs.declared.events.Command.{Command}
use Rattle.d3d_machine.specs.declared.events.Listed.{Listed}
use Rattle.d3d_machine.specs.declared.events.Operation.{Operation}
use Rattle.d3d_machine.specs.declared.events.Operation.TheVariants.{Execute, Signal}
use Rattle.d3d_machine.specs.Replies.{is_copy}

-- what is recorded has no error of arguments
abbrev pub is_good_record : World → Record → Bool
is_good_record w (Copy d doff s soff bytes) = is_copy w d.0 doff s.0 soff bytes

abbrev pub is_good_command : World → Command → Bool
is_good_command w c = is_good_record w c.what

abbrev pub is_good_list : World → Listed → Bool
is_good_list w x = list_all (is_good_command w) x.commands

abbrev pub is_good_operation : World → Operation → Bool
is_good_operation w (Execute cs) = list_all (is_good_command w) cs
is_good_operation w (Signal f v) = true
