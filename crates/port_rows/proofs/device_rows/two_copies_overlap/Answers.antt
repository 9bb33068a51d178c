-- The words that are read are inside.
use Rattle.vk_port.specs.Plain.{view_of}
use Rattle.vk_port.proofs.Examples.{all_inside}
use Rattle.port_rows.proofs.device_rows.two_copies_overlap.Goals as goal

pub host_read-requires-clause-inside : goal.host_read-requires-clause-inside
host_read-requires-clause-inside g c = all_inside (view_of c.takes.new.device).state c.takes.ensures.sizes
