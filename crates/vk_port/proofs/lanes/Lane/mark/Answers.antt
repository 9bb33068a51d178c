-- Behind the last batch there is none.
use Rattle.std.proofs.Common.{arith, refl}
use Rattle.vk_port.specs.After.{with_done}
use Rattle.vk_port.proofs.Lists.{changed_past}
use Rattle.vk_port.proofs.lanes.Lane.mark.Goals as goal

pub returns-else-at-len : goal.returns-else-at-len
returns-else-at-len c =
    let past = changed_past (with_done c.args.place) c.place_of-at.result c.args.self.now.batches (omega arith) in
    rw (← c.place_of-at.ensures, past) refl
