-- The batch that was read is written back.
use Rattle.vk_port.specs.After.{with_done}
use Rattle.vk_port.proofs.Lists.{written_back}
use Rattle.vk_port.proofs.batches.Batches.mark.Goals as goal

pub returns : goal.returns
returns c = rw (← c.self.view_is) (written_back (with_done c.args.place) c.args.at c.self.inside.items.items c.index_mut.result.now c.mark.new.self (rw (← c.self.view_is) at c.requires) c.index_mut.ensures.value c.mark.ensures)
