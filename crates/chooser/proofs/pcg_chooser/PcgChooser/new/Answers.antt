use Rattle.chooser.proofs.Seeding.{seeded_first}
use Rattle.chooser.proofs.pcg_chooser.PcgChooser.new.Goals as goal

pub invariant_of-result : goal.invariant_of-result
invariant_of-result c = seeded_first 0 c.new.result.items c.generator_of.result c.generator_of.ensures c.new.ensures.items
