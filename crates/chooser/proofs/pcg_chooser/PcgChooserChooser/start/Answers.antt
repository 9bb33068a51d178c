use Rattle.chooser.proofs.Seeding.{seeded_first}
use Rattle.chooser.proofs.pcg_chooser.PcgChooserChooser.start.Goals as goal

pub invariant_of-self : goal.invariant_of-self
invariant_of-self c = seeded_first c.args.number _ _ c.generator_of-self-inside.ensures c.clear.ensures.items
