use Rattle.std.proofs.Common.{rules}
use Rattle.chooser.specs.Seeded.{seed_of}
use Rattle.chooser.proofs.Seeding.{seeded_gives, seeded_next}
use Rattle.chooser.proofs.pcg_chooser.PcgChooserChooser.next.Goals as goal

pub invariant_of-self-2 : goal.invariant_of-self-2
invariant_of-self-2 c = seeded_next (seed_of c.self.inside.started) c.self.inside.given.items c.push.new.self.items c.self.inside.generator _
    c.next_word-number.result c.self.invariant c.next_word-number.ensures (search rules)

pub returns-clause-number : goal.returns-clause-number
returns-clause-number c = rw (← c.self.view_is) (seeded_gives (seed_of c.self.inside.started) c.self.inside.given.items c.self.inside.generator _
    c.next_word-number.result c.self.invariant c.next_word-number.ensures)
