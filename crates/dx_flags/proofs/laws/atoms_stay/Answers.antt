-- A lemma for each part of the law.
use Rattle.dx_flags.proofs.AtomFacts.{parts_stay, kinds_stay, part_itself, kind_itself}
use Rattle.dx_flags.proofs.laws.atoms_stay.Goals as goal

pub returns : goal.returns
returns c = record { parts = parts_stay; kinds = kinds_stay; part = part_itself; kind = kind_itself }
