-- By the cases of the table.
use Rattle.std.proofs.Common.{refl}
use Rattle.legacy_states.proofs.Decays.{plain_stays, read_decays, copied_decays}
use Rattle.legacy_states.proofs.laws.decays_are_sound.Goals as goal

pub returns : goal.returns
returns c = record { plain = plain_stays; read = read_decays; copied = copied_decays; buffer = λ queue now. refl; shared = λ queue now. refl }
