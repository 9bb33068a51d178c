-- By the cases of the table.
use Rattle.legacy_states.proofs.Promotions.{is_promotion}
use Rattle.legacy_states.proofs.laws.promotions_are_sound.Goals as goal

pub returns : goal.returns
returns c = is_promotion
