use Rattle.std.proofs.Common.{refl}
use Rattle.dx_flags.specs.Accesses.{access_has}
use Rattle.dx_flags.specs.Kinds.{has_kind}
use Rattle.dx_flags.specs.Parts.{has_part}
use Rattle.dx_flags.specs.Syncs.{sync_has}
use Rattle.enhanced_barriers.specs.Cover.{before_has, after_has}
use Rattle.d3d_judge.proofs.rows.lost_words_are_not_read.Goals as goal

pub returns-clause-still : goal.returns-clause-still
unfolding sync_has before_has after_has has_part has_kind access_has
returns-clause-still c = refl

pub returns-clause-again : goal.returns-clause-again
unfolding sync_has before_has after_has has_part has_kind access_has
returns-clause-again c = refl

pub returns-clause-written : goal.returns-clause-written
unfolding sync_has before_has after_has has_part has_kind access_has
returns-clause-written c = refl

pub returns-clause-whole_way : goal.returns-clause-whole_way
unfolding sync_has before_has after_has has_part has_kind access_has
returns-clause-whole_way c = refl
