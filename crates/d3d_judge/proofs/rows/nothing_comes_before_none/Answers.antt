use Rattle.std.proofs.Common.{refl}
use Rattle.dx_flags.specs.Accesses.{access_has}
use Rattle.dx_flags.specs.Kinds.{has_kind}
use Rattle.dx_flags.specs.Parts.{has_part}
use Rattle.dx_flags.specs.Syncs.{sync_has}
use Rattle.enhanced_barriers.specs.Cover.{before_has, after_has}
use Rattle.d3d_judge.proofs.rows.nothing_comes_before_none.Goals as goal

pub returns-clause-used : goal.returns-clause-used
unfolding sync_has before_has after_has has_part has_kind access_has
returns-clause-used c = refl

pub returns-clause-all : goal.returns-clause-all
unfolding sync_has before_has after_has has_part has_kind access_has
returns-clause-all c = refl

pub returns-clause-no_words : goal.returns-clause-no_words
unfolding sync_has before_has after_has has_part has_kind access_has
returns-clause-no_words c = refl
