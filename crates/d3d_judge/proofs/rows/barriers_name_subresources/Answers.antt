use Rattle.std.proofs.Common.{refl}
use Rattle.dx_flags.specs.Accesses.{access_has}
use Rattle.dx_flags.specs.Kinds.{has_kind}
use Rattle.dx_flags.specs.Parts.{has_part}
use Rattle.dx_flags.specs.Syncs.{sync_has}
use Rattle.enhanced_barriers.specs.Cover.{before_has, after_has}
use Rattle.d3d_judge.proofs.rows.barriers_name_subresources.Goals as goal

pub returns-clause-that_one : goal.returns-clause-that_one
unfolding sync_has before_has after_has has_part has_kind access_has
returns-clause-that_one c = refl

pub returns-clause-another : goal.returns-clause-another
unfolding sync_has before_has after_has has_part has_kind access_has
returns-clause-another c = refl

pub returns-clause-all : goal.returns-clause-all
unfolding sync_has before_has after_has has_part has_kind access_has
returns-clause-all c = refl

pub returns-clause-lost : goal.returns-clause-lost
unfolding sync_has before_has after_has has_part has_kind access_has
returns-clause-lost c = refl
