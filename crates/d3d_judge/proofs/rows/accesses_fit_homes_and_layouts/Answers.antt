use Rattle.std.proofs.Common.{refl}
use Rattle.dx_flags.specs.Accesses.{access_has}
use Rattle.dx_flags.specs.Kinds.{has_kind}
use Rattle.dx_flags.specs.Parts.{has_part}
use Rattle.dx_flags.specs.Syncs.{sync_has}
use Rattle.enhanced_barriers.specs.Cover.{before_has, after_has}
use Rattle.d3d_judge.proofs.rows.accesses_fit_homes_and_layouts.Goals as goal

pub returns-clause-wrong_layout : goal.returns-clause-wrong_layout
unfolding sync_has before_has after_has has_part has_kind access_has
returns-clause-wrong_layout c = refl

pub returns-clause-right_layout : goal.returns-clause-right_layout
unfolding sync_has before_has after_has has_part has_kind access_has
returns-clause-right_layout c = refl

pub returns-clause-not_covered : goal.returns-clause-not_covered
unfolding sync_has before_has after_has has_part has_kind access_has
returns-clause-not_covered c = refl
