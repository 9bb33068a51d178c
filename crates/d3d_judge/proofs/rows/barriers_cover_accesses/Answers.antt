use Rattle.std.proofs.Common.{refl}
use Rattle.dx_flags.specs.Accesses.{access_has}
use Rattle.dx_flags.specs.Kinds.{has_kind}
use Rattle.dx_flags.specs.Parts.{has_part}
use Rattle.dx_flags.specs.Syncs.{sync_has}
use Rattle.enhanced_barriers.specs.Cover.{before_has, after_has}
use Rattle.d3d_judge.proofs.rows.barriers_cover_accesses.Goals as goal

pub returns-clause-covered : goal.returns-clause-covered
unfolding sync_has before_has after_has has_part has_kind access_has
returns-clause-covered c = refl

pub returns-clause-another_kind : goal.returns-clause-another_kind
unfolding sync_has before_has after_has has_part has_kind access_has
returns-clause-another_kind c = refl

pub returns-clause-another_buffer : goal.returns-clause-another_buffer
unfolding sync_has before_has after_has has_part has_kind access_has
returns-clause-another_buffer c = refl

pub returns-clause-too_early : goal.returns-clause-too_early
unfolding sync_has before_has after_has has_part has_kind access_has
returns-clause-too_early c = refl
