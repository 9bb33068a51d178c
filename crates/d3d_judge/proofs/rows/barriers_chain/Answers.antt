use Rattle.std.proofs.Common.{refl}
use Rattle.dx_flags.specs.Accesses.{access_has}
use Rattle.dx_flags.specs.Kinds.{has_kind}
use Rattle.dx_flags.specs.Parts.{has_part}
use Rattle.dx_flags.specs.Syncs.{sync_has}
use Rattle.enhanced_barriers.specs.Cover.{before_has, after_has}
use Rattle.d3d_judge.proofs.rows.barriers_chain.Goals as goal

pub returns-clause-all : goal.returns-clause-all
unfolding sync_has before_has after_has has_part has_kind access_has
returns-clause-all c = refl

pub returns-clause-chained : goal.returns-clause-chained
unfolding sync_has before_has after_has has_part has_kind access_has
returns-clause-chained c = refl

pub returns-clause-first_alone : goal.returns-clause-first_alone
unfolding sync_has before_has after_has has_part has_kind access_has
returns-clause-first_alone c = refl

pub returns-clause-no_chain : goal.returns-clause-no_chain
unfolding sync_has before_has after_has has_part has_kind access_has
returns-clause-no_chain c = refl
