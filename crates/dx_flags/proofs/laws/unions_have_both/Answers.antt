-- A lemma for each kind of set.
use Rattle.dx_flags.proofs.AccessSets.{access_union}
use Rattle.dx_flags.proofs.StateSets.{state_union}
use Rattle.dx_flags.proofs.SyncSets.{sync_union}
use Rattle.dx_flags.proofs.laws.unions_have_both.Goals as goal

pub returns : goal.returns
returns c = record { syncs = sync_union; accesses = access_union; states = state_union }
