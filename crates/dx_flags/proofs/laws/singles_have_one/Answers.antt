-- A lemma for each kind of set.
use Rattle.dx_flags.proofs.AccessSets.{access_only}
use Rattle.dx_flags.proofs.StateSets.{state_only}
use Rattle.dx_flags.proofs.SyncSets.{sync_only}
use Rattle.dx_flags.proofs.laws.singles_have_one.Goals as goal

pub returns : goal.returns
returns c = record { syncs = sync_only; accesses = access_only; states = state_only }
