-- A lemma for each kind of set.
use Rattle.dx_flags.proofs.AccessSets.{access_same}
use Rattle.dx_flags.proofs.StateSets.{state_same}
use Rattle.dx_flags.proofs.SyncSets.{sync_same}
use Rattle.dx_flags.proofs.laws.sets_are_their_names.Goals as goal

pub returns : goal.returns
returns c = record { syncs = sync_same; accesses = access_same; states = state_same }
