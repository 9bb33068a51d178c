-- Three lemmas for each kind of set.
use Rattle.dx_flags.proofs.AccessSets as access
use Rattle.dx_flags.proofs.StateSets as state
use Rattle.dx_flags.proofs.SyncSets as sync
use Rattle.dx_flags.proofs.laws.well_formed_sets_have_names.Goals as goal

pub returns : goal.returns
returns c = record {
  sync_name = sync.sync_name;
  sync_alone = sync.sync_alone;
  sync_single = sync.sync_single;
  access_name = access.access_name;
  access_alone = access.access_alone;
  access_single = access.access_single;
  state_name = state.state_name;
  state_alone = state.state_alone;
  state_single = state.state_single;
}
