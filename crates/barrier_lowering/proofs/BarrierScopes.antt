-- The scopes of lowered barriers.
use Rattle.std.proofs.Common.{◌≡◌, true, List, Option}
use Rattle.d3d_resources.specs.declared.resources.Resource.{Resource}
use Rattle.dx_flags.proofs.Named.{both}
use Rattle.dx_flags.specs.declared.atoms.Kind.{Kind}
use Rattle.dx_flags.specs.declared.atoms.Part.{Part}
use Rattle.dx_flags.specs.declared.accesses.Access.{Access}
use Rattle.dx_flags.specs.declared.syncs.Sync.{Sync}
use Rattle.dx_flags.specs.Kinds.{has_kind}
use Rattle.dx_flags.specs.Parts.{has_part}
use Rattle.enhanced_barriers.proofs.LegalParts.{legal_means}
use Rattle.enhanced_barriers.specs.declared.barriers.Barrier.{Barrier}
use Rattle.enhanced_barriers.specs.Cover.{before_has, after_has}
use Rattle.enhanced_barriers.specs.Laws.{IsLegal}
use Rattle.lower_tables.proofs.AccessBits.{takes_in_kind}
use Rattle.lower_tables.proofs.SyncStages.{takes_in_part, has_stages}
use Rattle.lower_tables.specs.Accesses.{access_of}
use Rattle.lower_tables.specs.Stages.{stage_of}
use Rattle.barrier_lowering.specs.Barriers.{lowered_barrier}
use Rattle.barrier_lowering.specs.Laws.{first_scope, second_scope, IsInScope, BarriersKeepTheirScopes}

-- a pair of a sync and an access lies in their stages and memory accesses
in_scope : (part : Part) (kind : Kind) (sync : Sync) (access : Access) → has_part part sync ≡ true → has_kind kind access ≡ true → IsInScope (stage_of sync, access_of access) part kind
in_scope part kind sync access p k = record { stage = takes_in_part part sync p; accesses = λ x made. takes_in_kind kind access x k made }

before_in : (rs : List (Option Resource)) (barrier : Barrier) (part : Part) (kind : Kind) → before_has barrier part kind ≡ true → IsInScope (first_scope (lowered_barrier rs barrier)) part kind
unfolding before_has
before_in rs barrier part kind h =
    let parts = both (has_part part barrier.sync_before) (has_kind kind barrier.access_before) h in
    in_scope part kind barrier.sync_before barrier.access_before parts.0 parts.1

after_in : (rs : List (Option Resource)) (barrier : Barrier) (part : Part) (kind : Kind) → after_has barrier part kind ≡ true → IsInScope (second_scope (lowered_barrier rs barrier)) part kind
unfolding after_has
after_in rs barrier part kind h =
    let parts = both (has_part part barrier.sync_after) (has_kind kind barrier.access_after) h in
    in_scope part kind barrier.sync_after barrier.access_after parts.0 parts.1

pub keep_scopes : BarriersKeepTheirScopes
keep_scopes = record {
  before = before_in;
  covered = λ rs barrier part h. takes_in_part part barrier.sync_before h;
  after = after_in;
  device = λ rs barrier list shared h.
      let legal : IsLegal barrier list shared = (legal_means barrier list shared).0 h in
      (has_stages barrier.sync_before legal.sync_before, has_stages barrier.sync_after legal.sync_after);
}
