-- Barriers whose stages support their accesses (Vulkan 1.3, 7.1.3: supported access types).
use Rattle.std.specs.Prelude.{◌≡◌, Bool, true}
use Rattle.dx_base.specs.declared.kinds.ListType.{ListType}
use Rattle.dx_flags.specs.declared.states.State.{State}
use Rattle.dx_flags.specs.StateNames.{UNORDERED_ACCESS}
use Rattle.dx_flags.specs.States.{one_state}
use Rattle.enhanced_barriers.specs.declared.barriers.Barrier.{Barrier}
use Rattle.enhanced_barriers.specs.Legal.{is_legal}
use Rattle.lower_tables.specs.Accesses.{access_of}
use Rattle.lower_tables.specs.Laws.{is_supported_side}
use Rattle.lower_tables.specs.Stages.{stage_of}
use Rattle.lower_tables.specs.States.{state_of}
use Rattle.vk_types.specs.Support.{supports}

-- the stages of both sides of a lowered barrier support its accesses
pub record IsSupportedBarrier (barrier : Barrier) : Type 0 where
  pub before : supports (stage_of barrier.sync_before) (access_of barrier.access_before) ≡ true
  pub after : supports (stage_of barrier.sync_after) (access_of barrier.access_after) ≡ true

-- each barrier that is lowered names accesses that its stages support: a legal one, and those that stand for states; a
-- UAV barrier is one between unordered accesses
pub record LoweredIsSupported : Type 0 where
  pub barriers : (barrier : Barrier) (list : ListType) (shared : Bool) → is_legal barrier list shared ≡ true → IsSupportedBarrier barrier
  pub states : (state : State) → is_supported_side (state_of state) ≡ true
  pub unordered : is_supported_side (state_of (one_state UNORDERED_ACCESS)) ≡ true
