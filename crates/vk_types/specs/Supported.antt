-- What it means that stages support accesses.
use Rattle.std.specs.Prelude.{◌≡◌, true}
use Rattle.vk_types.specs.declared.accesses.Access.{Access}
use Rattle.vk_types.specs.declared.accesses.Accesses.{Accesses}
use Rattle.vk_types.specs.declared.stages.Stage.{Stage}
use Rattle.vk_types.specs.declared.stages.Stages.{Stages}
use Rattle.vk_types.specs.Accesses.{has_access, group_of}
use Rattle.vk_types.specs.Stages.{has_stage}
use Rattle.vk_types.specs.Support.{supports, supports_group}

-- a stage of the set supports the access
pub record IsSupported (stages : Stages) (access : Access) : Type 0 where
  pub stage : Stage
  pub there : has_stage stages stage ≡ true
  pub fits : supports_group stage (group_of access) ≡ true

-- stages support accesses just where each access of the set is supported by some stage of the other
pub record SupportMeans : Type 0 where
  pub only_where : (stages : Stages) (accesses : Accesses) → supports stages accesses ≡ true → (x : Access) → has_access accesses x ≡ true → IsSupported stages x
  pub wherever : (stages : Stages) (accesses : Accesses) → ((x : Access) → has_access accesses x ≡ true → IsSupported stages x) → supports stages accesses ≡ true
