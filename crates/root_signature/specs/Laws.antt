-- Laws of root signatures.
use Rattle.std.specs.Prelude.{◌≡◌, ℕ, ◌≤◌, false, List, length}
use Rattle.std.specs.List.{list_any}
use Rattle.dx_base.specs.declared.kinds.Class.{Class}
use Rattle.root_signature.specs.declared.params.Param.{Param}
use Rattle.root_signature.specs.Costs.{cost_of}
use Rattle.root_signature.specs.Places.{places_of}
use Rattle.root_signature.specs.Ranges.{ranges_of}
use Rattle.root_signature.specs.Refusals.{passes_registers}
use Rattle.root_signature.specs.SignatureView.{SignatureView, IsSignature}

-- what holds of the parameters of a signature
pub record IsSound (params : List Param) : Type 0 where
  -- they cost at most 64, and so there are at most 64
  pub cost : cost_of params ≤ 64
  pub few : length params ≤ 64
  -- no range passes register 63
  pub inside : list_any (λ param. list_any passes_registers (ranges_of param)) params ≡ false
  -- each register of a class is in at most one place
  pub apart : (class : Class) (register : ℕ) → length (places_of params class register) ≤ 1

-- the parameters of each signature are sound
abbrev pub SignaturesAreSound : Type 0
SignaturesAreSound = (signature : SignatureView) → IsSignature signature → IsSound signature.params
