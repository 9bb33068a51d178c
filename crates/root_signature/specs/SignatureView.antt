-- What contracts see of a root signature.
use Rattle.std.specs.Prelude.{List}
use Rattle.root_signature.specs.declared.params.Param.{Param}
use Rattle.root_signature.specs.declared.versions.Version.{Version}
use Rattle.root_signature.specs.Refusals.{IsRefused}

-- a version and parameters
pub record SignatureView : Type 0 where
  pub version : Version
  pub params : List Param

-- a signature is none of those that are refused
abbrev pub IsSignature : SignatureView → Type 0
IsSignature signature = IsRefused signature.version signature.params → ⊥
