-- The 32-bit codes of the errors.
use Rattle.std.specs.Prelude.{ℕ}
use Rattle.dx_base.specs.declared.hresult.Hresult.{Hresult}
use Rattle.dx_base.specs.declared.hresult.Hresult.TheVariants.{InvalidArg, Fail, OutOfMemory, DeviceRemoved}

-- the code of an error (Windows, "Common HRESULT values"; DXGI_ERROR)
abbrev pub code_of : Hresult → ℕ
code_of InvalidArg = 0x8007_0057
code_of Fail = 0x8000_4005
code_of OutOfMemory = 0x8007_000e
code_of DeviceRemoved = 0x887a_0005
