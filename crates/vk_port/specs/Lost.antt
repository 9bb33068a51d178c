-- Which calls of a device are lost.
use Rattle.std.specs.Prelude.{ℕ, ◌≡◌, ◌+◌, ◌-◌, ◌^◌, ◌==◌, ◌&&◌, min, Bool, true, false, nat_lt, Result, Ok, Err}
use Rattle.std.specs.List.{list_any}
use Rattle.vk_port.specs.declared.calls.Calls.{Calls}
use Rattle.vk_port.specs.declared.faults.DeviceFault.{DeviceFault}
use Rattle.vk_port.specs.declared.faults.DeviceFault.TheVariants.{Lost, Memory}

-- how many calls there were after one more
abbrev pub calls_made : Calls → ℕ
calls_made calls = min (calls.made + 1) (2 ^ 64 - 1)

-- the next call is one of those that are lost
abbrev pub is_lost : Calls → Bool
is_lost calls = nat_lt calls.made (2 ^ 64 - 1) && list_any (λ number. number == calls.made + 1) calls.fails

-- an answer says that the device is lost
abbrev pub says_lost : {T : Type 0} → Result T DeviceFault → Bool
says_lost (Ok answer) = false
says_lost (Err Lost) = true
says_lost (Err Memory) = false

-- a call was counted, and was lost exactly where its number is among those that are to be lost
pub record CountsCall {T : Type 0} (old new : Calls) (result : Result T DeviceFault) : Type 0 where
  pub lost : says_lost result ≡ is_lost old
  pub made : new.made ≡ calls_made old
  pub fails : new.fails ≡ old.fails
