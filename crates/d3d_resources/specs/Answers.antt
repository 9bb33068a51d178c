-- What a creation answers.
use Rattle.std.specs.Prelude.{Bool, true, false, Result, Ok, Err}
use Rattle.dx_base.specs.declared.hresult.Hresult.{Hresult}
use Rattle.dx_base.specs.declared.hresult.Hresult.TheVariants.{InvalidArg}

-- the value where its test holds, and InvalidArg where it does not
abbrev pub valid_or_refused : {A : Type 0} → Bool → A → Result A Hresult
valid_or_refused true value = Ok value
valid_or_refused false value = Err InvalidArg
