-- Which update of a list suffices for a value.
use Rattle.std.specs.Prelude.{ℕ, nat_le, List, Option, Bool}
use Rattle.std.specs.List.{find}
use Rattle.fence_timeline.specs.declared.update.Update.{Update}

-- an update suffices where its value is at least the value waited for
abbrev pub suffices : ℕ → Update → Bool
suffices v u = nat_le v u.value

-- the first of the updates that suffices
abbrev pub first_sufficient : ℕ → List Update → Option Update
first_sufficient v us = find (suffices v) us
