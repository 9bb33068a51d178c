-- What serving a call does to the parts.
use Rattle.std.specs.Prelude.{◌≡◌, map}
use Rattle.d3d_machine.specs.declared.world.World.{World}
use Rattle.d3d_machine.specs.declared.calls.Call.{Call}
use Rattle.sys_core.specs.declared.parts.Parts.{Parts}
use Rattle.sys_core.specs.Parts.{queued, updates_in, lists_by, held_by, fences_by}

-- the parts after a call that was served: lists, fences and held operations change as it says, and the rest stays
pub record Serves (w : World) (c : Call) (old new : Parts) : Type 0 where
  pub lists : new.lists ≡ lists_by w old.lists c
  pub seats : new.seats ≡ old.seats
  pub fences : map updates_in new.fences ≡ fences_by w old.lists c (map updates_in old.fences)
  pub held : map queued new.held ≡ held_by w old.lists c (map queued old.held)
  pub numbers : new.numbers ≡ old.numbers

-- the parts are as before, but for room
pub record StaysParts (old new : Parts) : Type 0 where
  pub lists : new.lists ≡ old.lists
  pub seats : new.seats ≡ old.seats
  pub fences : map updates_in new.fences ≡ map updates_in old.fences
  pub held : map queued new.held ≡ map queued old.held
  pub numbers : new.numbers ≡ old.numbers
