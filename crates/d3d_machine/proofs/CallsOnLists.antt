-- What a call that may be refused does to the lists.
use Rattle.std.proofs.Common.{ℕ, ◌≡◌, refl, Bool, true, false, List, Option, Some, None}
use Rattle.dx_base.specs.Lists.{changed_at}
use Rattle.dx_base.specs.Effects.{at, changed_by, unless}
use Rattle.dx_base.specs.declared.hresult.Hresult.{Hresult}
use Rattle.d3d_machine.specs.declared.world.World.{World}
use Rattle.d3d_machine.specs.declared.events.Listed.{Listed}
use Rattle.d3d_machine.specs.CallEffects.{Change, closes}
use Rattle.d3d_machine.specs.State.{list_of, is_recording}
use Rattle.d3d_machine.specs.Effects.{changed, fails_if, change_unless, closed}
use Rattle.d3d_machine.specs.Lists.{lists_or, failed_lists_if}

-- a change of a list that may be refused
pub changed_unless : (w : World) (lists : List Listed) (r : Option Hresult) (l : ℕ) (k : Change) →
    changed_by (changed w) (unless (at l k) r) lists ≡ lists_or r (changed_at (changed w k) l lists) lists
changed_unless w lists None l k = refl
changed_unless w lists (Some e) l k = refl

pub failed_by : (w : World) (lists : List Listed) (b : Bool) (l : ℕ) → changed_by (changed w) (fails_if b l) lists ≡ failed_lists_if b l lists
failed_by w lists true l = refl
failed_by w lists false l = refl

-- the end of a list's recording, which may be refused
pub ended_unless : (w : World) (lists : List Listed) (r : Option Hresult) (l : ℕ) →
    changed_by (changed w) (change_unless lists (Some l) (at l closes) r) lists
    ≡ lists_or r (changed_at closed l lists) (failed_lists_if (is_recording (list_of lists l)) l lists)
ended_unless w lists None l = refl
ended_unless w lists (Some e) l = failed_by w lists (is_recording (list_of lists l)) l
