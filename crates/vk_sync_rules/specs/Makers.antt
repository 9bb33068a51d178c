-- What is known of the command that made an access.
use Rattle.std.specs.Prelude.{ℕ, ◌≡◌, true, false, List, slice_get, Option, Some, None, if◌then◌else◌}
use Rattle.dx_base.specs.Each.{Each}
use Rattle.vk_types.specs.declared.accesses.Accesses.{Accesses}
use Rattle.vk_types.specs.declared.batches.Batch.{Batch}
use Rattle.vk_types.specs.declared.commands.VkCommand.{VkCommand}
use Rattle.vk_types.specs.declared.commands.VkCommand.TheVariants.{Barrier}
use Rattle.vk_types.specs.declared.layouts.Change.{Change}
use Rattle.vk_types.specs.declared.stages.Stages.{Stages}
use Rattle.vk_types.specs.declared.plan.DevicePlan.{DevicePlan}
use Rattle.vk_types.specs.declared.steps.VkStep.{VkStep}
use Rattle.vk_sync_rules.specs.Commands.{pieces, subs_of}
use Rattle.vk_sync_rules.specs.NextState.{whole_sub}
use Rattle.vk_sync_rules.specs.Pieces.{Piece}
use Rattle.vk_types.specs.Stages.{meets}
use Rattle.vk_sync_rules.specs.declared.accesses.DoneAccess.{DoneAccess}
use Rattle.vk_sync_rules.specs.declared.accesses.Maker.{Maker}
use Rattle.vk_sync_rules.specs.declared.counts.Done.{Done}
use Rattle.vk_sync_rules.specs.declared.places.Place.{Place}
use Rattle.vk_sync_rules.specs.AccessSets.{is_some_access, share}
use Rattle.vk_sync_rules.specs.DoneAccesses.{ordered, sees, reaches}
use Rattle.vk_sync_rules.specs.Orders.{sort_of}
use Rattle.vk_sync_rules.specs.Rules.{after_steps}
use Rattle.vk_sync_rules.specs.Runs.{Runs}
use Rattle.vk_sync_rules.specs.VkState.{VkState, batch_in, command_in, is_done}

-- an access that a command makes of one of its pieces
pub record IsOfPiece (ps : List Piece) (r : DoneAccess) : Type 0 where
  pub place : ℕ
  pub piece : Piece
  pub there : slice_get ps place ≡ Some piece
  pub range : r.range ≡ piece.range
  pub access : r.access ≡ (if r.writes then piece.writes else piece.reads)
  pub some : is_some_access r.access ≡ true

-- the access of the layout change of a barrier: a write of a subresource that the change names, ordered before the second scope,
-- and seen there
pub record IsChanged (plan : DevicePlan) (q : ℕ) (p : Place) (to : Stages) (seen : Accesses) (change : Option Change) (r : DoneAccess) : Type 0 where
  pub layout : Change
  pub is : change ≡ Some layout
  pub index : ℕ
  pub sub : ℕ
  pub there : slice_get (subs_of plan layout) index ≡ Some sub
  pub range : r.range ≡ whole_sub plan layout.image sub
  pub writes : r.writes ≡ true
  pub order : (stages : Stages) → meets to stages ≡ true → ordered q stages p r ≡ true
  pub reach : (stages : Stages) → meets to stages ≡ true → reaches q stages p r ≡ true
  pub sight : (stages : Stages) (accesses : Accesses) → meets to stages ≡ true → share seen accesses ≡ true → sees q stages accesses p r ≡ true

-- an access with the command that made it: it is done; a command that is no barrier made it in its stage, of one of its pieces
-- by some answers of loads, and what a barrier made is a layout change
pub record IsOwned (plan : DevicePlan) (done : List Done) (journal : List Batch) (m : Maker) (r : DoneAccess) : Type 0 where
  pub is : is_done done m.queue m.place ≡ true
  pub command : VkCommand
  pub there : command_in (batch_in m.queue m.place.number journal) m.place.index ≡ Some command
  pub plain : (sort_of command).is_barrier ≡ false → m.stage ≡ (sort_of command).gives
  pub piece : (sort_of command).is_barrier ≡ false → (loaded : List ℕ) × IsOfPiece (pieces plan loaded command) r
  pub changed : (from : Stages) (made : Accesses) (to : Stages) (seen : Accesses) (change : Option Change) → command ≡ Barrier from made to seen change →
      IsChanged plan m.queue m.place to seen change r

-- each access that a command made is owned, and what the host wrote is available
pub record HasOwner (plan : DevicePlan) (done : List Done) (journal : List Batch) (r : DoneAccess) : Type 0 where
  pub own : (m : Maker) → r.by ≡ Some m → IsOwned plan done journal m r
  pub host : r.by ≡ None → r.writes ≡ true → r.available ≡ true

abbrev pub AreOwned : VkState → Type 0
AreOwned v = Each (HasOwner v.plan v.done v.journal) v.accesses

abbrev pub StaysOwned : Type 0
StaysOwned = (v : VkState) (ss : List VkStep) → AreOwned v → Runs v ss → AreOwned (after_steps v ss)
