-- Lowered lists, and what they stand for.
use Rattle.std.specs.Prelude.{ℕ, ◌/◌, ◌≡◌, List, [], ◌∷◌, map, Option, None}
use Rattle.std.specs.Option.{unwrap_or}
use Rattle.d3d_resources.specs.declared.resources.Resource.{Resource}
use Rattle.vk_types.specs.declared.commands.VkCommand.{VkCommand}
use Rattle.vk_types.specs.declared.commands.VkCommand.TheVariants as vk
use Rattle.vk_types.specs.declared.layouts.Change.{Change}
use Rattle.vk_types.specs.declared.layouts.VkLayout.{VkLayout}
use Rattle.barrier_lowering.specs.declared.lowered.Lowered.{Lowered}
use Rattle.barrier_lowering.specs.declared.lowered.Placed.{Placed}
use Rattle.barrier_lowering.specs.declared.lowered.Placed.TheVariants.{Whole, CopyImage, CopyIn, CopyOut}
use Rattle.barrier_lowering.specs.declared.lowered.PlacedSub.{PlacedSub}
use Rattle.barrier_lowering.specs.declared.lowered.Rows.{Rows}
use Rattle.barrier_lowering.specs.declared.records.Record.{Record}
use Rattle.barrier_lowering.specs.declared.records.Record.TheVariants as record_of
use Rattle.barrier_lowering.specs.Barriers.{lowered_barrier}
use Rattle.barrier_lowering.specs.Layouts.{layout_at, change_in, layouts_after_some, layouts_after_commands, AreLayoutsOf}
use Rattle.barrier_lowering.specs.Lowering.{lowered_commands}
use Rattle.barrier_lowering.specs.Numbers.{buffer_number, image_number}

-- the layout of a subresource that a command copies: the one that is given, or else that before the list
abbrev pub filled_layout : List (List VkLayout) → PlacedSub → VkLayout
filled_layout layouts of = unwrap_or of.layout (layout_at layouts of.image of.sub)

-- a command where its list begins in these layouts
abbrev pub filled_command : List (List VkLayout) → Placed → VkCommand
filled_command layouts (Whole command) = command
filled_command layouts (CopyImage to from) = vk.CopyImage to.image to.sub (filled_layout layouts to) from.image from.sub (filled_layout layouts from)
filled_command layouts (CopyIn to from) = vk.CopyIn to.image to.sub (filled_layout layouts to) from.buffer from.first from.pitch
filled_command layouts (CopyOut to from) = vk.CopyOut to.buffer to.first to.pitch from.image from.sub (filled_layout layouts from)

-- the commands of a list that begins in these layouts
abbrev pub filled : List (List VkLayout) → Lowered → List VkCommand
filled layouts lowered = map (filled_command layouts) lowered.commands

-- the change of layout that a command makes, if it makes one
abbrev pub change_placed : Placed → Option Change
change_placed (Whole command) = change_in command
change_placed (CopyImage to from) = None
change_placed (CopyIn to from) = None
change_placed (CopyOut to from) = None

-- the layouts after a command
abbrev pub advanced_by : Placed → List (List VkLayout) → List (List VkLayout)
advanced_by placed layouts = layouts_after_some (change_placed placed) layouts

-- the layouts after some commands, in order
abbrev pub advanced_by_all : List Placed → List (List VkLayout) → List (List VkLayout)
advanced_by_all [] layouts = layouts
advanced_by_all (command ∷ commands) layouts = advanced_by_all commands (advanced_by command layouts)

-- the layouts after a list that begins in these
abbrev pub advanced : List (List VkLayout) → Lowered → List (List VkLayout)
advanced layouts lowered = advanced_by_all lowered.commands layouts

-- a subresource of an image, where the list so far gave subresources these layouts last
abbrev pub sub_behind : (ℕ → ℕ → Option VkLayout) → ℕ → ℕ → PlacedSub
sub_behind last image sub = record { image = image; sub = sub; layout = last image sub }

-- the same of a texture
abbrev pub placed_sub : List (Option Resource) → (ℕ → ℕ → Option VkLayout) → ℕ → ℕ → PlacedSub
placed_sub rs last id sub = sub_behind last (image_number rs id) sub

-- rows of a buffer, in words
abbrev pub rows_of : List (Option Resource) → ℕ → ℕ → ℕ → Rows
rows_of rs id offset pitch = record { buffer = buffer_number rs id; first = offset / 4; pitch = pitch / 4 }

-- a copy between buffers, in words
abbrev pub copied_buffer : List (Option Resource) → ℕ → ℕ → ℕ → ℕ → ℕ → VkCommand
copied_buffer rs to to_offset from from_offset bytes = vk.Copy (buffer_number rs to) (to_offset / 4) (buffer_number rs from) (from_offset / 4) (bytes / 4)

-- a recorded command with places, where the list before it gave subresources these layouts last
abbrev pub placed_record : List (Option Resource) → (ℕ → ℕ → Option VkLayout) → Record → Placed
placed_record rs last (record_of.Copy to to_offset from from_offset bytes) = Whole (copied_buffer rs to.0 to_offset from.0 from_offset bytes)
placed_record rs last (record_of.CopyTexture to to_sub from from_sub) = CopyImage (placed_sub rs last to.0 to_sub) (placed_sub rs last from.0 from_sub)
placed_record rs last (record_of.CopyIn to sub from offset pitch) = CopyIn (placed_sub rs last to.0 sub) (rows_of rs from.0 offset pitch)
placed_record rs last (record_of.CopyOut to offset pitch from sub) = CopyOut (rows_of rs to.0 offset pitch) (placed_sub rs last from.0 sub)
placed_record rs last (record_of.Barrier barrier) = Whole (lowered_barrier rs barrier)

-- a lowered list stands for recorded commands: in whatever layouts of the resources it begins, it gives their commands in these
-- layouts, and the layouts after them
pub record IsLowered (rs : List (Option Resource)) (all : List Record) (lowered : Lowered) : Type 0 where
  pub commands : (layouts : List (List VkLayout)) → AreLayoutsOf rs layouts → filled layouts lowered ≡ lowered_commands rs layouts all
  pub after : (layouts : List (List VkLayout)) → AreLayoutsOf rs layouts →
      advanced layouts lowered ≡ layouts_after_commands (lowered_commands rs layouts all) layouts
