-- The layouts of images: a list for each image, of the layout of each of its subresources.
use Rattle.std.specs.Prelude.{ℕ, ◌≡◌, ◌*◌, List, [], ◌∷◌, length, map, replicate, slice_index_or, Option, Some, None}
use Rattle.dx_base.specs.Lists.{changed_at}
use Rattle.d3d_resources.specs.declared.resources.Resource.{Resource}
use Rattle.d3d_resources.specs.declared.resources.Resource.TheVariants.{Buffer, Texture}
use Rattle.d3d_resources.specs.declared.resources.Start.{Start}
use Rattle.d3d_resources.specs.declared.resources.Start.TheVariants.{Legacy, Enhanced}
use Rattle.lower_tables.specs.Layouts.{layout_of}
use Rattle.vk_types.specs.declared.batches.Batch.{Batch}
use Rattle.vk_types.specs.declared.commands.VkCommand.{VkCommand}
use Rattle.vk_types.specs.declared.commands.VkCommand.TheVariants.{Barrier, Copy, CopyImage, CopyIn, CopyOut, Clear, Dispatch}
use Rattle.vk_types.specs.declared.layouts.Change.{Change}
use Rattle.vk_types.specs.declared.layouts.VkLayout.{VkLayout}
use Rattle.vk_types.specs.declared.layouts.VkLayout.TheVariants.{Undefined, General}

-- the layout of a subresource of an image; one that there is not is in none
abbrev pub layout_at : List (List VkLayout) → ℕ → ℕ → VkLayout
layout_at layouts image sub = slice_index_or (slice_index_or layouts image []) sub Undefined

-- the layouts of an image after a change of one subresource, or of all
abbrev pub subs_after : Option ℕ → VkLayout → List VkLayout → List VkLayout
subs_after None new subs = map (λ _. new) subs
subs_after (Some sub) new subs = changed_at (λ _. new) sub subs

-- the layouts after a change
abbrev pub layouts_after_change : Change → List (List VkLayout) → List (List VkLayout)
layouts_after_change change layouts = changed_at (subs_after change.sub change.new) change.image layouts

-- the layouts after a change, if there is one
abbrev pub layouts_after_some : Option Change → List (List VkLayout) → List (List VkLayout)
layouts_after_some None layouts = layouts
layouts_after_some (Some change) layouts = layouts_after_change change layouts

-- the change of layout that a command makes: only a barrier makes one
abbrev pub change_in : VkCommand → Option Change
change_in (Barrier from made to seen change) = change
change_in (Copy to to_first from from_first words) = None
change_in (CopyImage to to_sub to_layout from from_sub from_layout) = None
change_in (CopyIn image sub layout buffer first pitch) = None
change_in (CopyOut buffer first pitch image sub layout) = None
change_in (Clear target word) = None
change_in (Dispatch routine count t0 t1 u0 b0) = None

-- the layouts after a command, and after some, in order
abbrev pub layouts_after_command : VkCommand → List (List VkLayout) → List (List VkLayout)
layouts_after_command command layouts = layouts_after_some (change_in command) layouts

abbrev pub layouts_after_commands : List VkCommand → List (List VkLayout) → List (List VkLayout)
layouts_after_commands [] layouts = layouts
layouts_after_commands (command ∷ commands) layouts = layouts_after_commands commands (layouts_after_command command layouts)

-- the layouts after some batches, in the order of their submission
abbrev pub layouts_after : List Batch → List (List VkLayout) → List (List VkLayout)
layouts_after [] layouts = layouts
layouts_after (b ∷ bs) layouts = layouts_after bs (layouts_after_commands b.commands layouts)

-- the layout in which an image begins: that of an enhanced texture lowered; a legacy one is always in GENERAL
abbrev pub first_layout : Start → VkLayout
first_layout (Legacy state) = General
first_layout (Enhanced layout) = layout_of layout

-- one layout for all subresources of each live texture, in order of ids
abbrev pub layouts_by : (Start → VkLayout) → List (Option Resource) → List (List VkLayout)
layouts_by by [] = []
layouts_by by (None ∷ rs) = layouts_by by rs
layouts_by by (Some (Buffer home words) ∷ rs) = layouts_by by rs
layouts_by by (Some (Texture start width height mips layers shared) ∷ rs) = replicate (mips * layers) (by start) ∷ layouts_by by rs

-- the layouts before the start-up batch, and after it
abbrev pub unknown_layouts : List (Option Resource) → List (List VkLayout)
unknown_layouts rs = layouts_by (λ _. Undefined) rs

abbrev pub first_layouts : List (Option Resource) → List (List VkLayout)
first_layouts rs = layouts_by first_layout rs

-- how many subresources each live texture has, in order of ids
abbrev pub texture_subs : List (Option Resource) → List ℕ
texture_subs [] = []
texture_subs (None ∷ rs) = texture_subs rs
texture_subs (Some (Buffer home words) ∷ rs) = texture_subs rs
texture_subs (Some (Texture start width height mips layers shared) ∷ rs) = mips * layers ∷ texture_subs rs

-- layouts of the images of these resources: one for each subresource of each
abbrev pub AreLayoutsOf : List (Option Resource) → List (List VkLayout) → Type 0
AreLayoutsOf rs layouts = map (λ subs. length subs) layouts ≡ texture_subs rs
