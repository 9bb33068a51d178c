-- What commands touch, and where they pass an end.
use Rattle.std.specs.Prelude.{ℕ, Bool, not, List, [], ◌∷◌, ◌++◌, Option, Some, None}
use Rattle.std.specs.List.{list_any, list_all, flat_map}
use Rattle.dx_base.specs.declared.kinds.Class.TheVariants.{Uav}
use Rattle.vk_types.specs.declared.commands.VkCommand.{VkCommand}
use Rattle.vk_types.specs.declared.commands.VkCommand.TheVariants.{Barrier, Copy, CopyImage, CopyIn, CopyOut, Clear, Dispatch}
use Rattle.vk_types.specs.declared.layouts.Change.{Change}
use Rattle.vk_sync_rules.specs.declared.ranges.VkResource.TheVariants.{Image}
use Rattle.vk_sync_rules.specs.AccessSets.{no_accesses, storage_writes}
use Rattle.vk_sync_rules.specs.Copies.{copied_rows, sides_of}
use Rattle.vk_sync_rules.specs.Dispatches.{views_of, pieces_of_dispatch}
use Rattle.vk_sync_rules.specs.Numbers.{up_to}
use Rattle.vk_sync_rules.specs.Pieces.{Piece, is_outside}
use Rattle.vk_sync_rules.specs.Registers.{answer_of, slots_of, words_of_register}
use Rattle.vk_sync_rules.specs.Sizes.{is_there, subs_in}
use Rattle.vk_types.specs.declared.plan.DevicePlan.{DevicePlan}

-- the views of a clear and of a dispatch by these loaded answers
abbrev pub pieces_of_registers : DevicePlan → List ℕ → VkCommand → List Piece
pieces_of_registers plan loaded (Barrier from made to seen change) = []
pieces_of_registers plan loaded (Copy to to_first from from_first words) = []
pieces_of_registers plan loaded (CopyImage to to_sub to_layout from from_sub from_layout) = []
pieces_of_registers plan loaded (CopyIn image sub layout buffer first pitch) = []
pieces_of_registers plan loaded (CopyOut buffer first pitch image sub layout) = []
pieces_of_registers plan loaded (Clear target word) =
    elim (words_of_register plan (answer_of (slots_of (Clear target word)) loaded) Uav target) [
      | None ↦ []
      | Some range ↦ record { range = range; reads = no_accesses; writes = storage_writes; named = None } ∷ []
    ]
pieces_of_registers plan loaded (Dispatch routine count t0 t1 u0 b0) =
    pieces_of_dispatch routine count (views_of plan (answer_of (slots_of (Dispatch routine count t0 t1 u0 b0)) loaded) t0 t1 u0 b0)

-- what a command touches by these loaded answers; a barrier touches nothing by pieces
abbrev pub pieces : DevicePlan → List ℕ → VkCommand → List Piece
pieces plan loaded c = flat_map sides_of (copied_rows plan c) ++ pieces_of_registers plan loaded c

-- the layout change of a barrier, if it has one
abbrev pub change_of : VkCommand → Option Change
change_of (Barrier from made to seen change) = change
change_of (Copy to to_first from from_first words) = None
change_of (CopyImage to to_sub to_layout from from_sub from_layout) = None
change_of (CopyIn image sub layout buffer first pitch) = None
change_of (CopyOut buffer first pitch image sub layout) = None
change_of (Clear target word) = None
change_of (Dispatch routine count t0 t1 u0 b0) = None

-- the subresources that a change names
abbrev pub subs_of : DevicePlan → Change → List ℕ
subs_of plan c = elim c.sub [ Some s ↦ s ∷ [] | None ↦ up_to 0 (subs_in plan c.image) ]

-- a change names a subresource that its image lacks
abbrev pub lacks_sub : DevicePlan → Change → Bool
lacks_sub plan c = not (list_all (λ s. is_there plan (Image c.image s)) (subs_of plan c))

-- a command passes an end
abbrev pub passes_end : DevicePlan → List ℕ → VkCommand → Bool
passes_end plan loaded c = elim (change_of c) [ None ↦ list_any (is_outside plan) (pieces plan loaded c) | Some change ↦ lacks_sub plan change ]
