-- Laws of lowered lists and barriers.
use Rattle.std.specs.Prelude.{ℕ, ◌≡◌, ◌≢◌, ◌↔◌, ◌⊎◌, Bool, true, List, [], ◌∷◌, ◌++◌, length, map, Option, Some, None}
use Rattle.dx_base.specs.declared.kinds.ListType.{ListType}
use Rattle.d3d_resources.specs.declared.resources.Resource.{Resource}
use Rattle.dx_flags.specs.declared.atoms.Kind.{Kind}
use Rattle.dx_flags.specs.declared.atoms.Part.{Part}
use Rattle.dx_flags.specs.declared.layouts.Layout.{Layout}
use Rattle.dx_flags.specs.declared.layouts.Layout.TheVariants as layout
use Rattle.dx_flags.specs.Parts.{has_part}
use Rattle.enhanced_barriers.specs.declared.barriers.Barrier.{Barrier as DxBarrier}
use Rattle.enhanced_barriers.specs.Cover.{before_has, after_has}
use Rattle.enhanced_barriers.specs.Legal.{is_legal}
use Rattle.lower_tables.specs.Layouts.{layout_of}
use Rattle.lower_tables.specs.Made.{stage_of_part, is_made_by}
use Rattle.vk_types.specs.declared.accesses.Access.{Access}
use Rattle.vk_types.specs.declared.accesses.Accesses.{Accesses}
use Rattle.vk_types.specs.declared.batches.Batch.{Batch}
use Rattle.vk_types.specs.declared.commands.VkCommand.{VkCommand}
use Rattle.vk_types.specs.declared.commands.VkCommand.TheVariants.{Barrier, Copy, CopyImage, CopyIn, CopyOut, Clear, Dispatch}
use Rattle.vk_types.specs.declared.layouts.VkLayout.{VkLayout}
use Rattle.vk_types.specs.declared.layouts.VkLayout.TheVariants.{Undefined}
use Rattle.vk_types.specs.declared.stages.Stage.TheVariants.{AllCommands}
use Rattle.vk_types.specs.declared.stages.Stages.{Stages}
use Rattle.vk_types.specs.Stages.{meets, only_stage}
use Rattle.vk_types.specs.Whole.{stands_for_stage, stands_for_access}
use Rattle.barrier_lowering.specs.declared.records.Record.{Record}
use Rattle.barrier_lowering.specs.Barriers.{change_between, lowered_barrier}
use Rattle.barrier_lowering.specs.Layouts.{layouts_after_commands, layouts_after, first_layouts, unknown_layouts, AreLayoutsOf}
use Rattle.barrier_lowering.specs.Lowering.{lowered_commands}
use Rattle.barrier_lowering.specs.Startup.{startup_commands}

-- a command, whatever layouts a copy names
abbrev pub without_layouts : VkCommand → VkCommand
without_layouts (Barrier from made to seen change) = Barrier from made to seen change
without_layouts (Copy to to_first from from_first words) = Copy to to_first from from_first words
without_layouts (CopyImage to to_sub to_layout from from_sub from_layout) = CopyImage to to_sub Undefined from from_sub Undefined
without_layouts (CopyIn image sub layout buffer first pitch) = CopyIn image sub Undefined buffer first pitch
without_layouts (CopyOut buffer first pitch image sub layout) = CopyOut buffer first pitch image sub Undefined
without_layouts (Clear target word) = Clear target word
without_layouts (Dispatch routine count t0 t1 u0 b0) = Dispatch routine count t0 t1 u0 b0

-- each recorded command is lowered to one, and the layouts in which its list begins decide no more of it than the layouts that
-- it names
pub record LayoutsDecideNoMore : Type 0 where
  pub one_each : (rs : List (Option Resource)) (layouts : List (List VkLayout)) (all : List Record) → length (lowered_commands rs layouts all) ≡ length all
  pub alike : (rs : List (Option Resource)) (layouts others : List (List VkLayout)) (all : List Record) →
      map without_layouts (lowered_commands rs layouts all) ≡ map without_layouts (lowered_commands rs others all)

-- lists that come one after another begin each in the layouts after those before it; the layouts after commands and after
-- batches go by each in turn
pub record ListsComeInTurn : Type 0 where
  pub commands : (rs : List (Option Resource)) (layouts : List (List VkLayout)) (first second : List Record) →
      lowered_commands rs layouts (first ++ second)
      ≡ lowered_commands rs layouts first ++ lowered_commands rs (layouts_after_commands (lowered_commands rs layouts first) layouts) second
  pub layouts : (first second : List VkCommand) (layouts : List (List VkLayout)) →
      layouts_after_commands (first ++ second) layouts ≡ layouts_after_commands second (layouts_after_commands first layouts)
  pub batches : (bs : List Batch) (b : Batch) (layouts : List (List VkLayout)) →
      layouts_after (bs ++ b ∷ []) layouts ≡ layouts_after_commands b.commands (layouts_after bs layouts)

-- a texture's barrier has a change of layout, between its lowered layouts, exactly where these differ or the layout before is
-- UNDEFINED
pub record ChangesAreExact : Type 0 where
  pub some : (image : ℕ) (sub : Option ℕ) (before after : Layout) →
      (change_between image sub before after ≡ Some (record { image = image; sub = sub; old = layout_of before; new = layout_of after }))
      ↔ ((before ≡ layout.Undefined) ⊎ (layout_of before ≢ layout_of after))
  pub none : (image : ℕ) (sub : Option ℕ) (before after : Layout) →
      (change_between image sub before after ≡ None) ↔ ((before ≢ layout.Undefined) × (layout_of before ≡ layout_of after))

-- there is a layout for each subresource at first, and after any commands
pub record LayoutsStayWhole : Type 0 where
  pub first : (rs : List (Option Resource)) → AreLayoutsOf rs (first_layouts rs)
  pub stay : (rs : List (Option Resource)) (commands : List VkCommand) (layouts : List (List VkLayout)) →
      AreLayoutsOf rs layouts → AreLayoutsOf rs (layouts_after_commands commands layouts)

-- the start-up batch brings each image from UNDEFINED to its first layout
abbrev pub StartupGivesFirstLayouts : Type 0
StartupGivesFirstLayouts = (rs : List (Option Resource)) → layouts_after_commands (startup_commands rs) (unknown_layouts rs) ≡ first_layouts rs

-- the first scope of a command as a memory dependency, and the second: its stages, and the accesses in them (Vulkan 1.3, 7.1)
abbrev pub first_scope : VkCommand → Stages × Accesses
first_scope (Barrier from made to seen change) = (from, made)
first_scope (Copy to to_first from from_first words) = (record { 0 = 0 }, record { 0 = 0 })
first_scope (CopyImage to to_sub to_layout from from_sub from_layout) = (record { 0 = 0 }, record { 0 = 0 })
first_scope (CopyIn image sub layout buffer first pitch) = (record { 0 = 0 }, record { 0 = 0 })
first_scope (CopyOut buffer first pitch image sub layout) = (record { 0 = 0 }, record { 0 = 0 })
first_scope (Clear target word) = (record { 0 = 0 }, record { 0 = 0 })
first_scope (Dispatch routine count t0 t1 u0 b0) = (record { 0 = 0 }, record { 0 = 0 })

abbrev pub second_scope : VkCommand → Stages × Accesses
second_scope (Barrier from made to seen change) = (to, seen)
second_scope (Copy to to_first from from_first words) = (record { 0 = 0 }, record { 0 = 0 })
second_scope (CopyImage to to_sub to_layout from from_sub from_layout) = (record { 0 = 0 }, record { 0 = 0 })
second_scope (CopyIn image sub layout buffer first pitch) = (record { 0 = 0 }, record { 0 = 0 })
second_scope (CopyOut buffer first pitch image sub layout) = (record { 0 = 0 }, record { 0 = 0 })
second_scope (Clear target word) = (record { 0 = 0 }, record { 0 = 0 })
second_scope (Dispatch routine count t0 t1 u0 b0) = (record { 0 = 0 }, record { 0 = 0 })

-- work of a part with accesses of a kind lies in a scope: its stage, and each access that it makes
pub record IsInScope (scope : Stages × Accesses) (part : Part) (kind : Kind) : Type 0 where
  pub stage : stands_for_stage scope.0 (stage_of_part part) ≡ true
  pub accesses : (access : Access) → is_made_by kind access ≡ true → stands_for_access scope.1 access ≡ true

-- what the before side of a barrier has lies in the first scope of its lowered form, by its own pair or by its part alone, and
-- what the after side has in the second; and of a legal barrier both scopes have a stage of the device
pub record BarriersKeepTheirScopes : Type 0 where
  pub before : (rs : List (Option Resource)) (barrier : DxBarrier) (part : Part) (kind : Kind) →
      before_has barrier part kind ≡ true → IsInScope (first_scope (lowered_barrier rs barrier)) part kind
  pub covered : (rs : List (Option Resource)) (barrier : DxBarrier) (part : Part) →
      has_part part barrier.sync_before ≡ true → stands_for_stage (first_scope (lowered_barrier rs barrier)).0 (stage_of_part part) ≡ true
  pub after : (rs : List (Option Resource)) (barrier : DxBarrier) (part : Part) (kind : Kind) →
      after_has barrier part kind ≡ true → IsInScope (second_scope (lowered_barrier rs barrier)) part kind
  pub device : (rs : List (Option Resource)) (barrier : DxBarrier) (list : ListType) (shared : Bool) → is_legal barrier list shared ≡ true →
      (meets (first_scope (lowered_barrier rs barrier)).0 (only_stage AllCommands) ≡ true)
      × (meets (second_scope (lowered_barrier rs barrier)).0 (only_stage AllCommands) ≡ true)
