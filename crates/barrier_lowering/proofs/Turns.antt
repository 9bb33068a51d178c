-- Lists that come one after another, and what layouts decide of them.
use Rattle.std.proofs.Common.{◌≡◌, ◌∙◌, refl, ap, List, [], ◌∷◌, ◌++◌, length, map, suc, Option}
use Rattle.d3d_resources.specs.declared.resources.Resource.{Resource}
use Rattle.vk_types.specs.declared.batches.Batch.{Batch}
use Rattle.vk_types.specs.declared.commands.VkCommand.{VkCommand}
use Rattle.vk_types.specs.declared.layouts.VkLayout.{VkLayout}
use Rattle.barrier_lowering.specs.declared.records.Record.{Record}
use Rattle.barrier_lowering.specs.declared.records.Record.TheVariants.{Copy, CopyTexture, CopyIn, CopyOut, Barrier}
use Rattle.barrier_lowering.specs.Laws.{without_layouts, LayoutsDecideNoMore, ListsComeInTurn}
use Rattle.barrier_lowering.specs.Layouts.{layouts_after_command, layouts_after_commands, layouts_after}
use Rattle.barrier_lowering.specs.Lowering.{lowered_record, lowered_commands}

one_each : (rs : List (Option Resource)) (layouts : List (List VkLayout)) (all : List Record) → length (lowered_commands rs layouts all) ≡ length all
one_each rs layouts [] = refl
one_each rs layouts (what ∷ more) = ap suc (one_each rs (layouts_after_command (lowered_record rs layouts what) layouts) more)

alike_one : (rs : List (Option Resource)) (layouts others : List (List VkLayout)) (what : Record) → without_layouts (lowered_record rs layouts what) ≡ without_layouts (lowered_record rs others what)
alike_one rs layouts others (Copy to to_offset from from_offset bytes) = refl
alike_one rs layouts others (CopyTexture to to_sub from from_sub) = refl
alike_one rs layouts others (CopyIn to sub from offset pitch) = refl
alike_one rs layouts others (CopyOut to offset pitch from sub) = refl
alike_one rs layouts others (Barrier barrier) = refl

alike : (rs : List (Option Resource)) (layouts others : List (List VkLayout)) (all : List Record) →
    map without_layouts (lowered_commands rs layouts all) ≡ map without_layouts (lowered_commands rs others all)
alike rs layouts others [] = refl
alike rs layouts others (what ∷ more) =
    ap (λ c. c ∷ map without_layouts (lowered_commands rs (layouts_after_command (lowered_record rs layouts what) layouts) more)) (alike_one rs layouts others what)
    ∙ ap
    (λ cs. without_layouts (lowered_record rs others what) ∷ cs)
    (alike rs (layouts_after_command (lowered_record rs layouts what) layouts) (layouts_after_command (lowered_record rs others what) others) more)

pub decide_no_more : LayoutsDecideNoMore
decide_no_more = record { one_each = one_each; alike = alike }

lowered_append : (rs : List (Option Resource)) (layouts : List (List VkLayout)) (first second : List Record) →
    lowered_commands rs layouts (first ++ second)
    ≡ lowered_commands rs layouts first ++ lowered_commands rs (layouts_after_commands (lowered_commands rs layouts first) layouts) second
lowered_append rs layouts [] second = refl
lowered_append rs layouts (what ∷ more) second =
    ap (λ cs. lowered_record rs layouts what ∷ cs) (lowered_append rs (layouts_after_command (lowered_record rs layouts what) layouts) more second)

pub after_append : (first second : List VkCommand) (layouts : List (List VkLayout)) →
    layouts_after_commands (first ++ second) layouts ≡ layouts_after_commands second (layouts_after_commands first layouts)
after_append [] second layouts = refl
after_append (command ∷ commands) second layouts = after_append commands second (layouts_after_command command layouts)

after_batch : (bs : List Batch) (b : Batch) (layouts : List (List VkLayout)) → layouts_after (bs ++ b ∷ []) layouts ≡ layouts_after_commands b.commands (layouts_after bs layouts)
after_batch [] b layouts = refl
after_batch (one ∷ bs) b layouts = after_batch bs b (layouts_after_commands one.commands layouts)

pub in_turn : ListsComeInTurn
in_turn = record { commands = lowered_append; layouts = after_append; batches = after_batch }
