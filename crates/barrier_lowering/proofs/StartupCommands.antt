-- The commands of the start-up batch, as they are added.
use Rattle.std.proofs.Common.{ℕ, suc, ◌≡◌, ◌+◌, ◌∙◌, sym, ap, List, [], ◌∷◌, ◌++◌}
use Rattle.std.proofs.lemmas.List.{append_assoc}
use Rattle.vk_types.specs.declared.commands.VkCommand.{VkCommand}
use Rattle.vk_types.specs.declared.layouts.VkLayout.{VkLayout}
use Rattle.barrier_lowering.specs.Startup.{startup_barrier, startup_of_image}

-- behind the barrier of one subresource come those of the others
pub barrier_more : (before : List VkCommand) (image : ℕ) (layout : VkLayout) (sub left more : ℕ) → left ≡ suc more →
    (before ++ startup_barrier image sub layout ∷ []) ++ startup_of_image image layout (sub + 1) more ≡ before ++ startup_of_image image layout sub left
barrier_more before image layout sub left more one =
    append_assoc before (startup_barrier image sub layout ∷ []) (startup_of_image image layout (sub + 1) more)
    ∙ ap (λ n. before ++ startup_of_image image layout sub n) (sym one)
