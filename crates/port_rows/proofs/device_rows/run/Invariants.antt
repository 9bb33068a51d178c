-- The plan stays, and the sizes of the buffers.
use Rattle.std.proofs.Common.{◌≡◌, map, length, [], ◌∷◌}
use Rattle.port_rows.proofs.device_rows.run.Given as goal

abbrev pub invariant-loop-choice : goal.invariant-loop-choice
invariant-loop-choice g l =
    ((g.D.VkDevice.view_of l.device).plan ≡ (g.D.VkDevice.view_of l.initial.device).plan)
    × (map length (g.D.VkDevice.view_of l.device).state.numbers.buffers ≡ 4 ∷ 4 ∷ [])
