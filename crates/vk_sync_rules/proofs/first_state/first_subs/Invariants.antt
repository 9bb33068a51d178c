-- The subresources so far.
use Rattle.std.proofs.Common.{◌≡◌, ◌*◌, Some, map, replicate}
use Rattle.vk_sync_rules.specs.Numbers.{up_to}
use Rattle.vk_sync_rules.specs.Sizes.{row_words, row_count}
use Rattle.vk_sync_rules.proofs.first_state.first_subs.Given as goal

abbrev pub invariant-loop-sub : goal.invariant-loop-sub
invariant-loop-sub l = l.subs ≡ map (λ s. replicate (row_words l.image s * row_count l.image s) (Some 0)) (up_to 0 l.sub)
