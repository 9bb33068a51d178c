-- The numbers so far.
use Rattle.std.proofs.Common.{◌≡◌, take}
use Rattle.vk_sync_rules.specs.Machines.{known_numbers}
use Rattle.vk_sync_rules.proofs.numbers.all_known.Given as goal

abbrev pub invariant-loop-word : goal.invariant-loop-word
invariant-loop-word l = l.numbers ≡ known_numbers (take l.word-index l.words)
