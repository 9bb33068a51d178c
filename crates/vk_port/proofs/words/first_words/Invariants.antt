-- The words of the buffers so far.
use Rattle.std.proofs.Common.{◌≡◌, map, take}
use Rattle.vk_port.specs.Words.{first_words}
use Rattle.vk_port.proofs.words.first_words.Given as goal

abbrev pub invariant-loop-i : goal.invariant-loop-i
invariant-loop-i l = l.words ≡ map first_words (take l.i l.plan.buffers)
