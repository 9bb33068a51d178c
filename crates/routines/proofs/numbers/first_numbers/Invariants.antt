-- The numbers of the first words.
use Rattle.std.proofs.Common.{◌≡◌}
use Rattle.routines.specs.Numbers.{first_numbers}
use Rattle.routines.proofs.numbers.first_numbers.Given as goal

abbrev pub invariant-loop-k : goal.invariant-loop-k
invariant-loop-k g l = l.numbers ≡ first_numbers (g.W.WordsOf.number l.memory) l.view l.k
