-- The words of the mips so far.
use Rattle.std.proofs.Common.{◌≡◌, ◌≤◌, ◌*◌}
use Rattle.d3d_resources.specs.Mips.{words_of_mips}
use Rattle.d3d_resources.proofs.mips.mips_words.Given as goal

abbrev pub invariant-loop-mip : goal.invariant-loop-mip
invariant-loop-mip l = record {
  sum : l.words ≡ words_of_mips l.width l.height l.mip;
  bound : l.words ≤ l.mip * (4096 * 4096);
}
