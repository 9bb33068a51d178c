use Rattle.std.proofs.Common.{◌≡◌, map, take}
use Rattle.run_text.proofs.names.copied_lent.Given as goal

abbrev pub invariant-loop-name : goal.invariant-loop-name
invariant-loop-name l = l.copy ≡ map (λ n. n.now) (take l.name-index l.names)
