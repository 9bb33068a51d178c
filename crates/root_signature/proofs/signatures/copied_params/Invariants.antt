-- The copies so far, and the parameters left behind them.
use Rattle.std.proofs.Common.{◌≡◌, ◌++◌, drop}
use Rattle.root_signature.proofs.signatures.copied_params.Given as goal

abbrev pub invariant-loop-param : goal.invariant-loop-param
invariant-loop-param l = l.copy ++ drop l.param-index l.params ≡ l.params
