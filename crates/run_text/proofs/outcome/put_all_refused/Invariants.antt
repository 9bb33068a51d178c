use Rattle.std.proofs.Common.{◌≡◌, ◌++◌, drop, flat_map}
use Rattle.run_text.specs.Output.{refused_text}
use Rattle.run_text.proofs.outcome.put_all_refused.Given as goal

abbrev pub invariant-loop-place : goal.invariant-loop-place
invariant-loop-place l =
    l.out.items ++ flat_map (refused_text l.names) (drop l.place-index l.places)
    ≡ l.initial.out.items ++ flat_map (refused_text l.names) l.places
