use Rattle.std.proofs.Common.{◌-◌, ◌<◌, length, arith}
use Rattle.std.proofs.lemmas.List.{length-map}
use Rattle.fence_timeline.specs.Runs.{updates_in}
use Rattle.fence_timeline.proofs.Searching.{pass_run, take_run, one_at}
use Rattle.fence_timeline.proofs.runs.first_run.Goals as goal

pub loop-rest-preserved-then-peak-value : goal.loop-rest-preserved-then-peak-value
loop-rest-preserved-then-peak-value c =
    let us = updates_in c.args.entries.now.items in
    let within : c.loop-rest.rest - 1 < length us = omega (arith, length-map c.args.entries.now.items (λ e. e.update)) in
    let last = one_at us (c.loop-rest.rest - 1) within in
    record {
      inside = omega arith;
      found =
          take_run
          _ _ _ _ _ _ c.loop-rest.rest _ last.0 c.loop-rest.found
          c.loop-rest.invariant.found c.run_before-start.ensures.from (omega arith) c.loop-rest.invariant.inside (omega arith) last.1
          c.run_before-start.ensures.peak (omega arith);
    }

pub loop-rest-preserved : goal.loop-rest-preserved
loop-rest-preserved c = record {
  inside = omega arith;
  found =
      pass_run
      _ _ _ _ _ c.loop-rest.rest _ c.loop-rest.found
      c.loop-rest.invariant.found c.run_before-start.ensures.from (omega arith) c.run_before-start.ensures.peak (omega arith);
}
