-- A parameter's places and those behind it.
use Rattle.std.proofs.Common.{arith, sym}
use Rattle.std.proofs.lemmas.Bool.{lt-ltb}
use Rattle.root_signature.proofs.Coverage.{more_places}
use Rattle.root_signature.proofs.twice.is_covered_twice.Goals as goal

pub returns-then-found-gt1 : goal.returns-then-found-gt1
returns-then-found-gt1 c =
    let more = more_places c.args.params.now c.loop-param.param-index c.param-item.result c.args.class c.args.register c.loop-param-test.true c.param-item.is in
    sym (lt-ltb 1 _ (omega arith))

pub loop-param-preserved : goal.loop-param-preserved
loop-param-preserved c =
    let more = more_places c.args.params.now c.loop-param.param-index c.param-item.result c.args.class c.args.register c.loop-param-test.true c.param-item.is in
    (omega arith, omega arith)
