use Rattle.fence_timeline.specs.FenceList.{pending_of}
use Rattle.table_rows.proofs.WaitedFences.{have_two, waited_caught}
use Rattle.table_rows.proofs.fence_rows.catch.Goals as goal

pub catch_up-requires : goal.catch_up-requires
catch_up-requires c = have_two c.args.counters.now (pending_of c.args.fence.now) c.requires.two c.requires.waited.two

pub returns : goal.returns
returns c =
    waited_caught
    c.args.fence.now c.catch_up.new.self c.args.wait.now c.args.counters.now c.catch_up.ensures.state c.catch_up.ensures.list
    c.requires.waited
