use Rattle.fence_timeline.proofs.KeptFence.{is_list}
use Rattle.fence_timeline.proofs.FenceCalls.{done_before, done_same, kept_after}
use Rattle.fence_timeline.proofs.fence.Fence.done.Goals as goal

pub let_go-requires-clause-in_order : goal.let_go-requires-clause-in_order
let_go-requires-clause-in_order c =
    let it = c.self.inside in
    (done_before it.id it.base it.ending c.args.wait.number it.applied it.pending it.waits c.done.new.self c.self.invariant c.done.ensures).in_order

pub invariant_of-self : goal.invariant_of-self
invariant_of-self c =
    let it = c.self.inside in
    kept_after
    it.id it.base c.let_go.new.base it.ending it.applied c.let_go.new.applied it.pending c.done.new.self
    (done_before it.id it.base it.ending c.args.wait.number it.applied it.pending it.waits c.done.new.self c.self.invariant c.done.ensures)
    c.let_go.ensures.base c.let_go.ensures.applied c.let_go.ensures.room

pub returns-clause-state : goal.returns-clause-state
returns-clause-state c =
    let it = c.self.inside in
    rw (← c.self.view_is) (done_same
    it.id it.base c.let_go.new.base it.ending it.applied c.let_go.new.applied it.pending c.args.wait it.waits c.done.new.self
    (done_before it.id it.base it.ending c.args.wait.number it.applied it.pending it.waits c.done.new.self c.self.invariant c.done.ensures)
    c.done.ensures c.let_go.ensures.base c.let_go.ensures.applied)

pub returns-clause-list : goal.returns-clause-list
returns-clause-list c =
    let it = c.self.inside in
    is_list _ _ _ _ it.ending _ (kept_after
    it.id it.base c.let_go.new.base it.ending it.applied c.let_go.new.applied it.pending c.done.new.self
    (done_before it.id it.base it.ending c.args.wait.number it.applied it.pending it.waits c.done.new.self c.self.invariant c.done.ensures)
    c.let_go.ensures.base c.let_go.ensures.applied c.let_go.ensures.room)
