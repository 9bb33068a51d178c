use Rattle.std.proofs.Common.{arith}
use Rattle.fence_timeline.proofs.KeptFence.{is_list}
use Rattle.fence_timeline.proofs.FenceCalls.{caught_before, caught_same, kept_after}
use Rattle.fence_timeline.proofs.fence.Fence.catch_up.Goals as goal

pub let_go-requires-clause-fits : goal.let_go-requires-clause-fits
let_go-requires-clause-fits c =
    let it = c.self.inside in
    let now = c.apply_reached.ensures in
    let before = caught_before
    it.id it.base it.ending it.applied c.apply_reached.new.applied it.pending c.apply_reached.new.pending it.waits c.args.counters.now
    c.self.invariant now.applied now.pending now.room
    in
    omega (arith, before.fits)

pub let_go-requires-clause-in_order : goal.let_go-requires-clause-in_order
let_go-requires-clause-in_order c =
    let it = c.self.inside in
    let now = c.apply_reached.ensures in
    let before = caught_before
    it.id it.base it.ending it.applied c.apply_reached.new.applied it.pending c.apply_reached.new.pending it.waits c.args.counters.now
    c.self.invariant now.applied now.pending now.room
    in
    before.in_order

pub invariant_of-self : goal.invariant_of-self
invariant_of-self c =
    let it = c.self.inside in
    let now = c.apply_reached.ensures in
    let before = caught_before
    it.id it.base it.ending it.applied c.apply_reached.new.applied it.pending c.apply_reached.new.pending it.waits c.args.counters.now
    c.self.invariant now.applied now.pending now.room
    in
    kept_after
    it.id it.base c.let_go.new.base it.ending c.apply_reached.new.applied c.let_go.new.applied c.apply_reached.new.pending it.waits
    before c.let_go.ensures.base c.let_go.ensures.applied c.let_go.ensures.room

pub returns-clause-state : goal.returns-clause-state
returns-clause-state c =
    let it = c.self.inside in
    let now = c.apply_reached.ensures in
    let before = caught_before
    it.id it.base it.ending it.applied c.apply_reached.new.applied it.pending c.apply_reached.new.pending it.waits c.args.counters.now
    c.self.invariant now.applied now.pending now.room
    in
    rw (← c.self.view_is) (caught_same
    it.id it.base c.let_go.new.base it.ending it.applied c.apply_reached.new.applied c.let_go.new.applied it.pending c.apply_reached.new.pending it.waits c.args.counters.now
    before now.applied now.pending c.let_go.ensures.base c.let_go.ensures.applied)

pub returns-clause-list : goal.returns-clause-list
returns-clause-list c =
    let it = c.self.inside in
    let now = c.apply_reached.ensures in
    let before = caught_before
    it.id it.base it.ending it.applied c.apply_reached.new.applied it.pending c.apply_reached.new.pending it.waits c.args.counters.now
    c.self.invariant now.applied now.pending now.room
    in
    is_list _ _ _ _ it.ending _ (kept_after
    it.id it.base c.let_go.new.base it.ending c.apply_reached.new.applied c.let_go.new.applied c.apply_reached.new.pending it.waits
    before c.let_go.ensures.base c.let_go.ensures.applied c.let_go.ensures.room)
