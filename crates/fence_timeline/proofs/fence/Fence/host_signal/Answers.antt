use Rattle.std.proofs.Common.{◌<◌, ◌+◌, ◌-◌, ◌^◌, ◌∙◌, ◌++◌, ◌∷◌, [], sym, ap, subst, length, arith, length-append}
use Rattle.fence_timeline.specs.FenceList.{FenceList}
use Rattle.fence_timeline.proofs.KeptFence.{is_list}
use Rattle.fence_timeline.proofs.FenceCalls.{host_before, kept_after}
use Rattle.fence_timeline.proofs.fence.Fence.host_signal.Goals as goal

pub let_go-requires-clause-in_order : goal.let_go-requires-clause-in_order
let_go-requires-clause-in_order c =
    let it = c.self.inside in
    let more =
    c.push_reserved.ensures.items
    ∙ ap (λ us. us ++ c.host-update.result ∷ []) c.reserve.ensures.items
    ∙ ap (λ u. it.applied.items ++ u ∷ []) c.host-update.ensures
    in
    let fits : it.base + length (it.applied.items ++ it.pending.items) < 2 ^ 64 - 1 =
    subst (λ (v : FenceList). v.base + length v.updates < 2 ^ 64 - 1) (sym c.self.view_is) (c.is_full.ensures c.if-is_full.false)
    in
    let before = host_before
    it.id it.base it.ending c.args.value it.applied c.push_reserved.new.self it.pending it.waits c.self.invariant
    more (omega (arith, c.in_ok-reserve.ensures.room, c.push_reserved.ensures.spare)) (omega (arith, fits, length-append it.applied.items it.pending.items))
    in
    before.in_order

pub invariant_of-self-2 : goal.invariant_of-self-2
invariant_of-self-2 c =
    let it = c.self.inside in
    let more =
    c.push_reserved.ensures.items
    ∙ ap (λ us. us ++ c.host-update.result ∷ []) c.reserve.ensures.items
    ∙ ap (λ u. it.applied.items ++ u ∷ []) c.host-update.ensures
    in
    let fits : it.base + length (it.applied.items ++ it.pending.items) < 2 ^ 64 - 1 =
    subst (λ (v : FenceList). v.base + length v.updates < 2 ^ 64 - 1) (sym c.self.view_is) (c.is_full.ensures c.if-is_full.false)
    in
    let before = host_before
    it.id it.base it.ending c.args.value it.applied c.push_reserved.new.self it.pending it.waits c.self.invariant
    more (omega (arith, c.in_ok-reserve.ensures.room, c.push_reserved.ensures.spare)) (omega (arith, fits, length-append it.applied.items it.pending.items))
    in
    kept_after
    it.id it.base c.let_go.new.base it.ending c.push_reserved.new.self c.let_go.new.applied it.pending it.waits
    before c.let_go.ensures.base c.let_go.ensures.applied c.let_go.ensures.room

pub returns-clause-list : goal.returns-clause-list
returns-clause-list c =
    let it = c.self.inside in
    let more =
    c.push_reserved.ensures.items
    ∙ ap (λ us. us ++ c.host-update.result ∷ []) c.reserve.ensures.items
    ∙ ap (λ u. it.applied.items ++ u ∷ []) c.host-update.ensures
    in
    let fits : it.base + length (it.applied.items ++ it.pending.items) < 2 ^ 64 - 1 =
    subst (λ (v : FenceList). v.base + length v.updates < 2 ^ 64 - 1) (sym c.self.view_is) (c.is_full.ensures c.if-is_full.false)
    in
    let before = host_before
    it.id it.base it.ending c.args.value it.applied c.push_reserved.new.self it.pending it.waits c.self.invariant
    more (omega (arith, c.in_ok-reserve.ensures.room, c.push_reserved.ensures.spare)) (omega (arith, fits, length-append it.applied.items it.pending.items))
    in
    is_list _ _ _ _ it.ending _ (kept_after
    it.id it.base c.let_go.new.base it.ending c.push_reserved.new.self c.let_go.new.applied it.pending it.waits
    before c.let_go.ensures.base c.let_go.ensures.applied c.let_go.ensures.room)
