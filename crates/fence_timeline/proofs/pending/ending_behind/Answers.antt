use Rattle.std.proofs.Common.{sym, refl, arith, ◌∙◌}
use Rattle.std.proofs.lemmas.Option.{none-some}
use Rattle.fence_timeline.specs.FenceList.{gpu_update}
use Rattle.fence_timeline.specs.declared.update.Update.{Update}
use Rattle.fence_timeline.proofs.PendingList.{joined_end, lone_end, last_own, other_behind}
use Rattle.fence_timeline.proofs.pending.ending_behind.Goals as goal

pub returns-then-is_made_by : goal.returns-then-is_made_by
returns-then-is_made_by c = λ value at.
    joined_end
    c.args.pending.now.items (gpu_update value c.args.queue at) c.in-Some.last c.args.queue c.args.ending _
    c.requires.ends (sym c.in-Some.ensures) (c.is_made_by.ensures.own c.if-is_made_by.true) refl (omega arith)

pub returns-else-is_made_by : goal.returns-else-is_made_by
returns-else-is_made_by c = λ value at.
    other_behind
    c.args.pending.now.items (gpu_update value c.args.queue at) c.in-Some.last c.args.queue
    refl (sym c.in-Some.ensures)
    (c.is_made_by.ensures.other c.if-is_made_by.false _ (last_own _ _ c.in-Some.last c.requires.ends (sym c.in-Some.ensures)))

pub returns-in-None : goal.returns-in-None
returns-in-None c = λ value at.
    lone_end
    c.args.pending.now.items (gpu_update value c.args.queue at) c.args.queue refl
    (λ (x : Update) is. absurd (none-some x (c.in-None.ensures ∙ is)))
