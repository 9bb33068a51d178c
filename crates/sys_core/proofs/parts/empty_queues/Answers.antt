use Rattle.std.proofs.Common.{ℕ, ◌≡◌, ◌<◌, ◌+◌, ◌∙◌, ap, sym, List, [], ◌∷◌, ◌++◌, length, take, map}
use Rattle.std.proofs.lemmas.List.{map-append}
use Rattle.dx_base.proofs.Lists.{same_for_more}
use Rattle.dx_base.specs.declared.kinds.ListType.{ListType}
use Rattle.sys_core.specs.declared.parts.Held.{Held}
use Rattle.sys_core.specs.Parts.{queued, no_queue}
use Rattle.sys_core.proofs.parts.empty_queues.Goals as goal

queues_more : (held more : List Held) (x : Held) (qs : List ListType) (i : ℕ) → more ≡ held ++ x ∷ [] → queued x ≡ no_queue →
    map queued held ≡ map (λ _. no_queue) (take i qs) → i < length qs → map queued more ≡ map (λ _. no_queue) (take (i + 1) qs)
queues_more held more x qs i is empty so_far within =
    ap (map queued) is ∙ map-append queued held (x ∷ []) ∙ ap (λ y. map queued held ++ y ∷ []) empty
    ∙ ap (λ ys. ys ++ no_queue ∷ []) so_far ∙ sym (same_for_more no_queue qs i within)

pub loop-queue-preserved : goal.loop-queue-preserved
loop-queue-preserved c =
    queues_more c.loop-queue.held c.push.new.self c.empty_queue.result c.args.queues.now c.loop-queue.queue-index
    c.in_ok-push.ensures.ok c.empty_queue.ensures c.loop-queue.invariant c.loop-queue-test.true
