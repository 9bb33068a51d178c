use Rattle.std.proofs.Common.{ℕ, ◌≡◌, ◌<◌, ◌+◌, ◌∙◌, ap, sym, List, [], ◌∷◌, ◌++◌, length, take, map}
use Rattle.std.proofs.lemmas.List.{map-append}
use Rattle.dx_base.specs.Roomy.{Roomy}
use Rattle.dx_base.specs.declared.kinds.ListType.{ListType}
use Rattle.dx_base.proofs.Lists.{same_for_more}
use Rattle.d3d_machine.specs.declared.events.Operation.{Operation}
use Rattle.d3d_machine.specs.Machine.{operations_in}
use Rattle.d3d_machine.proofs.machine.empty_queues.Goals as goal

queues_more : (called more : List (Roomy Operation)) (x : Roomy Operation) (qs : List ListType) (i : ℕ) → more ≡ called ++ x ∷ [] → x.items ≡ [] →
    map operations_in called ≡ map (λ _. []) (take i qs) → i < length qs → map operations_in more ≡ map (λ _. []) (take (i + 1) qs)
queues_more called more x qs i is empty so_far within =
    ap (map operations_in) is ∙ map-append operations_in called (x ∷ []) ∙ ap (λ y. map operations_in called ++ y ∷ []) empty
    ∙ ap (λ ys. ys ++ [] ∷ []) so_far ∙ sym (same_for_more [] qs i within)

pub loop-queue-preserved : goal.loop-queue-preserved
loop-queue-preserved c =
    queues_more c.loop-queue.called c.push.new.self c.new.result c.args.queues.now c.loop-queue.queue-index
    c.in_ok-push.ensures.ok c.new.ensures c.loop-queue.invariant c.loop-queue-test.true
