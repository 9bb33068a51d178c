-- The timeline's value is near, so that the others decide.
use Rattle.std.proofs.Common.{◌≡◌, ◌++◌, ◌∙◌, ◌&&◌, Bool, true, List, sym, subst, ap}
use Rattle.std.specs.List.{list_all, flat_map}
use Rattle.vk_sync_rules.specs.Machines.{state_of, is_near_it, sets_left, waits_left}
use Rattle.vk_sync_rules.specs.Progress.{value_in}
use Rattle.vk_sync_rules.specs.Rules.{is_near, pending_sets, pending_waits}
use Rattle.vk_types.specs.declared.batches.Batch.{Batch}
use Rattle.vk_sync_rules.proofs.machine.VkMachine.is_near_all.Goals as goal

pub returns-then-is_near : goal.returns-then-is_near
returns-then-is_near c =
    let progress = c.args.self.now.progress in
    let near : is_near c.args.pair.1 (value_in progress c.args.pair.0) ≡ true = ap (is_near c.args.pair.1) (sym c.value.ensures) ∙ sym c.is_near.ensures ∙ c.if-is_near.true in
    let others = c.all_near.ensures ∙ ap (λ (j : List Batch). list_all (is_near_it c.args.pair) (flat_map (sets_left progress.lanes) j ++ flat_map (waits_left progress.lanes) j)) c.batches.ensures in
    subst (λ (n : Bool). c.all_near.result ≡ (n && list_all (is_near_it c.args.pair) (pending_sets (state_of c.args.self.now) ++ pending_waits (state_of c.args.self.now)))) (sym near) others
