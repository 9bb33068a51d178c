-- The command at the place, and those behind it.
use Rattle.std.proofs.Common.{◌≡◌, ◌<◌, ◌∙◌, sym, true, false, length, arith}
use Rattle.vk_sync_rules.specs.VkState.{Placed, is_done}
use Rattle.vk_sync_rules.proofs.JournalSteps.{command_first, all_stop, all_go, item_at}
use Rattle.vk_sync_rules.proofs.journal.are_done.Goals as goal

pub returns-then-not-is_done : goal.returns-then-not-is_done
returns-then-not-is_done c =
    let fails : c.is_done.result ≡ false = grind arith in
    let inside : c.loop-i.i < length c.args.commands.now = omega arith in
    let item = item_at c.args.commands.now c.loop-i.i inside in
    all_stop _ _ _ _ c.loop-i.invariant
    (command_first (λ (x : Placed). is_done c.args.done.now c.args.queue x.place) c.args.number c.args.commands.now c.loop-i.i item.0 item.1)
    (sym c.is_done.ensures ∙ fails)

pub loop-i-preserved : goal.loop-i-preserved
loop-i-preserved c =
    let holds : c.is_done.result ≡ true = grind arith in
    let inside : c.loop-i.i < length c.args.commands.now = omega arith in
    let item = item_at c.args.commands.now c.loop-i.i inside in
    all_go _ _ _ _ c.loop-i.invariant
    (command_first (λ (x : Placed). is_done c.args.done.now c.args.queue x.place) c.args.number c.args.commands.now c.loop-i.i item.0 item.1)
    (sym c.is_done.ensures ∙ holds)
