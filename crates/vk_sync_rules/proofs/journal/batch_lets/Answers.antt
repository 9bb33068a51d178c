-- The command at the place, and those behind it.
use Rattle.std.proofs.Common.{◌≡◌, ◌∙◌, sym, true, false, arith}
use Rattle.vk_sync_rules.specs.EnabledSteps.{lets}
use Rattle.vk_sync_rules.proofs.JournalSteps.{command_first, all_stop, all_go}
use Rattle.vk_sync_rules.proofs.journal.batch_lets.Goals as goal

pub returns-then-not-lets : goal.returns-then-not-lets
returns-then-not-lets c =
    let fails : c.lets.result ≡ false = grind arith in
    all_stop _ _ _ _ c.loop-i.invariant
    (command_first (lets c.args.done.now c.args.queue c.args.place c.args.command) c.args.batch.now.number c.args.batch.now.commands c.loop-i.i c.at.result.now c.at.ensures)
    (sym c.lets.ensures ∙ fails)

pub loop-i-preserved : goal.loop-i-preserved
loop-i-preserved c =
    let holds : c.lets.result ≡ true = grind arith in
    all_go _ _ _ _ c.loop-i.invariant
    (command_first (lets c.args.done.now c.args.queue c.args.place c.args.command) c.args.batch.now.number c.args.batch.now.commands c.loop-i.i c.at.result.now c.at.ensures)
    (sym c.lets.ensures ∙ holds)
