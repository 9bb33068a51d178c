-- One access more.
use Rattle.std.proofs.Common.{◌∙◌, sym, ap}
use Rattle.std.specs.Option.{option_copied}
use Rattle.vk_sync_rules.proofs.LastFound.{last_here, last_before}
use Rattle.vk_sync_rules.proofs.last_writes.last_write.Goals as goal
use Rattle.vk_sync_rules.proofs.last_writes.last_write.Goals.{then-does_write, else-does_write}

pub loop-access-preserved : goal.loop-access-preserved
loop-access-preserved c = elim c.if-does_write.branch [
  | then-does_write w ↦
      ap option_copied w.found-is
      ∙ sym (last_here c.args.resource c.args.word c.args.accesses.now c.loop-access.access-index c.access-item.result c.loop-access-test.true c.access-item.is (sym c.does_write.ensures ∙ w.if-does_write.true))
  | else-does_write w ↦
      ap option_copied w.found-is ∙ c.loop-access.invariant
      ∙ sym (last_before c.args.resource c.args.word c.args.accesses.now c.loop-access.access-index c.access-item.result c.loop-access-test.true c.access-item.is (sym c.does_write.ensures ∙ w.if-does_write.false))
]
