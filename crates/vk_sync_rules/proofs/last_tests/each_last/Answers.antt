-- The word at the place, and those behind it.
use Rattle.std.proofs.Common.{◌≡◌, ◌∙◌, sym, true, false, arith}
use Rattle.vk_sync_rules.specs.DoneAccesses.{last_write}
use Rattle.vk_sync_rules.specs.Rules.{of_each}
use Rattle.vk_sync_rules.proofs.JournalSteps.{all_stop, all_go}
use Rattle.vk_sync_rules.proofs.Words.{word_first}
use Rattle.vk_sync_rules.proofs.last_tests.each_last.Goals as goal

pub returns-then-not-last_passes : goal.returns-then-not-last_passes
returns-then-not-last_passes g c =
    let fails : c.last_passes.result ≡ false = grind arith in
    all_stop _ _ _ _ c.loop-k.invariant
    (word_first (λ word. of_each (g.T.WriteTest.test c.args.test.now) (last_write c.args.range.resource word c.args.accesses.now)) c.args.range.first c.args.range.count c.loop-k.k c.loop-k-test.true)
    (sym c.last_passes.ensures ∙ fails)

pub loop-k-preserved : goal.loop-k-preserved
loop-k-preserved g c =
    let holds : c.last_passes.result ≡ true = grind arith in
    all_go _ _ _ _ c.loop-k.invariant
    (word_first (λ word. of_each (g.T.WriteTest.test c.args.test.now) (last_write c.args.range.resource word c.args.accesses.now)) c.args.range.first c.args.range.count c.loop-k.k c.loop-k-test.true)
    (sym c.last_passes.ensures ∙ holds)
