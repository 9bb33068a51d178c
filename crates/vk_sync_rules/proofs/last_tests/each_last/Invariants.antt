-- The words so far do.
use Rattle.std.proofs.Common.{◌≡◌, ◌+◌, ◌-◌}
use Rattle.std.specs.List.{list_all}
use Rattle.vk_sync_rules.specs.DoneAccesses.{last_write}
use Rattle.vk_sync_rules.specs.Numbers.{up_to}
use Rattle.vk_sync_rules.specs.Rules.{of_each, each_last}
use Rattle.vk_sync_rules.proofs.last_tests.each_last.Given as goal

abbrev pub invariant-loop-k : goal.invariant-loop-k
invariant-loop-k g l =
    each_last (g.T.WriteTest.test l.test) l.range l.accesses
    ≡ list_all (λ word. of_each (g.T.WriteTest.test l.test) (last_write l.range.resource word l.accesses)) (up_to (l.range.first + l.k) (l.range.count - l.k))
