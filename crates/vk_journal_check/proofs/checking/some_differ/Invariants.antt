-- The words so far do not differ.
use Rattle.std.proofs.Common.{◌≡◌, ◌+◌, drop}
use Rattle.vk_journal_check.specs.StepChecks.{some_differ}
use Rattle.vk_journal_check.proofs.checking.some_differ.Given as goal
use Rattle.vk_sync_rules.specs.Machines.{state_of}

abbrev pub invariant-loop-index : goal.invariant-loop-index
invariant-loop-index l =
    some_differ (state_of l.machine) l.buffer l.first l.words ≡ some_differ (state_of l.machine) l.buffer (l.first + l.index) (drop l.index l.words)
