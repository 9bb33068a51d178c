-- The steps so far are clean.
use Rattle.std.proofs.Common.{◌≡◌, ◌+◌, drop}
use Rattle.vk_journal_check.specs.StepChecks.{check_from}
use Rattle.vk_journal_check.proofs.checking.check_all.Given as goal
use Rattle.vk_sync_rules.specs.Machines.{state_of}

abbrev pub invariant-loop-index : goal.invariant-loop-index
invariant-loop-index l =
    check_from (state_of l.initial.machine) 1 l.steps ≡ check_from (state_of l.machine) (l.index + 1) (drop l.index l.steps)
