-- How far the work of queues has come.
use Rattle.std.specs.Prelude.{ℕ, ◌≤◌, List, slice_index_or}
use Rattle.vk_sync_rules.specs.declared.progress.Progress.{Progress}
use Rattle.vk_types.specs.declared.batches.Batch.{Batch}

-- all batches that were submitted, oldest first
abbrev pub journal_of : {L : Type 0} → Progress L → List Batch
journal_of progress = progress.journal.items

-- there is room for one batch more
abbrev pub has_room : {L : Type 0} → Progress L → Type 0
has_room progress = 1 ≤ progress.journal.spare

-- the value of a timeline; 0 for one that is not there
abbrev pub value_in : {L : Type 0} → Progress L → ℕ → ℕ
value_in progress timeline = slice_index_or progress.timelines timeline 0
