-- How many lists record from an allocator.
use Rattle.std.specs.Prelude.{ℕ, ◌≡◌, ◌+◌, ◌-◌, ◌<◌, List, [], ◌∷◌, length, slice_index, Option, Some, None, Bool, true, false}
use Rattle.dx_base.specs.Lists.{changed_at}
use Rattle.dx_base.specs.declared.ids.AllocatorId.{AllocatorId}
use Rattle.d3d_machine.specs.declared.events.Listed.{Listed}
use Rattle.d3d_machine.specs.State.{is_recording}
use Rattle.d3d_machine.specs.Replies.{records_from}

abbrev pub one_if : Bool → ℕ
one_if true = 1
one_if false = 0

-- how many lists record from that allocator
abbrev pub recorders : ℕ → List Listed → ℕ
recorders a [] = 0
recorders a (x ∷ xs) = one_if (records_from a x) + recorders a xs

-- each number is how many lists record from the allocator of that place
pub record CountsRecorders (counts : List ℕ) (lists : List Listed) : Type 0 where
  pub each : (a : ℕ) → a < length counts → slice_index counts a ≡ recorders a lists

abbrev pub allocator_if : Bool → Option AllocatorId → Option AllocatorId
allocator_if true a = a
allocator_if false a = None

-- the allocator that a list is recording from
abbrev pub recorder_of : Listed → Option AllocatorId
recorder_of x = allocator_if (is_recording x) x.allocator

-- the numbers after a list has stopped to record
abbrev pub released : Option AllocatorId → List ℕ → List ℕ
released None counts = counts
released (Some a) counts = changed_at (λ n. n - 1) a.0 counts

-- the numbers after a list has begun to record from an allocator that none records from
abbrev pub taken : ℕ → List ℕ → List ℕ
taken a counts = changed_at (λ _. 1) a counts
