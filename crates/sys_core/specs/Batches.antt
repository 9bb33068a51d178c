-- The batch of an operation on the one queue of a world.
use Rattle.std.specs.Prelude.{ℕ, ◌/◌, ◌^◌, ◌&&◌, nat_lt, List, [], ◌∷◌, length, Bool, true}
use Rattle.std.specs.List.{list_all}
use Rattle.d3d_machine.specs.declared.world.World.{World}
use Rattle.d3d_machine.specs.World.{is_named_record}
use Rattle.d3d_machine.specs.declared.calls.Record.{Record}
use Rattle.d3d_machine.specs.declared.calls.Record.TheVariants.{Copy}
use Rattle.d3d_machine.specs.declared.events.Operation.{Operation}
use Rattle.d3d_machine.specs.declared.events.Operation.TheVariants.{Execute, Signal}
use Rattle.vk_types.specs.declared.batches.Batch.{Batch}
use Rattle.sys_core.specs.Lowering.{lowered_commands, own_wait}

-- the waits of an operation's batch, where there is no other queue
abbrev pub waits_by : ℕ → ℕ → ℕ → Operation → List (ℕ × ℕ)
waits_by first q last (Execute cs) = (first, 1) ∷ own_wait q last
waits_by first q last (Signal f v) = []

-- the batch of operation n of a queue, behind a last signal of that number, where there is no other queue
abbrev pub batch_by : World → ℕ → ℕ → ℕ → Operation → Batch
batch_by w q n last o = record {
  queue = q;
  number = n;
  waits = waits_by (length w.queues) q last o;
  commands = lowered_commands w o;
  sets = (q, n) ∷ [];
}

-- the words of a copy are numbered by 32 bits
abbrev pub is_small_record : Record → Bool
is_small_record (Copy d doff s soff bytes) = nat_lt (doff / 4) (2 ^ 32) && (nat_lt (soff / 4) (2 ^ 32) && nat_lt (bytes / 4) (2 ^ 32))

-- a recorded command has its numbers: it names resources of the world, and its words are numbered by 32 bits
abbrev pub is_numbered_record : World → Record → Bool
is_numbered_record w what = is_named_record w what && is_small_record what

-- the recorded commands of an operation have their numbers
abbrev pub is_numbered_operation : World → Operation → Bool
is_numbered_operation w (Execute cs) = list_all (λ c. is_numbered_record w c.what) cs
is_numbered_operation w (Signal f v) = true
