-- What the tests submit.
use Rattle.std.specs.Prelude.{ℕ, [], ◌∷◌, None}
use Rattle.dx_base.specs.declared.kinds.Home.TheVariants.{Upload, Readback}
use Rattle.vk_types.specs.declared.batches.Batch.{Batch}
use Rattle.vk_types.specs.declared.commands.VkCommand.TheVariants.{Barrier, Copy}
use Rattle.vk_types.specs.declared.plan.DevicePlan.{DevicePlan}

-- two buffers of four words, with so many queues, and a timeline for each
abbrev pub two_buffers : ℕ → DevicePlan
two_buffers queues = record {
  buffers = record { words = 4; home = Upload } ∷ record { words = 4; home = Readback } ∷ [];
  images = [];
  heaps = [];
  views = [];
  queues = queues;
  timelines = queues;
}

-- a copy of two words between two barriers
abbrev pub one_copy : ℕ → ℕ → ℕ → Batch
one_copy queue number first = record {
  queue = queue;
  number = number;
  waits = [];
  commands = Barrier (record { 0 = 1 }) (record { 0 = 2 }) (record { 0 = 4 }) (record { 0 = 64 }) None ∷ Copy 1 first 0 first 2
      ∷ Barrier (record { 0 = 4 }) (record { 0 = 128 }) (record { 0 = 8 }) (record { 0 = 256 }) None ∷ [];
  sets = (queue, 1) ∷ [];
}
