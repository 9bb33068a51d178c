-- The bytes before the place went to the sink.
use Rattle.std.proofs.Common.{◌≤◌, ◌-◌, ◌≡◌, length, take}
use Rattle.std.specs.Option.{is_some}
use Rattle.std.specs.Io.KnownBytes.{Appends}
use Rattle.text_io.proofs.all.write_all.Given as goal

abbrev pub invariant-loop-at : goal.invariant-loop-at
invariant-loop-at g l = record {
  count : g.K.Sink.faults l.initial.sink ≤ g.K.Sink.faults l.sink;
  bound : l.at ≤ length l.bytes;
  told : is_some (g.K.Sink.held l.sink) ≡ is_some (g.K.Sink.held l.initial.sink);
  taken : Appends (g.K.Sink.held l.initial.sink) (g.K.Sink.held l.sink) (take l.at l.bytes);
}

abbrev pub decreases-loop-at : goal.decreases-loop-at
decreases-loop-at g l = length l.bytes - l.at
