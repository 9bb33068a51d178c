-- What came so far was taken from the source, and is no more than was asked for.
use Rattle.std.proofs.Common.{◌≤◌, ◌-◌, ◌≡◌, vec_len}
use Rattle.std.specs.Option.{is_some}
use Rattle.std.specs.Io.KnownBytes.{Consumes}
use Rattle.text_io.proofs.all.read_all.Given as goal

abbrev pub invariant-loop-chunk : goal.invariant-loop-chunk
invariant-loop-chunk g l = record {
  count : g.S.Source.faults l.initial.source ≤ g.S.Source.faults l.source;
  bound : vec_len l.bytes ≤ l.most;
  told : is_some (g.S.Source.left l.source) ≡ is_some (g.S.Source.left l.initial.source);
  taken : Consumes (g.S.Source.left l.initial.source) (g.S.Source.left l.source) l.bytes.items;
}

abbrev pub decreases-loop-chunk : goal.decreases-loop-chunk
decreases-loop-chunk g l = l.most - vec_len l.bytes
