-- None of the ranges so far covers the register, and the next one begins at the place that is kept.
use Rattle.std.proofs.Common.{◌≡◌, ◌≤◌, ◌*◌, drop, false}
use Rattle.std.specs.List.{list_any}
use Rattle.root_signature.specs.Places.{first_place, places_in_ranges}
use Rattle.root_signature.specs.Refusals.{passes_registers}
use Rattle.root_signature.proofs.places.place_in_ranges.Given as goal

abbrev pub invariant-loop-range : goal.invariant-loop-range
invariant-loop-range l =
    (places_in_ranges l.start (drop l.range-index l.ranges) l.class l.register ≡ places_in_ranges (first_place l.fn.param) l.ranges l.class l.register)
    × (l.start.range ≡ l.range-index)
    × (l.start.slot ≤ 64 * l.range-index)
    × (list_any passes_registers (drop l.range-index l.ranges) ≡ false)
