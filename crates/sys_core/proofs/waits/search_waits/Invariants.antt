-- The places look as before, and what was found of each wait tells whether it is met.
use Rattle.std.proofs.Common.{◌≡◌, map, length}
use Rattle.sys_core.specs.Parts.{updates_in, place_since}
use Rattle.sys_core.specs.WaitSearches.{AreSearched}
use Rattle.sys_core.proofs.waits.search_waits.Given as goal

abbrev pub invariant-loop-thread : goal.invariant-loop-thread
invariant-loop-thread l =
    AreSearched (map updates_in l.fences) l.seats × (map place_since l.seats ≡ map place_since l.initial.seats) × (length l.seats ≡ length l.initial.seats)
