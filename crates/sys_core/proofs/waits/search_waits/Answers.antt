-- A turn looks at the updates that came for one thread.
use Rattle.std.proofs.Common.{◌≡◌, ◌∙◌, sym, ap, map, length, slice_set}
use Rattle.std.proofs.lemmas.List.{length-map}
use Rattle.sys_core.specs.Parts.{updates_in, place_since}
use Rattle.sys_core.proofs.WaitSearches.{seat_set, seat_same}
use Rattle.sys_core.proofs.waits.search_waits.Goals as goal

pub loop-thread-preserved : goal.loop-thread-preserved
loop-thread-preserved c =
    let places : map place_since (slice_set c.loop-thread.seats c.loop-thread.thread c.searched_seat.result) ≡ map place_since c.args.seats.now =
    seat_same c.loop-thread.seats c.loop-thread.thread c.at-seat.result.now c.searched_seat.result c.at-seat.ensures c.searched_seat.ensures.same ∙ c.loop-thread.invariant.1 in (
      seat_set (map updates_in c.args.fences.now) c.loop-thread.seats c.loop-thread.thread c.searched_seat.result c.loop-thread.invariant.0 c.searched_seat.ensures.searched,
      places,
      sym (length-map (slice_set c.loop-thread.seats c.loop-thread.thread c.searched_seat.result) place_since) ∙ ap length places ∙ length-map c.args.seats.now place_since,
    )
