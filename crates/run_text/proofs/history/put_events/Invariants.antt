use Rattle.std.proofs.Common.{◌≡◌, ◌++◌, drop, flat_map}
use Rattle.run_text.specs.History.{event_text}
use Rattle.run_text.proofs.history.put_events.Given as goal

abbrev pub invariant-loop-event : goal.invariant-loop-event
invariant-loop-event l =
    l.out.items ++ flat_map (event_text l.names) (drop l.event-index l.history)
    ≡ l.initial.out.items ++ flat_map (event_text l.names) l.history
