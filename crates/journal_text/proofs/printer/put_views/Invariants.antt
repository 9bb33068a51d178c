-- The rest is still to be printed.
use Rattle.std.proofs.Common.{◌≡◌, ◌++◌, drop, flat_map}
use Rattle.journal_text.specs.Printing.{view_text}
use Rattle.journal_text.proofs.printer.put_views.Given as goal

abbrev pub invariant-loop-view : goal.invariant-loop-view
invariant-loop-view l = l.out.items ++ flat_map view_text (drop l.view-index l.views) ≡ l.initial.out.items ++ flat_map view_text l.views
