-- The rest is still to be printed.
use Rattle.std.proofs.Common.{◌≡◌, ◌++◌, drop, flat_map}
use Rattle.journal_text.specs.Printing.{image_text}
use Rattle.journal_text.proofs.printer.put_images.Given as goal

abbrev pub invariant-loop-image : goal.invariant-loop-image
invariant-loop-image l = l.out.items ++ flat_map image_text (drop l.image-index l.images) ≡ l.initial.out.items ++ flat_map image_text l.images
