-- What is put lies inside the destination.
use Rattle.std.proofs.Common.{◌≡◌, ◌∙◌}
use Rattle.routines.proofs.Counting.{puts_inside}
use Rattle.routines.specs.Puts.{puts_of}
use Rattle.routines.proofs.stores.effect.Goals as goal

pub stores_in-requires-clause-inside : goal.stores_in-requires-clause-inside
stores_in-requires-clause-inside g c =
    let same : c.as_slice.result.now ≡ puts_of c.args.routine c.args.n c.in-Some.view.words c.in_ok-numbers.numbers = c.as_slice.ensures.value ∙ c.in_ok-made.ensures in
    puts_inside c.args.routine c.args.n c.in-Some.view.words c.in_ok-numbers.numbers c.as_slice.result.now same
