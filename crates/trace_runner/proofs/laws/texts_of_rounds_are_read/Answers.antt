use Rattle.trace_runner.proofs.TextsOfRounds.{rounds_are_read, rounds_have_worlds, first_text}
use Rattle.trace_runner.proofs.laws.texts_of_rounds_are_read.Goals as goal

pub returns : goal.returns
returns c = record { reads = rounds_are_read; worlds = rounds_have_worlds; first = first_text }
