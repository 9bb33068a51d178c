-- A lemma for each thing that is done.
use Rattle.vk_port.proofs.Matching.{first_matches, step_matches, submit_matches}
use Rattle.vk_port.proofs.laws.states_keep_their_objects.Goals as goal

pub returns : goal.returns
returns c = record { at_first = first_matches; steps = step_matches; submissions = submit_matches }
