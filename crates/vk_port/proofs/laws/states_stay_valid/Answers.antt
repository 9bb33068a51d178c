-- A lemma for each thing that is done.
use Rattle.vk_port.proofs.Valid.{first_valid, step_valid, submit_valid}
use Rattle.vk_port.proofs.laws.states_stay_valid.Goals as goal

pub returns : goal.returns
returns c = record { at_first = first_valid; steps = step_valid; submissions = submit_valid }
