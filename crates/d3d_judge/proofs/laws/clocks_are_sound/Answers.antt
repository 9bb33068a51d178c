use Rattle.d3d_judge.proofs.Carried.{sound_all, sound_first}
use Rattle.d3d_judge.specs.Carried.{first_clocks}
use Rattle.d3d_judge.specs.Happenings.{happenings}
use Rattle.d3d_judge.proofs.laws.clocks_are_sound.Goals as goal

pub returns : goal.returns
returns c = record { stay = sound_all; of_histories = λ w h. sound_all (first_clocks w) (happenings w h) (sound_first w) }
