use Rattle.d3d_judge.proofs.CoverPlaces.{places_tell, places_tell_first}
use Rattle.d3d_judge.proofs.laws.places_tell_what_is_covered.Goals as goal

pub returns : goal.returns
returns c = record { barriers = places_tell; accesses = places_tell_first }
