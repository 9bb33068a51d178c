-- None of the parameters so far covers the register.
use Rattle.std.proofs.Common.{◌≡◌, drop, false}
use Rattle.std.specs.List.{list_any}
use Rattle.root_signature.specs.Places.{places_from}
use Rattle.root_signature.specs.Ranges.{ranges_of}
use Rattle.root_signature.specs.Refusals.{passes_registers}
use Rattle.root_signature.proofs.places.first_place_in.Given as goal

abbrev pub invariant-loop-param : goal.invariant-loop-param
invariant-loop-param l =
    (places_from l.number (drop l.param-index l.params) l.class l.register ≡ places_from 0 l.params l.class l.register)
    × (l.number ≡ l.param-index)
    × (list_any (λ param. list_any passes_registers (ranges_of param)) (drop l.param-index l.params) ≡ false)
