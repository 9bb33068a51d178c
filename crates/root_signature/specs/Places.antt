-- Where registers lie in root signatures.
use Rattle.std.specs.Prelude.{ℕ, ◌+◌, ◌-◌, cond, List, [], ◌∷◌, ◌++◌}
use Rattle.dx_base.specs.declared.kinds.Class.{Class}
use Rattle.root_signature.specs.declared.params.Param.{Param}
use Rattle.root_signature.specs.declared.places.Place.{Place}
use Rattle.root_signature.specs.declared.ranges.Range.{Range}
use Rattle.root_signature.specs.Ranges.{covers, ranges_of}

-- the place at which the first range of a parameter begins
abbrev pub first_place : ℕ → Place
first_place param = record { param = param; range = 0; slot = 0 }

-- the place at which the next range begins: a table's ranges take consecutive slots
abbrev pub next_place : Place → Range → Place
next_place start range = record { param = start.param; range = start.range + 1; slot = start.slot + range.count }

-- the places of a register of a class in a range that begins at a place: one, if the range covers it
abbrev pub places_in_range : Place → Range → Class → ℕ → List Place
places_in_range start range class register =
    cond (covers range class register)
    (record { param = start.param; range = start.range; slot = start.slot + (register - range.register) } ∷ []) []

-- the places in ranges, of which the first begins at a place
abbrev pub places_in_ranges : Place → List Range → Class → ℕ → List Place
places_in_ranges start [] class register = []
places_in_ranges start (range ∷ ranges) class register =
    places_in_range start range class register ++ places_in_ranges (next_place start range) ranges class register

-- the places in a parameter of that number
abbrev pub places_in_param : ℕ → Param → Class → ℕ → List Place
places_in_param number param class register = places_in_ranges (first_place number) (ranges_of param) class register

-- the places in parameters, of which the first has that number
abbrev pub places_from : ℕ → List Param → Class → ℕ → List Place
places_from number [] class register = []
places_from number (param ∷ params) class register =
    places_in_param number param class register ++ places_from (number + 1) params class register

-- all places of a register of a class in a signature's parameters
abbrev pub places_of : List Param → Class → ℕ → List Place
places_of params class register = places_from 0 params class register
