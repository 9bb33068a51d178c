-- The search for a step at a place of a list of steps.
use Rattle.std.specs.Prelude.{ℕ, zero, suc, Bool, List, [], ◌∷◌, if◌then◌else◌}
use Rattle.vk_port.specs.declared.found.Found.{Found}
use Rattle.vk_port.specs.declared.found.Found.TheVariants.{At, Left}
use Rattle.vk_port.specs.declared.steps.Stepped.{Stepped}

-- the step at a place, or how many places are left behind the list
abbrev pub found : List Stepped → ℕ → Found
found [] k = Left k
found (x ∷ xs) zero = At x
found (x ∷ xs) (suc k) = found xs k

-- the search went on into a further list
abbrev pub found_on : Found → List Stepped → Found
found_on (At x) xs = At x
found_on (Left k) xs = found xs k

-- one step, or none
abbrev pub one_if : Bool → Stepped → List Stepped
one_if ready x = if ready then x ∷ [] else []
