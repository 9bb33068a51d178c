-- How many steps are left.
use Rattle.std.specs.Prelude.{ℕ, zero, suc, ◌+◌, List, [], ◌∷◌, length}
use Rattle.vk_port.specs.declared.lanes.Lane.{Lane}
use Rattle.vk_port.specs.declared.lanes.Running.{Running}
use Rattle.vk_port.specs.VkState.{VkState}
use Rattle.vk_port.specs.Enabled.{undone}

-- the steps left of unfinished batches, of which so many have passed: a pass, an end, and one for each command
-- that is not done
abbrev pub batches_left : ℕ → List Running → ℕ
batches_left passed [] = 0
batches_left zero (r ∷ rs) = (2 + length (undone r)) + batches_left zero rs
batches_left (suc passed) (r ∷ rs) = (1 + length (undone r)) + batches_left passed rs

-- the steps left of queues
abbrev pub lanes_left : List Lane → ℕ
lanes_left [] = 0
lanes_left (lane ∷ lanes) = batches_left lane.passed lane.batches + lanes_left lanes

-- how many steps can still be taken, where nothing more is submitted
abbrev pub steps_left : VkState → ℕ
steps_left v = lanes_left v.lanes
