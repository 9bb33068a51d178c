-- The search through the commands of a batch, and through the batches of a lane.
use Rattle.std.proofs.Common.{◌≡◌, ℕ, ◌+◌, ◌<◌, ◌≤◌, ◌∙◌, ◌++◌, Bool, true, false, List, [], length, drop, take, min, ap, sym, subst, Some, slice_get}
use Rattle.std.specs.List.{list_all}
use Rattle.vk_port.specs.declared.ahead.Ahead.{Ahead}
use Rattle.vk_types.specs.declared.commands.VkCommand.{VkCommand}
use Rattle.vk_port.specs.declared.found.Found.{Found}
use Rattle.vk_port.specs.declared.found.Found.TheVariants.{At, Left}
use Rattle.vk_port.specs.declared.lanes.Running.{Running}
use Rattle.vk_port.specs.declared.steps.Stepped.{Stepped}
use Rattle.vk_port.specs.declared.steps.Stepped.TheVariants.{Ran}
use Rattle.vk_port.specs.Ahead.{no_ahead, with_command, summary, lets, command_step, batch_steps, lane_steps}
use Rattle.vk_port.specs.DeviceStages.{is_of_device, batch_of_device, is_closed}
use Rattle.vk_port.specs.Enabled.{undone, lane_commands}
use Rattle.vk_port.specs.Found.{found, one_if}
use Rattle.vk_port.proofs.DeviceStages.{closed_batch, closed_lane}
use Rattle.vk_port.proofs.Finding.{found_first, found_second}
use Rattle.vk_port.proofs.Lists.{get_of_take, drop_of_take}
use Rattle.vk_port.proofs.Summing.{steps_turn, lane_turn, lane_same}

module _ (q n k : ℕ) (a : Ahead) (cs : List VkCommand) (done : List Bool) (i : ℕ) (d : Bool) (c : VkCommand)
    (there : slice_get cs i ≡ Some c) (is : slice_get done i ≡ Some d) (marked : d ≡ false)
    (r : Found) (left : ℕ) (start : r ≡ found (batch_steps q n k a (drop i cs) (drop i done)) left) (ready : Bool) (lets_is : ready ≡ lets a c) where
  -- the commands behind this one
  abbrev others : List Stepped
  others = batch_steps q n (k + 1) (with_command a c) (drop (i + 1) cs) (drop (i + 1) done)

  opens : r ≡ found (command_step q n k a c ++ others) left
  opens = start ∙ ap (λ (steps : List Stepped). found steps left) (steps_turn q n k a cs done i d c there is marked)

  -- the search ends at this command
  pub batch_ends : (s : Stepped) → At s ≡ found (one_if ready (Ran q n k)) left → At s ≡ r
  batch_ends s here = found_first (command_step q n k a c) others left r s opens (subst (λ (b : Bool). At s ≡ found (one_if b (Ran q n k)) left) lets_is here)

  -- the search goes on behind this command
  pub batch_goes_on : (rest : ℕ) (next : Ahead) → next ≡ with_command a c → Left rest ≡ found (one_if ready (Ran q n k)) left → r ≡ found (batch_steps q n (k + 1) next (drop (i + 1) cs) (drop (i + 1) done)) rest
  batch_goes_on rest next more here =
      rw more (found_second (command_step q n k a c) others left r rest opens (subst (λ (b : Bool). Left rest ≡ found (one_if b (Ran q n k)) left) lets_is here))

  -- the search is through behind a barrier with every stage of the device behind it
  pub batch_is_through : (rest : ℕ) (next : Ahead) → next ≡ with_command a c → Left rest ≡ found (one_if ready (Ran q n k)) left → is_closed next ≡ true → list_all is_of_device cs ≡ true → Left rest ≡ r
  batch_is_through rest next more here closed each =
      sym (batch_goes_on rest next more here ∙ ap (λ (steps : List Stepped). found steps rest) (closed_batch q n (k + 1) next cs done (i + 1) closed each))

module _ (q : ℕ) (passed : ℕ) (rs : List Running) (k : ℕ) where
  -- what a search through the lane comes to
  abbrev pub lane_found : Found
  lane_found = found (lane_steps q no_ahead (take passed rs)) k

  -- it is the search through the steps of the lane's commands
  pub lane_found_is : (f : Found) → f ≡ lane_found → f ≡ found (lane_commands q [] (take passed rs)) k
  lane_found_is f is = is ∙ ap (λ (steps : List Stepped). found steps k) (lane_same q (take passed rs))

  module _ (a : Ahead) (i : ℕ) (left : ℕ) (start : lane_found ≡ found (lane_steps q a (drop i (take passed rs))) left) where
    module _ (r : Running) (within : i < passed) (is : slice_get rs i ≡ Some r) where
      lane_opens : lane_found ≡ found (batch_steps q r.batch.number 1 a r.batch.commands r.done ++ lane_steps q (summary a (undone r)) (drop (i + 1) (take passed rs))) left
      lane_opens = start ∙ ap (λ (steps : List Stepped). found steps left) (lane_turn q a (take passed rs) i r (get_of_take passed rs i within ∙ is))

      -- the search ends in this batch
      pub lane_ends : (s : Stepped) → At s ≡ found (batch_steps q r.batch.number 1 a r.batch.commands r.done) left → At s ≡ found (lane_commands q [] (take passed rs)) k
      lane_ends s here = lane_found_is (At s) (found_first (batch_steps q r.batch.number 1 a r.batch.commands r.done) (lane_steps q (summary a (undone r)) (drop (i + 1) (take passed rs))) left lane_found s lane_opens here)

      -- the search goes on behind this batch
      pub lane_goes_on : (rest : ℕ) (next : Ahead) → next ≡ summary a (undone r) → Left rest ≡ found (batch_steps q r.batch.number 1 a r.batch.commands r.done) left → lane_found ≡ found (lane_steps q next (drop (i + 1) (take passed rs))) rest
      lane_goes_on rest next more here =
          rw more (found_second (batch_steps q r.batch.number 1 a r.batch.commands r.done) (lane_steps q (summary a (undone r)) (drop (i + 1) (take passed rs))) left lane_found rest lane_opens here)

    -- the search is through behind a barrier with every stage of the device behind it
    pub lane_is_through : is_closed a ≡ true → list_all batch_of_device rs ≡ true → Left left ≡ found (lane_commands q [] (take passed rs)) k
    lane_is_through closed each =
        lane_found_is (Left left) (sym (start ∙ ap (λ (steps : List Stepped). found steps left) (closed_lane q a passed i rs closed each)))

    -- the search is through
    pub lane_through : min passed (length rs) ≤ i → Left left ≡ found (lane_commands q [] (take passed rs)) k
    lane_through end =
        let none : drop i (take passed rs) ≡ [] = drop_of_take passed rs i end in
        lane_found_is (Left left) (sym (start ∙ ap (λ (batches : List Running). found (lane_steps q a batches) left) none))
