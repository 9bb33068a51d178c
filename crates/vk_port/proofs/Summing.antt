-- The commands that are not done, one by one and summed up.
use Rattle.std.proofs.Common.{◌≡◌, ℕ, ◌+◌, ◌<◌, ◌≤◌, ◌==◌, Bool, true, false, not, ◌&&◌, List, [], ◌∷◌, ◌++◌, length, drop, refl, sym, Some, slice_get, arith, inl, inr, min, bit_and, bit_or}
use Rattle.std.proofs.Math.ListN.{drop_of_length-le}
use Rattle.std.proofs.Math.Bool.{and_assoc, and-true}
use Rattle.std.proofs.lemmas.Bool.{cases_lt}
use Rattle.vk_port.specs.declared.ahead.Ahead.{Ahead}
use Rattle.vk_types.specs.declared.commands.VkCommand.{VkCommand}
use Rattle.vk_types.specs.declared.commands.VkCommand.TheVariants.{Barrier, Copy, CopyImage, CopyIn, CopyOut, Clear, Dispatch}
use Rattle.vk_port.specs.declared.lanes.Running.{Running}
use Rattle.vk_port.specs.Ahead.{no_ahead, with_stages, with_command, summary, lets_stages, lets, command_step, batch_steps, lane_steps}
use Rattle.vk_port.specs.Enabled.{unmarked, undone, batch_commands, lane_commands}
use Rattle.vk_port.specs.Orders.{stages_of, waits_for, orders, can_run}
use Rattle.vk_types.specs.declared.stages.Stages.{Stages}
use Rattle.vk_types.specs.Stages.{whole, meets, copy_stage, compute_stage}
use Rattle.vk_port.proofs.Bits.{or_apart}
use Rattle.vk_port.proofs.Lists.{item_at, opened}

-- a command that is done is passed over
pub steps_skip : (q n k : ℕ) (a : Ahead) (cs : List VkCommand) (done : List Bool) (i : ℕ) (d : Bool) → i < length cs → slice_get done i ≡ Some d → d ≡ true →
    batch_steps q n k a (drop i cs) (drop i done) ≡ batch_steps q n (k + 1) a (drop (i + 1) cs) (drop (i + 1) done)
steps_skip q n k a cs done i d within is marked =
    let c : (c : VkCommand) × (slice_get cs i ≡ Some c) = item_at cs i within in
    rw (opened cs i c.0 c.1, opened done i d is, marked) refl

-- a command that is not done is next
pub steps_turn : (q n k : ℕ) (a : Ahead) (cs : List VkCommand) (done : List Bool) (i : ℕ) (d : Bool) (c : VkCommand) → slice_get cs i ≡ Some c → slice_get done i ≡ Some d → d ≡ false →
    batch_steps q n k a (drop i cs) (drop i done) ≡ command_step q n k a c ++ batch_steps q n (k + 1) (with_command a c) (drop (i + 1) cs) (drop (i + 1) done)
steps_turn q n k a cs done i d c there is marked = rw (opened cs i c there, opened done i d is, marked) refl

-- behind the last mark there is no step
pub steps_unmarked : (q n k : ℕ) (a : Ahead) (cs : List VkCommand) → batch_steps q n k a cs [] ≡ []
steps_unmarked q n k a [] = refl
steps_unmarked q n k a (c ∷ cs) = refl

-- behind the last command there is no step
pub steps_end : (q n k : ℕ) (a : Ahead) (cs : List VkCommand) (done : List Bool) (i : ℕ) → min (length cs) (length done) ≤ i → batch_steps q n k a (drop i cs) (drop i done) ≡ []
steps_end q n k a cs done i end =
    elim (cases_lt i (length cs)) as (λ _. batch_steps q n k a (drop i cs) (drop i done) ≡ []) [
      | inl h ↦ let past : length done ≤ i = omega (arith, end, h) in rw (drop_of_length-le done {i = i} past) (steps_unmarked q n k a (drop i cs))
      | inr h ↦ rw (drop_of_length-le cs {i = i} h) refl
    ]

-- a command that is done is not summed up
pub summary_skip : (a : Ahead) (cs : List VkCommand) (done : List Bool) (i : ℕ) (d : Bool) → i < length cs → slice_get done i ≡ Some d → d ≡ true →
    summary a (unmarked (drop i cs) (drop i done)) ≡ summary a (unmarked (drop (i + 1) cs) (drop (i + 1) done))
summary_skip a cs done i d within is marked =
    let c : (c : VkCommand) × (slice_get cs i ≡ Some c) = item_at cs i within in
    rw (opened cs i c.0 c.1, opened done i d is, marked) refl

-- a command that is not done is
pub summary_turn : (a : Ahead) (cs : List VkCommand) (done : List Bool) (i : ℕ) (d : Bool) (c : VkCommand) → slice_get cs i ≡ Some c → slice_get done i ≡ Some d → d ≡ false →
    summary a (unmarked (drop i cs) (drop i done)) ≡ summary (with_command a c) (unmarked (drop (i + 1) cs) (drop (i + 1) done))
summary_turn a cs done i d c there is marked = rw (opened cs i c there, opened done i d is, marked) refl

-- behind the last mark no command is left
pub unmarked_none : (cs : List VkCommand) → unmarked cs [] ≡ []
unmarked_none [] = refl
unmarked_none (c ∷ cs) = refl

-- behind the last command there is none to sum up
pub summary_end : (a : Ahead) (cs : List VkCommand) (done : List Bool) (i : ℕ) → min (length cs) (length done) ≤ i → summary a (unmarked (drop i cs) (drop i done)) ≡ a
summary_end a cs done i end =
    elim (cases_lt i (length cs)) as (λ _. summary a (unmarked (drop i cs) (drop i done)) ≡ a) [
      | inl h ↦ let past : length done ≤ i = omega (arith, end, h) in rw (drop_of_length-le done {i = i} past, unmarked_none (drop i cs)) refl
      | inr h ↦ rw (drop_of_length-le cs {i = i} h) refl
    ]

-- tests in another order
first_two : (a t : Bool) → (a && t) ≡ (a && not (not t))
first_two a true = refl
first_two a false = refl

turned_inside : (a t b : Bool) → ((a && t) && b) ≡ ((a && b) && not (not t))
turned_inside true true b = sym (and-true b)
turned_inside true false true = refl
turned_inside true false false = refl
turned_inside false t b = refl

moved_out : (a b t : Bool) → (a && (b && t)) ≡ ((a && b) && not (not t))
moved_out true b t = first_two b t
moved_out false b t = refl

module _ (a : Ahead) where
  -- a barrier more, before a command of these stages that is no barrier
  barrier_before : (to stages : Stages) → lets_stages (record a { to = bit_or a.to (whole to) }) stages ≡ (lets_stages a stages && not (meets to stages))
  barrier_before to stages = rw (or_apart a.to (whole to) (whole stages)) (first_two (bit_and a.to (whole stages) == 0) (bit_and (whole to) (whole stages) == 0))

  -- a barrier more holds back what it orders
  barrier_with : (to : Stages) (c : VkCommand) → lets (record a { to = bit_or a.to (whole to) }) c ≡ (lets a c && not (meets to (stages_of c)))
  barrier_with to (Barrier from made to2 seen change) =
      rw (or_apart (bit_or a.to (whole to)) a.by (whole from), or_apart a.to (whole to) (whole from), or_apart a.to a.by (whole from))
      (turned_inside (bit_and a.to (whole from) == 0) (bit_and (whole to) (whole from) == 0) (bit_and a.by (whole from) == 0))
  barrier_with to (Copy to2 to_first from from_first words) = barrier_before to copy_stage
  barrier_with to (CopyImage to2 to_sub to_layout from from_sub from_layout) = barrier_before to copy_stage
  barrier_with to (CopyIn image sub layout buffer first pitch) = barrier_before to copy_stage
  barrier_with to (CopyOut buffer first pitch image sub layout) = barrier_before to copy_stage
  barrier_with to (Clear target word) = barrier_before to compute_stage
  barrier_with to (Dispatch routine count t0 t1 u0 b0) = barrier_before to compute_stage

  -- a command more that is no barrier holds back what waits for its stages
  stages_with : (stages : Stages) (c : VkCommand) → lets (with_stages a stages) c ≡ (lets a c && not (waits_for c stages))
  stages_with stages (Barrier from made to seen change) =
      rw (or_apart a.to (bit_or a.by (whole stages)) (whole from), or_apart a.by (whole stages) (whole from), or_apart a.to a.by (whole from))
      (moved_out (bit_and a.to (whole from) == 0) (bit_and a.by (whole from) == 0) (bit_and (whole stages) (whole from) == 0))
  stages_with stages (Copy to to_first from from_first words) = sym (and-true (lets_stages a copy_stage))
  stages_with stages (CopyImage to to_sub to_layout from from_sub from_layout) = sym (and-true (lets_stages a copy_stage))
  stages_with stages (CopyIn image sub layout buffer first pitch) = sym (and-true (lets_stages a copy_stage))
  stages_with stages (CopyOut buffer first pitch image sub layout) = sym (and-true (lets_stages a copy_stage))
  stages_with stages (Clear target word) = sym (and-true (lets_stages a compute_stage))
  stages_with stages (Dispatch routine count t0 t1 u0 b0) = sym (and-true (lets_stages a compute_stage))

-- one more command that is not done holds back what it orders
lets_with : (a : Ahead) (e c : VkCommand) → lets (with_command a e) c ≡ (lets a c && not (orders e c))
lets_with a (Barrier from made to seen change) c = barrier_with a to c
lets_with a (Copy to to_first from from_first words) c = stages_with a copy_stage c
lets_with a (CopyImage to to_sub to_layout from from_sub from_layout) c = stages_with a copy_stage c
lets_with a (CopyIn image sub layout buffer first pitch) c = stages_with a copy_stage c
lets_with a (CopyOut buffer first pitch image sub layout) c = stages_with a copy_stage c
lets_with a (Clear target word) c = stages_with a compute_stage c
lets_with a (Dispatch routine count t0 t1 u0 b0) c = stages_with a compute_stage c

-- what is summed up lets a command run just where the commands themselves do
lets_after : (a : Ahead) (before : List VkCommand) (c : VkCommand) → lets (summary a before) c ≡ (lets a c && can_run before c)
lets_after a [] c = sym (and-true (lets a c))
lets_after a (e ∷ es) c =
    rw (lets_after (with_command a e) es c, lets_with a e c) (and_assoc (lets a c) (not (orders e c)) (can_run es c))

-- nothing is held back at first
lets_first : (c : VkCommand) → lets no_ahead c ≡ true
lets_first (Barrier from made to seen change) = refl
lets_first (Copy to to_first from from_first words) = refl
lets_first (CopyImage to to_sub to_layout from from_sub from_layout) = refl
lets_first (CopyIn image sub layout buffer first pitch) = refl
lets_first (CopyOut buffer first pitch image sub layout) = refl
lets_first (Clear target word) = refl
lets_first (Dispatch routine count t0 t1 u0 b0) = refl

-- the commands of a list, summed up, let a command run just where they do themselves
pub lets_is : (before : List VkCommand) (c : VkCommand) → lets (summary no_ahead before) c ≡ can_run before c
lets_is before c = rw (lets_after no_ahead before c, lets_first c) refl

-- one more command summed up
summary_more : (a : Ahead) (before : List VkCommand) (c : VkCommand) → with_command (summary a before) c ≡ summary a (before ++ c ∷ [])
summary_more a [] c = refl
summary_more a (e ∷ es) c = summary_more (with_command a e) es c

-- more commands summed up
summary_append : (a : Ahead) (before more : List VkCommand) → summary (summary a before) more ≡ summary a (before ++ more)
summary_append a [] more = refl
summary_append a (e ∷ es) more = summary_append (with_command a e) es more

-- the steps of a batch's commands, by the commands before it
batch_same : (q n k : ℕ) (before : List VkCommand) (cs : List VkCommand) (done : List Bool) →
    batch_steps q n k (summary no_ahead before) cs done ≡ batch_commands q n k before cs done
batch_same q n k before [] done = refl
batch_same q n k before (c ∷ cs) [] = refl
batch_same q n k before (c ∷ cs) (true ∷ done) = batch_same q n (k + 1) before cs done
batch_same q n k before (c ∷ cs) (false ∷ done) =
    rw (lets_is before c, summary_more no_ahead before c, batch_same q n (k + 1) (before ++ c ∷ []) cs done) refl

-- the steps of a lane's commands, by the commands before them
lanes_same : (q : ℕ) (before : List VkCommand) (rs : List Running) → lane_steps q (summary no_ahead before) rs ≡ lane_commands q before rs
lanes_same q before [] = refl
lanes_same q before (r ∷ rs) =
    rw (batch_same q r.batch.number 1 before r.batch.commands r.done, summary_append no_ahead before (undone r), lanes_same q (before ++ undone r) rs) refl

-- the steps of a lane's commands
pub lane_same : (q : ℕ) (rs : List Running) → lane_steps q no_ahead rs ≡ lane_commands q [] rs
lane_same q rs = lanes_same q [] rs

-- the steps of the batches from a place on are those of the batch there and those of the others
pub lane_turn : (q : ℕ) (a : Ahead) (rs : List Running) (i : ℕ) (r : Running) → slice_get rs i ≡ Some r →
    lane_steps q a (drop i rs) ≡ batch_steps q r.batch.number 1 a r.batch.commands r.done ++ lane_steps q (summary a (undone r)) (drop (i + 1) rs)
lane_turn q a rs i r is = rw (opened rs i r is) refl
