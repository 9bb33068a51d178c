-- What the commands of an operation's batch do to the memory.
use Rattle.std.proofs.Common.{ℕ, ◌≡◌, ◌∙◌, sym, ap, refl, List, [], ◌∷◌, length, Some, None, Option, true, ◌/◌}
use Rattle.std.specs.List.{list_all, slice_index_or}
use Rattle.std.specs.Option.{is_some}
use Rattle.dx_base.specs.Lists.{changed_at, put, range_of}
use Rattle.dx_base.proofs.Lists.{length_changed, and_both}
use Rattle.d3d_machine.specs.declared.world.World.{World}
use Rattle.d3d_machine.specs.declared.world.Resource.{Resource}
use Rattle.d3d_machine.specs.declared.calls.Record.{Record}
use Rattle.d3d_machine.specs.declared.calls.Record.TheVariants as record_of
use Rattle.d3d_machine.specs.declared.events.Command.{Command}
use Rattle.d3d_machine.specs.declared.events.Operation.{Operation}
use Rattle.d3d_machine.specs.declared.events.Operation.TheVariants.{Execute, Signal}
use Rattle.d3d_machine.specs.World.{resource_of}
use Rattle.d3d_machine.specs.Effects.{after_record, after_commands, memory_after_operation}
use Rattle.d3d_machine.specs.Good.{is_good_record, is_good_command, is_good_operation}
use Rattle.vk_types.specs.declared.commands.VkCommand.{VkCommand}
use Rattle.vk_types.specs.declared.commands.VkCommand.TheVariants.{Barrier, Copy, CopyImage, CopyIn, CopyOut, Clear, Dispatch}
use Rattle.vk_port.specs.After.{after_command}
use Rattle.sys_core.specs.Ahead.{run_commands, held_commands, memory_ahead}
use Rattle.sys_core.specs.Lowering.{plan_buffers, plan_number, lower_record, lower_commands, lowered_commands, trailing}
use Rattle.sys_core.specs.Memory.{memory_of}
use Rattle.sys_core.proofs.Fitting.{IsGoodCopy, good_copy}
use Rattle.sys_core.proofs.Spread.{memory_changed, memory_read}
use Rattle.sys_core.proofs.Undone.{run_append}

-- a command leaves as many buffers
command_length : (c : VkCommand) (ws : List (List ℕ)) → length (after_command c ws) ≡ length ws
command_length (Barrier from made to seen change) ws = refl
command_length (Copy to to_first from from_first count) ws = length_changed (put to_first (range_of from_first count (slice_index_or ws from []))) ws to
command_length (CopyImage to to_sub to_layout from from_sub from_layout) ws = refl
command_length (CopyIn image sub layout buffer first pitch) ws = refl
command_length (CopyOut buffer first pitch image sub layout) ws = refl
command_length (Clear target word) ws = refl
command_length (Dispatch routine count t0 t1 u0 b0) ws = refl

-- commands leave as many buffers
pub run_length : (cs : List VkCommand) (ws : List (List ℕ)) → length (run_commands cs ws) ≡ length ws
run_length [] ws = refl
run_length (c ∷ cs) ws = run_length cs (after_command c ws) ∙ command_length c ws

some_there : (o : Option Resource) → is_some o ≡ true → (r : Resource) × (o ≡ Some r)
some_there None is = absurd (cc)
some_there (Some r) is = (r, refl)

-- a lowered copy does on the device what the copy does in the memory
record_same : (w : World) (what : Record) (ws : List (List ℕ)) → length ws ≡ length (plan_buffers w.resources) → is_good_record w what ≡ true →
    memory_of w (after_command (lower_record w what) ws) ≡ after_record what (memory_of w ws)
record_same w (record_of.Copy d doff s soff bytes) ws long good =
    let is : IsGoodCopy w d.0 doff s.0 soff bytes = good_copy w d.0 doff s.0 soff bytes good in
    let to : (r : Resource) × (resource_of w d.0 ≡ Some r) = some_there (resource_of w d.0) is.to_lives in
    let from : (r : Resource) × (resource_of w s.0 ≡ Some r) = some_there (resource_of w s.0) is.from_lives in
    let copied : List ℕ → List ℕ → List ℕ = λ xs. put (doff / 4) (range_of (soff / 4) (bytes / 4) xs) in
    memory_changed w (copied (slice_index_or ws (plan_number w s.0) [])) d.0 to.0 ws long to.1
    ∙ ap (λ xs. changed_at (copied xs) d.0 (memory_of w ws)) (sym (memory_read w s.0 from.0 ws from.1))

commands_same : (w : World) (cs : List Command) (ws : List (List ℕ)) → length ws ≡ length (plan_buffers w.resources) → list_all (is_good_command w) cs ≡ true →
    memory_of w (run_commands (lower_commands w cs) ws) ≡ after_commands cs (memory_of w ws)
commands_same w [] ws long good = refl
commands_same w (c ∷ cs) ws long good =
    let both : (is_good_command w c ≡ true) × (list_all (is_good_command w) cs ≡ true) = and_both (is_good_command w c) (list_all (is_good_command w) cs) good in
    commands_same w cs (after_command (lower_record w c.what) ws) (command_length (lower_record w c.what) ws ∙ long) both.1
    ∙ ap (after_commands cs) (record_same w c.what ws long both.0)

-- the commands of an operation's batch do what the operation does
pub lowered_is_effect : (w : World) (o : Operation) (ws : List (List ℕ)) → length ws ≡ length (plan_buffers w.resources) → is_good_operation w o ≡ true →
    memory_of w (run_commands (lowered_commands w o) ws) ≡ memory_after_operation (memory_of w ws) (Some o)
lowered_is_effect w (Execute cs) ws long good = ap (memory_of w) (run_append (lower_commands w cs) (trailing ∷ []) ws) ∙ commands_same w cs ws long good
lowered_is_effect w (Signal f v) ws long good = refl

-- the commands of the batches of operations do what the operations do
pub held_is_effect : (w : World) (os : List Operation) (ws : List (List ℕ)) → length ws ≡ length (plan_buffers w.resources) → list_all (is_good_operation w) os ≡ true →
    memory_of w (run_commands (held_commands w os) ws) ≡ memory_ahead os (memory_of w ws)
held_is_effect w [] ws long good = refl
held_is_effect w (o ∷ os) ws long good =
    let both : (is_good_operation w o ≡ true) × (list_all (is_good_operation w) os ≡ true) = and_both (is_good_operation w o) (list_all (is_good_operation w) os) good in
    ap (memory_of w) (run_append (lowered_commands w o) (held_commands w os) ws)
    ∙ held_is_effect w os (run_commands (lowered_commands w o) ws) (run_length (lowered_commands w o) ws ∙ long) both.1
    ∙ ap (memory_ahead os) (lowered_is_effect w o ws long both.0)
