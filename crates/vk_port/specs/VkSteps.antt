-- The Vulkan machine: the order of commands, the steps that it can take, and the state after each.
pub use Rattle.vk_types.specs.Stages.{copy_stage, compute_stage, whole, meets}
pub use Rattle.vk_port.specs.Orders.{stages_of, waits_for, orders, can_run}
pub use Rattle.vk_port.specs.Enabled.{reached, ready_pass, passes, unmarked, undone, ready_command, batch_commands, lane_commands, commands, all_done, ready_bump, bumps, enabled_steps}
pub use Rattle.vk_port.specs.After.{put, range_of, after_command, after_found, place_of, command_at, with_done, lane_after_run, lane_after_pass, lane_after_bump, sets_of, after_sets, after_step, started, with_batch, lane_after_submit, after_submit}
pub use Rattle.vk_port.specs.Left.{batches_left, lanes_left, steps_left}
pub use Rattle.vk_port.specs.Journal.{of_queue, first_number, number_after, next_number, are_numbered, command_fits, pairs_fit, fits_plan}
