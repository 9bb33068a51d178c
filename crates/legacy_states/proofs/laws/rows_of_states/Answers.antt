-- Each row computes.
use Rattle.std.proofs.Common.{refl}
use Rattle.dx_flags.specs.States.{is_valid, state_has}
use Rattle.legacy_states.proofs.laws.rows_of_states.Goals as goal

pub returns : goal.returns
unfolding is_valid state_has
returns c = record {
  no_shader_writes = refl;
  no_constants = refl;
  shared_writes = refl;
  buffer_writes = refl;
  copied_to = refl;
  not_copied_from = refl;
  no_write_joins = refl;
}
