-- Why host accesses are refused: the cases of `refusal` for them.
use Rattle.std.specs.Prelude.{ℕ, ◌*◌, ◌==◌, ◌&&◌, not, Option, None}
use Rattle.dx_base.specs.declared.hresult.Hresult.{Hresult}
use Rattle.dx_base.specs.declared.hresult.Hresult.TheVariants.{InvalidArg}
use Rattle.d3d_machine.specs.declared.world.World.{World}
use Rattle.d3d_machine.specs.World.{words_in, is_upload, is_readback, is_inside}
use Rattle.d3d_machine.specs.Replies.{refuse_if}

-- of a write of so many words
abbrev pub write_refusal : World → ℕ → ℕ → ℕ → Option Hresult
write_refusal w b offset words = refuse_if (not (is_upload w b && is_inside (words_in w b) offset (4 * words))) InvalidArg None

-- of a read
abbrev pub read_refusal : World → ℕ → ℕ → ℕ → Option Hresult
read_refusal w b offset bytes = refuse_if (not (is_readback w b && (not (bytes == 0) && is_inside (words_in w b) offset bytes))) InvalidArg None
