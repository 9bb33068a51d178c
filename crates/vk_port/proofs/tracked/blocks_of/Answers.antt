-- Each turn counts one block.
use Rattle.std.proofs.Common.{◌≡◌, ◌∷◌, [], length, arith, refl}
use Rattle.std.proofs.lemmas.List.{length-append}
use Rattle.std.proofs.lemmas.Option.{none-some}
use Rattle.vk_port.proofs.Blocks.{blocks_more}
use Rattle.vk_port.proofs.tracked.blocks_of.Goals as goal

pub loop-number-preserved : goal.loop-number-preserved
loop-number-preserved c =
    let long : length c.loop-number.blocks ≡ c.loop-number.number = c.loop-number.invariant.1 in
    let more = length-append c.loop-number.blocks (c.counted-block.result ∷ []) in (
      rw c.in_ok-push.ensures.ok (blocks_more c.args.running.now c.loop-number.blocks c.loop-number.number c.stage_of-stage.result c.counted-block.result long c.loop-number.invariant.0 c.counted-block.ensures),
      rw c.in_ok-push.ensures.ok (omega (arith, long, more)),
    )

pub loop-number-init : goal.loop-number-init
loop-number-init c = rw c.new-blocks.ensures (λ i x is. absurd (none-some x is), refl)
