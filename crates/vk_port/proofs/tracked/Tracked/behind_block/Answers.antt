-- The block there goes by what is left of it.
use Rattle.std.proofs.Common.{◌≡◌, ◌≤◌, ◌+◌, ◌*◌, ◌/◌, sym, arith}
use Rattle.vk_port.proofs.Blocks.{goes_behind}
use Rattle.vk_port.proofs.tracked.Tracked.behind_block.Goals as goal

pub returns-then-block : goal.returns-then-block
returns-then-block c =
    let place : c.args.at / 32 * 32 ≡ c.args.at = grind (arith, c.if-at-ne0.false) in
    let fits : c.args.at + 32 ≤ 18446744073709551615 = omega arith in
    let kept = c.self.invariant.1 (c.args.at / 32) c.in-Some.block.now (sym c.in-Some.ensures) in
    rw (← c.self.view_is, c.behind.ensures) (goes_behind c.self.inside.running c.args.at c.args.ahead c.args.left c.in-Some.block.now (rw place at kept) c.if-block.true fits)
