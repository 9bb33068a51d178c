-- Each turn counts one command.
use Rattle.std.proofs.Common.{◌≡◌, ◌+◌, ◌-◌, ◌<◌, ◌==◌, ◌∙◌, ◌&&◌, nat_lt, List, length, sym, ap, arith, drop, refl}
use Rattle.std.proofs.Math.Bool.{and_assoc, and-true}
use Rattle.vk_types.specs.declared.commands.VkCommand.{VkCommand}
use Rattle.vk_port.specs.Blocks.{unmarked_in, undone_in, are_alike}
use Rattle.vk_port.specs.Fronts.{work_bits}
use Rattle.vk_port.proofs.Blocks.{rest_skip, rest_turn, rest_over}
use Rattle.vk_port.proofs.tracked.Block.counted.Goals as goal

pub loop-i-preserved-then-at : goal.loop-i-preserved-then-at
loop-i-preserved-then-at c =
    let within : c.loop-i.i < length c.args.running.now.batch.commands = omega arith in
    let less : c.loop-i.i < c.args.start + 32 = omega arith in
    let skip = rest_skip (c.args.start + 32) c.args.running.now.batch.commands c.args.running.now.done c.loop-i.i c.at.result.now within less c.at.ensures c.if-at.true in (
      ap (λ (us : List VkCommand). c.loop-i.left + length us) (sym skip) ∙ c.loop-i.invariant.0,
      ap (λ (us : List VkCommand). c.loop-i.alike && are_alike c.args.stage us) (sym skip) ∙ c.loop-i.invariant.1,
      omega (arith, c.loop-i.invariant.2),
    )

pub loop-i-preserved : goal.loop-i-preserved
loop-i-preserved c =
    let less : c.loop-i.i < c.args.start + 32 = omega arith in
    let turn = rest_turn (c.args.start + 32) c.args.running.now.batch.commands c.args.running.now.done c.loop-i.i c.at.result.now c.at-in-loop-i.result.now less c.at-in-loop-i.ensures c.at.ensures c.if-at.false in
    let behind = are_alike c.args.stage (unmarked_in (c.args.start + 32 - (c.loop-i.i + 1)) (drop (c.loop-i.i + 1) c.args.running.now.batch.commands) (drop (c.loop-i.i + 1) c.args.running.now.done)) in
    let long = ap length turn in (
      omega (arith, long, c.loop-i.invariant.0),
      rw c.and_works-alike.ensures (and_assoc c.loop-i.alike (work_bits c.at-in-loop-i.result.now == c.args.stage) behind ∙ (ap (λ (us : List VkCommand). c.loop-i.alike && are_alike c.args.stage us) (sym turn) ∙ c.loop-i.invariant.1)),
      omega (arith, c.loop-i.invariant.2),
    )

pub returns : goal.returns
returns c =
    let none = rest_over (c.args.start + 32) c.args.running.now.batch.commands c.args.running.now.done c.loop-i.i (omega arith) in
    let long = ap length none in
    let left : c.loop-i.left ≡ length (undone_in c.args.start c.args.running.now) = omega (arith, long, c.loop-i.invariant.0) in
    let alike : c.loop-i.alike ≡ (nat_lt 0 c.args.stage && are_alike c.args.stage (undone_in c.args.start c.args.running.now)) =
    sym (and-true c.loop-i.alike) ∙ (ap (λ (us : List VkCommand). c.loop-i.alike && are_alike c.args.stage us) (sym none) ∙ c.loop-i.invariant.1) in
    rw (left, alike) refl

pub loop-i-init : goal.loop-i-init
loop-i-init c = let whole : c.args.start + 32 - c.args.start ≡ 32 = omega arith in (rw whole (omega arith), rw whole refl, omega arith)
