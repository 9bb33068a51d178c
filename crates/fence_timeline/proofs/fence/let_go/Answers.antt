use Rattle.std.proofs.Common.{◌≡◌, ◌+◌, ◌-◌, ◌∙◌, ap, drop, arith}
use Rattle.std.proofs.lemmas.List.{drop-drop}
use Rattle.fence_timeline.proofs.fence.let_go.Goals as goal

pub loop-base-preserved : goal.loop-base-preserved
loop-base-preserved c =
    let k = c.loop-base.base - c.args.base.now in
    let next : k + 1 ≡ c.loop-base.base + 1 - c.args.base.now = omega (arith, c.loop-base.invariant.low) in
    record {
      low = omega (arith, c.loop-base.invariant.low);
      high = omega arith;
      applied =
          c.pop.ensures.rest
          ∙ ap (drop 1) c.loop-base.invariant.applied
          ∙ drop-drop 1 k c.args.applied.now.items
          ∙ ap (λ n. drop n c.args.applied.now.items) next;
      room = omega (arith, c.pop.ensures.spare, c.loop-base.invariant.room);
    }
