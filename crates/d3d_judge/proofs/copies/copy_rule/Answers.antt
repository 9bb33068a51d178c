use Rattle.std.proofs.Common.{[], ◌∷◌, ◌∙◌, refl}
use Rattle.d3d_judge.proofs.CopyReady.{adds_from, adds_to, asks_own_to, ready_after}
use Rattle.d3d_judge.proofs.CopyRules.{Asked, judged_one}
use Rattle.d3d_judge.proofs.copies.copy_rule.Goals as goal

pub touch-requires : goal.touch-requires
touch-requires c =
    adds_from c.args.world.now c.args.touches.now.resources c.args.scope.now.clock.now c.args.scope.now.counts.now c.args.scope.now.queue c.args.what c.requires
    c.read_words-from.result c.read_words-from.ensures

pub meets_operation-two_to-requires : goal.meets_operation-two_to-requires
meets_operation-two_to-requires c =
    let r = ready_after c.args.world.now c.args.touches.now.resources c.touch.new.touches.resources c.args.scope.now.clock.now c.args.scope.now.counts.now c.args.scope.now.queue
    c.args.scope.now.queue c.args.scope.now.number c.read_words-from.result (c.args.what ∷ []) c.touch.ensures.resources c.requires in
    asks_own_to c.args.world.now c.touch.new.touches.resources c.args.scope.now.clock.now c.args.scope.now.counts.now c.args.scope.now.queue c.args.what r
    c.written_words-to.result c.written_words-to.ensures

pub touch-requires-2 : goal.touch-requires-2
touch-requires-2 c =
    let r = ready_after c.args.world.now c.args.touches.now.resources c.touch.new.touches.resources c.args.scope.now.clock.now c.args.scope.now.counts.now c.args.scope.now.queue
    c.args.scope.now.queue c.args.scope.now.number c.read_words-from.result (c.args.what ∷ []) c.touch.ensures.resources c.requires in
    adds_to c.args.world.now c.touch.new.touches.resources c.args.scope.now.clock.now c.args.scope.now.counts.now c.args.scope.now.queue c.args.what r
    c.written_words-to.result c.written_words-to.ensures

pub returns-clause-rule : goal.returns-clause-rule
returns-clause-rule c made s joint e clean h tied =
    let a : Asked c.args.world.now c.args.touches.now.resources c.touch.new.touches.resources c.touch-2.new.touches.resources c.args.scope.now.clock.now c.args.scope.now.counts.now
    c.args.scope.now.queue c.args.scope.now.number c.args.what = record {
      from = c.read_words-from.result;
      to = c.written_words-to.result;
      one_from = c.meets_operation-one_from.result;
      one_to = c.meets_operation-one_to.result;
      ten_from = c.meets_call-ten_from.result;
      ten_to = c.meets_call-ten_to.result;
      three = c.breaks_state-three.result;
      two_from = c.meets_operation-two_from.result;
      two_to = c.meets_operation-two_to.result;
      from_is = c.read_words-from.ensures;
      to_is = c.written_words-to.ensures;
      clock_sized = c.requires.clock_sized;
      counts_sized = c.requires.counts_sized;
      tells_one_from = c.meets_operation-one_from.ensures;
      tells_one_to = c.meets_operation-one_to.ensures;
      tells_ten_from = c.meets_call-ten_from.ensures;
      tells_ten_to = c.meets_call-ten_to.ensures;
      tells_three = c.breaks_state-three.ensures;
      tells_two_from = c.meets_operation-two_from.ensures;
      adds_from = c.touch.ensures.ties;
      tells_two_to = c.meets_operation-two_to.ensures;
      adds_to = c.touch-2.ensures.ties;
    } in
    judged_one c.args.world.now c.args.touches.now.resources c.touch.new.touches.resources c.touch-2.new.touches.resources c.args.scope.now.clock.now c.args.scope.now.counts.now
    c.args.scope.now.queue c.args.scope.now.number c.args.what a made s joint e clean h tied c.least_rule.result
    (c.least_rule.ensures ∙ rw (c.either-one.ensures, c.either-two.ensures, c.either-ten.ensures) refl)
