use Rattle.std.proofs.Common.{◌∙◌, ap, sym, refl, Some}
use Rattle.d3d_judge.specs.Carried.{Clocks}
use Rattle.d3d_machine.specs.declared.events.Operation.TheVariants as operation
use Rattle.d3d_judge.proofs.Calls.{stands_touched}
use Rattle.d3d_judge.proofs.CarriedClocks.{on_ok}
use Rattle.d3d_judge.proofs.Completions.{oldest_inside, commands_inside, execute_ready}
use Rattle.d3d_judge.proofs.InsideWords.{world_small}
use Rattle.d3d_judge.proofs.Prepared.{furnishes_same}
use Rattle.d3d_judge.proofs.WordTouches.{tables_same}
use Rattle.d3d_judge.proofs.judge_parts.JudgeParts.make_for_oldest.Goals as goal

pub make_for_copies-requires-clause-small : goal.make_for_copies-requires-clause-small
make_for_copies-requires-clause-small c = world_small c.args.world.now c.requires.opened.sizes

pub make_for_copies-requires-clause-inside : goal.make_for_copies-requires-clause-inside
make_for_copies-requires-clause-inside c =
    commands_inside c.args.world.now c.as_slice.result.now
    (oldest_inside c.args.world.now c.args.kept.now.fed.history c.args.self.now c.args.queue (operation.Execute c.as_slice.result.now) c.requires.opened (ap (λ cs. Some (operation.Execute cs)) c.as_slice.ensures ∙ (ap Some (sym c.in-Some-Execute.field-0-is) ∙ c.in-Some-Execute.ensures)))

pub returns-in-Some-Execute-clause-ready : goal.returns-in-Some-Execute-clause-ready
returns-in-Some-Execute-clause-ready c =
    on_ok c.make_for_copies.result
    (execute_ready c.args.world.now c.args.self.now c.make_for_copies.new.touches c.args.queue c.as_slice.result.now (ap (λ cs. Some (operation.Execute cs)) c.as_slice.ensures ∙ (ap Some (sym c.in-Some-Execute.field-0-is) ∙ c.in-Some-Execute.ensures)))
    c.make_for_copies.ensures.ready

pub returns-in-Some-Execute-clause-stands : goal.returns-in-Some-Execute-clause-stands
returns-in-Some-Execute-clause-stands c =
    stands_touched c.args.world.now c.args.kept.now.fed.history c.args.self.now c.make_for_copies.new.touches c.requires.opened.stands (c.make_for_copies.ensures.ties _) c.make_for_copies.ensures.shaped

pub returns-in-None-clause-furnishes : goal.returns-in-None-clause-furnishes
returns-in-None-clause-furnishes c = furnishes_same c.args.self.now

pub returns-in-Some-Execute-clause-furnishes : goal.returns-in-Some-Execute-clause-furnishes
returns-in-Some-Execute-clause-furnishes c = record { pending = refl; ends = refl; tables = c.make_for_copies.ensures.kept }

pub returns-in-Some-Signal-clause-furnishes : goal.returns-in-Some-Signal-clause-furnishes
returns-in-Some-Signal-clause-furnishes c = record { pending = c.make_room_for_update.ensures.pending; ends = ap (λ (y : Clocks). y.ends) c.make_room_for_update.ensures.clocks; tables = tables_same c.args.self.now.touches.resources }
