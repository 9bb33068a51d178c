use Rattle.std.proofs.Common.{rules}
use Rattle.std.proofs.lemmas.List.Edits.{map_over_more}
use Rattle.d3d_machine.specs.Effects.{marked_place}
use Rattle.d3d_machine.proofs.thread_places.mark_all.Goals as goal

pub loop-at-preserved : goal.loop-at-preserved
loop-at-preserved c = search (rules, map_over_more (marked_place c.args.fence.0 c.args.value))
