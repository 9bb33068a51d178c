use Rattle.std.proofs.Common.{◌≡◌, drop}
use Rattle.trace_text.specs.WorldOf.{objects_from, objects_of}
use Rattle.trace_text.proofs.world_of.objects.Given as goal

abbrev pub invariant-loop-object : goal.invariant-loop-object
invariant-loop-object l = objects_from l.world (drop l.object-index l.declared) ≡ objects_of l.declared
