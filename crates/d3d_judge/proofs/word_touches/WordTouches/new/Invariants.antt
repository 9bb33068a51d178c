use Rattle.std.proofs.Common.{◌≡◌, map, take}
use Rattle.d3d_judge.specs.Setting.{traits_of}
use Rattle.d3d_judge.specs.WordTouches.{untouched}
use Rattle.d3d_judge.proofs.word_touches.WordTouches.new.Given as goal

abbrev pub invariant-loop-resource : goal.invariant-loop-resource
invariant-loop-resource l = l.all ≡ untouched l.queues l.threads (map traits_of (take l.resource-index l.resources))
