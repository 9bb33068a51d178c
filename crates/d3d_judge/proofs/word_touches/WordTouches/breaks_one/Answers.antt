use Rattle.std.proofs.Common.{length}
use Rattle.dx_base.specs.Each.{Each}
use Rattle.dx_base.proofs.Each.{each_got}
use Rattle.d3d_judge.specs.SubTables.{HasActors}
use Rattle.d3d_judge.proofs.WordTouches.{sub_found, one_told}
use Rattle.d3d_judge.proofs.word_touches.WordTouches.breaks_one.Goals as goal

pub at-sub-requires : goal.at-sub-requires
at-sub-requires c = sub_found c.args.self.now.resources c.args.access.resource c.args.access.sub c.at-resource.result.now c.requires.sub c.at-resource.ensures

pub has_unknown_scope-requires : goal.has_unknown_scope-requires
has_unknown_scope-requires c =
    each_got (HasActors (length c.args.clock.now.queues) (length c.args.clock.now.threads)) c.at-resource.result.now c.args.access.sub c.at-sub.result.now
    (each_got (λ xs. Each (HasActors (length c.args.clock.now.queues) (length c.args.clock.now.threads)) xs) c.args.self.now.resources c.args.access.resource c.at-resource.result.now c.requires.actors c.at-resource.ensures)
    c.at-sub.ensures

pub returns : goal.returns
returns c = one_told c.args.self.now.resources c.args.clock.now c.args.access c.has_unknown_scope.result c.at-resource.result.now c.at-sub.result.now c.at-resource.ensures c.at-sub.ensures c.has_unknown_scope.ensures
