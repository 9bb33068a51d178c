use Rattle.std.proofs.Common.{◌∙◌, ap, sym, map}
use Rattle.d3d_judge.specs.Setting.{traits_of}
use Rattle.d3d_judge.specs.WordTouches.{words_at}
use Rattle.d3d_judge.proofs.CopyReady.{sub_there, queue_there, wide_there}
use Rattle.d3d_judge.proofs.copies.make_for_words.Goals as goal

pub make_for_scope-requires-clause-sub : goal.make_for_scope-requires-clause-sub
make_for_scope-requires-clause-sub c = sub_there c.args.world.now c.args.touches.now.resources c.args.access c.requires.shaped c.requires.inside

pub make_for_scope-requires-clause-actors : goal.make_for_scope-requires-clause-actors
make_for_scope-requires-clause-actors c = queue_there c.args.world.now c.args.touches.now.resources c.args.queue c.requires.shaped c.requires.queue

pub make_for_scope-requires-clause-wide : goal.make_for_scope-requires-clause-wide
make_for_scope-requires-clause-wide c =
    wide_there c.args.world.now c.args.touches.now.resources c.args.access c.words_of-words.result c.requires.shaped
    (c.words_of-words.ensures ∙ ap (words_at (map traits_of c.args.world.now.resources) c.args.access.resource) (sym c.requires.sub))
