use Rattle.std.proofs.Common.{refl}
use Rattle.dx_base.specs.Each.{Each}
use Rattle.dx_base.proofs.Each.{each_got}
use Rattle.dx_base.proofs.Lists.{write_is_changed}
use Rattle.d3d_judge.specs.WordTouches.{HasThread}
use Rattle.d3d_judge.proofs.CarriedClocks.{got, on_ok}
use Rattle.d3d_judge.proofs.WordTouches.{sub_found, all_kept, all_keep_shapes, all_keep_tables, call_tables_at}
use Rattle.d3d_judge.proofs.word_touches.make_for_call_at.Goals as goal

pub make_for_call_in-requires-clause-sub : goal.make_for_call_in-requires-clause-sub
make_for_call_in-requires-clause-sub c =
    sub_found c.args.resources.now c.args.access.resource c.args.access.sub c.at_mut-subs.result.now c.requires.sub
    (got c.args.resources.now c.args.access.resource c.at_mut-subs.result.now c.requires.sub.resource c.at_mut-subs.ensures.value)

pub returns-clause-ties : goal.returns-clause-ties
returns-clause-ties c =
    all_kept c.args.words c.args.access.resource c.args.access.sub c.args.resources.now _ c.at_mut-subs.result.now c.make_for_call_in.new.subs
    (got c.args.resources.now c.args.access.resource c.at_mut-subs.result.now c.requires.sub.resource c.at_mut-subs.ensures.value) c.make_for_call_in.ensures.kept
    (write_is_changed (λ _. c.make_for_call_in.new.subs) c.args.resources.now c.args.access.resource c.at_mut-subs.result.now c.make_for_call_in.new.subs c.requires.sub.resource c.at_mut-subs.ensures.value refl)

pub returns-clause-shapes : goal.returns-clause-shapes
returns-clause-shapes c =
    all_keep_shapes c.args.words c.args.access.resource c.args.access.sub c.args.resources.now _ c.at_mut-subs.result.now c.make_for_call_in.new.subs
    (got c.args.resources.now c.args.access.resource c.at_mut-subs.result.now c.requires.sub.resource c.at_mut-subs.ensures.value) c.make_for_call_in.ensures.kept
    (write_is_changed (λ _. c.make_for_call_in.new.subs) c.args.resources.now c.args.access.resource c.at_mut-subs.result.now c.make_for_call_in.new.subs c.requires.sub.resource c.at_mut-subs.ensures.value refl)

pub returns-clause-tables : goal.returns-clause-tables
returns-clause-tables c =
    let found = got c.args.resources.now c.args.access.resource c.at_mut-subs.result.now c.requires.sub.resource c.at_mut-subs.ensures.value in
    on_ok c.make_for_call_in.result
    (call_tables_at c.args.words c.args.thread c.args.access c.args.resources.now _ c.at_mut-subs.result.now c.make_for_call_in.new.subs found c.make_for_call_in.ensures.kept
    (write_is_changed (λ _. c.make_for_call_in.new.subs) c.args.resources.now c.args.access.resource c.at_mut-subs.result.now c.make_for_call_in.new.subs c.requires.sub.resource c.at_mut-subs.ensures.value refl)
    (each_got (λ xs. Each (HasThread c.args.thread) xs) c.args.resources.now c.args.access.resource c.at_mut-subs.result.now c.requires.actors found) c.requires.wide c.requires.inside)
    c.make_for_call_in.ensures.made

pub returns-clause-kept : goal.returns-clause-kept
returns-clause-kept c =
    all_keep_tables c.args.words c.args.access.resource c.args.access.sub c.args.resources.now _ c.at_mut-subs.result.now c.make_for_call_in.new.subs
    (got c.args.resources.now c.args.access.resource c.at_mut-subs.result.now c.requires.sub.resource c.at_mut-subs.ensures.value) c.make_for_call_in.ensures.kept
    (write_is_changed (λ _. c.make_for_call_in.new.subs) c.args.resources.now c.args.access.resource c.at_mut-subs.result.now c.make_for_call_in.new.subs c.requires.sub.resource c.at_mut-subs.ensures.value refl)
