use Rattle.std.proofs.Common.{◌+◌, ◌∙◌, refl}
use Rattle.dx_base.specs.Lists.{changed_at}
use Rattle.d3d_judge.specs.SubTables.{after_call}
use Rattle.dx_base.specs.Each.{Each}
use Rattle.dx_base.proofs.Each.{each_got}
use Rattle.dx_base.proofs.Lists.{write_is_changed, changed_alike}
use Rattle.d3d_judge.specs.WordTouches.{HasThread}
use Rattle.d3d_judge.proofs.CarriedClocks.{got}
use Rattle.d3d_judge.proofs.WordTouches.{sub_found, item_there, call_added_to_all}
use Rattle.d3d_judge.proofs.word_touches.add_call_at.Goals as goal

pub add_call_to-requires-clause-sub : goal.add_call_to-requires-clause-sub
add_call_to-requires-clause-sub c =
    sub_found c.args.resources.now c.args.access.resource c.args.access.sub c.at_mut-subs.result.now c.requires.sub
    (got c.args.resources.now c.args.access.resource c.at_mut-subs.result.now c.requires.sub.resource c.at_mut-subs.ensures.value)

pub returns-clause-ties : goal.returns-clause-ties
returns-clause-ties c =
    let found = got c.args.resources.now c.args.access.resource c.at_mut-subs.result.now c.requires.sub.resource c.at_mut-subs.ensures.value in
    let item = item_there c.at_mut-subs.result.now c.args.access.sub (sub_found c.args.resources.now c.args.access.resource c.args.access.sub c.at_mut-subs.result.now c.requires.sub found) in
    let actor = each_got (HasThread c.args.thread) c.at_mut-subs.result.now c.args.access.sub item.0
    (each_got (λ xs. Each (HasThread c.args.thread) xs) c.args.resources.now c.args.access.resource c.at_mut-subs.result.now c.requires.actors found) item.1 in
    call_added_to_all c.args.resources.now _ c.args.thread c.args.number c.args.access c.at_mut-subs.result.now c.add_call_to.new.subs item.0 found item.1 actor c.add_call_to.ensures
    (write_is_changed (λ _. c.add_call_to.new.subs) c.args.resources.now c.args.access.resource c.at_mut-subs.result.now c.add_call_to.new.subs c.requires.sub.resource c.at_mut-subs.ensures.value refl)
    c.requires.tables

pub returns-clause-resources : goal.returns-clause-resources
returns-clause-resources c =
    let found = got c.args.resources.now c.args.access.resource c.at_mut-subs.result.now c.requires.sub.resource c.at_mut-subs.ensures.value in
    write_is_changed (λ _. c.add_call_to.new.subs) c.args.resources.now c.args.access.resource c.at_mut-subs.result.now c.add_call_to.new.subs c.requires.sub.resource c.at_mut-subs.ensures.value refl
    ∙ changed_alike (λ _. c.add_call_to.new.subs) (changed_at (after_call c.args.thread c.args.access.writes c.args.access.first (c.args.access.first + c.args.access.words) c.args.number) c.args.access.sub)
    c.args.resources.now c.args.access.resource c.at_mut-subs.result.now found c.add_call_to.ensures
