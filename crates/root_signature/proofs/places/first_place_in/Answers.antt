-- A parameter's places stand before those of the parameters behind it.
use Rattle.std.proofs.Common.{◌∙◌, ap, sym, arith, slice_get}
use Rattle.std.specs.List.{list_any}
use Rattle.root_signature.specs.Ranges.{ranges_of}
use Rattle.root_signature.specs.Refusals.{passes_registers}
use Rattle.root_signature.proofs.FirstPlaces.{found_here, not_here, none_behind}
use Rattle.root_signature.proofs.places.first_place_in.Goals as goal

pub returns-then-is_some : goal.returns-then-is_some
returns-then-is_some c =
    let there = found_here c.args.params.now c.loop-param.param-index c.loop-param.number c.param-item.result c.args.class c.args.register c.place_in_param-found.result c.loop-param-test.true c.param-item.is c.place_in_param-found.ensures (sym c.is_some.ensures ∙ c.if-is_some.true) in
    there ∙ ap (λ xs. slice_get xs 0) c.loop-param.invariant.0

pub loop-param-preserved : goal.loop-param-preserved
loop-param-preserved c =
    let left = not_here c.args.params.now c.loop-param.param-index c.loop-param.number c.param-item.result c.args.class c.args.register c.place_in_param-found.result c.loop-param-test.true c.param-item.is c.place_in_param-found.ensures (sym c.is_some.ensures ∙ c.if-is_some.false) in
    let behind = none_behind (λ param. list_any passes_registers (ranges_of param)) c.args.params.now c.loop-param.param-index c.param-item.result c.loop-param-test.true c.param-item.is c.loop-param.invariant.2 in
    (left ∙ c.loop-param.invariant.0, omega arith, behind.1)
