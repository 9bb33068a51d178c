use Rattle.std.proofs.Common.{sym, ap, ◌∙◌}
use Rattle.std.specs.Option.{option_or}
use Rattle.fence_timeline.specs.Sufficient.{first_sufficient}
use Rattle.fence_timeline.proofs.KeptFence.{first_in_both}
use Rattle.fence_timeline.proofs.fence.first_in.Goals as goal

pub returns-in-Some : goal.returns-in-Some
returns-in-Some c =
    let us = c.args.applied.now.items in
    let ps = c.args.pending.now.items in
    let v = c.args.value in
    sym (first_in_both v c.args.from us ps c.requires ∙ ap (λ o. option_or o (first_sufficient v ps)) (sym c.in-Some.ensures))

pub returns-in-None : goal.returns-in-None
returns-in-None c =
    let us = c.args.applied.now.items in
    let ps = c.args.pending.now.items in
    let v = c.args.value in
    c.first_from-in-None.ensures ∙ sym (first_in_both v c.args.from us ps c.requires ∙ ap (λ o. option_or o (first_sufficient v ps)) (sym c.in-None.ensures))
