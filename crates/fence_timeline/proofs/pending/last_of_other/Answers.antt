use Rattle.std.proofs.Common.{sym, refl, ◌∙◌}
use Rattle.fence_timeline.proofs.PendingList.{nothing_last, other_found, all_alike, before_found}
use Rattle.fence_timeline.proofs.pending.last_of_other.Goals as goal

pub returns-in-Some-of_other : goal.returns-in-Some-of_other
returns-in-Some-of_other c = sym (other_found c.args.pending.now.items c.args.queue c.in-Some.last _ (sym c.in-Some.ensures) (sym c.in-Some-of_other.ensures))

pub returns-in-Some-before_ending : goal.returns-in-Some-before_ending
returns-in-Some-before_ending c =
    let before = c.in-Some-before_ending.ensures.some in
    c.of_other-in-Some-before_ending.ensures
    ∙ sym (before_found c.args.pending.now.items c.args.ending c.args.queue c.in-Some.last c.in-Some-before_ending.before c.requires (sym c.in-Some.ensures) (sym c.in-None-of_other.ensures) before.fewer before.stands)

pub returns-in-None-before_ending : goal.returns-in-None-before_ending
returns-in-None-before_ending c =
    sym (all_alike c.args.pending.now.items c.args.ending c.args.queue c.in-Some.last c.requires (sym c.in-Some.ensures) (sym c.in-None-of_other.ensures) c.in-None-before_ending.ensures.none)

pub returns-in-None : goal.returns-in-None
returns-in-None c = sym (let us = c.args.pending.now.items in rw (nothing_last us (sym c.in-None.ensures)) refl)
