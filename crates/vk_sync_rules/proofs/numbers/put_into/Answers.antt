-- The list at the place, written anew.
use Rattle.std.proofs.Common.{◌∙◌, ap, arith, slice_set, sym}
use Rattle.dx_base.proofs.Lists.{changed_past, set_is_changed}
use Rattle.vk_sync_rules.specs.Numbers.{put_numbers}
use Rattle.vk_sync_rules.proofs.numbers.put_into.Goals as goal

pub returns-in_ok-after-clause-ok : goal.returns-in_ok-after-clause-ok
returns-in_ok-after-clause-ok c =
    ap (λ y. slice_set c.args.lists.now c.args.at y) c.in_ok-after.ensures
    ∙ set_is_changed (put_numbers c.args.first c.args.new.now) c.args.lists.now c.args.at c.at.result.now c.at.ensures

pub returns-else-at-len-clause-ok : goal.returns-else-at-len-clause-ok
returns-else-at-len-clause-ok c = sym (changed_past (put_numbers c.args.first c.args.new.now) c.args.lists.now c.args.at (omega arith))
