-- The two tests tell whether all is finished.
use Rattle.std.proofs.Common.{◌≡◌, ◌∙◌, sym, true, false}
use Rattle.sys_core.proofs.Finishing as finishing
use Rattle.sys_core.proofs.NthStep.{seats_count}
use Rattle.sys_core.proofs.finished.is_finished.Goals as goal

pub have_ended-requires : goal.have_ended-requires
have_ended-requires g c = record { seats = seats_count c.args.world.now c.args.history.now.items c.args.parts.now (g.D.VkDevice.view_of c.args.device.now) c.requires.keeps }

pub returns-then-have_ended-clause-yes : goal.returns-then-have_ended-clause-yes
returns-then-have_ended-clause-yes g c all =
    finishing.finished_if c.args.world.now c.args.history.now.items c.args.parts.now (g.D.VkDevice.view_of c.args.device.now) c.requires.keeps
    (sym c.have_ended.ensures ∙ c.if-have_ended.true) (sym c.are_empty.ensures ∙ all)

pub returns-then-have_ended-clause-no : goal.returns-then-have_ended-clause-no
returns-then-have_ended-clause-no g c none finished =
    let all = finishing.queues_if c.args.world.now c.args.history.now.items c.args.parts.now (g.D.VkDevice.view_of c.args.device.now) c.requires.keeps finished in
    let e : true ≡ false = sym all ∙ sym c.are_empty.ensures ∙ none in
    cc

pub returns-else-have_ended-clause-no : goal.returns-else-have_ended-clause-no
returns-else-have_ended-clause-no g c none finished =
    let all = finishing.threads_if c.args.world.now c.args.history.now.items c.args.parts.now (g.D.VkDevice.view_of c.args.device.now) c.requires.keeps finished in
    let e : true ≡ false = sym all ∙ sym c.have_ended.ensures ∙ c.if-have_ended.false in
    cc
