use Rattle.std.proofs.Common.{◌∙◌, ap}
use Rattle.dx_flags.specs.declared.atoms.Kind.TheVariants.{CopySource, CopyDest}
use Rattle.std.specs.Prelude.{nat_lt, ◌&&◌, ◌||◌}
use Rattle.d3d_machine.specs.World.{resource_of}
use Rattle.d3d_judge.specs.CopyScopes.{refuses_kind}
use Rattle.d3d_judge.proofs.CopyRules.{state_told}
use Rattle.d3d_judge.proofs.copies.breaks_state.Goals as goal

pub returns : goal.returns
returns c =
    state_told c.args.world.now c.args.what c.is_some_refused.result c.is_unreadable-unreadable.result c.is_unwritable-unwritable.result
    (c.is_unreadable-unreadable.ensures ∙ ap (λ a. refuses_kind (resource_of c.args.world.now a.resource) CopySource) c.read_words-from.ensures)
    (c.is_unwritable-unwritable.ensures ∙ ap (λ a. refuses_kind (resource_of c.args.world.now a.resource) CopyDest) c.written_words-to.ensures)
    (c.is_some_refused.ensures ∙ ap (λ a. nat_lt 0 a.words && (c.is_unreadable-unreadable.result || c.is_unwritable-unwritable.result)) c.read_words-from.ensures)
