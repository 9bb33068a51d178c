use Rattle.std.proofs.Common.{ℕ, ◌≡◌, ◌∙◌, sym, ap}
use Rattle.std.specs.Ordering.{nat_cmp}
use Rattle.std.specs.BTreeMap.{get}
use Rattle.barrier_lowering.proofs.LastChanges.{last_after}
use Rattle.barrier_lowering.specs.ImageChanges.{last_of, last_in}
use Rattle.barrier_lowering.proofs.image_changes.ImageChanges.add.Goals.{in-Some, in-None}
use Rattle.barrier_lowering.proofs.image_changes.ImageChanges.add.Goals as goal

pub returns : goal.returns
returns c =
    let was : (sub : ℕ) → last_in c.match-remove.before sub ≡ last_of (get nat_cmp c.args.self.now.images c.args.change.image) sub = λ sub. elim c.match-remove.branch [
      | in-Some w ↦ ap (λ b. last_in b sub) w.before-is ∙ ap (λ o. last_of o sub) (sym w.in-Some.is ∙ c.remove.ensures.value)
      | in-None w ↦ ap (λ b. last_in b sub) w.before-is ∙ w.new-before.ensures sub ∙ ap (λ o. last_of o sub) (sym w.in-None.is ∙ c.remove.ensures.value)
    ] in
    last_after
    c.args.change.image
    c.args.change.sub
    c.args.change.new
    c.match-remove.before
    c.in_ok-after.after
    (get nat_cmp c.args.self.now.images)
    (get nat_cmp c.remove.new.self)
    (get nat_cmp c.insert.new.self)
    c.remove.ensures.updates.0
    c.in_ok-insert.ensures.updates.0
    was
    c.in_ok-after.ensures
