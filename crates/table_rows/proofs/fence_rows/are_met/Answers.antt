use Rattle.std.proofs.Common.{refl, sym, subst}
use Rattle.fence_timeline.specs.Waits.{IsIn}
use Rattle.table_rows.proofs.fence_rows.are_met.Goals as goal

pub met-requires-2 : goal.met-requires-2
met-requires-2 c = subst (λ ws. IsIn ws c.args.second.now) (sym c.requires.armed) (record { place = 1; stands = refl })
