use Rattle.d3d_judge.proofs.Scopes.{clean_at}
use Rattle.d3d_judge.proofs.laws.a_clean_scope_breaks_nothing.Goals as goal

pub returns : goal.returns
returns c base made clock act s xs ys x = clean_at base made clock act s xs ys x
