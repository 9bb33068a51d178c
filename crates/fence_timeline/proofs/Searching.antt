-- The search for the first update that suffices, run by run from the end on.
use Rattle.std.proofs.Common.{ℕ, suc, ◌≡◌, ◌≤◌, ◌<◌, ◌∙◌, refl, ap, sym, List, [], ◌∷◌, ◌++◌, zero, slice_get, length, Option, Some, None, arith}
use Rattle.std.specs.Option.{option_or}
use Rattle.fence_timeline.specs.declared.update.Update.{Update}
use Rattle.fence_timeline.specs.Sufficient.{first_sufficient}
use Rattle.fence_timeline.specs.Runs.{between, greatest, StartsRun}
use Rattle.fence_timeline.proofs.Between.{between_split, between_last, between_none}
use Rattle.fence_timeline.proofs.Greatest.{none_suffices, one_suffices, first_append, or_some, or_assoc, or_none}

-- a run behind a place has the first update that suffices, where none before that place does
pub record IsBehind (v : ℕ) (us : List Update) (from end rest first last : ℕ) : Type 0 where
  pub low : from ≤ first
  pub behind : rest ≤ first
  pub filled : first ≤ last
  pub before : last < end
  pub update : Update
  pub at_last : slice_get us last ≡ Some update
  pub found :
      first_sufficient v (between from end us)
      ≡ option_or (first_sufficient v (between from rest us)) (option_or (first_sufficient v (between first last us)) (Some update))

-- what was found behind a place
abbrev pub IsFound : ℕ → List Update → ℕ → ℕ → ℕ → Option (ℕ × ℕ) → Type 0
IsFound v us from end rest None = first_sufficient v (between from end us) ≡ first_sufficient v (between from rest us)
IsFound v us from end rest (Some run) = IsBehind v us from end rest run.0 run.1

-- a run of which none suffices
without : (v : ℕ) (us : List Update) (from start rest p : ℕ) → from ≤ start → start < rest → p ≡ greatest (between start rest us) → p < v →
    first_sufficient v (between from rest us) ≡ first_sufficient v (between from start us)
without v us from start rest p low high peak less =
    ap (first_sufficient v) (between_split us from start rest low (omega arith))
    ∙ first_append v (between from start us) (between start rest us)
    ∙ ap (λ o. option_or (first_sufficient v (between from start us)) o) (none_suffices v (between start rest us) (omega arith))
    ∙ or_none (first_sufficient v (between from start us))

pub pass_run : (v : ℕ) (us : List Update) (from end start rest p : ℕ) (found : Option (ℕ × ℕ)) → IsFound v us from end rest found →
    from ≤ start → start < rest → p ≡ greatest (between start rest us) → p < v → IsFound v us from end start found
pass_run v us from end start rest p None is low high peak less = is ∙ without v us from start rest p low high peak less
pass_run v us from end start rest p (Some run) is low high peak less = record {
  low = is.low;
  behind = omega (arith, is.behind);
  filled = is.filled;
  before = is.before;
  update = is.update;
  at_last = is.at_last;
  found =
      is.found
      ∙ ap (λ o. option_or o (option_or (first_sufficient v (between run.0 run.1 us)) (Some is.update))) (without v us from start rest p low high peak less);
}

-- a run of which one suffices
with : (v : ℕ) (us : List Update) (from start last rest p : ℕ) (u : Update) → from ≤ start → start < rest → rest ≡ suc last → slice_get us last ≡ Some u →
    p ≡ greatest (between start rest us) → v ≤ p →
    first_sufficient v (between from rest us) ≡ option_or (first_sufficient v (between from start us)) (option_or (first_sufficient v (between start last us)) (Some u))
with v us from start last rest p u low high next got peak more =
    let parted : between start rest us ≡ between start last us ++ u ∷ [] = rw next (between_last us start last u (omega arith) got) in
    ap (first_sufficient v) (between_split us from start rest low (omega arith))
    ∙ first_append v (between from start us) (between start rest us)
    ∙ ap
    (λ o. option_or (first_sufficient v (between from start us)) o)
    (ap (first_sufficient v) parted ∙ one_suffices v (between start last us) u (omega (arith, ap greatest parted)))

pub take_run : (v : ℕ) (us : List Update) (from end start last rest p : ℕ) (u : Update) (found : Option (ℕ × ℕ)) → IsFound v us from end rest found →
    from ≤ start → start < rest → rest ≤ end → rest ≡ suc last → slice_get us last ≡ Some u → p ≡ greatest (between start rest us) → v ≤ p →
    IsFound v us from end start (Some (start, last))
take_run v us from end start last rest p u None is low high inside next got peak more = record {
  low = low;
  behind = omega arith;
  filled = omega arith;
  before = omega arith;
  update = u;
  at_last = got;
  found = is ∙ with v us from start last rest p u low high next got peak more;
}
take_run v us from end start last rest p u (Some run) is low high inside next got peak more = record {
  low = low;
  behind = omega arith;
  filled = omega arith;
  before = omega arith;
  update = u;
  at_last = got;
  found =
      let A : Option Update = first_sufficient v (between from start us) in
      let B : Option Update = first_sufficient v (between start last us) in
      let X : Option Update = option_or (first_sufficient v (between run.0 run.1 us)) (Some is.update) in
      is.found
      ∙ ap (λ o. option_or o X) (with v us from start last rest p u low high next got peak more)
      ∙ or_assoc A (option_or B (Some u)) X
      ∙ ap (λ o. option_or A o) (or_some B X u);
}

-- there is an update at each place
pub one_at : {A : Type 0} (xs : List A) (i : ℕ) → i < length xs → (x : A) × (slice_get xs i ≡ Some x)
one_at [] i within = absurd (omega arith)
one_at (x ∷ xs) zero within = (x, refl)
one_at (x ∷ xs) (suc i) within = one_at xs i (omega arith)

-- nothing is left to search
pub none_found : (v : ℕ) (us : List Update) (from end rest : ℕ) → rest ≤ from → IsFound v us from end rest None → first_sufficient v (between from end us) ≡ None
none_found v us from end rest over is = is ∙ ap (first_sufficient v) (between_none us from rest over)

pub run_found : (v : ℕ) (us : List Update) (from end rest : ℕ) (run : ℕ × ℕ) → rest ≤ from → IsBehind v us from end rest run.0 run.1 → StartsRun v us from end run.0 run.1
run_found v us from end rest run over is = record {
  behind = is.low;
  filled = is.filled;
  before = is.before;
  update = is.update;
  at_last = is.at_last;
  found =
      is.found
      ∙ ap
      (λ xs. option_or (first_sufficient v xs) (option_or (first_sufficient v (between run.0 run.1 us)) (Some is.update)))
      (between_none us from rest over);
}

-- the search goes on in the run that was found, with its last update kept
pub search_on : (v : ℕ) (us : List Update) (whole kept : Option Update) (from end first last : ℕ) (u : Update) →
    whole ≡ option_or (first_sufficient v (between from end us)) kept → (is : StartsRun v us from end first last) → slice_get us last ≡ Some u →
    whole ≡ option_or (first_sufficient v (between first last us)) (Some u)
search_on v us whole kept from end first last u known is got =
    let F : Option Update = first_sufficient v (between first last us) in
    let same : Some is.update ≡ Some u = sym is.at_last ∙ got in
    known ∙ ap (λ o. option_or o kept) is.found ∙ or_some F kept is.update ∙ ap (λ o. option_or F o) same
