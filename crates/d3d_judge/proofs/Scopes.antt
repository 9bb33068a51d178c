-- A scope that ends clean was clean at each command.
use Rattle.std.proofs.Common.{ℕ, zero, suc, ◌≡◌, List, [], ◌∷◌, ◌++◌, drop, slice_get, subst, sym, refl, arith, Option, Some, None}
use Rattle.clocks.specs.declared.clock.Clock.{Clock}
use Rattle.clocks.specs.Clocks.{Act}
use Rattle.verdicts.specs.declared.rules.Rule.{Rule}
use Rattle.d3d_judge.specs.Commands.{Command, Accesses, Bars}
use Rattle.d3d_judge.specs.Setting.{Setting}
use Rattle.d3d_judge.specs.Touches.{Touch}
use Rattle.d3d_judge.specs.Scopes.{Scoped, rule_of_command, scope_command, broken_by, scope_step, scope_unless, scope_all}

pub not_none : {P : Type 0} (r : Rule) (o : Option Rule) → o ≡ Some r → o ≡ None → P
not_none r o e f = absurd (grind (arith, e, f))

module _ (base : Setting) (made : List Touch) (clock : Clock) (act : Act) where
  pub stuck : (s : Scoped) (r : Rule) (cs : List Command) → s.broken ≡ Some r → (scope_all base made clock act s cs).broken ≡ Some r
  stuck s r [] e = e
  stuck s r (c ∷ cs) e =
      stuck (scope_unless s.broken (scope_step base made clock act s c) s) r cs
      (subst (λ o. (scope_unless o (scope_step base made clock act s c) s).broken ≡ Some r) (sym e) e)

  pub scope_append : (s : Scoped) (xs ys : List Command) → scope_all base made clock act s (xs ++ ys) ≡ scope_all base made clock act (scope_all base made clock act s xs) ys
  scope_append s [] ys = refl
  scope_append s (c ∷ xs) ys = scope_append (scope_unless s.broken (scope_step base made clock act s c) s) xs ys

  option_cases : {P : Type 0} (o : Option Rule) → (o ≡ None → P) → ((r : Rule) → o ≡ Some r → P) → P
  option_cases {P} None f g = f refl
  option_cases {P} (Some r) f g = g r refl

  -- a clean end: the start was clean
  pub was_clean : (s : Scoped) (cs : List Command) → (scope_all base made clock act s cs).broken ≡ None → s.broken ≡ None
  was_clean s cs e = option_cases s.broken (λ h. h) (λ r h. not_none r (scope_all base made clock act s cs).broken (stuck s r cs h) e)

  broken_step : (s : Scoped) (c : Command) (o : Option Rule) (cs : List Command) → (scope_all base made clock act (broken_by s o (scope_command base act s c)) cs).broken ≡ None → o ≡ None
  broken_step s c None cs e = refl
  broken_step s c (Some r) cs e = not_none r (scope_all base made clock act (broken_by s (Some r) (scope_command base act s c)) cs).broken (stuck (record s { broken = Some r }) r cs refl) e

  -- a clean end: the next command breaks no rule
  pub rule_none : (s : Scoped) (c : Command) (cs : List Command) → (scope_all base made clock act s (c ∷ cs)).broken ≡ None → rule_of_command base made clock act s c ≡ None
  rule_none s c cs e =
      broken_step s c (rule_of_command base made clock act s c) cs
      (subst (λ o. (scope_all base made clock act (scope_unless o (scope_step base made clock act s c) s) cs).broken ≡ None) (was_clean s (c ∷ cs) e) e)

  -- and the scope goes on with what the command does
  pub goes_on : (s : Scoped) (c : Command) (cs : List Command) → (scope_all base made clock act s (c ∷ cs)).broken ≡ None →
      scope_all base made clock act s (c ∷ cs) ≡ scope_all base made clock act (scope_command base act s c) cs
  goes_on s c cs e =
      let b : s.broken ≡ None = was_clean s (c ∷ cs) e in
      let n : rule_of_command base made clock act s c ≡ None = rule_none s c cs e in
      subst (λ o. scope_all base made clock act (scope_unless o (scope_step base made clock act s c) s) cs ≡ scope_all base made clock act (scope_command base act s c) cs) (sym b)
      (subst (λ o. scope_all base made clock act (broken_by s o (scope_command base act s c)) cs ≡ scope_all base made clock act (scope_command base act s c) cs) (sym n) refl)

  -- at each place of a clean scope no rule is broken
  pub clean_at : (s : Scoped) (xs ys : List Command) (c : Command) → (scope_all base made clock act s (xs ++ c ∷ ys)).broken ≡ None →
      rule_of_command base made clock act (scope_all base made clock act s xs) c ≡ None
  clean_at s xs ys c e =
      rule_none (scope_all base made clock act s xs) c ys (subst (λ u. u.broken ≡ None) (scope_append s xs (c ∷ ys)) e)

  drop_at : (cs : List Command) (k : ℕ) (c : Command) (rest : List Command) → drop k cs ≡ c ∷ rest → slice_get cs k ≡ Some c
  drop_at [] zero c rest e = absurd (grind (arith, e))
  drop_at [] (suc k) c rest e = absurd (grind (arith, e))
  drop_at (x ∷ cs) zero c rest e = grind (arith, e)
  drop_at (x ∷ cs) (suc k) c rest e = drop_at cs k c rest e

  drop_next : (cs : List Command) (k : ℕ) (c : Command) (rest : List Command) → drop k cs ≡ c ∷ rest → drop (suc k) cs ≡ rest
  drop_next [] zero c rest e = absurd (grind (arith, e))
  drop_next [] (suc k) c rest e = absurd (grind (arith, e))
  drop_next (x ∷ cs) zero c rest e = grind (arith, e)
  drop_next (x ∷ cs) (suc k) c rest e = drop_next cs k c rest e

  next : (s : Scoped) (c : Command) → (scope_command base act s c).place ≡ suc s.place
  next s (Accesses part xs) = refl
  next s (Bars b) = refl

  -- what each command that breaks no rule keeps holds at a clean end
  pub keeps : (cs more : List Command) (P : Scoped → Type 0) →
      ((s : Scoped) (c : Command) → slice_get cs s.place ≡ Some c → rule_of_command base made clock act s c ≡ None → P s → P (scope_command base act s c)) →
      (s : Scoped) (rest : List Command) → drop s.place cs ≡ rest ++ more → P s →
      (scope_all base made clock act s rest).broken ≡ None → P (scope_all base made clock act s rest)
  keeps cs more P step s [] d p e = p
  keeps cs more P step s (c ∷ rest) d p e =
      let g = goes_on s c rest e in
      subst P (sym g)
      (keeps cs more P step (scope_command base act s c) rest
      (subst (λ k. drop k cs ≡ rest ++ more) (sym (next s c)) (drop_next cs s.place c (rest ++ more) d))
      (step s c (drop_at cs s.place c (rest ++ more) d) (rule_none s c rest e) p)
      (subst (λ u. u.broken ≡ None) g e))
