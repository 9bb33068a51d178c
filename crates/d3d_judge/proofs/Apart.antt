-- The accesses of one command of a clean scope are apart, and places count commands.
use Rattle.std.proofs.Common.{ℕ, suc, ◌≡◌, ◌+◌, ◌∙◌, List, [], ◌∷◌, ◌++◌, length, subst, ap, refl, arith, true, false, Bool, ◌&&◌, None}
use Rattle.std.specs.List.{list_any}
use Rattle.dx_base.proofs.Each.{each_on, each_second}
use Rattle.dx_base.specs.Each.{Each}
use Rattle.clocks.specs.declared.clock.Clock.{Clock}
use Rattle.clocks.specs.Clocks.{Act}
use Rattle.dx_flags.specs.declared.atoms.Part.{Part}
use Rattle.d3d_judge.specs.Commands.{Access, Command, Accesses, Bars}
use Rattle.d3d_judge.specs.Setting.{Setting}
use Rattle.d3d_judge.specs.Touches.{Touch, conflict, overlaps, doing_of}
use Rattle.d3d_judge.specs.Scopes.{Opened, Scoped, opened_of, uncovers, breaks_two, scope_command, scope_all}
use Rattle.d3d_judge.specs.Covering.{AreApart}
use Rattle.d3d_judge.proofs.Scopes.{clean_at, goes_on}
use Rattle.d3d_judge.proofs.Covers.{two_each}
use Rattle.d3d_judge.proofs.Knowing.{passes, or_right}

not_meets : (b c : Bool) → (b && (c && true)) ≡ false → (b && c) ≡ false
not_meets true true e = e
not_meets true false e = refl
not_meets false c e = refl

module _ (base : Setting) (made : List Touch) (clock : Clock) (act : Act) where
  apart : (k : ℕ) (part : Part) (opened : List Opened) (xs : List Access) → breaks_two k part opened xs ≡ false → AreApart xs
  apart k part opened [] e = tt
  apart k part opened (a ∷ xs) e =
      let rest = or_right (list_any (uncovers part a) opened) (breaks_two k part (opened ++ opened_of k part a ∷ []) xs) e in (
        each_on (λ x. Each (λ o. uncovers part x o ≡ false) (opened ++ opened_of k part a ∷ [])) (λ b. (conflict (doing_of a) (doing_of b) && overlaps a.range b.range) ≡ false) xs
            (λ x all. not_meets (conflict (doing_of a) (doing_of x)) (overlaps a.range x.range) (each_second (λ o. uncovers part x o ≡ false) opened (opened_of k part a ∷ []) all).0)
            (two_each base made clock act k part (opened ++ opened_of k part a ∷ []) xs rest),
        apart k part (opened ++ opened_of k part a ∷ []) xs rest,
      )

  pub commands_apart : (s : Scoped) (ys zs : List Command) (part : Part) (xs : List Access) → (scope_all base made clock act s (ys ++ Accesses part xs ∷ zs)).broken ≡ None → AreApart xs
  commands_apart s ys zs part xs e =
      let u : Scoped = scope_all base made clock act s ys in
      apart u.place part u.opened xs (passes base made clock act u part xs (clean_at base made clock act s ys zs (Accesses part xs) e)).two

  next_place : (s : Scoped) (c : Command) → (scope_command base act s c).place ≡ suc s.place
  next_place s (Accesses part xs) = refl
  next_place s (Bars b) = refl

  pub places_count : (s : Scoped) (ys : List Command) → (scope_all base made clock act s ys).broken ≡ None → (scope_all base made clock act s ys).place ≡ s.place + length ys
  places_count s [] e = omega arith
  places_count s (c ∷ ys) e =
      let g = goes_on base made clock act s c ys e in
      let at = places_count (scope_command base act s c) ys (subst (λ u. u.broken ≡ None) g e) in
      let one = next_place s c in
      ap (λ (u : Scoped). u.place) g ∙ (at ∙ omega (arith, one))
