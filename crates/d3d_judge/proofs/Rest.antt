-- What else a clean scope tells: of layout changes, and of lost words and layouts.
use Rattle.std.proofs.Common.{◌≡◌, List, ◌∷◌, ◌++◌, refl, arith, true, false, Bool, not, ◌&&◌, None}
use Rattle.std.specs.List.{list_any}
use Rattle.dx_base.proofs.Each.{each_on, each_both}
use Rattle.dx_base.specs.Each.{Each}
use Rattle.clocks.specs.declared.clock.Clock.{Clock}
use Rattle.clocks.specs.Clocks.{Act}
use Rattle.dx_flags.specs.declared.atoms.Part.{Part}
use Rattle.enhanced_barriers.specs.declared.barriers.Barrier.{Barrier}
use Rattle.verdicts.specs.declared.rules.Rule.TheVariants as rule
use Rattle.d3d_judge.specs.Commands.{Access, Command, Accesses, Bars, is_change}
use Rattle.d3d_judge.specs.Setting.{Setting}
use Rattle.d3d_judge.specs.Touches.{Touch, overlaps, breaks_one, touch_of_barrier}
use Rattle.d3d_judge.specs.Scopes.{Scoped, reaches, breaks_three, breaks_twelve, named, unreached, scope_all}
use Rattle.d3d_judge.proofs.Scopes.{clean_at}
use Rattle.d3d_judge.proofs.Knowing.{or_rule_test, or_rule_next, each_not, passes}

and_true : (a b : Bool) → (a && b) ≡ false → a ≡ true → b ≡ false
and_true a b e h = grind (arith, e, h)

reached : (a b : Bool) → (a && not b) ≡ false → a ≡ true → b ≡ true
reached a true e h = refl
reached a false e h = absurd (grind (arith, e, h))

module _ (base : Setting) (made : List Touch) (clock : Clock) (act : Act) where
  pub changes_reached : (s : Scoped) (ys zs : List Command) (b : Barrier) → (scope_all base made clock act s (ys ++ Bars b ∷ zs)).broken ≡ None → is_change b ≡ true →
      Each (λ r. Each (λ o. overlaps o.range r ≡ true → reaches o b ≡ true) (scope_all base made clock act s ys).opened) (named base b.scope)
  changes_reached s ys zs b e h =
      let u : Scoped = scope_all base made clock act s ys in
      let e1 = clean_at base made clock act s ys zs (Bars b) e in
      let e2 = or_rule_next (list_any (λ r. breaks_one clock made (touch_of_barrier act b r)) (named base b.scope)) rule.B1 _ e1 in
      let t = or_rule_test (is_change b && list_any (λ r. list_any (unreached b r) u.opened) (named base b.scope)) rule.B2 _ e2 in
      each_on (λ r. list_any (unreached b r) u.opened ≡ false) (λ r. Each (λ o. overlaps o.range r ≡ true → reaches o b ≡ true) u.opened) (named base b.scope)
      (λ r g. each_on (λ o. unreached b r o ≡ false) (λ o. overlaps o.range r ≡ true → reaches o b ≡ true) u.opened
      (λ o k v. reached (overlaps o.range r) (reaches o b) k v) (each_not (unreached b r) u.opened g))
      (each_not (λ r. list_any (unreached b r) u.opened) (named base b.scope) (and_true (is_change b) (list_any (λ r. list_any (unreached b r) u.opened) (named base b.scope)) t h))

  pub allowed_and_kept : (s : Scoped) (ys zs : List Command) (part : Part) (xs : List Access) → (scope_all base made clock act s (ys ++ Accesses part xs ∷ zs)).broken ≡ None →
      Each (λ a. (breaks_three base (scope_all base made clock act s ys).layouts a ≡ false) × (breaks_twelve (scope_all base made clock act s ys).lost a ≡ false)) xs
  allowed_and_kept s ys zs part xs e =
      let u : Scoped = scope_all base made clock act s ys in
      let p = passes base made clock act u part xs (clean_at base made clock act s ys zs (Accesses part xs) e) in
      each_both (λ a. breaks_three base u.layouts a ≡ false) (λ a. breaks_twelve u.lost a ≡ false) (λ a. (breaks_three base u.layouts a ≡ false) × (breaks_twelve u.lost a ≡ false)) xs
      (λ a h g. (h, g)) (each_not (breaks_three base u.layouts) xs p.three) (each_not (breaks_twelve u.lost) xs p.twelve)
