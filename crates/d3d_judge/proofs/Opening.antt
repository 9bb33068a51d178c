-- The opened accesses of a clean scope are those of its commands, in order.
use Rattle.std.proofs.Common.{ℕ, suc, ◌≡◌, ◌∙◌, List, [], ◌∷◌, ◌++◌, map, subst, sym, ap, refl, true, false, Bool, ◌&&◌, cond, None, append_assoc, append-nil}
use Rattle.clocks.specs.declared.clock.Clock.{Clock}
use Rattle.clocks.specs.Clocks.{Act}
use Rattle.dx_flags.specs.declared.atoms.Part.{Part}
use Rattle.enhanced_barriers.specs.declared.barriers.Barrier.{Barrier}
use Rattle.d3d_judge.specs.Made.{touches_by, touches_of}
use Rattle.d3d_judge.specs.Commands.{Range, Access, Command, Accesses, Bars, is_change}
use Rattle.d3d_judge.specs.Setting.{Setting}
use Rattle.d3d_judge.specs.Touches.{Touch}
use Rattle.d3d_judge.specs.Scopes.{Opened, Scoped, reaches, concerns, with_adder, added, opened_of, change_opened, named, scope_command, scope_all}
use Rattle.d3d_judge.specs.Covering.{bare, opened_by, opened_from}
use Rattle.d3d_judge.proofs.Scopes.{goes_on}

map_join : (f : Opened → Opened) (xs ys : List Opened) → map f (xs ++ ys) ≡ map f xs ++ map f ys
map_join f [] ys = refl
map_join f (x ∷ xs) ys = ap (λ t. f x ∷ t) (map_join f xs ys)

bare_opened : (k : ℕ) (part : Part) (xs : List Access) → map bare (map (opened_of k part) xs) ≡ map (opened_of k part) xs
bare_opened k part [] = refl
bare_opened k part (a ∷ xs) = ap (λ t. opened_of k part a ∷ t) (bare_opened k part xs)

bare_with : (t : Bool) (k : ℕ) (b : Barrier) (o : Opened) → bare (with_adder t k b o) ≡ bare o
bare_with true k b o = refl
bare_with false k b o = refl

bare_added : (k : ℕ) (b : Barrier) (os : List Opened) → map bare (map (added k b) os) ≡ map bare os
bare_added k b [] = refl
bare_added k b (o ∷ os) = rw (bare_with (concerns b.scope o.range && reaches o b) k b o) (ap (λ t. bare o ∷ t) (bare_added k b os))

bare_changes : (k : ℕ) (b : Barrier) (t : Bool) (rs : List Range) → map bare (cond t (map (change_opened k b) rs) []) ≡ cond t (map (λ r. bare (change_opened k b r)) rs) []
bare_changes k b false rs = refl
bare_changes k b true [] = refl
bare_changes k b true (r ∷ rs) = ap (λ t. bare (change_opened k b r) ∷ t) (bare_changes k b true rs)

module _ (base : Setting) (made : List Touch) (clock : Clock) (act : Act) where
  opens : (s : Scoped) (c : Command) → map bare (scope_command base act s c).opened ≡ map bare s.opened ++ opened_by base s.place c
  opens s (Accesses part xs) = map_join bare s.opened (map (opened_of s.place part) xs) ∙ ap (λ t. map bare s.opened ++ t) (bare_opened s.place part xs)
  opens s (Bars b) =
      map_join bare (map (added s.place b) s.opened) (cond (is_change b) (map (change_opened s.place b) (named base b.scope)) [])
      ∙ ap (λ t. t ++ map bare (cond (is_change b) (map (change_opened s.place b) (named base b.scope)) [])) (bare_added s.place b s.opened)
      ∙ ap (λ t. map bare s.opened ++ t) (bare_changes s.place b (is_change b) (named base b.scope))

  place_next : (s : Scoped) (c : Command) → (scope_command base act s c).place ≡ suc s.place
  place_next s (Accesses part xs) = refl
  place_next s (Bars b) = refl

  pub opened_in_order : (s : Scoped) (cs : List Command) → (scope_all base made clock act s cs).broken ≡ None →
      map bare (scope_all base made clock act s cs).opened ≡ map bare s.opened ++ opened_from base s.place cs
  opened_in_order s [] e = sym (append-nil (map bare s.opened))
  opened_in_order s (c ∷ cs) e =
      let g = goes_on base made clock act s c cs e in
      let u : Scoped = scope_command base act s c in
      let h = opened_in_order u cs (subst (λ x. x.broken ≡ None) g e) in
      ap (λ x. map bare x.opened) g ∙ h ∙ ap (λ t. t ++ opened_from base u.place cs) (opens s c)
      ∙ ap (λ k. (map bare s.opened ++ opened_by base s.place c) ++ opened_from base k cs) (place_next s c)
      ∙ append_assoc (map bare s.opened) (opened_by base s.place c) (opened_from base (suc s.place) cs)

  touches_next : (s : Scoped) (c : Command) → (scope_command base act s c).touched ≡ s.touched ++ touches_by base act c
  touches_next s (Accesses part xs) = refl
  touches_next s (Bars b) = refl

  -- and so is what it touches
  pub touches_all : (s : Scoped) (cs : List Command) → (scope_all base made clock act s cs).broken ≡ None →
      (scope_all base made clock act s cs).touched ≡ s.touched ++ touches_of base act cs
  touches_all s [] e = sym (append-nil s.touched)
  touches_all s (c ∷ cs) e =
      let g = goes_on base made clock act s c cs e in
      let h = touches_all (scope_command base act s c) cs (subst (λ (u : Scoped). u.broken ≡ None) g e) in
      ap (λ (u : Scoped). u.touched) g
      ∙ (h ∙ (ap (λ ts. ts ++ touches_of base act cs) (touches_next s c) ∙ append_assoc s.touched (touches_by base act c) (touches_of base act cs)))
