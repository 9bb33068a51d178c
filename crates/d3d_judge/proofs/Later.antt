-- A later access of a clean scope covers an earlier one that it meets.
use Rattle.std.proofs.Common.{ℕ, zero, suc, ◌≡◌, ◌∙◌, List, [], ◌∷◌, ◌++◌, map, slice_get, subst, sym, ap, refl, arith, true, false, Bool, ◌&&◌, cond, Some, None}
use Rattle.dx_base.proofs.Each.{each_got}
use Rattle.dx_base.specs.Each.{Each}
use Rattle.clocks.specs.declared.clock.Clock.{Clock}
use Rattle.clocks.specs.Clocks.{Act}
use Rattle.dx_flags.specs.declared.atoms.Part.{Part}
use Rattle.enhanced_barriers.specs.declared.barriers.Barrier.{Barrier}
use Rattle.d3d_judge.specs.Commands.{Access, pair_of, Command, Accesses, Bars, is_change}
use Rattle.d3d_judge.specs.Setting.{Setting}
use Rattle.d3d_judge.specs.Touches.{Touch, conflict, overlaps, doing_of}
use Rattle.d3d_judge.specs.Scopes.{Opened, Scoped, reaches, concerns, with_adder, added, opened_of, change_opened, named, scope_command, scope_all}
use Rattle.d3d_judge.specs.Covering.{Covering, IsCoveredLater}
use Rattle.d3d_judge.proofs.Scopes.{was_clean, scope_append, goes_on}
use Rattle.d3d_judge.proofs.Covers.{scope_covers}

-- an opened access is at its place of the list, but for its adders
record Stays (opened : List Opened) (j : ℕ) (o : Opened) : Type 0 where
  later : Opened
  there : slice_get opened j ≡ Some later
  place : later.place ≡ o.place
  range : later.range ≡ o.range
  doing : later.doing ≡ o.doing
  own : later.own ≡ o.own

map_got : {A B : Type 0} (f : A → B) (xs : List A) (more : List B) (k : ℕ) (x : A) → slice_get xs k ≡ Some x → slice_get (map f xs ++ more) k ≡ Some (f x)
map_got f [] more zero x e = absurd (grind (arith, e))
map_got f [] more (suc k) x e = absurd (grind (arith, e))
map_got f (y ∷ xs) more zero x e = let same : y ≡ x = grind (arith, e) in ap (λ z. Some (f z)) same
map_got f (y ∷ xs) more (suc k) x e = map_got f xs more k x e

got_left : {A : Type 0} (xs more : List A) (k : ℕ) (x : A) → slice_get xs k ≡ Some x → slice_get (xs ++ more) k ≡ Some x
got_left [] more zero x e = absurd (grind (arith, e))
got_left [] more (suc k) x e = absurd (grind (arith, e))
got_left (y ∷ xs) more zero x e = e
got_left (y ∷ xs) more (suc k) x e = got_left xs more k x e

got_right : {A : Type 0} (xs more : List A) (k : ℕ) (x : A) → slice_get more k ≡ Some x → (i : ℕ) × (slice_get (xs ++ more) i ≡ Some x)
got_right [] more k x e = (k, e)
got_right (y ∷ xs) more k x e = let on = got_right xs more k x e in (suc on.0, on.1)

map_at : {A B : Type 0} (f : A → B) (xs : List A) (k : ℕ) (x : A) → slice_get xs k ≡ Some x → slice_get (map f xs) k ≡ Some (f x)
map_at f [] zero x e = absurd (grind (arith, e))
map_at f [] (suc k) x e = absurd (grind (arith, e))
map_at f (y ∷ xs) zero x e = let same : y ≡ x = grind (arith, e) in ap (λ z. Some (f z)) same
map_at f (y ∷ xs) (suc k) x e = map_at f xs k x e

adder_stays : (t : Bool) (k : ℕ) (b : Barrier) (opened : List Opened) (j : ℕ) (o : Opened) (is : Stays opened j o) → (more : List Opened) → slice_get more j ≡ Some (with_adder t k b is.later) → Stays more j o
adder_stays true k b opened j o is more e = record { later = with_adder true k b is.later; there = e; place = is.place; range = is.range; doing = is.doing; own = is.own }
adder_stays false k b opened j o is more e = record { later = is.later; there = e; place = is.place; range = is.range; doing = is.doing; own = is.own }

module _ (base : Setting) (made : List Touch) (clock : Clock) (act : Act) where
  stays_step : (s : Scoped) (c : Command) (j : ℕ) (o : Opened) → Stays s.opened j o → Stays (scope_command base act s c).opened j o
  stays_step s (Accesses part xs) j o is = record { later = is.later; there = got_left s.opened (map (opened_of s.place part) xs) j is.later is.there; place = is.place; range = is.range; doing = is.doing; own = is.own }
  stays_step s (Bars b) j o is =
      adder_stays (concerns b.scope is.later.range && reaches is.later b) s.place b s.opened j o is _
      (map_got (added s.place b) s.opened (cond (is_change b) (map (change_opened s.place b) (named base b.scope)) []) j is.later is.there)

  stays : (s : Scoped) (rest : List Command) (j : ℕ) (o : Opened) → (scope_all base made clock act s rest).broken ≡ None → Stays s.opened j o → Stays (scope_all base made clock act s rest).opened j o
  stays s [] j o e is = is
  stays s (c ∷ rest) j o e is =
      let g = goes_on base made clock act s c rest e in
      subst (λ (u : Scoped). Stays u.opened j o) (sym g) (stays (scope_command base act s c) rest j o (subst (λ (u : Scoped). u.broken ≡ None) g e) (stays_step s c j o is))

  pub later_covers : (s : Scoped) (ys zs ws : List Command) (part other : Part) (xs us : List Access) → s.place ≡ 0 → s.opened ≡ [] →
      (scope_all base made clock act s ((ys ++ Accesses part xs ∷ zs) ++ Accesses other us ∷ ws)).broken ≡ None →
      (i : ℕ) (a : Access) → slice_get xs i ≡ Some a → (k : ℕ) (b : Access) → slice_get us k ≡ Some b → conflict (doing_of a) (doing_of b) ≡ true → overlaps a.range b.range ≡ true →
      IsCoveredLater ((ys ++ Accesses part xs ∷ zs) ++ Accesses other us ∷ ws) (scope_all base made clock act s ys).place (scope_all base made clock act s (ys ++ Accesses part xs ∷ zs)).place (pair_of part a) (pair_of other b)
  later_covers s ys zs ws part other xs us z empty clean i a at_a k b at_b meet over = record {
    opened = is.later;
    place = is.place;
    pair_is = is.own;
    covering = each_got (C b) u.opened place.0 is.later (each_got (λ x. Each (C x) u.opened) us k b (scope_covers base made clock act s before ws other us z empty clean) at_b) is.there
        (subst (λ x. conflict x (doing_of b) ≡ true) (sym is.doing) meet) (subst (λ x. overlaps x b.range ≡ true) (sym is.range) over);
  } where
    before : List Command
    before = ys ++ Accesses part xs ∷ zs

    cs : List Command
    cs = before ++ Accesses other us ∷ ws

    first : Scoped
    first = scope_all base made clock act s ys

    u : Scoped
    u = scope_all base made clock act s before

    C : Access → Opened → Type 0
    C x o = conflict o.doing (doing_of x) ≡ true → overlaps o.range x.range ≡ true → Covering cs u.place o (pair_of other x)

    clean_before : u.broken ≡ None
    clean_before = was_clean base made clock act u (Accesses other us ∷ ws) (subst (λ (t : Scoped). t.broken ≡ None) (scope_append base made clock act s before (Accesses other us ∷ ws)) clean)

    split : u ≡ scope_all base made clock act first (Accesses part xs ∷ zs)
    split = scope_append base made clock act s ys (Accesses part xs ∷ zs)

    clean_split : (scope_all base made clock act first (Accesses part xs ∷ zs)).broken ≡ None
    clean_split = subst (λ (t : Scoped). t.broken ≡ None) split clean_before

    on : scope_all base made clock act first (Accesses part xs ∷ zs) ≡ scope_all base made clock act (scope_command base act first (Accesses part xs)) zs
    on = goes_on base made clock act first (Accesses part xs) zs clean_split

    place : (j : ℕ) × (slice_get (first.opened ++ map (opened_of first.place part) xs) j ≡ Some (opened_of first.place part a))
    place = got_right first.opened (map (opened_of first.place part) xs) i (opened_of first.place part a) (map_at (opened_of first.place part) xs i a at_a)

    is : Stays u.opened place.0 (opened_of first.place part a)
    is = subst (λ (t : Scoped). Stays t.opened place.0 (opened_of first.place part a)) (sym (split ∙ on))
        (stays (scope_command base act first (Accesses part xs)) zs place.0 (opened_of first.place part a) (subst (λ (t : Scoped). t.broken ≡ None) on clean_split)
        (record { later = opened_of first.place part a; there = place.1; place = refl; range = refl; doing = refl; own = refl }))
