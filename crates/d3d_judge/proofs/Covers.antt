-- In a clean scope each conflict of two commands is covered by a barrier between them.
use Rattle.std.proofs.Common.{ℕ, suc, ◌<◌, ◌≡◌, List, [], ◌∷◌, ◌++◌, drop, map, slice_get, subst, sym, refl, arith, true, false, Bool, not, ◌&&◌, ◌||◌, cond, Some, None}
use Rattle.std.specs.List.{list_any}
use Rattle.dx_base.proofs.Each.{each_on, each_both, each_any, each_append, each_first}
use Rattle.dx_base.specs.Each.{Each}
use Rattle.clocks.specs.declared.clock.Clock.{Clock}
use Rattle.clocks.specs.Clocks.{Act}
use Rattle.dx_flags.specs.declared.atoms.Part.{Part}
use Rattle.enhanced_barriers.specs.declared.barriers.Barrier.{Barrier}
use Rattle.enhanced_barriers.specs.Cover.{after_has}
use Rattle.d3d_judge.specs.Commands.{Range, Access, Pair, pair_of, Command, Accesses, Bars, chains, is_change}
use Rattle.d3d_judge.specs.Setting.{Setting}
use Rattle.d3d_judge.specs.Touches.{Touch, conflict, overlaps, doing_of}
use Rattle.d3d_judge.specs.Scopes.{Adder, Opened, Scoped, own_before, covered, reaches, concerns, with_adder, added, opened_of, change_opened, uncovers, breaks_two, named, rule_of_command, scope_command, scope_all}
use Rattle.d3d_judge.specs.Covering.{Adds, itself, by_own, by_part, IsOpened, Covering}
use Rattle.d3d_judge.proofs.Carried.{each_one_more}
use Rattle.d3d_judge.proofs.Scopes.{keeps, clean_at, was_clean, scope_append}
use Rattle.d3d_judge.proofs.Knowing.{each_not, each_of_map, Found, any_each, passes, or_left, or_right}

and_left : (a b : Bool) → (a && b) ≡ true → a ≡ true
and_left true b e = refl
and_left false b e = e

and_right : (a b : Bool) → (a && b) ≡ true → b ≡ true
and_right true b e = e
and_right false b e = absurd (grind (arith, e))

or_cases : {P : Type 0} (a b : Bool) → (a || b) ≡ true → (a ≡ true → P) → (b ≡ true → P) → P
or_cases {P} true b e f g = f refl
or_cases {P} false b e f g = g e

-- an adder of an opened access, before a place
abbrev AddsBefore : List Command → ℕ → Opened → Adder → Type 0
AddsBefore cs k o l = (l.place < k) × Adds cs o.place o.range o.own l.place l.barrier

later : (cs : List Command) (k : ℕ) (o : Opened) → IsOpened cs k o → IsOpened cs (suc k) o
later cs k o z = record {
  earlier = let h = z.earlier in omega (arith, h);
  adders = each_on (AddsBefore cs k o) (AddsBefore cs (suc k) o) o.adders (λ l a. (let h = a.0 in omega (arith, h), a.1)) z.adders;
}

adds_now : (cs : List Command) (k : ℕ) (b : Barrier) (o : Opened) → slice_get cs k ≡ Some (Bars b) → IsOpened cs k o → concerns b.scope o.range ≡ true → reaches o b ≡ true →
    Adds cs o.place o.range o.own k b
adds_now cs k b o g z c r =
    or_cases (own_before b o.own) (list_any (λ l. chains l.barrier b) o.adders) r
    (λ h. by_own k b z.earlier g c h)
    (λ h. let f : Found (λ l. chains l.barrier b) (AddsBefore cs k o) = any_each (λ l. chains l.barrier b) (AddsBefore cs k o) o.adders h z.adders in
    by_part f.item.place f.item.barrier k b f.fact.1 f.fact.0 g c f.passes)

with_adder_is : (cs : List Command) (k : ℕ) (b : Barrier) (o : Opened) (t : Bool) → IsOpened cs (suc k) o → (t ≡ true → Adds cs o.place o.range o.own k b) →
    IsOpened cs (suc k) (with_adder t k b o)
with_adder_is cs k b o false z h = z
with_adder_is cs k b o true z h = record {
  earlier = z.earlier;
  adders = each_one_more (AddsBefore cs (suc k) o) o.adders (record { place = k; barrier = b }) z.adders (omega arith, h refl);
}

added_is : (cs : List Command) (k : ℕ) (b : Barrier) (o : Opened) → slice_get cs k ≡ Some (Bars b) → IsOpened cs k o → IsOpened cs (suc k) (added k b o)
added_is cs k b o g z =
    with_adder_is cs k b o (concerns b.scope o.range && reaches o b) (later cs k o z)
    (λ h. adds_now cs k b o g z (and_left (concerns b.scope o.range) (reaches o b) h) (and_right (concerns b.scope o.range) (reaches o b) h))

changes_are : (cs : List Command) (k : ℕ) (b : Barrier) (rs : List Range) (t : Bool) → slice_get cs k ≡ Some (Bars b) → (t ≡ true → is_change b ≡ true) →
    Each (IsOpened cs (suc k)) (cond t (map (change_opened k b) rs) [])
changes_are cs k b rs false g h = tt
changes_are cs k b rs true g h =
    each_of_map (IsOpened cs (suc k)) (change_opened k b) rs
    (each_any (λ r. IsOpened cs (suc k) (change_opened k b r)) (λ r. record { earlier = omega arith; adders = ((omega arith, itself b g (h refl)), tt) }) rs)

pub covers_by : (b c d : Bool) → (b && (c && not d)) ≡ false → b ≡ true → c ≡ true → d ≡ true
covers_by b c true e f g = refl
covers_by true true false e f g = absurd (grind (arith, e))
covers_by true false false e f g = absurd (grind (arith, g))
covers_by false c false e f g = absurd (grind (arith, f))

module _ (base : Setting) (made : List Touch) (clock : Clock) (act : Act) where
  opened_step : (cs : List Command) (s : Scoped) (c : Command) → slice_get cs s.place ≡ Some c → rule_of_command base made clock act s c ≡ None →
      Each (IsOpened cs s.place) s.opened → Each (IsOpened cs (scope_command base act s c).place) (scope_command base act s c).opened
  opened_step cs s (Accesses part xs) g e z =
      each_append (IsOpened cs (suc s.place)) s.opened (map (opened_of s.place part) xs)
      (each_on (IsOpened cs s.place) (IsOpened cs (suc s.place)) s.opened (λ o. later cs s.place o) z)
      (each_of_map (IsOpened cs (suc s.place)) (opened_of s.place part) xs
      (each_any (λ a. IsOpened cs (suc s.place) (opened_of s.place part a)) (λ a. record { earlier = omega arith; adders = tt }) xs))
  opened_step cs s (Bars b) g e z =
      each_append (IsOpened cs (suc s.place)) (map (added s.place b) s.opened) (cond (is_change b) (map (change_opened s.place b) (named base b.scope)) [])
      (each_of_map (IsOpened cs (suc s.place)) (added s.place b) s.opened
      (each_on (IsOpened cs s.place) (λ o. IsOpened cs (suc s.place) (added s.place b o)) s.opened (λ o. added_is cs s.place b o g) z))
      (changes_are cs s.place b (named base b.scope) (is_change b) g (λ h. h))

  pub all_opened : (cs more : List Command) (s : Scoped) (rest : List Command) → drop s.place cs ≡ rest ++ more → Each (IsOpened cs s.place) s.opened →
      (scope_all base made clock act s rest).broken ≡ None →
      Each (IsOpened cs (scope_all base made clock act s rest).place) (scope_all base made clock act s rest).opened
  all_opened cs more s rest d z e =
      keeps base made clock act cs more (λ u. Each (IsOpened cs u.place) u.opened) (opened_step cs) s rest d z e

  pub two_each : (k : ℕ) (part : Part) (opened : List Opened) (xs : List Access) → breaks_two k part opened xs ≡ false → Each (λ a. Each (λ o. uncovers part a o ≡ false) opened) xs
  two_each k part opened [] e = tt
  two_each k part opened (a ∷ xs) e = (
    each_not (uncovers part a) opened (or_left (list_any (uncovers part a) opened) (breaks_two k part (opened ++ opened_of k part a ∷ []) xs) e),
    each_on (λ x. Each (λ o. uncovers part x o ≡ false) (opened ++ opened_of k part a ∷ [])) (λ x. Each (λ o. uncovers part x o ≡ false) opened) xs
        (λ x. each_first (λ o. uncovers part x o ≡ false) opened (opened_of k part a ∷ []))
        (two_each k part (opened ++ opened_of k part a ∷ []) xs (or_right (list_any (uncovers part a) opened) (breaks_two k part (opened ++ opened_of k part a ∷ []) xs) e)),
  )

  covering : (cs : List Command) (k : ℕ) (o : Opened) (pair : Pair) → IsOpened cs k o → covered o pair ≡ true → Covering cs k o pair
  covering cs k o pair z h =
      let f : Found (λ l. after_has l.barrier pair.part pair.kind) (AddsBefore cs k o) =
      any_each (λ l. after_has l.barrier pair.part pair.kind) (AddsBefore cs k o) o.adders h z.adders in
      record { at = f.item.place; barrier = f.item.barrier; before = f.fact.0; adds = f.fact.1; has = f.passes }

  -- each earlier access that meets one of a command is covered
  pub scope_covers : (s : Scoped) (ys zs : List Command) (part : Part) (xs : List Access) → s.place ≡ 0 → s.opened ≡ [] →
      (scope_all base made clock act s (ys ++ Accesses part xs ∷ zs)).broken ≡ None →
      Each (λ a. Each (λ o. conflict o.doing (doing_of a) ≡ true → overlaps o.range a.range ≡ true →
      Covering (ys ++ Accesses part xs ∷ zs) (scope_all base made clock act s ys).place o (pair_of part a)) (scope_all base made clock act s ys).opened) xs
  scope_covers s ys zs part xs z n e =
      let u : Scoped = scope_all base made clock act s ys in
      let b : u.broken ≡ None = was_clean base made clock act u (Accesses part xs ∷ zs) (subst (λ t. t.broken ≡ None) (scope_append base made clock act s ys (Accesses part xs ∷ zs)) e) in
      let p = passes base made clock act u part xs (clean_at base made clock act s ys zs (Accesses part xs) e) in
      let op : Each (IsOpened (ys ++ Accesses part xs ∷ zs) u.place) u.opened =
      all_opened (ys ++ Accesses part xs ∷ zs) (Accesses part xs ∷ zs) s ys (subst (λ k. drop k (ys ++ Accesses part xs ∷ zs) ≡ ys ++ Accesses part xs ∷ zs) (sym z) refl)
      (subst (λ os. Each (IsOpened (ys ++ Accesses part xs ∷ zs) s.place) os) (sym n) tt) b in
      each_on (λ a. Each (λ o. uncovers part a o ≡ false) u.opened)
      (λ a. Each (λ o. conflict o.doing (doing_of a) ≡ true → overlaps o.range a.range ≡ true → Covering (ys ++ Accesses part xs ∷ zs) u.place o (pair_of part a)) u.opened) xs
      (λ a h. each_both (IsOpened (ys ++ Accesses part xs ∷ zs) u.place) (λ o. uncovers part a o ≡ false)
      (λ o. conflict o.doing (doing_of a) ≡ true → overlaps o.range a.range ≡ true → Covering (ys ++ Accesses part xs ∷ zs) u.place o (pair_of part a)) u.opened
      (λ o i t c v. covering (ys ++ Accesses part xs ∷ zs) u.place o (pair_of part a) i (covers_by (conflict o.doing (doing_of a)) (overlaps o.range a.range) (covered o (pair_of part a)) t c v))
      op h)
      (two_each u.place part u.opened xs p.two)
