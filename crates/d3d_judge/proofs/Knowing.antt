-- What the tests of a command tell that breaks no rule, and what a clean scope knows.
use Rattle.std.proofs.Common.{◌≡◌, List, [], ◌∷◌, ◌++◌, drop, map, subst, sym, refl, arith, true, false, Bool, not, ◌&&◌, ◌||◌, Option, Some, None, append-nil}
use Rattle.std.specs.List.{list_any}
use Rattle.dx_base.proofs.Each.{each_both, each_append}
use Rattle.dx_base.specs.Each.{Each}
use Rattle.clocks.specs.declared.clock.Clock.{Clock}
use Rattle.clocks.specs.Clocks.{Act, knows}
use Rattle.dx_flags.specs.declared.atoms.Part.{Part}
use Rattle.verdicts.specs.declared.rules.Rule.{Rule}
use Rattle.verdicts.specs.declared.rules.Rule.TheVariants as rule
use Rattle.d3d_judge.specs.Commands.{Range, Access, Command, Accesses, Bars}
use Rattle.d3d_judge.specs.Setting.{Setting}
use Rattle.d3d_judge.specs.Touches.{Touch, meets, is_operation, breaks_one, breaks_ten, touch_of, touch_of_barrier}
use Rattle.d3d_judge.specs.Scopes.{Scoped, breaks_two, breaks_three, breaks_twelve, or_rule, rule_of_accesses, named, rule_of_command, scope_command, scope_all}
use Rattle.d3d_judge.specs.Covering.{Known}
use Rattle.d3d_judge.proofs.Scopes.{not_none, keeps}

pub or_rule_test : (b : Bool) (r : Rule) (next : Option Rule) → or_rule b r next ≡ None → b ≡ false
or_rule_test true r next e = not_none r (Some r) refl e
or_rule_test false r next e = refl

pub or_rule_next : (b : Bool) (r : Rule) (next : Option Rule) → or_rule b r next ≡ None → next ≡ None
or_rule_next true r next e = not_none r (Some r) refl e
or_rule_next false r next e = e

pub or_left : (a b : Bool) → (a || b) ≡ false → a ≡ false
or_left true b e = e
or_left false b e = refl

pub or_right : (a b : Bool) → (a || b) ≡ false → b ≡ false
or_right true b e = absurd (grind (arith, e))
or_right false b e = e

module _ {A : Type 0} where
  pub each_not : (f : A → Bool) (xs : List A) → list_any f xs ≡ false → Each (λ x. f x ≡ false) xs
  each_not f [] e = tt
  each_not f (x ∷ xs) e = (or_left (f x) (list_any f xs) e, each_not f xs (or_right (f x) (list_any f xs) e))

  pub each_of_map : {B : Type 0} (P : B → Type 0) (f : A → B) (xs : List A) → Each (λ x. P (f x)) xs → Each P (map f xs)
  each_of_map P f [] e = tt
  each_of_map P f (x ∷ xs) e = (e.0, each_of_map P f xs e.1)

  -- an item that passes a test, with a fact of it
  pub record Found (f : A → Bool) (Q : A → Type 0) : Type 0 where
    pub item : A
    pub passes : f item ≡ true
    pub fact : Q item

  find_in : (f : A → Bool) (Q : A → Type 0) (x : A) (b : Bool) (rest : Bool) → f x ≡ b → (b || rest) ≡ true → Q x → (rest ≡ true → Found f Q) → Found f Q
  find_in f Q x true rest e o q next = record { item = x; passes = e; fact = q }
  find_in f Q x false rest e o q next = next o

  pub any_each : (f : A → Bool) (Q : A → Type 0) (xs : List A) → list_any f xs ≡ true → Each Q xs → Found f Q
  any_each f Q [] e q = absurd (grind (arith, e))
  any_each f Q (x ∷ xs) e q = find_in f Q x (f x) (list_any f xs) refl e q.0 (λ h. any_each f Q xs h q.1)

known_by : (a b c : Bool) → (a && (b && not c)) ≡ false → (not a && (b && not c)) ≡ false → b ≡ true → c ≡ true
known_by a b true e f h = refl
known_by true b false e f h = absurd (grind (arith, e, h))
known_by false b false e f h = absurd (grind (arith, f, h))

known : (clock : Clock) (made : List Touch) (t : Touch) → breaks_one clock made t ≡ false → breaks_ten clock made t ≡ false → Known clock made t
known clock made t e f =
    each_both (λ m. (is_operation m.act && (meets m t && not (knows clock m.act))) ≡ false)
    (λ m. (not (is_operation m.act) && (meets m t && not (knows clock m.act))) ≡ false)
    (λ m. meets m t ≡ true → knows clock m.act ≡ true) made
    (λ m h k. known_by (is_operation m.act) (meets m t) (knows clock m.act) h k)
    (each_not (λ m. is_operation m.act && (meets m t && not (knows clock m.act))) made e)
    (each_not (λ m. not (is_operation m.act) && (meets m t && not (knows clock m.act))) made f)

module _ (base : Setting) (made : List Touch) (clock : Clock) (act : Act) where
  -- the tests of a command that breaks no rule
  pub record Passes (s : Scoped) (part : Part) (xs : List Access) : Type 0 where
    pub one : list_any (λ a. breaks_one clock made (touch_of act a)) xs ≡ false
    pub two : breaks_two s.place part s.opened xs ≡ false
    pub three : list_any (breaks_three base s.layouts) xs ≡ false
    pub ten : list_any (λ a. breaks_ten clock made (touch_of act a)) xs ≡ false
    pub twelve : list_any (breaks_twelve s.lost) xs ≡ false

  pub passes : (s : Scoped) (part : Part) (xs : List Access) → rule_of_accesses base made clock act s part xs ≡ None → Passes s part xs
  passes s part xs e =
      let e2 = or_rule_next (list_any (λ a. breaks_one clock made (touch_of act a)) xs) rule.B1 _ e in
      let e3 = or_rule_next (breaks_two s.place part s.opened xs) rule.B2 _ e2 in
      let e4 = or_rule_next (list_any (breaks_three base s.layouts) xs) rule.B3 _ e3 in
      let e5 = or_rule_next (list_any (λ a. breaks_ten clock made (touch_of act a)) xs) rule.B10 _ e4 in
      record { one = or_rule_test _ rule.B1 _ e; two = or_rule_test _ rule.B2 _ e2; three = or_rule_test _ rule.B3 _ e3; ten = or_rule_test _ rule.B10 _ e4; twelve = or_rule_test _ rule.B12 _ e5 }

  known_step : (s : Scoped) (c : Command) → rule_of_command base made clock act s c ≡ None → Each (Known clock made) s.touched → Each (Known clock made) (scope_command base act s c).touched
  known_step s (Accesses part xs) e h =
      let p = passes s part xs e in
      each_append (Known clock made) s.touched (map (touch_of act) xs) h
      (each_of_map (Known clock made) (touch_of act) xs
      (each_both (λ a. breaks_one clock made (touch_of act a) ≡ false) (λ a. breaks_ten clock made (touch_of act a) ≡ false) (λ a. Known clock made (touch_of act a)) xs
      (λ a. known clock made (touch_of act a))
      (each_not (λ a. breaks_one clock made (touch_of act a)) xs p.one) (each_not (λ a. breaks_ten clock made (touch_of act a)) xs p.ten)))
  known_step s (Bars b) e h =
      let rs : List Range = named base b.scope in
      let e1 = or_rule_test (list_any (λ r. breaks_one clock made (touch_of_barrier act b r)) rs) rule.B1 _ e in
      let e2 = or_rule_next (list_any (λ r. breaks_one clock made (touch_of_barrier act b r)) rs) rule.B1 _ e in
      let e3 = or_rule_next _ rule.B2 _ e2 in let e4 = or_rule_next _ rule.B4 _ e3 in let e5 = or_rule_next _ rule.B5 _ e4 in
      let e6 = or_rule_test (list_any (λ r. breaks_ten clock made (touch_of_barrier act b r)) rs) rule.B10 None e5 in
      each_append (Known clock made) s.touched (map (touch_of_barrier act b) rs) h
      (each_of_map (Known clock made) (touch_of_barrier act b) rs
      (each_both (λ r. breaks_one clock made (touch_of_barrier act b r) ≡ false) (λ r. breaks_ten clock made (touch_of_barrier act b r) ≡ false) (λ r. Known clock made (touch_of_barrier act b r)) rs
      (λ r. known clock made (touch_of_barrier act b r))
      (each_not (λ r. breaks_one clock made (touch_of_barrier act b r)) rs e1) (each_not (λ r. breaks_ten clock made (touch_of_barrier act b r)) rs e6)))

  -- a clean scope knows each made touch that meets one of its own
  pub scope_knows : (s : Scoped) (cs : List Command) → s.place ≡ 0 → s.touched ≡ [] → (scope_all base made clock act s cs).broken ≡ None →
      Each (Known clock made) (scope_all base made clock act s cs).touched
  scope_knows s cs z n e =
      keeps base made clock act cs [] (λ u. Each (Known clock made) u.touched) (λ u c g r h. known_step u c r h) s cs
      (subst (λ k. drop k cs ≡ cs ++ []) (sym z) (sym (append-nil cs))) (subst (λ ts. Each (Known clock made) ts) (sym n) tt) e
