-- Sets of covered pairs, and thresholds in their place.
use Rattle.std.proofs.Common.{ℕ, ◌≤◌, ◌<◌, ◌≡◌, ◌∙◌, nat_lt, max, Bool, true, false, cond, ◌&&◌, ◌||◌, refl, ap, sym, arith, List, [], ◌∷◌, ◌++◌, map, Option}
use Rattle.std.specs.List.{list_any, flat_map}
use Rattle.dx_flags.specs.Kinds.{all_kinds, has_kind}
use Rattle.dx_flags.specs.Parts.{all_parts, has_part}
use Rattle.dx_flags.specs.declared.atoms.Kind.{Kind}
use Rattle.dx_flags.specs.declared.atoms.Part.{Part}
use Rattle.enhanced_barriers.specs.declared.barriers.Barrier.{Barrier}
use Rattle.enhanced_barriers.specs.Cover.{after_has}
use Rattle.d3d_judge.specs.Commands.{Pair, chains}
use Rattle.d3d_judge.specs.Scopes.{Adder, Opened, own_before, covered, reaches, concerns, with_adder, added}
use Rattle.d3d_judge.specs.Thresholds.{pairs_of_part, all_pairs, set_reaches, grown, most_met, reached_before, lifted}

or_false : (a : Bool) → (a || false) ≡ a
or_false true = refl
or_false false = refl

or_assoc : (a b c : Bool) → ((a || b) || c) ≡ (a || (b || c))
or_assoc true b c = refl
or_assoc false b c = refl

or_four : (a b c d : Bool) → ((a || b) || (c || d)) ≡ ((a || c) || (b || d))
or_four true b c d = refl
or_four false true true d = refl
or_four false true false d = refl
or_four false false c d = refl

and_or : (a b c : Bool) → ((a || b) && c) ≡ ((a && c) || (b && c))
and_or true true c = grind arith
and_or true false c = grind arith
and_or false b c = refl

module _ {A : Type 0} where
  any_append : (f : A → Bool) (xs ys : List A) → list_any f (xs ++ ys) ≡ (list_any f xs || list_any f ys)
  any_append f [] ys = refl
  any_append f (x ∷ xs) ys = ap (λ t. f x || t) (any_append f xs ys) ∙ sym (or_assoc (f x) (list_any f xs) (list_any f ys))

  any_alike : (f g : A → Bool) (xs : List A) → ((x : A) → f x ≡ g x) → list_any f xs ≡ list_any g xs
  any_alike f g [] h = refl
  any_alike f g (x ∷ xs) h = ap (λ t. t || list_any f xs) (h x) ∙ ap (λ t. g x || t) (any_alike f g xs h)

  any_none : (xs : List A) → list_any (λ _. false) xs ≡ false
  any_none [] = refl
  any_none (x ∷ xs) = any_none xs

  any_both : (f g : A → Bool) (xs : List A) → (list_any f xs || list_any g xs) ≡ list_any (λ x. f x || g x) xs
  any_both f g [] = refl
  any_both f g (x ∷ xs) = or_four (f x) (list_any f xs) (g x) (list_any g xs) ∙ ap (λ t. (f x || g x) || t) (any_both f g xs)

  any_and : (f : A → Bool) (c : Bool) (xs : List A) → list_any (λ x. f x && c) xs ≡ (list_any f xs && c)
  any_and f c [] = refl
  any_and f c (x ∷ xs) = ap (λ t. (f x && c) || t) (any_and f c xs) ∙ sym (and_or (f x) (list_any f xs) c)

any_map : {A B : Type 0} (f : B → Bool) (g : A → B) (xs : List A) → list_any f (map g xs) ≡ list_any (λ x. f (g x)) xs
any_map f g [] = refl
any_map f g (x ∷ xs) = ap (λ t. f (g x) || t) (any_map f g xs)

any_flat : {A B : Type 0} (f : B → Bool) (g : A → List B) (xs : List A) → list_any f (flat_map g xs) ≡ list_any (λ x. list_any f (g x)) xs
any_flat f g [] = refl
any_flat f g (x ∷ xs) = any_append f (g x) (flat_map g xs) ∙ ap (λ t. list_any f (g x) || t) (any_flat f g xs)

any_swap : {A B : Type 0} (f : A → B → Bool) (xs : List A) (ys : List B) →
    list_any (λ x. list_any (f x) ys) xs ≡ list_any (λ y. list_any (λ x. f x y) xs) ys
any_swap f [] ys = sym (any_none ys)
any_swap f (x ∷ xs) ys = ap (λ t. list_any (f x) ys || t) (any_swap f xs ys) ∙ any_both (f x) (λ y. list_any (λ x. f x y) xs) ys

pub after_is : (l : Barrier) (p : Part) (k : Kind) → after_has l p k ≡ (has_part p l.sync_after && has_kind k l.access_after)
unfolding after_has
after_is l p k = refl

turned : (a k c : Bool) → ((a && k) && c) ≡ (k && (a && c))
turned true true c = refl
turned true false c = refl
turned false true c = refl
turned false false c = refl

exchanged : (a c : Bool) → (a && c) ≡ (c && a)
exchanged true true = refl
exchanged true false = refl
exchanged false true = refl
exchanged false false = refl

-- of one part: a pair of the after side, and the part before
of_part : (l b : Barrier) (p : Part) →
    list_any (λ x. after_has l x.part x.kind && has_part x.part b.sync_before) (pairs_of_part p)
    ≡ ((has_part p l.sync_after && has_part p b.sync_before) && list_any (λ k. has_kind k l.access_after) all_kinds)
of_part l b p =
    any_map (λ (x : Pair). after_has l x.part x.kind && has_part x.part b.sync_before) (λ k. record { part = p; kind = k }) all_kinds
    ∙ (any_alike (λ k. after_has l p k && has_part p b.sync_before) (λ k. has_kind k l.access_after && (has_part p l.sync_after && has_part p b.sync_before)) all_kinds
    (λ k. ap (λ t. t && has_part p b.sync_before) (after_is l p k) ∙ turned (has_part p l.sync_after) (has_kind k l.access_after) (has_part p b.sync_before))
    ∙ (any_and (λ k. has_kind k l.access_after) (has_part p l.sync_after && has_part p b.sync_before) all_kinds
    ∙ exchanged (list_any (λ k. has_kind k l.access_after) all_kinds) (has_part p l.sync_after && has_part p b.sync_before)))

-- one barrier chains into another by some pair
chains_by_pairs : (l b : Barrier) → chains l b ≡ list_any (λ x. after_has l x.part x.kind && has_part x.part b.sync_before) all_pairs
chains_by_pairs l b =
    sym (any_flat (λ (x : Pair). after_has l x.part x.kind && has_part x.part b.sync_before) pairs_of_part all_parts
    ∙ (any_alike (λ p. list_any (λ x. after_has l x.part x.kind && has_part x.part b.sync_before) (pairs_of_part p))
    (λ p. (has_part p l.sync_after && has_part p b.sync_before) && list_any (λ k. has_kind k l.access_after) all_kinds) all_parts (of_part l b)
    ∙ any_and (λ p. has_part p l.sync_after && has_part p b.sync_before) (list_any (λ k. has_kind k l.access_after) all_kinds) all_parts))

-- the adders reach as the set of covered pairs does
adders_reach : (b : Barrier) (o : Opened) → list_any (λ l. chains l.barrier b) o.adders ≡ set_reaches b (covered o)
adders_reach b o =
    any_alike (λ (l : Adder). chains l.barrier b) (λ l. list_any (λ x. after_has l.barrier x.part x.kind && has_part x.part b.sync_before) all_pairs) o.adders
    (λ l. chains_by_pairs l.barrier b)
    ∙ (any_swap (λ (l : Adder) (x : Pair). after_has l.barrier x.part x.kind && has_part x.part b.sync_before) o.adders all_pairs
    ∙ any_alike (λ (x : Pair). list_any (λ (l : Adder). after_has l.barrier x.part x.kind && has_part x.part b.sync_before) o.adders)
    (λ x. covered o x && has_part x.part b.sync_before) all_pairs
    (λ x. any_and (λ (l : Adder). after_has l.barrier x.part x.kind) (has_part x.part b.sync_before) o.adders))

with_adder_grows : (c : Bool) (k : ℕ) (b : Barrier) (o : Opened) (y : Pair) → covered (with_adder c k b o) y ≡ (covered o y || (c && after_has b y.part y.kind))
with_adder_grows true k b o y =
    any_append (λ (l : Adder). after_has l.barrier y.part y.kind) o.adders ((record { place = k; barrier = b }) ∷ [])
    ∙ ap (λ t. covered o y || t) (or_false (after_has b y.part y.kind))
with_adder_grows false k b o y = sym (or_false (covered o y))

pub covers_grow : (k : ℕ) (b : Barrier) (o : Opened) (y : Pair) → covered (added k b o) y ≡ grown (concerns b.scope o.range) b o.own (covered o) y
covers_grow k b o y =
    with_adder_grows (concerns b.scope o.range && reaches o b) k b o y
    ∙ ap (λ t. covered o y || ((concerns b.scope o.range && (own_before b o.own || t)) && after_has b y.part y.kind)) (adders_reach b o)

below_max : (k a b : ℕ) → nat_lt k (max a b) ≡ (nat_lt k a || nat_lt k b)
below_max k a b = grind arith

one_met : (k t : ℕ) (m : Bool) → (nat_lt k t && m) ≡ nat_lt k (cond m t 0)
one_met k t true = grind arith
one_met k t false = grind arith

any_met : (k : ℕ) (b : Barrier) (s : Pair → Bool) (t : Pair → ℕ) (xs : List Pair) → ((y : Pair) → s y ≡ nat_lt k (t y)) →
    list_any (λ x. s x && has_part x.part b.sync_before) xs ≡ nat_lt k (most_met b t xs)
any_met k b s t [] h = grind arith
any_met k b s t (x ∷ xs) h =
    ap (λ y. (y && has_part x.part b.sync_before) || list_any (λ x. s x && has_part x.part b.sync_before) xs) (h x)
    ∙ (ap (λ y. y || list_any (λ x. s x && has_part x.part b.sync_before) xs) (one_met k (t x) (has_part x.part b.sync_before))
    ∙ (ap (λ y. nat_lt k (cond (has_part x.part b.sync_before) (t x) 0) || y) (any_met k b s t xs h)
    ∙ sym (below_max k (cond (has_part x.part b.sync_before) (t x) 0) (most_met b t xs))))

reach_is : (own : Bool) (k l m : ℕ) → k < l → (own || nat_lt k m) ≡ nat_lt k (cond own l m)
reach_is true k l m h = grind (arith, h)
reach_is false k l m h = refl

lift_is : (c a : Bool) (k t r : ℕ) → (nat_lt k t || ((c && nat_lt k r) && a)) ≡ nat_lt k (cond (c && a) (max t r) t)
lift_is true true k t r = grind arith
lift_is true false k t r = grind arith
lift_is false true k t r = grind arith
lift_is false false k t r = grind arith

pub thresholds_tell : (concerned : Bool) (l k : ℕ) (b : Barrier) (own : Option Pair) (s : Pair → Bool) (t : Pair → ℕ) → k < l →
    ((y : Pair) → s y ≡ nat_lt k (t y)) → (y : Pair) → grown concerned b own s y ≡ nat_lt k (lifted concerned l b own t y)
thresholds_tell concerned l k b own s t i h y =
    ap (λ z. z || ((concerned && (own_before b own || set_reaches b s)) && after_has b y.part y.kind)) (h y)
    ∙ (ap (λ z. nat_lt k (t y) || ((concerned && (own_before b own || z)) && after_has b y.part y.kind)) (any_met k b s t all_pairs h)
    ∙ (ap (λ z. nat_lt k (t y) || ((concerned && z) && after_has b y.part y.kind)) (reach_is (own_before b own) k l (most_met b t all_pairs) i)
    ∙ lift_is concerned (after_has b y.part y.kind) k (t y) (reached_before l b own t)))

pick : (m : Bool) (x y l : ℕ) → x ≤ l → y ≤ l → max (cond m x 0) y ≤ l
pick true x y l h g = omega (arith, h, g)
pick false x y l h g = omega (arith, h, g)

most_met_le : (l : ℕ) (b : Barrier) (t : Pair → ℕ) (xs : List Pair) → ((y : Pair) → t y ≤ l) → most_met b t xs ≤ l
most_met_le l b t [] h = omega arith
most_met_le l b t (x ∷ xs) h = pick (has_part x.part b.sync_before) (t x) (most_met b t xs) l (h x) (most_met_le l b t xs h)

lift_le : (c : Bool) (t r l : ℕ) → t ≤ l → r ≤ l → cond c (max t r) t ≤ l
lift_le true t r l h g = omega (arith, h, g)
lift_le false t r l h g = h

own_le : (own : Bool) (l m : ℕ) → m ≤ l → cond own l m ≤ l
own_le true l m h = omega arith
own_le false l m h = h

pub thresholds_are_behind : (concerned : Bool) (l : ℕ) (b : Barrier) (own : Option Pair) (t : Pair → ℕ) → ((y : Pair) → t y ≤ l) →
    (y : Pair) → lifted concerned l b own t y ≤ l
thresholds_are_behind concerned l b own t h y =
    lift_le (concerned && after_has b y.part y.kind) (t y) (reached_before l b own t) l (h y)
    (own_le (own_before b own) l (most_met b t all_pairs) (most_met_le l b t all_pairs h))
