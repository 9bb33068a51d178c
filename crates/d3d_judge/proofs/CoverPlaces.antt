-- The thresholds of the code are those of the definition.
use Rattle.std.proofs.Common.{ℕ, ◌≡◌, ◌<◌, ◌≤◌, nat_lt, ◌&&◌, ◌∙◌, cond, max, refl, ap, sym, arith, Bool, true, false, Option}
use Rattle.dx_flags.specs.declared.atoms.Part.{Part}
use Rattle.dx_flags.specs.declared.atoms.Part.TheVariants as part
use Rattle.dx_flags.specs.declared.atoms.Kind.{Kind}
use Rattle.dx_flags.specs.declared.atoms.Kind.TheVariants as kind
use Rattle.dx_flags.specs.declared.accesses.Access.{Access}
use Rattle.dx_flags.specs.Kinds.{has_kind}
use Rattle.dx_flags.specs.Parts.{has_part}
use Rattle.enhanced_barriers.specs.declared.barriers.Barrier.{Barrier}
use Rattle.enhanced_barriers.specs.Cover.{after_has}
use Rattle.d3d_judge.specs.Commands.{Pair, Access as Accessed}
use Rattle.d3d_judge.specs.Scopes.{Opened, covered, concerns, added, opened_of}
use Rattle.d3d_judge.specs.Thresholds.{all_pairs, lifted, most_met, reached_before}
use Rattle.d3d_judge.specs.CoverPlaces.{most_of, place_of_kind, places_of_part, place_of_pair}
use Rattle.d3d_judge.proofs.Thresholds.{after_is, covers_grow, thresholds_tell}
use Rattle.d3d_judge.specs.declared.cover_places.KindPlaces.{KindPlaces}
use Rattle.d3d_judge.specs.declared.cover_places.CoverPlaces.{CoverPlaces}

max_max : (a b m : ℕ) → max a (max b m) ≡ max (max a b) m
max_max a b m = omega arith

max_before : (m : ℕ) → max 0 m ≡ m
max_before m = omega arith

row_met : (h : Bool) (a b c d e m : ℕ) →
    max (cond h a 0) (max (cond h b 0) (max (cond h c 0) (max (cond h d 0) (max (cond h e 0) m)))) ≡ max (cond h (max a (max b (max c (max d e)))) 0) m
row_met true a b c d e m =
    ap (λ y. max a (max b (max c y))) (max_max d e m) ∙ (ap (λ y. max a (max b y)) (max_max c (max d e) m)
    ∙ (ap (λ y. max a y) (max_max b (max c (max d e)) m) ∙ max_max a (max b (max c (max d e))) m))
row_met false a b c d e m =
    ap (λ y. max 0 (max 0 (max 0 y))) (ap (λ y. max 0 y) (max_before m)) ∙ (ap (λ y. max 0 (max 0 (max 0 y))) (max_before m)
    ∙ (ap (λ y. max 0 (max 0 y)) (max_before m) ∙ ap (λ y. max 0 y) (max_before m)))

max_zero : (a : ℕ) → max a 0 ≡ a
max_zero a = omega arith

-- the greatest threshold, part by part
pub most_met_is : (b : Barrier) (p : CoverPlaces) →
    max (cond (has_part part.Copy b.sync_before) (most_of p.copy) 0)
    (max (cond (has_part part.Compute b.sync_before) (most_of p.compute) 0) (cond (has_part part.Clear b.sync_before) (most_of p.clear) 0))
    ≡ most_met b (place_of_pair p) all_pairs
most_met_is b p =
    let copies : ℕ = cond (has_part part.Copy b.sync_before) (most_of p.copy) 0 in
    let computes : ℕ = cond (has_part part.Compute b.sync_before) (most_of p.compute) 0 in
    let clears : ℕ = cond (has_part part.Clear b.sync_before) (most_of p.clear) 0 in
    let row : (h : Bool) (q : KindPlaces) (m : ℕ) →
    max (cond h q.unordered_access 0) (max (cond h q.shader_resource 0) (max (cond h q.constant_buffer 0) (max (cond h q.copy_source 0) (max (cond h q.copy_dest 0) m)))) ≡ max (cond h (most_of q) 0) m =
    λ h q m. row_met h q.unordered_access q.shader_resource q.constant_buffer q.copy_source q.copy_dest m in
    sym (row (has_part part.Copy b.sync_before) p.copy _ ∙ ap (λ y. max copies y)
    (row (has_part part.Compute b.sync_before) p.compute _ ∙ ap (λ y. max computes y)
    (row (has_part part.Clear b.sync_before) p.clear 0 ∙ max_zero clears)))

pub lifted_kinds : (p q : KindPlaces) (access : Access) (place : ℕ) →
    q.unordered_access ≡ cond (has_kind kind.UnorderedAccess access) (max p.unordered_access place) p.unordered_access →
    q.shader_resource ≡ cond (has_kind kind.ShaderResource access) (max p.shader_resource place) p.shader_resource →
    q.constant_buffer ≡ cond (has_kind kind.ConstantBuffer access) (max p.constant_buffer place) p.constant_buffer →
    q.copy_source ≡ cond (has_kind kind.CopySource access) (max p.copy_source place) p.copy_source →
    q.copy_dest ≡ cond (has_kind kind.CopyDest access) (max p.copy_dest place) p.copy_dest →
    (k : Kind) → place_of_kind q k ≡ cond (has_kind k access) (max (place_of_kind p k) place) (place_of_kind p k)
lifted_kinds p q access place a b c d e kind.UnorderedAccess = a
lifted_kinds p q access place a b c d e kind.ShaderResource = b
lifted_kinds p q access place a b c d e kind.ConstantBuffer = c
lifted_kinds p q access place a b c d e kind.CopySource = d
lifted_kinds p q access place a b c d e kind.CopyDest = e

and_same : (c p k : Bool) → ((c && p) && k) ≡ (c && (p && k))
and_same true p k = refl
and_same false p k = refl

abbrev pub lifts : Bool → KindPlaces → Access → ℕ → KindPlaces → Type 0
lifts applies p access place q = (k : Kind) → place_of_kind q k ≡ cond (applies && has_kind k access) (max (place_of_kind p k) place) (place_of_kind p k)

row_lifted : (c p k : Bool) (x y z : ℕ) → z ≡ cond ((c && p) && k) x y → z ≡ cond (c && (p && k)) x y
row_lifted c p k x y z e = e ∙ ap (λ t. cond t x y) (and_same c p k)

by_part : (p q : CoverPlaces) (c : Bool) (r : ℕ) (b : Barrier) → lifts (c && has_part part.Copy b.sync_after) p.copy b.access_after r q.copy →
    lifts (c && has_part part.Compute b.sync_after) p.compute b.access_after r q.compute →
    lifts (c && has_part part.Clear b.sync_after) p.clear b.access_after r q.clear →
    (x : Part) (k : Kind) → place_of_kind (places_of_part q x) k
    ≡ cond (c && (has_part x b.sync_after && has_kind k b.access_after)) (max (place_of_kind (places_of_part p x) k) r) (place_of_kind (places_of_part p x) k)
by_part p q c r b u v w part.Copy k = row_lifted c (has_part part.Copy b.sync_after) (has_kind k b.access_after) _ _ _ (u k)
by_part p q c r b u v w part.Compute k = row_lifted c (has_part part.Compute b.sync_after) (has_kind k b.access_after) _ _ _ (v k)
by_part p q c r b u v w part.Clear k = row_lifted c (has_part part.Clear b.sync_after) (has_kind k b.access_after) _ _ _ (w k)

-- the places after a barrier, part by part
pub lifted_is : (p q : CoverPlaces) (c : Bool) (l r : ℕ) (b : Barrier) (own : Option Pair) → r ≡ reached_before l b own (place_of_pair p) →
    lifts (c && has_part part.Copy b.sync_after) p.copy b.access_after r q.copy →
    lifts (c && has_part part.Compute b.sync_after) p.compute b.access_after r q.compute →
    lifts (c && has_part part.Clear b.sync_after) p.clear b.access_after r q.clear →
    (y : Pair) → place_of_pair q y ≡ lifted c l b own (place_of_pair p) y
lifted_is p q c l r b own e u v w y =
    by_part p q c r b u v w y.part y.kind
    ∙ (ap (λ t. cond (c && t) (max (place_of_pair p y) r) (place_of_pair p y)) (sym (after_is b y.part y.kind))
    ∙ ap (λ t. cond (c && after_has b y.part y.kind) (max (place_of_pair p y) t) (place_of_pair p y)) e)

pub places_tell : (k : ℕ) (b : Barrier) (o : Opened) (p q : CoverPlaces) → o.place < k → ((y : Pair) → covered o y ≡ nat_lt o.place (place_of_pair p y)) →
    ((y : Pair) → place_of_pair q y ≡ lifted (concerns b.scope o.range) k b o.own (place_of_pair p) y) → (y : Pair) →
    covered (added k b o) y ≡ nat_lt o.place (place_of_pair q y)
places_tell k b o p q l h g y =
    covers_grow k b o y ∙ (thresholds_tell (concerns b.scope o.range) k o.place b o.own (covered o) (place_of_pair p) l h y ∙ ap (λ t. nat_lt o.place t) (sym (g y)))

not_before : (k n : ℕ) → n ≤ k → false ≡ nat_lt k n
not_before k n l = grind (arith, l)

pub places_tell_first : (k : ℕ) (x : Part) (a : Accessed) (p : CoverPlaces) → ((y : Pair) → place_of_pair p y ≤ k) → (y : Pair) → covered (opened_of k x a) y ≡ nat_lt k (place_of_pair p y)
places_tell_first k x a p h y = not_before k (place_of_pair p y) (h y)
