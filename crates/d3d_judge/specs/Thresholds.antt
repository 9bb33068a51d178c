-- Covered pairs as sets and as thresholds: of the accesses of one own pair in one subresource, those before a place are covered
-- for a pair.
use Rattle.std.specs.Prelude.{ℕ, ◌<◌, ◌≤◌, ◌≡◌, nat_lt, max, List, [], ◌∷◌, Bool, cond, map, Option, ◌&&◌, ◌||◌}
use Rattle.std.specs.List.{list_any, flat_map}
use Rattle.dx_flags.specs.Kinds.{all_kinds}
use Rattle.dx_flags.specs.Parts.{all_parts, has_part}
use Rattle.dx_flags.specs.declared.atoms.Part.{Part}
use Rattle.enhanced_barriers.specs.declared.barriers.Barrier.{Barrier}
use Rattle.enhanced_barriers.specs.Cover.{after_has}
use Rattle.d3d_judge.specs.Commands.{Pair}
use Rattle.d3d_judge.specs.Scopes.{Opened, own_before, covered, concerns, added}

abbrev pub pairs_of_part : Part → List Pair
pairs_of_part p = map (λ k. record { part = p; kind = k }) all_kinds

-- all pairs
abbrev pub all_pairs : List Pair
all_pairs = flat_map pairs_of_part all_parts

-- the set has a pair whose part is in the sync before
abbrev pub set_reaches : Barrier → (Pair → Bool) → Bool
set_reaches b s = list_any (λ x. s x && has_part x.part b.sync_before) all_pairs

-- a set of pairs after a barrier that concerns the words, or does not; by the two cases
abbrev pub grown : Bool → Barrier → Option Pair → (Pair → Bool) → Pair → Bool
grown concerned b own s y = s y || ((concerned && (own_before b own || set_reaches b s)) && after_has b y.part y.kind)

-- the greatest threshold of the pairs whose part is in the sync before
abbrev pub most_met : Barrier → (Pair → ℕ) → List Pair → ℕ
most_met b t [] = 0
most_met b t (x ∷ xs) = max (cond (has_part x.part b.sync_before) (t x) 0) (most_met b t xs)

-- the accesses that a barrier at place l reaches are those before this place
abbrev pub reached_before : ℕ → Barrier → Option Pair → (Pair → ℕ) → ℕ
reached_before l b own t = cond (own_before b own) l (most_met b t all_pairs)

-- the thresholds after a barrier at place l
abbrev pub lifted : Bool → ℕ → Barrier → Option Pair → (Pair → ℕ) → Pair → ℕ
lifted concerned l b own t y = cond (concerned && after_has b y.part y.kind) (max (t y) (reached_before l b own t)) (t y)

-- the covered pairs of an access grow by the two cases
abbrev pub CoversGrow : Type 0
CoversGrow = (k : ℕ) (b : Barrier) (o : Opened) (y : Pair) →
    covered (added k b o) y ≡ grown (concerns b.scope o.range) b o.own (covered o) y

-- thresholds that tell the covered pairs of an access tell them after a barrier
abbrev pub ThresholdsTell : Type 0
ThresholdsTell = (concerned : Bool) (l k : ℕ) (b : Barrier) (own : Option Pair) (s : Pair → Bool) (t : Pair → ℕ) → k < l →
    ((y : Pair) → s y ≡ nat_lt k (t y)) → (y : Pair) → grown concerned b own s y ≡ nat_lt k (lifted concerned l b own t y)

-- and no access from the barrier on is covered by them yet
abbrev pub ThresholdsAreBehind : Type 0
ThresholdsAreBehind = (concerned : Bool) (l : ℕ) (b : Barrier) (own : Option Pair) (t : Pair → ℕ) → ((y : Pair) → t y ≤ l) →
    (y : Pair) → lifted concerned l b own t y ≤ l
