-- Thresholds of covered pairs, as the code keeps them.
use Rattle.std.specs.Prelude.{ℕ, ◌≡◌, ◌<◌, ◌≤◌, nat_lt, max}
use Rattle.dx_flags.specs.declared.atoms.Part.{Part}
use Rattle.dx_flags.specs.declared.atoms.Part.TheVariants as part
use Rattle.dx_flags.specs.declared.atoms.Kind.{Kind}
use Rattle.dx_flags.specs.declared.atoms.Kind.TheVariants as kind
use Rattle.enhanced_barriers.specs.declared.barriers.Barrier.{Barrier}
use Rattle.d3d_judge.specs.Commands.{Pair, Access}
use Rattle.d3d_judge.specs.Scopes.{Opened, covered, concerns, added, opened_of}
use Rattle.d3d_judge.specs.Thresholds.{lifted}
use Rattle.d3d_judge.specs.declared.cover_places.WorkPair.{WorkPair}
use Rattle.d3d_judge.specs.declared.cover_places.KindPlaces.{KindPlaces}
use Rattle.d3d_judge.specs.declared.cover_places.CoverPlaces.{CoverPlaces}

abbrev pub work_pair_of : WorkPair → Pair
work_pair_of p = record { part = p.part; kind = p.kind }

abbrev pub place_of_kind : KindPlaces → Kind → ℕ
place_of_kind p kind.UnorderedAccess = p.unordered_access
place_of_kind p kind.ShaderResource = p.shader_resource
place_of_kind p kind.ConstantBuffer = p.constant_buffer
place_of_kind p kind.CopySource = p.copy_source
place_of_kind p kind.CopyDest = p.copy_dest

abbrev pub places_of_part : CoverPlaces → Part → KindPlaces
places_of_part p part.Copy = p.copy
places_of_part p part.Compute = p.compute
places_of_part p part.Clear = p.clear

-- the threshold of a pair
abbrev pub place_of_pair : CoverPlaces → Pair → ℕ
place_of_pair p y = place_of_kind (places_of_part p y.part) y.kind

abbrev pub most_of : KindPlaces → ℕ
most_of p = max p.unordered_access (max p.shader_resource (max p.constant_buffer (max p.copy_source p.copy_dest)))

-- places that tell which pairs of an access are covered tell them after a barrier
abbrev pub PlacesTell : Type 0
PlacesTell = (k : ℕ) (b : Barrier) (o : Opened) (p q : CoverPlaces) → o.place < k → ((y : Pair) → covered o y ≡ nat_lt o.place (place_of_pair p y)) →
    ((y : Pair) → place_of_pair q y ≡ lifted (concerns b.scope o.range) k b o.own (place_of_pair p) y) → (y : Pair) →
    covered (added k b o) y ≡ nat_lt o.place (place_of_pair q y)

-- an access that is made now has no covered pair, as the places tell that are not behind it
abbrev pub PlacesTellFirst : Type 0
PlacesTellFirst = (k : ℕ) (part : Part) (a : Access) (p : CoverPlaces) → ((y : Pair) → place_of_pair p y ≤ k) → (y : Pair) →
    covered (opened_of k part a) y ≡ nat_lt k (place_of_pair p y)
